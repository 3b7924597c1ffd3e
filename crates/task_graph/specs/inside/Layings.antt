-- Operations in such an order that each reads earlier ones.
use Rattle.std.specs.Prelude.{ℕ, suc, ◌≡◌, ◌<◌, List, [], ◌∷◌, Some, ⊤}
use Rattle.task_graph.specs.declared.layout.Laid.{Laid}
use Rattle.task_graph.specs.declared.layout.Layout.{Layout}
use Rattle.task_graph.specs.Layouts.{maker_of}

-- the values that the operands of an operation name are made by operations before the i-th
pub record ReadsBefore (y : Layout) (i : ℕ) (l : Laid) : Type 0 where
  pub a : (place : ℕ) → maker_of y.span y.many l.step l.operation.a ≡ Some place → place < i
  pub b : (place : ℕ) → maker_of y.span y.many l.step l.operation.b ≡ Some place → place < i
  pub c : (place : ℕ) → maker_of y.span y.many l.step l.operation.c ≡ Some place → place < i
  pub d : (place : ℕ) → maker_of y.span y.many l.step l.operation.d ≡ Some place → place < i

-- so it is of each of these operations, which count from the i-th
abbrev pub AllReadBefore : Layout → ℕ → List Laid → Type 0
AllReadBefore y i [] = ⊤
AllReadBefore y i (l ∷ more) = ReadsBefore y i l × AllReadBefore y (suc i) more
