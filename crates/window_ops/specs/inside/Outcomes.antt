-- Outcomes that are put one behind another, and what is folded over rows and columns.
use Rattle.std.specs.Prelude.{◌≡◌, ℕ, ◌+◌, zero, suc, List, Option}
use Rattle.cell_values.specs.declared.cell.Cell.{Cell}
use Rattle.tile_map.specs.Parts.{Outcome, first_over, or_missing, tabulate}

-- these are the cells and the first Over of so many outcomes
pub record AreOutcomes (outcome : ℕ → Outcome) (places : ℕ) (cells : List Cell) (over : Option ℕ) : Type 0 where
  pub cells_are : cells ≡ tabulate (λ place. or_missing (outcome place)) places
  pub over_is : over ≡ first_over outcome places

-- what an operation gives of n values in a row, from the value at a on
abbrev pub over : {A : Type 0} → (A → A → A) → A → (ℕ → A) → ℕ → ℕ → A
over op none f a zero = none
over op none f a (suc n) = op (over op none f a n) (f (a + n))

-- how many rows or columns a window has at most
abbrev pub longest_window : ℕ
longest_window = 31
