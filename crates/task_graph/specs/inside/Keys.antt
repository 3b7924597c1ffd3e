-- Numbers by which tasks and operations stand in order.
use Rattle.std.specs.Prelude.{ℕ, ◌+◌, ◌*◌, ◌≤◌, List, [], ◌∷◌, ⊤}
use Rattle.text_base.specs.Limits.{most_cells}
use Rattle.task_graph.specs.declared.layout.Laid.{Laid}
use Rattle.task_graph.specs.declared.task.Task.{Task}
use Rattle.task_graph.specs.Plans.{operation_code, rank}

-- the number by which an operation at a step stands among others
abbrev pub laid_code : Laid → ℕ
laid_code l = operation_code l.step l.number

-- the number by which a task stands among others
abbrev pub task_key : Task → ℕ
task_key t = (operation_code t.step t.operation * 8 + rank t.work) * most_cells + t.tile

-- the numbers of the items ascend from the first number on
abbrev pub Climbs : {X : Type 0} → (X → ℕ) → ℕ → List X → Type 0
Climbs f b [] = ⊤
Climbs f b (x ∷ xs) = (b ≤ f x) × Climbs f (f x + 1) xs
