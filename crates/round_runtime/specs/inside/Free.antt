-- Workers that hold nothing, and rounds that make a step. Words of private contracts.
use Rattle.std.specs.Prelude.{◌≡◌, ℕ, ◌<◌, ◌≤◌, List, length}
use Rattle.core_model.specs.declared.step.Step.{Step}
use Rattle.core_model.specs.Graphs.{Each}
use Rattle.core_model.specs.Steps.{worker_of}
use Rattle.task_board.specs.Boards.{BoardValue, IsFinished, IsFree, NobodyHolds}
use Rattle.task_board.specs.Tickets.{board_with_steps}

-- the workers from 1 to this one hold no task
abbrev pub AreFree : BoardValue → ℕ → Type 0
AreFree b last = (w : ℕ) → 1 ≤ w → w ≤ last → IsFree b w

-- the second board is the first with some steps of one worker more, who holds no task then
pub record FreesItself (w : ℕ) (b c : BoardValue) : Type 0 where
  pub more : List Step
  pub is : c ≡ board_with_steps b more
  pub own : Each (λ x. worker_of x ≡ w) more
  pub free : IsFree c w

-- where nobody held a task and not all were published, steps were made, if there is a worker
abbrev pub Moves : ℕ → BoardValue → BoardValue → Type 0
Moves last b c = NobodyHolds b → (IsFinished b → ⊥) → 1 ≤ last → length b.history < length c.history
