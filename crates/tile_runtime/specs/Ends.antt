-- Where the caller steps in.
use Rattle.std.specs.Prelude.{◌≡◌, ℕ, ◌≤◌, List}
use Rattle.core_model.specs.declared.step.Step.{Step}
use Rattle.core_model.specs.declared.step.Step.TheVariants.{PutDown}
use Rattle.core_model.specs.Graphs.{In}
use Rattle.core_model.specs.Steps.{worker_of}
use Rattle.task_board.specs.Boards.{BoardValue}

-- the worker has put a task down in this history
abbrev pub HasPutDown : ℕ → List Step → Type 0
HasPutDown w history = (t : ℕ) × In (PutDown w t) history

-- the caller, who is worker 0, has a step in the board's history only where each of its workers has put a task down there
abbrev pub CallerStepsInLast : BoardValue → Type 0
CallerStepsInLast b =
    (x : Step) → In x b.history → worker_of x ≡ 0 → (w : ℕ) → 1 ≤ w → w ≤ b.workers → HasPutDown w b.history
