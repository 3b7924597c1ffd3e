-- What is added to a board.
use Rattle.std.specs.Prelude.{◌≡◌, ℕ, ◌≤◌, List}
use Rattle.core_model.specs.declared.step.Step.{Step}
use Rattle.core_model.specs.Graphs.{Each}
use Rattle.core_model.specs.Steps.{worker_of}
use Rattle.task_board.specs.Boards.{BoardValue}
use Rattle.task_board.specs.Tickets.{board_with_steps}

-- the second board is the first with some steps more, each made by one of the workers from 1 to the last
pub record GrowsByWorkers (last : ℕ) (b c : BoardValue) : Type 0 where
  pub more : List Step
  pub is : c ≡ board_with_steps b more
  pub by : Each (λ x. (1 ≤ worker_of x) × (worker_of x ≤ last)) more
