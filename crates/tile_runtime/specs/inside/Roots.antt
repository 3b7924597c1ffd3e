-- The seat that is split for the workers, and how they end. Words of private contracts.
use Rattle.std.specs.Prelude.{◌≡◌, ℕ, ◌+◌, ◌≤◌, List, [], ◌∷◌, Some}
use mathlib.Core.List.{IsPrefix}
use Rattle.core_model.specs.declared.step.Step.{Step}
use Rattle.core_model.specs.Steps.{worker_of}
use Rattle.turn_cell.specs.declared.chronicle.Chronicle.{Ghosts}
use Rattle.turn_cell.specs.declared.cell.TurnCell.{TurnCell}
use Rattle.turn_cell.specs.declared.cell.TurnSeat.{TurnSeat}
use Rattle.turn_cell.specs.Authors.{authors_below}
use Rattle.turn_cell.specs.Histories.{entries_by}
use Rattle.turn_cell.specs.Seats.{IsSeatOf, authors_of, plan_known}
use Rattle.task_board.specs.declared.jobs.BoardPlan.{BoardPlan}
use Rattle.task_board.specs.Boards.{BoardValue}
use Rattle.tile_runtime.specs.inside.Knowledge.{HasEnded, IsBoardPlan, board_with}

-- the seat of the caller, and of the workers from 1 to this number
pub record IsRootSeat {C : Ghosts BoardValue BoardPlan Step} (cell : TurnCell BoardValue BoardPlan Step) (p : BoardPlan) (count : ℕ)
    (seat : TurnSeat BoardValue BoardPlan Step C) : Type 0 where
  pub of : IsSeatOf cell seat
  pub authors : authors_of seat ≡ authors_below (count + 1)
  pub plan : plan_known seat ≡ Some p
  pub board : IsBoardPlan p

-- the worker ended in a beginning of the history, and has made no step since
pub record EndedIn (p : BoardPlan) (w : ℕ) (history : List Step) : Type 0 where
  pub seen : List Step
  pub begins : IsPrefix seen history
  pub own : entries_by worker_of (w ∷ []) history ≡ entries_by worker_of (w ∷ []) seen
  pub ended : HasEnded (board_with p seen) w

-- each worker from 1 to this number ended so, and the caller has made no step
pub record AllEnded (p : BoardPlan) (count : ℕ) (history : List Step) : Type 0 where
  pub each : (w : ℕ) → 1 ≤ w → w ≤ count → EndedIn p w history
  pub caller : entries_by worker_of (0 ∷ []) history ≡ []
