-- What a worker knows of the board between its turns. Words of private contracts.
use Rattle.std.specs.Prelude.{◌≡◌, ◌⊎◌, ℕ, ◌≤◌, Bool, true, false, List, [], ◌∷◌, Option, Some}
use Rattle.core_model.specs.declared.step.Step.{Step}
use Rattle.drain_meaning.specs.declared.op.FlowOp.{FlowOp}
use Rattle.flow_task.specs.Works.{TileWork}
use Rattle.turn_cell.specs.declared.chronicle.Chronicle.{Ghosts}
use Rattle.turn_cell.specs.declared.cell.TurnCell.{TurnCell}
use Rattle.turn_cell.specs.declared.cell.TurnSeat.{TurnSeat}
use Rattle.turn_cell.specs.Seats.{IsSeatOf, authors_of, history_seen, plan_known}
use Rattle.plan_graph.specs.PlanGraphs.{IsPlan}
use Rattle.task_board.specs.declared.jobs.BoardPlan.{BoardPlan}
use Rattle.task_board.specs.Boards.{BoardValue, IsFinished, IsOfItsSpan, IsFree, IsLegal, state_of}
use Rattle.task_board.specs.Tickets.{IsGood}
use Rattle.tile_runtime.specs.declared.crew.Desk.{Desk}
use Rattle.tile_runtime.specs.Ends.{HasPutDown}

-- what stays of a board, as a desk has it
abbrev pub plan_at : Desk → BoardPlan
plan_at d = record { plan = d.plan.now; program = d.program.now; known = d.known.now; workers = d.workers }

-- a board of this plan with this history
abbrev pub board_with : BoardPlan → List Step → BoardValue
board_with p history =
    record { plan = p.plan; program = p.program; known = p.known; workers = p.workers; history = history }

-- a board on which nothing was done, as a desk has it
abbrev pub new_at : Desk → BoardValue
new_at d = board_with (plan_at d) []

-- what stays of a board
abbrev pub plan_of_board : BoardValue → BoardPlan
plan_of_board b = record { plan = b.plan; program = b.program; known = b.known; workers = b.workers }

-- the board as a seat has seen it last
abbrev pub board_seen : {C : Ghosts BoardValue BoardPlan Step} → BoardPlan → TurnSeat BoardValue BoardPlan Step C → BoardValue
board_seen p seat = board_with p (history_seen seat)

-- the plan is that of its span of the program, over what is known
pub record IsBoardPlan (p : BoardPlan) : Type 0 where
  pub plan : IsPlan p.plan
  pub of : IsOfItsSpan (board_with p [])

-- the seat of one worker, at the cell of a board of this plan
pub record IsWorkersSeat {C : Ghosts BoardValue BoardPlan Step} (cell : TurnCell BoardValue BoardPlan Step) (p : BoardPlan) (w : ℕ)
    (seat : TurnSeat BoardValue BoardPlan Step C) : Type 0 where
  pub of : IsSeatOf cell seat
  pub authors : authors_of seat ≡ w ∷ []
  pub plan : plan_known seat ≡ Some p
  pub number : w ≤ p.workers
  pub board : IsBoardPlan p

-- the worker holds no task, and has put none down
pub record HasFreeHands (b : BoardValue) (w : ℕ) : Type 0 where
  pub legal : IsLegal b
  pub free : IsFree b w
  pub can : (state_of b).has_put_down w ≡ false

-- the worker holds the task with this work, and has put none down
pub record IsAtWork (b : BoardValue) (w t : ℕ) (work : Option (TileWork FlowOp)) : Type 0 where
  pub legal : IsLegal b
  pub good : IsGood b w t work
  pub can : (state_of b).has_put_down w ≡ false

-- the worker ended: it holds no task, and all tasks are published or it has put one down
pub record HasEnded (b : BoardValue) (w : ℕ) : Type 0 where
  pub legal : IsLegal b
  pub free : IsFree b w
  pub why : IsFinished b ⊎ HasPutDown w b.history

-- whether a worker goes on, or has ended
abbrev pub GoesOnOrEnds : BoardValue → ℕ → Bool → Type 0
GoesOnOrEnds b w true = HasFreeHands b w
GoesOnOrEnds b w false = HasEnded b w
