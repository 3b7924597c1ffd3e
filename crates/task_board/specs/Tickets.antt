-- Tickets that are good for a board.
use Rattle.std.specs.Prelude.{◌≡◌, ℕ, true, List, [], ◌++◌, map, Option, None, Some}
use Rattle.std.specs.Option.{IsSomeAnd, option_map}
use Rattle.core_model.specs.declared.step.Step.{Step}
use Rattle.core_model.specs.Steps.{IsByOthers}
use Rattle.core_model.specs.TaskHistories.{sent_edges, taken_edges}
use Rattle.drain_meaning.specs.declared.op.FlowOp.{FlowOp}
use Rattle.border_channel.specs.declared.edge.Message.{Message}
use Rattle.flow_task.specs.Works.{TileWork}
use Rattle.plan_graph.specs.PlanGraphs.{IsPlan, graph_of}
use Rattle.task_tiles.specs.FlowTiles.{IsFlowUnderway}
use Rattle.task_board.specs.declared.ticket.Ticket.{Ticket}
use Rattle.task_board.specs.Boards.{BoardValue, HoldsTask, IsLegal}
use Rattle.task_board.specs.Messages.{IsAtItsEnd}

-- The work is that of the task's transport over its tile, and holds exactly what the history says: it began with the cells of the
-- operands in the tile, has taken the messages of the edges that the history takes for the task, in their order, each of which stands for
-- its edge, and has sent the edges that the history sends for it, in their order.
pub record IsTaskWork (b : BoardValue) (t : ℕ) (w : TileWork FlowOp) : Type 0 where
  pub flow : (graph_of b.plan).is_flow t ≡ true
  pub underway : IsFlowUnderway b.plan.plan b.plan.span b.program b.known t w
  pub taken : map (λ (x : Message). x.edge) w.of.taken ≡ taken_edges t b.history
  pub sent : w.sent ≡ sent_edges t b.history

-- the task has its work; it may have none only where the history takes and sends nothing for it
abbrev pub HasItsWork : BoardValue → ℕ → Option (TileWork FlowOp) → Type 0
HasItsWork b t None = (taken_edges t b.history ≡ []) × (sent_edges t b.history ≡ [])
HasItsWork b t (Some w) = IsTaskWork b t w

-- good for a board: the worker holds the task, and the work, if there is one, is the task's
pub record IsGood (b : BoardValue) (w t : ℕ) (work : Option (TileWork FlowOp)) : Type 0 where
  pub holds : HoldsTask b w t
  pub has : HasItsWork b t work

-- the work of a ticket
abbrev pub work_in : {K W : Type 0} → (W → TileWork FlowOp) → Ticket K W → Option (TileWork FlowOp)
work_in work_of ticket = option_map work_of ticket.work

-- the ticket is good for the board
abbrev pub IsGoodTicket : {K W : Type 0} → (W → TileWork FlowOp) → BoardValue → Ticket K W → Type 0
IsGoodTicket work_of b ticket = IsGood b ticket.worker ticket.task (work_in work_of ticket)

-- the task is no transport's, or its work is there and at its end
abbrev pub IsDone : BoardValue → ℕ → Option (TileWork FlowOp) → Type 0
IsDone b t work = (graph_of b.plan).is_flow t ≡ true → IsSomeAnd work IsAtItsEnd

-- the board with some steps more
abbrev pub board_with_steps : BoardValue → List Step → BoardValue
board_with_steps b more = record b { history = b.history ++ more }

-- what is good for a board stays good whatever others do
abbrev pub StaysGood : Type 0
StaysGood =
    (b : BoardValue) (more : List Step) (w t : ℕ) (work : Option (TileWork FlowOp)) →
    IsPlan b.plan → IsLegal (board_with_steps b more) → IsByOthers w more → IsGood b w t work → IsGood (board_with_steps b more) w t work
