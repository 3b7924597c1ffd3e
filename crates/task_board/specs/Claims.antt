-- What a claim and a take give.
use Rattle.std.specs.Prelude.{◌≡◌, ◌≢◌, ℕ, Option, None, Some}
use Rattle.std.specs.Option.{IsSomeAnd}
use Rattle.core_model.specs.declared.step.Step.TheVariants.{Claim as ClaimStep, Park as ParkStep, Take as TakeStep}
use Rattle.core_model.specs.Steps.{NoneWaits}
use Rattle.drain_meaning.specs.declared.op.FlowOp.{FlowOp}
use Rattle.drain_meaning.specs.Equations.{orient_of}
use Rattle.border_channel.specs.declared.edge.Message.{Message}
use Rattle.flow_task.specs.Works.{CanAccept, TileWork}
use Rattle.plan_graph.specs.PlanGraphs.{graph_of}
use Rattle.task_board.specs.declared.ticket.Claim.{Claim}
use Rattle.task_board.specs.declared.ticket.Claim.TheVariants.{Got, Idle, Finished}
use Rattle.task_board.specs.declared.ticket.Ticket.{Ticket}
use Rattle.task_board.specs.declared.ticket.Waiting.{Waiting}
use Rattle.task_board.specs.declared.ticket.Waiting.TheVariants.{Took, Parked}
use Rattle.task_board.specs.Boards.{BoardValue, HoldsTask, IsFinished, NoneClaimable, board_with_step, state_of}
use Rattle.task_board.specs.Messages.{StandsOn}
use Rattle.task_board.specs.Tickets.{IsGoodTicket, work_in}

-- a ticket: the worker has claimed its task, and the ticket is good; idle: no task can be claimed, and this other worker holds this
-- task; finished: all tasks are published
abbrev pub ClaimGives : {K W : Type 0} → (W → TileWork FlowOp) → BoardValue → ℕ → Claim K W → BoardValue → Type 0
ClaimGives work_of b w (Got ticket) c =
    (ticket.worker ≡ w) × (c ≡ board_with_step b (ClaimStep w ticket.task)) × IsGoodTicket work_of c ticket
ClaimGives work_of b w (Idle holder task) c = (c ≡ b) × NoneClaimable b × HoldsTask b holder task × (holder ≢ w)
ClaimGives work_of b w Finished c = (c ≡ b) × IsFinished b

-- no message waits for the task
abbrev pub NoMessageFor : BoardValue → ℕ → Type 0
NoMessageFor b t = NoneWaits (graph_of b.plan) (state_of b) t

-- a message: it was taken, stands for its edge, and the ticket's work can accept it; none: no message waits for the task
abbrev pub TakeGives : {K W : Type 0} → (W → TileWork FlowOp) → BoardValue → Ticket K W → Option Message → BoardValue → Type 0
TakeGives work_of b ticket None c = (c ≡ b) × NoMessageFor b ticket.task
TakeGives work_of b ticket (Some x) c =
    (c ≡ board_with_step b (TakeStep ticket.worker ticket.task x.edge)) × StandsOn b ticket.task x
    × IsSomeAnd (work_in work_of ticket) (λ w. CanAccept (orient_of w.which) w.of x)

-- a message was taken, and the ticket is handed back with it; or none waits, and the task was parked
abbrev pub WaitingGives : {K W : Type 0} → (W → TileWork FlowOp) → BoardValue → Ticket K W → Waiting K W → BoardValue → Type 0
WaitingGives work_of b ticket (Took same x) c = (same ≡ ticket) × TakeGives work_of b ticket (Some x) c
WaitingGives work_of b ticket Parked c =
    NoMessageFor b ticket.task × (c ≡ board_with_step b (ParkStep ticket.worker ticket.task))
