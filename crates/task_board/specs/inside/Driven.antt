-- A board on which a holder goes on with its task. Words of private contracts.
use Rattle.std.specs.Prelude.{◌≡◌, ◌⊎◌, ℕ, ◌<◌, length, None}
use Rattle.std.specs.Option.{IsSomeAnd}
use Rattle.core_model.specs.declared.step.Step.{Step}
use Rattle.core_model.specs.declared.step.Step.TheVariants.{Park, Publish}
use Rattle.core_model.specs.Steps.{worker_of}
use Rattle.drain_meaning.specs.declared.op.FlowOp.{FlowOp}
use Rattle.drain_meaning.specs.Equations.{orient_of}
use Rattle.border_channel.specs.Outbound.{next_due}
use Rattle.flow_task.specs.Works.{TileWork}
use Rattle.task_board.specs.declared.ticket.Ticket.{Ticket}
use Rattle.task_board.specs.Boards.{BoardValue, board_with_step}
use Rattle.task_board.specs.Tickets.{work_in}
use Rattle.task_board.specs.Holders.{GoesOn, IsWorkedOn}

-- the board was worked on, and then this step was made
pub record EndsBy (b c : BoardValue) (x : Step) : Type 0 where
  pub last : BoardValue
  pub worked : IsWorkedOn (worker_of x) b last
  pub is : c ≡ board_with_step last x

-- the board was worked on, and then the task was published, or parked
abbrev pub EndsWell : BoardValue → BoardValue → ℕ → ℕ → Type 0
EndsWell b c w t = EndsBy b c (Publish w t) ⊎ EndsBy b c (Park w t)

-- and it made a step
abbrev pub MakesStep : {K W : Type 0} → (W → TileWork FlowOp) → BoardValue → BoardValue → Ticket K W → Ticket K W → Type 0
MakesStep work_of b c ticket next = GoesOn work_of b c ticket next × (length b.history < length c.history)

-- the board and the ticket are the same
abbrev pub StaysSo : {K W : Type 0} → BoardValue → BoardValue → Ticket K W → Ticket K W → Type 0
StaysSo b c ticket next = (c ≡ b) × (next ≡ ticket)

-- the work of the ticket has nothing to send
abbrev pub SendsNone : {K W : Type 0} → (W → TileWork FlowOp) → Ticket K W → Type 0
SendsNone work_of ticket = IsSomeAnd (work_in work_of ticket) (λ w. next_due (orient_of w.which) w.of w.sent ≡ None)
