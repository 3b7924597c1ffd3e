-- What a worker knows after its turns. Words of private contracts.
use Rattle.std.specs.Prelude.{◌≡◌, ℕ}
use Rattle.std.specs.Option.{IsSomeAnd, option_map}
use Rattle.drain_meaning.specs.declared.op.FlowOp.{FlowOp}
use Rattle.drain_meaning.specs.Equations.{orient_of}
use Rattle.flow_task.specs.Works.{CanAccept, TileWork, accepted, marked}
use Rattle.task_board.specs.declared.ticket.Claim.{Claim}
use Rattle.task_board.specs.declared.ticket.Claim.TheVariants.{Got, Idle, Finished}
use Rattle.task_board.specs.declared.ticket.Ticket.{Ticket}
use Rattle.task_board.specs.declared.ticket.Waiting.{Waiting}
use Rattle.task_board.specs.declared.ticket.Waiting.TheVariants.{Took, Parked}
use Rattle.task_board.specs.Boards.{BoardValue, IsFinished}
use Rattle.task_board.specs.Tickets.{work_in}
use Rattle.tile_runtime.specs.inside.Knowledge.{HasFreeHands, IsAtWork}

module _ {K W : Type 0} (work_of : W → TileWork FlowOp) where
  -- the worker is at work on the ticket's task
  abbrev pub HasTicket : BoardValue → ℕ → Ticket K W → Type 0
  HasTicket b w ticket = (ticket.worker ≡ w) × IsAtWork b w ticket.task (work_in work_of ticket)

  -- after a claim
  abbrev pub HasClaimed : BoardValue → ℕ → Claim K W → Type 0
  HasClaimed b w (Got ticket) = HasTicket b w ticket
  HasClaimed b w (Idle holder task) = HasFreeHands b w
  HasClaimed b w Finished = HasFreeHands b w × IsFinished b

  -- after a message was sent: the worker is at work on the task with the edge marked
  abbrev pub HasSent : BoardValue → ℕ → Ticket K W → ℕ → Type 0
  HasSent b w ticket edge = (ticket.worker ≡ w) × IsAtWork b w ticket.task (option_map (λ k. marked k edge) (work_in work_of ticket))

  -- after a turn that takes or parks: at work with the message accepted, or with free hands
  abbrev pub HasTakenOrParked : BoardValue → ℕ → Ticket K W → Waiting K W → Type 0
  HasTakenOrParked b w ticket (Took same x) =
      (same ≡ ticket) × IsSomeAnd (work_in work_of ticket) (λ k. CanAccept (orient_of k.which) k.of x)
      × (ticket.worker ≡ w) × IsAtWork b w ticket.task (option_map (λ k. accepted k x) (work_in work_of ticket))
  HasTakenOrParked b w ticket Parked = HasFreeHands b w
