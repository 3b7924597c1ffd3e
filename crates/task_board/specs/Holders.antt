-- What a holder does with its task before it lets go of it.
use Rattle.std.specs.Prelude.{◌≡◌, ℕ, List}
use Rattle.std.specs.Option.{IsSome}
use Rattle.core_model.specs.declared.step.Step.{Step}
use Rattle.core_model.specs.Graphs.{Each}
use Rattle.core_model.specs.Steps.{worker_of}
use Rattle.drain_meaning.specs.declared.op.FlowOp.{FlowOp}
use Rattle.flow_task.specs.Works.{TileWork}
use Rattle.task_board.specs.declared.ticket.Ticket.{Ticket}
use Rattle.task_board.specs.Boards.{BoardValue, state_of}
use Rattle.task_board.specs.Tickets.{IsGoodTicket, board_with_steps}

-- The second board is the first with some steps more, each of this worker, after which each task stands where it did, and who had put
-- none down has put none down.
pub record IsWorkedOn (w : ℕ) (b c : BoardValue) : Type 0 where
  pub more : List Step
  pub is : c ≡ board_with_steps b more
  pub own : Each (λ x. worker_of x ≡ w) more
  pub status : (state_of c).status ≡ (state_of b).status
  pub puts : (state_of c).has_put_down ≡ (state_of b).has_put_down

-- the board was worked on by a task's holder, whose ticket is good and has a work
pub record GoesOn {K W : Type 0} (work_of : W → TileWork FlowOp) (b c : BoardValue) (ticket next : Ticket K W) : Type 0 where
  pub worked : IsWorkedOn ticket.worker b c
  pub worker : next.worker ≡ ticket.worker
  pub task : next.task ≡ ticket.task
  pub good : IsGoodTicket work_of c next
  pub begun : IsSome next.work
