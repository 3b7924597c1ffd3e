-- What the crates above cite.

-- tickets from one turn to the next
pub use Rattle.task_board.proofs.TicketLemmas.{begun_good, stays_good}
pub use Rattle.task_board.proofs.GoingLemmas.{good_sent, good_taken}
-- works that have nothing to send, and works at their end
pub use Rattle.task_board.proofs.EndLemmas.{ends_or_waits, gives_tile}
