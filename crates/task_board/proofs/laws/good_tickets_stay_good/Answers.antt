use Rattle.task_board.proofs.TicketLemmas.{stays_good}
use Rattle.task_board.proofs.laws.good_tickets_stay_good.Goals as goal

pub returns : goal.returns
returns c = stays_good
