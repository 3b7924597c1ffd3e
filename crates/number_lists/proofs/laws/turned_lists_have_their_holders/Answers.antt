use Rattle.number_lists.proofs.HolderLemmas.{turned_are_turned}
use Rattle.number_lists.proofs.laws.turned_lists_have_their_holders.Goals as goal

pub returns : goal.returns
returns c = turned_are_turned
