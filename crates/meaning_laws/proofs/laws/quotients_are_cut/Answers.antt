-- By the laws of quotients.
use Rattle.meaning_laws.proofs.NumberLemmas.{quotient_is_cut}
use Rattle.meaning_laws.proofs.laws.quotients_are_cut.Goals as goal

pub returns : goal.returns
returns c = quotient_is_cut
