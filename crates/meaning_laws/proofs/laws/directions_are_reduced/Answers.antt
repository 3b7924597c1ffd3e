-- By the laws of quotients.
use Rattle.meaning_laws.proofs.NumberLemmas.{reduced}
use Rattle.meaning_laws.proofs.laws.directions_are_reduced.Goals as goal

pub returns : goal.returns
returns c = reduced
