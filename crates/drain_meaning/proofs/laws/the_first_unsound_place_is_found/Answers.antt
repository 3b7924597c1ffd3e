use Rattle.drain_meaning.proofs.UnsoundLemmas.{first_unsound-found}
use Rattle.drain_meaning.proofs.laws.the_first_unsound_place_is_found.Goals as goal

pub returns : goal.returns
returns c = first_unsound-found
