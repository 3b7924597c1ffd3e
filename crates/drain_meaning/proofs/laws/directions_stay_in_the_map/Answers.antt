use Rattle.drain_meaning.proofs.MapLemmas.{next_inside}
use Rattle.drain_meaning.proofs.laws.directions_stay_in_the_map.Goals as goal

pub returns : goal.returns
returns c = next_inside
