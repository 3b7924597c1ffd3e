use Rattle.tile_map.proofs.PasteLemmas.{pastes_the_map}
use Rattle.tile_map.proofs.laws.pasted_cuts_are_the_map.Goals as goal

pub returns : goal.returns
returns c = pastes_the_map
