use Rattle.tile_map.proofs.MetLemmas.{lists_tiles_met}
use Rattle.tile_map.proofs.laws.listed_tiles_are_those_met.Goals as goal

pub returns : goal.returns
returns c = lists_tiles_met
