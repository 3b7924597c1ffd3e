use Rattle.tile_map.proofs.CutLemmas.{gathers_the_cut}
use Rattle.tile_map.proofs.laws.gathered_cuts_are_cuts.Goals as goal

pub returns : goal.returns
returns c = gathers_the_cut
