use Rattle.tile_map.proofs.PartLemmas.{marks_its_overs}
use Rattle.tile_map.proofs.laws.parts_mark_their_overs.Goals as goal

pub returns : goal.returns
returns c = marks_its_overs
