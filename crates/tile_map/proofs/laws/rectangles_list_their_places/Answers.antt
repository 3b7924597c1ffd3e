use Rattle.tile_map.proofs.RectLemmas.{lists_its_places}
use Rattle.tile_map.proofs.laws.rectangles_list_their_places.Goals as goal

pub returns : goal.returns
returns c = lists_its_places
