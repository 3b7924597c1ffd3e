use Rattle.tile_map.proofs.RectLemmas.{holds_what_is_near}
use Rattle.tile_map.proofs.laws.grown_rectangles_hold_what_is_near.Goals as goal

pub returns : goal.returns
returns c = holds_what_is_near
