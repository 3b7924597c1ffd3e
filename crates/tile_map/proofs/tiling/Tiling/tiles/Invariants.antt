use Rattle.std.proofs.Common.{◌≡◌, map}
use Rattle.std.specs.List.{range_with_len}
use Rattle.tile_map.specs.Rects.{place_in}
use Rattle.tile_map.specs.Tiles.{across}
use Rattle.tile_map.specs.inside.Met.{tiles_met}
use Rattle.tile_map.proofs.tiling.Tiling.tiles.Given as goal

-- the tiles before
abbrev pub invariant-loop-number : goal.invariant-loop-number
invariant-loop-number l = l.tiles.items ≡ map (place_in (across l.self) (tiles_met l.self l.fn.rect)) (range_with_len 0 l.number)
