use Rattle.std.proofs.Common.{◌≡◌, ◌<◌, ℕ, [], length, get_or}
use Rattle.tile_map.specs.Rects.{cell_count}
use Rattle.tile_map.specs.Tiles.{rect_of}
use Rattle.timed_calls.proofs.tiles.all_tiles.Given as goal

-- the tiles before, each with its cells
abbrev pub invariant-loop-tile : goal.invariant-loop-tile
invariant-loop-tile l = record {
  all : length l.tiles.items ≡ l.tile;
  whole : (tile : ℕ) → tile < l.tile → length (get_or l.tiles.items tile []) ≡ cell_count (rect_of l.tiling tile);
}
