-- The tiles that a rectangle meets, as a value.
use Rattle.std.specs.Prelude.{ℕ, List, ◌+◌, ◌-◌, ◌/◌}
use Rattle.std.specs.Int.{div_ceil}
use Rattle.tile_map.specs.Rects.{places_of}
use Rattle.tile_map.specs.Tiles.{across}
use Rattle.tile_map.specs.declared.rect.Rect.{Rect}
use Rattle.tile_map.specs.declared.tiling.Tiling.{Tiling}

-- the tiles that a rectangle with cells meets, as a rectangle of tiles
unfoldable pub tiles_met : Tiling → Rect → Rect
tiles_met g r =
    let top = r.top / g.tile_rows in
    let left = r.left / g.tile_cols in
    record {
      top = top;
      left = left;
      rows = div_ceil (r.top + r.rows) g.tile_rows - top;
      cols = div_ceil (r.left + r.cols) g.tile_cols - left;
    }

-- the tiles that a rectangle with cells meets, in ascending order
abbrev pub tiles_of : Tiling → Rect → List ℕ
tiles_of g r = places_of (across g) (tiles_met g r)
