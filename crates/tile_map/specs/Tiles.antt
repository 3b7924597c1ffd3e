-- Tiles, which are numbered in row-major order.
use Rattle.std.specs.Prelude.{ℕ, ◌<◌, ◌+◌, ◌-◌, ◌*◌, ◌/◌, ◌%◌, min}
use Rattle.std.specs.Int.{div_ceil}
use Rattle.tile_map.specs.Rects.{HoldsPlace}
use Rattle.tile_map.specs.declared.rect.Rect.{Rect}
use Rattle.tile_map.specs.declared.tiling.Tiling.{Tiling}

-- how many tiles stand side by side
unfoldable pub across : Tiling → ℕ
across g = div_ceil g.cols g.tile_cols

-- how many rows of tiles there are
unfoldable pub down : Tiling → ℕ
down g = div_ceil g.rows g.tile_rows

-- how many tiles there are
abbrev pub tile_count : Tiling → ℕ
tile_count g = down g * across g

-- the rectangle of the tile in this row and column of tiles; those at the end may be smaller
abbrev pub rect_at : Tiling → ℕ → ℕ → Rect
rect_at g row col =
    let top = row * g.tile_rows in
    let left = col * g.tile_cols in
    record { top = top; left = left; rows = min g.tile_rows (g.rows - top); cols = min g.tile_cols (g.cols - left) }

-- the rectangle of a tile
unfoldable pub rect_of : Tiling → ℕ → Rect
rect_of g tile = rect_at g (tile / across g) (tile % across g)

-- the tile of a place
unfoldable pub tile_at : Tiling → ℕ → ℕ
tile_at g place = place / g.cols / g.tile_rows * across g + place % g.cols / g.tile_cols

-- the tile and the rectangle have a place in common
pub record Intersects (g : Tiling) (r : Rect) (tile : ℕ) : Type 0 where
  pub place : ℕ
  pub in_rect : HoldsPlace g.cols r place
  pub in_tile : HoldsPlace g.cols (rect_of g tile) place

-- it is so of each tile that has a place in common with the rectangle
abbrev pub EachMet : Tiling → Rect → (ℕ → Type 0) → Type 0
EachMet g r P = (tile : ℕ) → tile < tile_count g → Intersects g r tile → P tile
