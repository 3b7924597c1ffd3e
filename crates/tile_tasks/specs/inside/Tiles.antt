-- Tiles that are handed in, and what they stand for.
use Rattle.std.specs.Prelude.{◌≡◌, ◌<◌, ◌≤◌, ◌+◌, ℕ, List, [], length, map, slice_index_or, None}
use Rattle.cell_values.specs.declared.cell.Cell.{Cell}
use Rattle.tile_map.specs.Rects.{places_of}
use Rattle.tile_map.specs.Tiles.{rect_of}
use Rattle.tile_map.specs.declared.rect.Rect.{Rect}
use Rattle.tile_map.specs.declared.tiling.Tiling.{Tiling}
use Rattle.region_meaning.specs.declared.area.AreaOp.{AreaOp}
use Rattle.region_meaning.specs.Areas.{AreaPlace}
use Rattle.area_ops.specs.Partials.{StandsFor}
use Rattle.map_meaning.specs.Maps.{CellAt}
use Rattle.task_tiles.specs.declared.tile.Tile.{Tile}
use Rattle.task_tiles.specs.declared.tile.Tile.TheVariants.{Part, Partial}

-- the cells of a map at the places of a rectangle
abbrev pub cells_in : ℕ → Rect → CellAt → List Cell
cells_in cols r f = map f (places_of cols r)

-- the cells of a tile; a partial has none
abbrev pub part_cells : Tile → List Cell
part_cells (Part p) = p.cells
part_cells (Partial v) = []

-- the tile is one of a map
abbrev pub IsMapTile : Tile → Type 0
IsMapTile (Part p) = Unit {0}
IsMapTile (Partial v) = ⊥

-- the tile is a map's cut
pub record IsCutTile (cols : ℕ) (r : Rect) (f : CellAt) (t : Tile) : Type 0 where
  pub part : IsMapTile t
  pub cells : part_cells t ≡ cells_in cols r f

-- the tile is a partial of these places, for this operation
abbrev pub IsPartialFor : AreaOp → List AreaPlace → Tile → Type 0
IsPartialFor a places (Part p) = ⊥
IsPartialFor a places (Partial v) = (v.op ≡ a) × StandsFor v places

-- the tile with a number among those that are handed in
abbrev pub tile_handed : List Tile → ℕ → Tile
tile_handed ts i = slice_index_or ts i (Part (record { cells = []; over = None }))

-- the tiles with these numbers of a map stand in the list from a place on
pub record StandFrom (g : Tiling) (f : CellAt) (numbers : List ℕ) (start : ℕ) (ts : List Tile) : Type 0 where
  pub within : start + length numbers ≤ length ts
  pub each : (i : ℕ) → i < length numbers → IsCutTile g.cols (rect_of g (slice_index_or numbers i 0)) f (tile_handed ts (start + i))

-- there is such a map
abbrev pub SomeMap : (CellAt → Type 0) → Type 0
SomeMap P = (f : CellAt) × P f
