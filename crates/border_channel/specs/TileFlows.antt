-- A transport over one tile: what it was begun with, and what has happened since.
use Rattle.std.specs.Prelude.{ℕ, Bool, ◌&&◌, ◌==◌, List, [], ◌∷◌, Option, Some, None, if◌then◌else◌}
use Rattle.cell_values.specs.declared.cell.Cell.{Cell}
use Rattle.cell_values.specs.declared.kind.Kind.{Kind}
use Rattle.tile_map.specs.declared.rect.Rect.{Rect}
use Rattle.tile_map.specs.declared.tiling.Tiling.{Tiling}
use Rattle.tile_map.specs.Cuts.{cell_at}
use Rattle.tile_map.specs.Rects.{number_in}
use Rattle.tile_map.specs.Tiles.{rect_of, tile_at}
use Rattle.drain_meaning.specs.declared.flow.Flow.{Flow}
use Rattle.drain_meaning.specs.Drains.{DrainMap}
use Rattle.border_channel.specs.declared.edge.Edge.{Edge}
use Rattle.border_channel.specs.declared.edge.Message.{Message}
use Rattle.border_channel.specs.Edges.{edge_at}

-- The kind of the results, the drain map, its tiling, the tile, all border edges of the operation, the cells of the two
-- operands in the tile, and the messages that were taken, in their order.
pub record TileFlow : Type 0 where
  pub kind : Kind
  pub drain : DrainMap
  pub tiling : Tiling
  pub tile : ℕ
  pub edges : List Edge
  pub a : List Cell
  pub b : List Cell
  pub taken : List Message

-- the tile's rectangle
abbrev pub tile_rect : TileFlow → Rect
tile_rect w = rect_of w.tiling w.tile

-- a cell lies in the tile
abbrev pub in_tile : TileFlow → ℕ → Bool
in_tile w c = tile_at w.tiling c == w.tile

-- an edge leaves u for c
abbrev pub joins : ℕ → ℕ → Edge → Bool
joins u c e = (e.source == u) && (e.target == c)

-- what was brought over the edge from u into c, if a message for it was taken
abbrev pub brought : List Edge → List Message → ℕ → ℕ → Option Flow
brought edges [] u c = None
brought edges (x ∷ taken) u c = if joins u c (edge_at edges x.edge) then Some x.flow else brought edges taken u c

-- what was brought from u into a cell of the tile
abbrev pub came_over : TileFlow → ℕ → ℕ → Option Flow
came_over w u c = brought w.edges w.taken u c

-- the cell of an operand at a place of the tile
abbrev pub operand_in : TileFlow → List Cell → ℕ → Cell
operand_in w cells c = cell_at cells (number_in w.tiling.cols (tile_rect w) c)

-- the work after one more message
abbrev pub with_taken : TileFlow → List Message → TileFlow
with_taken w taken = record w { taken = taken }
