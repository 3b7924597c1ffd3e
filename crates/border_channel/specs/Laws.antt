-- What holds of all border edges and of transports over tiles.
use Rattle.std.specs.Prelude.{◌≡◌, ℕ, ◌+◌, ◌<◌, ◌≤◌, true, map}
use Rattle.std.specs.List.{Contains}
use Rattle.text_base.specs.Limits.{most_cells}
use Rattle.cell_values.specs.declared.cell.Cell.{Cell}
use Rattle.cell_values.specs.declared.kind.Kind.TheVariants.{Scalar}
use Rattle.cell_values.specs.Kinds.{IsCell}
use Rattle.tile_map.specs.Parts.{part_of}
use Rattle.tile_map.specs.Rects.{cell_count, place_in, places_of}
use Rattle.tile_map.specs.Tiles.{tile_count}
use Rattle.tile_map.specs.declared.tiling.Tiling.{Tiling}
use Rattle.drain_meaning.specs.declared.op.Orient.{Orient}
use Rattle.drain_meaning.specs.Drains.{DrainMap}
use Rattle.drain_meaning.specs.Flows.{FlowFits}
use Rattle.drain_meaning.specs.Paths.{IsDirected}
use Rattle.drain_meaning.specs.Sound.{IsDrain}
use Rattle.drain_meaning.specs.Transports.{Transport, end_of, feeders, transport_outcome}
use Rattle.border_channel.specs.declared.edge.Message.{Message}
use Rattle.border_channel.specs.Edges.{AreBorderEdges, HasSizeOf, border_edges_of, edge_at}
use Rattle.border_channel.specs.Loads.{load_of, load_together}
use Rattle.border_channel.specs.Locals.{AreLocalEnds, local_end, local_part}
use Rattle.border_channel.specs.Settled.{AreSettledCells, all_settled, is_settled}
use Rattle.border_channel.specs.TileFlows.{TileFlow, in_tile, tile_rect}

-- just the border edges are listed, each once and in their order
abbrev pub ListBorderEdges : Type 0
ListBorderEdges = (m : DrainMap) (g : Tiling) (o : Orient) → IsDrain m → HasSizeOf m g → AreBorderEdges m g o (border_edges_of m g o)

-- a cell has one more load than all that feed it together, and none has more than the cells of a map
abbrev pub LoadsAddUp : Type 0
LoadsAddUp =
    (o : Orient) (m : DrainMap) (c : ℕ) → IsDrain m → IsDirected m c →
    (load_of o m c ≡ load_together o m (feeders o m c) + 1) × (load_of o m c ≤ most_cells)

-- the tile is one of the drain map's
pub record IsTileOf (w : TileFlow) : Type 0 where
  pub drain : IsDrain w.drain
  pub size : HasSizeOf w.drain w.tiling
  pub tile : w.tile < tile_count w.tiling

-- the settled cells are the least closed set
abbrev pub SettledAreLeast : Type 0
SettledAreLeast = (o : Orient) (w : TileFlow) → IsTileOf w → AreSettledCells o w (is_settled o w)

-- the local ends of a tile meet its equation
abbrev pub MeetLocalEquation : Type 0
MeetLocalEquation = (t : Transport) (w : TileFlow) → IsDrain w.drain → AreLocalEnds t w (local_end t w)

-- ---- what stands for the whole map

-- The work stands for operands of the whole map: its own are their cells in the tile, and each message that was taken is what
-- flows out of its edge's source on the whole map.
pub record StandsForWhole (t : Transport) (w : TileFlow) (a b : ℕ → Cell) : Type 0 where
  pub a_cut : w.a ≡ map a (places_of w.tiling.cols (tile_rect w))
  pub b_cut : w.b ≡ map b (places_of w.tiling.cols (tile_rect w))
  pub messages : (x : Message) → Contains w.taken x → x.flow ≡ (end_of t w.drain a b (edge_at w.edges x.edge).source).out

-- a settled cell has the end that it has on the whole map
abbrev pub SettledAreRight : Type 0
SettledAreRight =
    (t : Transport) (w : TileFlow) (a b : ℕ → Cell) → IsTileOf w → StandsForWhole t w a b →
    (c : ℕ) → in_tile w c ≡ true → IsDirected w.drain c → is_settled t.orient w c ≡ true → local_end t w c ≡ end_of t w.drain a b c

-- where all cells are settled the part of the tile is that of the whole map's values in it
abbrev pub PartsAreRight : Type 0
PartsAreRight =
    (t : Transport) (w : TileFlow) (a b : ℕ → Cell) → IsTileOf w → StandsForWhole t w a b → all_settled t.orient w ≡ true →
    local_part t w ≡
    part_of (λ i. transport_outcome t w.kind w.drain a b (place_in w.tiling.cols (tile_rect w) i)) (cell_count (tile_rect w))

-- what flows out of a cell on the whole map fits its load
abbrev pub FlowsFitLoads : Transport → Type 0
FlowsFitLoads t =
    (m : DrainMap) (a b : ℕ → Cell) → IsDrain m → ((c : ℕ) → IsCell Scalar (a c)) → ((c : ℕ) → IsCell Scalar (b c)) →
    (c : ℕ) → IsDirected m c → FlowFits (end_of t m a b c).out (load_of t.orient m c)
