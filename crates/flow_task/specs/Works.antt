-- A transport over one tile, as a value: by which rule or operation it is, what it was begun with and which messages were taken,
-- and which edges were sent.
use Rattle.std.specs.Prelude.{◌≡◌, ◌≢◌, ℕ, ◌<◌, true, List, [], ◌∷◌, ◌++◌, length}
use Rattle.std.specs.List.{Contains}
use Rattle.cell_values.specs.declared.cell.Cell.{Cell}
use Rattle.cell_values.specs.declared.kind.Kind.{Kind}
use Rattle.cell_values.specs.declared.kind.Kind.TheVariants.{Scalar}
use Rattle.cell_values.specs.Kinds.{IsCell}
use Rattle.tile_map.specs.Cuts.{cell_at}
use Rattle.tile_map.specs.Rects.{cell_count}
use Rattle.tile_map.specs.Tiles.{rect_of, tile_count}
use Rattle.tile_map.specs.declared.tiling.Tiling.{Tiling}
use Rattle.drain_meaning.specs.declared.op.Orient.{Orient}
use Rattle.drain_meaning.specs.Drains.{DrainMap}
use Rattle.drain_meaning.specs.Flows.{FlowFits}
use Rattle.border_channel.specs.declared.edge.Edge.{Edge}
use Rattle.border_channel.specs.declared.edge.Message.{Message}
use Rattle.border_channel.specs.Edges.{HasSizeOf, border_edges_of, edge_at}
use Rattle.border_channel.specs.Loads.{load_of}
use Rattle.border_channel.specs.Own.{edges_into, edges_out_of}
use Rattle.border_channel.specs.TileFlows.{TileFlow, in_tile, with_taken}

-- by which rule or operation it is, what the tile's cells stand on, and the edges that were sent, in their order
pub record TileWork (X : Type 0) : Type 0 where
  pub which : X
  pub of : TileFlow
  pub sent : List ℕ

-- such a work
abbrev pub tile_work : {X : Type 0} → X → TileFlow → List ℕ → TileWork X
tile_work which of sent = record { which = which; of = of; sent = sent }

-- the work after one more message was accepted
abbrev pub accepted : {X : Type 0} → TileWork X → Message → TileWork X
accepted w x = tile_work w.which (with_taken w.of (w.of.taken ++ x ∷ [])) w.sent

-- the work after one more edge was marked as sent
abbrev pub marked : {X : Type 0} → TileWork X → ℕ → TileWork X
marked w e = tile_work w.which w.of (w.sent ++ e ∷ [])

-- a transport over a tile can begin with these: all border edges, those of the tile by their numbers, and operands for its cells
pub record CanBegin (o : Orient) (m : DrainMap) (g : Tiling) (tile : ℕ) (edges : List Edge) (into out : List ℕ)
    (a b : List Cell) : Type 0 where
  pub size : HasSizeOf m g
  pub tile_in : tile < tile_count g
  pub edges_are : edges ≡ border_edges_of m g o
  pub into_are : into ≡ edges_into g tile edges
  pub out_are : out ≡ edges_out_of g tile edges
  pub a_many : length a ≡ cell_count (rect_of g tile)
  pub b_many : length b ≡ cell_count (rect_of g tile)
  pub a_range : (i : ℕ) → IsCell Scalar (cell_at a i)
  pub b_range : (i : ℕ) → IsCell Scalar (cell_at b i)

-- what the tile's cells stand on where it begins
abbrev pub flow_begun : Kind → DrainMap → Tiling → ℕ → List Edge → List Cell → List Cell → TileFlow
flow_begun kind m g tile edges a b = record { kind = kind; drain = m; tiling = g; tile = tile; edges = edges; a = a; b = b; taken = [] }

-- a message can be accepted: it is for an edge into the tile that was not accepted before, and fits the load of its source
pub record CanAccept (o : Orient) (w : TileFlow) (x : Message) : Type 0 where
  pub within : x.edge < length w.edges
  pub into : in_tile w (edge_at w.edges x.edge).target ≡ true
  pub first : (y : Message) → Contains w.taken y → y.edge ≢ x.edge
  pub fits : FlowFits x.flow (load_of o w.drain (edge_at w.edges x.edge).source)
