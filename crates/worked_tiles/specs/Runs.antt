-- A transport over one tile, as the tests hold it.
use Rattle.std.specs.Prelude.{◌≡◌, ℕ, ◌==◌, Bool, List, length, map, if◌then◌else◌}
use Rattle.std.specs.List.{filter, range_with_len}
use Rattle.tile_map.specs.Tiles.{tile_at}
use Rattle.tile_map.specs.declared.tiling.Tiling.{Tiling}
use Rattle.drain_meaning.specs.declared.op.FlowOp.{FlowOp}
use Rattle.drain_meaning.specs.Equations.{orient_of}
use Rattle.drain_meaning.specs.Sound.{IsDrain}
use Rattle.border_channel.specs.declared.edge.Edge.{Edge}
use Rattle.border_channel.specs.Edges.{HasSizeOf, border_edges_of, edge_at}
use Rattle.flow_task.specs.Works.{TileWork}

-- the end of an edge that is looked at
abbrev pub looked_end : Bool → Edge → ℕ
looked_end inward e = if inward then e.target else e.source

-- the numbers of the edges into a tile, or out of it, ascending
abbrev pub edges_of_tile : Bool → Tiling → ℕ → List Edge → List ℕ
edges_of_tile inward g tile edges = filter (λ e. tile_at g (looked_end inward (edge_at edges e)) == tile) (range_with_len 0 (length edges))

-- the work is one over this tile, with these edges, which are all border edges, and took the messages of these
pub record IsTileRun (w : TileWork FlowOp) (edges : List Edge) (g : Tiling) (tile : ℕ) (taken : List ℕ) : Type 0 where
  pub edges_are : w.of.edges ≡ edges
  pub all_edges : edges ≡ border_edges_of w.of.drain g (orient_of w.which)
  pub drain : IsDrain w.of.drain
  pub size : HasSizeOf w.of.drain g
  pub tiling_is : w.of.tiling ≡ g
  pub tile_is : w.of.tile ≡ tile
  pub taken_are : taken ≡ map (λ x. x.edge) w.of.taken
