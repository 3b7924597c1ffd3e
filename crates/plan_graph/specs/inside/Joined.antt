-- What is kept of the border edges of a transport, by tiles and by the pairs of tiles that they join.
use Rattle.std.specs.Prelude.{◌≡◌, ℕ, ◌*◌, ◌%◌, ◌<◌, ◌==◌, List, get_or, length, map, take}
use Rattle.std.specs.List.{position_or_len, range_with_len}
use Rattle.number_lists.specs.Turned.{times}
use Rattle.tile_map.specs.declared.tiling.Tiling.{Tiling}
use Rattle.tile_map.specs.Tiles.{tile_at, tile_count}
use Rattle.border_channel.specs.declared.edge.Edge.{Edge}
use Rattle.border_channel.specs.Edges.{edge_at}
use Rattle.border_channel.specs.Own.{edges_into, edges_out_of}
use Rattle.plan_graph.specs.Joints.{joint_of, joints_of, pair_of}
use Rattle.plan_graph.specs.declared.joints.Joints.{Joints}
use Rattle.plan_graph.specs.inside.Places.{places_by_number}

-- the ends of all edges are places of the map
pub record EdgesAreWithin (g : Tiling) (edges : List Edge) : Type 0 where
  pub sources : (e : ℕ) → e < length edges → (edge_at edges e).source < g.rows * g.cols
  pub targets : (e : ℕ) → e < length edges → (edge_at edges e).target < g.rows * g.cols

-- by edge, the tile that it leaves
abbrev pub source_tiles : Tiling → List Edge → List ℕ
source_tiles g edges = map (λ e. tile_at g e.source) edges

-- by edge, the tile that it leads into
abbrev pub target_tiles : Tiling → List Edge → List ℕ
target_tiles g edges = map (λ e. tile_at g e.target) edges

-- the place of a number in a list
abbrev pub number_place : List ℕ → ℕ → ℕ
number_place list n = position_or_len (λ p. p == n) list

-- by edge, the number of its joint
abbrev pub edge_joints : Tiling → List Edge → List ℕ
edge_joints g edges = map (λ e. joint_of g edges (pair_of g e)) edges

-- by joint, the tile that it leads into
abbrev pub joint_tiles : Tiling → List Edge → List ℕ
joint_tiles g edges = map (λ p. p % tile_count g) (joints_of g edges)

-- How often each number below the count stands among the first of a list is counted.
pub record AreCounted (numbers : List ℕ) (count n : ℕ) (counts : List ℕ) : Type 0 where
  pub many : length counts ≡ count
  pub each : (k : ℕ) → k < count → get_or counts k 0 ≡ times k (take n numbers)

-- how often each number below the count stands in a list
abbrev pub number_counts : List ℕ → ℕ → List ℕ
number_counts numbers count = map (λ k. times k numbers) (range_with_len 0 count)

-- by joint, how many edges it has
abbrev pub joint_rooms : Tiling → List Edge → List ℕ
joint_rooms g edges = number_counts (edge_joints g edges) (length (joints_of g edges))

-- The joints are those of the edges: by tile the edges out of it and those into it, by edge its joint, by joint the tile that it
-- leads into and how many edges it has, and by tile the joints into it.
pub record AreJoints (g : Tiling) (edges : List Edge) (j : Joints) : Type 0 where
  pub outbound : j.outbound ≡ map (λ tile. edges_out_of g tile edges) (range_with_len 0 (tile_count g))
  pub inbound : j.inbound ≡ map (λ tile. edges_into g tile edges) (range_with_len 0 (tile_count g))
  pub joints : j.joints ≡ edge_joints g edges
  pub tiles : j.tiles ≡ joint_tiles g edges
  pub rooms : j.rooms ≡ joint_rooms g edges
  pub into : j.into ≡ places_by_number (joint_tiles g edges) (tile_count g)
