-- Joints: the pairs of tiles that border edges lead from one to the other of.
use Rattle.std.specs.Prelude.{ℕ, ◌+◌, ◌*◌, ◌/◌, ◌%◌, ◌==◌, Bool, List, get_or}
use Rattle.std.specs.List.{filter, list_any, position_or_len, range_with_len}
use Rattle.tile_map.specs.declared.tiling.Tiling.{Tiling}
use Rattle.tile_map.specs.Tiles.{tile_at, tile_count}
use Rattle.border_channel.specs.declared.edge.Edge.{Edge}

-- the number of the pair of tiles that an edge joins: it ascends by the tile that the edge leaves, and then by the other
abbrev pub pair_of : Tiling → Edge → ℕ
pair_of g e = tile_at g e.source * tile_count g + tile_at g e.target

-- one of the edges joins the pair
abbrev pub is_joined : Tiling → List Edge → ℕ → Bool
is_joined g edges pair = list_any (λ e. pair_of g e == pair) edges

-- the pairs that some edge joins, ascending, each once
abbrev pub joints_of : Tiling → List Edge → List ℕ
joints_of g edges = filter (is_joined g edges) (range_with_len 0 (tile_count g * tile_count g))

-- the place of a pair among them
abbrev pub joint_of : Tiling → List Edge → ℕ → ℕ
joint_of g edges pair = position_or_len (λ p. p == pair) (joints_of g edges)

-- the tile that the joint with this number leads from
abbrev pub joint_from : Tiling → List ℕ → ℕ → ℕ
joint_from g joints j = get_or joints j 0 / tile_count g

-- the tile that it leads into
abbrev pub joint_into : Tiling → List ℕ → ℕ → ℕ
joint_into g joints j = get_or joints j 0 % tile_count g
