-- The border edges of one tile.
use Rattle.std.specs.Prelude.{ℕ, ◌==◌, List, length}
use Rattle.std.specs.List.{filter, range_with_len}
use Rattle.tile_map.specs.Tiles.{tile_at}
use Rattle.tile_map.specs.declared.tiling.Tiling.{Tiling}
use Rattle.border_channel.specs.declared.edge.Edge.{Edge}
use Rattle.border_channel.specs.Edges.{edge_at}

-- the numbers of the edges into a tile, ascending
abbrev pub edges_into : Tiling → ℕ → List Edge → List ℕ
edges_into g tile edges = filter (λ e. tile_at g (edge_at edges e).target == tile) (range_with_len 0 (length edges))

-- the numbers of the edges out of a tile, ascending
abbrev pub edges_out_of : Tiling → ℕ → List Edge → List ℕ
edges_out_of g tile edges = filter (λ e. tile_at g (edge_at edges e).source == tile) (range_with_len 0 (length edges))
