use Rattle.std.proofs.Common.{◌≡◌}
use Rattle.std.specs.Prelude.{◌==◌}
use Rattle.std.specs.List.{filter, range_with_len}
use Rattle.border_channel.specs.Edges.{edge_at}
use Rattle.tile_map.specs.Tiles.{tile_at}
use Rattle.worked_tiles.specs.Runs.{looked_end}
use Rattle.worked_tiles.proofs.run.edges_of_tile.Given as goal

-- the numbers of the first edges are there
abbrev pub invariant-loop-number : goal.invariant-loop-number
invariant-loop-number l = l.own.items ≡ filter (λ e. tile_at l.tiling (looked_end l.inward (edge_at l.edges e)) == l.tile) (range_with_len 0 l.number)
