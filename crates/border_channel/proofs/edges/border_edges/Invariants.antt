use Rattle.std.proofs.Common.{◌≡◌, ◌*◌}
use Rattle.border_channel.specs.Edges.{edges_below}
use Rattle.border_channel.proofs.edges.border_edges.Given as goal

abbrev pub invariant-loop-row : goal.invariant-loop-row
invariant-loop-row l = l.edges.items ≡ edges_below l.drain l.tiling l.orient (l.row * l.tiling.cols)
