use Rattle.std.proofs.Common.{◌≡◌, ◌+◌, ◌*◌}
use Rattle.border_channel.specs.Edges.{edges_below}
use Rattle.border_channel.proofs.edges.push_row.Given as goal

abbrev pub invariant-loop-col : goal.invariant-loop-col
invariant-loop-col l = l.edges.items ≡ edges_below l.drain l.tiling l.orient (l.row * l.tiling.cols + l.col)
