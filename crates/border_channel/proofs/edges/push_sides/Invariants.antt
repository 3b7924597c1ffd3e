use Rattle.std.proofs.Common.{◌≡◌, ◌≤◌, ◌<◌, ◌+◌, ◌-◌, ◌*◌, ◌%◌}
use Rattle.border_channel.specs.Edges.{edges_below}
use Rattle.border_channel.proofs.edges.push_sides.Given as goal

-- the edges from the cells before the column are there, and a tile begins at the column
abbrev pub invariant-loop-left : goal.invariant-loop-left
invariant-loop-left l = record {
  high : l.left ≤ l.tiling.cols;
  starts : l.left < l.tiling.cols → l.left % l.tiling.tile_cols ≡ 0;
  items : l.edges.items ≡ edges_below l.drain l.tiling l.orient (l.row * l.tiling.cols + l.left);
}

abbrev pub decreases-loop-left : goal.decreases-loop-left
decreases-loop-left l = l.tiling.cols - l.left
