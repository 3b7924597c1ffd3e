use Rattle.std.proofs.Common.{◌≡◌, ◌≤◌, ◌<◌, ◌+◌, ◌-◌, ◌*◌, ◌/◌, ◌++◌, map}
use Rattle.std.specs.List.{range_with_len}
use Rattle.tile_map.specs.Cuts.{gathered_cell}
use Rattle.tile_map.proofs.tiling.Tiling.gather_row.Given as goal

-- the cells before the column are there, and the column of tiles is that of the column
abbrev pub invariant-loop-col : goal.invariant-loop-col
invariant-loop-col g l = record {
  low : l.fn.rect.left ≤ l.col;
  high : l.col ≤ l.right;
  tile_col : l.col < l.right → l.tile_col ≡ l.col / l.self.tile_cols;
  items : l.into.items ≡ l.initial.into.items ++ map (gathered_cell l.self (g.T.TileSource.tiles l.source)) (range_with_len (l.map_row * l.self.cols + l.fn.rect.left) (l.col - l.fn.rect.left));
}

abbrev pub decreases-loop-col : goal.decreases-loop-col
decreases-loop-col g l = l.right - l.col
