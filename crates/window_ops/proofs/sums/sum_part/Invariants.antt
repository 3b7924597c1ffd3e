use Rattle.std.proofs.Common.{◌≡◌, ℕ, ◌+◌, ◌-◌, ◌*◌, ◌≤◌, length, min}
use Rattle.tile_map.specs.Rects.{place_in}
use Rattle.region_meaning.specs.Windows.{window_outcome}
use Rattle.window_ops.specs.inside.Outcomes.{AreOutcomes}
use Rattle.window_ops.specs.inside.Sums.{AreColumnSums, sum_op_of}
use Rattle.window_ops.proofs.sums.sum_part.Given as goal

-- the outcomes of the rows before, and columns that reach no farther down than the next window
abbrev pub invariant-loop-row : goal.invariant-loop-row
invariant-loop-row l = record {
  size : length l.out.cells.items ≡ l.row * l.width;
  each : AreOutcomes (λ (i : ℕ). window_outcome (sum_op_of l.summed) l.rows l.cols l.k l.cells (place_in l.cols l.inner i)) (l.row * l.width) l.out.cells.items l.out.over;
  sums : AreColumnSums l.cells l.cols l.columns.top l.columns.bottom l.columns.sums.items;
  order : l.columns.top ≤ l.columns.bottom;
  top : l.columns.top ≤ l.inner.top + l.row - l.k;
  bottom : l.columns.bottom ≤ min l.rows (l.inner.top + l.row + 1 + l.k);
}
