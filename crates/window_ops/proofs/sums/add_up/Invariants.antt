use Rattle.std.proofs.Common.{◌≡◌, ℕ, ◌+◌, ◌<◌, length}
use Rattle.window_ops.specs.inside.Outcomes.{over}
use Rattle.window_ops.specs.inside.Sums.{no_sum, sum_at, sum_join}
use Rattle.window_ops.proofs.sums.add_up.Given as goal

abbrev pub invariant-loop-column : goal.invariant-loop-column
invariant-loop-column l = record {
  size : length l.into.items ≡ l.column-index + 1;
  sum : l.sum ≡ over sum_join no_sum (sum_at l.columns) 0 l.column-index;
  each : (col : ℕ) → col < l.column-index + 1 → sum_at l.into.items col ≡ over sum_join no_sum (sum_at l.columns) 0 col;
}
