use Rattle.std.proofs.Common.{◌≡◌, ℕ, ◌<◌, ◌≤◌}
use Rattle.tile_map.specs.Cuts.{cell_at}
use Rattle.window_ops.specs.inside.Extremes.{extreme_cell}
use Rattle.window_ops.proofs.extremes.Extreme.take_row.Given as goal

abbrev pub invariant-loop-col : goal.invariant-loop-col
invariant-loop-col l = record {
  before : (k : ℕ) → k < l.col → cell_at l.columns k ≡ extreme_cell l.self (cell_at l.initial.columns k) (cell_at l.row k);
  behind : (k : ℕ) → l.col ≤ k → cell_at l.columns k ≡ cell_at l.initial.columns k;
}
