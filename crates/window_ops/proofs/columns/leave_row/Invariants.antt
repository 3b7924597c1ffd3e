use Rattle.std.proofs.Common.{◌≡◌, ℕ, ◌<◌, ◌≤◌}
use Rattle.tile_map.specs.Cuts.{cell_at}
use Rattle.window_ops.specs.declared.sum.Sum.{Sum}
use Rattle.window_ops.specs.inside.Sums.{sum_at, sum_join, sum_of_cell}
use Rattle.window_ops.proofs.columns.leave_row.Given as goal

abbrev pub invariant-loop-col : goal.invariant-loop-col
invariant-loop-col l = record {
  before : (k : ℕ) → k < l.col → (rest : Sum) → sum_at l.initial.columns k ≡ sum_join (sum_of_cell (cell_at l.row k)) rest → sum_at l.columns k ≡ rest;
  behind : (k : ℕ) → l.col ≤ k → sum_at l.columns k ≡ sum_at l.initial.columns k;
}
