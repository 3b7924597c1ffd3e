use Rattle.std.proofs.Common.{◌≡◌}
use Rattle.window_ops.specs.inside.Sums.{AreColumnSums}
use Rattle.window_ops.proofs.columns.Columns.leave_to.Given as goal

-- the sums without the rows before
abbrev pub invariant-loop-row : goal.invariant-loop-row
invariant-loop-row l = record {
  bottom : l.self.bottom ≡ l.initial.self.bottom;
  sums : AreColumnSums l.cells l.cols l.row l.initial.self.bottom l.self.sums.items;
}
