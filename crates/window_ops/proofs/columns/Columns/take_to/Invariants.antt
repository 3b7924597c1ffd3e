use Rattle.std.proofs.Common.{◌≡◌}
use Rattle.window_ops.specs.inside.Sums.{AreColumnSums}
use Rattle.window_ops.proofs.columns.Columns.take_to.Given as goal

-- the sums with the rows before
abbrev pub invariant-loop-row : goal.invariant-loop-row
invariant-loop-row l = record {
  top : l.self.top ≡ l.initial.self.top;
  sums : AreColumnSums l.cells l.cols l.initial.self.top l.row l.self.sums.items;
}
