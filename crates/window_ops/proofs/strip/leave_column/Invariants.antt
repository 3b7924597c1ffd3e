use Rattle.std.proofs.Common.{◌≡◌, ℤ, ◌+◌}
use Rattle.window_ops.specs.inside.Classes.{AreSome, class_in_column, class_count}
use Rattle.window_ops.proofs.strip.leave_column.Given as goal

-- the counts without the rows before
abbrev pub invariant-loop-row : goal.invariant-loop-row
invariant-loop-row l = record {
  counts : (class : ℤ) → class_count l.counts class + class_in_column l.cols l.cells class l.top l.row l.col ≡ class_count l.initial.counts class;
  some : AreSome l.counts;
}
