use Rattle.std.proofs.Common.{◌≡◌, ℤ, ◌+◌, ◌-◌}
use Rattle.window_ops.specs.inside.Classes.{AreSome, class_in_column, class_count}
use Rattle.window_ops.specs.inside.Outcomes.{over}
use Rattle.window_ops.proofs.strip.Strip.leave_to.Given as goal

-- the counts without the columns before
abbrev pub invariant-loop-col : goal.invariant-loop-col
invariant-loop-col l = record {
  top : l.self.top ≡ l.initial.self.top;
  bottom : l.self.bottom ≡ l.initial.self.bottom;
  to : l.self.to ≡ l.initial.self.to;
  counts : (class : ℤ) → class_count l.self.counts class ≡ over ◌+◌ 0 (class_in_column l.cols l.cells class l.initial.self.top l.initial.self.bottom) l.col (l.initial.self.to - l.col);
  some : AreSome l.self.counts;
}
