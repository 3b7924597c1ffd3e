use Rattle.std.proofs.Common.{◌≡◌, false, take}
use Rattle.report_times.specs.inside.Stretches.{in_some}
use Rattle.report_times.proofs.times.Times.has.Given as goal

-- none of the stretches so far has the step
abbrev pub invariant-loop-stretch : goal.invariant-loop-stretch
invariant-loop-stretch l = in_some l.step (take l.stretch-index l.self.stretches) ≡ false
