use Rattle.std.proofs.Common.{◌≤◌, ◌*◌, length, take}
use Rattle.run_session.specs.inside.Outputs.{AreBegun}
use Rattle.run_session.proofs.outputs.begin_samples.Given as goal

-- the time series of the outputs so far
abbrev pub invariant-loop-i : goal.invariant-loop-i
invariant-loop-i l = record {
  all : AreBegun (l.inputs.frame.rows * l.inputs.frame.cols) l.program.inputs l.inputs.maps (take l.i l.program.outputs) l.all.items;
  below : l.i ≤ length l.program.outputs;
}
