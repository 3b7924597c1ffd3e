use Rattle.std.proofs.Common.{◌≡◌, length}
use Rattle.run_session.specs.inside.Stages.{HasLeft}
use Rattle.run_session.proofs.stages.add_due.Given as goal

-- the drain maps before the loop's number are left
abbrev pub invariant-loop-n : goal.invariant-loop-n
invariant-loop-n l = record {
  left : HasLeft l.work.program.value l.work.inputs l.first l.left;
  count : l.n ≡ length l.left.drains;
}
