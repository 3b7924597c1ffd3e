use Rattle.std.proofs.Common.{◌≡◌}
use Rattle.std.specs.Prelude.{replicate}
use Rattle.plan_graph.specs.inside.Slots.{no_joints}
use Rattle.plan_graph.proofs.joined.empty_joints.Given as goal

abbrev pub invariant-loop-n : goal.invariant-loop-n
invariant-loop-n l = l.lists ≡ replicate l._n no_joints
