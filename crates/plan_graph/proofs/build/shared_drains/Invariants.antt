use Rattle.std.proofs.Common.{◌≡◌, take}
use Rattle.plan_graph.proofs.build.shared_drains.Given as goal

abbrev pub invariant-loop-drain : goal.invariant-loop-drain
invariant-loop-drain l = l.shared ≡ take l.drain-index l.drains
