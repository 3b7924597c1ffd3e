use Rattle.std.proofs.Common.{◌≡◌, ◌%◌, map, take}
use Rattle.plan_graph.proofs.joints.joint_tiles.Given as goal

abbrev pub invariant-loop-joint : goal.invariant-loop-joint
invariant-loop-joint l = l.into.items ≡ map (λ p. p % l.tiles) (take l.joint-index l.joints)
