use Rattle.std.proofs.Common.{◌≡◌, map, take}
use Rattle.plan_graph.specs.Joints.{pair_of}
use Rattle.plan_graph.proofs.joints.pairs.Given as goal

abbrev pub invariant-loop-edge : goal.invariant-loop-edge
invariant-loop-edge l = l.pairs.items ≡ map (pair_of l.tiling) (take l.edge-index l.edges)
