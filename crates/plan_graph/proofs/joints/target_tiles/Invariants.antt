use Rattle.std.proofs.Common.{◌≡◌, take}
use Rattle.plan_graph.specs.inside.Joined.{target_tiles}
use Rattle.plan_graph.proofs.joints.target_tiles.Given as goal

abbrev pub invariant-loop-edge : goal.invariant-loop-edge
invariant-loop-edge l = l.tiles.items ≡ target_tiles l.tiling (take l.edge-index l.edges)
