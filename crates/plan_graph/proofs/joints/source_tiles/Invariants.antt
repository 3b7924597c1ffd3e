use Rattle.std.proofs.Common.{◌≡◌, take}
use Rattle.plan_graph.specs.inside.Joined.{source_tiles}
use Rattle.plan_graph.proofs.joints.source_tiles.Given as goal

abbrev pub invariant-loop-edge : goal.invariant-loop-edge
invariant-loop-edge l = l.tiles.items ≡ source_tiles l.tiling (take l.edge-index l.edges)
