use Rattle.std.proofs.Common.{arith}
use Rattle.plan_graph.specs.PlanGraphs.{PlanGraphValue}
use Rattle.plan_graph.specs.inside.Kept.{border_of}
use Rattle.plan_graph.proofs.AccessLemmas.{channels_into_tile, tiles_there}
use Rattle.plan_graph.proofs.graph.PlanGraph.inbound.Goals as goal

pub list-requires : goal.list-requires
list-requires c =
    let p : PlanGraphValue = c.args.self.now in
    let many = (tiles_there p.plan.tiling (border_of p c.transport-transport.result) c.joints.result.now c.joints.ensures).2 in
    let below = c.tile-tile.ensures.below in
    omega arith

pub returns : goal.returns
returns c =
    channels_into_tile c.args.self.now c.joints.result.now c.transport-transport.result c.args.task c.tile-tile.result c.joints.ensures c.transport-transport.ensures.value c.tile-tile.ensures
    c.first_channel-first.result c.list.result.now c.first_channel-first.ensures c.list.ensures
