use Rattle.plan_graph.proofs.BorderLemmas.{total_step}
use Rattle.plan_graph.proofs.borders.total.Goals as goal

pub loop-flow-preserved : goal.loop-flow-preserved
loop-flow-preserved c =
    total_step c.args.lists.now c.as_slice.result.now c.args.flows.now c.loop-flow.flow-index c.loop-flow.total c.len-count.result c.slot.result c.index-as_slice-slot.result
    c.loop-flow-test.true c.requires c.loop-flow.invariant c.len-count.ensures c.index-as_slice-slot.is c.as_slice.ensures c.slot.ensures
