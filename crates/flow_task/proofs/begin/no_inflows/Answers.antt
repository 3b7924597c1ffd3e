use Rattle.flow_task.proofs.Within.{over_more}
use Rattle.flow_task.proofs.begin.no_inflows.Goals as goal

pub loop-preserved : goal.loop-preserved
loop-preserved g c = over_more (λ i. (g.R.FlowRule.rule c.args.rule.now).none) c.loop.counter c.zero.result c.loop.inflows.items c.push.new.self.items c.loop.invariant c.zero.ensures c.in_ok-push.ensures.items
