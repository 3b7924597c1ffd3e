use Rattle.std.proofs.Common.{arith, get_or, refl}
use Rattle.plan_graph.specs.Borders.{no_flow}
use Rattle.plan_graph.proofs.BorderLemmas.{all_kept, done_more}
use Rattle.plan_graph.proofs.borders.made_lists.Goals as goal

pub loop-flow-preserved : goal.loop-flow-preserved
loop-flow-preserved c = record {
  made = c.in_ok-make_edges.ensures.made;
  done = done_more c.args.flows.now c.loop-flow.flow-index (get_or c.args.flows.now c.loop-flow.flow-index no_flow) c.loop-flow.made.items c.make_edges.new.made.items c.loop-flow.invariant.done c.in_ok-make_edges.ensures.stays refl c.in_ok-make_edges.ensures.there;
}

pub returns-clause-each : goal.returns-clause-each
returns-clause-each c =
    all_kept c.args.tiling.now c.args.known.now.drains c.args.flows.now c.loop-flow.lists c.loop-flow.made.items c.loop-flow.invariant.made
    (λ f below. c.loop-flow.invariant.done f (omega arith))
