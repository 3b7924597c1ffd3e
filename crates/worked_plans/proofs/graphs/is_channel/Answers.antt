use Rattle.std.proofs.Common.{arith, ◌∙◌, ap, length, inl, inr}
use Rattle.std.proofs.lemmas.List.FromFn.{length-map-range_with_len}
use Rattle.plan_graph.specs.PlanGraphs.{edges_of, graph_of}
use Rattle.plan_graph.proofs.NumberedLemmas.{lt_tells}
use Rattle.worked_plans.proofs.graphs.is_channel.Goals as goal

pub returns : goal.returns
returns c = λ e.
    let g = graph_of c.args.graph.now in
    let size = ap length c.rooms.ensures.value ∙ length-map-range_with_len (edges_of g) 0 g.channels in
    elim (lt_tells c.args.channel (length c.rooms.result.now)) [
      | inl t ↦ let low = t.1 in omega arith
      | inr t ↦ let not = t.0 in absurd (cc (e, not))
    ]
