use Rattle.std.proofs.Common.{arith, ◌≡◌, ◌∙◌, ◌+◌, ℕ, List, ap, get_or, length, subst}
use Rattle.std.proofs.lemmas.List.FromFn.{get_or-map-range_with_len, length-map-range_with_len}
use Rattle.plan_graph.specs.PlanGraphs.{PlanGraphValue, graph_of}
use Rattle.plan_graph.specs.inside.Kept.{KeepsLists}
use Rattle.plan_graph.proofs.graph.PlanGraph.receiver.Goals as goal

pub bounds-as_slice-channel : goal.bounds-as_slice-channel
bounds-as_slice-channel c =
    let p : PlanGraphValue = c.args.self.now in
    let keeps : KeepsLists p c.self.inside.borders c.self.inside.joints c.self.inside.channels c.self.inside.transports =
    subst (λ (q : PlanGraphValue). KeepsLists q c.self.inside.borders c.self.inside.joints c.self.inside.channels c.self.inside.transports) c.self.view_is c.self.invariant.lists in
    let size = ap length (c.as_slice.ensures ∙ keeps.receivers) ∙ length-map-range_with_len (graph_of p).into 0 (graph_of p).channels in
    let low = c.requires in
    omega arith

pub returns : goal.returns
returns c =
    let p : PlanGraphValue = c.args.self.now in
    let keeps : KeepsLists p c.self.inside.borders c.self.inside.joints c.self.inside.channels c.self.inside.transports =
    subst (λ (q : PlanGraphValue). KeepsLists q c.self.inside.borders c.self.inside.joints c.self.inside.channels c.self.inside.transports) c.self.view_is c.self.invariant.lists in
    ap (λ (xs : List ℕ). get_or xs c.args.channel 0) (c.as_slice.ensures ∙ keeps.receivers)
    ∙ get_or-map-range_with_len (graph_of p).into 0 (graph_of p).channels c.args.channel c.args.channel 0 c.requires (zero_plus c.args.channel)
  where
    zero_plus : (n : ℕ) → 0 + n ≡ n
    zero_plus n = omega arith
