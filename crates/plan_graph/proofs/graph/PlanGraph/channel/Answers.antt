use Rattle.std.proofs.Common.{arith, ◌≡◌, ◌∙◌, ◌+◌, ◌<◌, ℕ, List, ap, get_or, length, subst, sym}
use Rattle.plan_graph.specs.PlanGraphs.{PlanGraphValue}
use Rattle.plan_graph.specs.inside.Kept.{border_of, joint_at}
use Rattle.plan_graph.proofs.AccessLemmas.{channel_of_task, joint_read}
use Rattle.plan_graph.proofs.graph.PlanGraph.channel.Goals as goal

pub overflow_add-result : goal.overflow_add-result
overflow_add-result c =
    let p : PlanGraphValue = c.args.self.now in
    let f = c.transport-transport.result in
    let e = c.args.edge in
    let low : e < length (border_of p f) = subst (λ (n : ℕ). e < length (border_of p n)) (sym c.transport-transport.ensures.value) c.requires.edge in
    let joint : get_or c.as_slice.result.now e 0 ≡ joint_at p f e =
    ap (λ (js : List ℕ). get_or js e 0) c.as_slice.ensures ∙ (joint_read p.plan.tiling (border_of p f) c.joints.result.now e c.joints.ensures low).1 in
    let fits = c.first_channel.ensures.fits e low in
    omega arith

pub returns : goal.returns
returns c =
    let p : PlanGraphValue = c.args.self.now in
    let f = c.transport-transport.result in
    let e = c.args.edge in
    let low : e < length (border_of p f) = subst (λ (n : ℕ). e < length (border_of p n)) (sym c.transport-transport.ensures.value) c.requires.edge in
    let joint : get_or c.as_slice.result.now e 0 ≡ joint_at p f e =
    ap (λ (js : List ℕ). get_or js e 0) c.as_slice.ensures ∙ (joint_read p.plan.tiling (border_of p f) c.joints.result.now e c.joints.ensures low).1 in
    ap (λ (n : ℕ). c.first_channel.result + n) joint ∙ channel_of_task p f c.args.task e c.first_channel.result c.first_channel.ensures c.transport-transport.ensures.value low
