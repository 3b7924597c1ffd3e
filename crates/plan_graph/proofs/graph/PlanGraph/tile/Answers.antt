use Rattle.std.proofs.Common.{◌≡◌, ◌∙◌, ap, subst, sym, ℕ}
use Rattle.std.proofs.lemmas.Option.{get_or_from_slice_get}
use Rattle.task_graph.specs.declared.task.Task.{Task}
use Rattle.task_graph.specs.Plans.{no_task, task_at}
use Rattle.plan_graph.specs.PlanGraphs.{IsOfTransport, IsPlan, PlanGraphValue}
use Rattle.plan_graph.specs.Transports.{task_transport}
use Rattle.plan_graph.proofs.graph.PlanGraph.tile.Goals as goal

pub returns : goal.returns
returns c =
    let p : PlanGraphValue = c.args.self.now in
    let t = c.args.task in
    let keeps : IsPlan p = subst IsPlan c.self.view_is c.self.invariant.plan_is in
    let same : task_at p.plan t ≡ c.task.result =
    ap (λ (q : PlanGraphValue). task_at q.plan t) (sym c.self.view_is) ∙ get_or_from_slice_get c.self.inside.plan.tasks t c.task.result no_task c.task.ensures in
    subst (λ (x : ℕ). IsOfTransport p.plan t (task_transport p.plan t) x) (ap (λ (x : Task). x.tile) same) (keeps.transports.at_tile t c.requires.task c.requires.flow)
