use Rattle.std.proofs.Common.{subst, sym}
use Rattle.plan_graph.specs.PlanGraphs.{IsLocal}
use Rattle.task_graph.specs.Plans.{PlanValue}
use Rattle.plan_graph.proofs.ChannelLaws.{can_keep}
use Rattle.plan_graph.proofs.PlanLemmas.{few_tasks, plan_is_local}
use Rattle.plan_graph.proofs.TaskNumbers.{Fits, plan_fits}
use Rattle.plan_graph.proofs.build.build_graph.Goals as goal

pub with_graph-requires : goal.with_graph-requires
with_graph-requires c =
    let told = c.in_ok-plan.ensures.plan in
    let plan : PlanValue = c.in_ok-plan.plan in
    let program = c.args.program.now in
    let drains = c.args.known.now.drains in
    let fits : Fits plan drains = subst (λ (p : PlanValue). Fits p drains) (sym told.1) (plan_fits program c.args.span c.args.tiling.now drains c.requires.program c.requires.span c.requires.drains) in
    can_keep fits c.args.span (few_tasks program c.args.span c.args.tiling.now plan told.1 told.0) c.in_ok-plan.ensures.few

pub returns-in-Ok-clause-local : goal.returns-in-Ok-clause-local
returns-in-Ok-clause-local c = λ none.
    subst IsLocal (sym c.in-Ok.ensures) (plan_is_local c.args.program.now c.args.span c.args.tiling.now c.in_ok-plan.plan c.args.known.now.drains c.in_ok-plan.ensures.plan.1 none)
