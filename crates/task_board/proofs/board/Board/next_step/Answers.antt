use Rattle.std.proofs.Common.{◌≡◌, ℕ, ◌<◌, List, get_or, ap, sym, ◌∙◌, subst, arith}
use Rattle.std.specs.Arc.{arc_value}
use Rattle.core_model.specs.declared.step.Step.{Step}
use Rattle.core_model.specs.declared.step.Step.TheVariants.{Claim, Publish, PutDown}
use Rattle.core_model.specs.Runs.{after}
use Rattle.core_model.specs.Steps.{Enabled}
use Rattle.plan_graph.specs.PlanGraphs.{graph_of, PlanGraphValue}
use Rattle.task_board.specs.Boards.{BoardValue, CanBePutDown, IsFinished, state_of}
use Rattle.task_board.proofs.BoardLemmas.{all_published, keeps_run, plan_task}
use Rattle.task_board.proofs.board.Board.next_step.Goals as goal

pub is_flow-requires : goal.is_flow-requires
is_flow-requires g c =
    let i = c.self.inside in let b = c.self.invariant in
    let p : PlanGraphValue = arc_value i.plan in let xs : List Step = i.history.items in
    let r = c.in-Some.ensures (graph_of p) i.workers (after (graph_of p) xs) b.shows in
    subst (λ (v : PlanGraphValue). c.in-Some.task < v.tasks) (sym c.deref.ensures) (plan_task b c.in-Some.task r.0)

pub returns-then-is_flow-clause-step : goal.returns-then-is_flow-clause-step
returns-then-is_flow-clause-step g c =
    let i = c.self.inside in let b = c.self.invariant in
    let p : PlanGraphValue = arc_value i.plan in let xs : List Step = i.history.items in
    let w : ℕ = c.in-Some.worker in let t : ℕ = c.in-Some.task in
    let r = c.in-Some.ensures (graph_of p) i.workers (after (graph_of p) xs) b.shows in
    let lt = plan_task b t r.0 in
    let can = subst (λ (v : BoardValue). CanBePutDown v) (sym c.self.view_is) c.requires in
    let flows = c.is_flow.ensures ∙ ap (λ (v : PlanGraphValue). get_or v.flows t mathlib.Core.Bool.false) c.deref.ensures in
    let flow = b.plan.flow t lt ∙ sym flows ∙ c.if-is_flow.true in
    subst (λ (v : BoardValue). Enabled (graph_of v.plan) (state_of v) v.workers (PutDown w t)) c.self.view_is ((keeps_run b).holders t w r.1, (r.0, r.1, can w t lt r.1 flow))

pub returns-else-is_flow-clause-step : goal.returns-else-is_flow-clause-step
returns-else-is_flow-clause-step g c =
    let i = c.self.inside in let b = c.self.invariant in
    let p : PlanGraphValue = arc_value i.plan in let xs : List Step = i.history.items in
    let w : ℕ = c.in-Some.worker in let t : ℕ = c.in-Some.task in
    let r = c.in-Some.ensures (graph_of p) i.workers (after (graph_of p) xs) b.shows in
    let lt = plan_task b t r.0 in
    let flows = c.is_flow.ensures ∙ ap (λ (v : PlanGraphValue). get_or v.flows t mathlib.Core.Bool.false) c.deref.ensures in
    let not_flow = b.plan.flow t lt ∙ sym flows ∙ c.if-is_flow.false in
    subst (λ (v : BoardValue). Enabled (graph_of v.plan) (state_of v) v.workers (Publish w t)) c.self.view_is ((keeps_run b).holders t w r.1, (r.0, r.1, λ f. absurd (let z : mathlib.Core.Bool.true ≡ mathlib.Core.Bool.false = sym f ∙ not_flow in cc)))

pub returns-in-Some-task_to_claim-clause-step : goal.returns-in-Some-task_to_claim-clause-step
returns-in-Some-task_to_claim-clause-step g c =
    let i = c.self.inside in let b = c.self.invariant in
    let p : PlanGraphValue = arc_value i.plan in let xs : List Step = i.history.items in
    let t : ℕ = c.in-Some-task_to_claim.task in
    let q = c.in-None.ensures (graph_of p) i.workers (after (graph_of p) xs) b.shows in
    let r = c.in-Some-task_to_claim.ensures (graph_of p) i.workers (after (graph_of p) xs) b.shows in
    subst (λ (v : BoardValue). Enabled (graph_of v.plan) (state_of v) v.workers (Claim 0 t)) c.self.view_is (omega arith, (r.0, (λ u lt e. q u 0 lt e), r.1))

pub returns-in-None-task_to_claim-clause-step : goal.returns-in-None-task_to_claim-clause-step
returns-in-None-task_to_claim-clause-step g c =
    let i = c.self.inside in let b = c.self.invariant in
    let p : PlanGraphValue = arc_value i.plan in let xs : List Step = i.history.items in
    let q = c.in-None.ensures (graph_of p) i.workers (after (graph_of p) xs) b.shows in
    let r = c.in-None-task_to_claim.ensures (graph_of p) i.workers (after (graph_of p) xs) b.shows in
    subst (λ (v : BoardValue). IsFinished v) c.self.view_is (all_published b r q)
