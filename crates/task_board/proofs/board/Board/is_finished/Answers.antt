use Rattle.std.proofs.Common.{◌≡◌, ℕ, List, sym, ◌∙◌, subst}
use Rattle.std.specs.Arc.{arc_value}
use Rattle.core_model.specs.declared.step.Step.{Step}
use Rattle.core_model.specs.Cores.{held, published}
use Rattle.core_model.specs.Runs.{after}
use Rattle.plan_graph.specs.PlanGraphs.{graph_of, PlanGraphValue}
use Rattle.task_board.specs.Boards.{BoardValue, IsFinished}
use Rattle.task_board.proofs.BoardLemmas.{all_published, claimable_unpublished, plan_task}
use Rattle.task_board.proofs.board.Board.is_finished.Goals as goal

pub returns-in-Some-clause-finished : goal.returns-in-Some-clause-finished
returns-in-Some-clause-finished g c = λ h.
    let i = c.self.inside in let b = c.self.invariant in
    let p : PlanGraphValue = arc_value i.plan in let xs : List Step = i.history.items in
    let r = c.in-Some.ensures (graph_of p) i.workers (after (graph_of p) xs) b.shows in
    let all = subst (λ (v : BoardValue). IsFinished v) (sym c.self.view_is) h in
    claimable_unpublished (graph_of p) (after (graph_of p) xs) c.in-Some.field-0 r.1 (all c.in-Some.field-0 (plan_task b c.in-Some.field-0 r.0))

pub returns-in-Some-holder-clause-finished : goal.returns-in-Some-holder-clause-finished
returns-in-Some-holder-clause-finished g c = λ h.
    let i = c.self.inside in let b = c.self.invariant in
    let p : PlanGraphValue = arc_value i.plan in let xs : List Step = i.history.items in
    let r = c.in-Some-holder.ensures (graph_of p) i.workers (after (graph_of p) xs) b.shows in
    let t : ℕ = c.in-Some-holder.field-0.1 in
    let all = subst (λ (v : BoardValue). IsFinished v) (sym c.self.view_is) h in
    let z : held c.in-Some-holder.field-0.0 ≡ published = sym r.1 ∙ all t (plan_task b t r.0) in cc

pub returns-in-None-holder-clause-finished : goal.returns-in-None-holder-clause-finished
returns-in-None-holder-clause-finished g c =
    let i = c.self.inside in let b = c.self.invariant in
    let p : PlanGraphValue = arc_value i.plan in let xs : List Step = i.history.items in
    let q = c.in-None.ensures (graph_of p) i.workers (after (graph_of p) xs) b.shows in
    let r = c.in-None-holder.ensures (graph_of p) i.workers (after (graph_of p) xs) b.shows in
    subst (λ (v : BoardValue). IsFinished v) c.self.view_is (all_published b q r)
