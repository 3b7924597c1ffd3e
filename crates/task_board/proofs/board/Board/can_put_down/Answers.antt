use Rattle.std.proofs.Common.{◌≡◌, ◌≤◌, List, sym, subst}
use Rattle.std.specs.Arc.{arc_value}
use Rattle.core_model.specs.declared.step.Step.{Step}
use Rattle.core_model.specs.Runs.{after}
use Rattle.plan_graph.specs.PlanGraphs.{graph_of, PlanGraphValue}
use Rattle.task_board.specs.Boards.{BoardValue, state_of}
use Rattle.task_board.proofs.board.Board.can_put_down.Goals as goal

pub returns-clause-value : goal.returns-clause-value
returns-clause-value g c =
    let i = c.self.inside in let b = c.self.invariant in
    let p : PlanGraphValue = arc_value i.plan in let xs : List Step = i.history.items in
    let le = subst (λ (v : BoardValue). c.args.worker ≤ v.workers) (sym c.self.view_is) c.requires in
    subst (λ (v : BoardValue). (state_of v).has_put_down c.args.worker ≡ mathlib.Core.Bool.not c.can_put_down.result) c.self.view_is
    (c.can_put_down.ensures (graph_of p) i.workers (after (graph_of p) xs) b.shows le)
