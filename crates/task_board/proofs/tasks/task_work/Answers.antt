use Rattle.std.proofs.Common.{◌≡◌, ℕ, List, subst}
use Rattle.std.specs.Arc.{arc_value}
use Rattle.std.specs.List.{AllZip}
use Rattle.plan_graph.specs.PlanGraphs.{PlanGraphValue, list_at}
use Rattle.task_tiles.specs.TaskTiles.{IsTaskTile}
use Rattle.task_board.proofs.tasks.task_work.Goals as goal

pub begin_flow-requires-clause-tiles : goal.begin_flow-requires-clause-tiles
begin_flow-requires-clause-tiles g c =
    let p : PlanGraphValue = c.args.plan.now in
    let plan : c.plan.result.now ≡ p.plan = c.plan.ensures in
    let span : c.span.result ≡ p.span = c.span.ensures in
    rw (plan, span)
    (subst (λ (l : List (List ℕ)). AllZip (λ a n. IsTaskTile p.plan p.span c.args.program.now c.args.known.now n (arc_value a)) c.args.tiles.now (list_at l c.args.task)) c.requires.plan.plan_needs c.requires.tiles)
