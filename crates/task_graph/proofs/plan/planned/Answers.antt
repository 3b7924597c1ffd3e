use Rattle.std.proofs.Common.{arith, ◌∙◌, ℕ, ap}
use Rattle.tile_map.specs.Tiles.{tile_count}
use Rattle.tile_map.proofs.TileLemmas.{count_few}
use Rattle.task_graph.specs.Plans.{flows_from}
use Rattle.task_graph.proofs.HeldLemmas.{few_laid, plan_same}
use Rattle.task_graph.proofs.plan.planned.Goals as goal

pub flows-requires-clause-tiles : goal.flows-requires-clause-tiles
flows-requires-clause-tiles c = omega (arith, count_few c.args.tiling.now, c.count.ensures)

pub flows-requires-clause-few : goal.flows-requires-clause-few
flows-requires-clause-few c = few_laid c.args.program.now c.args.span c.args.tiling.now c.count.result c.as_slice-2.result.now c.count.ensures (c.as_slice-2.ensures ∙ c.in_ok-laid.ensures) c.requires.few

pub returns-clause-plan : goal.returns-clause-plan
returns-clause-plan c =
    let program = c.args.program.now in
    plan_same program c.args.span c.args.tiling.now c.in_ok-tasks.field-0.tasks c.in_ok-tasks.field-0.needs c.in_ok-flows.flows
    c.in_ok-tasks.ensures.drawn.tasks c.in_ok-tasks.ensures.drawn.needs
    (c.in_ok-flows.ensures ∙ (ap (λ (n : ℕ). flows_from n 0 c.as_slice-2.result.now) c.count.ensures ∙ ap (flows_from (tile_count c.args.tiling.now) 0) (c.as_slice-2.ensures ∙ c.in_ok-laid.ensures)))
