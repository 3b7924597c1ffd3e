use Rattle.std.proofs.Common.{◌≡◌, ℕ, ◌<◌, length, sym, ap, ◌∙◌, subst, arith, Some}
use Rattle.tile_map.specs.Rects.{cell_count}
use Rattle.tile_map.specs.Tiles.{rect_of, tile_count}
use Rattle.tile_map.specs.declared.tiling.Tiling.{Tiling}
use Rattle.map_meaning.specs.declared.program.Program.{Program}
use Rattle.task_board.specs.inside.Noted.{tile_note}
use Rattle.task_graph.specs.declared.task.Task.{Task}
use Rattle.task_graph.specs.Plans.{PlanValue, no_task, task_at}
use Rattle.plan_graph.specs.PlanGraphs.{PlanGraphValue}
use Rattle.task_tiles.specs.TaskTiles.{IsTaskTile, span_section}
use Rattle.task_tiles.specs.declared.tile.Tile.{Tile}
use Rattle.task_board.proofs.Lists.{get_there}
use Rattle.task_board.proofs.NoteLemmas.{number_below, part_noted}
use Rattle.task_board.proofs.SpanTasks.{task_tile}
use Rattle.task_board.proofs.noted.noted.Goals as goal

pub cell_note-requires-clause-tile : goal.cell_note-requires-clause-tile
cell_note-requires-clause-tile c =
    let p : PlanGraphValue = c.args.plan.now in let t : ℕ = c.args.task in
    let at : task_at p.plan t ≡ c.task-at.result = ap (λ (q : PlanValue). task_at q t) (sym c.plan.ensures) ∙ get_there c.plan.result.now.tasks t no_task c.task-at.result c.task-at.ensures in
    let tiling : c.tiling.result.now ≡ p.plan.tiling = c.tiling.ensures ∙ ap (λ (q : PlanValue). q.tiling) c.plan-in-Some.ensures in
    let few = c.tasks-tasks.ensures.plan.plan_tasks in
    let lt : t < length p.plan.tasks = (let k = c.requires.task in omega arith) in
    let plans = c.requires.planned.plans in
    let below = subst (λ (q : PlanValue). t < length q.tasks → (task_at q t).tile < tile_count p.plan.tiling) (sym plans) (task_tile c.args.program.now p.span p.plan.tiling t) lt in
    subst (λ (g : Tiling). c.task-at.result.tile < tile_count g) (sym tiling) (subst (λ (k : Task). k.tile < tile_count p.plan.tiling) at below)

pub cell_note-requires-clause-number : goal.cell_note-requires-clause-number
cell_note-requires-clause-number c =
    let p : PlanGraphValue = c.args.plan.now in let t : ℕ = c.args.task in
    let at : task_at p.plan t ≡ c.task-at.result = ap (λ (q : PlanValue). task_at q t) (sym c.plan.ensures) ∙ get_there c.plan.result.now.tasks t no_task c.task-at.result c.task-at.ensures in
    let tiling : c.tiling.result.now ≡ p.plan.tiling = c.tiling.ensures ∙ ap (λ (q : PlanValue). q.tiling) c.plan-in-Some.ensures in
    let own = subst (λ (a : Tile). IsTaskTile p.plan p.span c.args.program.now c.args._known.now t a) c.in-Part.is c.requires.tile in
    let below = number_below p c.args.program.now c.args._known.now t c.in-Part.part c.in-Some.number own c.in-Some.is in
    subst (λ (g : Tiling). c.in-Some.number < cell_count (rect_of g c.task-at.result.tile)) (sym tiling) (subst (λ (k : Task). c.in-Some.number < cell_count (rect_of p.plan.tiling k.tile)) at below)

pub returns-in-Some : goal.returns-in-Some
returns-in-Some c =
    let p : PlanGraphValue = c.args.plan.now in let t : ℕ = c.args.task in
    let program : Program = c.args.program.now in
    let at : task_at p.plan t ≡ c.task-at.result = ap (λ (q : PlanValue). task_at q t) (sym c.plan.ensures) ∙ get_there c.plan.result.now.tasks t no_task c.task-at.result c.task-at.ensures in
    let tiling : c.tiling.result.now ≡ p.plan.tiling = c.tiling.ensures ∙ ap (λ (q : PlanValue). q.tiling) c.plan-in-Some.ensures in
    let own = subst (λ (a : Tile). IsTaskTile p.plan p.span program c.args._known.now t a) c.in-Part.is c.requires.tile in
    let section : c.section.result.now ≡ span_section program p.span = c.section.ensures ∙ ap (span_section program) c.span.ensures in
    ap Some c.cell_note.ensures
    ∙ part_noted p program c.args._known.now t c.in-Part.part c.in-Some.number c.tiling.result.now c.task-at.result c.section.result.now _ own c.in-Some.is tiling (sym at) section
    ∙ ap (tile_note p program t) (sym c.in-Part.is)
