-- The values and the classes are those of the operation.
use Rattle.std.proofs.Common.{sym, subst}
use Rattle.tile_map.specs.Tiles.{rect_of}
use Rattle.area_ops.specs.Partials.{StandsFor}
use Rattle.map_meaning.specs.Evaluation.{operand_cell}
use Rattle.map_meaning.specs.Maps.{CellAt}
use Rattle.map_meaning.specs.Spans.{scene_of}
use Rattle.task_laws.specs.Zones.{zones_in}
use Rattle.task_tiles.specs.TaskTiles.{values_at}
use Rattle.tile_tasks.specs.inside.Areas.{class_operand}
use Rattle.tile_tasks.proofs.ZoneMeanings.{class_known, classes_are, value_known, values_are}
use Rattle.tile_tasks.proofs.zones.partial_task.Goals as goal

pub partial_by-requires-clause-values : goal.partial_by-requires-clause-values
partial_by-requires-clause-values c = rw c.value_operand-values.ensures (value_known c.args.program.now c.args.span c.args.known.now c.args.tiling.now c.args.step c.args.tile c.args.scope c.args.operation c.requires.zone c.requires.task)

pub partial_by-requires-clause-classes : goal.partial_by-requires-clause-classes
partial_by-requires-clause-classes c = rw c.class_operand-classes.ensures (class_known c.args.program.now c.args.span c.args.known.now c.args.tiling.now c.args.step c.args.tile c.args.scope c.args.operation c.requires.zone c.requires.task)

pub returns-clause-stands : goal.returns-clause-stands
returns-clause-stands c = λ done reads.
    let program = c.args.program.now in
    let known = c.args.known.now in
    let g = c.args.tiling.now in
    let o = c.args.operation in
    let r = rect_of g c.args.tile in
    let cell = operand_cell (scene_of program.inputs known c.args.step) done in
    let stands = rw (c.value_operand-values.ensures, c.class_operand-classes.ensures) at c.in_ok-partial.ensures.stands in
    subst (λ (f : CellAt). StandsFor c.in_ok-partial.partial (zones_in g.cols r (values_at program known c.args.step done o) f)) (sym (classes_are program known c.args.step done c.args.scope o c.requires.zone c.requires.scope))
    (subst (λ (f : CellAt). StandsFor c.in_ok-partial.partial (zones_in g.cols r f (cell (class_operand c.args.scope o)))) (sym (values_are program known c.args.step done c.args.scope o c.requires.zone c.requires.scope)) (stands done reads))
