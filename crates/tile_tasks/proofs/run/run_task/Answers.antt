-- The task is what the plan tells, and reads the tiles that are handed in.
use Rattle.std.proofs.Common.{List, map}
use Rattle.std.specs.Arc.{arc_value}
use Rattle.task_tiles.specs.declared.tile.Tile.{Tile}
use Rattle.task_tiles.specs.TaskTiles.{onward_done}
use Rattle.tile_tasks.proofs.TaskLemmas.{asked_of, gives, operation_below, read_by, runnable}
use Rattle.tile_tasks.proofs.run.run_task.Goals as goal

pub bounds-section-task : goal.bounds-section-task
bounds-section-task c =
    let plan = c.args.plan.now in
    let s = c.args.span in
    let program = c.args.program.now in
    let known = c.args.known.now in
    let ts : List Tile = map arc_value c.args.tiles.now in
    let is = runnable arc_value c.tiles_of_operations_are_cuts.ensures plan s program known c.args.task c.args.tiles.now c.requires.planned c.requires.task c.requires.local c.requires.tiles in
    operation_below plan s program known c.args.task ts is c.task-task.result c.section.result.now is.operation c.task-task.ensures c.section.ensures

pub run_work-requires-clause-run : goal.run_work-requires-clause-run
run_work-requires-clause-run c =
    let plan = c.args.plan.now in
    let s = c.args.span in
    let program = c.args.program.now in
    let known = c.args.known.now in
    let ts : List Tile = map arc_value c.args.tiles.now in
    let is = runnable arc_value c.tiles_of_operations_are_cuts.ensures plan s program known c.args.task c.args.tiles.now c.requires.planned c.requires.task c.requires.local c.requires.tiles in
    asked_of plan s program known c.args.task ts is c.task-task.result c.section.result.now _ c.task-task.ensures c.section.ensures c.scope_of.result c.tiling.result.now c.tiling.ensures c.scope_of.ensures

pub run_work-requires-clause-reads : goal.run_work-requires-clause-reads
run_work-requires-clause-reads c =
    let plan = c.args.plan.now in
    let s = c.args.span in
    let program = c.args.program.now in
    let known = c.args.known.now in
    let ts : List Tile = map arc_value c.args.tiles.now in
    let is = runnable arc_value c.tiles_of_operations_are_cuts.ensures plan s program known c.args.task c.args.tiles.now c.requires.planned c.requires.task c.requires.local c.requires.tiles in (
      onward_done program s known c.task-task.result.step,
      read_by plan s program known c.args.task ts is c.task-task.result c.section.result.now _ c.task-task.ensures c.section.ensures c.scope_of.result c.tiling.result.now c.tiling.ensures c.scope_of.ensures,
    )

pub returns : goal.returns
returns c =
    let plan = c.args.plan.now in
    let s = c.args.span in
    let program = c.args.program.now in
    let known = c.args.known.now in
    let ts : List Tile = map arc_value c.args.tiles.now in
    let is = runnable arc_value c.tiles_of_operations_are_cuts.ensures plan s program known c.args.task c.args.tiles.now c.requires.planned c.requires.task c.requires.local c.requires.tiles in
    let reads = read_by plan s program known c.args.task ts is c.task-task.result c.section.result.now _ c.task-task.ensures c.section.ensures c.scope_of.result c.tiling.result.now c.tiling.ensures c.scope_of.ensures in
    gives plan s program known c.args.task ts is c.task-task.result c.section.result.now _ c.task-task.ensures c.section.ensures c.tiling.result.now c.in_ok-tile.tile c.tiling.ensures
    (c.in_ok-tile.ensures (onward_done program s known c.task-task.result.step) reads)
