-- The task is what the plan tells, and reads the tiles that are handed in.
use Rattle.std.proofs.Common.{List, map}
use Rattle.std.specs.Arc.{arc_value}
use Rattle.task_tiles.specs.declared.tile.Tile.{Tile}
use Rattle.task_tiles.specs.TaskTiles.{onward_done}
use Rattle.tile_tasks.proofs.FlowTasks.{beginning, flow_at, flow_begins, flow_drain_there, flow_edges, flow_operation_below, flow_read, flow_transports}
use Rattle.tile_tasks.proofs.flow.begin_flow.Goals as goal

pub bounds-section-task : goal.bounds-section-task
bounds-section-task g c =
    let plan = c.args.plan.now in
    let s = c.args.span in
    let program = c.args.program.now in
    let known = c.args.known.now in
    let edges = c.args.edges.now in
    let into = c.args.into.now in
    let out = c.args.out.now in
    let ts : List Tile = map arc_value c.args.tiles.now in
    let is = beginning arc_value c.tiles_of_operations_are_cuts.ensures plan s program known c.args.task edges into out c.args.tiles.now c.requires.planned c.requires.task c.requires.flow c.requires.edges c.requires.tiles in
    flow_operation_below plan s program known c.args.task edges into out ts is c.task-task.result c.section.result.now is.operation c.task-task.ensures c.section.ensures

pub flow_op-requires : goal.flow_op-requires
flow_op-requires g c =
    let plan = c.args.plan.now in
    let s = c.args.span in
    let program = c.args.program.now in
    let known = c.args.known.now in
    let edges = c.args.edges.now in
    let into = c.args.into.now in
    let out = c.args.out.now in
    let ts : List Tile = map arc_value c.args.tiles.now in
    let is = beginning arc_value c.tiles_of_operations_are_cuts.ensures plan s program known c.args.task edges into out c.args.tiles.now c.requires.planned c.requires.task c.requires.flow c.requires.edges c.requires.tiles in
    flow_transports plan s program known c.args.task edges into out ts is c.task-task.result c.section.result.now _ c.task-task.ensures c.section.ensures c.scope_of.result c.scope_of.ensures

pub flow_tile-requires-clause-task : goal.flow_tile-requires-clause-task
flow_tile-requires-clause-task g c =
    let plan = c.args.plan.now in
    let s = c.args.span in
    let program = c.args.program.now in
    let known = c.args.known.now in
    let edges = c.args.edges.now in
    let into = c.args.into.now in
    let out = c.args.out.now in
    let ts : List Tile = map arc_value c.args.tiles.now in
    let is = beginning arc_value c.tiles_of_operations_are_cuts.ensures plan s program known c.args.task edges into out c.args.tiles.now c.requires.planned c.requires.task c.requires.flow c.requires.edges c.requires.tiles in
    flow_at plan s program known c.args.task edges into out ts is c.task-task.result c.section.result.now _ c.task-task.ensures c.section.ensures c.tiling.result.now c.tiling.ensures

pub flow_tile-requires-clause-drain : goal.flow_tile-requires-clause-drain
flow_tile-requires-clause-drain g c =
    let plan = c.args.plan.now in
    let s = c.args.span in
    let program = c.args.program.now in
    let known = c.args.known.now in
    let edges = c.args.edges.now in
    let into = c.args.into.now in
    let out = c.args.out.now in
    let ts : List Tile = map arc_value c.args.tiles.now in
    let is = beginning arc_value c.tiles_of_operations_are_cuts.ensures plan s program known c.args.task edges into out c.args.tiles.now c.requires.planned c.requires.task c.requires.flow c.requires.edges c.requires.tiles in
    flow_drain_there plan s program known c.args.task edges into out ts is c.task-task.result c.section.result.now _ c.task-task.ensures c.section.ensures c.flow_op.result (rw c.flow_op.ensures at c.scope_of.ensures)

pub flow_tile-requires-clause-edges : goal.flow_tile-requires-clause-edges
flow_tile-requires-clause-edges g c =
    let plan = c.args.plan.now in
    let s = c.args.span in
    let program = c.args.program.now in
    let known = c.args.known.now in
    let edges = c.args.edges.now in
    let into = c.args.into.now in
    let out = c.args.out.now in
    let ts : List Tile = map arc_value c.args.tiles.now in
    let is = beginning arc_value c.tiles_of_operations_are_cuts.ensures plan s program known c.args.task edges into out c.args.tiles.now c.requires.planned c.requires.task c.requires.flow c.requires.edges c.requires.tiles in
    flow_edges plan s program known c.args.task edges into out ts is c.task-task.result c.section.result.now _ c.task-task.ensures c.section.ensures c.tiling.result.now c.tiling.ensures c.flow_op.result (rw c.flow_op.ensures at c.scope_of.ensures)

pub flow_tile-requires-clause-reads : goal.flow_tile-requires-clause-reads
flow_tile-requires-clause-reads g c =
    let plan = c.args.plan.now in
    let s = c.args.span in
    let program = c.args.program.now in
    let known = c.args.known.now in
    let edges = c.args.edges.now in
    let into = c.args.into.now in
    let out = c.args.out.now in
    let ts : List Tile = map arc_value c.args.tiles.now in
    let is = beginning arc_value c.tiles_of_operations_are_cuts.ensures plan s program known c.args.task edges into out c.args.tiles.now c.requires.planned c.requires.task c.requires.flow c.requires.edges c.requires.tiles in
    (onward_done program s known c.task-task.result.step, flow_read plan s program known c.args.task edges into out ts is c.task-task.result c.section.result.now _ c.task-task.ensures c.section.ensures c.tiling.result.now c.tiling.ensures)

pub returns : goal.returns
returns g c =
    let plan = c.args.plan.now in
    let s = c.args.span in
    let program = c.args.program.now in
    let known = c.args.known.now in
    let edges = c.args.edges.now in
    let into = c.args.into.now in
    let out = c.args.out.now in
    let ts : List Tile = map arc_value c.args.tiles.now in
    let is = beginning arc_value c.tiles_of_operations_are_cuts.ensures plan s program known c.args.task edges into out c.args.tiles.now c.requires.planned c.requires.task c.requires.flow c.requires.edges c.requires.tiles in
    flow_begins plan s program known c.args.task edges into out ts is c.task-task.result c.section.result.now _ c.task-task.ensures c.section.ensures c.tiling.result.now c.flow_op.result (g.K.FlowKit.work_of c.in_ok-work.work) c.tiling.ensures (rw c.flow_op.ensures at c.scope_of.ensures) c.in_ok-work.ensures.op
    (c.in_ok-work.ensures.work (onward_done program s known c.task-task.result.step) (flow_read plan s program known c.args.task edges into out ts is c.task-task.result c.section.result.now _ c.task-task.ensures c.section.ensures c.tiling.result.now c.tiling.ensures))
