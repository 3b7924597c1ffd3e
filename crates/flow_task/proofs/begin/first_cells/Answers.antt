use Rattle.std.proofs.Common.{◌≡◌, ◌∙◌, ap, arith, length}
use Rattle.flow_task.specs.inside.Begins.{missing_first}
use Rattle.flow_task.proofs.Beginning.{over_many}
use Rattle.tile_map.specs.Rects.{cell_count}
use Rattle.flow_task.proofs.begin.first_cells.Goals as goal

pub first_queue-requires : goal.first_queue-requires
first_queue-requires g c =
    let many : length c.deref.result.now ≡ cell_count c.args.rect = ap length c.deref.ensures.value ∙ (ap length c.in_ok-missing.ensures ∙ over_many (missing_first c.orient-orient.result c.args.drain.now c.args.tiling.now c.args.tile) (cell_count c.args.rect)) in
    omega (arith, many, c.count_of-count.ensures.value, c.count_of-count.ensures.few)

pub returns-clause-room : goal.returns-clause-room
returns-clause-room g c =
    let many : length c.deref.result.now ≡ cell_count c.args.rect = ap length c.deref.ensures.value ∙ (ap length c.in_ok-missing.ensures ∙ over_many (missing_first c.orient-orient.result c.args.drain.now c.args.tiling.now c.args.tile) (cell_count c.args.rect)) in
    omega (arith, many, c.in_ok-queue.ensures.room)
