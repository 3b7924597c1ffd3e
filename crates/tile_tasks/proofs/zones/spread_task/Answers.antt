-- The areas are those of the operation.
use Rattle.std.proofs.Common.{◌∙◌, List, map, ap, sym}
use Rattle.std.specs.Arc.{arc_value}
use Rattle.region_meaning.specs.declared.area.AreaOp.{AreaOp}
use Rattle.region_meaning.specs.AreaResults.{area_outcome}
use Rattle.tile_map.specs.Rects.{place_in}
use Rattle.tile_map.specs.Tiles.{rect_of, tile_count}
use Rattle.map_meaning.specs.Maps.{CellAt}
use Rattle.task_laws.specs.Zones.{tile_zones}
use Rattle.tile_cuts.specs.TileParts.{part_in}
use Rattle.task_tiles.specs.TaskTiles.{classes_at, values_at}
use Rattle.tile_tasks.specs.inside.Areas.{class_operand, zone_op}
use Rattle.tile_tasks.specs.inside.Tiles.{tile_handed}
use Rattle.task_tiles.specs.declared.tile.Tile.{Tile}
use Rattle.tile_tasks.proofs.OwnLemmas.{own_shown, own_shows}
use Rattle.tile_tasks.proofs.ZoneMeanings.{class_known, classes_are, partial_op, partial_stands, spread_is}
use Rattle.tile_tasks.proofs.zones.spread_task.Goals as goal

pub own_cells-requires-clause-known : goal.own_cells-requires-clause-known
own_cells-requires-clause-known c = rw c.class_operand-classes.ensures (class_known c.args.program.now c.args.span c.args.known.now c.args.tiling.now c.args.step c.args.tile c.args.scope c.args.operation c.requires.zone c.requires.task)

pub shown-class_cells-requires : goal.shown-class_cells-requires
shown-class_cells-requires c =
    let ts : List Tile = map arc_value c.args.tiles.now in
    let own = rw c.class_operand-classes.ensures at c.in_ok-own.ensures in
    own_shown c.args.program.now c.args.span c.args.known.now c.args.tiling.now c.args.step c.args.tile (class_operand c.args.scope c.args.operation) c.in_ok-own.own 1 ts c.requires.reads.0 own c.requires.reads.1.of_classes c.tile_size-size.result c.tile_size-size.ensures.value

pub returns : goal.returns
returns c = λ done reads.
    let program = c.args.program.now in
    let known = c.args.known.now in
    let g = c.args.tiling.now in
    let o = c.args.operation in
    let s = c.args.scope in
    let step = c.args.step in
    let r = rect_of g c.args.tile in
    let ts : List Tile = map arc_value c.args.tiles.now in
    let f = values_at program known step done o in
    let h = classes_at program known step done o in
    let zones = tile_zones g f h (tile_count g) in
    let total = c.handed_total-total.result.now in
    let own = rw c.class_operand-classes.ensures at c.in_ok-own.ensures in
    c.in_ok-part.ensures f h (partial_stands (zone_op s) zones (tile_handed ts 0) total reads.total c.handed_total-total.ensures)
    (λ i below.
    ap (λ (x : CellAt). x i) c.shown-class_cells.ensures.cell
    ∙ (own_shows program c.args.span known g step c.args.tile (class_operand s o) c.in_ok-own.own 1 ts done own reads.of_classes reads.agrees i below
    ∙ ap (λ (x : CellAt). x (place_in g.cols r i)) (sym (classes_are program known step done s o c.requires.zone c.requires.scope))))
    ∙ (ap (λ (a : AreaOp). part_in g.cols r (λ place. area_outcome a zones (h place))) (partial_op (zone_op s) zones (tile_handed ts 0) total reads.total c.handed_total-total.ensures)
    ∙ spread_is c.areas_look_at_all_tiles.ensures program known g step done s o r c.requires.zone c.requires.scope c.requires.task.rows c.requires.task.cols)
