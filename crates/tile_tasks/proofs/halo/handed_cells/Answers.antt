-- The tiles that are handed in have the cells.
use Rattle.std.proofs.Common.{◌∙◌, List, length, map, ap}
use Rattle.std.proofs.lemmas.List.{length-map}
use Rattle.std.specs.Arc.{arc_value}
use Rattle.tile_map.proofs.CutLemmas.{length-over}
use Rattle.task_tiles.specs.declared.tile.Tile.{Tile}
use Rattle.tile_tasks.proofs.HaloTiles.{gathered_cells, handed_count, handed_has}
use Rattle.tile_tasks.proofs.halo.handed_cells.Goals as goal

pub gather-requires-clause-has : goal.gather-requires-clause-has
gather-requires-clause-has c = λ tile below meets.
    let ts : List Tile = map arc_value c.args.tiles.now in
    rw (c.around-handed.ensures.across, c.around-handed.ensures.met, c.around-handed.ensures.tiles)
    (handed_has c.args.tiling.now c.args.rect c.requires.handed.0 ts tile _ (length-map c.args.tiles.now arc_value) c.requires.rect c.requires.some c.requires.handed.1 below meets)

pub gather-requires-clause-cells : goal.gather-requires-clause-cells
gather-requires-clause-cells c = λ tile below meets.
    let ts : List Tile = map arc_value c.args.tiles.now in
    rw (c.around-handed.ensures.across, c.around-handed.ensures.met, c.around-handed.ensures.tiles)
    (handed_count c.args.tiling.now c.args.rect c.requires.handed.0 ts tile c.requires.rect c.requires.some c.requires.handed.1 below meets)

pub returns-clause-size : goal.returns-clause-size
returns-clause-size c =
    let g = c.args.tiling.now in
    let ts : List Tile = map arc_value c.args.tiles.now in
    let is = rw (c.around-handed.ensures.across, c.around-handed.ensures.met, c.around-handed.ensures.tiles) at c.in_ok-got.ensures in
    ap length (is ∙ gathered_cells g c.args.rect c.requires.handed.0 ts c.requires.rect c.requires.some c.requires.handed.1) ∙ length-over g.cols c.args.rect c.requires.handed.0

pub returns-clause-cells : goal.returns-clause-cells
returns-clause-cells c = λ f stand.
    let ts : List Tile = map arc_value c.args.tiles.now in
    let is = rw (c.around-handed.ensures.across, c.around-handed.ensures.met, c.around-handed.ensures.tiles) at c.in_ok-got.ensures in
    is ∙ gathered_cells c.args.tiling.now c.args.rect f ts c.requires.rect c.requires.some stand
