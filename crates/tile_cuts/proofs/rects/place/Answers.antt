use Rattle.std.proofs.Common.{arith}
use Rattle.tile_map.specs.Rects.{place_in}
use Rattle.tile_map.proofs.Callers.{holds_cell}
use Rattle.tile_cuts.proofs.rects.place.Goals as goal

pub overflow_add-result-3 : goal.overflow_add-result-3
unfolding place_in
overflow_add-result-3 c =
    let g = c.args.tiling.now in
    let below = holds_cell g.rows g.cols c.args.rect c.args.number c.requires.rect c.requires.number in
    omega (arith, below.1, g.sides.few_cells)

pub returns-clause-below : goal.returns-clause-below
unfolding place_in
returns-clause-below c = (holds_cell c.args.tiling.now.rows c.args.tiling.now.cols c.args.rect c.args.number c.requires.rect c.requires.number).1
