-- The cells of the operands.
use Rattle.std.proofs.Common.{◌+◌, ℕ, List, map, ◌∙◌, ap}
use Rattle.std.specs.Arc.{arc_value}
use Rattle.tile_tasks.specs.inside.Tasks.{many_for}
use Rattle.tile_tasks.specs.inside.Tiles.{tile_handed}
use Rattle.task_tiles.specs.declared.tile.Tile.{Tile}
use Rattle.tile_tasks.specs.inside.Own.{own_cell}
use Rattle.tile_tasks.proofs.local.computed.Goals as goal

pub returns : goal.returns
returns c =
    let o = c.args.operation in
    let xs = c.args.operands.now in
    let ts : List Tile = map arc_value c.args.tiles.now in
    let many = many_for c.args.span c.args.step 1 in
    let one = c.many-at_b.ensures.value in
    let two = c.many.ensures.value in
    let three = c.many-2.ensures.value in
    let b = c.shown-2.ensures.cell ∙ ap (λ (n : ℕ). own_cell xs.b (tile_handed ts n)) one in
    let c_cells = c.shown-3.ensures.cell ∙ (ap (λ (n : ℕ). own_cell xs.c (tile_handed ts (n + c.many.result))) one ∙ ap (λ (n : ℕ). own_cell xs.c (tile_handed ts (many o.a + n))) two) in
    let d_cells = c.shown-4.ensures.cell ∙ (ap (λ (n : ℕ). own_cell xs.d (tile_handed ts (n + c.many.result + c.many-2.result))) one ∙ (ap (λ (n : ℕ). own_cell xs.d (tile_handed ts (many o.a + n + c.many-2.result))) two ∙ ap (λ (n : ℕ). own_cell xs.d (tile_handed ts (many o.a + many o.b + n))) three)) in
    rw (c.shown.ensures.cell, b, c_cells, d_cells) at c.cell_part.ensures
