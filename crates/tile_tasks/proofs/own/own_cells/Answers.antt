use Rattle.std.proofs.Common.{◌∙◌, ap}
use Rattle.tile_map.specs.Cuts.{cut_of}
use Rattle.tile_map.specs.declared.rect.Rect.{Rect}
use Rattle.tile_tasks.proofs.OwnLemmas.{cut_own}
use Rattle.tile_tasks.proofs.own.own_cells.Goals as goal

pub returns-in_ok-cut-in-Cells : goal.returns-in_ok-cut-in-Cells
returns-in_ok-cut-in-Cells c =
    let g = c.args.tiling.now in
    let whole = c.in-Cells.cells.now in
    cut_own c.args.program.now c.args.span c.args.known.now g c.args.step c.args.tile c.args.operand whole c.from_vec.result
    (rw c.is_made.ensures at c.if-is_made.false)
    (c.from_vec.ensures ∙ (c.in_ok-cut-in-Cells.ensures ∙ ap (λ (r : Rect). cut_of g.cols whole r) c.rect.ensures.value))
    c.in-Cells.ensures.cell
