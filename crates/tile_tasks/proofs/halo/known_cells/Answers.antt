-- The cells of a whole map.
use Rattle.std.proofs.Common.{◌∙◌, length, ap, refl}
use Rattle.tile_map.proofs.Callers.{length-cut_of}
use Rattle.tile_map.proofs.CutLemmas.{length-over}
use Rattle.cell_values.specs.declared.cell.Cell.TheVariants.{Mv}
use Rattle.tile_tasks.proofs.HaloTiles.{cells_everywhere}
use Rattle.tile_tasks.proofs.halo.known_cells.Goals as goal

pub returns-in_ok-cut-in-Cells-clause-size : goal.returns-in_ok-cut-in-Cells-clause-size
returns-in_ok-cut-in-Cells-clause-size c = ap length c.in_ok-cut-in-Cells.ensures ∙ length-cut_of c.args.tiling.now.cols c.in-Cells.cells.now c.args.rect

pub returns-in_ok-cut-in-Cells-clause-cells : goal.returns-in_ok-cut-in-Cells-clause-cells
returns-in_ok-cut-in-Cells-clause-cells c = rw c.in-Cells.is c.in_ok-cut-in-Cells.ensures

pub returns-in_ok-one-in-One-clause-size : goal.returns-in_ok-one-in-One-clause-size
returns-in_ok-one-in-One-clause-size c =
    ap length (c.in_ok-one-in-One.ensures ∙ cells_everywhere c.args.tiling.now.cols c.args.rect (λ i. c.in-One.cell) c.in-One.cell (λ i. refl) c.rect_size-size.result c.rect_size-size.ensures.value)
    ∙ length-over c.args.tiling.now.cols c.args.rect (λ i. c.in-One.cell)

pub returns-in_ok-one-in-One-clause-cells : goal.returns-in_ok-one-in-One-clause-cells
returns-in_ok-one-in-One-clause-cells c =
    rw c.in-One.is (c.in_ok-one-in-One.ensures ∙ cells_everywhere c.args.tiling.now.cols c.args.rect (λ i. c.in-One.cell) c.in-One.cell (λ i. refl) c.rect_size-size.result c.rect_size-size.ensures.value)

pub returns-in_ok-none-in-Unused-clause-size : goal.returns-in_ok-none-in-Unused-clause-size
returns-in_ok-none-in-Unused-clause-size c =
    ap length (c.in_ok-none-in-Unused.ensures ∙ cells_everywhere c.args.tiling.now.cols c.args.rect (λ i. Mv) Mv (λ i. refl) c.rect_size-size.result c.rect_size-size.ensures.value)
    ∙ length-over c.args.tiling.now.cols c.args.rect (λ i. Mv)

pub returns-in_ok-none-in-Unused-clause-cells : goal.returns-in_ok-none-in-Unused-clause-cells
returns-in_ok-none-in-Unused-clause-cells c =
    rw c.in-Unused.is (c.in_ok-none-in-Unused.ensures ∙ cells_everywhere c.args.tiling.now.cols c.args.rect (λ i. Mv) Mv (λ i. refl) c.rect_size-size.result c.rect_size-size.ensures.value)
