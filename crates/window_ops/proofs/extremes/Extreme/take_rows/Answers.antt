use Rattle.std.proofs.Common.{◌≡◌, ℕ, ◌+◌, ◌-◌, ◌*◌, ◌<◌, length, sym, ap, ◌∙◌, arith}
use Rattle.cell_values.specs.declared.cell.Cell.{Cell}
use Rattle.cell_values.specs.declared.cell.Cell.TheVariants.{Mv}
use Rattle.tile_map.specs.Cuts.{cell_at}
use Rattle.window_ops.specs.inside.Extremes.{extreme_cell}
use Rattle.window_ops.specs.inside.Outcomes.{over}
use Rattle.window_ops.proofs.Grid.{over-more}
use Rattle.window_ops.proofs.extremes.Extreme.take_rows.Goals as goal

pub loop-row-preserved : goal.loop-row-preserved
loop-row-preserved c = λ col below.
    let cols = length c.args.columns.now in
    let extreme = extreme_cell c.args.self in
    let top = c.args.top in
    let row = c.loop-row.row in
    let n = row - top in
    let f : ℕ → Cell = λ r. cell_at c.args.cells.now (r * cols + col) in
    let row_cells = c.row_of-row_cells.result.now in
    let same : length c.loop-row.columns ≡ cols = omega arith in
    let size = c.row_of-row_cells.ensures.size in
    let in_row : col < length row_cells = omega arith in
    let in_cols : col < length c.loop-row.columns = omega arith in
    let there : row ≡ top + n = omega arith in
    let more : n + 1 ≡ row + 1 - top = omega arith in
    c.take_row.ensures col in_row
    ∙ (ap (λ (x : Cell). extreme x (cell_at row_cells col)) (c.loop-row.invariant col below)
    ∙ (ap (extreme (over extreme Mv f top n))
    (c.row_of-row_cells.ensures.each col in_cols
    ∙ (ap (λ (m : ℕ). cell_at c.args.cells.now (row * m + col)) same
    ∙ ap f there))
    ∙ (sym (over-more extreme Mv f top n)
    ∙ ap (over extreme Mv f top) more)))
