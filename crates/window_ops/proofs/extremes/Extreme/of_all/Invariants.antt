use Rattle.std.proofs.Common.{◌≡◌, fold, take}
use Rattle.cell_values.specs.declared.cell.Cell.TheVariants.{Mv}
use Rattle.window_ops.specs.inside.Extremes.{extreme_cell}
use Rattle.window_ops.proofs.extremes.Extreme.of_all.Given as goal

abbrev pub invariant-loop-cell : goal.invariant-loop-cell
invariant-loop-cell l = l.found ≡ fold (extreme_cell l.self) Mv (take l.cell-index l.cells)
