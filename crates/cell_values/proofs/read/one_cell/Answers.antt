use Rattle.cell_values.proofs.Readings.{value-from_cell, cell-from_value}
use Rattle.cell_values.proofs.read.one_cell.Goals as goal

pub returns : goal.returns
returns c = λ kind text z. (value-from_cell kind text z, λ (d, is, has). cell-from_value kind text d z is has)
