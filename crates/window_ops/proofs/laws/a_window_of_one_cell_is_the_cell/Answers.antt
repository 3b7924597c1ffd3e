use Rattle.window_ops.proofs.OneCellLemmas.{one_cell}
use Rattle.window_ops.proofs.laws.a_window_of_one_cell_is_the_cell.Goals as goal

pub returns : goal.returns
returns c = one_cell
