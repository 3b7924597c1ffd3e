use Rattle.cell_ops.proofs.Callers.{works_mean}
use Rattle.cell_ops.proofs.laws.works_give_what_operations_mean.Goals as goal

pub returns : goal.returns
returns c = works_mean
