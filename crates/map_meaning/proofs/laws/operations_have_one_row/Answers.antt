use Rattle.map_meaning.proofs.Callers.{each_its_row}
use Rattle.map_meaning.proofs.RowLaws.{its_meaning}
use Rattle.map_meaning.proofs.laws.operations_have_one_row.Goals as goal

pub returns : goal.returns
returns c = record { row = its_meaning; only = each_its_row }
