use Rattle.cell_values.proofs.DecimalLaws.{decimal-from_text, text-from_decimal}
use Rattle.cell_values.proofs.decimal.one_decimal.Goals as goal

pub returns : goal.returns
returns c = λ text d. (text-from_decimal text d, decimal-from_text text d)
