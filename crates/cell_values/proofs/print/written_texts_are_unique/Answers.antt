use Rattle.cell_values.proofs.WrittenLaws.{written_unique}
use Rattle.cell_values.proofs.print.written_texts_are_unique.Goals as goal

pub returns : goal.returns
returns c = written_unique
