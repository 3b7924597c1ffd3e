use Rattle.text_base.proofs.LinesUnique.{lines_unique}
use Rattle.text_base.proofs.line.lines_are_unique.Goals as goal

pub returns : goal.returns
returns c = lines_unique
