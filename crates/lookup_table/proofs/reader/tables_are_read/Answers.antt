use Rattle.lookup_table.proofs.Laws.{tables_read}
use Rattle.lookup_table.proofs.reader.tables_are_read.Goals as goal

pub returns : goal.returns
returns c = tables_read
