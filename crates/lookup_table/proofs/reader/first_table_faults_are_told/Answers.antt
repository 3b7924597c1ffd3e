use Rattle.lookup_table.proofs.Laws.{first_table_faults_told}
use Rattle.lookup_table.proofs.reader.first_table_faults_are_told.Goals as goal

pub returns : goal.returns
returns c = first_table_faults_told
