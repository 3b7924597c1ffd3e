use Rattle.grid_text.proofs.Laws.{first_faults_told}
use Rattle.grid_text.proofs.reader.first_faults_are_told.Goals as goal

pub returns : goal.returns
returns c = first_faults_told
