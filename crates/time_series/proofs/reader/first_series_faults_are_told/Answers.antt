use Rattle.time_series.proofs.Laws.{first_series_faults_told}
use Rattle.time_series.proofs.reader.first_series_faults_are_told.Goals as goal

pub returns : goal.returns
returns c = first_series_faults_told
