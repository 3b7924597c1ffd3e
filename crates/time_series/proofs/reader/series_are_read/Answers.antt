use Rattle.time_series.proofs.Laws.{series_read}
use Rattle.time_series.proofs.reader.series_are_read.Goals as goal

pub returns : goal.returns
returns c = series_read
