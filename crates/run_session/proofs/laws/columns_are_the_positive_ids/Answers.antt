-- The columns of all time series.
use Rattle.run_session.proofs.ColumnLaws.{columns_are_ids}
use Rattle.run_session.proofs.laws.columns_are_the_positive_ids.Goals as goal

pub returns : goal.returns
returns c = columns_are_ids
