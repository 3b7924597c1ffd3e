use Rattle.std.proofs.Common.{ap, ◌∙◌}
use Rattle.time_series.specs.Form.{SeriesValue}
use Rattle.time_series.proofs.Search.{some_any, none_any}
use Rattle.time_series.proofs.series.Series.row_of.Goals as goal

pub returns-in-Some-clause-none : goal.returns-in-Some-clause-none
returns-in-Some-clause-none c = some_any _ c.as_slice.result.now c.args.self.now.rows c.in-Some.row.now (c.as_slice.ensures.value ∙ ap (λ (s : SeriesValue). s.rows) c.self.view_is) c.in-Some.ensures

pub returns-in-None-clause-none : goal.returns-in-None-clause-none
returns-in-None-clause-none c = none_any _ c.as_slice.result.now c.args.self.now.rows (c.as_slice.ensures.value ∙ ap (λ (s : SeriesValue). s.rows) c.self.view_is) c.in-None.ensures
