use Rattle.std.proofs.Common.{[], Some, sym, ap, ◌∙◌, arith}
use Rattle.time_series.specs.declared.row.SeriesRow.{SeriesRow}
use Rattle.time_series.proofs.Search.{step_beyond, step_other, step_here}
use Rattle.time_series.proofs.series.find_step.Goals as goal

pub returns-then-place-rows : goal.returns-then-place-rows
returns-then-place-rows c =
    sym (step_beyond c.args.rows.now (record { step = 0; cells = [] }) c.requires c.args.step c.count_before-place.result c.count_before-place.ensures.point c.if-place-rows.true)

pub returns-then-row-step : goal.returns-then-row-step
returns-then-row-step c =
    let same = ap (λ (row : SeriesRow). row.step) c.index-rows-place.is in
    sym (step_other c.args.rows.now c.index-rows-place.result c.requires c.args.step c.count_before-place.result c.count_before-place.ensures.point (omega arith) (λ h. c.if-row-step.true (same ∙ h)))

pub returns : goal.returns
returns c =
    let same = ap (λ (row : SeriesRow). row.step) c.index-rows-place.is in
    ap (λ (row : SeriesRow). Some row) c.index-rows-place.is
    ∙ sym (step_here c.args.rows.now c.index-rows-place.result c.requires c.args.step c.count_before-place.result c.count_before-place.ensures.point (omega arith) (sym same ∙ c.if-row-step.false))
