use Rattle.std.proofs.Common.{◌+◌, ◌≤◌, List, sym, ap, ◌∙◌, subst, arith}
use Rattle.std.specs.List.{All}
use Rattle.std.proofs.lemmas.Result.{err_from_is_err_and}
use Rattle.text_base.specs.Lines.{Line, line_view, lines_at}
use Rattle.time_series.specs.declared.row.SeriesRow.{SeriesRow}
use Rattle.time_series.specs.inside.Reading.{step_rows_read}
use Rattle.time_series.specs.inside.Steps.{AnswersFault, IsKeptSeries, behind_all}
use Rattle.time_series.proofs.RowSteps.{row_more, rows_bad, rows_done, kept_more, below_more}
use Rattle.time_series.proofs.rows.read_rows.Goals as goal

pub returns-in_err-row-clause-rows : goal.returns-in_err-row-clause-rows
returns-in_err-row-clause-rows c =
    let lines : List Line = lines_at (c.in-Some.line.number + 1) c.in-Some.behind.now in
    let p = err_from_is_err_and c.from_residual.result c.from_residual.ensures.1 in
    rw (p.1, p.2)
    (subst (AnswersFault c.in_err-row.field-0.0)
    (ap (λ ls. behind_all c.loop-line.rows.items (step_rows_read c.args.kind c.args.head.width c.loop-line.before ls)) (sym c.in-Some.ensures.lines) ∙ c.loop-line.invariant.same)
    (rows_bad c.args.kind c.args.head.width c.loop-line.before c.loop-line.rows.items (line_view c.in-Some.line) lines c.in_err-row.field-0.0 c.in_err-row.ensures.row))

pub loop-line-preserved : goal.loop-line-preserved
loop-line-preserved c =
    let lines : List Line = lines_at (c.in-Some.line.number + 1) c.in-Some.behind.now in
    let row : SeriesRow = c.in_ok-row.row in
    record {
      same =
          ap (λ (rows : List SeriesRow). behind_all rows (step_rows_read c.args.kind c.args.head.width row.step lines)) c.in_ok-push.ensures.items
          ∙ row_more c.args.kind c.args.head.width c.loop-line.before c.loop-line.rows.items (line_view c.in-Some.line) lines row c.in_ok-row.ensures.row
          ∙ ap (λ ls. behind_all c.loop-line.rows.items (step_rows_read c.args.kind c.args.head.width c.loop-line.before ls)) (sym c.in-Some.ensures.lines)
          ∙ c.loop-line.invariant.same;
      few = omega (arith, c.in-Some.ensures.few, c.loop-line.invariant.few);
      kept = subst (IsKeptSeries c.args.kind) (sym c.in_ok-push.ensures.items) (kept_more c.args.kind c.loop-line.rows.items row c.loop-line.before c.loop-line.invariant.kept c.loop-line.invariant.below c.in_ok-row.ensures.values c.in_ok-row.ensures.above);
      below = subst (λ (rows : List SeriesRow). All (λ earlier. earlier.step ≤ row.step) rows) (sym c.in_ok-push.ensures.items) (below_more c.loop-line.rows.items row c.loop-line.before c.loop-line.invariant.below c.in_ok-row.ensures.above);
    }

pub returns-clause-rows : goal.returns-clause-rows
returns-clause-rows c =
    sym c.loop-line.invariant.same
    ∙ ap (λ ls. behind_all c.loop-line.rows.items (step_rows_read c.args.kind c.args.head.width c.loop-line.before ls)) c.in_default.ensures.lines
    ∙ rows_done c.args.kind c.args.head.width c.loop-line.before c.loop-line.rows.items
