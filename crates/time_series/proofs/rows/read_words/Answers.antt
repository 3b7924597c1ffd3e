use Rattle.std.proofs.Common.{List, ℕ, length, sym, ap, subst}
use Rattle.std.proofs.lemmas.Result.{err_from_is_err_and}
use Rattle.time_series.specs.declared.fault.ReadSeries.{ReadSeries}
use Rattle.time_series.specs.inside.Reading.{at_line, cells_read, row_of_words}
use Rattle.time_series.specs.inside.Steps.{AnswersFault, words_left}
use Rattle.time_series.proofs.WordSteps.{words_by}
use Rattle.time_series.proofs.RowSteps.{words_none, step_bad, cells_bad, words_row, fault_stays, line_gives}
use Rattle.time_series.proofs.rows.read_words.Goals as goal

pub returns-in_default-clause-row : goal.returns-in_default-clause-row
returns-in_default-clause-row c =
    let bytes : List ℕ = c.args.line.bytes.now in
    subst (λ (why : ReadSeries). AnswersFault why (at_line c.args.line.number (row_of_words c.args.kind (words_left (length bytes) bytes)))) (sym c.fault_in.ensures)
    (ap (at_line c.args.line.number) (words_none c.args.kind _ (words_by (length bytes) bytes _ c.in_default.ensures.tokens)))

pub returns-in-Err-clause-row : goal.returns-in-Err-clause-row
returns-in-Err-clause-row c =
    let bytes : List ℕ = c.args.line.bytes.now in
    subst (λ (why : ReadSeries). AnswersFault why (at_line c.args.line.number (row_of_words c.args.kind (words_left (length bytes) bytes)))) (sym c.fault_in-in-Err.ensures)
    (ap (at_line c.args.line.number) (step_bad c.args.kind _ (words_left (length bytes) c.in-Some.rest.now) c.in-Some.word.bytes.now c.in-Err.why (words_by (length bytes) bytes _ c.in-Some.ensures.tokens) c.in-Err.ensures))

pub returns-in_err-cells-clause-row : goal.returns-in_err-cells-clause-row
returns-in_err-cells-clause-row c =
    let bytes : List ℕ = c.args.line.bytes.now in
    let p = err_from_is_err_and c.from_residual.result c.from_residual.ensures.1 in
    rw (p.1, p.2)
    (fault_stays c.in_err-cells.field-0.0 c.args.line.number (cells_read c.args.kind (words_left (length bytes) c.in-Some.rest.now)) (row_of_words c.args.kind (words_left (length bytes) bytes))
    (λ k bad. cells_bad c.args.kind _ (words_left (length bytes) c.in-Some.rest.now) c.in-Some.word.bytes.now c.in-Ok.step k (words_by (length bytes) bytes _ c.in-Some.ensures.tokens) c.in-Ok.ensures bad)
    c.in_err-cells.ensures.cells)

pub returns-clause-row : goal.returns-clause-row
returns-clause-row c =
    let bytes : List ℕ = c.args.line.bytes.now in
    ap (at_line c.args.line.number)
    (words_row c.args.kind _ (words_left (length bytes) c.in-Some.rest.now) c.in-Some.word.bytes.now c.in-Ok.step c.in_ok-cells.cells (words_by (length bytes) bytes _ c.in-Some.ensures.tokens) c.in-Ok.ensures
    (line_gives c.args.line.number (cells_read c.args.kind (words_left (length bytes) c.in-Some.rest.now)) c.in_ok-cells.cells c.in_ok-cells.ensures.cells))
