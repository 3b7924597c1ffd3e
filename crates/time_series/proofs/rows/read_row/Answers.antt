use Rattle.std.proofs.Common.{◌≡◌, List, ℕ, length, Ok, sym, ap, ◌∙◌, subst}
use Rattle.std.proofs.lemmas.Result.{err_from_is_err_and}
use Rattle.time_series.specs.declared.fault.ReadSeries.{ReadSeries}
use Rattle.time_series.specs.Words.{line_words}
use Rattle.time_series.specs.inside.Reading.{at_line, row_of_words, step_row_read}
use Rattle.time_series.specs.inside.Steps.{AnswersFault, words_left}
use Rattle.time_series.proofs.WordSteps.{words_all}
use Rattle.time_series.proofs.RowSteps.{width_bad, row_bad, order_bad, row_good, fault_stays, line_gives}
use Rattle.time_series.proofs.rows.read_row.Goals as goal

pub returns-then-count_words-width-clause-row : goal.returns-then-count_words-width-clause-row
returns-then-count_words-width-clause-row c =
    subst (λ (why : ReadSeries). AnswersFault why (at_line c.args.line.number (step_row_read c.args.kind c.args.width c.args.before c.args.line.bytes.now))) (sym c.fault_in.ensures)
    (ap (at_line c.args.line.number) (width_bad c.args.kind c.args.width c.args.before c.args.line.bytes.now (λ h. c.if-count_words-width.true (c.count_words.ensures ∙ h))))

pub returns-in_err-row-clause-row : goal.returns-in_err-row-clause-row
returns-in_err-row-clause-row c =
    let bytes : List ℕ = c.args.line.bytes.now in
    let right : length (line_words bytes) ≡ c.args.width = sym c.count_words.ensures ∙ c.if-count_words-width.false in
    let p = err_from_is_err_and c.from_residual.result c.from_residual.ensures.1 in
    rw (p.1, p.2)
    (fault_stays c.in_err-row.field-0.0 c.args.line.number (row_of_words c.args.kind (words_left (length bytes) bytes)) (step_row_read c.args.kind c.args.width c.args.before bytes)
    (λ k bad. row_bad c.args.kind c.args.width c.args.before bytes k right (ap (row_of_words c.args.kind) (sym (words_all bytes)) ∙ bad))
    c.in_err-row.ensures.row)

pub returns-then-row-before-clause-row : goal.returns-then-row-before-clause-row
returns-then-row-before-clause-row c =
    let bytes : List ℕ = c.args.line.bytes.now in
    let right : length (line_words bytes) ≡ c.args.width = sym c.count_words.ensures ∙ c.if-count_words-width.false in
    let good : row_of_words c.args.kind (line_words bytes) ≡ Ok c.in_ok-row.row =
    ap (row_of_words c.args.kind) (sym (words_all bytes)) ∙ line_gives c.args.line.number (row_of_words c.args.kind (words_left (length bytes) bytes)) c.in_ok-row.row c.in_ok-row.ensures.row in
    subst (λ (why : ReadSeries). AnswersFault why (at_line c.args.line.number (step_row_read c.args.kind c.args.width c.args.before bytes))) (sym c.fault_in-then-row-before.ensures)
    (ap (at_line c.args.line.number) (order_bad c.args.kind c.args.width c.args.before bytes c.in_ok-row.row right good c.if-row-before.true))

pub returns-clause-row : goal.returns-clause-row
returns-clause-row c =
    let bytes : List ℕ = c.args.line.bytes.now in
    let right : length (line_words bytes) ≡ c.args.width = sym c.count_words.ensures ∙ c.if-count_words-width.false in
    let good : row_of_words c.args.kind (line_words bytes) ≡ Ok c.in_ok-row.row =
    ap (row_of_words c.args.kind) (sym (words_all bytes)) ∙ line_gives c.args.line.number (row_of_words c.args.kind (words_left (length bytes) bytes)) c.in_ok-row.row c.in_ok-row.ensures.row in
    ap (at_line c.args.line.number) (row_good c.args.kind c.args.width c.args.before bytes c.in_ok-row.row right good c.if-row-before.false)
