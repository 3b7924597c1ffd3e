use Rattle.std.proofs.Common.{List, Ok, sym, ap, ◌∙◌, subst, arith}
use Rattle.std.specs.List.{All}
use Rattle.std.proofs.lemmas.List.Elements.{All-push}
use Rattle.cell_values.specs.declared.cell.Cell.{Cell}
use Rattle.cell_values.specs.Kinds.{IsCell}
use Rattle.time_series.specs.declared.fault.ReadSeries.{ReadSeries}
use Rattle.time_series.specs.inside.Reading.{at_line, cells_read}
use Rattle.time_series.specs.inside.Steps.{AnswersFault, behind_all, words_left}
use Rattle.time_series.proofs.WordSteps.{words_by}
use Rattle.time_series.proofs.RowSteps.{cell_more, cell_bad, cells_done}
use Rattle.time_series.proofs.rows.read_cells.Goals as goal

pub returns-in-Err-clause-cells : goal.returns-in-Err-clause-cells
returns-in-Err-clause-cells c =
    subst (λ (why : ReadSeries). AnswersFault why (at_line c.args.number (cells_read c.args.kind (words_left c.args.len c.args.bytes.now)))) (sym c.fault_in.ensures)
    (ap (at_line c.args.number)
    (sym c.loop-word.invariant.same
    ∙ ap (λ ws. behind_all c.loop-word.cells.items (cells_read c.args.kind ws)) (words_by c.args.len c.loop-word.rest.now _ c.in-Some.ensures.tokens)
    ∙ sym (cell_bad c.args.kind c.loop-word.cells.items c.in-Some.word.bytes.now (words_left c.args.len c.in-Some.behind.now) c.in-Err.why c.in-Err.ensures.reading)))

pub loop-word-preserved : goal.loop-word-preserved
loop-word-preserved c = record {
  same =
      ap (λ (cells : List Cell). behind_all cells (cells_read c.args.kind (words_left c.args.len c.in-Some.behind.now))) c.in_ok-push-in-Ok.ensures.items
      ∙ cell_more c.args.kind c.loop-word.cells.items c.in-Some.word.bytes.now (words_left c.args.len c.in-Some.behind.now) c.in-Ok.cell c.in-Ok.ensures.reading
      ∙ ap (λ ws. behind_all c.loop-word.cells.items (cells_read c.args.kind ws)) (sym (words_by c.args.len c.loop-word.rest.now _ c.in-Some.ensures.tokens))
      ∙ c.loop-word.invariant.same;
  values = subst (λ (cells : List Cell). All (IsCell c.args.kind) cells) (sym c.in_ok-push-in-Ok.ensures.items) (All-push (IsCell c.args.kind) c.loop-word.cells.items c.in-Ok.cell c.loop-word.invariant.values c.in-Ok.ensures.value);
  within = omega (arith, c.in-Some.ensures.shorter, c.loop-word.invariant.within);
}

pub returns-clause-cells : goal.returns-clause-cells
returns-clause-cells c =
    ap (at_line c.args.number)
    (sym c.loop-word.invariant.same
    ∙ ap (λ ws. behind_all c.loop-word.cells.items (cells_read c.args.kind ws)) (words_by c.args.len c.loop-word.rest.now _ c.in_default.ensures.tokens)
    ∙ cells_done c.args.kind c.loop-word.cells.items
    ∙ ap (λ (cells : List Cell). Ok cells) (sym c.from_vec.ensures))
