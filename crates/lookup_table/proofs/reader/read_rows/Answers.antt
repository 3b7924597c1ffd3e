use Rattle.std.proofs.Common.{◌+◌, List, sym, ap, ◌∙◌, subst, arith}
use Rattle.std.specs.List.{All}
use Rattle.std.proofs.lemmas.List.Elements.{All-push}
use Rattle.cell_values.specs.Kinds.{IsValue}
use Rattle.text_base.specs.Lines.{Line, line_view, lines_at, lines_of}
use Rattle.lookup_table.specs.declared.row.Row.{Row}
use Rattle.lookup_table.specs.declared.fault.ReadTable.{ReadTable}
use Rattle.lookup_table.specs.inside.Reading.{rows_read}
use Rattle.lookup_table.specs.inside.Steps.{behind_rows, rows_view, RowsFail}
use Rattle.lookup_table.proofs.Laws.{line_more, line_bad, lines_done}
use Rattle.lookup_table.proofs.reader.read_rows.Goals as goal

pub returns-in-Err-clause-rows : goal.returns-in-Err-clause-rows
returns-in-Err-clause-rows c =
    let lines : List Line = lines_at (c.in-Some.line.number + 1) c.in-Some.behind.now in
    subst (λ (why : ReadTable). RowsFail why (rows_read c.args.keys c.args.kind (lines_of c.args.text.now))) (sym c.fault_in.ensures)
    (sym c.loop-line.invariant.same
    ∙ ap (λ ls. behind_rows (rows_view c.args.keys c.loop-line.rows.items) (rows_read c.args.keys c.args.kind ls)) c.in-Some.ensures.lines
    ∙ sym (line_bad c.args.keys c.args.kind c.loop-line.rows.items (line_view c.in-Some.line) lines c.in-Err.kind c.in-Err.ensures.row))

pub loop-line-preserved : goal.loop-line-preserved
loop-line-preserved c =
    let lines : List Line = lines_at (c.in-Some.line.number + 1) c.in-Some.behind.now in
    record {
      same =
          ap (λ (rows : List Row). behind_rows (rows_view c.args.keys rows) (rows_read c.args.keys c.args.kind lines)) c.in_ok-push-in-Ok.ensures.items
          ∙ line_more c.args.keys c.args.kind c.loop-line.rows.items (line_view c.in-Some.line) lines c.in-Ok.row c.in-Ok.ensures.row
          ∙ ap (λ ls. behind_rows (rows_view c.args.keys c.loop-line.rows.items) (rows_read c.args.keys c.args.kind ls)) (sym c.in-Some.ensures.lines)
          ∙ c.loop-line.invariant.same;
      few = omega (arith, c.in-Some.ensures.few, c.loop-line.invariant.few);
      values = subst (λ (rows : List Row). All (λ row. IsValue c.args.kind row.result) rows) (sym c.in_ok-push-in-Ok.ensures.items) (All-push (λ row. IsValue c.args.kind row.result) c.loop-line.rows.items c.in-Ok.row c.loop-line.invariant.values c.in-Ok.ensures.value);
    }

pub returns-clause-rows : goal.returns-clause-rows
returns-clause-rows c =
    sym c.loop-line.invariant.same
    ∙ ap (λ ls. behind_rows (rows_view c.args.keys c.loop-line.rows.items) (rows_read c.args.keys c.args.kind ls)) c.in_default.ensures.lines
    ∙ lines_done c.args.keys c.args.kind c.loop-line.rows.items
