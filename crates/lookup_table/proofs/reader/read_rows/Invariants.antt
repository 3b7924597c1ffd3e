use Rattle.std.proofs.Common.{◌≡◌, ◌+◌, ◌<◌, ◌^◌, length}
use Rattle.std.specs.List.{All}
use Rattle.cell_values.specs.Kinds.{IsValue}
use Rattle.text_base.specs.Lines.{lines_at, lines_of}
use Rattle.lookup_table.specs.inside.Reading.{rows_read}
use Rattle.lookup_table.specs.inside.Steps.{behind_rows, rows_view}
use Rattle.lookup_table.proofs.reader.read_rows.Given as goal

-- the rows so far and those of the lines that are left are those of the text
abbrev pub invariant-loop-line : goal.invariant-loop-line
invariant-loop-line l = record {
  same : behind_rows (rows_view l.fn.keys l.rows.items) (rows_read l.fn.keys l.fn.kind (lines_at l.number l.rest)) ≡ rows_read l.fn.keys l.fn.kind (lines_of l.fn.text);
  few : l.number + length l.rest < 2 ^ 32;
  values : All (λ row. IsValue l.fn.kind row.result) l.rows.items;
}

abbrev pub decreases-loop-line : goal.decreases-loop-line
decreases-loop-line l = length l.rest
