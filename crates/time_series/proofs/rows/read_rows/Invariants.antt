use Rattle.std.proofs.Common.{◌≡◌, ◌+◌, ◌<◌, ◌≤◌, ◌^◌, length}
use Rattle.std.specs.List.{All}
use Rattle.text_base.specs.Lines.{lines_at}
use Rattle.time_series.specs.inside.Reading.{step_rows_read}
use Rattle.time_series.specs.inside.Steps.{behind_all, IsKeptSeries}
use Rattle.time_series.proofs.rows.read_rows.Given as goal

-- the rows so far and those of the lines that are left are those of the head's
abbrev pub invariant-loop-line : goal.invariant-loop-line
invariant-loop-line l = record {
  same : behind_all l.rows.items (step_rows_read l.fn.kind l.fn.head.width l.before (lines_at l.number l.rest)) ≡ step_rows_read l.fn.kind l.fn.head.width 0 (lines_at l.fn.head.number l.fn.head.rest.now);
  few : l.number + length l.rest < 2 ^ 32;
  kept : IsKeptSeries l.fn.kind l.rows.items;
  below : All (λ row. row.step ≤ l.before) l.rows.items;
}

abbrev pub decreases-loop-line : goal.decreases-loop-line
decreases-loop-line l = length l.rest
