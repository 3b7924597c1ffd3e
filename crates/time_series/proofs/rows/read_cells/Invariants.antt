use Rattle.std.proofs.Common.{◌≡◌, ◌≤◌, length}
use Rattle.std.specs.List.{All}
use Rattle.cell_values.specs.Kinds.{IsCell}
use Rattle.time_series.specs.inside.Reading.{cells_read}
use Rattle.time_series.specs.inside.Steps.{behind_all, words_left}
use Rattle.time_series.proofs.rows.read_cells.Given as goal

-- the cells so far and those of the words that are left are those of the words
abbrev pub invariant-loop-word : goal.invariant-loop-word
invariant-loop-word l = record {
  same : behind_all l.cells.items (cells_read l.fn.kind (words_left l.fn.len l.rest)) ≡ cells_read l.fn.kind (words_left l.fn.len l.fn.bytes);
  values : All (IsCell l.fn.kind) l.cells.items;
  within : length l.rest ≤ l.fn.len;
}

abbrev pub decreases-loop-word : goal.decreases-loop-word
decreases-loop-word l = length l.rest
