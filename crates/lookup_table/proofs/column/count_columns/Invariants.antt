use Rattle.std.proofs.Common.{◌≡◌, ◌+◌, ◌≤◌, length}
use Rattle.lookup_table.specs.inside.Reading.{columns_of}
use Rattle.lookup_table.specs.inside.Steps.{count_of, answer_by}
use Rattle.lookup_table.proofs.column.count_columns.Given as goal

-- the columns so far and those of the rest are those of the line
abbrev pub invariant-loop-behind : goal.invariant-loop-behind
invariant-loop-behind l = record {
  same : answer_by (λ n. l.count + n) (count_of (columns_of l.rest)) ≡ count_of (columns_of l.fn.line);
  within : l.count + length l.rest ≤ length l.fn.line;
}

abbrev pub decreases-loop-behind : goal.decreases-loop-behind
decreases-loop-behind l = length l.rest
