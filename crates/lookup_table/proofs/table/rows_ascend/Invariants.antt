use Rattle.std.proofs.Common.{◌≡◌, length}
use Rattle.lookup_table.specs.inside.Steps.{rows_ascend}
use Rattle.lookup_table.proofs.table.rows_ascend.Given as goal

-- the rows so far ascend
abbrev pub invariant-loop-row : goal.invariant-loop-row
invariant-loop-row l = rows_ascend l.rest ≡ rows_ascend l.rows

abbrev pub decreases-loop-row : goal.decreases-loop-row
decreases-loop-row l = length l.rest
