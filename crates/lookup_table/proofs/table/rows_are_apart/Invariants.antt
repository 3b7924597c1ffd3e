use Rattle.std.proofs.Common.{◌≡◌, length}
use Rattle.lookup_table.specs.inside.Steps.{rows_are_apart}
use Rattle.lookup_table.proofs.table.rows_are_apart.Given as goal

-- the rows so far stand apart
abbrev pub invariant-loop-row : goal.invariant-loop-row
invariant-loop-row l = rows_are_apart l.rest ≡ rows_are_apart l.rows

abbrev pub decreases-loop-row : goal.decreases-loop-row
decreases-loop-row l = length l.rest
