use Rattle.std.proofs.Common.{◌≡◌, ◌++◌, length}
use Rattle.time_series.specs.Written.{step_lines}
use Rattle.time_series.proofs.writer.put_rows.Given as goal

-- what stands there and the lines of the rows that are left make the whole
abbrev pub invariant-loop-row : goal.invariant-loop-row
invariant-loop-row l = l.out.items ++ step_lines l.kind l.rest ≡ l.initial.out.items ++ step_lines l.kind l.rows

abbrev pub decreases-loop-row : goal.decreases-loop-row
decreases-loop-row l = length l.rest
