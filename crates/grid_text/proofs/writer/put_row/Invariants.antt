use Rattle.std.proofs.Common.{◌≡◌, ◌++◌, length}
use Rattle.grid_text.specs.Written.{row_line}
use Rattle.grid_text.proofs.writer.put_row.Given as goal

-- what stands there and the line of the cells that are left make the whole
abbrev pub invariant-loop-cell : goal.invariant-loop-cell
invariant-loop-cell l = l.out.items ++ row_line l.kind l.rest ≡ l.initial.out.items ++ row_line l.kind l.row

abbrev pub decreases-loop-cell : goal.decreases-loop-cell
decreases-loop-cell l = length l.rest
