use Rattle.std.proofs.Common.{◌≡◌, ◌++◌, length}
use Rattle.time_series.specs.Written.{spaced_cells}
use Rattle.time_series.proofs.writer.put_cells.Given as goal

-- what stands there and the cells that are left make the whole
abbrev pub invariant-loop-cell : goal.invariant-loop-cell
invariant-loop-cell l = l.out.items ++ spaced_cells l.kind l.rest ≡ l.initial.out.items ++ spaced_cells l.kind l.cells

abbrev pub decreases-loop-cell : goal.decreases-loop-cell
decreases-loop-cell l = length l.rest
