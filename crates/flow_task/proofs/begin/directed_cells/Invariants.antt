use Rattle.std.proofs.Common.{◌≡◌}
use Rattle.flow_task.specs.inside.Begins.{coded_first, over_cells}
use Rattle.flow_task.proofs.begin.directed_cells.Given as goal

-- what is told of the first cells is there
abbrev pub invariant-loop-cell : goal.invariant-loop-cell
invariant-loop-cell l = l.directed.items ≡ over_cells (coded_first l.codes l.tiling l.tile) l.cell
