use Rattle.std.proofs.Common.{◌≡◌}
use Rattle.flow_task.specs.inside.Begins.{missing_first, over_cells}
use Rattle.flow_task.proofs.begin.missing_counts.Given as goal

-- the one_if of the first cells are there
abbrev pub invariant-loop-cell : goal.invariant-loop-cell
invariant-loop-cell l = l.missing.items ≡ over_cells (missing_first l.orient l.drain l.tiling l.tile) l.cell
