use Rattle.std.proofs.Common.{◌≡◌, ℕ, ◌<◌, ◌*◌, ◌+◌, ◌-◌, length}
use Rattle.cell_values.specs.declared.cell.Cell.TheVariants.{Mv}
use Rattle.tile_map.specs.Cuts.{cell_at}
use Rattle.window_ops.specs.inside.Extremes.{extreme_cell}
use Rattle.window_ops.specs.inside.Outcomes.{over}
use Rattle.window_ops.proofs.extremes.Extreme.take_rows.Given as goal

-- the extremes of the rows before
abbrev pub invariant-loop-row : goal.invariant-loop-row
invariant-loop-row l = (col : ℕ) → col < length l.initial.columns → cell_at l.columns col ≡ over (extreme_cell l.self) Mv (λ row. cell_at l.cells (row * length l.initial.columns + col)) l.top (l.row - l.top)
