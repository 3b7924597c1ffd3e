use Rattle.std.proofs.Common.{◌≡◌, ℕ, ◌<◌, ◌+◌, ◌-◌, length, min, fold, slice_range}
use Rattle.std.specs.Prelude.{Ok}
use Rattle.cell_values.specs.declared.cell.Cell.TheVariants.{Mv}
use Rattle.tile_map.specs.Parts.{Outcome}
use Rattle.window_ops.specs.inside.Extremes.{extreme_cell}
use Rattle.window_ops.specs.inside.Outcomes.{AreOutcomes}
use Rattle.window_ops.proofs.extremes.Extreme.push_row.Given as goal

-- the outcomes of the columns before
abbrev pub invariant-loop-col : goal.invariant-loop-col
invariant-loop-col l = record {
  size : length l.out.cells.items ≡ length l.initial.out.cells.items + (l.col - l.left);
  each : (f : ℕ → Outcome) (places : ℕ) → AreOutcomes f places l.initial.out.cells.items l.initial.out.over →
      ((i : ℕ) → i < l.width → f (places + i) ≡ Ok (fold (extreme_cell l.self) Mv (slice_range l.columns (l.left + i - l.k) (min (length l.columns) (l.left + i + 1 + l.k))))) →
      AreOutcomes f (places + (l.col - l.left)) l.out.cells.items l.out.over;
}
