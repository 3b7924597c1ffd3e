use Rattle.std.proofs.Common.{◌≡◌, ℕ, ◌*◌, length}
use Rattle.tile_map.specs.Rects.{place_in}
use Rattle.region_meaning.specs.Windows.{window_outcome}
use Rattle.window_ops.specs.inside.Extremes.{extreme_op}
use Rattle.window_ops.specs.inside.Outcomes.{AreOutcomes}
use Rattle.window_ops.proofs.extremes.extreme_part.Given as goal

-- the outcomes of the rows before
abbrev pub invariant-loop-row : goal.invariant-loop-row
invariant-loop-row l = record {
  size : length l.out.cells.items ≡ l.row * l.width;
  each : AreOutcomes (λ (i : ℕ). window_outcome (extreme_op l.extreme) l.rows l.cols l.k l.cells (place_in l.cols l.inner i)) (l.row * l.width) l.out.cells.items l.out.over;
}
