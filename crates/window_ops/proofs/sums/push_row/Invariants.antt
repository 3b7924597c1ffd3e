use Rattle.std.proofs.Common.{◌≡◌, ℕ, ◌<◌, ◌+◌, ◌-◌, length, min}
use Rattle.tile_map.specs.Parts.{Outcome}
use Rattle.window_ops.specs.inside.Outcomes.{AreOutcomes, over}
use Rattle.window_ops.specs.inside.Sums.{no_sum, outcome_of_sum, sum_at, sum_join}
use Rattle.window_ops.proofs.sums.push_row.Given as goal

-- the outcomes of the columns before
abbrev pub invariant-loop-col : goal.invariant-loop-col
invariant-loop-col l = record {
  size : length l.out.cells.items ≡ length l.initial.out.cells.items + (l.col - l.left);
  each : (f : ℕ → Outcome) (places : ℕ) → AreOutcomes f places l.initial.out.cells.items l.initial.out.over →
      ((i : ℕ) → i < l.width → f (places + i) ≡ outcome_of_sum l.summed (over sum_join no_sum (sum_at l.columns) (l.left + i - l.k) (min (length l.columns) (l.left + i + 1 + l.k) - (l.left + i - l.k)))) →
      AreOutcomes f (places + (l.col - l.left)) l.out.cells.items l.out.over;
}
