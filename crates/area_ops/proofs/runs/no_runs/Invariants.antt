use Rattle.std.proofs.Common.{◌≡◌, ℕ, ◌<◌, length}
use Rattle.area_ops.specs.inside.Runs.{run_at, class_slot}
use Rattle.area_ops.specs.inside.Tallies.{no_tally}
use Rattle.area_ops.proofs.runs.no_runs.Given as goal

-- the runs of the slots before
abbrev pub invariant-loop-class : goal.invariant-loop-class
invariant-loop-class l = record {
  size : length l.runs.items ≡ l.class;
  own : (slot : ℕ) → slot < l.class → class_slot (run_at l.runs.items slot).class ≡ slot;
  none : (slot : ℕ) → slot < l.class → (run_at l.runs.items slot).tally ≡ no_tally;
}
