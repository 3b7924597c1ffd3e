use Rattle.std.proofs.Common.{ℤ}
use Rattle.area_ops.specs.inside.Tallies.{IsTally, tally_at}
use Rattle.area_ops.proofs.RunLemmas.{AreEnded}
use Rattle.area_ops.proofs.runs.end_runs.Given as goal

-- the runs of the slots before are in the map
abbrev pub invariant-loop-run : goal.invariant-loop-run
invariant-loop-run l = record {
  ended : AreEnded l.initial.areas l.areas l.runs l.run-index;
  sound : (own : ℤ) → IsTally (tally_at l.areas own);
}
