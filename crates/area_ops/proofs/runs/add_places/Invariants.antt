use Rattle.std.proofs.Common.{◌≡◌, ℤ}
use Rattle.region_meaning.specs.Areas.{area_places, numbers_of}
use Rattle.area_ops.specs.inside.Runs.{AreRuns, tally_with_runs}
use Rattle.area_ops.specs.inside.Tallies.{AreTallies, IsTally, tally_at, number_tally}
use Rattle.area_ops.proofs.runs.add_places.Given as goal

-- the tallies of the places so far
abbrev pub invariant-loop-place : goal.invariant-loop-place
invariant-loop-place l = record {
  numbers : (class : ℤ) → tally_with_runs l.areas l.runs class ≡ number_tally (numbers_of l.op (area_places l.values l.classes l.place) class);
  sound : AreTallies l.place (tally_with_runs l.areas l.runs);
  map : (class : ℤ) → IsTally (tally_at l.areas class);
  runs : AreRuns l.runs;
}
