use Rattle.std.proofs.Common.{◌≡◌, ◌≤◌, drop, length}
use Rattle.run_session.specs.inside.Columns.{first_places}
use Rattle.run_session.proofs.samples.first_places.Given as goal

-- the ids of the places from this one on, with the first place of each
abbrev pub invariant-place : goal.invariant-place
invariant-place l = record {
  entries : l.places.entries ≡ first_places l.place (drop l.place l.ids);
  below : l.place ≤ length l.ids;
}

abbrev pub decreases-place : goal.decreases-place
decreases-place l = l.place
