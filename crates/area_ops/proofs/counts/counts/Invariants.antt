use Rattle.std.proofs.Common.{◌≡◌, ◌≤◌, ℤ}
use Rattle.text_base.specs.Limits.{most_cells}
use Rattle.region_meaning.specs.Areas.{area_places, numbers_of}
use Rattle.region_meaning.specs.Numbers.{occurrences}
use Rattle.area_ops.specs.inside.Counts.{AreCounts, Member, count_at}
use Rattle.area_ops.proofs.counts.counts.Given as goal

-- the counts of the places so far
abbrev pub invariant-loop-place : goal.invariant-loop-place
invariant-loop-place l = record {
  counts : (class number : ℤ) → count_at l.counts (class, number) ≡ occurrences (numbers_of l.op (area_places l.values l.classes l.place) class) number;
  sound : AreCounts most_cells l.counts.entries;
  few : (own : Member) → count_at l.counts own ≤ l.place;
}
