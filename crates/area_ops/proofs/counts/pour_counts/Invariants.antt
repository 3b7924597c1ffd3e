use Rattle.std.proofs.Common.{◌≡◌, ◌+◌}
use Rattle.std.specs.List.Sorted.{IsStrictlySortedBy}
use Rattle.std.specs.Map.{keys_of}
use Rattle.text_base.specs.Limits.{most_cells}
use Rattle.area_ops.specs.inside.Counts.{AreCounts, Member, count_at, count_in, member_cmp}
use Rattle.area_ops.proofs.counts.pour_counts.Given as goal

-- with the entries that are left, each number of a class has what it is to have
abbrev pub invariant-loop-member : goal.invariant-loop-member
invariant-loop-member l = record {
  left : (own : Member) → count_at l.into own + count_in l.member-iterator own ≡ count_at l.initial.into own + count_at l.from own;
  sorted : IsStrictlySortedBy member_cmp (keys_of l.member-iterator);
  sound : AreCounts most_cells l.into.entries;
}
