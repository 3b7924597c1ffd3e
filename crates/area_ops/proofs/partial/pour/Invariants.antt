use Rattle.std.proofs.Common.{◌≡◌, ℤ}
use Rattle.area_ops.specs.inside.Tallies.{IsTally, tally_at, tally_join, with_entries}
use Rattle.area_ops.proofs.partial.pour.Given as goal

-- with the entries that are left, each class has what it is to have
abbrev pub invariant-loop-class : goal.invariant-loop-class
invariant-loop-class l = record {
  left : (class : ℤ) → with_entries class (tally_at l.into class) l.class-iterator ≡ tally_join (tally_at l.initial.into class) (tally_at l.from class);
  sound : (class : ℤ) → IsTally (tally_at l.into class);
}
