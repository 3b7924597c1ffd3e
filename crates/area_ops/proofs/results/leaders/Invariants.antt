use Rattle.std.proofs.Common.{◌≡◌, ℤ, None}
use Rattle.std.specs.BTreeMap.{get}
use Rattle.std.specs.Ordering.{int_cmp}
use Rattle.area_ops.specs.inside.Leaders.{led_by_entries}
use Rattle.area_ops.proofs.results.leaders.Given as goal

-- with the entries that are left, each class has the leader that it is to have
abbrev pub invariant-loop-class : goal.invariant-loop-class
invariant-loop-class l = (class : ℤ) → led_by_entries class (get int_cmp l.leaders class) l.class-iterator ≡ led_by_entries class None l.counts.entries
