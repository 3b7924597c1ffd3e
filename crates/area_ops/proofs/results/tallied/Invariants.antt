use Rattle.std.proofs.Common.{◌≡◌, ℤ}
use Rattle.std.specs.Prelude.{option_map}
use Rattle.std.specs.BTreeMap.{get}
use Rattle.std.specs.Map.{lookup}
use Rattle.std.specs.Option.{option_or}
use Rattle.std.specs.Ordering.{int_cmp, int_eq}
use Rattle.area_ops.specs.inside.Tallies.{tally_result}
use Rattle.area_ops.proofs.results.tallied.Given as goal

-- with the entries that are left, each class has the result that it is to have
abbrev pub invariant-loop-class : goal.invariant-loop-class
invariant-loop-class l =
    (class : ℤ) → option_or (get int_cmp l.results class) (option_map (tally_result l.op) (lookup (λ own. int_eq class own) l.class-iterator))
    ≡ option_map (tally_result l.op) (get int_cmp l.areas class)
