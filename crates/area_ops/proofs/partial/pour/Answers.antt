use Rattle.std.proofs.Common.{◌≡◌, ◌+◌, ◌≤◌, ℤ, ap, sym, subst, ◌∙◌, rules, arith, to_z, of_z, w64, FitsSigned}
use Rattle.std.proofs.lemmas.Int.{ints}
use Rattle.std.proofs.lemmas.Map.Iter.{btree_map_turn, rest_more}
use Rattle.std.specs.Cmp.{int_cmp_total}
use Rattle.std.specs.Map.Iter.{deref_pair}
use Rattle.text_base.specs.Limits.{most_cells}
use Rattle.area_ops.specs.inside.Tallies.{IsTally, tally_at, with_entries}
use Rattle.area_ops.proofs.MapLemmas.{at_some, entries_of_map, room}
use Rattle.area_ops.proofs.partial.pour.Goals as goal

pub loop-class-init : goal.loop-class-init
loop-class-init c = record {
  left = λ class.
      ap (with_entries class (tally_at c.args.into.now class)) c.into_iter-class-iterator.ensures.into_iter_gives.0
      ∙ entries_of_map class (tally_at c.args.into.now class) c.args.from.now c.into_iter-class-iterator.ensures.into_iter_gives.5;
  sound = c.requires.into;
}

pub add-requires-clause-more : goal.add-requires-clause-more
add-requires-clause-more c =
    let turn = btree_map_turn deref_pair c.loop-class.yielded c.into_iter-class-iterator.result c.loop-class.class-iterator c.next.new.self c.next.result (c.in-Some.class, c.in-Some.tally)
    c.loop-class.yielded_by c.in-Some.is c.next.ensures.steps int_cmp_total c.args.from.now c.into_iter-class-iterator.ensures.into_iter_gives.0 c.into_iter-class-iterator.ensures.into_iter_gives.5 in
    subst IsTally (at_some c.args.from.now c.in-Some.class.now c.in-Some.tally.now turn.1) (c.requires.from c.in-Some.class.now)

pub add-requires-clause-few : goal.add-requires-clause-few
add-requires-clause-few c =
    let f : FitsSigned w64 c.in-Some.class.now = search rules in
    let same : to_z w64 (of_z w64 c.in-Some.class.now) ≡ c.in-Some.class.now = omega (arith, ints) in
    let k = c.in-Some.class.now in
    let rest = rest_more deref_pair c.loop-class.class-iterator c.next.new.self c.next.result (c.in-Some.class, c.in-Some.tally) c.in-Some.is c.next.ensures.steps in
    subst (λ (z : ℤ). (tally_at c.loop-class.into z).count + c.in-Some.tally.now.count ≤ most_cells) (sym same)
    (room k (tally_at c.loop-class.into k) c.in-Some.tally.now (tally_at c.args.into.now k) (tally_at c.args.from.now k) c.next.new.self most_cells
    (sym (ap (with_entries k (tally_at c.loop-class.into k)) rest) ∙ c.loop-class.invariant.left k) (c.requires.few k))
