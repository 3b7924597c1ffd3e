use Rattle.std.proofs.Common.{◌≡◌, ◌≤◌, subst, rules, arith, to_z, of_z, w64, FitsSigned}
use Rattle.std.specs.Cmp.{int_cmp_total}
use Rattle.std.specs.Map.Iter.{deref_pair}
use Rattle.std.proofs.lemmas.Int.{ints}
use Rattle.std.proofs.lemmas.Map.Iter.{btree_map_turn, rest_more}
use Rattle.text_base.specs.Limits.{most_cells}
use Rattle.area_ops.specs.declared.tally.Tally.{Tally}
use Rattle.area_ops.specs.inside.Tallies.{IsTally, tally_result}
use Rattle.area_ops.proofs.MapLemmas.{at_some, filled_step}
use Rattle.area_ops.proofs.results.tallied.Goals as goal

pub result-requires-clause-few : goal.result-requires-clause-few
result-requires-clause-few c =
    let turn = btree_map_turn deref_pair c.loop-class.yielded c.into_iter-class-iterator.result c.loop-class.class-iterator c.next.new.self c.next.result (c.in-Some.class, c.in-Some.tally)
    c.loop-class.yielded_by c.in-Some.is c.next.ensures.steps int_cmp_total c.args.areas.now c.into_iter-class-iterator.ensures.into_iter_gives.0 c.into_iter-class-iterator.ensures.into_iter_gives.5 in
    subst (λ (t : Tally). t.count ≤ most_cells) (at_some c.args.areas.now c.in-Some.class.now c.in-Some.tally.now turn.1) (c.requires.sound.few c.in-Some.class.now)

pub result-requires-clause-sound : goal.result-requires-clause-sound
result-requires-clause-sound c =
    let turn = btree_map_turn deref_pair c.loop-class.yielded c.into_iter-class-iterator.result c.loop-class.class-iterator c.next.new.self c.next.result (c.in-Some.class, c.in-Some.tally)
    c.loop-class.yielded_by c.in-Some.is c.next.ensures.steps int_cmp_total c.args.areas.now c.into_iter-class-iterator.ensures.into_iter_gives.0 c.into_iter-class-iterator.ensures.into_iter_gives.5 in
    subst IsTally (at_some c.args.areas.now c.in-Some.class.now c.in-Some.tally.now turn.1) (c.requires.sound.sound c.in-Some.class.now)

pub loop-class-preserved : goal.loop-class-preserved
loop-class-preserved c =
    let k = c.in-Some.class.now in
    let f : FitsSigned w64 k = search rules in
    let same : to_z w64 (of_z w64 k) ≡ k = omega (arith, ints) in
    let rest = rest_more deref_pair c.loop-class.class-iterator c.next.new.self c.next.result (c.in-Some.class, c.in-Some.tally) c.in-Some.is c.next.ensures.steps in
    let turn = btree_map_turn deref_pair c.loop-class.yielded c.into_iter-class-iterator.result c.loop-class.class-iterator c.next.new.self c.next.result (c.in-Some.class, c.in-Some.tally)
    c.loop-class.yielded_by c.in-Some.is c.next.ensures.steps int_cmp_total c.args.areas.now c.into_iter-class-iterator.ensures.into_iter_gives.0 c.into_iter-class-iterator.ensures.into_iter_gives.5 in
    filled_step (tally_result c.args.op) c.loop-class.results c.insert.new.self c.args.areas.now k (to_z w64 (of_z w64 k)) c.in-Some.tally.now c.result.result c.loop-class.class-iterator c.next.new.self
    same c.result.ensures (λ q. c.in_ok-insert.ensures.updates.0 q) rest turn.1 c.loop-class.invariant
