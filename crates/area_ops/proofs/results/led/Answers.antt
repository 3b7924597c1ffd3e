use Rattle.std.proofs.Common.{◌≡◌, rules, arith, to_z, of_z, w64, FitsSigned}
use Rattle.std.specs.Cmp.{int_cmp_total}
use Rattle.std.specs.Map.Iter.{deref_pair}
use Rattle.std.proofs.lemmas.Int.{ints}
use Rattle.std.proofs.lemmas.Map.Iter.{btree_map_turn, rest_more}
use Rattle.area_ops.specs.inside.Leaders.{led_result}
use Rattle.area_ops.proofs.MapLemmas.{filled_step}
use Rattle.area_ops.proofs.results.led.Goals as goal

pub loop-class-preserved : goal.loop-class-preserved
loop-class-preserved c =
    let k = c.in-Some.class.now in
    let f : FitsSigned w64 k = search rules in
    let same : to_z w64 (of_z w64 k) ≡ k = omega (arith, ints) in
    let rest = rest_more deref_pair c.loop-class.class-iterator c.next.new.self c.next.result (c.in-Some.class, c.in-Some.leader) c.in-Some.is c.next.ensures.steps in
    let turn = btree_map_turn deref_pair c.loop-class.yielded c.into_iter-class-iterator.result c.loop-class.class-iterator c.next.new.self c.next.result (c.in-Some.class, c.in-Some.leader)
    c.loop-class.yielded_by c.in-Some.is c.next.ensures.steps int_cmp_total c.args.leaders.now c.into_iter-class-iterator.ensures.into_iter_gives.0 c.into_iter-class-iterator.ensures.into_iter_gives.5 in
    filled_step (led_result c.args.op) c.loop-class.results c.insert.new.self c.args.leaders.now k (to_z w64 (of_z w64 k)) c.in-Some.leader.now c.result.result c.loop-class.class-iterator c.next.new.self
    same c.result.ensures (λ q. c.in_ok-insert.ensures.updates.0 q) rest turn.1 c.loop-class.invariant
