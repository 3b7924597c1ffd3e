use Rattle.std.proofs.Common.{◌≡◌, ap, ◌∙◌, rules, arith, to_z, of_z, w64, FitsSigned, int_cmp}
use Rattle.std.specs.BTreeMap.{get}
use Rattle.std.specs.Map.Iter.{deref_pair}
use Rattle.std.proofs.lemmas.Int.{ints}
use Rattle.std.proofs.lemmas.Map.Iter.{rest_more}
use Rattle.area_ops.specs.inside.Leaders.{different_of, leader_with}
use Rattle.area_ops.proofs.LeaderLemmas.{led_step, room}
use Rattle.area_ops.proofs.results.leaders.Goals as goal

pub with-leader-requires : goal.with-leader-requires
with-leader-requires c =
    let k = c.in-Some.field-0-0.now.0 in
    let r = room k (get int_cmp c.loop-class.leaders k) c.loop-class.class-iterator c.args.counts.now.entries (c.loop-class.invariant k) in
    let few = c.into_iter-class-iterator.ensures.into_iter_gives.1 in
    let e = ap different_of (c.copied.ensures ∙ c.get.ensures.value) in
    omega (arith, r, few, e)

pub loop-class-preserved : goal.loop-class-preserved
loop-class-preserved c =
    let k = c.in-Some.field-0-0.now.0 in
    let n = c.in-Some.field-0-0.now.1 in
    let f : FitsSigned w64 k = search rules in
    let same : to_z w64 (of_z w64 k) ≡ k = omega (arith, ints) in
    let g : FitsSigned w64 n = search rules in
    let number : to_z w64 (of_z w64 n) ≡ n = omega (arith, ints) in
    let rest = rest_more deref_pair c.loop-class.class-iterator c.next.new.self c.next.result (c.in-Some.field-0-0, c.in-Some.count) c.in-Some.is c.next.ensures.steps in
    led_step c.loop-class.leaders c.insert.new.self k (to_z w64 (of_z w64 k)) n c.in-Some.count.now c.with-leader.result c.loop-class.class-iterator c.next.new.self c.args.counts.now.entries same
    (c.with-leader.ensures ∙ (ap (λ o. leader_with o (to_z w64 (of_z w64 n)) c.in-Some.count.now) (c.copied.ensures ∙ c.get.ensures.value)
    ∙ ap (λ z. leader_with (get int_cmp c.loop-class.leaders k) z c.in-Some.count.now) number))
    (λ q. c.in_ok-insert.ensures.updates.0 q) rest c.loop-class.invariant
