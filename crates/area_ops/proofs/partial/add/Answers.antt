use Rattle.std.proofs.Common.{◌≡◌, ◌+◌, ◌≤◌, ap, sym, subst, ◌∙◌, arith, to_z, of_z, w64, int_cmp}
use Rattle.std.proofs.lemmas.Grind.{common_steps}
use Rattle.std.proofs.lemmas.Int.{ints}
use Rattle.std.specs.BTreeMap.{get}
use Rattle.std.specs.Option.{unwrap_or}
use Rattle.text_base.specs.Limits.{most_cells}
use Rattle.area_ops.specs.declared.tally.Tally.{Tally}
use Rattle.area_ops.specs.inside.Tallies.{IsTally, seen_from, tally_at, tally_join}
use Rattle.area_ops.proofs.MapLemmas.{added_in, at_found, seen-sound}
use Rattle.area_ops.proofs.TallyLemmas.{sound-tally_join}
use Rattle.area_ops.proofs.partial.add.Goals as goal

pub join-requires-clause-self_sound : goal.join-requires-clause-self_sound
join-requires-clause-self_sound c =
    let k = to_z w64 (of_z w64 c.args.class) in
    let old = c.or_insert-tally.ensures.value ∙ (ap (λ o. unwrap_or o c.none.result) c.in_ok-areas.ensures.value
    ∙ (ap (unwrap_or (get int_cmp c.args.areas.now k)) c.none.ensures.value ∙ sym (at_found c.args.areas.now k))) in
    subst IsTally (sym old) (c.requires.old k)

pub join-requires-clause-few : goal.join-requires-clause-few
join-requires-clause-few c =
    let f = c.ranges.class.sfits in
    let k = to_z w64 (of_z w64 c.args.class) in
    let same : k ≡ c.args.class = omega (arith, ints) in
    let old = c.or_insert-tally.ensures.value ∙ (ap (λ o. unwrap_or o c.none.result) c.in_ok-areas.ensures.value
    ∙ (ap (unwrap_or (get int_cmp c.args.areas.now k)) c.none.ensures.value ∙ sym (at_found c.args.areas.now k))) in
    subst (λ (t : Tally). t.count + c.args.more.count ≤ most_cells) (sym (old ∙ ap (tally_at c.args.areas.now) same)) c.requires.few

pub returns-clause-tallies : goal.returns-clause-tallies
returns-clause-tallies c =
    let f = c.ranges.class.sfits in
    let k = to_z w64 (of_z w64 c.args.class) in
    let same : k ≡ c.args.class = omega (arith, ints) in
    let old = c.or_insert-tally.ensures.value ∙ (ap (λ o. unwrap_or o c.none.result) c.in_ok-areas.ensures.value
    ∙ (ap (unwrap_or (get int_cmp c.args.areas.now k)) c.none.ensures.value ∙ sym (at_found c.args.areas.now k))) in
    λ own. added_in c.args.areas.now _ c.args.class k c.join.result c.args.more own same (c.join.ensures.value ∙ ap (λ (t : Tally). tally_join t c.args.more) old)
    (let h = (c.in_ok-areas.ensures.update.0 c.join.result).0 own in grind (arith, common_steps, h))

pub returns-clause-sound : goal.returns-clause-sound
returns-clause-sound c = λ own.
    subst IsTally (sym (returns-clause-tallies c own))
    (sound-tally_join (tally_at c.args.areas.now own) (seen_from own c.args.class c.args.more) (c.requires.old own) (seen-sound own c.args.class c.args.more c.requires.more))
