use Rattle.std.proofs.Common.{ap, ◌∙◌, arith}
use Rattle.area_ops.specs.declared.tally.Tally.{Tally}
use Rattle.area_ops.specs.inside.Tallies.{tally_at, tally_join}
use Rattle.area_ops.proofs.MapLemmas.{nothing_sound, poured_first}
use Rattle.area_ops.proofs.partial.poured.Goals as goal

pub pour-requires-clause-into : goal.pour-requires-clause-into
pour-requires-clause-into c = (nothing_sound c.new-areas.result c.new-areas.ensures.empty).sound

pub pour-requires-clause-few : goal.pour-requires-clause-few
pour-requires-clause-few c = λ class.
    let none = (nothing_sound c.new-areas.result c.new-areas.ensures.empty).few class in
    let few = c.requires.few class in
    omega (arith, none, few)

pub pour-requires-2-clause-into : goal.pour-requires-2-clause-into
pour-requires-2-clause-into c = c.in_ok-pour.ensures.sound

pub pour-requires-2-clause-few : goal.pour-requires-2-clause-few
pour-requires-2-clause-few c = λ class.
    let e = ap (λ (t : Tally). t.count) (poured_first c.new-areas.result c.pour.new.into c.args.a.now class c.new-areas.ensures.empty (c.requires.a class) (c.in_ok-pour.ensures.tallies class)) in
    let few = c.requires.few class in
    omega (arith, e, few)

pub returns-clause-tallies : goal.returns-clause-tallies
returns-clause-tallies c = λ class.
    c.in_ok-pour-2.ensures.tallies class
    ∙ ap (λ (t : Tally). tally_join t (tally_at c.args.b.now class))
    (poured_first c.new-areas.result c.pour.new.into c.args.a.now class c.new-areas.ensures.empty (c.requires.a class) (c.in_ok-pour.ensures.tallies class))
