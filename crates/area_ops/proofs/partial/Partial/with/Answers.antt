use Rattle.std.proofs.Common.{◌+◌, ap, sym, subst, ◌∙◌, refl, arith}
use Rattle.text_base.specs.Limits.{most_cells}
use Rattle.area_ops.specs.Partials.{PartialValue, StandsFor}
use Rattle.area_ops.specs.inside.Tallies.{tally_at}
use Rattle.area_ops.proofs.MapLemmas.{joined_few}
use Rattle.area_ops.proofs.CountLemmas.{bounded}
use Rattle.area_ops.proofs.PlaceLemmas.{merged}
use Rattle.area_ops.proofs.partial.Partial.with.Goals as goal

pub returns-clause-stands : goal.returns-clause-stands
returns-clause-stands c = λ xs ys s t.
    let p : PartialValue = record { op = c.both.inside.op; cells = c.both.inside.cells; tallies = c.both.inside.areas.entries; counts = c.both.inside.counts.entries } in
    let q : PartialValue = record { op = c.other.inside.op; cells = c.other.inside.cells; tallies = c.other.inside.areas.entries; counts = c.other.inside.counts.entries } in
    let r : PartialValue = record { op = c.both.inside.op; cells = c.both.inside.cells + c.other.inside.cells; tallies = c.pour.new.into.entries; counts = c.pour_counts.new.into.entries } in
    merged p q r xs ys (ap (λ (v : PartialValue). v.op) c.both.view_is ∙ (c.requires.op ∙ sym (ap (λ (v : PartialValue). v.op) c.other.view_is)))
    refl refl c.in_ok-pour.ensures.tallies c.in_ok-pour_counts.ensures.counts
    (subst (λ (v : PartialValue). StandsFor v xs) (sym c.both.view_is) s) (subst (λ (v : PartialValue). StandsFor v ys) (sym c.other.view_is) t)

pub invariant_of-both : goal.invariant_of-both
invariant_of-both c =
    let a = ap (λ (p : PartialValue). p.cells) c.both.view_is in
    let b = ap (λ (p : PartialValue). p.cells) c.other.view_is in
    let few = c.requires.few in (
      omega (arith, a, b, few),
      joined_few c.both.inside.cells c.other.inside.cells (tally_at c.both.inside.areas) (tally_at c.other.inside.areas) (tally_at c.pour.new.into)
          c.both.invariant.1 c.other.invariant.1 c.in_ok-pour.ensures.tallies c.in_ok-pour.ensures.sound,
      bounded most_cells (c.both.inside.cells + c.other.inside.cells) c.pour_counts.new.into.entries
          (λ own.
          let e = c.in_ok-pour_counts.ensures.counts own in
          let p = c.both.invariant.2.few own in let q = c.other.invariant.2.few own in
          omega (arith, e, p, q)) c.in_ok-pour_counts.ensures.sound,
    )
