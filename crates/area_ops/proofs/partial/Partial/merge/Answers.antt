use Rattle.std.proofs.Common.{◌+◌, ap, sym, subst, ◌∙◌, refl, arith}
use Rattle.text_base.specs.Limits.{most_cells}
use Rattle.area_ops.specs.Partials.{PartialValue, StandsFor}
use Rattle.area_ops.specs.inside.Tallies.{tally_at}
use Rattle.area_ops.proofs.MapLemmas.{joined_few}
use Rattle.area_ops.proofs.CountLemmas.{bounded}
use Rattle.area_ops.proofs.PlaceLemmas.{merged}
use Rattle.area_ops.proofs.partial.Partial.merge.Goals as goal

pub returns-clause-stands : goal.returns-clause-stands
returns-clause-stands c = λ xs ys s t.
    let p : PartialValue = record { op = c.self.inside.op; cells = c.self.inside.cells; tallies = c.self.inside.areas.entries; counts = c.self.inside.counts.entries } in
    let q : PartialValue = record { op = c.other.inside.op; cells = c.other.inside.cells; tallies = c.other.inside.areas.entries; counts = c.other.inside.counts.entries } in
    let r : PartialValue = record { op = c.self.inside.op; cells = c.self.inside.cells + c.other.inside.cells; tallies = c.in_ok-areas.areas.entries; counts = c.in_ok-counts.counts.entries } in
    merged p q r xs ys (ap (λ (v : PartialValue). v.op) c.self.view_is ∙ (c.requires.op ∙ sym (ap (λ (v : PartialValue). v.op) c.other.view_is)))
    refl refl c.in_ok-areas.ensures.tallies c.in_ok-counts.ensures.counts
    (subst (λ (v : PartialValue). StandsFor v xs) (sym c.self.view_is) s) (subst (λ (v : PartialValue). StandsFor v ys) (sym c.other.view_is) t)

pub invariant_of-self : goal.invariant_of-self
invariant_of-self c =
    let a = ap (λ (p : PartialValue). p.cells) c.self.view_is in
    let b = ap (λ (p : PartialValue). p.cells) c.other.view_is in
    let few = c.requires.few in (
      omega (arith, a, b, few),
      joined_few c.self.inside.cells c.other.inside.cells (tally_at c.self.inside.areas) (tally_at c.other.inside.areas) (tally_at c.in_ok-areas.areas)
          c.self.invariant.1 c.other.invariant.1 c.in_ok-areas.ensures.tallies c.in_ok-areas.ensures.sound,
      bounded most_cells (c.self.inside.cells + c.other.inside.cells) c.in_ok-counts.counts.entries
          (λ own.
          let e = c.in_ok-counts.ensures.counts own in
          let p = c.self.invariant.2.few own in let q = c.other.invariant.2.few own in
          omega (arith, e, p, q)) c.in_ok-counts.ensures.sound,
    )
