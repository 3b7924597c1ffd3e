use Rattle.std.proofs.Common.{◌≡◌, ◌*◌, ap, sym, ◌∙◌, arith, rules, FitsSigned, Some, subst}
use Rattle.std.proofs.lemmas.Int.{to_z-of_z}
use mir.Syntax.{w128}
use Rattle.cell_values.specs.Decimal.{numerator, denominator, size_of, with_sign}
use Rattle.cell_values.specs.inside.Parts.{decimal_with, IsBeyond, IsCut}
use Rattle.cell_values.proofs.Readings.{quotient-exact, quotient-part, quotient-beyond, denominator_pos}
use Rattle.cell_values.proofs.read.whole_in.Goals as goal

pub returns-in_default : goal.returns-in_default
unfolding numerator
returns-in_default c =
    let d = decimal_with c.args.parts.now in
    let one : 1 * size_of d ≡ size_of d = omega arith in
    quotient-beyond d.negative (size_of d) (denominator d) (denominator_pos d) (rw one at c.in_default.ensures)

pub returns-then-cut : goal.returns-then-cut
unfolding numerator
returns-then-cut c =
    let d = decimal_with c.args.parts.now in
    let one : 1 * size_of d ≡ size_of d = omega arith in
    let is : IsCut (size_of d) (denominator d) c.in-Some.cut = rw one at c.in-Some.ensures in
    let fits : FitsSigned w128 c.signed.result = search rules in
    quotient-exact d.negative (size_of d) (denominator d) (denominator_pos d) (sym is.exact ∙ c.if-cut.true) ∙ ap (λ q. Some (with_sign d.negative q)) (sym is.size) ∙ ap Some (sym c.signed.ensures ∙ sym (to_z-of_z w128 c.signed.result fits))

pub returns-else-cut : goal.returns-else-cut
unfolding numerator
returns-else-cut c =
    let d = decimal_with c.args.parts.now in
    let one : 1 * size_of d ≡ size_of d = omega arith in
    let is : IsCut (size_of d) (denominator d) c.in-Some.cut = rw one at c.in-Some.ensures in
    subst IsBeyond (sym (quotient-part d.negative (size_of d) (denominator d) (sym is.exact ∙ c.if-cut.false))) tt
