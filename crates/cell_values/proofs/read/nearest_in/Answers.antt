use Rattle.std.proofs.Common.{◌*◌, ap, sym, ◌∙◌, arith, rules, unsigned_abs, FitsSigned}
use Rattle.std.proofs.lemmas.Int.{to_z-of_z}
use mir.Syntax.{w128}
use Rattle.cell_values.specs.Decimal.{numerator, denominator, size_of, with_sign}
use Rattle.cell_values.specs.inside.Parts.{decimal_with}
use Rattle.cell_values.specs.Rounding.{nearest_size}
use Rattle.cell_values.proofs.Readings.{nearest-signed, nearest-cut, nearest-ge, abs_signed, denominator_pos}
use Rattle.cell_values.proofs.read.nearest_in.Goals as goal

pub returns-in_default : goal.returns-in_default
unfolding numerator
returns-in_default c =
    let d = decimal_with c.args.parts.now in
    let lower = denominator_pos d in
    let near = ap unsigned_abs (nearest-signed d.negative (size_of d) (denominator d) lower) ∙ abs_signed d.negative (nearest_size (1000000 * size_of d) (denominator d)) in
    let more = nearest-ge (1000000 * size_of d) (denominator d) lower in
    rw near (omega (arith, more, c.in_default.ensures))

pub returns : goal.returns
unfolding numerator
returns c =
    let d = decimal_with c.args.parts.now in
    let lower = denominator_pos d in
    let fits : FitsSigned w128 c.signed.result = search rules in
    nearest-signed d.negative (size_of d) (denominator d) lower ∙ ap (with_sign d.negative) (nearest-cut (1000000 * size_of d) (denominator d) c.in-Some.cut lower c.in-Some.ensures) ∙ sym c.signed.ensures ∙ sym (to_z-of_z w128 c.signed.result fits)
