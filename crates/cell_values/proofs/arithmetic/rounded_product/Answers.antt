use Rattle.std.proofs.Common.{rules, arith, ◌*ℤ◌, FitsSigned, ◌^◌, w64}
use Rattle.std.proofs.lemmas.Int.{ints, to_z-of_z, fits_signed_mul}
use mir.Syntax.{w128}
use Rattle.cell_values.proofs.arithmetic.rounded_product.Goals as goal

pub returns : goal.returns
returns c =
    let a = c.args.a in
    let b = c.args.b in
    let first : FitsSigned w64 a = c.ranges.a in
    let second : FitsSigned w64 b = c.ranges.b in
    let first_wide : FitsSigned w128 a = search rules in
    let second_wide : FitsSigned w128 b = search rules in
    let product : FitsSigned w128 (a *ℤ b) = fits_signed_mul w128 a b (2 ^ 63) (2 ^ 63) (omega (arith, ints)) (omega (arith, ints)) (omega arith) in
    let rounded : FitsSigned w128 c.round_div.result = search rules in
    simp to_z-of_z (simp to_z-of_z at c.round_div.ensures.value)
