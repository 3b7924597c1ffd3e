use Rattle.std.proofs.Common.{rules, arith, ◌≡◌, ℤ, ◌-ℤ◌, ◌*ℤ◌, int_div, int_rem, w64, FitsSigned}
use Rattle.std.proofs.lemmas.Int.{ints, quot-rem, to_z-of_z}
use mir.Syntax.{w128}
use Rattle.cell_values.proofs.arithmetic.remainder.Goals as goal

-- the remainder, by the quotient
rest_is : (a b : ℤ) → int_rem a b ≡ a -ℤ b *ℤ int_div a b
rest_is a b = omega (arith, ints, quot-rem a b)

pub returns-clause-value : goal.returns-clause-value
returns-clause-value c =
    let a = c.args.a in
    let b = c.args.b in
    let first : FitsSigned w64 a = c.ranges.a in
    let second : FitsSigned w64 b = c.ranges.b in
    let first_wide : FitsSigned w128 a = search rules in
    let second_wide : FitsSigned w128 b = search rules in
    let rest : FitsSigned w64 (int_rem a b) = search rules in
    let rest_wide : FitsSigned w128 (int_rem a b) = search rules in
    simp to_z-of_z (rest_is a b)
