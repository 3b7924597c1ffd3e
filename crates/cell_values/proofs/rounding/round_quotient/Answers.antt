use Rattle.std.proofs.Common.{rules, arith, ◌≡◌, ◌∙◌, refl, suc, ℤ, pos, negsuc, neg_ℤ, ◌-ℤ◌, ◌<ℤ◌, ◌≤ℤ◌, unsigned_abs, FitsSigned}
use Rattle.std.proofs.lemmas.Int.{ints, to_z-of_z}
use mir.Syntax.{w128}
use Rattle.cell_values.specs.Rounding.{nearest, nearest_quotient}
use Rattle.cell_values.proofs.rounding.round_quotient.Goals as goal

-- the nearest one, where the divisor is below 0
below : (n d : ℤ) → d <ℤ pos 0 → nearest (pos 0 -ℤ n) (unsigned_abs (pos 0 -ℤ d)) ≡ nearest_quotient n d
below n (pos d) h = absurd (omega (arith, ints, h))
below n (negsuc d) h =
    let top : pos 0 -ℤ n ≡ neg_ℤ n = omega (arith, ints) in
    let bottom : unsigned_abs (pos 0 -ℤ negsuc d) ≡ suc d = omega (arith, ints) in
    cc

-- the nearest one, where it is above
above : (n d : ℤ) → pos 0 ≤ℤ d → nearest n (unsigned_abs d) ≡ nearest_quotient n d
above n (pos d) h = refl
above n (negsuc d) h = absurd (omega (arith, ints, h))

pub returns-then-d-lt0 : goal.returns-then-d-lt0
returns-then-d-lt0 c =
    let n = c.args.n in
    let d = c.args.d in
    let top : FitsSigned w128 n = c.ranges.n in
    let bottom : FitsSigned w128 d = c.ranges.d in
    let top_negative : FitsSigned w128 (pos 0 -ℤ n) = search rules in
    let bottom_negative : FitsSigned w128 (pos 0 -ℤ d) = search rules in
    let rounded : FitsSigned w128 c.round_div.result = search rules in
    let negative : d <ℤ pos 0 = search rules in
    simp to_z-of_z ((simp to_z-of_z at c.round_div.ensures.value) ∙ below n d negative)

pub returns-else-d-lt0 : goal.returns-else-d-lt0
returns-else-d-lt0 c =
    let n = c.args.n in
    let d = c.args.d in
    let top : FitsSigned w128 n = c.ranges.n in
    let bottom : FitsSigned w128 d = c.ranges.d in
    let rounded : FitsSigned w128 c.round_div-else-d-lt0.result = search rules in
    let positive : pos 0 ≤ℤ d = search rules in
    simp to_z-of_z ((simp to_z-of_z at c.round_div-else-d-lt0.ensures.value) ∙ above n d positive)
