use Rattle.std.proofs.Common.{rules, arith, ◌≡◌, ℤ, pos, negsuc, unsigned_abs, ◌<ℤ◌, FitsSigned}
use Rattle.std.proofs.lemmas.Int.{ints, to_z-of_z}
use mir.Syntax.{w128}
use Rattle.cell_values.specs.Rounding.{IsNearest, nearest}
use Rattle.cell_values.proofs.Nearest.{nearest-unique}
use Rattle.cell_values.proofs.rounding.round_div.Goals as goal

-- the nearest one, for a divisor with a sign
nearest_is : (n d q : ℤ) → pos 0 <ℤ d → IsNearest n d q → q ≡ nearest n (unsigned_abs d)
nearest_is n (pos d) q some is = nearest-unique n d q (omega (arith, ints, some)) is
nearest_is n (negsuc d) q some is = absurd (omega (arith, ints, some))

pub returns-clause-value : goal.returns-clause-value
returns-clause-value c =
    let n : FitsSigned w128 c.args.n = c.ranges.n in
    let d : FitsSigned w128 c.args.d = c.ranges.d in
    let fits : FitsSigned w128 c.round_signed.result = search rules in
    let is : IsNearest c.args.n c.args.d c.round_signed.result = simp to_z-of_z at c.round_signed.ensures in
    simp to_z-of_z (nearest_is c.args.n c.args.d c.round_signed.result c.requires.divisor is)
