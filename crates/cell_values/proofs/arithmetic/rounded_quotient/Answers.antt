use Rattle.std.proofs.Common.{rules, pos, ◌*ℤ◌, FitsSigned, w64}
use Rattle.std.proofs.lemmas.Int.{to_z-of_z}
use mir.Syntax.{w128}
use Rattle.cell_values.proofs.arithmetic.rounded_quotient.Goals as goal

pub returns : goal.returns
returns c =
    let first : FitsSigned w64 c.args.a = c.ranges.a in
    let second : FitsSigned w64 c.args.b = c.ranges.b in
    let first_wide : FitsSigned w128 c.args.a = search rules in
    let second_wide : FitsSigned w128 c.args.b = search rules in
    let millionths : FitsSigned w128 (c.args.a *ℤ pos 1000000) = search rules in
    let rounded : FitsSigned w128 c.round_quotient.result = search rules in
    simp to_z-of_z (simp to_z-of_z at c.round_quotient.ensures)
