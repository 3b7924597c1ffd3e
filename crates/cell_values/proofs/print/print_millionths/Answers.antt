use Rattle.std.proofs.Common.{◌≡◌, ◌+◌, ◌-◌, ◌++◌, ◌/◌, ◌%◌, pos, int_lt, unsigned_abs, decimal, take, drop, to_z-of_z, ap, ◌∙◌, arith}
use Rattle.std.proofs.Math.Seq.{take-take}
use mir.Val.{of_z, to_z}
use mir.Syntax.{w64}
use Rattle.cell_values.specs.inside.Printed.{fraction_text, millionths_text, signed}
use Rattle.cell_values.proofs.Printing.{appended, millionths_is, row_is}
use Rattle.cell_values.proofs.print.print_millionths.Goals as goal

pub returns-clause-ok : goal.returns-clause-ok
returns-clause-ok c =
    let a = c.put_whole-start.ensures in
    let f = c.put_fraction-end.ensures in
    let size = c.unsigned_abs-size.result in
    let z = to_z w64 (of_z w64 c.args.value) in
    let same : z ≡ c.args.value = to_z-of_z c.ranges.value in
    let negative = int_lt z (pos 0) in
    let row = row_is (signed negative (decimal (size / 1000000))) (size % 1000000) c.put_whole-start.result c.put_fraction-end.result c.put_fraction-end.new.text c.put_whole-start.new.text a.start f.within.0 f.written a.written in
    let text = ap (λ n. signed negative (decimal (n / 1000000)) ++ fraction_text (n % 1000000)) (c.unsigned_abs-size.ensures.value ∙ ap unsigned_abs same) ∙ millionths_is negative c.args.value (ap (λ y. int_lt y (pos 0)) same) in
    let rest = drop c.put_whole-start.result c.put_whole-start.new.text in
    let count = c.put_fraction-end.result - c.put_whole-start.result in
    let most = c.put_whole-start.result + 28 - c.put_whole-start.result in
    let front : take count (take most rest) ≡ take count rest = take-take count most rest (omega (arith, f.within)) in
    appended c.put_front.result c.put_front.new.into.items c.args.into.now.items _ (millionths_text c.args.value) c.put_front.ensures.ok (front ∙ row ∙ text)
