use Rattle.std.proofs.Common.{◌≡◌, ◌*◌, ◌==◌, ap, sym, ◌∙◌}
use Rattle.std.specs.List.{list_all}
use Rattle.std.proofs.Math.Bool.{beq}
use Rattle.cell_values.specs.Decimal.{size_of, denominator}
use Rattle.cell_values.specs.inside.Parts.{decimal_with, is_zero}
use Rattle.cell_values.proofs.Digits.{are_digits-append}
use Rattle.cell_values.proofs.Alike.{same_value-is, zero_size, by_sign, by_zero, by_size}
use Rattle.cell_values.proofs.same.same_parts.Goals as goal

pub returns-then-a-b : goal.returns-then-a-b
returns-then-a-b c =
    let a = decimal_with c.args.a.now in
    let b = decimal_with c.args.b.now in
    by_sign (size_of a * denominator b == size_of b * denominator a) (beq a.negative b.negative) (size_of a == 0) (sym c.same_size.ensures ∙ c.if-same_size.true) c.if-a-b.true ∙ sym (same_value-is a b)

pub returns-else-a-b : goal.returns-else-a-b
returns-else-a-b c =
    let p = c.args.a.now in
    let a = decimal_with c.args.a.now in
    let b = decimal_with c.args.b.now in
    let zero : c.is_zero.result ≡ (size_of a == 0) = c.is_zero.ensures ∙ ap (list_all is_zero) c.row.ensures ∙ sym (zero_size a (are_digits-append p.whole.now p.fraction.now p.whole_digits p.fraction_digits)) in
    by_zero (size_of a * denominator b == size_of b * denominator a) (beq a.negative b.negative) (size_of a == 0) c.is_zero.result (sym c.same_size.ensures ∙ c.if-same_size.true) c.if-a-b.false zero ∙ sym (same_value-is a b)

pub returns-else-same_size : goal.returns-else-same_size
returns-else-same_size c =
    let a = decimal_with c.args.a.now in
    let b = decimal_with c.args.b.now in
    c.same_size.ensures ∙ by_size (size_of a * denominator b == size_of b * denominator a) (beq a.negative b.negative) (size_of a == 0) (sym c.same_size.ensures ∙ c.if-same_size.false) ∙ sym (same_value-is a b)
