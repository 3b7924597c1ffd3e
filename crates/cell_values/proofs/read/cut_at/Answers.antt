use Rattle.std.proofs.Common.{◌≡◌, ◌+◌, ◌-◌, ◌*◌, ◌^◌, ◌++◌, ◌&&◌, length, take, drop, get_or, nat_le, ap, ◌∙◌, arith}
use Rattle.std.specs.List.{list_all}
use Rattle.std.specs.Str.Parse.{digits_value}
use Rattle.cell_values.specs.Decimal.{size_of, denominator, with_sign, rise_of, fall_of}
use Rattle.cell_values.specs.inside.Parts.{is_zero, row_digits}
use Rattle.cell_values.proofs.Digits.{are_digits-append}
use Rattle.cell_values.proofs.Cuts.{cut_is, quotient_is, zeros-ge}
use Rattle.cell_values.proofs.read.cut_at.Goals as goal

pub returns-in_default : goal.returns-in_default
unfolding size_of denominator
returns-in_default c =
    let p = c.args.parts.now in
    let digits = are_digits-append p.whole.now p.fraction.now p.whole_digits p.fraction_digits in
    let ds = p.whole.now ++ p.fraction.now in
    let exponent = with_sign p.falls p.power in
    let count = c.saturating_sub-count.result in
    let front : row_digits c.front.result ≡ take count ds = c.front.ensures ∙ ap (take count) c.row-row.ensures in
    let quotient = quotient_is p.whole.now p.fraction.now (rise_of exponent) (fall_of exponent) c.args.places count digits (omega (arith, c.rise.ensures.value, c.fall-fallen.ensures.value, c.saturating_sub-count.ensures)) in
    let more = zeros-ge (digits_value 10 (take count ds)) (count - length ds) in
    omega (arith, quotient, more, c.in_default.ensures, ap (digits_value 10) front)

pub returns-in_default-with_zeros : goal.returns-in_default-with_zeros
unfolding size_of denominator
returns-in_default-with_zeros c =
    let p = c.args.parts.now in
    let digits = are_digits-append p.whole.now p.fraction.now p.whole_digits p.fraction_digits in
    let ds = p.whole.now ++ p.fraction.now in
    let exponent = with_sign p.falls p.power in
    let count = c.saturating_sub-count.result in
    let number : c.in-Some.number ≡ digits_value 10 (take count ds) = c.in-Some.ensures ∙ ap (digits_value 10) (c.front.ensures ∙ ap (take count) c.row-row.ensures) in
    let zeros : c.saturating_sub.result ≡ count - length ds = c.saturating_sub.ensures ∙ ap (λ n. count - n) (c.len.ensures.count ∙ ap length c.row-row.ensures) in
    let quotient = quotient_is p.whole.now p.fraction.now (rise_of exponent) (fall_of exponent) c.args.places count digits (omega (arith, c.rise.ensures.value, c.fall-fallen.ensures.value, c.saturating_sub-count.ensures)) in
    let size = ap (λ n. n * 10 ^ c.saturating_sub.result) number ∙ ap (λ z. digits_value 10 (take count ds) * 10 ^ z) zeros ∙ quotient in
    omega (arith, size, c.in_default-with_zeros.ensures)

pub returns : goal.returns
unfolding size_of denominator
returns c =
    let p = c.args.parts.now in
    let digits = are_digits-append p.whole.now p.fraction.now p.whole_digits p.fraction_digits in
    let ds = p.whole.now ++ p.fraction.now in
    let exponent = with_sign p.falls p.power in
    let count = c.saturating_sub-count.result in
    let number : c.in-Some.number ≡ digits_value 10 (take count ds) = c.in-Some.ensures ∙ ap (digits_value 10) (c.front.ensures ∙ ap (take count) c.row-row.ensures) in
    let zeros : c.saturating_sub.result ≡ count - length ds = c.saturating_sub.ensures ∙ ap (λ n. count - n) (c.len.ensures.count ∙ ap length c.row-row.ensures) in
    let back : row_digits c.back-back.result ≡ drop count ds = c.back-back.ensures ∙ ap (drop count) c.row-row.ensures in
    let top = length p.whole.now + c.rise.result + c.args.places in
    let half : c.half_behind.result ≡ (nat_le (fall_of exponent) (length p.whole.now + rise_of exponent + c.args.places) && nat_le 53 (get_or (drop count ds) 0 48)) =
    c.half_behind.ensures ∙ ap (λ n. nat_le n top && nat_le 53 (get_or (row_digits c.back-back.result) 0 48)) c.fall-fallen.ensures.value
    ∙ ap (λ n. nat_le (fall_of exponent) (length p.whole.now + n + c.args.places) && nat_le 53 (get_or (row_digits c.back-back.result) 0 48)) c.rise.ensures.value
    ∙ ap (λ t. nat_le (fall_of exponent) (length p.whole.now + rise_of exponent + c.args.places) && nat_le 53 (get_or t 0 48)) back in
    cut_is p.whole.now p.fraction.now (rise_of exponent) (fall_of exponent) c.args.places count _ digits (omega (arith, c.rise.ensures.value, c.fall-fallen.ensures.value, c.saturating_sub-count.ensures))
    (c.in-Some-with_zeros.ensures ∙ ap (λ n. n * 10 ^ c.saturating_sub.result) number ∙ ap (λ z. digits_value 10 (take count ds) * 10 ^ z) zeros)
    half
    (c.is_zero.ensures ∙ ap (list_all is_zero) back)
