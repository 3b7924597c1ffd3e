use Rattle.std.proofs.Common.{◌+◌, ◌*◌, ◌≤◌, get_or, ap, ◌∙◌, arith}
use Rattle.cell_values.proofs.Digits.{digit_byte}
use Rattle.cell_values.proofs.FewDigits.{small_number, more_digits, more_value}
use Rattle.cell_values.proofs.short.leading_number.Goals as goal

pub returns-in_default-clause-small : goal.returns-in_default-clause-small
returns-in_default-clause-small c =
    let few : c.loop-i.i ≤ 12 = omega arith in
    small_number c.split_at.result.0.now c.loop-i.i c.loop-i.number few c.loop-i.invariant.digits c.loop-i.invariant.value

pub overflow_mul-number : goal.overflow_mul-number
overflow_mul-number c =
    let few : c.loop-i.i ≤ 12 = omega arith in
    let small = small_number c.split_at.result.0.now c.loop-i.i c.loop-i.number few c.loop-i.invariant.digits c.loop-i.invariant.value in
    omega (arith, small)

pub overflow_add-number : goal.overflow_add-number
overflow_add-number c =
    let few : c.loop-i.i ≤ 12 = omega arith in
    let small = small_number c.split_at.result.0.now c.loop-i.i c.loop-i.number few c.loop-i.invariant.digits c.loop-i.invariant.value in
    let byte = digit_byte (get_or c.split_at.result.0.now c.loop-i.i 0) c.in-Some.ensures.0 in
    omega (arith, small, byte, c.in-Some.ensures.1)

pub loop-i-preserved : goal.loop-i-preserved
loop-i-preserved c = record {
  digits = more_digits c.split_at.result.0.now c.loop-i.i c.loop-i-test.true c.loop-i.invariant.digits c.in-Some.ensures.0;
  value = ap (λ d. c.loop-i.number * 10 + d) c.in-Some.ensures.1 ∙ more_value c.split_at.result.0.now c.loop-i.i c.loop-i.number c.loop-i-test.true c.loop-i.invariant.value;
}

pub returns-clause-small : goal.returns-clause-small
returns-clause-small c =
    let few : c.loop-i.i ≤ 12 = omega arith in
    small_number c.split_at.result.0.now c.loop-i.i c.loop-i.number few c.loop-i.invariant.digits c.loop-i.invariant.value
