use Rattle.std.proofs.Common.{◌≡◌, ◌<◌, ◌^◌, true, get_or, sym, ◌∙◌, arith}
use Rattle.std.specs.Char.{is_ascii_digit}
use Rattle.text_base.proofs.Callers.{digit_bounds}
use Rattle.text_base.proofs.DigitLaws.{below_power, digits_more, value_more, power_more}
use Rattle.text_base.proofs.number.whole_number.Goals as goal

pub overflow_mul-n : goal.overflow_mul-n
overflow_mul-n c =
    let below : c.loop-b.n < 10 ^ 18 = below_power _ _ 18 c.loop-b.invariant.small (omega arith) in
    omega (arith, below)

pub overflow_add-n : goal.overflow_add-n
overflow_add-n c =
    let below : c.loop-b.n < 10 ^ 18 = below_power _ _ 18 c.loop-b.invariant.small (omega arith) in
    let digit = digit_bounds (get_or c.args.token.now c.loop-b.b-index 0) (sym c.is_ascii_digit.ensures.value ∙ c.if-not-is_ascii_digit.false) in
    omega (arith, below, digit.1)

pub loop-b-preserved : goal.loop-b-preserved
loop-b-preserved c =
    let digit : is_ascii_digit (get_or c.args.token.now c.loop-b.b-index 0) ≡ true = sym c.is_ascii_digit.ensures.value ∙ c.if-not-is_ascii_digit.false in
    record {
      digits = digits_more _ _ c.loop-b-test.true digit c.loop-b.invariant.digits;
      value = value_more _ _ _ c.loop-b-test.true digit c.loop-b.invariant.value;
      small = power_more _ _ _ c.loop-b.invariant.small (digit_bounds _ digit).1;
    }

pub returns-clause-small : goal.returns-clause-small
returns-clause-small c = below_power _ _ _ c.loop-b.invariant.small (omega arith)
