use Rattle.std.proofs.Common.{◌≡◌, ◌+◌, ◌*◌, ◌==◌, length, arith}
use Rattle.std.proofs.lemmas.Bool.{eqb-true, eq-eqb, both_ways}
use Rattle.cell_values.specs.Decimal.{size_of, denominator, with_sign, rise_of, fall_of}
use Rattle.cell_values.specs.inside.Parts.{decimal_with}
use Rattle.cell_values.proofs.Digits.{are_digits-append}
use Rattle.cell_values.proofs.Cuts.{same_test}
use Rattle.cell_values.proofs.Alike.{sizes-from_rows, rows-from_sizes}
use Rattle.cell_values.proofs.same.same_size.Goals as goal

pub returns-then-is_within : goal.returns-then-is_within
unfolding size_of denominator
returns-then-is_within c =
    let a = c.args.a.now in
    let b = c.args.b.now in
    let ea = with_sign a.falls a.power in
    let eb = with_sign b.falls b.power in
    let sa = length b.whole.now + c.rise.result + c.fall.result in
    let sb = length a.whole.now + c.rise-2.result + c.fall-2.result in
    let start : sa ≡ length b.whole.now + rise_of eb + fall_of ea = omega (arith, c.rise.ensures.value, c.fall.ensures.value) in
    let other : sb ≡ length a.whole.now + rise_of ea + fall_of eb = omega (arith, c.rise-2.ensures.value, c.fall-2.ensures.value) in
    let left = are_digits-append a.whole.now a.fraction.now a.whole_digits a.fraction_digits in
    let right = are_digits-append b.whole.now b.fraction.now b.whole_digits b.fraction_digits in
    let first = rw (c.row-a.ensures, c.row-b.ensures) at (c.is_within.ensures.0 c.if-is_within.true) in
    let second = rw (c.row-a.ensures, c.row-b.ensures) at c.is_within-then-is_within.ensures in
    same_test c.is_within-then-is_within.result (size_of (decimal_with a) * denominator (decimal_with b) == size_of (decimal_with b) * denominator (decimal_with a))
    (λ h. eq-eqb (size_of (decimal_with a) * denominator (decimal_with b)) (size_of (decimal_with b) * denominator (decimal_with a)) (sizes-from_rows a.whole.now a.fraction.now b.whole.now b.fraction.now (rise_of ea) (fall_of ea) (rise_of eb) (fall_of eb) sa sb start other first (second.0 h)))
    (λ h. second.1 (rows-from_sizes a.whole.now a.fraction.now b.whole.now b.fraction.now (rise_of ea) (fall_of ea) (rise_of eb) (fall_of eb) sa sb left right start other (eqb-true (size_of (decimal_with a) * denominator (decimal_with b)) (size_of (decimal_with b) * denominator (decimal_with a)) h)).1)

pub returns-else-is_within : goal.returns-else-is_within
unfolding size_of denominator
returns-else-is_within c =
    let a = c.args.a.now in
    let b = c.args.b.now in
    let ea = with_sign a.falls a.power in
    let eb = with_sign b.falls b.power in
    let sa = length b.whole.now + c.rise.result + c.fall.result in
    let sb = length a.whole.now + c.rise-2.result + c.fall-2.result in
    let start : sa ≡ length b.whole.now + rise_of eb + fall_of ea = omega (arith, c.rise.ensures.value, c.fall.ensures.value) in
    let other : sb ≡ length a.whole.now + rise_of ea + fall_of eb = omega (arith, c.rise-2.ensures.value, c.fall-2.ensures.value) in
    let left = are_digits-append a.whole.now a.fraction.now a.whole_digits a.fraction_digits in
    let right = are_digits-append b.whole.now b.fraction.now b.whole_digits b.fraction_digits in
    let first = rw (c.row-a.ensures, c.row-b.ensures) at c.is_within.ensures in
    same_test c.is_within.result (size_of (decimal_with a) * denominator (decimal_with b) == size_of (decimal_with b) * denominator (decimal_with a))
    (λ h. absurd (both_ways c.is_within.result c.if-is_within.false h))
    (λ h. first.1 (rows-from_sizes a.whole.now a.fraction.now b.whole.now b.fraction.now (rise_of ea) (fall_of ea) (rise_of eb) (fall_of eb) sa sb left right start other (eqb-true (size_of (decimal_with a) * denominator (decimal_with b)) (size_of (decimal_with b) * denominator (decimal_with a)) h)).0)
