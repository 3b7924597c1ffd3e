use Rattle.std.proofs.Common.{◌≡◌, sym, ◌<◌, ◌+◌, ◌*◌, ◌^◌, ◌-◌, ◌∷◌, Bool, true, cond, drop, take, get_or, ap, ◌∙◌, subst, arith}
use Rattle.std.specs.Prelude.{nat_le}
use Rattle.cell_values.specs.Decimal.{are_digits}
use Rattle.cell_values.specs.inside.Short.{IsShort}
use Rattle.std.specs.Str.Parse.{digits_value}
use Rattle.cell_values.proofs.FewDigits.{pointed_short, rounded_short, whole_short}
use Rattle.cell_values.proofs.short.short_millionths.Goals as goal

pub returns-then-places-lt-PLACES-clause-reading :
    goal.returns-then-places-lt-PLACES-clause-reading
returns-then-places-lt-PLACES-clause-reading c =
    let text = c.args.text.now in
    let a = c.leading_number-wholes.ensures in
    let b = c.leading_number-places.ensures in
    let rest = c.in-Some-eq46-default.rest.now in
    let front : drop c.leading_number-wholes.result.0 text ≡ 46 ∷ rest = cc (c.split_at.ensures.back, c.in-Some-eq46-default.ensures.cases.0, c.in-Some-eq46-default.field-0-0-test) in
    let some : 0 < c.leading_number-wholes.result.0 + c.leading_number-places.result.0 = omega (arith, c.if-wholes-places-eq0.false) in
    pointed_short text rest c.leading_number-wholes.result.0 c.leading_number-places.result.0 c.leading_number-wholes.result.1 c.leading_number-places.result.1 c.power_of_ten.result a.within a.few b.within b.few some front a.digits b.digits a.value b.value a.small b.small c.power_of_ten.ensures.value c.power_of_ten.ensures.small

pub returns-else-places-lt-PLACES-clause-reading :
    goal.returns-else-places-lt-PLACES-clause-reading
returns-else-places-lt-PLACES-clause-reading c =
    let text = c.args.text.now in
    let a = c.leading_number-wholes.ensures in
    let b = c.leading_number-places.ensures in
    let rest = c.in-Some-eq46-default.rest.now in
    let wholes = c.leading_number-wholes.result.0 in
    let whole = c.leading_number-wholes.result.1 in
    let places = c.leading_number-places.result.0 in
    let fraction = c.leading_number-places.result.1 in
    let behind = c.split_at-in-Some-eq46-default.result.1.now in
    let r = c.rounded-rounded.ensures in
    let passed = c.rounded-rounded.result.1 in
    let front : drop wholes text ≡ 46 ∷ rest = cc (c.split_at.ensures.back, c.in-Some-eq46-default.ensures.cases.0, c.in-Some-eq46-default.field-0-0-test) in
    let six : places ≡ 6 = omega (arith, b.few, c.if-places-lt-PLACES.false) in
    let power : c.power_of_ten.result ≡ 1 = c.power_of_ten.ensures.value ∙ ap (λ p. 10 ^ (6 - p)) six in
    let digits : are_digits (take 6 rest) ≡ true = subst (λ p. are_digits (take p rest) ≡ true) six b.digits in
    let value : fraction ≡ digits_value 10 (take 6 rest) = subst (λ p. fraction ≡ digits_value 10 (take p rest)) six b.value in
    let size : whole * 1000000 + fraction ≡ whole * 1000000 + fraction * c.power_of_ten.result = rw power (omega arith) in
    let half : Bool = nat_le 53 (get_or (take passed behind) 0 48) in
    subst (IsShort (take (wholes + 1 + 6 + passed) text)) (ap (λ n. cond half (n + 1) n) size ∙ sym r.value)
    (rounded_short text rest behind wholes passed whole fraction a.within a.few (omega (arith, six, b.within)) front c.split_at-in-Some-eq46-default.ensures.back r.within r.few a.digits digits r.digits a.value value a.small b.small)

pub returns-else-wholes-eq0-clause-reading : goal.returns-else-wholes-eq0-clause-reading
returns-else-wholes-eq0-clause-reading c =
    let a = c.leading_number-wholes.ensures in
    whole_short c.args.text.now c.leading_number-wholes.result.0 c.leading_number-wholes.result.1 a.within a.few (omega (arith, c.if-wholes-eq0.false)) a.digits a.value a.small
