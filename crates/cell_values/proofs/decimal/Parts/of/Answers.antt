use Rattle.std.proofs.Common.{◌≡◌, false, true, rules, ◌∙◌}
use Rattle.cell_values.specs.inside.Reading.{has_digits}
use Rattle.cell_values.specs.Decimal.{with_sign}
use Rattle.cell_values.proofs.DecimalLaws.{decimal_of_is, no_digits, no_power, all_parts}
use Rattle.cell_values.proofs.decimal.Parts.of.Goals as goal

pub returns-then-not-has_digits : goal.returns-then-not-has_digits
returns-then-not-has_digits c =
    let text = c.args.text.now in
    let whole = c.split_digits.result.0.now in
    let fraction = c.split_fraction.result.0.now in
    let none : has_digits text whole fraction ≡ false = search rules in
    no_digits text whole fraction c.split_fraction.result.1.now c.split_sign-negative.result.0 none ∙ decimal_of_is text c.split_sign-negative.result.1.now whole c.split_digits.result.1.now fraction c.split_fraction.result.1.now c.split_sign-negative.result.0 c.split_sign-negative.ensures.sign c.split_sign-negative.ensures.rest c.split_digits.ensures.digits c.split_digits.ensures.rest c.split_fraction.ensures.digits c.split_fraction.ensures.rest

pub returns-in_default : goal.returns-in_default
returns-in_default c =
    let text = c.args.text.now in
    let whole = c.split_digits.result.0.now in
    let fraction = c.split_fraction.result.0.now in
    no_power text whole fraction c.split_fraction.result.1.now c.split_sign-negative.result.0 c.in_default.ensures.value ∙ decimal_of_is text c.split_sign-negative.result.1.now whole c.split_digits.result.1.now fraction c.split_fraction.result.1.now c.split_sign-negative.result.0 c.split_sign-negative.ensures.sign c.split_sign-negative.ensures.rest c.split_digits.ensures.digits c.split_digits.ensures.rest c.split_fraction.ensures.digits c.split_fraction.ensures.rest

pub returns : goal.returns
returns c =
    let text = c.args.text.now in
    let whole = c.split_digits.result.0.now in
    let fraction = c.split_fraction.result.0.now in
    let some : has_digits text whole fraction ≡ true = search rules in
    all_parts text whole fraction c.split_fraction.result.1.now c.split_sign-negative.result.0 (with_sign c.in-Some.falls c.in-Some.power) some c.in-Some.ensures.value ∙ decimal_of_is text c.split_sign-negative.result.1.now whole c.split_digits.result.1.now fraction c.split_fraction.result.1.now c.split_sign-negative.result.0 c.split_sign-negative.ensures.sign c.split_sign-negative.ensures.rest c.split_digits.ensures.digits c.split_digits.ensures.rest c.split_fraction.ensures.digits c.split_fraction.ensures.rest
