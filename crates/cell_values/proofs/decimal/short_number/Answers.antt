use Rattle.std.proofs.Common.{◌<◌, ◌^◌, arith, ◌∙◌}
use Rattle.std.specs.Str.Parse.{digits_value}
use Rattle.cell_values.proofs.Digits.{short_below, some_below}
use Rattle.cell_values.proofs.decimal.short_number.Goals as goal

pub returns-clause-value : goal.returns-clause-value
returns-clause-value c =
    let small = short_below c.args.digits.now c.requires in
    let below : digits_value 10 c.args.digits.now < 2 ^ 64 = omega (arith, small) in
    c.unwrap_or.ensures ∙ some_below c.number_after.result (digits_value 10 c.args.digits.now) (2 ^ 64) c.number_after.ensures below

pub returns-clause-small : goal.returns-clause-small
returns-clause-small c =
    let value = returns-clause-value c in
    let small = short_below c.args.digits.now c.requires in
    omega (arith, value, small)
