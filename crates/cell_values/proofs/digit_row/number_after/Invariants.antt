use Rattle.std.proofs.Common.{◌≡◌, drop}
use Rattle.std.specs.Str.Parse.{digits_value_after}
use Rattle.cell_values.proofs.digit_row.number_after.Given as goal

abbrev pub invariant-loop-digit : goal.invariant-loop-digit
invariant-loop-digit l = digits_value_after 10 l.total (drop l.digit-index l.digits) ≡ digits_value_after 10 l.fn.number l.digits
