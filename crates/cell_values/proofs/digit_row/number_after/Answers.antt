use Rattle.std.proofs.Common.{◌^◌}
use Rattle.cell_values.proofs.Digits.{too_many}
use Rattle.cell_values.proofs.digit_row.number_after.Goals as goal

pub returns-in_default : goal.returns-in_default
returns-in_default c = rw (← c.loop-digit.invariant) (too_many (2 ^ 64) c.loop-digit.total c.loop-digit.digit-index c.args.digits.now c.loop-digit-test.true c.in_default.ensures)
