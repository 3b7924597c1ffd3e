use Rattle.std.proofs.Common.{◌≡◌, true, take}
use Rattle.cell_values.specs.Decimal.{are_digits}
use Rattle.cell_values.proofs.short.leading_digits.Given as goal

-- digits so far
abbrev pub invariant-loop-i : goal.invariant-loop-i
invariant-loop-i l = are_digits (take l.i l.window) ≡ true
