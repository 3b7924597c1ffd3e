use Rattle.std.proofs.Common.{◌≡◌, true, take}
use Rattle.std.specs.Str.Parse.{digits_value}
use Rattle.cell_values.specs.Decimal.{are_digits}
use Rattle.cell_values.proofs.short.leading_number.Given as goal

-- digits so far, and the number that they write
abbrev pub invariant-loop-i : goal.invariant-loop-i
invariant-loop-i l = record {
  digits : are_digits (take l.i l.window) ≡ true;
  value : l.number ≡ digits_value 10 (take l.i l.window);
}
