use Rattle.std.proofs.Common.{◌≡◌, ◌<◌, ◌^◌, true, take}
use Rattle.std.specs.Char.{is_ascii_digit}
use Rattle.std.specs.List.{list_all}
use Rattle.std.specs.Str.Parse.{digits_value}
use Rattle.text_base.proofs.number.whole_number.Given as goal

-- the number that the digits so far write
abbrev pub invariant-loop-b : goal.invariant-loop-b
invariant-loop-b l = record {
  digits : list_all is_ascii_digit (take l.b-index l.token) ≡ true;
  value : l.n ≡ digits_value 10 (take l.b-index l.token);
  small : l.n < 10 ^ l.b-index;
}
