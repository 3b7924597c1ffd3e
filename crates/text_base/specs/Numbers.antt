-- Whole numbers of a few digits.
use Rattle.std.specs.Prelude.{ℕ, Bool, ◌&&◌, List, length, Option, Some, None, nat_lt, nat_le, if◌then◌else◌}
use Rattle.std.specs.Char.{is_ascii_digit}
use Rattle.std.specs.List.{list_all}
use Rattle.std.specs.Str.Parse.{digits_value}

-- the token has 1 to `most` bytes, and each is a digit
abbrev pub is_whole_number : ℕ → List ℕ → Bool
is_whole_number most token = nat_lt 0 (length token) && nat_le (length token) most && list_all is_ascii_digit token

-- the number that 1 to `most` digits write
abbrev pub whole_number_of : ℕ → List ℕ → Option ℕ
whole_number_of most token = if is_whole_number most token then Some (digits_value 10 token) else None
