-- A decimal as code holds it, and what code finds of it.
use Rattle.std.specs.Prelude.{◌≡◌, ◌*◌, ◌/◌, ◌%◌, ◌^◌, ◌≤◌, ℕ, ℤ, List, ◌++◌, ◌-◌, ⊤, Option, Some, None, ◌==◌, nat_le, nat_lt}
use Rattle.std.specs.Prelude.{Bool, ◌<◌, ◌+◌, length, get_or, unsigned_abs, if◌then◌else◌}
use Rattle.text_base.specs.Bytes.{zero_digit}
use Rattle.cell_values.specs.declared.decimal.Parts.{Parts}
use Rattle.cell_values.specs.declared.digit_row.Row.{Row}
use Rattle.cell_values.specs.declared.read.Cut.{Cut}
use Rattle.cell_values.specs.Decimal.{Decimal, with_sign}

-- the digits of a row
abbrev pub row_digits : Row → List ℕ
row_digits row = row.first.now ++ row.second.now

-- the decimal of these parts
abbrev pub decimal_with : Parts → Decimal
decimal_with p = record { negative = p.negative; whole = p.whole.now; fraction = p.fraction.now; exponent = with_sign p.falls p.power }

-- the fraction n / d without what stands behind its point, whether that is a half or more, and whether it is 0
pub record IsCut (n d : ℕ) (cut : Cut) : Type 0 where
  pub size : cut.size ≡ n / d
  pub half : cut.half ≡ nat_le d (2 * (n % d))
  pub exact : cut.exact ≡ (n % d == 0)

-- no number, or one that no kind has among its values
abbrev pub IsBeyond : Option ℤ → Type 0
IsBeyond None = ⊤
IsBeyond (Some z) = 2 ^ 64 ≤ unsigned_abs z

-- a zero
abbrev pub is_zero : ℕ → Bool
is_zero digit = digit == zero_digit

-- the digit of a row at a place, where the row begins so many places further on: 0 before and behind it
abbrev pub digit_behind : List ℕ → ℕ → ℕ → ℕ
digit_behind digits start place = if nat_lt place start then zero_digit else get_or digits (place - start) zero_digit

-- each digit of a row stands at its place in another, where both begin so many places further on
abbrev pub IsRowWithin : List ℕ → ℕ → List ℕ → ℕ → Type 0
IsRowWithin digits start others other_start =
    (i : ℕ) → i < length digits → get_or digits i zero_digit ≡ digit_behind others other_start (i + start)
