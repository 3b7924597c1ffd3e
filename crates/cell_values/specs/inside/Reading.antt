-- Decimals and cells as functions of a text: what a reader computes. What they mean is said by the relations of the files
-- above, and laws tie the functions to them: a text is at most one decimal, and has at most one cell of a kind.
use Rattle.std.specs.Prelude.{ℕ, ◌+◌, ◌/◌, ◌%◌, Bool, ◌&&◌, ◌||◌, List, [], ◌∷◌, length, drop, ℤ, pos, ◌*ℤ◌, unsigned_abs}
use Rattle.std.specs.Prelude.{int_lt, Option, Some, None, Result, Ok, Err, ◌==◌, nat_lt, nat_le, take_while, slice_index, option_map}
use Rattle.std.specs.Prelude.{if◌then◌else◌}
use Rattle.std.specs.Char.{is_ascii_digit}
use Rattle.std.specs.List.{prefix_len}
use Rattle.std.specs.Ordering.{int_eq}
use Rattle.std.specs.Str.Parse.{digits_value, without_leading_sign, starts_with_minus}
use Rattle.text_base.specs.Bytes.{point, capital_e, small_e}
use Rattle.text_base.specs.Limits.{longest_number}
use Rattle.cell_values.specs.declared.kind.Kind.{Kind}
use Rattle.cell_values.specs.declared.kind.Kind.TheVariants.{Boolean, Nominal, Ordinal, Scalar, Directional, Ldd}
use Rattle.cell_values.specs.declared.cell.Cell.{Cell}
use Rattle.cell_values.specs.declared.cell.Cell.TheVariants.{Val}
use Rattle.cell_values.specs.declared.cell.NumberFault.{NumberFault}
use Rattle.cell_values.specs.declared.cell.NumberFault.TheVariants.{BadNumber, Range}
use Rattle.cell_values.specs.Units.{million}
use Rattle.cell_values.specs.Kinds.{is_value}
use Rattle.cell_values.specs.Rounding.{nearest}
use Rattle.cell_values.specs.Decimal.{Decimal, are_digits, denominator, most_exponent_digits, numerator, with_sign}

-- ---- decimals

-- the digits at the front of a text
abbrev pub front_digits : List ℕ → List ℕ
front_digits text = take_while is_ascii_digit text

-- what stands behind them
abbrev pub behind_digits : List ℕ → List ℕ
behind_digits text = drop (prefix_len is_ascii_digit text) text

-- the digits behind a point at the front, or none
abbrev pub fraction_digits : List ℕ → List ℕ
fraction_digits text = if slice_index text 0 == point then front_digits (drop 1 text) else []

-- what stands behind the point and its digits
abbrev pub behind_fraction : List ℕ → List ℕ
behind_fraction text = if slice_index text 0 == point then behind_digits (drop 1 text) else text

-- one to six digits
abbrev pub is_short_numeral : List ℕ → Bool
is_short_numeral digits = are_digits digits && nat_lt 0 (length digits) && nat_le (length digits) most_exponent_digits

-- `e` or `E`
abbrev pub is_power_letter : ℕ → Bool
is_power_letter letter = letter == small_e || letter == capital_e

-- the exponent that a whole text stands for
abbrev pub exponent_of : List ℕ → Option ℤ
exponent_of [] = Some (pos 0)
exponent_of (letter ∷ text) =
    if is_power_letter letter && is_short_numeral (without_leading_sign text)
    then Some (with_sign (starts_with_minus text) (digits_value 10 (without_leading_sign text)))
    else None

-- a text of at most 128 bytes with a digit before or behind the point
abbrev pub has_digits : List ℕ → List ℕ → List ℕ → Bool
has_digits text whole fraction = nat_le (length text) longest_number && nat_lt 0 (length whole + length fraction)

-- the decimal of a text's parts: its sign, its digits before and behind the point, and what stands behind them
abbrev pub decimal_of_parts : List ℕ → Bool → List ℕ → List ℕ → List ℕ → Option Decimal
decimal_of_parts text negative whole fraction power =
    if has_digits text whole fraction
    then option_map (λ e. record { negative = negative; whole = whole; fraction = fraction; exponent = e }) (exponent_of power)
    else None

-- the decimal of a text without its sign
abbrev pub decimal_of_unsigned : List ℕ → Bool → List ℕ → Option Decimal
decimal_of_unsigned text negative unsigned =
    let rest = behind_digits unsigned in
    decimal_of_parts text negative (front_digits unsigned) (fraction_digits rest) (behind_fraction rest)

-- the decimal that the text is
unfoldable pub decimal_of : List ℕ → Option Decimal
decimal_of text = decimal_of_unsigned text (starts_with_minus text) (without_leading_sign text)

-- ---- cells

-- n / d where it is whole
unfoldable pub quotient : ℤ → ℕ → Option ℤ
quotient n d = if unsigned_abs n % d == 0 then Some (with_sign (int_lt n (pos 0)) (unsigned_abs n / d)) else None

-- what a kind takes n / d for
abbrev pub number_taken : Kind → ℤ → ℕ → Option ℤ
number_taken Boolean n d = quotient n d
number_taken Nominal n d = quotient n d
number_taken Ordinal n d = quotient n d
number_taken Scalar n d = Some (nearest (pos million *ℤ n) d)
number_taken Directional n d = Some (nearest (pos million *ℤ n) d)
number_taken Ldd n d = quotient n d

-- the cell of a number, or of none
abbrev pub cell_taken : Kind → Option ℤ → Result Cell NumberFault
cell_taken kind None = Err Range
cell_taken kind (Some z) = if is_value kind z then Ok (Val z) else Err Range

-- the cell of a decimal, or of a text that is none
abbrev pub cell_of_decimal : Kind → Option Decimal → Result Cell NumberFault
cell_of_decimal kind None = Err BadNumber
cell_of_decimal kind (Some d) = cell_taken kind (number_taken kind (numerator d) (denominator d))

-- the cell of the kind that the text stands for
unfoldable pub cell_read : Kind → List ℕ → Result Cell NumberFault
cell_read kind text = cell_of_decimal kind (decimal_of text)

-- whether two decimals have one exact value
unfoldable pub same_value : Decimal → Decimal → Bool
same_value a b = int_eq (numerator a *ℤ pos (denominator b)) (numerator b *ℤ pos (denominator a))
