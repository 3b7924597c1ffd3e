-- The one text of a cell of a kind.
use Rattle.std.specs.Prelude.{◌≡◌, ◌≢◌, ◌↔◌, ℕ, ◌-◌, ◌*◌, ◌^◌, ◌<◌, IsTrue, List, [], ◌∷◌, ◌++◌, length, codes, slice_index}
use Rattle.std.specs.Prelude.{ℤ, pos, unsigned_abs, int_lt, if◌then◌else◌}
use Rattle.std.specs.Str.Parse.{digits_value}
use Rattle.text_base.specs.Bytes.{point, zero_digit}
use Rattle.cell_values.specs.declared.kind.Kind.{Kind}
use Rattle.cell_values.specs.declared.kind.Kind.TheVariants.{Boolean, Nominal, Ordinal, Scalar, Directional, Ldd}
use Rattle.cell_values.specs.declared.cell.Cell.{Cell}
use Rattle.cell_values.specs.declared.cell.Cell.TheVariants.{Mv, Val}
use Rattle.cell_values.specs.Units.{million}
use Rattle.cell_values.specs.Kinds.{IsCell}
use Rattle.cell_values.specs.Decimal.{are_digits}
use Rattle.cell_values.specs.inside.Printed.{printed_cell}

-- how many units of a kind make one
abbrev pub units_of : Kind → ℕ
units_of Boolean = 1
units_of Nominal = 1
units_of Ordinal = 1
units_of Scalar = million
units_of Directional = million
units_of Ldd = 1

-- a minus where the number is negative
abbrev pub sign_of : ℤ → List ℕ
sign_of number = if int_lt number (pos 0) then codes "-" else []

-- a point before digits, and nothing where there are none
abbrev pub pointed : List ℕ → List ℕ
pointed [] = []
pointed (digit ∷ digits) = point ∷ digit ∷ digits

-- The text writes a number of the kind: a minus exactly where it is negative, digits, and where there are digits behind
-- the point a point and these, all of exactly the number's value. No zero stands first before other digits of the whole
-- part, and none last behind the point.
pub record IsWritten (kind : Kind) (number : ℤ) (text : List ℕ) : Type 0 where
  pub whole : List ℕ
  pub fraction : List ℕ
  pub parts : text ≡ sign_of number ++ (whole ++ pointed fraction)
  pub whole_digits : IsTrue (are_digits whole)
  pub fraction_digits : IsTrue (are_digits fraction)
  pub value : digits_value 10 (whole ++ fraction) * units_of kind ≡ unsigned_abs number * 10 ^ length fraction
  pub some : 0 < length whole
  pub first : 1 < length whole → slice_index whole 0 ≢ zero_digit
  pub last : 0 < length fraction → slice_index fraction (length fraction - 1) ≢ zero_digit

-- the text writes a cell of the kind: `1e31` where it is missing, and else its number
abbrev pub IsWrittenCell : Kind → Cell → List ℕ → Type 0
IsWrittenCell kind Mv text = text ≡ codes "1e31"
IsWrittenCell kind (Val number) text = IsWritten kind number text

-- a cell of a kind has one such text, and it is the one that is printed
abbrev pub WrittenTextsAreUnique : Type 0
WrittenTextsAreUnique =
    (kind : Kind) (cell : Cell) (text : List ℕ) → IsCell kind cell
    → IsWrittenCell kind cell text ↔ (text ≡ printed_cell kind cell)
