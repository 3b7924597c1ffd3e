-- The one text of a cell as a function. What it means is said by the relation in `Written`, and a law ties it to that.
use Rattle.std.specs.Prelude.{ℕ, ◌+◌, ◌/◌, ◌%◌, List, [], ◌∷◌, ◌++◌, codes, decimal, ℤ, pos, unsigned_abs, int_lt, ◌==◌}
use Rattle.std.specs.Prelude.{Bool, if◌then◌else◌}
use Rattle.std.specs.Fmt.{signed_decimal}
use Rattle.text_base.specs.Bytes.{hyphen, point, zero_digit}
use Rattle.cell_values.specs.declared.cell.Cell.{Cell}
use Rattle.cell_values.specs.declared.cell.Cell.TheVariants.{Mv, Val}
use Rattle.cell_values.specs.declared.kind.Kind.{Kind}
use Rattle.cell_values.specs.declared.kind.Kind.TheVariants.{Boolean, Nominal, Ordinal, Scalar, Directional, Ldd}
use Rattle.cell_values.specs.Units.{million}

-- the byte of a digit
abbrev pub digit_byte : ℕ → ℕ
digit_byte n = zero_digit + n

-- the six digits of a number below a million
abbrev pub six_digits : ℕ → List ℕ
six_digits n =
    digit_byte (n / 100000) ∷ digit_byte (n / 10000 % 10) ∷ digit_byte (n / 1000 % 10)
    ∷ digit_byte (n / 100 % 10) ∷ digit_byte (n / 10 % 10) ∷ digit_byte (n % 10) ∷ []

-- a digit before digits without zeros at the end: it goes where it would be such a zero
abbrev pub before_trimmed : ℕ → List ℕ → List ℕ
before_trimmed d [] = if d == zero_digit then [] else d ∷ []
before_trimmed d (e ∷ ds) = d ∷ e ∷ ds

-- without the zeros at the end
abbrev pub trimmed : List ℕ → List ℕ
trimmed [] = []
trimmed (d ∷ ds) = before_trimmed d (trimmed ds)

-- a point and the digits of a fraction, and nothing where the fraction is 0
abbrev pub fraction_text : ℕ → List ℕ
fraction_text n = if n == 0 then [] else point ∷ trimmed (six_digits n)

-- so many millionths
abbrev pub size_text : ℕ → List ℕ
size_text n = decimal (n / million) ++ fraction_text (n % million)

-- the text of a size, with its sign
abbrev pub signed : Bool → List ℕ → List ℕ
signed negative text = if negative then hyphen ∷ text else text

-- so many millionths, with a sign where they are negative
abbrev pub millionths_text : ℤ → List ℕ
millionths_text z = if int_lt z (pos 0) then hyphen ∷ size_text (unsigned_abs z) else size_text (unsigned_abs z)

-- a value of a kind
abbrev pub printed_value : Kind → ℤ → List ℕ
printed_value Boolean z = signed_decimal z
printed_value Nominal z = signed_decimal z
printed_value Ordinal z = signed_decimal z
printed_value Scalar z = millionths_text z
printed_value Directional z = millionths_text z
printed_value Ldd z = signed_decimal z

-- A cell of a kind. A missing value is 1e31.
abbrev pub printed_cell : Kind → Cell → List ℕ
printed_cell kind Mv = codes "1e31"
printed_cell kind (Val z) = printed_value kind z
