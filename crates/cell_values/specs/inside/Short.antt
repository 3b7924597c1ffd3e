-- Numbers of few digits, as they are read in one pass.
use Rattle.std.specs.Prelude.{◌≡◌, ℕ, ◌+◌, ◌*◌, ◌^◌, ◌<◌, ◌≤◌, Bool, true, false, IsTrue, List, ◌++◌, length, Ok}
use Rattle.std.specs.Str.Parse.{digits_value}
use Rattle.cell_values.specs.declared.kind.Kind.{Kind}
use Rattle.cell_values.specs.declared.kind.Kind.TheVariants.{Boolean, Nominal, Ordinal, Scalar, Directional, Ldd}
use Rattle.cell_values.specs.declared.cell.Cell.TheVariants.{Val}
use Rattle.cell_values.specs.Units.{million}
use Rattle.cell_values.specs.Kinds.{IsValue}
use Rattle.cell_values.specs.Rounding.{nearest_size}
use Rattle.cell_values.specs.Decimal.{IsPointed, IsSign, are_digits, with_sign}
use Rattle.cell_values.specs.inside.Reading.{cell_read}

-- the kind counts millionths
abbrev pub counts_millionths : Kind → Bool
counts_millionths Boolean = false
counts_millionths Nominal = false
counts_millionths Ordinal = false
counts_millionths Scalar = true
counts_millionths Directional = true
counts_millionths Ldd = false

-- the text is nearest to so many millionths: few digits, with a point among them or none
pub record IsShort (text : List ℕ) (size : ℕ) : Type 0 where
  pub whole : List ℕ
  pub fraction : List ℕ
  pub pointed : List ℕ
  pub parts : text ≡ whole ++ pointed
  pub behind : IsPointed pointed fraction
  pub wholes : IsTrue (are_digits whole)
  pub fractions : IsTrue (are_digits fraction)
  pub some : 0 < length whole + length fraction
  pub few : length whole ≤ 12
  pub places : length fraction ≤ 106
  pub value : nearest_size (million * digits_value 10 (whole ++ fraction)) (10 ^ length fraction) ≡ size
  pub small : size < 2 * 10 ^ 18

-- the text is read as this size behind either sign, where that gives a value of the kind
pub record ReadsSigned (kind : Kind) (text : List ℕ) (size : ℕ) : Type 0 where
  pub small : size < 2 * 10 ^ 18
  pub reads : (negative : Bool) (sign : List ℕ) → IsSign sign negative → IsValue kind (with_sign negative size)
      → cell_read kind (sign ++ text) ≡ Ok (Val (with_sign negative size))
