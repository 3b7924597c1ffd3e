-- The values of each kind.
use Rattle.std.specs.Prelude.{◌≤ℤ◌, ℤ, pos, negsuc, Bool, ◌&&◌, int_le, Ok, Err, Result, if◌then◌else◌}
use Rattle.cell_values.specs.declared.kind.Kind.{Kind}
use Rattle.cell_values.specs.declared.kind.Kind.TheVariants.{Boolean, Nominal, Ordinal, Scalar, Directional, Ldd}
use Rattle.cell_values.specs.declared.cell.Cell.{Cell}
use Rattle.cell_values.specs.declared.cell.Cell.TheVariants.{Mv, Val}
use Rattle.cell_values.specs.declared.cell.Over.{Over}

-- the least value of a kind; of the nominal and ordinal ones -2,147,483,647, of the scalars -9 * 10^18 millionths
abbrev pub least : Kind → ℤ
least Boolean = pos 0
least Nominal = negsuc 2147483646
least Ordinal = negsuc 2147483646
least Scalar = negsuc 8999999999999999999
least Directional = pos 0
least Ldd = pos 1

-- the greatest value of a kind
abbrev pub greatest : Kind → ℤ
greatest Boolean = pos 1
greatest Nominal = pos 2147483647
greatest Ordinal = pos 2147483647
greatest Scalar = pos 9000000000000000000
greatest Directional = pos 359999999
greatest Ldd = pos 9

-- the number is a value of the kind
pub record IsValue (kind : Kind) (number : ℤ) : Type 0 where
  pub least : least kind ≤ℤ number
  pub greatest : number ≤ℤ greatest kind

-- the number is a value of the kind, as a test
abbrev pub is_value : Kind → ℤ → Bool
is_value kind number = int_le (least kind) number && int_le number (greatest kind)

-- the cell is missing, or its number is a value of the kind
abbrev pub IsCell : Kind → Cell → Type 0
IsCell kind Mv = Unit {0}
IsCell kind (Val number) = IsValue kind number

-- the cell of a number, where it is a value of the kind
abbrev pub cell_of_number : Kind → ℤ → Result Cell Over
cell_of_number kind number = if is_value kind number then Ok (Val number) else Err (record {})
