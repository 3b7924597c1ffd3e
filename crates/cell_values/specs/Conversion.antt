-- Conversions between kinds. Scalars and directions count millionths.
use Rattle.std.specs.Prelude.{ℤ, pos, ◌*ℤ◌, Bool, true, false, IsTrue, Ok, Result, if◌then◌else◌}
use Rattle.std.specs.Int.{int_rem_euclid}
use Rattle.std.specs.Ordering.{int_eq}
use Rattle.cell_values.specs.declared.kind.Kind.{Kind}
use Rattle.cell_values.specs.declared.kind.Kind.TheVariants.{Boolean, Nominal, Ordinal, Scalar, Directional, Ldd}
use Rattle.cell_values.specs.declared.cell.Cell.{Cell}
use Rattle.cell_values.specs.declared.cell.Cell.TheVariants.{Mv, Val}
use Rattle.cell_values.specs.declared.cell.Over.{Over}
use Rattle.cell_values.specs.Units.{full_turn, million}
use Rattle.cell_values.specs.Kinds.{cell_of_number}
use Rattle.cell_values.specs.Rounding.{cut_quotient}

-- whether there is a conversion from the kind to booleans
abbrev pub has_truth : Kind → Bool
has_truth Boolean = true
has_truth Nominal = true
has_truth Ordinal = true
has_truth Scalar = true
has_truth Directional = false
has_truth Ldd = false

-- whether there is a conversion from the kind to nominal and to ordinal classes
abbrev pub has_class : Kind → Bool
has_class Boolean = true
has_class Nominal = true
has_class Ordinal = true
has_class Scalar = true
has_class Directional = false
has_class Ldd = true

-- whether there is a conversion from the kind to directions
abbrev pub has_direction : Kind → Bool
has_direction Boolean = false
has_direction Nominal = false
has_direction Ordinal = false
has_direction Scalar = true
has_direction Directional = true
has_direction Ldd = false

-- Whether there is a conversion from one kind to another. All kinds convert to scalars, and none to drain directions.
abbrev pub is_conversion : Kind → Kind → Bool
is_conversion from Boolean = has_truth from
is_conversion from Nominal = has_class from
is_conversion from Ordinal = has_class from
is_conversion from Scalar = true
is_conversion from Directional = has_direction from
is_conversion from Ldd = false

-- there is a conversion from one kind to another
abbrev pub IsConversion : Kind → Kind → Type 0
IsConversion from to = IsTrue (is_conversion from to)

-- a number of a kind as a boolean: 1 where it is not 0
abbrev pub truth_of : Kind → ℤ → ℤ
truth_of Boolean z = z
truth_of _ z = if int_eq z (pos 0) then pos 0 else pos 1

-- a number of a kind as a class: a scalar is cut toward zero to a whole number
abbrev pub class_of : Kind → ℤ → ℤ
class_of Scalar z = cut_quotient z (pos million)
class_of _ z = z

-- a number of a kind as a scalar: what does not count millionths yet is multiplied
abbrev pub scalar_of : Kind → ℤ → ℤ
scalar_of Scalar z = z
scalar_of Directional z = z
scalar_of _ z = z *ℤ pos million

-- a number of a kind as a direction: a scalar is reduced modulo 360 degrees into 0 up to but not 360
abbrev pub direction_of : Kind → ℤ → ℤ
direction_of Scalar z = int_rem_euclid z (pos full_turn)
direction_of _ z = z

-- a number of the first kind as one of the second
abbrev pub converted : Kind → Kind → ℤ → ℤ
converted from Boolean z = truth_of from z
converted from Nominal z = class_of from z
converted from Ordinal z = class_of from z
converted from Scalar z = scalar_of from z
converted from Directional z = direction_of from z
converted from Ldd z = z

-- a cell of the first kind as one of the second
abbrev pub conversion_of : Kind → Kind → Cell → Result Cell Over
conversion_of from to Mv = Ok Mv
conversion_of from to (Val z) = cell_of_number to (converted from to z)
