-- The values of the operations on cells, each by its operands' cells at one place. Those of `+`, `-`, `*`, `/`, `idiv`
-- and `mod` stand with the arithmetic of cells, those of the conversions with the kinds.
use Rattle.std.specs.Prelude.{ℕ, nat_lt, ℤ, pos, neg_ℤ, unsigned_abs, int_lt, int_le, Ok, Err, Option, Some, None}
use Rattle.std.specs.Prelude.{Bool, true, false, not, ◌&&◌, ◌||◌, if◌then◌else◌, List, [], ◌∷◌, slice_index_or}
use Rattle.std.specs.Ordering.{int_eq}
use Rattle.cell_values.specs.declared.kind.Kind.{Kind}
use Rattle.cell_values.specs.declared.kind.Kind.TheVariants.{Scalar}
use Rattle.cell_values.specs.declared.cell.Cell.{Cell}
use Rattle.cell_values.specs.declared.cell.Cell.TheVariants.{Mv, Val}
use Rattle.cell_values.specs.Kinds.{cell_of_number}
use Rattle.cell_values.specs.Arithmetic.{at_cells}
use Rattle.cell_values.specs.Conversion.{conversion_of}
use Rattle.lookup_table.specs.Form.{TableValue, value_of}
use Rattle.time_series.specs.Form.{SeriesValue}
use Rattle.time_series.specs.Values.{cell_in_row, cells_at}
use Rattle.tile_map.specs.Parts.{Outcome}
use Rattle.map_meaning.specs.Missing.{at_cell}
use Rattle.map_meaning.specs.Whole.{whole_below, whole_above, whole_nearest}

-- ---- the cell as it is

-- the operand
abbrev pub copy_of : Cell → Outcome
copy_of a = Ok a

-- ---- scalars

-- unary `-`: the negative
abbrev pub negative_of : Cell → Outcome
negative_of = at_cell (λ a. cell_of_number Scalar (neg_ℤ a))

-- `abs`: the size
abbrev pub abs_of : Cell → Outcome
abs_of = at_cell (λ a. cell_of_number Scalar (pos (unsigned_abs a)))

-- `rounddown`: the greatest whole number that is not above
abbrev pub rounddown_of : Cell → Outcome
rounddown_of = at_cell (λ a. cell_of_number Scalar (whole_below a))

-- `roundup`: the least whole number that is not below
abbrev pub roundup_of : Cell → Outcome
roundup_of = at_cell (λ a. cell_of_number Scalar (whole_above a))

-- `roundoff`: the nearest whole number, ties away from zero
abbrev pub roundoff_of : Cell → Outcome
roundoff_of = at_cell (λ a. cell_of_number Scalar (whole_nearest a))

-- ---- the least and the greatest

-- `min`: the least of two
abbrev pub min_of : Cell → Cell → Outcome
min_of = at_cells (λ a b. Ok (Val (if int_le a b then a else b)))

-- `max`: the greatest of two
abbrev pub max_of : Cell → Cell → Outcome
max_of = at_cells (λ a b. Ok (Val (if int_le a b then b else a)))

-- ---- comparisons

-- a boolean: 1 where it holds, else 0
abbrev pub truth : Bool → Cell
truth true = Val (pos 1)
truth false = Val (pos 0)

-- a comparison of two numbers
abbrev pub compared : (ℤ → ℤ → Bool) → Cell → Cell → Outcome
compared holds = at_cells (λ a b. Ok (truth (holds a b)))

-- `==`
abbrev pub equal_of : Cell → Cell → Outcome
equal_of = compared int_eq

-- `!=`
abbrev pub unequal_of : Cell → Cell → Outcome
unequal_of = compared (λ a b. not (int_eq a b))

-- `<`
abbrev pub less_of : Cell → Cell → Outcome
less_of = compared int_lt

-- `<=`
abbrev pub less_equal_of : Cell → Cell → Outcome
less_equal_of = compared int_le

-- `>`
abbrev pub greater_of : Cell → Cell → Outcome
greater_of = compared (λ a b. int_lt b a)

-- `>=`
abbrev pub greater_equal_of : Cell → Cell → Outcome
greater_equal_of = compared (λ a b. int_le b a)

-- ---- logic

-- the number of a boolean that is true
abbrev pub is_one : ℤ → Bool
is_one a = int_eq a (pos 1)

-- one of two, and not both
abbrev pub is_either : Bool → Bool → Bool
is_either true b = not b
is_either false b = b

-- `and`
abbrev pub and_of : Cell → Cell → Outcome
and_of = compared (λ a b. is_one a && is_one b)

-- `or`
abbrev pub or_of : Cell → Cell → Outcome
or_of = compared (λ a b. is_one a || is_one b)

-- `xor`
abbrev pub xor_of : Cell → Cell → Outcome
xor_of = compared (λ a b. is_either (is_one a) (is_one b))

-- `not`
abbrev pub not_of : Cell → Outcome
not_of = at_cell (λ a. Ok (truth (not (is_one a))))

-- ---- choices

-- `if(c then a)`: a where c is 1, and missing elsewhere
abbrev pub if_then_of : Cell → Cell → Outcome
if_then_of Mv a = Ok Mv
if_then_of (Val c) a = Ok (if is_one c then a else Mv)

-- `if(c then a else b)`: a where c is 1 and b where it is 0; missing where c is, and the other branch does not matter
abbrev pub if_else_of : Cell → Cell → Cell → Outcome
if_else_of Mv a b = Ok Mv
if_else_of (Val c) a b = Ok (if is_one c then a else b)

-- `cover`: the first of two that is not missing
abbrev pub cover_of : Cell → Cell → Outcome
cover_of Mv b = Ok b
cover_of (Val a) b = Ok (Val a)

-- `defined`: 1 where the operand is not missing, else 0; never missing
abbrev pub defined_of : Cell → Outcome
defined_of Mv = Ok (truth false)
defined_of (Val a) = Ok (truth true)

-- ---- tables and series

-- the number of an outcome, if it has one
abbrev pub outcome_number : Outcome → Option ℤ
outcome_number (Ok Mv) = None
outcome_number (Ok (Val z)) = Some z
outcome_number (Err over) = None

-- the number of a key as a scalar, as the keys of tables are; none where its cell is missing
abbrev pub key_number : Kind → Cell → Option ℤ
key_number kind cell = outcome_number (conversion_of kind Scalar cell)

-- the number of the key at a place behind the first; one that the table does not have counts as 0
abbrev pub further_key : TableValue → List Kind → ℕ → Cell → Option ℤ
further_key table kinds i cell = if nat_lt i table.keys then key_number (slice_index_or kinds i Scalar) cell else Some (pos 0)

-- the value of a table at its keys, of which there are four at most; missing where one of them is
abbrev pub value_at_keys : TableValue → Option ℤ → Option ℤ → Option ℤ → Option ℤ → Cell
value_at_keys table None b c d = Mv
value_at_keys table (Some a) None c d = Mv
value_at_keys table (Some a) (Some b) None d = Mv
value_at_keys table (Some a) (Some b) (Some c) None = Mv
value_at_keys table (Some a) (Some b) (Some c) (Some d) = value_of table (a ∷ b ∷ c ∷ d ∷ [])

-- `lookup..`: the value of the table at the operands, which have these kinds; as many count as the table has keys
abbrev pub lookup_of : TableValue → List Kind → Cell → Cell → Cell → Cell → Outcome
lookup_of table kinds a b c d =
    Ok (value_at_keys table (key_number (slice_index_or kinds 0 Scalar) a)
    (further_key table kinds 1 b) (further_key table kinds 2 c) (further_key table kinds 3 d))

-- `timeinput..`: the cell of the series in the row of a step and the column of the operand, which count from 1
abbrev pub timeinput_of : SeriesValue → ℕ → Cell → Outcome
timeinput_of series step = at_cell (λ id. Ok (cell_in_row (cells_at series.rows step) id))
