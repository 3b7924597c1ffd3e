-- The key words of a head, and the values that each may have.
use Rattle.std.specs.Prelude.{ℕ, Bool, true, false, ◌&&◌, ◌||◌, List, length, codes, nat_lt, nat_le, int_lt, pos, is_some, Some, None}
use Rattle.std.specs.Prelude.{if◌then◌else◌}
use Rattle.std.specs.declared.option.Option.{Option}
use Rattle.std.specs.Option.{option_and_then}
use Rattle.std.specs.Str.{str_eq_ignore_ascii_case}
use Rattle.cell_values.specs.Decimal.{Decimal, numerator}
use Rattle.cell_values.specs.inside.Reading.{decimal_of}
use Rattle.grid_text.specs.declared.key.Key.{Key}
use Rattle.grid_text.specs.declared.key.Key.TheVariants.{Cols, Rows, X, Y, Size, Nodata}
use Rattle.text_base.specs.Numbers.{whole_number_of}

-- a text is a word, in any case of its letters
abbrev pub is_word : List ℕ → List ℕ → Bool
is_word word text = str_eq_ignore_ascii_case text word

-- the center of a cell is named, and not the corner of the grid
abbrev pub is_center : List ℕ → Bool
is_center text = is_word (codes "xllcenter") text || is_word (codes "yllcenter") text

-- the key that a text names
unfoldable pub key_of : List ℕ → Option Key
key_of text =
    if is_word (codes "ncols") text then Some Cols else
    if is_word (codes "nrows") text then Some Rows else
    if is_word (codes "xllcorner") text || is_word (codes "xllcenter") text then Some X else
    if is_word (codes "yllcorner") text || is_word (codes "yllcenter") text then Some Y else
    if is_word (codes "cellsize") text then Some Size else
    if is_word (codes "NODATA_value") text then Some Nodata else
    None

-- two keys are one
abbrev pub same_key : Key → Key → Bool
same_key Cols Cols = true
same_key Rows Rows = true
same_key X X = true
same_key Y Y = true
same_key Size Size = true
same_key Nodata Nodata = true
same_key _ _ = false

-- a head has the key only where this holds: a value for missing cells may lack
abbrev pub is_required : Key → Bool
is_required Cols = true
is_required Rows = true
is_required X = true
is_required Y = true
is_required Size = true
is_required Nodata = false

-- a number above 0
abbrev pub above_zero : ℕ → Option ℕ
above_zero n = if nat_lt 0 n then Some n else None

-- the most digits of a number of rows or columns
abbrev pub most_side_digits : ℕ
most_side_digits = 7

-- the number of rows or columns that 1 to 7 digits write
unfoldable pub side_of : List ℕ → Option ℕ
side_of value = option_and_then above_zero (whole_number_of 7 value)

-- a decimal above 0
abbrev pub is_positive : Option Decimal → Bool
is_positive None = false
is_positive (Some d) = int_lt (pos 0) (numerator d)

-- the most bytes of a coordinate and of the size of a cell
abbrev pub longest_coordinate : ℕ
longest_coordinate = 64

-- the place of a corner or of a center: a decimal of at most 64 bytes
abbrev pub is_coordinate : List ℕ → Bool
is_coordinate value = nat_le (length value) longest_coordinate && is_some (decimal_of value)

-- the size of a cell: such a decimal, and above 0
abbrev pub is_cell_size : List ℕ → Bool
is_cell_size value = nat_le (length value) longest_coordinate && is_positive (decimal_of value)

-- not a number, in any case of its letters
abbrev pub is_nan : List ℕ → Bool
is_nan text = is_word (codes "nan") text

-- the value that stands for a missing cell
abbrev pub is_nodata : List ℕ → Bool
is_nodata value = is_some (decimal_of value) || is_nan value

-- the key may have the value
abbrev pub is_value_of : Key → List ℕ → Bool
is_value_of Cols value = is_some (side_of value)
is_value_of Rows value = is_some (side_of value)
is_value_of X value = is_coordinate value
is_value_of Y value = is_coordinate value
is_value_of Size value = is_cell_size value
is_value_of Nodata value = is_nodata value
