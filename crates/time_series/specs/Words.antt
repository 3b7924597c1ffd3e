-- The words of a line, and what each writes.
use Rattle.std.specs.Prelude.{ℕ, Bool, false, ◌&&◌, List, [], ◌∷◌, length, map, codes, pos, negsuc, nat_lt, nat_le, is_some}
use Rattle.std.specs.Prelude.{Option, Some, None, Result, Ok, Err, if◌then◌else◌}
use Rattle.std.specs.List.{list_all}
use Rattle.std.specs.Option.{option_and_then}
use Rattle.cell_values.specs.declared.kind.Kind.{Kind}
use Rattle.cell_values.specs.declared.kind.Kind.TheVariants.{Ordinal}
use Rattle.cell_values.specs.declared.cell.Cell.{Cell}
use Rattle.cell_values.specs.declared.cell.Cell.TheVariants.{Mv, Val}
use Rattle.cell_values.specs.declared.cell.NumberFault.{NumberFault}
use Rattle.cell_values.specs.declared.cell.NumberFault.TheVariants as numbers
use Rattle.cell_values.specs.Decimal.{Decimal}
use Rattle.cell_values.specs.inside.Reading.{decimal_of, cell_read, same_value}
use Rattle.text_base.specs.Tokens.{tokens}
use Rattle.text_base.specs.Numbers.{whole_number_of}

-- the words of a line: its tokens without their places
abbrev pub line_words : List ℕ → List (List ℕ)
line_words bytes = map (λ token. token.bytes) (tokens bytes)

-- the word is a decimal
abbrev pub is_decimal_word : List ℕ → Bool
is_decimal_word word = is_some (decimal_of word)

-- two decimals that are there have one exact value
abbrev pub are_one_value : Option Decimal → Option Decimal → Bool
are_one_value None b = false
are_one_value (Some a) None = false
are_one_value (Some a) (Some b) = same_value a b

-- the word stands for a missing value: a decimal of the exact value of `1e31`
abbrev pub is_missing_word : List ℕ → Bool
is_missing_word word = are_one_value (decimal_of word) (decimal_of (codes "1e31"))

-- the cell that a word writes
unfoldable pub cell_of_word : Kind → List ℕ → Result Cell NumberFault
cell_of_word kind word = if is_missing_word word then Ok Mv else cell_read kind word

-- the step of an ordinal value: one above 0
abbrev pub step_of_cell : Result Cell NumberFault → Result ℕ NumberFault
step_of_cell (Ok Mv) = Err numbers.Range
step_of_cell (Ok (Val (pos n))) = if nat_lt 0 n then Ok n else Err numbers.Range
step_of_cell (Ok (Val (negsuc n))) = Err numbers.Range
step_of_cell (Err why) = Err why

-- the step that a word writes: a whole number from 1 to 2,147,483,647, which are the ordinal values above 0
unfoldable pub step_of_word : List ℕ → Result ℕ NumberFault
step_of_word word = step_of_cell (cell_read Ordinal word)

-- the words are two or more decimals
abbrev pub are_decimals : List (List ℕ) → Bool
are_decimals words = nat_le 2 (length words) && list_all is_decimal_word words

-- a number of columns: there is one of steps, and one of values at least
abbrev pub column_number : ℕ → Option ℕ
column_number n = if nat_le 2 n then Some n else None

-- the most digits of a number of columns
abbrev pub most_column_digits : ℕ
most_column_digits = 7

-- the number of columns that words write: one whole number of at most 7 digits, and at least 2
abbrev pub column_count : List (List ℕ) → Option ℕ
column_count [] = None
column_count (word ∷ []) = option_and_then column_number (whole_number_of most_column_digits word)
column_count (word ∷ other ∷ more) = None
