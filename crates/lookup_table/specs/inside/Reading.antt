-- The reading of a table's text as a function, for the course of a run: the table or the first fault. What it means is said
-- by the form and by the table of faults, and laws tie it to them.
use Rattle.std.specs.Prelude.{ℕ, zero, suc, ◌+◌, Bool, ◌==◌, List, [], ◌∷◌, length}
use Rattle.std.specs.Prelude.{take, drop, slice_index, position, ℤ, Option, Some, None, Result, Ok, Err, if◌then◌else◌}
use Rattle.std.specs.List.{prefix_len}
use Rattle.cell_values.specs.declared.kind.Kind.{Kind}
use Rattle.cell_values.specs.declared.kind.Kind.TheVariants.{Scalar}
use Rattle.cell_values.specs.declared.cell.Cell.{Cell}
use Rattle.cell_values.specs.declared.cell.Cell.TheVariants.{Mv, Val}
use Rattle.cell_values.specs.declared.cell.NumberFault.{NumberFault}
use Rattle.cell_values.specs.inside.Reading.{cell_read}
use Rattle.text_base.specs.Bytes.{is_blank}
use Rattle.text_base.specs.Lines.{Line, lines_of}
use Rattle.text_base.specs.Results.{◌>>=◌}
use Rattle.lookup_table.specs.declared.key.KeyRange.{KeyRange}
use Rattle.lookup_table.specs.declared.fault.TableFault.{TableFault}
use Rattle.lookup_table.specs.declared.fault.TableKind.{TableKind}
use Rattle.lookup_table.specs.declared.fault.TableKind.TheVariants as kinds
use Rattle.lookup_table.specs.Columns.{comma, is_opening, is_closing, is_run_byte}
use Rattle.lookup_table.specs.Keys.{begins_interval, bound_in, least_number, greatest_number, first_from, last_to}
use Rattle.lookup_table.specs.Form.{TableRow, TableValue}
use Rattle.lookup_table.specs.Faults.{told}

-- ---- columns

-- a column and what stands behind it, or nothing where blanks alone stand
abbrev pub FirstColumn : Type 0
FirstColumn = Option (List ℕ × List ℕ)

-- the bytes cut at a place
abbrev pub cut_at : ℕ → List ℕ → FirstColumn
cut_at n bytes = Some (take n bytes, drop n bytes)

-- the bytes cut behind a place, or the fault of an interval that is not closed where there is none
abbrev pub cut_behind : Option ℕ → List ℕ → Result FirstColumn TableKind
cut_behind None bytes = Err kinds.BadInterval
cut_behind (Some place) bytes = Ok (cut_at (place + 1) bytes)

-- the column at the front, where no blank stands first
abbrev pub column_cut : List ℕ → Result FirstColumn TableKind
column_cut [] = Ok None
column_cut (b ∷ bytes) =
    if is_opening b
    then cut_behind (position is_closing (b ∷ bytes)) (b ∷ bytes)
    else Ok (cut_at (prefix_len is_run_byte (b ∷ bytes)) (b ∷ bytes))

-- the first column
unfoldable pub first_column : List ℕ → Result FirstColumn TableKind
first_column bytes = column_cut (drop (prefix_len is_blank bytes) bytes)

-- the columns, the first of which is found, where the next ones come from what stands behind it
abbrev pub columns_then : (List ℕ → Result (List (List ℕ)) TableKind) → FirstColumn → Result (List (List ℕ)) TableKind
columns_then next None = Ok []
columns_then next (Some found) = next found.1 >>= λ columns. Ok (found.0 ∷ columns)

-- the columns of at most so many bytes
unfoldable pub columns_within : ℕ → List ℕ → Result (List (List ℕ)) TableKind
columns_within zero bytes = Ok []
columns_within (suc n) bytes = first_column bytes >>= columns_then (columns_within n)

-- all columns, or the fault of an interval that is not closed
abbrev pub columns_of : List ℕ → Result (List (List ℕ)) TableKind
columns_of bytes = columns_within (length bytes) bytes

-- ---- numbers and keys

-- the number of a cell that is read
abbrev pub number_of : Result Cell NumberFault → Result ℤ TableKind
number_of (Ok (Val z)) = Ok z
number_of (Ok Mv) = Err kinds.Range
number_of (Err why) = Err (told why)

-- the number of the kind that a column writes
abbrev pub number_read : Kind → List ℕ → Result ℤ TableKind
number_read kind column = number_of (cell_read kind column)

-- a bound of the form, or the fault of its interval
abbrev pub bound_or : Option (Option (List ℕ)) → Result (Option (List ℕ)) TableKind
bound_or None = Err kinds.BadInterval
bound_or (Some bound) = Ok bound

-- the first number that an interval takes in
unfoldable pub first_of : ℕ → Option (List ℕ) → Result ℤ TableKind
first_of opening None = Ok least_number
first_of opening (Some word) = number_read Scalar word >>= λ z. Ok (first_from opening z)

-- the last number that an interval takes in
unfoldable pub last_of : ℕ → Option (List ℕ) → Result ℤ TableKind
last_of closing None = Ok greatest_number
last_of closing (Some word) = number_read Scalar word >>= λ z. Ok (last_to closing z)

-- `,`
abbrev pub is_comma : ℕ → Bool
is_comma b = b == comma

-- the texts before and behind the comma at a place
abbrev pub halves_at : Option ℕ → List ℕ → Result (List ℕ × List ℕ) TableKind
halves_at None inner = Err kinds.BadInterval
halves_at (Some place) inner = Ok (take place inner, drop (place + 1) inner)

-- the texts before and behind the first comma
abbrev pub halves_of : List ℕ → Result (List ℕ × List ℕ) TableKind
halves_of inner = halves_at (position is_comma inner) inner

-- the range of an interval by its brackets and what stands between them
unfoldable pub interval_read : ℕ → List ℕ → ℕ → Result KeyRange TableKind
interval_read opening inner closing = do
  halves ← halves_of inner
  low ← bound_or (bound_in halves.0)
  high ← bound_or (bound_in halves.1)
  first ← first_of opening low
  last ← last_of closing high
  Ok (record { first = first; last = last })

-- the range of an interval, behind its opening bracket and before its closing one
abbrev pub between_inner : ℕ → List ℕ → Result KeyRange TableKind
between_inner opening [] = Err kinds.BadInterval
between_inner opening (b ∷ bytes) = interval_read opening (take (length bytes) (b ∷ bytes)) (slice_index (b ∷ bytes) (length bytes))

-- the range of an interval
abbrev pub between_read : List ℕ → Result KeyRange TableKind
between_read [] = Err kinds.BadInterval
between_read (opening ∷ bytes) = between_inner opening bytes

-- the range of a number
abbrev pub alone : ℤ → KeyRange
alone z = record { first = z; last = z }

-- the range of a key column
unfoldable pub key_read : List ℕ → Result KeyRange TableKind
key_read column = if begins_interval column then between_read column else (number_read Scalar column >>= λ z. Ok (alone z))

-- ---- rows

-- the range of a key column that is found, and what stands behind it
abbrev pub key_in : FirstColumn → Result (KeyRange × List ℕ) TableKind
key_in None = Err kinds.Columns
key_in (Some found) = key_read found.0 >>= λ range. Ok (range, found.1)

-- the range of the first column, and what stands behind it
unfoldable pub key_at : List ℕ → Result (KeyRange × List ℕ) TableKind
key_at bytes = first_column bytes >>= key_in

-- the result of a column that is found
abbrev pub result_in : Kind → FirstColumn → Result ℤ TableKind
result_in kind None = Err kinds.Columns
result_in kind (Some found) = number_read kind found.0

-- the result that the first column writes
unfoldable pub result_at : Kind → List ℕ → Result ℤ TableKind
result_at kind bytes = first_column bytes >>= result_in kind

-- the row of a result alone
abbrev pub last_row : ℤ → TableRow
last_row z = record { keys = []; result = z }

-- the row with one more key in front
abbrev pub with_key : KeyRange → TableRow → TableRow
with_key range row = record { keys = range ∷ row.keys; result = row.result }

-- the row of so many keys at the front of the bytes
unfoldable pub row_at : ℕ → Kind → List ℕ → Result TableRow TableKind
row_at zero kind bytes = result_at kind bytes >>= λ z. Ok (last_row z)
row_at (suc keys) kind bytes = key_at bytes >>= λ found. row_at keys kind found.1 >>= λ row. Ok (with_key found.0 row)

-- the row of a line
unfoldable pub row_read : ℕ → Kind → List ℕ → Result TableRow TableKind
row_read keys kind bytes =
    columns_of bytes >>= λ columns. if length columns == keys + 1 then row_at keys kind bytes else Err kinds.Columns

-- ---- the whole

-- what stands in a line, or its fault with the line's number
abbrev pub in_line : {X : Type 0} → ℕ → Result X TableKind → Result X TableFault
in_line number (Ok x) = Ok x
in_line number (Err kind) = Err (record { kind = kind; line = number })

-- the rows of lines
unfoldable pub rows_read : ℕ → Kind → List Line → Result (List TableRow) TableFault
rows_read keys kind [] = Ok []
rows_read keys kind (line ∷ lines) =
    in_line line.number (row_read keys kind line.bytes) >>= λ row. rows_read keys kind lines >>= λ rows. Ok (row ∷ rows)

-- the table that a text is, or its first fault
unfoldable pub table_of : ℕ → Kind → List ℕ → Result TableValue TableFault
table_of keys kind text = rows_read keys kind (lines_of text) >>= λ rows. Ok (record { keys = keys; kind = kind; rows = rows })
