-- Words for the reader's and the table's own steps. What a reader of the crate is to believe stands in the other files.
use Rattle.std.specs.Prelude.{◌≡◌, ℕ, ◌≤◌, Bool, true, false, ◌&&◌, List, [], ◌∷◌, ◌++◌, length}
use Rattle.std.specs.Prelude.{take, map, ℤ, int_le, int_lt, Option, Some, None, Result, Ok, Err, ⊤}
use Rattle.std.specs.List.{All}
use Rattle.std.specs.List.Sorted.{IsPartitionPoint}
use Rattle.std.specs.Option.{option_map}
use Rattle.std.specs.Borrow.{Bor}
use Rattle.cell_values.specs.declared.kind.Kind.{Kind}
use Rattle.cell_values.specs.declared.cell.Cell.{Cell}
use Rattle.cell_values.specs.declared.cell.Cell.TheVariants.{Mv, Val}
use Rattle.cell_values.specs.Kinds.{IsValue}
use Rattle.text_base.specs.Results.{◌>>=◌}
use Rattle.lookup_table.specs.declared.key.KeyRange.{KeyRange}
use Rattle.lookup_table.specs.declared.row.Row.{Row}
use Rattle.lookup_table.specs.declared.fault.TableKind.{TableKind}
use Rattle.lookup_table.specs.declared.fault.TableFault.{TableFault}
use Rattle.lookup_table.specs.declared.fault.ReadTable.{ReadTable}
use Rattle.lookup_table.specs.declared.fault.ReadTable.TheVariants.{Fault, Memory}
use Rattle.lookup_table.specs.Form.{TableRow, TableValue}
use Rattle.lookup_table.specs.inside.Reading.{FirstColumn}

-- what a step answers, its value seen by view
abbrev pub answer_by : {X Y E : Type 0} → (X → Y) → Result X E → Result Y E
answer_by view (Ok x) = Ok (view x)
answer_by view (Err e) = Err e

-- a column that is a slice, and what stands behind it
abbrev pub column_view : Option (Bor (List ℕ) × Bor (List ℕ)) → FirstColumn
column_view found = option_map (λ parts. (parts.0.now, parts.1.now)) found

-- how many columns there are
abbrev pub count_of : Result (List (List ℕ)) TableKind → Result ℕ TableKind
count_of columns = answer_by length columns

-- a bound that is a slice
abbrev pub bound_view : Option (Bor (List ℕ)) → Option (List ℕ)
bound_view bound = option_map (λ word. word.now) bound

-- two slices
abbrev pub halves_view : Bor (List ℕ) × Bor (List ℕ) → List ℕ × List ℕ
halves_view halves = (halves.0.now, halves.1.now)

-- a range, and the slice behind it
abbrev pub key_view : KeyRange × Bor (List ℕ) → KeyRange × List ℕ
key_view found = (found.0, found.1.now)

-- the ranges of a row: those beyond the table's keys do not count
abbrev pub keys_of : Row → List KeyRange
keys_of row = row.a ∷ row.b ∷ row.c ∷ row.d ∷ []

-- a row as contracts see it, in a table of so many keys
abbrev pub row_view : ℕ → Row → TableRow
row_view keys row = record { keys = take keys (keys_of row); result = row.result }

-- the rows of a table of so many keys
abbrev pub rows_view : ℕ → List Row → List TableRow
rows_view keys rows = map (row_view keys) rows

-- the key ranges that stand before, and the row that is read behind them
abbrev pub behind_keys : List KeyRange → Result TableRow TableKind → Result TableRow TableKind
behind_keys ranges read = read >>= λ row. Ok (record { keys = ranges ++ row.keys; result = row.result })

-- a table as contracts see it
abbrev pub table_view : ℕ → Kind → List Row → TableValue
table_view keys kind rows = record { keys = keys; kind = kind; rows = rows_view keys rows }

-- the first key of the next row, if there is one, begins behind that of the row
abbrev pub begins_behind : Row → List Row → Bool
begins_behind row [] = true
begins_behind row (next ∷ rows) = int_lt row.a.last next.a.first

-- the first keys of the rows take in something, and each begins behind the one before it
abbrev pub rows_are_apart : List Row → Bool
rows_are_apart [] = true
rows_are_apart (row ∷ rows) = int_le row.a.first row.a.last && (begins_behind row rows && rows_are_apart rows)

-- so many rows begin at a number or before it, and they stand first
abbrev pub Begun : List Row → ℤ → ℕ → Type 0
Begun rows z n = IsPartitionPoint (λ row. int_le row.a.first z ≡ true) (λ row. int_le row.a.first z ≡ false) rows n

-- a range begins and ends where another one does, or before
abbrev pub no_later : KeyRange → KeyRange → Bool
no_later range next = int_le range.first next.first && int_le range.last next.last

-- the first key of the next row, if there is one, begins and ends where that of the row does, or behind
abbrev pub comes_no_earlier : Row → List Row → Bool
comes_no_earlier row [] = true
comes_no_earlier row (next ∷ rows) = no_later row.a next.a

-- the first keys of the rows begin and end in ascending order
abbrev pub rows_ascend : List Row → Bool
rows_ascend [] = true
rows_ascend (row ∷ rows) = comes_no_earlier row rows && rows_ascend rows

-- so many rows end before a number, and they stand first
abbrev pub EndedBefore : List Row → ℤ → ℕ → Type 0
EndedBefore rows z n = IsPartitionPoint (λ row. int_lt row.a.last z ≡ true) (λ row. int_lt row.a.last z ≡ false) rows n

-- what a table keeps: one to four keys, results of its kind, whether its first keys are apart where they are its only ones, and
-- whether they ascend
pub record IsKept (keys : ℕ) (kind : Kind) (rows : List Row) (ascending sorted : Bool) : Type 0 where
  pub some : 1 ≤ keys
  pub few : keys ≤ 4
  pub values : All (λ row. IsValue kind row.result) rows
  pub one : ascending ≡ true → keys ≡ 1
  pub apart : ascending ≡ true → rows_are_apart rows ≡ true
  pub in_order : sorted ≡ true → rows_ascend rows ≡ true

-- the result of a row that is found, and a missing value where there is none
abbrev pub cell_found : Option Row → Cell
cell_found None = Mv
cell_found (Some row) = Val row.result

-- the rows that stand before, and those that are read behind them
abbrev pub behind_rows : List TableRow → Result (List TableRow) TableFault → Result (List TableRow) TableFault
behind_rows before read = read >>= λ rows. Ok (before ++ rows)

-- the fault that a part of the reader answers is what is to be read: want of memory may come instead
abbrev pub RowsFail : {X : Type 0} → ReadTable → Result X TableFault → Type 0
RowsFail (Fault fault) read = read ≡ Err fault
RowsFail Memory read = ⊤
