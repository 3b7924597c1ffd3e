-- The form of a table's text, and the value of a table.
use Rattle.std.specs.Prelude.{◌≡◌, ℕ, List, [], ◌∷◌, ◌++◌, length, ℤ, Option, Some, None, Ok}
use Rattle.std.specs.List.{AllZip, find}
use Rattle.cell_values.specs.declared.kind.Kind.{Kind}
use Rattle.cell_values.specs.declared.cell.Cell.{Cell}
use Rattle.cell_values.specs.declared.cell.Cell.TheVariants.{Mv, Val}
use Rattle.cell_values.specs.inside.Reading.{cell_read}
use Rattle.text_base.specs.Lines.{lines_of}
use Rattle.lookup_table.specs.declared.key.KeyRange.{KeyRange}
use Rattle.lookup_table.specs.Columns.{AreColumns}
use Rattle.lookup_table.specs.Keys.{IsKey, all_lie_in}

-- a line of a table: the numbers that its key columns take in, and its result
pub record TableRow : Type 0 where
  pub keys : List KeyRange
  pub result : ℤ

-- a table as contracts see it: how many key columns it has, the kind of its results, and its lines
pub record TableValue : Type 0 where
  pub keys : ℕ
  pub kind : Kind
  pub rows : List TableRow

-- The line is a row of a table: so many key columns, and then a decimal with a value of the kind.
pub record IsTableRow (keys : ℕ) (kind : Kind) (bytes : List ℕ) (row : TableRow) : Type 0 where
  pub key_columns : List (List ℕ)
  pub result_column : List ℕ
  pub columns : AreColumns bytes (key_columns ++ result_column ∷ [])
  pub count : length key_columns ≡ keys
  pub ranges : AllZip IsKey key_columns row.keys
  pub result : cell_read kind result_column ≡ Ok (Val row.result)

-- The text is a table of so many keys and of this kind, with these rows: one for each line that has more than blanks.
pub record IsTable (keys : ℕ) (kind : Kind) (text : List ℕ) (table : TableValue) : Type 0 where
  pub keys_is : table.keys ≡ keys
  pub kind_is : table.kind ≡ kind
  pub rows : AllZip (λ line row. IsTableRow keys kind line.bytes row) (lines_of text) table.rows

-- the result of a row, and a missing value where there is none
abbrev pub result_of : Option TableRow → Cell
result_of None = Mv
result_of (Some row) = Val row.result

-- the value of a table: the result of the first row whose key columns all take in the number at their place
abbrev pub value_of : TableValue → List ℤ → Cell
value_of table numbers = result_of (find (λ row. all_lie_in row.keys numbers) table.rows)
