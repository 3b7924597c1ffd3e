-- What is wrong with a text that is no table, and the first of it.
use Rattle.std.specs.Prelude.{◌≡◌, ◌≢◌, ℕ, ◌+◌, ◌<◌, true, false, ◌⊎◌, List, [], ◌∷◌, ◌++◌, length, Option, Some, None, Err}
use Rattle.std.specs.List.{AllZip}
use Rattle.cell_values.specs.declared.kind.Kind.{Kind}
use Rattle.cell_values.specs.declared.kind.Kind.TheVariants.{Scalar}
use Rattle.cell_values.specs.declared.cell.NumberFault.{NumberFault}
use Rattle.cell_values.specs.declared.cell.NumberFault.TheVariants as numbers
use Rattle.cell_values.specs.inside.Reading.{cell_read}
use Rattle.text_base.specs.Lines.{Line, lines_of}
use Rattle.lookup_table.specs.declared.key.KeyRange.{KeyRange}
use Rattle.lookup_table.specs.declared.fault.TableFault.{TableFault}
use Rattle.lookup_table.specs.declared.fault.TableKind.{TableKind}
use Rattle.lookup_table.specs.declared.fault.TableKind.TheVariants as kinds
use Rattle.lookup_table.specs.Columns.{AreColumns, IsUnclosed}
use Rattle.lookup_table.specs.Keys.{begins_interval, Interval, Writes, IsKey}
use Rattle.lookup_table.specs.Form.{TableRow, IsTableRow}

-- the fault of a column that should be a decimal
abbrev pub told : NumberFault → TableKind
told numbers.BadNumber = kinds.BadNumber
told numbers.Range = kinds.Range

-- a bound that is a decimal without a value
abbrev pub IsOutOfRange : Option (List ℕ) → Type 0
IsOutOfRange None = ⊥
IsOutOfRange (Some word) = cell_read Scalar word ≡ Err numbers.Range

-- A fault of a key column: one case for each row of the table.
pub data KeyFault (column : List ℕ) (fault : TableKind) : Type 0 where
  -- an interval that is not of the form
  NoInterval : begins_interval column ≡ true → ((interval : Interval) → Writes column interval → ⊥)
      → fault ≡ kinds.BadInterval → KeyFault column fault
  -- no decimal, or one without a value
  NoNumber : (why : NumberFault) → begins_interval column ≡ false → cell_read Scalar column ≡ Err why
      → fault ≡ told why → KeyFault column fault
  -- an interval with a bound without a value
  BadBound : (interval : Interval) → begins_interval column ≡ true → Writes column interval
      → IsOutOfRange interval.low ⊎ IsOutOfRange interval.high
      → fault ≡ kinds.Range → KeyFault column fault

-- The first fault of a line: one case for each row of the table. In each the faults of the rows above it are ruled out.
pub data RowFault (keys : ℕ) (kind : Kind) (bytes : List ℕ) (fault : TableKind) : Type 0 where
  -- an interval that is not closed in its line
  Unclosed : IsUnclosed bytes → fault ≡ kinds.BadInterval → RowFault keys kind bytes fault
  -- a wrong number of columns
  WrongCount : (columns : List (List ℕ)) → AreColumns bytes columns → length columns ≢ keys + 1
      → fault ≡ kinds.Columns → RowFault keys kind bytes fault
  -- a key column at fault, behind others that are keys
  AtKey : (before more : List (List ℕ)) (column : List ℕ) (ranges : List KeyRange)
      → AreColumns bytes (before ++ column ∷ more) → length (before ++ column ∷ more) ≡ keys + 1
      → length before < keys → AllZip IsKey before ranges
      → KeyFault column fault → RowFault keys kind bytes fault
  -- a result that is no decimal or has no value of the kind, behind the keys
  AtResult : (before : List (List ℕ)) (column : List ℕ) (ranges : List KeyRange) (why : NumberFault)
      → AreColumns bytes (before ++ column ∷ []) → length before ≡ keys → AllZip IsKey before ranges
      → cell_read kind column ≡ Err why → fault ≡ told why → RowFault keys kind bytes fault

-- the first fault of a text: that of the first line which is no row, with the number of this line
pub record IsFirstTableFault (keys : ℕ) (kind : Kind) (text : List ℕ) (fault : TableFault) : Type 0 where
  pub before : List Line
  pub line : Line
  pub more : List Line
  pub rows : List TableRow
  pub parts : lines_of text ≡ before ++ line ∷ more
  pub sound : AllZip (λ earlier row. IsTableRow keys kind earlier.bytes row) before rows
  pub here : RowFault keys kind line.bytes fault.kind
  pub number : fault.line ≡ line.number
