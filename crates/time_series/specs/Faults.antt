-- What is wrong with a text that is no series, and the first of it.
use Rattle.std.specs.Prelude.{◌≡◌, ◌≢◌, ℕ, ◌<◌, ◌≤◌, false, List, [], ◌∷◌, ◌++◌, length, map, Some, None, Ok, Err}
use Rattle.cell_values.specs.declared.kind.Kind.{Kind}
use Rattle.cell_values.specs.declared.cell.Cell.{Cell}
use Rattle.cell_values.specs.declared.cell.NumberFault.{NumberFault}
use Rattle.cell_values.specs.declared.cell.NumberFault.TheVariants as numbers
use Rattle.text_base.specs.Lines.{Line, lines_of}
use Rattle.time_series.specs.declared.row.SeriesRow.{SeriesRow}
use Rattle.time_series.specs.declared.fault.SeriesFault.{SeriesFault}
use Rattle.time_series.specs.declared.fault.SeriesKind.{SeriesKind}
use Rattle.time_series.specs.declared.fault.SeriesKind.TheVariants as kinds
use Rattle.time_series.specs.Words.{line_words, are_decimals, column_count, step_of_word, cell_of_word}
use Rattle.time_series.specs.Form.{HasRows, IsSeriesRow, AreRows}

-- a fault of the head, told at a line
abbrev pub title_at : ℕ → SeriesFault
title_at line = record { kind = kinds.Title; line = line }

-- the fault of a word that should be a decimal
abbrev pub word_fault : NumberFault → SeriesKind
word_fault numbers.BadNumber = kinds.BadNumber
word_fault numbers.Range = kinds.Range

-- A fault of the head: one case for each row of the table. No line of the text counts that has blanks alone.
pub data SeriesHeadFault (lines : List Line) (fault : SeriesFault) : Type 0 where
  -- no line at all
  Empty : lines ≡ [] → fault ≡ title_at 1 → SeriesHeadFault lines fault
  -- a title at the end of the text
  TitleAlone : (title : Line) → lines ≡ title ∷ [] → are_decimals (line_words title.bytes) ≡ false
      → fault ≡ title_at title.number → SeriesHeadFault lines fault
  -- no number of columns behind the title
  NoCount : (title size : Line) (more : List Line) → lines ≡ title ∷ size ∷ more
      → are_decimals (line_words title.bytes) ≡ false → column_count (line_words size.bytes) ≡ None
      → fault ≡ title_at size.number → SeriesHeadFault lines fault
  -- fewer names than columns, told at the last line
  FewNames : (title size last : Line) (names front : List Line) (width : ℕ) → lines ≡ title ∷ size ∷ names
      → are_decimals (line_words title.bytes) ≡ false → column_count (line_words size.bytes) ≡ Some width
      → length names < width → lines ≡ front ++ last ∷ []
      → fault ≡ title_at last.number → SeriesHeadFault lines fault

-- The first fault of a row, behind a row of a step: one case for each row of the table. In each the faults of the rows
-- above it are ruled out.
pub data SeriesRowFault (kind : Kind) (width before : ℕ) (bytes : List ℕ) (fault : SeriesKind) : Type 0 where
  -- a wrong number of columns
  WrongWidth : length (line_words bytes) ≢ width → fault ≡ kinds.Columns → SeriesRowFault kind width before bytes fault
  -- a step that is no decimal or no step
  BadStep : (word : List ℕ) (more : List (List ℕ)) (why : NumberFault) → line_words bytes ≡ word ∷ more
      → length (line_words bytes) ≡ width → step_of_word word ≡ Err why
      → fault ≡ word_fault why → SeriesRowFault kind width before bytes fault
  -- a value that is no decimal or none of the kind, behind a step and other values
  BadCell : (step_word word : List ℕ) (front more : List (List ℕ)) (step : ℕ) (cells : List Cell) (why : NumberFault)
      → line_words bytes ≡ step_word ∷ (front ++ word ∷ more) → length (line_words bytes) ≡ width
      → step_of_word step_word ≡ Ok step → map (cell_of_word kind) front ≡ map Ok cells → cell_of_word kind word ≡ Err why
      → fault ≡ word_fault why → SeriesRowFault kind width before bytes fault
  -- a step that is not above the one before it
  NotAfter : (row : SeriesRow) → IsSeriesRow kind width bytes row → row.step ≤ before
      → fault ≡ kinds.Order → SeriesRowFault kind width before bytes fault

-- the step of the last of these rows, and where there is none the one before them
abbrev pub last_step : ℕ → List SeriesRow → ℕ
last_step before [] = before
last_step before (row ∷ rows) = last_step row.step rows

-- The first fault of a text: one of its head, or else that of the first line which is no row, with the number of this line.
pub data IsFirstSeriesFault (kind : Kind) (text : List ℕ) (fault : SeriesFault) : Type 0 where
  AtHead : SeriesHeadFault (lines_of text) fault → IsFirstSeriesFault kind text fault
  AtRow : (width : ℕ) (row_lines front more : List Line) (line : Line) (rows : List SeriesRow) (what : SeriesKind)
      → HasRows (lines_of text) width row_lines → row_lines ≡ front ++ line ∷ more
      → AreRows kind width 0 front rows
      → SeriesRowFault kind width (last_step 0 rows) line.bytes what
      → fault ≡ record { kind = what; line = line.number } → IsFirstSeriesFault kind text fault
