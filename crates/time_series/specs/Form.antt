-- The form of a series' text: a head or none, and then rows.
use Rattle.std.specs.Prelude.{◌≡◌, ℕ, ◌<◌, true, false, List, [], ◌∷◌, ◌++◌, length, map, Some, Ok, ⊤}
use Rattle.cell_values.specs.declared.kind.Kind.{Kind}
use Rattle.text_base.specs.Lines.{Line, lines_of}
use Rattle.time_series.specs.declared.row.SeriesRow.{SeriesRow}
use Rattle.time_series.specs.Words.{line_words, are_decimals, column_count, step_of_word, cell_of_word}

-- a series as contracts see it: the kind of its values, and its rows
pub record SeriesValue : Type 0 where
  pub kind : Kind
  pub rows : List SeriesRow

-- The lines have rows of so many columns, these ones. Without a head all lines are rows, and the first says how many
-- columns there are. Behind a head, of a title, a number of columns and a name for each column, the others are.
pub data HasRows (lines : List Line) (width : ℕ) (rows : List Line) : Type 0 where
  Bare : (first : Line) (more : List Line) → lines ≡ first ∷ more → are_decimals (line_words first.bytes) ≡ true
      → width ≡ length (line_words first.bytes) → rows ≡ lines → HasRows lines width rows
  Headed : (title size : Line) (names : List Line) → lines ≡ title ∷ size ∷ (names ++ rows)
      → are_decimals (line_words title.bytes) ≡ false
      → column_count (line_words size.bytes) ≡ Some width → length names ≡ width → HasRows lines width rows

-- the line is a row of so many columns: a step, and then a word for each cell
pub record IsSeriesRow (kind : Kind) (width : ℕ) (bytes : List ℕ) (row : SeriesRow) : Type 0 where
  pub step_word : List ℕ
  pub cell_words : List (List ℕ)
  pub words : line_words bytes ≡ step_word ∷ cell_words
  pub count : length (line_words bytes) ≡ width
  pub step : step_of_word step_word ≡ Ok row.step
  pub cells : map (cell_of_word kind) cell_words ≡ map Ok row.cells

-- The lines are these rows, behind a row of a step, or behind step 0: each step is above the one before it.
abbrev pub AreRows : Kind → ℕ → ℕ → List Line → List SeriesRow → Type 0
AreRows kind width before [] [] = ⊤
AreRows kind width before [] (row ∷ rows) = ⊥
AreRows kind width before (line ∷ lines) [] = ⊥
AreRows kind width before (line ∷ lines) (row ∷ rows) =
    IsSeriesRow kind width line.bytes row × (before < row.step) × AreRows kind width row.step lines rows

-- The text is a series of the kind with these rows.
pub record IsSeries (kind : Kind) (text : List ℕ) (series : SeriesValue) : Type 0 where
  pub width : ℕ
  pub row_lines : List Line
  pub kind_is : series.kind ≡ kind
  pub head : HasRows (lines_of text) width row_lines
  pub rows : AreRows kind width 0 row_lines series.rows
