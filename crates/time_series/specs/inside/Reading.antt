-- The reading of a series' text as a function, for the course of a run: the series or the first fault. What it means is said
-- by the form and by the table of faults, and laws tie it to them.
use Rattle.std.specs.Prelude.{ℕ, zero, suc, ◌==◌, List, [], ◌∷◌, length, Option, Some, None, Result, Ok, Err, nat_lt, if◌then◌else◌}
use Rattle.cell_values.specs.declared.kind.Kind.{Kind}
use Rattle.cell_values.specs.declared.cell.Cell.{Cell}
use Rattle.cell_values.specs.declared.cell.NumberFault.{NumberFault}
use Rattle.text_base.specs.Lines.{Line, lines_of}
use Rattle.text_base.specs.Results.{◌>>=◌}
use Rattle.time_series.specs.declared.row.SeriesRow.{SeriesRow}
use Rattle.time_series.specs.declared.fault.SeriesFault.{SeriesFault}
use Rattle.time_series.specs.declared.fault.SeriesKind.{SeriesKind}
use Rattle.time_series.specs.declared.fault.SeriesKind.TheVariants as kinds
use Rattle.time_series.specs.Words.{line_words, are_decimals, column_count, step_of_word, cell_of_word}
use Rattle.time_series.specs.Form.{SeriesValue}
use Rattle.time_series.specs.Faults.{title_at, word_fault}

-- ---- rows

-- what a word gives, or its fault
abbrev pub word_gives : {X : Type 0} → Result X NumberFault → Result X SeriesKind
word_gives (Ok x) = Ok x
word_gives (Err why) = Err (word_fault why)

-- the cells of words
unfoldable pub cells_read : Kind → List (List ℕ) → Result (List Cell) SeriesKind
cells_read kind [] = Ok []
cells_read kind (word ∷ words) =
    word_gives (cell_of_word kind word) >>= λ cell. cells_read kind words >>= λ cells. Ok (cell ∷ cells)

-- the row of words: a step, and then cells
unfoldable pub row_of_words : Kind → List (List ℕ) → Result SeriesRow SeriesKind
row_of_words kind [] = Err kinds.Columns
row_of_words kind (word ∷ words) =
    word_gives (step_of_word word) >>= λ step. cells_read kind words >>= λ cells. Ok (record { step = step; cells = cells })

-- the row, where its step is above the one before it
abbrev pub behind_step : ℕ → SeriesRow → Result SeriesRow SeriesKind
behind_step before row = if nat_lt before row.step then Ok row else Err kinds.Order

-- the row of so many columns that a line writes behind a row of a step
unfoldable pub step_row_read : Kind → ℕ → ℕ → List ℕ → Result SeriesRow SeriesKind
step_row_read kind width before bytes =
    if length (line_words bytes) == width then (row_of_words kind (line_words bytes) >>= behind_step before) else Err kinds.Columns

-- what stands in a line, or its fault with the line's number
abbrev pub at_line : {X : Type 0} → ℕ → Result X SeriesKind → Result X SeriesFault
at_line number (Ok x) = Ok x
at_line number (Err kind) = Err (record { kind = kind; line = number })

-- the rows of lines, behind a row of a step
unfoldable pub step_rows_read : Kind → ℕ → ℕ → List Line → Result (List SeriesRow) SeriesFault
step_rows_read kind width before [] = Ok []
step_rows_read kind width before (line ∷ lines) =
    at_line line.number (step_row_read kind width before line.bytes) >>= λ row.
    step_rows_read kind width row.step lines >>= λ rows.
    Ok (row ∷ rows)

-- ---- the head

-- the lines behind so many names, the last line before which has a number
unfoldable pub behind_names : ℕ → ℕ → List Line → Result (List Line) SeriesFault
behind_names zero last lines = Ok lines
behind_names (suc n) last [] = Err (title_at last)
behind_names (suc n) last (line ∷ lines) = behind_names n line.number lines

-- the number of columns, and the lines of rows, behind the line of this number
abbrev pub sized : ℕ → List Line → Option ℕ → Result (ℕ × List Line) SeriesFault
sized number more None = Err (title_at number)
sized number more (Some width) = behind_names width number more >>= λ rows. Ok (width, rows)

-- the number of columns, and the lines of rows, behind a title at a line
unfoldable pub headed : ℕ → List Line → Result (ℕ × List Line) SeriesFault
headed title [] = Err (title_at title)
headed title (size ∷ more) = sized size.number more (column_count (line_words size.bytes))

-- the number of columns, and the lines of rows
unfoldable pub head_read : List Line → Result (ℕ × List Line) SeriesFault
head_read [] = Err (title_at 1)
head_read (first ∷ more) =
    if are_decimals (line_words first.bytes) then Ok (length (line_words first.bytes), first ∷ more) else headed first.number more

-- ---- the whole

-- the series that a text is, or its first fault
unfoldable pub series_of : Kind → List ℕ → Result SeriesValue SeriesFault
series_of kind text =
    head_read (lines_of text) >>= λ head. step_rows_read kind head.0 0 head.1 >>= λ rows. Ok (record { kind = kind; rows = rows })
