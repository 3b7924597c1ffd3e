-- Words for the code's own steps. What a reader of the crate is to believe stands in the other files.
use Rattle.std.specs.Prelude.{◌≡◌, ℕ, ◌<◌, true, false, nat_lt, List, ◌++◌, map, Result, Ok, Err, ⊤}
use Rattle.std.specs.List.{All, AllPairs}
use Rattle.std.specs.Borrow.{Bor}
use Rattle.std.specs.List.Sorted.{IsPartitionPoint}
use Rattle.cell_values.specs.declared.kind.Kind.{Kind}
use Rattle.cell_values.specs.Kinds.{IsCell}
use Rattle.text_base.specs.Tokens.{tokens_left}
use Rattle.text_base.specs.Lines.{Line, lines_at}
use Rattle.text_base.specs.Results.{◌>>=◌}
use Rattle.time_series.specs.declared.row.SeriesRow.{SeriesRow}
use Rattle.time_series.specs.declared.head.Head.{Head}
use Rattle.time_series.specs.declared.fault.SeriesFault.{SeriesFault}
use Rattle.time_series.specs.declared.fault.ReadSeries.{ReadSeries}
use Rattle.time_series.specs.declared.fault.ReadSeries.TheVariants.{Fault, Memory}
use Rattle.time_series.specs.Form.{SeriesValue}

-- the words of the last bytes of a line of this length
abbrev pub words_left : ℕ → List ℕ → List (List ℕ)
words_left len bytes = map (λ token. token.bytes) (tokens_left len bytes)

-- what a part of the reader answers is what is to be read, unless memory runs out
abbrev pub AnswersFault : {Y : Type 0} → ReadSeries → Result Y SeriesFault → Type 0
AnswersFault (Fault fault) read = read ≡ Err fault
AnswersFault Memory read = ⊤

-- what a part of the reader answers, seen by view, is what is to be read, unless memory runs out
abbrev pub Answers : {X Y : Type 0} → (X → Y) → Result X ReadSeries → Result Y SeriesFault → Type 0
Answers view (Ok x) read = read ≡ Ok (view x)
Answers view (Err e) read = AnswersFault e read

-- the head that is read: the number of columns, and the lines from a place on
abbrev pub head_view : Head → ℕ × List Line
head_view head = (head.width, lines_at head.number head.rest.now)

-- the cells of a row are of the kind
abbrev pub CellsAre : Kind → SeriesRow → Type 0
CellsAre kind row = All (IsCell kind) row.cells

-- what a series keeps: cells of its kind, and ascending steps
pub record IsKeptSeries (kind : Kind) (rows : List SeriesRow) : Type 0 where
  pub cells : All (CellsAre kind) rows
  pub ascending : AllPairs (λ earlier later. earlier.step < later.step) rows

-- a series as contracts see it
abbrev pub series_view : Kind → List SeriesRow → SeriesValue
series_view kind rows = record { kind = kind; rows = rows }

-- the elements that stand before, and those that are read behind them
abbrev pub behind_all : {X E : Type 0} → List X → Result (List X) E → Result (List X) E
behind_all before read = read >>= λ more. Ok (before ++ more)

-- what a step answers, its value seen by view
abbrev pub seen_result : {X Y E : Type 0} → (X → Y) → Result X E → Result Y E
seen_result view (Ok x) = Ok (view x)
seen_result view (Err e) = Err e

-- the lines that bytes have from a line on
abbrev pub line_at : ℕ × Bor (List ℕ) → List Line
line_at found = lines_at found.0 found.1.now

-- so many rows have a step below this one, and they stand first
abbrev pub StepsBefore : List SeriesRow → ℕ → ℕ → Type 0
StepsBefore rows step n = IsPartitionPoint (λ row. nat_lt row.step step ≡ true) (λ row. nat_lt row.step step ≡ false) rows n
