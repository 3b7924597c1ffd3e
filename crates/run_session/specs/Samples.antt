-- Time series that are sampled from maps.
use Rattle.std.specs.Prelude.{◌==◌, ℕ, Bool, true, false, ℤ, pos, List, [], ◌∷◌, ◌++◌, length, map, nat_lt, if◌then◌else◌}
use Rattle.std.specs.List.{position_or_len}
use Rattle.cell_values.specs.declared.cell.Cell.{Cell}
use Rattle.cell_values.specs.declared.cell.Cell.TheVariants.{Mv, Val}
use Rattle.cell_values.specs.declared.kind.Kind.{Kind}
use Rattle.tile_map.specs.Cuts.{cell_at}
use Rattle.tile_map.specs.Parts.{tabulate}
use Rattle.region_meaning.specs.Numbers.{average_of}
use Rattle.region_meaning.specs.Windows.{present_values}
use Rattle.time_series.specs.declared.row.SeriesRow.{SeriesRow}
use Rattle.time_series.specs.Written.{written_series}
use Rattle.map_meaning.specs.declared.program.OutputKind.{OutputKind}
use Rattle.map_meaning.specs.declared.program.OutputKind.TheVariants.{Sample}
use Rattle.map_meaning.specs.Maps.{WholeMap, nth}
use Rattle.script_types.specs.Lowered.{Shown}
use Rattle.script_types.specs.Values.{Written}

-- ---- columns

-- the ids of a map: its positive values
abbrev pub ids_in : WholeMap → List ℕ
ids_in [] = []
ids_in (Val (pos n) ∷ cells) = if nat_lt 0 n then n ∷ ids_in cells else ids_in cells
ids_in (_ ∷ cells) = ids_in cells

-- a number among numbers that ascend, where it stands once
abbrev pub with_number : ℕ → List ℕ → List ℕ
with_number n [] = n ∷ []
with_number n (x ∷ xs) = if nat_lt n x then n ∷ x ∷ xs else if n == x then x ∷ xs else x ∷ with_number n xs

-- the same numbers in ascending order, each of them once
abbrev pub ascending : List ℕ → List ℕ
ascending [] = []
ascending (n ∷ ns) = with_number n (ascending ns)

-- The columns of a time series, by the map of its ids: the different positive ids, in ascending order.
unfoldable pub id_columns : WholeMap → List ℕ
id_columns ids = ascending (ids_in ids)

-- the cell is this id
abbrev pub is_id : ℕ → Cell → Bool
is_id n (Val (pos id)) = id == n
is_id n _ = false

-- the first place with the id, in row-major order
abbrev pub place_of_id : WholeMap → ℕ → ℕ
place_of_id ids n = position_or_len (is_id n) ids

-- ---- what is sampled

-- the cell at the first place with the id
abbrev pub cell_at_id : WholeMap → WholeMap → ℕ → Cell
cell_at_id ids cells n = cell_at cells (place_of_id ids n)

-- the cells at the places with the id, and a missing value at each other place
abbrev pub cells_of_id : WholeMap → WholeMap → ℕ → List Cell
cells_of_id ids cells n = tabulate (λ place. if is_id n (cell_at ids place) then cell_at cells place else Mv) (length ids)

-- the mean of numbers, rounded; a missing value where there is none
abbrev pub mean_of : List ℤ → Cell
mean_of [] = Mv
mean_of (x ∷ xs) = Val (average_of (x ∷ xs))

-- the mean over all places with the id whose cells are not missing
abbrev pub mean_at : WholeMap → WholeMap → ℕ → Cell
mean_at ids cells n = mean_of (present_values (cells_of_id ids cells n))

-- what a map gives for an id, where it is sampled by the mean or is not
abbrev pub sampled_at : Bool → WholeMap → WholeMap → ℕ → Cell
sampled_at false ids cells n = cell_at_id ids cells n
sampled_at true ids cells n = mean_at ids cells n

-- the cells of a row, one for each column, where a map with these cells is sampled at these ids
abbrev pub row_cells : Bool → WholeMap → WholeMap → List Cell
row_cells mean ids cells = map (sampled_at mean ids cells) (id_columns ids)

-- the cells that a report writes: of a time series those of its row, by the maps of the inputs
abbrev pub cells_put : Bool → List WholeMap → OutputKind → WholeMap → List Cell
cells_put mean maps (Sample ids) cells = row_cells mean (nth maps ids) cells
cells_put mean maps _ cells = cells

-- the report with the cells that it writes
abbrev pub as_put : Bool → List WholeMap → Written → Written
as_put mean maps r = record { file = r.file; form = r.form; kind = r.kind; cells = cells_put mean maps r.form r.cells }

-- ---- rows

-- a time series so far: its file, the kind of its cells, the map of its ids, and its rows
pub record Sampled : Type 0 where
  pub file : List ℕ
  pub kind : Kind
  pub ids : WholeMap
  pub rows : List SeriesRow

-- the report is one of a time series
abbrev pub is_sample_form : OutputKind → Bool
is_sample_form (Sample ids) = true
is_sample_form _ = false

-- the time series of an output, without rows, by the number of the input that is the map of its ids
abbrev pub sample_begun : List WholeMap → ℕ → Shown → Sampled
sample_begun maps ids shown = record { file = shown.file; kind = shown.kind; ids = nth maps ids; rows = [] }

-- the time series that an output is, if it is one
abbrev pub begun : List WholeMap → OutputKind → Shown → List Sampled
begun maps (Sample ids) shown = sample_begun maps ids shown ∷ []
begun maps _ shown = []

-- the time series among some outputs, in their order, without rows
abbrev pub all_begun : List WholeMap → List Shown → List Sampled
all_begun maps [] = []
all_begun maps (shown ∷ more) = begun maps shown.form shown ++ all_begun maps more

-- a time series with one row more
abbrev pub one_row_more : Sampled → SeriesRow → Sampled
one_row_more s row = record { file = s.file; kind = s.kind; ids = s.ids; rows = s.rows ++ row ∷ [] }

-- each time series with its row of a step, which is reported of it at this step, in their order
abbrev pub with_rows : ℕ → List Sampled → List Written → List Sampled
with_rows step [] reports = []
with_rows step (s ∷ more) [] = s ∷ more
with_rows step (s ∷ more) (r ∷ reports) =
    one_row_more s (record { step = step; cells = r.cells }) ∷ with_rows step more reports

-- the text of a time series
abbrev pub series_text : Sampled → List ℕ
series_text s = written_series s.kind (map pos (id_columns s.ids)) s.rows
