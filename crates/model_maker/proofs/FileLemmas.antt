-- The files of a model by their places, the cells of its maps, and the rows of its rain.
use Rattle.std.proofs.Common.{◌≡◌, ℕ, ◌+◌, ◌*◌, ◌≤◌, List, length, take, drop, map, refl, ap, ◌∙◌, arith}
use Rattle.std.specs.Prelude.{codes}
use Rattle.std.specs.List.{All}
use Rattle.std.proofs.lemmas.List.{length-drop, length-map, length-take-le}
use Rattle.std.proofs.lemmas.List.Elements.{All-from_recursion}
use Rattle.std.proofs.lemmas.List.FromFn.{length-map-range_with_len}
use Rattle.cell_values.specs.declared.kind.Kind.TheVariants.{Nominal, Scalar, Ldd}
use Rattle.time_series.specs.declared.row.SeriesRow.{SeriesRow}
use Rattle.model_maker.specs.Cells.{cells_in_all, drain_cell, drain_cells, side, soil_cell, soil_cells, zone_cell, zone_cells}
use Rattle.model_maker.specs.Files.{cell_draws, made_file_at, grid_file, made_files, rain_draws, rain_file}
use Rattle.model_maker.specs.Rain.{columns, rain_cell, rain_rows, steps}
use Rattle.model_maker.specs.Script.{made_script}
use Rattle.model_maker.specs.inside.States.{state_after}
use Rattle.model_maker.proofs.DrawLemmas.{cell_draws-are, length-by_place, length-drawn_from, rain_draws-are}

-- ---- the files by their places

pub script_at : (number : ℕ) → (codes "made.mod", made_script) ≡ made_file_at number 0
unfolding made_files
script_at number = refl

pub drains_at : (number : ℕ) → (codes "made_ldd.asc", grid_file Ldd (drain_cells (cell_draws number))) ≡ made_file_at number 1
unfolding made_files
drains_at number = refl

pub zones_at : (number : ℕ) → (codes "made_zone.asc", grid_file Nominal zone_cells) ≡ made_file_at number 2
unfolding made_files
zones_at number = refl

pub soils_at : (number : ℕ) → (codes "made_soil.asc", grid_file Scalar (soil_cells (cell_draws number))) ≡ made_file_at number 3
unfolding made_files
soils_at number = refl

pub rain_at : (number : ℕ) → (codes "made_rain.tss", rain_file (rain_draws number)) ≡ made_file_at number 4
unfolding made_files
rain_at number = refl

-- ---- the cells of the maps

all_cells : cells_in_all ≡ side * side
unfolding cells_in_all
all_cells = refl

pub length-drains : (number : ℕ) → length (drain_cells (cell_draws number)) ≡ side * side
length-drains number =
    length-by_place drain_cell 0 (cell_draws number)
    ∙ ap length (cell_draws-are number)
    ∙ length-drawn_from cells_in_all number
    ∙ all_cells

pub length-soils : (number : ℕ) → length (soil_cells (cell_draws number)) ≡ side * side
length-soils number =
    length-map (cell_draws number) soil_cell
    ∙ ap length (cell_draws-are number)
    ∙ length-drawn_from cells_in_all number
    ∙ all_cells

pub length-zones : length zone_cells ≡ side * side
length-zones = length-map-range_with_len zone_cell 0 cells_in_all ∙ all_cells

-- ---- the rows of the rain

row_full : (us : List ℕ) (step : ℕ) → columns * step + columns ≤ length us → length (map rain_cell (take columns (drop (columns * step) us))) ≡ columns
row_full us step le =
    length-map (take columns (drop (columns * step) us)) rain_cell
    ∙ length-take-le columns (drop (columns * step) us) (omega (arith, length-drop (columns * step) us))

-- Each row of the rain has a cell for each column.
pub rows_full : (us : List ℕ) → columns * steps ≤ length us → All (λ (row : SeriesRow). length row.cells ≡ columns) (rain_rows us)
rows_full us le = All-from_recursion (λ (row : SeriesRow). length row.cells ≡ columns) (rain_rows us)
    (row_full us 0 (omega arith), (row_full us 1 (omega arith), (row_full us 2 (omega arith), (row_full us 3 (omega arith), tt))))

-- So has each row of the rain of a model.
pub rain_full : (number : ℕ) → All (λ (row : SeriesRow). length row.cells ≡ columns) (rain_rows (rain_draws number))
rain_full number =
    rows_full (rain_draws number)
    (omega (arith, ap length (rain_draws-are number) ∙ length-drawn_from (columns * steps) (state_after cells_in_all number)))
