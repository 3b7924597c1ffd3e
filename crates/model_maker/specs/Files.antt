-- The files of the model of a number, in order.
use Rattle.std.specs.Prelude.{ℕ, ◌+◌, ◌*◌, false, List, [], ◌∷◌, get_or, take, drop, codes, pos}
use Rattle.cell_values.specs.declared.cell.Cell.{Cell}
use Rattle.cell_values.specs.declared.kind.Kind.{Kind}
use Rattle.cell_values.specs.declared.kind.Kind.TheVariants.{Nominal, Scalar, Ldd}
use Rattle.grid_text.specs.declared.grid.Head.{Head}
use Rattle.grid_text.specs.Written.{written_grid}
use Rattle.time_series.specs.Written.{written_series}
use Rattle.model_maker.specs.Draws.{drawn_from}
use Rattle.model_maker.specs.Cells.{side, cells_in_all, drain_cells, soil_cells, zone_cells}
use Rattle.model_maker.specs.Rain.{columns, steps, rain_rows}
use Rattle.model_maker.specs.Script.{made_script}

-- all draws of a model: one for each cell, and then one for each step and column of the rain
abbrev pub all_draws : ℕ → List ℕ
all_draws number = drawn_from (cells_in_all + columns * steps) number

-- the draws of the cells
abbrev pub cell_draws : ℕ → List ℕ
cell_draws number = take cells_in_all (all_draws number)

-- the draws of the rain
abbrev pub rain_draws : ℕ → List ℕ
rain_draws number = drop cells_in_all (all_draws number)

-- where the maps lie: their lower left corner at 0, and cells of the side 1
abbrev pub made_head : Head
made_head = record { x_center = false; y_center = false; x = codes "0"; y = codes "0"; size = codes "1" }

-- the text of a made map
abbrev pub grid_file : Kind → List Cell → List ℕ
grid_file kind cells = written_grid kind side side made_head cells

-- the text of the rain, whose columns are named from 1 to 4
abbrev pub rain_file : List ℕ → List ℕ
rain_file draws = written_series Scalar (pos 1 ∷ pos 2 ∷ pos 3 ∷ pos 4 ∷ []) (rain_rows draws)

-- the files of the model of a number, each its name and its bytes
unfoldable pub made_files : ℕ → List (List ℕ × List ℕ)
made_files number =
    (codes "made.mod", made_script)
    ∷ (codes "made_ldd.asc", grid_file Ldd (drain_cells (cell_draws number)))
    ∷ (codes "made_zone.asc", grid_file Nominal zone_cells)
    ∷ (codes "made_soil.asc", grid_file Scalar (soil_cells (cell_draws number)))
    ∷ (codes "made_rain.tss", rain_file (rain_draws number))
    ∷ []

-- in the place of a file where there is none
abbrev pub no_file : List ℕ × List ℕ
no_file = ([], [])

-- the file of the model of a number that has this place
abbrev pub made_file_at : ℕ → ℕ → List ℕ × List ℕ
made_file_at number place = get_or (made_files number) place no_file
