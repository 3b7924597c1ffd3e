-- The rain: a series of four steps, with a column for each of the four zones.
use Rattle.std.specs.Prelude.{ℕ, ◌*◌, ◌-◌, ◌%◌, List, map, take, drop, pos}
use Rattle.std.specs.List.{range_with_len}
use Rattle.cell_values.specs.declared.cell.Cell.{Cell}
use Rattle.cell_values.specs.declared.cell.Cell.TheVariants.{Val}
use Rattle.cell_values.specs.Units.{million}
use Rattle.time_series.specs.declared.row.SeriesRow.{SeriesRow}

-- how many steps the rain has
abbrev pub steps : ℕ
steps = 4

-- how many columns it has
abbrev pub columns : ℕ
columns = 4

-- the rain of a draw
abbrev pub rain_cell : ℕ → Cell
rain_cell draw = Val (pos (draw % 10 * million))

-- the row of a step, by the draws of the rain: one for each column, behind those of the steps before
abbrev pub rain_row : List ℕ → ℕ → SeriesRow
rain_row draws step = record { step = step; cells = map rain_cell (take columns (drop (columns * (step - 1)) draws)) }

-- the rows of the rain, by its draws
abbrev pub rain_rows : List ℕ → List SeriesRow
rain_rows draws = map (rain_row draws) (range_with_len 1 steps)
