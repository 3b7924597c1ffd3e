-- The values of a series.
use Rattle.std.specs.Prelude.{ℕ, zero, suc, ◌==◌, List, slice_index_or, ℤ, pos, negsuc, Option, Some, None}
use Rattle.std.specs.List.{find}
use Rattle.std.specs.Option.{option_map}
use Rattle.cell_values.specs.declared.cell.Cell.{Cell}
use Rattle.cell_values.specs.declared.cell.Cell.TheVariants.{Mv}
use Rattle.time_series.specs.declared.row.SeriesRow.{SeriesRow}

-- the cells of the row of a step
abbrev pub cells_at : List SeriesRow → ℕ → Option (List Cell)
cells_at rows step = option_map (λ row. row.cells) (find (λ row. row.step == step) rows)

-- the cell of a column, which count from 1, and a missing value where there is no such column
abbrev pub cell_in_column : List Cell → ℤ → Cell
cell_in_column cells (pos zero) = Mv
cell_in_column cells (pos (suc place)) = slice_index_or cells place Mv
cell_in_column cells (negsuc n) = Mv

-- the cell of a column in the row that is there, and a missing value where there is none
abbrev pub cell_in_row : Option (List Cell) → ℤ → Cell
cell_in_row None column = Mv
cell_in_row (Some cells) column = cell_in_column cells column
