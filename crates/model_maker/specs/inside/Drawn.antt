-- What is kept of a model that was drawn.
use Rattle.std.specs.Prelude.{◌≡◌, ℕ, List}
use Rattle.cell_values.specs.declared.cell.Cell.{Cell}
use Rattle.time_series.specs.declared.row.SeriesRow.{SeriesRow}
use Rattle.model_maker.specs.Cells.{drain_cells, soil_cells}
use Rattle.model_maker.specs.Files.{cell_draws, rain_draws}
use Rattle.model_maker.specs.Rain.{rain_rows}

-- these are the cells of the drain map and of the soils, and the rows of the rain, of the model of this number
pub record IsDrawnModel (number : ℕ) (down depths : List Cell) (rows : List SeriesRow) : Type 0 where
  pub drains : down ≡ drain_cells (cell_draws number)
  pub soils : depths ≡ soil_cells (cell_draws number)
  pub rain : rows ≡ rain_rows (rain_draws number)
