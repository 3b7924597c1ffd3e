-- The sides of a map and of its tiles.
use Rattle.std.specs.Prelude.{ℕ, ◌≤◌, ◌<◌, ◌*◌}
use Rattle.text_base.specs.Limits.{most_cells}
use Rattle.tile_map.specs.Limits.{longest_tile_side}

-- the sides of a map and of its tiles are within the limits
pub record AreSides (rows cols tile_rows tile_cols : ℕ) : Type 0 where
  pub some_rows : 0 < rows
  pub some_cols : 0 < cols
  pub few_cells : rows * cols ≤ most_cells
  pub some_tile_rows : 0 < tile_rows
  pub some_tile_cols : 0 < tile_cols
  pub few_tile_rows : tile_rows ≤ longest_tile_side
  pub few_tile_cols : tile_cols ≤ longest_tile_side
