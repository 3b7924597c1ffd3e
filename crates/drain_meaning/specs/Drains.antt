-- Drain maps, and where their codes lead.
use Rattle.std.specs.Prelude.{◌≡◌, ℕ, ◌+◌, ◌-◌, ◌*◌, ◌/◌, ◌%◌, ◌≤◌, List, length}
use Rattle.std.specs.Prelude.{pos, negsuc, ◌&&◌, ◌==◌, nat_le, if◌then◌else◌}
use Rattle.text_base.specs.Limits.{most_cells}
use Rattle.cell_values.specs.declared.cell.Cell.{Cell}
use Rattle.cell_values.specs.declared.cell.Cell.TheVariants as cell
use Rattle.cell_values.specs.declared.kind.Kind.TheVariants.{Ldd}
use Rattle.cell_values.specs.Kinds.{IsCell}
use Rattle.tile_map.specs.Cuts.{cell_at}
use Rattle.drain_meaning.specs.declared.next.Next.{Next}
use Rattle.drain_meaning.specs.declared.next.Next.TheVariants as next

-- a drain map: how many rows and columns it has, and its codes in row-major order
pub record DrainMap : Type 0 where
  pub rows : ℕ
  pub cols : ℕ
  pub codes : List Cell

-- the map is within the limits, and has a code, or none, at each place
pub record IsDrainMap (m : DrainMap) : Type 0 where
  pub few : m.rows * m.cols ≤ most_cells
  pub size : length m.codes ≡ m.rows * m.cols
  pub each : (place : ℕ) → IsCell Ldd (cell_at m.codes place)

-- The row that a code leads to, on from the row before: 0 for 7, 8 and 9 to the north, 1 for 4, 5 and 6, 2 for 1, 2 and 3.
abbrev pub row_on : ℕ → ℕ
row_on code = 2 - (code - 1) / 3

-- The column that a code leads to, on from the column before: 0 for 1, 4 and 7 to the west, 1 for 2, 5 and 8, 2 for 3, 6 and 9.
abbrev pub col_on : ℕ → ℕ
col_on code = (code - 1) % 3

-- the cell in this row and column, counted from 1; outside the map there is none
abbrev pub toward : ℕ → ℕ → ℕ → ℕ → Next
toward rows cols row col =
    if nat_le 1 row && nat_le row rows && nat_le 1 col && nat_le col cols
    then next.Cell ((row - 1) * cols + (col - 1))
    else next.Outside

-- where a code leads from a place; in rows and columns that are counted from 1 the one before the place's is place / cols
unfoldable pub next_of : ℕ → ℕ → ℕ → Cell → Next
next_of rows cols place cell.Mv = next.Missing
next_of rows cols place (cell.Val (pos code)) =
    if code == 5 then next.Pit else toward rows cols (place / cols + row_on code) (place % cols + col_on code)
next_of rows cols place (cell.Val (negsuc code)) = next.Missing

-- where the cell at a place drains to; no place outside the map has a direction
unfoldable pub next_at : DrainMap → ℕ → Next
next_at m place = next_of m.rows m.cols place (cell_at m.codes place)
