-- Rectangles of a map, or of any grid of rows and columns, whose places are counted in row-major order.
use Rattle.std.specs.Prelude.{ℕ, List, map, ◌≤◌, ◌<◌, ◌+◌, ◌-◌, ◌*◌, ◌/◌, ◌%◌, min}
use Rattle.std.specs.List.{range_with_len}
use Rattle.tile_map.specs.declared.rect.Rect.{Rect}

-- the rectangle lies in a map of so many rows and columns
pub record IsInMap (rows cols : ℕ) (r : Rect) : Type 0 where
  pub below : r.top + r.rows ≤ rows
  pub right : r.left + r.cols ≤ cols

-- the rectangle has cells
pub record HasCells (r : Rect) : Type 0 where
  pub some_rows : 0 < r.rows
  pub some_cols : 0 < r.cols

-- how many cells a rectangle has
abbrev pub cell_count : Rect → ℕ
cell_count r = r.rows * r.cols

-- the rectangle holds the cell of this row and column
pub record Holds (r : Rect) (row col : ℕ) : Type 0 where
  pub from_top : r.top ≤ row
  pub above_bottom : row < r.top + r.rows
  pub from_left : r.left ≤ col
  pub before_right : col < r.left + r.cols

-- the rectangle holds the place of a map of so many columns
abbrev pub HoldsPlace : ℕ → Rect → ℕ → Type 0
HoldsPlace cols r place = Holds r (place / cols) (place % cols)

-- the place of a rectangle's cell by the cell's number, which counts the rectangle's cells row by row
unfoldable pub place_in : ℕ → Rect → ℕ → ℕ
place_in cols r number = (r.top + number / r.cols) * cols + (r.left + number % r.cols)

-- the number of a place that a rectangle holds
unfoldable pub number_in : ℕ → Rect → ℕ → ℕ
number_in cols r place = (place / cols - r.top) * r.cols + (place % cols - r.left)

-- the places of a rectangle in their order
unfoldable pub places_of : ℕ → Rect → List ℕ
places_of cols r = map (place_in cols r) (range_with_len 0 (cell_count r))

-- the rectangle grown by k on each side, as far as a map of so many rows and columns goes
unfoldable pub grown : ℕ → ℕ → ℕ → Rect → Rect
grown rows cols k r =
    let top = r.top - k in
    let left = r.left - k in
    record { top = top; left = left; rows = min rows (r.top + r.rows + k) - top; cols = min cols (r.left + r.cols + k) - left }

-- the rectangle holds a cell that is at most k rows and k columns away from this row and column
pub record IsNear (k : ℕ) (r : Rect) (row col : ℕ) : Type 0 where
  pub near_row : ℕ
  pub near_col : ℕ
  pub holds : Holds r near_row near_col
  pub above : row ≤ near_row + k
  pub below : near_row ≤ row + k
  pub left : col ≤ near_col + k
  pub right : near_col ≤ col + k
