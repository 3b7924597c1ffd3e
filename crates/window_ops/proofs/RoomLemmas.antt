-- How many cells there are.
use Rattle.std.proofs.Common.{◌≡◌, ℕ, ◌+◌, ◌*◌, ◌<◌, ◌≤◌, List, length, arith}
use Rattle.std.proofs.lemmas.Nat.{mul-le}
use Rattle.text_base.specs.Limits.{most_cells}
use Rattle.cell_values.specs.declared.cell.Cell.{Cell}
use Rattle.tile_map.specs.declared.rect.Rect.{Rect}
use Rattle.tile_map.specs.Rects.{IsInMap}

-- a rectangle of a map has few cells
pub few_cells : (rows cols : ℕ) (r : Rect) (cells : List Cell) → IsInMap rows cols r → length cells ≡ rows * cols → length cells ≤ most_cells → r.rows * r.cols ≤ most_cells
few_cells rows cols r cells in_map size few =
    let below = in_map.below in
    let right = in_map.right in
    let fits : r.rows * r.cols ≤ rows * cols = mul-le r.rows r.cols rows cols (omega arith) (omega arith) in
    omega arith

-- a map with rows has few columns
pub few_cols : (rows cols : ℕ) (cells : List Cell) → length cells ≡ rows * cols → length cells ≤ most_cells → 1 ≤ rows → cols ≤ most_cells
few_cols rows cols cells size few some =
    let fits : 1 * cols ≤ rows * cols = mul-le 1 cols rows cols some (omega arith) in
    omega arith

-- the first rows are among the cells
pub rows_within : (rows cols n : ℕ) (cells : List Cell) → length cells ≡ rows * cols → n ≤ rows → n * cols ≤ length cells
rows_within rows cols n cells size below =
    let fits : n * cols ≤ rows * cols = mul-le n cols rows cols below (omega arith) in
    omega arith

-- there is room for one more row
pub room_for : (rows cols row done : ℕ) → row < rows → done ≡ row * cols → rows * cols ≤ most_cells → done + cols ≤ most_cells
room_for rows cols row done below is few =
    let fits : (row + 1) * cols ≤ rows * cols = mul-le (row + 1) cols rows cols (omega arith) (omega arith) in
    omega arith
