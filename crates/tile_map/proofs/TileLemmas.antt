-- Tiles cover each place once.
use Rattle.std.proofs.Common.{◌≡◌, ℕ, ◌+◌, ◌*◌, ◌/◌, ◌%◌, ◌<◌, ◌≤◌, sym, ap, subst, ◌∙◌, arith}
use Rattle.std.specs.Int.{div_ceil}
use Rattle.std.proofs.lemmas.Nat.{div-add-mod', div-mul-add, mod-mul-add, mod_below, div_below, mul-le, mul-add-lt}
use Rattle.std.proofs.Math.Nat.{mul_comm}
use Rattle.text_base.specs.Limits.{most_cells}
use Rattle.tile_map.specs.declared.rect.Rect.{Rect}
use Rattle.tile_map.specs.declared.tiling.Tiling.{Tiling}
use Rattle.tile_map.specs.Rects.{HasCells, Holds, HoldsPlace, IsInMap}
use Rattle.tile_map.specs.Tiles.{across, down, tile_count, rect_at, rect_of, tile_at}
use Rattle.tile_map.proofs.SideLemmas.{part_begins, part_below, parts_few, part_from, part_to, part_only, part_within}

pub some_across : (g : Tiling) → 0 < across g
unfolding across
some_across g = let b : 0 / g.tile_cols < div_ceil g.cols g.tile_cols = part_below g.cols g.tile_cols 0 g.sides.some_tile_cols g.sides.some_cols in omega arith

-- there are no more tiles than cells
pub count_few : (g : Tiling) → tile_count g ≤ most_cells
unfolding across down
count_few g =
    let less : down g * across g ≤ g.rows * g.cols = mul-le (down g) (across g) g.rows g.cols (parts_few g.rows g.tile_rows g.sides.some_tile_rows) (parts_few g.cols g.tile_cols g.sides.some_tile_cols) in
    let few = g.sides.few_cells in
    omega arith

-- a side has no more places than the map
pub sides_few : (g : Tiling) → (g.rows ≤ most_cells) × (g.cols ≤ most_cells)
sides_few g =
    let a : g.rows * 1 ≤ g.rows * g.cols = mul-le g.rows 1 g.rows g.cols (omega arith) (omega (arith, g.sides.some_cols)) in
    let b : 1 * g.cols ≤ g.rows * g.cols = mul-le 1 g.cols g.rows g.cols (omega (arith, g.sides.some_rows)) (omega arith) in
    let few = g.sides.few_cells in
    (omega arith, omega arith)

-- a tile begins in the map
pub top_below : (g : Tiling) (tile : ℕ) → tile < tile_count g → tile / across g * g.tile_rows < g.rows
unfolding down
top_below g tile below = part_begins g.rows g.tile_rows (tile / across g) g.sides.some_tile_rows (div_below tile (across g) (down g) (some_across g) below)

pub left_below : (g : Tiling) (tile : ℕ) → tile % across g * g.tile_cols < g.cols
unfolding across
left_below g tile = part_begins g.cols g.tile_cols (tile % across g) g.sides.some_tile_cols (mod_below tile (across g) (some_across g))

-- a tile lies in the map, and has cells
pub rect_inside : (g : Tiling) (tile : ℕ) → tile < tile_count g → IsInMap g.rows g.cols (rect_of g tile)
unfolding rect_of
rect_inside g tile below =
    let rows = part_within g.rows g.tile_rows (tile / across g * g.tile_rows) g.sides.some_tile_rows (top_below g tile below) in
    let cols = part_within g.cols g.tile_cols (tile % across g * g.tile_cols) g.sides.some_tile_cols (left_below g tile) in
    record { below = rows.1; right = cols.1 }

pub rect_some : (g : Tiling) (tile : ℕ) → tile < tile_count g → HasCells (rect_of g tile)
unfolding rect_of
rect_some g tile below =
    let rows = part_within g.rows g.tile_rows (tile / across g * g.tile_rows) g.sides.some_tile_rows (top_below g tile below) in
    let cols = part_within g.cols g.tile_cols (tile % across g * g.tile_cols) g.sides.some_tile_cols (left_below g tile) in
    record { some_rows = rows.0; some_cols = cols.0 }

-- the row and the column of a place
pub place_row : (g : Tiling) (place : ℕ) → place < g.rows * g.cols → place / g.cols < g.rows
place_row g place below = div_below place g.cols g.rows g.sides.some_cols below

pub place_col : (g : Tiling) (place : ℕ) → place % g.cols < g.cols
place_col g place = mod_below place g.cols g.sides.some_cols

-- the row and the column of a place's tile, in rows and columns of tiles
pub tile_row : (g : Tiling) (place : ℕ) → tile_at g place / across g ≡ place / g.cols / g.tile_rows
unfolding tile_at across
tile_row g place = div-mul-add (place / g.cols / g.tile_rows) (across g) (place % g.cols / g.tile_cols) (part_below g.cols g.tile_cols (place % g.cols) g.sides.some_tile_cols (place_col g place))

pub tile_col : (g : Tiling) (place : ℕ) → tile_at g place % across g ≡ place % g.cols / g.tile_cols
unfolding tile_at across
tile_col g place = mod-mul-add (place / g.cols / g.tile_rows) (across g) (place % g.cols / g.tile_cols) (part_below g.cols g.tile_cols (place % g.cols) g.sides.some_tile_cols (place_col g place))

pub tile_below : (g : Tiling) (place : ℕ) → place < g.rows * g.cols → tile_at g place < tile_count g
unfolding tile_at across down
tile_below g place below =
    subst (λ (n : ℕ). tile_at g place < n) (mul_comm (across g) (down g))
    (mul-add-lt (place / g.cols / g.tile_rows) (across g) (place % g.cols / g.tile_cols) (down g)
    (part_below g.rows g.tile_rows (place / g.cols) g.sides.some_tile_rows (place_row g place below))
    (part_below g.cols g.tile_cols (place % g.cols) g.sides.some_tile_cols (place_col g place)))

-- the rectangle of a place's tile
pub rect_of-tile_at : (g : Tiling) (place : ℕ) → rect_of g (tile_at g place) ≡ rect_at g (place / g.cols / g.tile_rows) (place % g.cols / g.tile_cols)
unfolding rect_of
rect_of-tile_at g place = ap (λ (x : ℕ). rect_at g x (tile_at g place % across g)) (tile_row g place) ∙ ap (rect_at g (place / g.cols / g.tile_rows)) (tile_col g place)

-- a place's tile holds it
pub tile_holds : (g : Tiling) (place : ℕ) → place < g.rows * g.cols → HoldsPlace g.cols (rect_of g (tile_at g place)) place
tile_holds g place below =
    let row = place / g.cols in
    let col = place % g.cols in
    subst (λ (r : Rect). Holds r row col) (sym (rect_of-tile_at g place))
    (record {
      from_top = part_from g.tile_rows row;
      above_bottom = part_to g.rows g.tile_rows row g.sides.some_tile_rows (place_row g place below);
      from_left = part_from g.tile_cols col;
      before_right = part_to g.cols g.tile_cols col g.sides.some_tile_cols (place_col g place);
    })

-- and no other does
pub tile_only : (g : Tiling) (place tile : ℕ) → HoldsPlace g.cols (rect_of g tile) place → tile ≡ tile_at g place
unfolding rect_of tile_at
tile_only g place tile holds =
    let row : tile / across g ≡ place / g.cols / g.tile_rows = part_only g.rows g.tile_rows (place / g.cols) (tile / across g) g.sides.some_tile_rows holds.from_top holds.above_bottom in
    let col : tile % across g ≡ place % g.cols / g.tile_cols = part_only g.cols g.tile_cols (place % g.cols) (tile % across g) g.sides.some_tile_cols holds.from_left holds.before_right in
    sym (div-add-mod' tile (across g)) ∙ (ap (λ (a : ℕ). a * across g + tile % across g) row ∙ ap (λ (b : ℕ). place / g.cols / g.tile_rows * across g + b) col)
