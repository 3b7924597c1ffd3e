-- The cells of a row, tile by tile.
use Rattle.std.proofs.Common.{◌≡◌, ℕ, ◌+◌, ◌-◌, ◌*◌, ◌/◌, ◌%◌, ◌<◌, ◌≤◌, List, length, map, slice_range, sym, ap, subst, ◌∙◌, arith}
use Rattle.std.specs.Prelude.{min}
use Rattle.std.specs.List.{range_with_len}
use Rattle.std.proofs.lemmas.Nat.{div-add-mod', div-mul-add, mod-mul-add, mod_below, mul-le}
use Rattle.std.proofs.lemmas.List.{same_lists, get_or_default}
use Rattle.std.proofs.lemmas.List.Edits.{length-between, get_or-between}
use Rattle.std.proofs.lemmas.List.FromFn.{length-map-range_with_len, get_or-map-range_with_len}
use Rattle.cell_values.specs.declared.cell.Cell.{Cell}
use Rattle.cell_values.specs.declared.cell.Cell.TheVariants.{Mv}
use Rattle.std.specs.Int.{div_ceil}
use Rattle.text_base.specs.Limits.{most_cells}
use Rattle.tile_map.specs.declared.rect.Rect.{Rect}
use Rattle.tile_map.specs.declared.tiling.Tiling.{Tiling}
use Rattle.tile_map.specs.Rects.{HoldsPlace, IsInMap, cell_count, number_in}
use Rattle.tile_map.specs.Tiles.{across, down, rect_at, rect_of, tile_at}
use Rattle.tile_map.specs.Cuts.{cell_at, gathered_cell}
use Rattle.tile_map.specs.Laws.{IsMet}
use Rattle.tile_map.proofs.SideLemmas.{part_below, part_to}
use Rattle.tile_map.proofs.RectLemmas.{held_below}
use Rattle.tile_map.proofs.TileLemmas.{count_few, rect_of-tile_at, tile_below, tile_holds}

-- the tile of a row and a column
abbrev pub tile_by : Tiling → ℕ → ℕ → ℕ
tile_by g row col = row / g.tile_rows * across g + col / g.tile_cols

tile_at-by : (g : Tiling) (row col : ℕ) → col < g.cols → tile_at g (row * g.cols + col) ≡ tile_by g row col
unfolding tile_at
tile_at-by g row col below =
    ap (λ (x : ℕ). x / g.tile_rows * across g + (row * g.cols + col) % g.cols / g.tile_cols) (div-mul-add row g.cols col below)
    ∙ ap (λ (x : ℕ). row / g.tile_rows * across g + x / g.tile_cols) (mod-mul-add row g.cols col below)

-- the tile of a cell of a rectangle is met
pub tile_is_met : (g : Tiling) (r : Rect) (row col : ℕ) → IsInMap g.rows g.cols r → r.top ≤ row → row < r.top + r.rows → r.left ≤ col → col < r.left + r.cols → IsMet g r (tile_by g row col)
tile_is_met g r row col in_map top bottom left right =
    let wide = in_map.right in
    let place : ℕ = row * g.cols + col in
    let in_row : place / g.cols ≡ row = div-mul-add row g.cols col (omega arith) in
    let in_col : place % g.cols ≡ col = mod-mul-add row g.cols col (omega arith) in
    let holds : HoldsPlace g.cols r place = record { from_top = omega arith; above_bottom = omega arith; from_left = omega arith; before_right = omega arith } in
    let below : place < g.rows * g.cols = held_below g.rows g.cols r place in_map holds in
    subst (IsMet g r) (tile_at-by g row col (omega arith))
    (tile_below g place below, record { place = place; in_rect = holds; in_tile = tile_holds g place below })

-- the rectangle of the tile of a row and a column
pub rect_of-by : (g : Tiling) (row col : ℕ) → col < g.cols → rect_of g (tile_by g row col) ≡ rect_at g (row / g.tile_rows) (col / g.tile_cols)
rect_of-by g row col below =
    sym (ap (rect_of g) (tile_at-by g row col below))
    ∙ (rect_of-tile_at g (row * g.cols + col)
    ∙ (ap (λ (x : ℕ). rect_at g (x / g.tile_rows) ((row * g.cols + col) % g.cols / g.tile_cols)) (div-mul-add row g.cols col below)
    ∙ ap (λ (x : ℕ). rect_at g (row / g.tile_rows) (x / g.tile_cols)) (mod-mul-add row g.cols col below)))

-- where a row's cell stands in its tile
abbrev pub stands : Tiling → ℕ → ℕ → ℕ → ℕ
stands g row tile_col col = row % g.tile_rows * (rect_at g (row / g.tile_rows) tile_col).cols + (col - tile_col * g.tile_cols)

-- a column of a column of tiles
same_part : (p k t : ℕ) → t * p ≤ k → k < (t + 1) * p → k / p ≡ t
same_part p k t low high =
    let one : (t + 1) * p ≡ t * p + p = omega arith in
    ap (λ (x : ℕ). x / p) (let e : k ≡ t * p + (k - t * p) = omega arith in e) ∙ div-mul-add t p (k - t * p) (omega arith)

-- a cell of a row, from its tile
gathered_cell-by : (g : Tiling) (tiles : ℕ → List Cell) (row tile_col col : ℕ) → col < g.cols → tile_col * g.tile_cols ≤ col → col < (tile_col + 1) * g.tile_cols → gathered_cell g tiles (row * g.cols + col) ≡ cell_at (tiles (row / g.tile_rows * across g + tile_col)) (stands g row tile_col col)
unfolding number_in
gathered_cell-by g tiles row tile_col col below low high =
    let place : ℕ = row * g.cols + col in
    let part : col / g.tile_cols ≡ tile_col = same_part g.tile_cols col tile_col low high in
    let in_row : place / g.cols ≡ row = div-mul-add row g.cols col below in
    let in_col : place % g.cols ≡ col = mod-mul-add row g.cols col below in
    let top : row - row / g.tile_rows * g.tile_rows ≡ row % g.tile_rows = (let e = div-add-mod' row g.tile_rows in omega arith) in
    ap (λ (t : ℕ). cell_at (tiles t) (number_in g.cols (rect_of g t) place)) (tile_at-by g row col below)
    ∙ (ap (λ (r : Rect). cell_at (tiles (tile_by g row col)) (number_in g.cols r place)) (rect_of-by g row col below)
    ∙ (ap (λ (x : ℕ). cell_at (tiles (row / g.tile_rows * across g + x)) (number_in g.cols (rect_at g (row / g.tile_rows) x) place)) part
    ∙ (ap (λ (x : ℕ). cell_at (tiles (row / g.tile_rows * across g + tile_col)) ((x - row / g.tile_rows * g.tile_rows) * (rect_at g (row / g.tile_rows) tile_col).cols + (place % g.cols - tile_col * g.tile_cols))) in_row
    ∙ (ap (λ (x : ℕ). cell_at (tiles (row / g.tile_rows * across g + tile_col)) ((row - row / g.tile_rows * g.tile_rows) * (rect_at g (row / g.tile_rows) tile_col).cols + (x - tile_col * g.tile_cols))) in_col
    ∙ ap (λ (x : ℕ). cell_at (tiles (row / g.tile_rows * across g + tile_col)) (x * (rect_at g (row / g.tile_rows) tile_col).cols + (col - tile_col * g.tile_cols))) top))))

-- the cells of a row from one column up to another, where they lie in one tile
pub gathered_stretch : (g : Tiling) (tiles : ℕ → List Cell) (row tile_col from to : ℕ) → row < g.rows → tile_col * g.tile_cols ≤ from → from < to → to ≤ (tile_col + 1) * g.tile_cols → to ≤ g.cols →
    length (tiles (row / g.tile_rows * across g + tile_col)) ≡ cell_count (rect_at g (row / g.tile_rows) tile_col) →
    slice_range (tiles (row / g.tile_rows * across g + tile_col)) (stands g row tile_col from) (stands g row tile_col to) ≡ map (gathered_cell g tiles) (range_with_len (row * g.cols + from) (to - from))
gathered_stretch g tiles row tile_col from to below low some high in_map full =
    let cells = tiles (row / g.tile_rows * across g + tile_col) in
    let r = rect_at g (row / g.tile_rows) tile_col in
    let a = stands g row tile_col from in
    let b = stands g row tile_col to in
    let one : (tile_col + 1) * g.tile_cols ≡ tile_col * g.tile_cols + g.tile_cols = omega arith in
    let in_part : row % g.tile_rows < r.rows = (let e = div-add-mod' row g.tile_rows in let p = part_to g.rows g.tile_rows row g.sides.some_tile_rows below in omega arith) in
    let wide : to - tile_col * g.tile_cols ≤ r.cols = omega arith in
    let up : (row % g.tile_rows + 1) * r.cols ≤ r.rows * r.cols = mul-le (row % g.tile_rows + 1) r.cols r.rows r.cols (omega arith) (omega arith) in
    let next : (row % g.tile_rows + 1) * r.cols ≡ row % g.tile_rows * r.cols + r.cols = omega arith in
    let fits : b ≤ length cells = omega arith in
    let size : b - a ≡ to - from = omega arith in
    let len : length (slice_range cells a b) ≡ to - from = length-between cells a b fits ∙ size in
    same_lists (slice_range cells a b) (map (gathered_cell g tiles) (range_with_len (row * g.cols + from) (to - from))) (len ∙ sym (length-map-range_with_len (gathered_cell g tiles) (row * g.cols + from) (to - from)))
    (λ k d less.
    let inside : k < to - from = subst (λ (n : ℕ). k < n) len less in
    let at : a + k ≡ stands g row tile_col (from + k) = omega arith in
    get_or-between cells a b k d (omega arith)
    ∙ (get_or_default cells (a + k) d Mv (omega arith)
    ∙ (ap (cell_at cells) at
    ∙ (sym (gathered_cell-by g tiles row tile_col (from + k) (omega arith) (omega arith) (omega arith))
    ∙ sym (get_or-map-range_with_len (gathered_cell g tiles) (row * g.cols + from) (to - from) k (row * g.cols + (from + k)) d inside (omega arith))))))

-- a row of tiles begins before the last tile
pub first_tile_few : (g : Tiling) (row : ℕ) → row < g.rows → row / g.tile_rows * across g ≤ most_cells
unfolding down
first_tile_few g row below =
    let part : row / g.tile_rows < div_ceil g.rows g.tile_rows = part_below g.rows g.tile_rows row g.sides.some_tile_rows below in
    let less : row / g.tile_rows * across g ≤ down g * across g = mul-le (row / g.tile_rows) (across g) (down g) (across g) (omega arith) (omega arith) in
    let few = count_few g in
    omega arith

-- the next column of tiles begins where the last one ends
pub next_part : (p t end right : ℕ) → 0 < p → end ≡ min right ((t + 1) * p) → end < right → t + 1 ≡ end / p
next_part p t end right some is before =
    let e : end ≡ (t + 1) * p + 0 = omega arith in
    sym (ap (λ (x : ℕ). x / p) e ∙ div-mul-add (t + 1) p 0 some)

-- a column lies in its column of tiles
pub in_part : (p t col : ℕ) → 0 < p → t ≡ col / p → (t * p ≤ col) × (col < (t + 1) * p)
in_part p t col some is =
    let e : col / p * p + col % p ≡ col = div-add-mod' col p in
    let m : col % p < p = mod_below col p some in
    let f : t * p ≡ col / p * p = ap (λ (x : ℕ). x * p) is in
    let one : (t + 1) * p ≡ t * p + p = omega arith in
    (omega arith, omega arith)
