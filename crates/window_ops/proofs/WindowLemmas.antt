-- What is folded over a window's cells is folded over its columns, and in each over its rows.
use Rattle.std.proofs.Common.{◌≡◌, ℕ, ◌+◌, ◌-◌, ◌*◌, ◌/◌, ◌%◌, ◌<◌, ◌≤◌, List, length, get_or, min, refl, sym, ap, ◌∙◌, arith, inl, inr}
use Rattle.std.specs.Prelude.{fold}
use Rattle.std.proofs.lemmas.Nat.{div-add-mod', div-mul-add, div_below, mod-mul-add, mod_below, mul-le}
use Rattle.std.proofs.lemmas.List.FromFn.{fill_by_all}
use Rattle.cell_values.specs.declared.cell.Cell.{Cell}
use Rattle.tile_map.specs.declared.rect.Rect.{Rect}
use Rattle.tile_map.specs.Cuts.{cell_at}
use Rattle.tile_map.specs.Rects.{IsInMap, cell_count, grown, place_in}
use Rattle.tile_map.proofs.RectLemmas.{some_cols}
use Rattle.std.proofs.lemmas.Bool.{cases_lt}
use Rattle.window_ops.specs.Laws.{WindowsHoldWhatIsNear}
use Rattle.region_meaning.specs.Windows.{single, window_of}
use Rattle.window_ops.specs.inside.Outcomes.{over}
use Rattle.window_ops.proofs.Grid.{IsUnordered, over-list, over-rows, over-same, over-turned}

-- the place of a rectangle's cell by its row and its column
pub place_at : (cols : ℕ) (r : Rect) (row col : ℕ) → col < r.cols → place_in cols r (row * r.cols + col) ≡ (r.top + row) * cols + (r.left + col)
unfolding place_in
place_at cols r row col below =
    ap (λ (x : ℕ). (r.top + x) * cols + (r.left + (row * r.cols + col) % r.cols)) (div-mul-add row r.cols col below)
    ∙ ap (λ (x : ℕ). (r.top + row) * cols + (r.left + x)) (mod-mul-add row r.cols col below)

-- what is folded over a list that has a value for each cell of a rectangle
pub fold-columns : {A : Type 0} (op : A → A → A) (none : A) → IsUnordered A op none → (g : Cell → A) (cols : ℕ) (cells : List Cell) (r : Rect) (xs : List A) →
    length xs ≡ cell_count r → ((i : ℕ) → i < cell_count r → get_or xs i none ≡ g (cell_at cells (place_in cols r i))) →
    fold op none xs ≡ over op none (λ c. over op none (λ row. g (cell_at cells (row * cols + c))) r.top r.rows) r.left r.cols
fold-columns {A} op none laws g cols cells r xs size each =
    let f : ℕ → A = λ i. g (cell_at cells (place_in cols r i)) in
    let at : ℕ → ℕ → A = λ row c. g (cell_at cells (row * cols + c)) in
    ap (fold op none) (fill_by_all f xs (cell_count r) none size each)
    ∙ (over-list op none f 0 (cell_count r)
    ∙ (over-rows op none laws f r.rows r.cols
    ∙ (over-same op none (λ row. over op none (λ c. f (row * r.cols + c)) 0 r.cols) (λ row. over op none (at row) r.left r.cols) 0 r.top r.rows
    (λ row in_rows.
    over-same op none (λ c. f ((0 + row) * r.cols + c)) (at (r.top + row)) 0 r.left r.cols
    (λ c in_cols.
    ap f (let e : (0 + row) * r.cols + (0 + c) ≡ row * r.cols + c = omega arith in e)
    ∙ ap (λ (p : ℕ). g (cell_at cells p)) (place_at cols r row c in_cols)))
    ∙ over-turned op none laws at r.top r.rows r.left r.cols)))

-- the window of a cell by its row and its column
abbrev pub window_at : ℕ → ℕ → ℕ → ℕ → ℕ → Rect
window_at rows cols k row col = record { top = row - k; left = col - k; rows = min rows (row + 1 + k) - (row - k); cols = min cols (col + 1 + k) - (col - k) }

grown-single : (rows cols k row col : ℕ) → grown rows cols k (single row col) ≡ window_at rows cols k row col
unfolding grown
grown-single rows cols k row col = refl

-- the window of a rectangle's cell
pub place-window : (rows cols k : ℕ) (r : Rect) (row col : ℕ) → IsInMap rows cols r → col < r.cols → window_of rows cols k (place_in cols r (row * r.cols + col)) ≡ window_at rows cols k (r.top + row) (r.left + col)
unfolding window_of
place-window rows cols k r row col in_map below =
    let right = in_map.right in
    let inside : r.left + col < cols = omega arith in
    ap (λ (p : ℕ). grown rows cols k (single (p / cols) (p % cols))) (place_at cols r row col below)
    ∙ (ap (λ (x : ℕ). grown rows cols k (single x (((r.top + row) * cols + (r.left + col)) % cols))) (div-mul-add (r.top + row) cols (r.left + col) inside)
    ∙ (ap (λ (x : ℕ). grown rows cols k (single (r.top + row) x)) (mod-mul-add (r.top + row) cols (r.left + col) inside)
    ∙ grown-single rows cols k (r.top + row) (r.left + col)))

-- a map with a place has columns
has_cols : (rows cols place : ℕ) → place < rows * cols → 0 < cols
has_cols rows cols place below =
    elim (cases_lt 0 cols) as (λ x. 0 < cols) [
      | inl h ↦ h
      | inr h ↦ let none : rows * cols ≤ rows * 0 = mul-le rows cols rows 0 (omega arith) h in omega arith
    ]

-- the window of a place that reaches no other one
pub window_of-reach_0 : (rows cols place : ℕ) → place < rows * cols → window_of rows cols 0 place ≡ single (place / cols) (place % cols)
unfolding window_of
window_of-reach_0 rows cols place below =
    let some = has_cols rows cols place below in
    let row : place / cols < rows = div_below place cols rows some below in
    let col : place % cols < cols = mod_below place cols some in
    let height : min rows (place / cols + 1 + 0) - (place / cols - 0) ≡ 1 = omega arith in
    let width : min cols (place % cols + 1 + 0) - (place % cols - 0) ≡ 1 = omega arith in
    let top : place / cols - 0 ≡ place / cols = omega arith in
    let left : place % cols - 0 ≡ place % cols = omega arith in
    grown-single rows cols 0 (place / cols) (place % cols)
    ∙ (ap (λ (n : ℕ). let r : Rect = record { top = n; left = place % cols - 0; rows = min rows (place / cols + 1 + 0) - (place / cols - 0); cols = min cols (place % cols + 1 + 0) - (place % cols - 0) } in r) top
    ∙ (ap (λ (n : ℕ). let r : Rect = record { top = place / cols; left = n; rows = min rows (place / cols + 1 + 0) - (place / cols - 0); cols = min cols (place % cols + 1 + 0) - (place % cols - 0) } in r) left
    ∙ (ap (λ (n : ℕ). let r : Rect = record { top = place / cols; left = place % cols; rows = n; cols = min cols (place % cols + 1 + 0) - (place % cols - 0) } in r) height
    ∙ ap (λ (n : ℕ). let r : Rect = record { top = place / cols; left = place % cols; rows = 1; cols = n } in r) width)))

-- a window holds what is near
pub holds_near : WindowsHoldWhatIsNear
unfolding window_of grown
holds_near rows cols k place other below in_map =
    let some = has_cols rows cols place below in
    let row : place / cols < rows = div_below place cols rows some below in
    let col : place % cols < cols = mod_below place cols some in
    let other_row : other / cols < rows = div_below other cols rows some in_map in
    let other_col : other % cols < cols = mod_below other cols some in (
      λ holds.
          let a = holds.from_top in let b = holds.above_bottom in let c = holds.from_left in let d = holds.before_right in
          ((omega arith, omega arith), (omega arith, omega arith)),
      λ near.
          let a = near.0.0 in let b = near.0.1 in let c = near.1.0 in let d = near.1.1 in
          record { from_top = omega arith; above_bottom = omega arith; from_left = omega arith; before_right = omega arith },
    )

-- the rectangle between two rows and two columns
abbrev pub between : ℕ × ℕ → ℕ × ℕ → Rect
between down across = record { top = down.0; left = across.0; rows = down.1 - down.0; cols = across.1 - across.0 }

-- the window of a rectangle's cell by the rows and the columns that it reaches
pub window-between : (rows cols k : ℕ) (r : Rect) (i : ℕ) (down across : ℕ × ℕ) → IsInMap rows cols r → i < cell_count r →
    down ≡ (r.top + i / r.cols - k, min rows (r.top + i / r.cols + 1 + k)) → across ≡ (r.left + i % r.cols - k, min cols (r.left + i % r.cols + 1 + k)) →
    (window_of rows cols k (place_in cols r i) ≡ between down across) × IsInMap rows cols (between down across)
window-between rows cols k r i down across in_map below d a =
    let under = in_map.below in
    let right = in_map.right in
    let some = some_cols r i below in
    let row : i / r.cols < r.rows = div_below i r.cols r.rows some below in
    let col : i % r.cols < r.cols = mod_below i r.cols some in
    let d0 : down.0 ≡ r.top + i / r.cols - k = ap (λ (p : ℕ × ℕ). p.0) d in
    let d1 : down.1 ≡ min rows (r.top + i / r.cols + 1 + k) = ap (λ (p : ℕ × ℕ). p.1) d in
    let a0 : across.0 ≡ r.left + i % r.cols - k = ap (λ (p : ℕ × ℕ). p.0) a in
    let a1 : across.1 ≡ min cols (r.left + i % r.cols + 1 + k) = ap (λ (p : ℕ × ℕ). p.1) a in (
      ap (λ (n : ℕ). window_of rows cols k (place_in cols r n)) (sym (div-add-mod' i r.cols))
          ∙ (place-window rows cols k r (i / r.cols) (i % r.cols) in_map col
          ∙ (ap (λ (p : ℕ × ℕ). between p (r.left + i % r.cols - k, min cols (r.left + i % r.cols + 1 + k))) (sym d)
          ∙ ap (between down) (sym a))),
      record { below = omega arith; right = omega arith },
    )
