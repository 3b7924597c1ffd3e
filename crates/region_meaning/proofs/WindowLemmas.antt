-- The values of windows.
use Rattle.std.proofs.Common.{◌≡◌, ℕ, ◌*◌, ◌/◌, ◌%◌, ◌<◌, ◌≤◌, List, [], ◌∷◌, length, get_or, refl, subst, sym, ◌∙◌, inl, inr, arith}
use Rattle.std.specs.List.{All}
use Rattle.std.proofs.lemmas.Bool.{cases_lt}
use Rattle.std.proofs.lemmas.List.{get_or_past}
use Rattle.std.proofs.lemmas.List.Elements.{All-cons, All-from_get_or, All-head, All-map, All-nil, All-tail}
use Rattle.std.proofs.lemmas.Nat.{div_below, mod_below, mul-le}
use Rattle.cell_values.specs.declared.kind.Kind.{Kind}
use Rattle.cell_values.specs.declared.cell.Cell.{Cell}
use Rattle.cell_values.specs.declared.cell.Cell.TheVariants.{Mv, Val}
use Rattle.cell_values.specs.Kinds.{IsCell, IsValue}
use Rattle.tile_map.specs.declared.rect.Rect.{Rect}
use Rattle.tile_map.specs.Cuts.{cell_at, cut_of}
use Rattle.tile_map.specs.Rects.{HoldsPlace, IsInMap, cell_count, grown, place_in, places_of}
use Rattle.tile_map.proofs.Callers.{get_or-cut_of, holds_cell, length-cut_of, some_cols}
use Rattle.region_meaning.specs.Windows.{present_values, window_of}

-- cells have at most as many values
pub length-present_values : (cells : List Cell) → length (present_values cells) ≤ length cells
length-present_values [] = omega arith
length-present_values (Mv ∷ cells) = let h = length-present_values cells in omega arith
length-present_values (Val v ∷ cells) = let h = length-present_values cells in omega arith

-- the values of cells of a kind
pub present_values-in_kind : (kind : Kind) (cells : List Cell) → All (IsCell kind) cells → All (IsValue kind) (present_values cells)
present_values-in_kind kind [] all = All-nil (IsValue kind)
present_values-in_kind kind (Mv ∷ cells) all = present_values-in_kind kind cells (All-tail (IsCell kind) Mv cells all)
present_values-in_kind kind (Val v ∷ cells) all =
    All-cons (IsValue kind) v (present_values cells) (All-head (IsCell kind) (Val v) cells all)
    (present_values-in_kind kind cells (All-tail (IsCell kind) (Val v) cells all))

-- missing cells have no values
pub present_values-missing : (cells : List Cell) → All (λ cell. cell ≡ Mv) cells → present_values cells ≡ []
present_values-missing [] all = refl
present_values-missing (Mv ∷ cells) all = present_values-missing cells (All-tail (λ cell. cell ≡ Mv) Mv cells all)
present_values-missing (Val v ∷ cells) all = let e : Val v ≡ Mv = All-head (λ cell. cell ≡ Mv) (Val v) cells all in absurd cc

-- a window has at most as many cells as the map
pub window_of-few : (rows cols k place : ℕ) → cell_count (window_of rows cols k place) ≤ rows * cols
unfolding window_of grown
window_of-few rows cols k place =
    let r : Rect = window_of rows cols k place in
    mul-le r.rows r.cols rows cols (omega arith) (omega arith)

-- and lies in it
pub window_of-in_map : (rows cols k place : ℕ) → place < rows * cols → IsInMap rows cols (window_of rows cols k place)
unfolding window_of grown
window_of-in_map rows cols k place below =
    let map : Rect = record { top = 0; left = 0; rows = rows; cols = cols } in
    let some : 0 < cols = some_cols map place below in
    let row : place / cols < rows = div_below place cols rows some below in
    let col : place % cols < cols = mod_below place cols some in
    record { below = omega arith; right = omega arith }

-- what holds of all cells of a map, and of a missing one, holds at each place
cell_at-all : (P : Cell → Type 0) (cells : List Cell) (place : ℕ) → P Mv → All P cells → P (cell_at cells place)
cell_at-all P cells place none all = elim (cases_lt place (length cells)) as (λ x. P (cell_at cells place)) [
  | inl below ↦ all place Mv below
  | inr beyond ↦ subst P (sym (get_or_past cells place Mv beyond)) none
]

-- and of the cells of a rectangle
pub cut_of-all : (P : Cell → Type 0) (cols : ℕ) (cells : List Cell) (r : Rect) → P Mv → All P cells → All P (cut_of cols cells r)
cut_of-all P cols cells r none all =
    All-map P (cell_at cells) (places_of cols r) (λ k d less. cell_at-all P cells (get_or (places_of cols r) k d) none all)

-- the values of a window of cells of a kind
pub window-in_kind : (kind : Kind) (cols : ℕ) (cells : List Cell) (r : Rect) → All (IsCell kind) cells → All (IsValue kind) (present_values (cut_of cols cells r))
window-in_kind kind cols cells r all = present_values-in_kind kind (cut_of cols cells r) (cut_of-all (IsCell kind) cols cells r tt all)

-- a window has at most as many values as the map has cells
pub window-few : (rows cols k : ℕ) (cells : List Cell) (place : ℕ) → length (present_values (cut_of cols cells (window_of rows cols k place))) ≤ rows * cols
window-few rows cols k cells place =
    let r = window_of rows cols k place in
    let values = length-present_values (cut_of cols cells r) in
    let size = length-cut_of cols cells r in
    let few = window_of-few rows cols k place in
    omega (arith, values, size, few)

-- a window of missing cells has no values
pub window-missing : (rows cols k : ℕ) (cells : List Cell) (place : ℕ) → place < rows * cols →
    ((other : ℕ) → HoldsPlace cols (window_of rows cols k place) other → cell_at cells other ≡ Mv) →
    present_values (cut_of cols cells (window_of rows cols k place)) ≡ []
window-missing rows cols k cells place below missing =
    let r = window_of rows cols k place in
    present_values-missing (cut_of cols cells r)
    (All-from_get_or (λ cell. cell ≡ Mv) (cut_of cols cells r) Mv
    (λ i less.
    let within : i < cell_count r = subst (λ (n : ℕ). i < n) (length-cut_of cols cells r) less in
    get_or-cut_of cols cells r i Mv within
    ∙ missing (place_in cols r i) (holds_cell rows cols r i (window_of-in_map rows cols k place below) within).0))
