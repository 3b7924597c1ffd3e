-- Lists of the cells of a rectangle.
use Rattle.std.proofs.Common.{◌≡◌, ℕ, zero, suc, ◌+◌, ◌*◌, ◌/◌, ◌%◌, ◌<◌, ◌≤◌, List, ◌∷◌, ◌++◌, length, get_or, map, slice_range, refl, sym, ap, subst, ◌∙◌, arith}
use Rattle.std.specs.List.{range_with_len}
use Rattle.std.proofs.lemmas.Nat.{div-mul-add, mod-mul-add}
use Rattle.std.proofs.lemmas.List.{same_lists, map-append, length-map, get_or-map, get_or_default}
use Rattle.std.proofs.lemmas.List.Edits.{length-between, get_or-between}
use Rattle.std.proofs.lemmas.List.FromFn.{length-map-range_with_len, get_or-map-range_with_len, length-range_with_len, get_or-range_with_len}
use Rattle.cell_values.specs.declared.cell.Cell.{Cell}
use Rattle.cell_values.specs.declared.cell.Cell.TheVariants.{Mv}
use Rattle.tile_map.specs.declared.rect.Rect.{Rect}
use Rattle.tile_map.specs.Rects.{HoldsPlace, cell_count, number_in, place_in, places_of}
use Rattle.tile_map.specs.Tiles.{rect_of, tile_at}
use Rattle.tile_map.specs.Cuts.{cell_at, cut_of, gathered_cell}
use Rattle.tile_map.specs.Laws.{GatherTheCut}
use Rattle.tile_map.proofs.RectLemmas.{get_or-places_of, holds_cell, length-places_of, number_below, place_below, place_of_number}
use Rattle.tile_map.proofs.TileLemmas.{tile_below, tile_holds}

-- ---- numbers in a row

-- numbers in a row are two rows of numbers
pub range-append : (a n m : ℕ) → range_with_len a (n + m) ≡ range_with_len a n ++ range_with_len (a + n) m
range-append a zero m = ap (λ (k : ℕ). range_with_len a k) (omega arith) ∙ ap (λ (k : ℕ). range_with_len k m) (omega arith)
range-append a (suc n) m =
    let one : suc n + m ≡ suc (n + m) = omega arith in
    let up : a + 1 + n ≡ a + suc n = omega arith in
    ap (range_with_len a) one ∙ ap (λ (xs : List ℕ). a ∷ xs) (range-append (a + 1) n m ∙ ap (λ (k : ℕ). range_with_len (a + 1) n ++ range_with_len k m) up)

pub map-range-append : {A : Type 0} (f : ℕ → A) (a b n m k : ℕ) → a + n ≡ b → n + m ≡ k → map f (range_with_len a n) ++ map f (range_with_len b m) ≡ map f (range_with_len a k)
map-range-append f a b n m k e d =
    ap (λ (s : ℕ). map f (range_with_len a n) ++ map f (range_with_len s m)) (sym e)
    ∙ (sym (map-append f (range_with_len a n) (range_with_len (a + n) m))
    ∙ (ap (map f) (sym (range-append a n m)) ∙ ap (λ (s : ℕ). map f (range_with_len a s)) d))

-- a part of a list, item by item
pub between-map_range : (cells : List Cell) (a n : ℕ) → a + n ≤ length cells → slice_range cells a (a + n) ≡ map (cell_at cells) (range_with_len a n)
between-map_range cells a n fits =
    let len : length (slice_range cells a (a + n)) ≡ n = length-between cells a (a + n) fits ∙ omega arith in
    same_lists (slice_range cells a (a + n)) (map (cell_at cells) (range_with_len a n)) (len ∙ sym (length-map-range_with_len (cell_at cells) a n))
    (λ k d below.
    let less : k < n = subst (λ (m : ℕ). k < m) len below in
    get_or-between cells a (a + n) k d (omega arith)
    ∙ (get_or_default cells (a + k) d Mv (omega arith) ∙ sym (get_or-map-range_with_len (cell_at cells) a n k (a + k) d less refl)))

-- ---- values over the cells of a rectangle

-- the values over a rectangle's first rows
abbrev pub front_rows : {A : Type 0} → ℕ → Rect → (ℕ → A) → ℕ → List A
front_rows cols r f n = map f (map (place_in cols r) (range_with_len 0 (n * r.cols)))

-- the places of one row
places_of_row : (cols : ℕ) (r : Rect) (n : ℕ) → map (place_in cols r) (range_with_len (n * r.cols) r.cols) ≡ range_with_len ((r.top + n) * cols + r.left) r.cols
unfolding place_in
places_of_row cols r n =
    let start = (r.top + n) * cols + r.left in
    let places = map (place_in cols r) (range_with_len (n * r.cols) r.cols) in
    same_lists places (range_with_len start r.cols) (length-map-range_with_len (place_in cols r) (n * r.cols) r.cols ∙ sym (length-range_with_len start r.cols))
    (λ k d below.
    let less : k < r.cols = subst (λ (m : ℕ). k < m) (length-map-range_with_len (place_in cols r) (n * r.cols) r.cols) below in
    let row : (n * r.cols + k) / r.cols ≡ n = div-mul-add n r.cols k less in
    let col : (n * r.cols + k) % r.cols ≡ k = mod-mul-add n r.cols k less in
    get_or-map-range_with_len (place_in cols r) (n * r.cols) r.cols k (n * r.cols + k) d less refl
    ∙ (ap (λ (x : ℕ). (r.top + x) * cols + (r.left + (n * r.cols + k) % r.cols)) row
    ∙ (ap (λ (x : ℕ). (r.top + n) * cols + (r.left + x)) col
    ∙ (omega arith ∙ sym (get_or-range_with_len start r.cols k d less)))))

pub front_rows_more : {A : Type 0} (cols : ℕ) (r : Rect) (f : ℕ → A) (n : ℕ) → front_rows cols r f n ++ map f (range_with_len ((r.top + n) * cols + r.left) r.cols) ≡ front_rows cols r f (n + 1)
front_rows_more cols r f n =
    ap (λ (ps : List ℕ). front_rows cols r f n ++ map f ps) (sym (places_of_row cols r n))
    ∙ (sym (map-append f (map (place_in cols r) (range_with_len 0 (n * r.cols))) (map (place_in cols r) (range_with_len (n * r.cols) r.cols)))
    ∙ ap (map f) (map-range-append (place_in cols r) 0 (n * r.cols) (n * r.cols) r.cols ((n + 1) * r.cols) (omega arith) (omega arith)))

pub front_rows_all : {A : Type 0} (cols : ℕ) (r : Rect) (f : ℕ → A) (n : ℕ) → n ≡ r.rows → front_rows cols r f n ≡ map f (places_of cols r)
unfolding places_of
front_rows_all cols r f n e = ap (λ (m : ℕ). front_rows cols r f m) e

-- one more row of a cut
pub cut_more : (cols : ℕ) (r : Rect) (cells : List Cell) (n : ℕ) → (r.top + n) * cols + r.left + r.cols ≤ length cells → front_rows cols r (cell_at cells) n ++ slice_range cells ((r.top + n) * cols + r.left) ((r.top + n) * cols + r.left + r.cols) ≡ front_rows cols r (cell_at cells) (n + 1)
cut_more cols r cells n fits =
    ap (λ (xs : List Cell). front_rows cols r (cell_at cells) n ++ xs) (between-map_range cells ((r.top + n) * cols + r.left) r.cols fits)
    ∙ front_rows_more cols r (cell_at cells) n

-- the length and the cells of values over a rectangle
pub length-over : {A : Type 0} (cols : ℕ) (r : Rect) (f : ℕ → A) → length (map f (places_of cols r)) ≡ cell_count r
length-over cols r f = length-map (places_of cols r) f ∙ length-places_of cols r

pub get_or-over : {A : Type 0} (cols : ℕ) (r : Rect) (f : ℕ → A) (i : ℕ) (d : A) → i < cell_count r → get_or (map f (places_of cols r)) i d ≡ f (place_in cols r i)
get_or-over cols r f i d below =
    get_or-map f (places_of cols r) i 0 d (subst (λ (n : ℕ). i < n) (sym (length-places_of cols r)) below)
    ∙ ap f (get_or-places_of cols r i 0 below)

-- two functions that agree at the places of a rectangle
pub over_same : {A : Type 0} (cols : ℕ) (r : Rect) (f h : ℕ → A) → ((i : ℕ) → i < cell_count r → f (place_in cols r i) ≡ h (place_in cols r i)) → map f (places_of cols r) ≡ map h (places_of cols r)
over_same cols r f h same =
    same_lists (map f (places_of cols r)) (map h (places_of cols r)) (length-over cols r f ∙ sym (length-over cols r h))
    (λ k d below.
    let b : k < cell_count r = subst (λ (n : ℕ). k < n) (length-over cols r f) below in
    get_or-over cols r f k d b ∙ (same k b ∙ sym (get_or-over cols r h k d b)))

-- the cell of a cut at the number of a place
pub cell_at-cut_of : (cols : ℕ) (cells : List Cell) (r : Rect) (place : ℕ) → HoldsPlace cols r place → cell_at (cut_of cols cells r) (number_in cols r place) ≡ cell_at cells place
cell_at-cut_of cols cells r place holds =
    get_or-over cols r (cell_at cells) (number_in cols r place) Mv (number_below cols r place holds)
    ∙ ap (cell_at cells) (place_of_number cols r place holds)

-- gathering the cuts of a map gives the map's cut
pub gathers_the_cut : GatherTheCut
gathers_the_cut g tiles r cells in_map cuts =
    over_same g.cols r (gathered_cell g tiles) (cell_at cells)
    (λ i below.
    let place = place_in g.cols r i in
    let in_all : place < g.rows * g.cols = place_below g.rows g.cols r i in_map below in
    let holds : HoldsPlace g.cols (rect_of g (tile_at g place)) place = tile_holds g place in_all in
    ap (λ (xs : List Cell). cell_at xs (number_in g.cols (rect_of g (tile_at g place)) place))
    (cuts (tile_at g place) (tile_below g place in_all) (record { place = place; in_rect = holds_cell g.cols r i in_map.right below; in_tile = holds }))
    ∙ cell_at-cut_of g.cols cells (rect_of g (tile_at g place)) place holds)
