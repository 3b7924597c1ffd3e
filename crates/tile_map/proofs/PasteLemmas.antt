-- Pasting over a map.
use Rattle.std.proofs.Common.{◌≡◌, ℕ, zero, suc, ◌+◌, ◌-◌, ◌*◌, ◌/◌, ◌%◌, ◌<◌, ◌≤◌, List, [], ◌∷◌, ◌++◌, length, map, take, drop, slice_range, refl, sym, ap, subst, ◌∙◌, arith, inl, inr}
use Rattle.std.specs.Prelude.{◌⊎◌}
use Rattle.std.specs.List.{range_with_len, Contains}
use Rattle.std.proofs.lemmas.Bool.{cases_eq, cases_lt}
use Rattle.std.proofs.lemmas.Nat.{div-mul-add, mod-mul-add, mod_below, div_below, mul-le}
use Rattle.std.proofs.lemmas.List.{places, same_lists, take-append-drop, take-take, get_or_default, take_all}
use Rattle.std.proofs.lemmas.List.Edits.{length-between}
use Rattle.std.proofs.lemmas.Slice.{between-put_mid, between_is}
use borrow.Rule.Slice.PartMut.{put_mid}
use Rattle.cell_values.specs.declared.cell.Cell.{Cell}
use Rattle.cell_values.specs.declared.cell.Cell.TheVariants.{Mv}
use Rattle.tile_map.specs.declared.rect.Rect.{Rect}
use Rattle.tile_map.specs.declared.tiling.Tiling.{Tiling}
use Rattle.tile_map.specs.Rects.{HoldsPlace, IsInMap, cell_count, number_in, place_in, places_of}
use Rattle.tile_map.specs.Tiles.{rect_of, tile_at}
use Rattle.tile_map.specs.Cuts.{cell_at, cut_of}
use Rattle.tile_map.specs.Pastes.{IsPasted, IsPastedOver, SameOutside}
use Rattle.tile_map.specs.Laws.{PasteTheMap}
use Rattle.tile_map.proofs.RectLemmas.{some_cols}
use Rattle.tile_map.proofs.TileLemmas.{tile_below, tile_holds, tile_only}
use Rattle.tile_map.proofs.CutLemmas.{between-map_range, cell_at-cut_of, front_rows, front_rows_more, over_same}

-- ---- a row that is written over a list

put_length : (a k : ℕ) (xs ys : List Cell) → a + k ≤ length xs → length ys ≡ k → length (put_mid a k xs ys) ≡ length xs
put_length a k xs ys fits full = grind (arith, places)

put_below : (a k : ℕ) (xs ys : List Cell) (i : ℕ) → a ≤ length xs → i < a → cell_at (put_mid a k xs ys) i ≡ cell_at xs i
put_below a k xs ys i fits less = grind (arith, places)

put_above : (a k : ℕ) (xs ys : List Cell) (i : ℕ) → a ≤ length xs → length ys ≡ k → a + k ≤ i → cell_at (put_mid a k xs ys) i ≡ cell_at xs i
put_above a k xs ys i fits full above = grind (arith, places)

-- ---- a rectangle, row by row

-- the first rows of a rectangle
abbrev pub front : Rect → ℕ → Rect
front r n = record { top = r.top; left = r.left; rows = n; cols = r.cols }

-- the cut of the first rows
cut_of-front : (cols : ℕ) (r : Rect) (cells : List Cell) (n : ℕ) → cut_of cols cells (front r n) ≡ front_rows cols r (cell_at cells) n
unfolding places_of place_in
cut_of-front cols r cells n = refl

-- no row before begins at or behind the row that follows
place_before : (cols : ℕ) (r : Rect) (n i : ℕ) → r.left + r.cols ≤ cols → i < n * r.cols → place_in cols r i < (r.top + n) * cols + r.left
unfolding place_in
place_before cols r n i right below =
    let some : 0 < r.cols = some_cols (front r n) i below in
    let row : i / r.cols < n = div_below i r.cols n some below in
    let col : i % r.cols < r.cols = mod_below i r.cols some in
    let up : (r.top + i / r.cols + 1) * cols ≤ (r.top + n) * cols = mul-le (r.top + i / r.cols + 1) cols (r.top + n) cols (omega arith) (omega arith) in
    let one : (r.top + i / r.cols + 1) * cols ≡ (r.top + i / r.cols) * cols + cols = omega arith in
    omega arith

-- two lists that agree before a row have the same cells in the rows before
front_same : (cols : ℕ) (r : Rect) (xs ys : List Cell) (n : ℕ) → r.left + r.cols ≤ cols → ((i : ℕ) → i < (r.top + n) * cols + r.left → cell_at xs i ≡ cell_at ys i) → front_rows cols r (cell_at xs) n ≡ front_rows cols r (cell_at ys) n
unfolding places_of place_in
front_same cols r xs ys n right same =
    over_same cols (front r n) (cell_at xs) (cell_at ys) (λ i below. same (place_in cols r i) (place_before cols r n i right below))

-- one more piece of a list
take_more_piece : (xs : List Cell) (a b : ℕ) → take a xs ++ slice_range xs a (a + b) ≡ take (a + b) xs
take_more_piece xs a b =
    ap (λ (ys : List Cell). take a xs ++ ys) (between_is xs a (a + b))
    ∙ (ap (λ (ys : List Cell). ys ++ drop a (take (a + b) xs)) (sym (take-take a (a + b) xs (omega arith)))
    ∙ take-append-drop a (take (a + b) xs))

-- no row is pasted yet
pub pastes_nothing : (cols : ℕ) (r : Rect) (part cells : List Cell) → IsPasted cols (front r 0) (take (0 * r.cols) part) cells cells
pastes_nothing cols r part cells = record {
  inside = cut_of-front cols r cells 0 ∙ (ap (λ (n : ℕ). map (cell_at cells) (map (place_in cols r) (range_with_len 0 n))) none ∙ ap (λ (n : ℕ). take n part) (sym none));
  outside = λ place other. refl;
  same_size = refl;
}
  where
    none : 0 * r.cols ≡ 0
    none = omega arith

-- one more row is pasted
pub pastes_row : (rows cols : ℕ) (r : Rect) (part before now row : List Cell) (n start : ℕ) →
    IsInMap rows cols r → n < r.rows → length now ≡ rows * cols → length part ≡ cell_count r → start ≡ (r.top + n) * cols + r.left →
    row ≡ slice_range part (n * r.cols) (n * r.cols + r.cols) →
    IsPasted cols (front r n) (take (n * r.cols) part) before now →
    IsPasted cols (front r (n + 1)) (take ((n + 1) * r.cols) part) before (put_mid start r.cols now row)
pastes_row rows cols r part before now row n start in_map less size full at is_row pasted = record {
  inside =
      cut_of-front cols r after (n + 1)
      ∙ (sym (front_rows_more cols r (cell_at after) n)
      ∙ (ap (λ (xs : List Cell). xs ++ map (cell_at after) (range_with_len ((r.top + n) * cols + r.left) r.cols)) rows_before
      ∙ (ap (λ (xs : List Cell). take (n * r.cols) part ++ xs) this_row
      ∙ (take_more_piece part (n * r.cols) r.cols ∙ ap (λ (m : ℕ). take m part) (omega arith)))));
  outside = λ place other.
      elsewhere place other ∙ pasted.outside place (λ holds. other (record { from_top = holds.from_top; above_bottom = let h = holds.above_bottom in omega arith; from_left = holds.from_left; before_right = holds.before_right }));
  same_size = after_size ∙ pasted.same_size;
}
  where
    after : List Cell
    after = put_mid start r.cols now row

    wide : r.left + r.cols ≤ cols
    wide = in_map.right

    fits : start + r.cols ≤ length now
    fits =
        let under = in_map.below in
        let up : (r.top + n + 1) * cols ≤ rows * cols = mul-le (r.top + n + 1) cols rows cols (omega arith) (omega arith) in
        let one : (r.top + n + 1) * cols ≡ (r.top + n) * cols + cols = omega arith in
        omega arith

    row_length : length row ≡ r.cols
    row_length =
        ap length is_row
        ∙ (length-between part (n * r.cols) (n * r.cols + r.cols)
        (let up : (n + 1) * r.cols ≤ r.rows * r.cols = mul-le (n + 1) r.cols r.rows r.cols (omega arith) (omega arith) in
        let one : (n + 1) * r.cols ≡ n * r.cols + r.cols = omega arith in
        omega arith)
        ∙ omega arith)

    after_size : length after ≡ length now
    after_size = put_length start r.cols now row fits row_length

    rows_before : front_rows cols r (cell_at after) n ≡ take (n * r.cols) part
    rows_before =
        front_same cols r after now n wide (λ i below. let f = fits in put_below start r.cols now row i (omega arith) (omega arith))
        ∙ (sym (cut_of-front cols r now n) ∙ pasted.inside)

    this_row : map (cell_at after) (range_with_len ((r.top + n) * cols + r.left) r.cols) ≡ slice_range part (n * r.cols) (n * r.cols + r.cols)
    this_row =
        ap (λ (s : ℕ). map (cell_at after) (range_with_len s r.cols)) (sym at)
        ∙ (sym (between-map_range after start r.cols (let f = fits in let a = after_size in omega arith))
        ∙ (between-put_mid start r.cols now row (start + r.cols) (let f = fits in omega arith) (let l = row_length in omega arith) ∙ is_row))

    elsewhere : (place : ℕ) → ¬ HoldsPlace cols (front r (n + 1)) place → cell_at after place ≡ cell_at now place
    elsewhere place other =
        let f = fits in
        let w = wide in
        elim (cases_lt place start) as (λ x. cell_at after place ≡ cell_at now place) [
          | inl h ↦ put_below start r.cols now row place (omega arith) h
          | inr h ↦
              elim (cases_lt place (start + r.cols)) as (λ x. cell_at after place ≡ cell_at now place) [
                | inl k ↦
                    let there : (r.top + n) * cols + (r.left + (place - start)) ≡ place = omega arith in
                    let in_row : place / cols ≡ r.top + n = ap (λ (x : ℕ). x / cols) (sym there) ∙ div-mul-add (r.top + n) cols (r.left + (place - start)) (omega arith) in
                    let in_col : place % cols ≡ r.left + (place - start) = ap (λ (x : ℕ). x % cols) (sym there) ∙ mod-mul-add (r.top + n) cols (r.left + (place - start)) (omega arith) in
                    absurd (other (record { from_top = omega arith; above_bottom = omega arith; from_left = omega arith; before_right = omega arith }))
                | inr k ↦ put_above start r.cols now row place (omega arith) row_length k
              ]
        ]

-- all rows are pasted
pub pastes_all : (cols : ℕ) (r : Rect) (part before now : List Cell) (n : ℕ) → n ≡ r.rows → length part ≡ cell_count r → IsPasted cols (front r n) (take (n * r.cols) part) before now → IsPasted cols r part before now
pastes_all cols r part before now n e full pasted = record {
  inside =
      sym (ap (λ (m : ℕ). cut_of cols now (front r m)) e) ∙ (pasted.inside ∙ take_all (n * r.cols) part (let f = ap (λ (m : ℕ). m * r.cols) e in omega arith));
  outside = subst (λ (m : ℕ). SameOutside cols (front r m) before now) e pasted.outside;
  same_size = pasted.same_size;
}

-- ---- pasting all tiles' cuts

-- after the cut of a tile was pasted a place of the tile has the map's cell, and another one the cell that it had
pub pasted_cell : (g : Tiling) (cells before after : List Cell) (tile place : ℕ) → place < g.rows * g.cols →
    IsPasted g.cols (rect_of g tile) (cut_of g.cols cells (rect_of g tile)) before after →
    ((tile_at g place ≡ tile) × (cell_at after place ≡ cell_at cells place)) ⊎ ((tile_at g place ≡ tile → ⊥) × (cell_at after place ≡ cell_at before place))
pasted_cell g cells before after tile place below pasted =
    elim (cases_eq (tile_at g place) tile) as (λ x. ((tile_at g place ≡ tile) × (cell_at after place ≡ cell_at cells place)) ⊎ ((tile_at g place ≡ tile → ⊥) × (cell_at after place ≡ cell_at before place))) [
      | inl e ↦
          let r = rect_of g tile in
          let holds : HoldsPlace g.cols r place = subst (λ (t : ℕ). HoldsPlace g.cols (rect_of g t) place) e (tile_holds g place below) in
          inl (
            e,
            sym (cell_at-cut_of g.cols after r place holds)
                ∙ (ap (λ (xs : List Cell). cell_at xs (number_in g.cols r place)) pasted.inside ∙ cell_at-cut_of g.cols cells r place holds),
          )
      | inr differ ↦ inr (differ, pasted.outside place (λ holds. differ (sym (tile_only g place tile holds))))
    ]

-- a place has the map's cell after all pasting where it had it before, or its tile is among those that are pasted
pasted_places : (g : Tiling) (cells : List Cell) (tiles : List ℕ) (first last : List Cell) → IsPastedOver g cells tiles first last →
    (place : ℕ) → place < g.rows * g.cols → (cell_at first place ≡ cell_at cells place) ⊎ Contains tiles (tile_at g place) → cell_at last place ≡ cell_at cells place
pasted_places g cells [] first last over place below (inl same) = ap (λ (xs : List Cell). cell_at xs place) over ∙ same
pasted_places g cells [] first last over place below (inr (k, less, at)) = absurd (let h : k < 0 = less in omega arith)
pasted_places g cells (tile ∷ tiles) first last (next, pasted, over) place below was =
    pasted_places g cells tiles next last over place below
    (elim (pasted_cell g cells first next tile place below pasted) as (λ x. (cell_at next place ≡ cell_at cells place) ⊎ Contains tiles (tile_at g place)) [
      | inl here ↦ inl here.1
      | inr there ↦ elsewhere there was
    ])
  where
    elsewhere : (tile_at g place ≡ tile → ⊥) × (cell_at next place ≡ cell_at first place) → (cell_at first place ≡ cell_at cells place) ⊎ Contains (tile ∷ tiles) (tile_at g place) → (cell_at next place ≡ cell_at cells place) ⊎ Contains tiles (tile_at g place)
    elsewhere there (inl same) = inl (there.1 ∙ same)
    elsewhere there (inr (zero, less, at)) = absurd (there.0 (sym at))
    elsewhere there (inr (suc k, less, at)) = inr (k, (let h : suc k < suc (length tiles) = less in omega arith), at)

pasted_size : (g : Tiling) (cells : List Cell) (tiles : List ℕ) (first last : List Cell) → IsPastedOver g cells tiles first last → length last ≡ length first
pasted_size g cells [] first last over = ap length over
pasted_size g cells (tile ∷ tiles) first last (next, pasted, over) = pasted_size g cells tiles next last over ∙ pasted.same_size

pub pastes_the_map : PasteTheMap
pastes_the_map g cells first last tiles size first_size all over =
    let last_size : length last ≡ g.rows * g.cols = pasted_size g cells tiles first last over ∙ first_size in
    same_lists last cells (last_size ∙ sym size)
    (λ k d below.
    let b : k < g.rows * g.cols = subst (λ (n : ℕ). k < n) last_size below in
    get_or_default last k d Mv below
    ∙ (pasted_places g cells tiles first last over k b (inr (all (tile_at g k) (tile_below g k b)))
    ∙ get_or_default cells k Mv d (omega arith)))
