-- The places of a rectangle and their numbers.
use Rattle.std.proofs.Common.{◌≡◌, ℕ, ◌+◌, ◌-◌, ◌*◌, ◌/◌, ◌%◌, ◌<◌, ◌≤◌, length, get_or, sym, ap, subst, ◌∙◌, arith, inl, inr}
use Rattle.std.specs.Prelude.{min}
use Rattle.std.proofs.lemmas.Bool.{cases_lt}
use Rattle.std.proofs.lemmas.Nat.{div-add-mod', div-mul-add, mod-mul-add, mod_below, div_below, mul-le, mul-add-lt}
use Rattle.std.proofs.lemmas.List.FromFn.{length-map-range_with_len, get_or-map-range_with_len}
use Rattle.std.proofs.Math.Nat.{mul_comm}
use Rattle.tile_map.specs.declared.rect.Rect.{Rect}
use Rattle.tile_map.specs.Rects.{HoldsPlace, IsInMap, cell_count, grown, number_in, place_in, places_of}
use Rattle.tile_map.specs.Laws.{AscendsOver, HoldWhatIsNear, IsHeldPlace, ListTheirPlaces}

-- a rectangle that has a cell has columns
pub some_cols : (r : Rect) (i : ℕ) → i < cell_count r → 0 < r.cols
some_cols r i below =
    elim (cases_lt 0 r.cols) as (λ x. 0 < r.cols) [
      | inl h ↦ h
      | inr h ↦ let none : r.rows * r.cols ≤ r.rows * 0 = mul-le r.rows r.cols r.rows 0 (omega arith) h in omega arith
    ]

-- the row and the column of a rectangle's i-th cell
pub cell_row : (cols : ℕ) (r : Rect) (i : ℕ) → r.left + r.cols ≤ cols → i < cell_count r → place_in cols r i / cols ≡ r.top + i / r.cols
unfolding place_in
cell_row cols r i right below =
    let m : i % r.cols < r.cols = mod_below i r.cols (some_cols r i below) in
    div-mul-add (r.top + i / r.cols) cols (r.left + i % r.cols) (omega arith)

pub cell_col : (cols : ℕ) (r : Rect) (i : ℕ) → r.left + r.cols ≤ cols → i < cell_count r → place_in cols r i % cols ≡ r.left + i % r.cols
unfolding place_in
cell_col cols r i right below =
    let m : i % r.cols < r.cols = mod_below i r.cols (some_cols r i below) in
    mod-mul-add (r.top + i / r.cols) cols (r.left + i % r.cols) (omega arith)

-- a rectangle holds its cells
pub holds_cell : (cols : ℕ) (r : Rect) (i : ℕ) → r.left + r.cols ≤ cols → i < cell_count r → HoldsPlace cols r (place_in cols r i)
holds_cell cols r i right below =
    let row = cell_row cols r i right below in
    let col = cell_col cols r i right below in
    let m : i % r.cols < r.cols = mod_below i r.cols (some_cols r i below) in
    let d : i / r.cols < r.rows = div_below i r.cols r.rows (some_cols r i below) below in
    record { from_top = omega arith; above_bottom = omega arith; from_left = omega arith; before_right = omega arith }

-- they lie in the map
pub place_below : (rows cols : ℕ) (r : Rect) (i : ℕ) → IsInMap rows cols r → i < cell_count r → place_in cols r i < rows * cols
unfolding place_in
place_below rows cols r i in_map below =
    let under = in_map.below in
    let right = in_map.right in
    let m : i % r.cols < r.cols = mod_below i r.cols (some_cols r i below) in
    let d : i / r.cols < r.rows = div_below i r.cols r.rows (some_cols r i below) below in
    subst (λ (n : ℕ). place_in cols r i < n) (mul_comm cols rows)
    (mul-add-lt (r.top + i / r.cols) cols (r.left + i % r.cols) rows (omega arith) (omega arith))

-- so does every place that a rectangle of the map holds
pub held_below : (rows cols : ℕ) (r : Rect) (place : ℕ) → IsInMap rows cols r → HoldsPlace cols r place → place < rows * cols
held_below rows cols r place in_map holds =
    let under = in_map.below in
    let right = in_map.right in
    let a = holds.above_bottom in
    let b = holds.before_right in
    let e : place / cols * cols + place % cols ≡ place = div-add-mod' place cols in
    let less : place / cols * cols + place % cols < cols * rows = mul-add-lt (place / cols) cols (place % cols) rows (omega arith) (mod_below place cols (omega arith)) in
    let turned : cols * rows ≡ rows * cols = mul_comm cols rows in
    omega arith

-- the number of a held place is that of a cell
pub number_below : (cols : ℕ) (r : Rect) (place : ℕ) → HoldsPlace cols r place → number_in cols r place < cell_count r
unfolding number_in
number_below cols r place holds =
    let a = holds.from_top in
    let b = holds.above_bottom in
    let c = holds.from_left in
    let d = holds.before_right in
    subst (λ (n : ℕ). number_in cols r place < n) (mul_comm r.cols r.rows)
    (mul-add-lt (place / cols - r.top) r.cols (place % cols - r.left) r.rows (omega arith) (omega arith))

pub number_row : (cols : ℕ) (r : Rect) (place : ℕ) → HoldsPlace cols r place → number_in cols r place / r.cols ≡ place / cols - r.top
unfolding number_in
number_row cols r place holds =
    let c = holds.from_left in
    let d = holds.before_right in
    div-mul-add (place / cols - r.top) r.cols (place % cols - r.left) (omega arith)

pub number_col : (cols : ℕ) (r : Rect) (place : ℕ) → HoldsPlace cols r place → number_in cols r place % r.cols ≡ place % cols - r.left
unfolding number_in
number_col cols r place holds =
    let c = holds.from_left in
    let d = holds.before_right in
    mod-mul-add (place / cols - r.top) r.cols (place % cols - r.left) (omega arith)

-- the cell with the number of a held place is that place's
pub place_of_number : (cols : ℕ) (r : Rect) (place : ℕ) → HoldsPlace cols r place → place_in cols r (number_in cols r place) ≡ place
unfolding place_in
place_of_number cols r place holds =
    let a = holds.from_top in
    let c = holds.from_left in
    let row : r.top + number_in cols r place / r.cols ≡ place / cols = ap (λ (x : ℕ). r.top + x) (number_row cols r place holds) ∙ omega arith in
    let col : r.left + number_in cols r place % r.cols ≡ place % cols = ap (λ (x : ℕ). r.left + x) (number_col cols r place holds) ∙ omega arith in
    ap (λ (x : ℕ). x * cols + (r.left + number_in cols r place % r.cols)) row ∙ (ap (λ (x : ℕ). place / cols * cols + x) col ∙ div-add-mod' place cols)

-- the number of a cell's place is the cell's
pub number_of_place : (cols : ℕ) (r : Rect) (i : ℕ) → r.left + r.cols ≤ cols → i < cell_count r → number_in cols r (place_in cols r i) ≡ i
unfolding number_in
number_of_place cols r i right below =
    let row : place_in cols r i / cols - r.top ≡ i / r.cols = ap (λ (x : ℕ). x - r.top) (cell_row cols r i right below) ∙ omega arith in
    let col : place_in cols r i % cols - r.left ≡ i % r.cols = ap (λ (x : ℕ). x - r.left) (cell_col cols r i right below) ∙ omega arith in
    ap (λ (x : ℕ). x * r.cols + (place_in cols r i % cols - r.left)) row ∙ (ap (λ (x : ℕ). i / r.cols * r.cols + x) col ∙ div-add-mod' i r.cols)

-- ---- the list of a rectangle's places

pub length-places_of : (cols : ℕ) (r : Rect) → length (places_of cols r) ≡ cell_count r
unfolding places_of
length-places_of cols r = length-map-range_with_len (place_in cols r) 0 (cell_count r)

pub get_or-places_of : (cols : ℕ) (r : Rect) (i d : ℕ) → i < cell_count r → get_or (places_of cols r) i d ≡ place_in cols r i
unfolding places_of
get_or-places_of cols r i d below = get_or-map-range_with_len (place_in cols r) 0 (cell_count r) i i d below (omega arith)

-- a later cell has a greater place
pub places_ascend : (cols : ℕ) (r : Rect) (i j : ℕ) → r.left + r.cols ≤ cols → i < j → j < cell_count r → place_in cols r i < place_in cols r j
unfolding place_in
places_ascend cols r i j right less below =
    let some : 0 < r.cols = some_cols r j below in
    let di = div-add-mod' i r.cols in
    let dj = div-add-mod' j r.cols in
    let mi : i % r.cols < r.cols = mod_below i r.cols some in
    let mj : j % r.cols < r.cols = mod_below j r.cols some in
    elim (cases_lt (i / r.cols) (j / r.cols)) as (λ x. (r.top + i / r.cols) * cols + (r.left + i % r.cols) < (r.top + j / r.cols) * cols + (r.left + j % r.cols)) [
      | inl h ↦
          let up : (r.top + i / r.cols + 1) * cols ≤ (r.top + j / r.cols) * cols = mul-le (r.top + i / r.cols + 1) cols (r.top + j / r.cols) cols (omega arith) (omega arith) in
          let one : (r.top + i / r.cols + 1) * cols ≡ (r.top + i / r.cols) * cols + cols = omega arith in
          omega arith
      | inr h ↦
          let back : j / r.cols * r.cols ≤ i / r.cols * r.cols = mul-le (j / r.cols) r.cols (i / r.cols) r.cols h (omega arith) in
          elim (cases_lt (j / r.cols) (i / r.cols)) as (λ x. (r.top + i / r.cols) * cols + (r.left + i % r.cols) < (r.top + j / r.cols) * cols + (r.left + j % r.cols)) [
            | inl k ↦
                let full : (j / r.cols + 1) * r.cols ≤ i / r.cols * r.cols = mul-le (j / r.cols + 1) r.cols (i / r.cols) r.cols (omega arith) (omega arith) in
                let one : (j / r.cols + 1) * r.cols ≡ j / r.cols * r.cols + r.cols = omega arith in
                omega arith
            | inr k ↦
                let e : i / r.cols ≡ j / r.cols = omega arith in
                let f : i / r.cols * r.cols ≡ j / r.cols * r.cols = ap (λ (x : ℕ). x * r.cols) e in
                let g : (r.top + i / r.cols) * cols ≡ (r.top + j / r.cols) * cols = ap (λ (x : ℕ). (r.top + x) * cols) e in
                omega arith
          ]
    ]

-- a rectangle lists just its places, in ascending order
pub ascends_over_places : (rows cols : ℕ) (r : Rect) → IsInMap rows cols r → AscendsOver (places_of cols r) (IsHeldPlace rows cols r)
ascends_over_places rows cols r in_map = record {
  ascends = λ i j less below.
      let b : j < cell_count r = subst (λ (n : ℕ). j < n) (length-places_of cols r) below in
      let up : place_in cols r i < place_in cols r j = places_ascend cols r i j in_map.right less b in
      let at_i = get_or-places_of cols r i 0 (omega arith) in
      let at_j = get_or-places_of cols r j 0 b in
      omega arith;
  only = λ i below.
      let b : i < cell_count r = subst (λ (n : ℕ). i < n) (length-places_of cols r) below in
      subst (IsHeldPlace rows cols r) (sym (get_or-places_of cols r i 0 b)) (place_below rows cols r i in_map b, holds_cell cols r i in_map.right b);
  each = λ place is.
      let n = number_in cols r place in
      let b : n < cell_count r = number_below cols r place is.1 in
      (n, subst (λ (m : ℕ). n < m) (sym (length-places_of cols r)) b, get_or-places_of cols r n place b ∙ place_of_number cols r place is.1);
}

pub lists_its_places : ListTheirPlaces
lists_its_places rows cols r in_map = (
  length-places_of cols r,
  ascends_over_places rows cols r in_map,
  λ place holds.
      let b : number_in cols r place < cell_count r = number_below cols r place holds in
      record { below = b; there = get_or-places_of cols r (number_in cols r place) 0 b ∙ place_of_number cols r place holds },
)

-- ---- grown rectangles

-- the nearest place of a stretch
near_side : (n k start size x : ℕ) → 0 < size → start + size ≤ n → start - k ≤ x → x < start - k + (min n (start + size + k) - (start - k)) → (y : ℕ) × (start ≤ y) × (y < start + size) × (x ≤ y + k) × (y ≤ x + k) × (x < n)
near_side n k start size x some fits low high =
    elim (cases_lt x start) as (λ c. (y : ℕ) × (start ≤ y) × (y < start + size) × (x ≤ y + k) × (y ≤ x + k) × (x < n)) [
      | inl h ↦ (start, omega arith, omega arith, omega arith, omega arith, omega arith)
      | inr h ↦
          elim (cases_lt x (start + size)) as (λ c. (y : ℕ) × (start ≤ y) × (y < start + size) × (x ≤ y + k) × (y ≤ x + k) × (x < n)) [
            | inl j ↦ (x, h, j, omega arith, omega arith, omega arith)
            | inr j ↦ (start + size - 1, omega arith, omega arith, omega arith, omega arith, omega arith)
          ]
    ]

-- a place near a stretch lies in the grown stretch
grown_side : (n k start size x y : ℕ) → start ≤ y → y < start + size → x ≤ y + k → y ≤ x + k → x < n → (start - k ≤ x) × (x < start - k + (min n (start + size + k) - (start - k)))
grown_side n k start size x y from to low high within = (omega arith, omega arith)

pub holds_what_is_near : HoldWhatIsNear
unfolding grown
holds_what_is_near rows cols k r in_map some row col = (
  (λ holds.
      let a = near_side rows k r.top r.rows row some.some_rows in_map.below holds.from_top holds.above_bottom in
      let b = near_side cols k r.left r.cols col some.some_cols in_map.right holds.from_left holds.before_right in
      (a.5, b.5, record { near_row = a.0; near_col = b.0; holds = record { from_top = a.1; above_bottom = a.2; from_left = b.1; before_right = b.2 }; above = a.3; below = a.4; left = b.3; right = b.4 })),
  (λ near.
      let h = near.2.holds in
      let a = grown_side rows k r.top r.rows row near.2.near_row h.from_top h.above_bottom near.2.above near.2.below near.0 in
      let b = grown_side cols k r.left r.cols col near.2.near_col h.from_left h.before_right near.2.left near.2.right near.1 in
      record { from_top = a.0; above_bottom = a.1; from_left = b.0; before_right = b.1 }),
)
