-- The places of tiles are those of the map.
use Rattle.std.proofs.Common.{◌≡◌, ℕ, zero, suc, ◌<◌, ◌≤◌, ◌*◌, Bool, true, false, cond, nat_lt, List, [], ◌∷◌, ◌++◌, get_or, refl, sym, ap, subst, ◌∙◌, inl, inr, arith}
use Rattle.std.specs.Prelude.{◌==◌, All, AllPairs}
use Rattle.std.specs.List.{Contains, filter, range_with_len}
use Rattle.std.specs.List.Sorted.{IsPermutation}
use Rattle.std.proofs.lemmas.Bool.{eq-eqb, eqb-true, lt-ltb}
use Rattle.std.proofs.lemmas.Bool.Decides.{nat_tests}
use Rattle.std.proofs.lemmas.List.{get_or_default}
use Rattle.std.proofs.lemmas.List.Elements.{All-contains, All-contains_itself, All-filter, filter_passes}
use Rattle.std.proofs.lemmas.List.FromFn.{get_or-range_with_len, length-range_with_len}
use Rattle.std.proofs.lemmas.List.Kept.{AllPairs-filter}
use Rattle.std.proofs.lemmas.List.Sorted.{IsPermutation-append_left, IsPermutation-cons, IsPermutation-middle, IsPermutation-refl, IsPermutation-sym, IsPermutation-trans}
use Rattle.text_base.proofs.Members.{Contains-cons_cases, Contains-head, Contains-tail, same_by_members}
use Rattle.tile_map.specs.declared.tiling.Tiling.{Tiling}
use Rattle.tile_map.specs.Laws.{AscendsOver, IsHeldPlace}
use Rattle.tile_map.specs.Rects.{HoldsPlace, places_of}
use Rattle.tile_map.specs.Tiles.{rect_of, tile_at, tile_count}
use Rattle.tile_map.proofs.Callers.{ascends_over_places, tile_in_map, tile_of_place, tile_only}
use Rattle.tile_cuts.specs.Laws.{HoldEachPlaceOnce}
use Rattle.tile_cuts.specs.TileParts.{tile_places}

-- ---- filters

-- what is in a list and passes is kept
kept_here : (p : ℕ → Bool) (y : ℕ) (ys : List ℕ) (x : ℕ) (b : Bool) → p y ≡ b → Contains (y ∷ ys) x → p x ≡ true → (Contains ys x → Contains (filter p ys) x) → Contains (cond b (y ∷ filter p ys) (filter p ys)) x
kept_here p y ys x true is h passes later = elim (Contains-cons_cases y ys x h) [
  | inl same ↦ subst (Contains (y ∷ filter p ys)) same (Contains-head y (filter p ys))
  | inr other ↦ Contains-tail y (filter p ys) x (later other)
]
kept_here p y ys x false is h passes later = elim (Contains-cons_cases y ys x h) [
  | inl same ↦ absurd (let e = ap p same in cc)
  | inr other ↦ later other
]

contains_kept : (p : ℕ → Bool) (xs : List ℕ) (x : ℕ) → Contains xs x → p x ≡ true → Contains (filter p xs) x
contains_kept p [] x h passes = absurd (omega (arith, h.1))
contains_kept p (y ∷ ys) x h passes = kept_here p y ys x (p y) refl h passes (λ other. contains_kept p ys x other passes)

-- what is kept was in the list
kept_contains : (p : ℕ → Bool) (xs : List ℕ) (x : ℕ) → Contains (filter p xs) x → Contains xs x
kept_contains p xs x h = All-contains (Contains xs) (filter p xs) x (All-filter p (Contains xs) xs (All-contains_itself xs)) h

kept_passes : (p : ℕ → Bool) (xs : List ℕ) (x : ℕ) → Contains (filter p xs) x → p x ≡ true
kept_passes p xs x h = All-contains (λ y. p y ≡ true) (filter p xs) x (filter_passes p xs) h

-- those of lower keys, and those of a key
split_here : (x : ℕ) (low same both : Bool) (xs ys zs : List ℕ) → both ≡ cond low true same → (low ≡ true → same ≡ false) → IsPermutation xs (ys ++ zs) →
    IsPermutation (cond both (x ∷ xs) xs) (cond low (x ∷ ys) ys ++ cond same (x ∷ zs) zs)
split_here x true true true xs ys zs is apart h = absurd (let e = apart refl in cc)
split_here x true true false xs ys zs is apart h = absurd (cc)
split_here x true false true xs ys zs is apart h = IsPermutation-cons x xs (ys ++ zs) h
split_here x true false false xs ys zs is apart h = absurd (cc)
split_here x false true true xs ys zs is apart h = IsPermutation-trans (x ∷ xs) (x ∷ (ys ++ zs)) (ys ++ x ∷ zs) (IsPermutation-cons x xs (ys ++ zs) h) (IsPermutation-sym (ys ++ x ∷ zs) (x ∷ (ys ++ zs)) (IsPermutation-middle ys x zs))
split_here x false true false xs ys zs is apart h = absurd (cc)
split_here x false false true xs ys zs is apart h = absurd (cc)
split_here x false false false xs ys zs is apart h = h

lower_or_same : (k n : ℕ) → nat_lt k (suc n) ≡ cond (nat_lt k n) true (k == n)
lower_or_same k n = grind (arith, nat_tests)

lower_not_same : (k n : ℕ) → nat_lt k n ≡ true → (k == n) ≡ false
lower_not_same k n h = grind (arith, nat_tests)

split : (key : ℕ → ℕ) (n : ℕ) (xs : List ℕ) → IsPermutation (filter (λ x. nat_lt (key x) (suc n)) xs) (filter (λ x. nat_lt (key x) n) xs ++ filter (λ x. key x == n) xs)
split key n [] = IsPermutation-refl []
split key n (x ∷ xs) =
    split_here x (nat_lt (key x) n) (key x == n) (nat_lt (key x) (suc n)) (filter (λ x. nat_lt (key x) (suc n)) xs) (filter (λ x. nat_lt (key x) n) xs) (filter (λ x. key x == n) xs)
    (lower_or_same (key x) n) (lower_not_same (key x) n) (split key n xs)

-- none has a key below 0
none_lower : (key : ℕ → ℕ) (xs : List ℕ) → filter (λ x. nat_lt (key x) 0) xs ≡ []
none_lower key [] = refl
none_lower key (x ∷ xs) =
    let e : nat_lt (key x) 0 ≡ false = grind (arith, nat_tests) in
    ap (λ b. cond b (x ∷ filter (λ y. nat_lt (key y) 0) xs) (filter (λ y. nat_lt (key y) 0) xs)) e ∙ none_lower key xs

-- all have a lower key
all_lower : (key : ℕ → ℕ) (n : ℕ) (xs : List ℕ) → All (λ x. key x < n) xs → filter (λ x. nat_lt (key x) n) xs ≡ xs
all_lower key n [] all = refl
all_lower key n (x ∷ xs) all =
    let below : key x < n = all 0 x (omega arith) in
    ap (λ b. cond b (x ∷ filter (λ y. nat_lt (key y) n) xs) (filter (λ y. nat_lt (key y) n) xs)) (lt-ltb (key x) n below)
    ∙ ap (λ (ys : List ℕ). x ∷ ys) (all_lower key n xs (λ k d less. all (suc k) d (omega arith)))

-- ---- the places of a map

abbrev places : Tiling → List ℕ
places g = range_with_len 0 (g.rows * g.cols)

place_at : (n i d : ℕ) → i < n → get_or (range_with_len 0 n) i d ≡ i
place_at n i d below = get_or-range_with_len 0 n i d below ∙ (omega arith)

places_ascend : (n : ℕ) → AllPairs (λ a b. a < b) (range_with_len 0 n)
places_ascend n i j d before below =
    let size = length-range_with_len 0 n in
    let at_i = place_at n i d (omega arith) in
    let at_j = place_at n j d (omega arith) in
    omega (arith, at_i, at_j)

has_place : (n p : ℕ) → p < n → Contains (range_with_len 0 n) p
has_place n p below = let size = length-range_with_len 0 n in (p, omega arith, place_at n p p below)

place_has : (n p : ℕ) → Contains (range_with_len 0 n) p → p < n
place_has n p h =
    let size = length-range_with_len 0 n in
    let less : h.0 < n = omega (arith, h.1) in
    let at = place_at n h.0 p less in
    omega (arith, h.2, at)

-- what ascends by the default 0 ascends by any
ascends_by : (items : List ℕ) (P : ℕ → Type 0) → AscendsOver items P → AllPairs (λ a b. a < b) items
ascends_by items P own i j d before below =
    let a = get_or_default items i 0 d (omega arith) in
    let b = get_or_default items j 0 d below in
    let up = own.ascends i j before below in
    omega (arith, a, b, up)

-- what is listed is an item
held_of : (items : List ℕ) (P : ℕ → Type 0) (p : ℕ) → AscendsOver items P → Contains items p → P p
held_of items P p own h = subst P (get_or_default items h.0 0 p h.1 ∙ h.2) (own.only h.0 h.1)

-- a tile lists the places of the map that lie in it, in the map's order
pub tile_keeps : (g : Tiling) (tile : ℕ) → tile < tile_count g → filter (λ p. tile_at g p == tile) (places g) ≡ places_of g.cols (rect_of g tile)
tile_keeps g tile below =
    let n : ℕ = g.rows * g.cols in
    let r = rect_of g tile in
    let own = ascends_over_places g.rows g.cols r (tile_in_map g tile below).0 in
    same_by_members (λ (p : ℕ). p) (filter (λ p. tile_at g p == tile) (places g)) (places_of g.cols r)
    (AllPairs-filter (λ a b. a < b) (λ p. tile_at g p == tile) (places g) (places_ascend n))
    (ascends_by (places_of g.cols r) (IsHeldPlace g.rows g.cols r) own)
    (λ p h.
    let less = place_has n p (kept_contains (λ p. tile_at g p == tile) (places g) p h) in
    let is : tile_at g p ≡ tile = eqb-true (tile_at g p) tile (kept_passes (λ p. tile_at g p == tile) (places g) p h) in
    own.each p (less, subst (λ (t : ℕ). HoldsPlace g.cols (rect_of g t) p) is (tile_of_place g p less).1))
    (λ p h.
    let is = held_of (places_of g.cols r) (IsHeldPlace g.rows g.cols r) p own h in
    contains_kept (λ p. tile_at g p == tile) (places g) p (has_place n p is.0) (eq-eqb (tile_at g p) tile (sym (tile_only g p tile is.1))))

-- the places of the first tiles are those of the map with such a tile
of_first : (g : Tiling) (tiles : ℕ) → tiles ≤ tile_count g → IsPermutation (filter (λ p. nat_lt (tile_at g p) tiles) (places g)) (tile_places g tiles)
of_first g zero below = subst (λ (ys : List ℕ). IsPermutation ys []) (sym (none_lower (tile_at g) (places g))) (IsPermutation-refl [])
of_first g (suc tile) below =
    let lower = filter (λ p. nat_lt (tile_at g p) tile) (places g) in
    let own = filter (λ p. tile_at g p == tile) (places g) in
    let joined : IsPermutation (lower ++ own) (tile_places g tile ++ own) = IsPermutation-append_left own lower (tile_places g tile) (of_first g tile (omega arith)) in
    subst (λ (ys : List ℕ). IsPermutation (filter (λ p. nat_lt (tile_at g p) (suc tile)) (places g)) (tile_places g tile ++ ys)) (tile_keeps g tile (omega arith))
    (IsPermutation-trans (filter (λ p. nat_lt (tile_at g p) (suc tile)) (places g)) (lower ++ own) (tile_places g tile ++ own) (split (tile_at g) tile (places g)) joined)

pub hold_once : HoldEachPlaceOnce
hold_once g =
    let n : ℕ = g.rows * g.cols in
    let all : All (λ p. tile_at g p < tile_count g) (places g) = λ k d less. (
    let size = length-range_with_len 0 n in
    let below : k < n = omega arith in
    subst (λ (p : ℕ). tile_at g p < tile_count g) (sym (place_at n k d below)) (tile_of_place g k below).0) in
    subst (λ (ys : List ℕ). IsPermutation ys (tile_places g (tile_count g))) (all_lower (tile_at g) (tile_count g) (places g) all) (of_first g (tile_count g) (omega arith))
