-- Lists that ascend.
use Rattle.std.proofs.Common.{◌≡◌, ◌∙◌, ◌≢◌, ℕ, zero, suc, ◌+◌, ◌<◌, ◌≤◌, List, [], ◌∷◌, length, get_or, refl, sym, ap, arith, inl, inr, Bool, false, cond}
use Rattle.std.specs.Prelude.{◌==◌}
use Rattle.std.specs.List.{Contains, filter, position_or_len, range_with_len}
use Rattle.std.specs.List.Sorted.{IsStrictlyIncreasing, IsStrictlySortedBy}
use Rattle.std.specs.Ordering.{nat_cmp}
use Rattle.std.proofs.lemmas.Bool.{eq-eqb}
use Rattle.std.proofs.lemmas.Bool.Decides.{eqb_tells}
use Rattle.std.proofs.lemmas.List.Sums.{position_or_len_is}
use Rattle.std.proofs.lemmas.List.FromFn.{get_or-range_with_len, length-range_with_len}
use Rattle.std.proofs.lemmas.Map.Keys.{below_from_sorted, sorted_from_strictly_increasing, sorted_tail}
use Rattle.drain_meaning.proofs.Callers.{contains_cases, contains_first, contains_later}
use Rattle.border_channel.proofs.Callers.{Rises}

-- ---- equal lists

heads : (x y : ℕ) (xs ys : List ℕ) → Rises (x ∷ xs) → Rises (y ∷ ys) → Contains (y ∷ ys) x → Contains (x ∷ xs) y → x ≡ y
heads x y xs ys a b f g = elim (contains_cases y ys x f) as (λ _. x ≡ y) [
  | inl same ↦ same
  | inr later ↦ elim (contains_cases x xs y g) as (λ _. x ≡ y) [
    | inl same ↦ sym same
    | inr behind ↦ absurd (let low = b.0 x later in let high = a.0 y behind in omega arith)
  ]
]

behind_head : (y u : ℕ) (ys : List ℕ) → Contains (y ∷ ys) u → y < u → Contains ys u
behind_head y u ys h less = elim (contains_cases y ys u h) as (λ _. Contains ys u) [ inl same ↦ absurd (omega arith) | inr later ↦ later ]

-- lists that rise and have the same numbers are one list
pub rises_same : (xs ys : List ℕ) → Rises xs → Rises ys → ((u : ℕ) → Contains xs u → Contains ys u) → ((u : ℕ) → Contains ys u → Contains xs u) → xs ≡ ys
rises_same [] [] a b f g = refl
rises_same [] (y ∷ ys) a b f g = absurd (let h = g y (contains_first y ys) in omega (arith, h.1))
rises_same (x ∷ xs) [] a b f g = absurd (let h = f x (contains_first x xs) in omega (arith, h.1))
rises_same (x ∷ xs) (y ∷ ys) a b f g =
    let same : x ≡ y = heads x y xs ys a b (f x (contains_first x xs)) (g y (contains_first y ys)) in
    ap (λ (z : ℕ). z ∷ xs) same
    ∙ ap (λ (zs : List ℕ). y ∷ zs) (rises_same xs ys a.1 b.1
    (λ u h. behind_head y u ys (f u (contains_later x xs u h)) (let low = a.0 u h in omega arith))
    (λ u h. behind_head x u xs (g u (contains_later y ys u h)) (let low = b.0 u h in omega arith)))

-- ---- numbers of which each is below the next

from_sorted : (xs : List ℕ) → IsStrictlySortedBy nat_cmp xs → Rises xs
from_sorted [] s = tt
from_sorted (x ∷ xs) s = (
  (λ y h. let less = below_from_sorted (x ∷ xs) 0 (suc h.0) y s (omega arith) (let low = h.1 in omega arith) in let is : get_or xs h.0 y ≡ y = h.2 in omega arith),
  from_sorted xs (sorted_tail nat_cmp x xs s),
)

pub rises_from : (xs : List ℕ) → IsStrictlyIncreasing xs → Rises xs
rises_from xs s = from_sorted xs (sorted_from_strictly_increasing xs s)

-- of two places the later has the greater number
pub increasing_index : (xs : List ℕ) (i j : ℕ) → IsStrictlyIncreasing xs → i < j → j < length xs → get_or xs i 0 < get_or xs j 0
increasing_index xs i j s less low = below_from_sorted xs i j 0 (sorted_from_strictly_increasing xs s) less low

pub do_not_fall : (xs : List ℕ) → IsStrictlyIncreasing xs → (i j : ℕ) → i ≤ j → j < length xs → get_or xs i 0 ≤ get_or xs j 0
do_not_fall xs s i j order low = elim (eqb_tells i j) as (λ _. get_or xs i 0 ≤ get_or xs j 0) [
  | inl t ↦ let e = ap (λ (k : ℕ). get_or xs k 0) t.1 in omega arith
  | inr t ↦ let apart = t.1 in let less = increasing_index xs i j s (omega (arith, apart)) low in omega arith
]

pub test_false : (a b : ℕ) → a ≢ b → (a == b) ≡ false
test_false a b apart = elim (eqb_tells a b) as (λ _. (a == b) ≡ false) [ inl t ↦ absurd (apart t.1) | inr t ↦ t.0 ]

-- the place of a number in a list that rises
pub place_found : (xs : List ℕ) (n place : ℕ) → IsStrictlyIncreasing xs → place < length xs → get_or xs place 0 ≡ n → position_or_len (λ p. p == n) xs ≡ place
place_found xs n place s low is =
    position_or_len_is (λ p. p == n) xs place 0 (omega arith)
    (λ k less. test_false (get_or xs k 0) n (λ e. let below = increasing_index xs k place s less low in omega arith))
    (λ _. eq-eqb (get_or xs place 0) n is)

-- ---- ranges

pub range_has : (n u : ℕ) → u < n → Contains (range_with_len 0 n) u
range_has n u h = (u, omega (arith, length-range_with_len 0 n), get_or-range_with_len 0 n u u h ∙ omega arith)

-- a number of a range is below its end
pub range_below : (n u : ℕ) → Contains (range_with_len 0 n) u → u < n
range_below n u h =
    let low : h.0 < n = let many = length-range_with_len 0 n in let l = h.1 in omega arith in
    let at = get_or-range_with_len 0 n h.0 u low in
    let is : get_or (range_with_len 0 n) h.0 u ≡ u = h.2 in
    omega arith

-- tests that agree on a range
pub filter_from_agree : (p q : ℕ → Bool) (a n : ℕ) → ((i : ℕ) → a ≤ i → i < a + n → p i ≡ q i) → filter p (range_with_len a n) ≡ filter q (range_with_len a n)
filter_from_agree p q a zero h = refl
filter_from_agree p q a (suc n) h =
    let rest = filter_from_agree p q (a + 1) n (λ i low high. h i (omega arith) (omega arith)) in
    ap (λ (b : Bool). cond b (a ∷ filter p (range_with_len (a + 1) n)) (filter p (range_with_len (a + 1) n))) (h a (omega arith) (omega arith))
    ∙ ap (λ (xs : List ℕ). cond (q a) (a ∷ xs) xs) rest
