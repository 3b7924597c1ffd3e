-- Sums over the items of some lists, and items of lists one after another.
use Rattle.std.proofs.Common.{◌≡◌, ◌≢◌, ◌∙◌, ℕ, zero, suc, ◌+◌, ◌<◌, ◌≤◌, List, [], ◌∷◌, length, get_or, map, take, refl, sym, ap, arith, inl, inr, length-append}
use Rattle.std.specs.Prelude.{◌==◌}
use Rattle.std.specs.List.{flat_map}
use Rattle.std.proofs.lemmas.Bool.{eq-eqb}
use Rattle.std.proofs.lemmas.Bool.Decides.{eqb_tells}
use Rattle.std.proofs.lemmas.List.Concat.{get_or-flat_map}
use Rattle.std.proofs.lemmas.List.Sums.{count_by_more_no, count_by_more_yes}
use Rattle.core_model.specs.Counts.{flag, sum_below}
use Rattle.core_model.proofs.Callers.{sum_same, sum_zero}
use Rattle.number_lists.specs.Turned.{times}
use Rattle.plan_graph.specs.Numbered.{count_all, count_before, list_of_number, place_of_number}
use Rattle.plan_graph.proofs.NumberedLemmas.{stands_in}
use Rattle.plan_graph.proofs.RiseLemmas.{test_false}

-- ---- sums

sum_split : (a b : ℕ) (h : ℕ → ℕ) → sum_below (a + b) h ≡ sum_below a h + sum_below b (λ n. h (a + n))
sum_split a zero h = let e : a + 0 ≡ a = omega arith in let s = ap (λ n. sum_below n h) e in omega arith
sum_split a (suc b) h =
    let e : a + suc b ≡ suc (a + b) = omega arith in
    let s = ap (λ n. sum_below n h) e in
    let rest = sum_split a b h in
    omega arith

sum_none : (n : ℕ) (h : ℕ → ℕ) → ((k : ℕ) → k < n → h k ≡ 0) → sum_below n h ≡ 0
sum_none n h none = sum_same n h (λ _. 0) none ∙ sum_zero n

-- a sum over all items that only those of one list add to
pub sum_at_list : {A : Type 0} (lists : List (List A)) (h own : ℕ → ℕ) (f : ℕ) → f < length lists → ((k : ℕ) → k < length (get_or lists f []) → h (count_before lists f + k) ≡ own k) →
    ((i k : ℕ) → i < length lists → i ≢ f → k < length (get_or lists i []) → h (count_before lists i + k) ≡ 0) → sum_below (count_all lists) h ≡ sum_below (length (get_or lists f [])) own
sum_at_list [] h own f within here others = absurd (omega arith)
sum_at_list (xs ∷ more) h own zero within here others =
    let split = sum_split (length xs) (count_all more) h in
    let first = sum_same (length xs) h own (λ k below. ap h (plus k) ∙ here k below) in
    let rest = sum_none (count_all more) (λ n. h (length xs + n)) (λ n below.
    let at = stands_in more n below in
    let number = at.number in
    let list = at.list in
    let same : length xs + n ≡ length xs + count_before more (list_of_number more n) + place_of_number more n = omega arith in
    ap h same ∙ others (suc (list_of_number more n)) (place_of_number more n) (omega arith) (λ e. omega (arith, e)) at.place) in
    omega arith
  where
    plus : (k : ℕ) → k ≡ 0 + k
    plus k = omega arith
sum_at_list (xs ∷ more) h own (suc f) within here others =
    let split = sum_split (length xs) (count_all more) h in
    let first = sum_none (length xs) h (λ k below. ap h (plus k) ∙ others 0 k (omega arith) (λ e. omega (arith, e)) below) in
    let rest = sum_at_list more (λ n. h (length xs + n)) own f (omega arith)
    (λ k below. ap h (further (length xs) (count_before more f) k) ∙ here k below)
    (λ i k low apart below. ap h (further (length xs) (count_before more i) k) ∙ others (suc i) k (omega arith) (λ e. apart (omega (arith, e))) below) in
    omega arith
  where
    plus : (k : ℕ) → k ≡ 0 + k
    plus k = omega arith

    further : (a b k : ℕ) → a + (b + k) ≡ a + b + k
    further a b k = omega arith

-- how often a number stands in a list
sum_times_below : (xs : List ℕ) (j n : ℕ) → n ≤ length xs → sum_below n (λ k. flag (get_or xs k 0 == j)) ≡ times j (take n xs)
sum_times_below [] j zero few = refl
sum_times_below (x ∷ xs) j zero few = refl
sum_times_below xs j (suc n) few =
    let rest = sum_times_below xs j n (omega arith) in
    let next : suc n ≡ n + 1 = omega arith in
    let shown = ap (λ (m : ℕ). times j (take m xs)) next in
    elim (eqb_tells (get_or xs n 0) j) as (λ _. sum_below (suc n) (λ k. flag (get_or xs k 0 == j)) ≡ times j (take (suc n) xs)) [
      | inl t ↦ let more = count_by_more_yes (λ x. x == j) xs n 0 (omega arith) t.0 in let one = ap flag t.0 in omega arith
      | inr t ↦ let more = count_by_more_no (λ x. x == j) xs n 0 (omega arith) t.0 in let none = ap flag t.0 in omega arith
    ]

take_whole : {A : Type 0} (xs : List A) → take (length xs) xs ≡ xs
take_whole [] = refl
take_whole (x ∷ xs) = ap (λ ys. x ∷ ys) (take_whole xs)

pub sum_times : (xs : List ℕ) (j : ℕ) → sum_below (length xs) (λ k. flag (get_or xs k 0 == j)) ≡ times j xs
sum_times xs j = sum_times_below xs j (length xs) (omega arith) ∙ ap (times j) (take_whole xs)

-- a test after the same was added
pub plus_test : (a x y : ℕ) → (a + x == a + y) ≡ (x == y)
plus_test a x y = elim (eqb_tells x y) as (λ _. (a + x == a + y) ≡ (x == y)) [
  | inl t ↦ eq-eqb (a + x) (a + y) (ap (λ (n : ℕ). a + n) t.1) ∙ sym t.0
  | inr t ↦ test_false (a + x) (a + y) (λ e. t.1 (omega (arith, e))) ∙ sym t.0
]

-- ---- pieces one after another

-- pieces that are as long as some lists
pub flat_before : {X : Type 0} (R J : X → List ℕ) (xs : List X) (d : X) (f : ℕ) → ((k : ℕ) → k < length xs → length (R (get_or xs k d)) ≡ length (J (get_or xs k d))) → length (flat_map R (take f xs)) ≡ count_before (map J xs) f
flat_before R J [] d zero same = refl
flat_before R J [] d (suc f) same = refl
flat_before R J (x ∷ xs) d zero same = refl
flat_before R J (x ∷ xs) d (suc f) same =
    let rest = flat_before R J xs d f (λ k low. same (suc k) (omega arith)) in
    let here = same 0 (omega arith) in
    let a = length-append (R x) (flat_map R (take f xs)) in
    omega arith

pub flat_length : {X : Type 0} (R J : X → List ℕ) (xs : List X) (d : X) → ((k : ℕ) → k < length xs → length (R (get_or xs k d)) ≡ length (J (get_or xs k d))) → length (flat_map R xs) ≡ count_all (map J xs)
flat_length R J [] d same = refl
flat_length R J (x ∷ xs) d same =
    let rest = flat_length R J xs d (λ k low. same (suc k) (omega arith)) in
    let here = same 0 (omega arith) in
    let a = length-append (R x) (flat_map R xs) in
    omega arith

-- the item with a number stands in the piece of its list
pub flat_at : {X : Type 0} (R J : X → List ℕ) (xs : List X) (d : X) (f j c : ℕ) → ((k : ℕ) → k < length xs → length (R (get_or xs k d)) ≡ length (J (get_or xs k d))) →
    f < length xs → j < length (J (get_or xs f d)) → count_before (map J xs) f + j ≡ c → get_or (flat_map R xs) c 0 ≡ get_or (R (get_or xs f d)) j 0
flat_at R J xs d f j c same low below is =
    let before = flat_before R J xs d f same in
    let size = same f low in
    let at : length (flat_map R (take f xs)) + j ≡ c = omega arith in
    ap (λ (n : ℕ). get_or (flat_map R xs) n 0) (sym at) ∙ get_or-flat_map R xs f j d 0 low (omega arith)

-- one of some lists has no more items than all together
pub one_of_all : {A : Type 0} (lists : List (List A)) (f : ℕ) → length (get_or lists f []) ≤ count_all lists
one_of_all [] f = omega arith
one_of_all (xs ∷ more) zero = omega arith
one_of_all (xs ∷ more) (suc f) = let rest = one_of_all more f in omega arith
