-- What callers cite: the authors of a seat that deals them out one by one and takes them in again.
use Rattle.std.proofs.Common.{◌≡◌, ℕ, zero, suc, ◌+◌, ◌≤◌, Bool, true, false, cond, not, ◌==◌, max, min, if◌then◌else◌, List, [], ◌∷◌, ◌++◌}
use Rattle.std.proofs.Common.{refl, ap, ◌∙◌, ⊎_elim, arith, eq-eqb, append-nil}
use Rattle.std.proofs.lemmas.Bool.Decides.{nat_tests, eqb_tells}
use Rattle.std.proofs.lemmas.List.Elements.{filter-append}
use Rattle.turn_cell.specs.Authors.{authors_below, least_author, greatest_author, without_author, times_among}
use Rattle.turn_cell.specs.inside.Ruled.{once_below}
use Rattle.turn_cell.proofs.AuthorLemmas.{times_at, left_at, times_below}

greatest_append : (xs ys : List ℕ) → greatest_author (xs ++ ys) ≡ max (greatest_author xs) (greatest_author ys)
greatest_append [] ys = omega arith
greatest_append (x ∷ xs) ys = let h = greatest_append xs ys in omega arith

below_small : (n : ℕ) → greatest_author (authors_below n) ≤ n
below_small zero = omega arith
below_small (suc n) = let m = greatest_append (authors_below n) (n ∷ []) in let s = below_small n in omega arith

-- the last number is the author that a split gives away
pub greatest_below : (n : ℕ) → greatest_author (authors_below (suc n)) ≡ n
greatest_below n = let m = greatest_append (authors_below n) (n ∷ []) in let s = below_small n in omega arith

without_none : (g : ℕ) (xs : List ℕ) → times_among g xs ≡ 0 → without_author g xs ≡ xs
without_none g [] none = refl
without_none g (b ∷ xs) none =
    ⊎_elim (λ t. let m : times_among g (b ∷ xs) ≡ 1 + times_among g xs = times_at g b xs true t.0 in absurd (omega arith))
    (λ t. let m : times_among g (b ∷ xs) ≡ 0 + times_among g xs = times_at g b xs false t.0 in left_at g b xs false t.0 ∙ ap (λ (l : List ℕ). b ∷ l) (without_none g xs (omega arith)))
    (eqb_tells g b)

once_self : (n : ℕ) → once_below n n ≡ 0
once_self n = grind (arith, nat_tests)

-- and the others stay
pub without_below : (n : ℕ) → without_author n (authors_below (suc n)) ≡ authors_below n
without_below n =
    let none : times_among n (authors_below n) ≡ 0 = times_below n n ∙ once_self n in
    filter-append (λ b. not (n == b)) (authors_below n) (n ∷ [])
    ∙ (ap (λ (l : List ℕ). l ++ without_author n (n ∷ [])) (without_none n (authors_below n) none)
    ∙ (ap (λ (l : List ℕ). authors_below n ++ l) (left_at n n [] true (eq-eqb n n refl)) ∙ append-nil (authors_below n)))

-- the least author of a seat with the author 0
pub least_zero : (xs : List ℕ) → 1 ≤ times_among 0 xs → least_author xs ≡ 0
least_zero [] h = absurd (omega arith)
least_zero (a ∷ []) h =
    ⊎_elim (λ t. omega arith) (λ t. let m : times_among 0 (a ∷ []) ≡ 0 + 0 = times_at 0 a [] false t.0 in absurd (omega arith)) (eqb_tells 0 a)
least_zero (a ∷ (b ∷ xs)) h =
    ⊎_elim (λ t. let z : a ≡ 0 = omega arith in omega arith)
    (λ t. let m : times_among 0 (a ∷ (b ∷ xs)) ≡ 0 + times_among 0 (b ∷ xs) = times_at 0 a (b ∷ xs) false t.0 in let r = least_zero (b ∷ xs) (omega arith) in omega arith)
    (eqb_tells 0 a)
