-- What turned lists are.
use Rattle.std.proofs.Common.{◌≡◌, ◌≢◌, ◌∙◌, ℕ, zero, suc, ◌+◌, ◌*◌, ◌<◌, ◌≤◌, List, [], ◌∷◌, ◌++◌, length, get_or, refl, sym, ap, subst, arith, inl, inr}
use Rattle.std.specs.Prelude.{◌==◌, Bool, if◌then◌else◌, replicate, ⊤}
use Rattle.std.proofs.lemmas.Bool.Decides.{eqb_tells}
use Rattle.std.proofs.lemmas.List.Folds.{sum_by-replicate}
use Rattle.std.proofs.lemmas.List.FromFn.{get_or-map-range_with_len, length-map-range_with_len}
use Rattle.std.proofs.lemmas.List.Sums.{count_by-le-length, sum_by-append}
use Rattle.std.proofs.lemmas.List.{length-append, length-replicate}
use Rattle.number_lists.specs.Lists.{numbers_in}
use Rattle.number_lists.specs.Turned.{DoNotFall, TurnedAreTurned, holders_from, times, turned_of}

-- ---- how often

zero_plus : (n : ℕ) → 0 + n ≡ n
zero_plus n = omega arith

-- 1 for a number that is the other, else 0
one_for : ℕ → ℕ → ℕ
one_for k x = if x == k then 1 else 0

same_one : (k : ℕ) → one_for k k ≡ 1
unfolding one_for
same_one k = elim (eqb_tells k k) as (λ _. one_for k k ≡ 1) [ inl h ↦ ap (λ (b : Bool). if b then 1 else 0) h.0 | inr h ↦ absurd (h.1 refl) ]

other_none : (k x : ℕ) → x ≢ k → one_for k x ≡ 0
unfolding one_for
other_none k x apart = elim (eqb_tells x k) as (λ _. one_for k x ≡ 0) [ inl h ↦ absurd (apart h.1) | inr h ↦ ap (λ (b : Bool). if b then 1 else 0) h.0 ]

times_append : (k : ℕ) (xs ys : List ℕ) → times k (xs ++ ys) ≡ times k xs + times k ys
unfolding one_for
times_append k xs ys = sum_by-append (one_for k) xs ys

times_replicate : (k m x : ℕ) → times k (replicate m x) ≡ m * one_for k x
unfolding one_for
times_replicate k m x = sum_by-replicate (one_for k) m x

times_own : (k m : ℕ) → times k (replicate m k) ≡ m
times_own k m = times_replicate k m k ∙ (ap (λ (n : ℕ). m * n) (same_one k) ∙ omega arith)

times_other : (k m x : ℕ) → x ≢ k → times k (replicate m x) ≡ 0
times_other k m x apart = times_replicate k m x ∙ (ap (λ (n : ℕ). m * n) (other_none k x apart) ∙ omega arith)

-- a number before the first is that of no holder
none_before : (k n m : ℕ) (lists : List (List ℕ)) → m < n → times m (holders_from k n lists) ≡ 0
none_before k n m [] less = refl
none_before k n m (xs ∷ more) less =
    times_append m (replicate (times k xs) n) (holders_from k (n + 1) more)
    ∙ (ap (λ (t : ℕ). t + times m (holders_from k (n + 1) more)) (times_other m (times k xs) n (λ e. omega arith))
    ∙ (zero_plus (times m (holders_from k (n + 1) more)) ∙ none_before k (n + 1) m more (omega arith)))

-- a list's number is that of a holder as often as the list has the number
times_holders : (k n m d : ℕ) (lists : List (List ℕ)) → m ≡ n + d → times m (holders_from k n lists) ≡ times k (get_or lists d [])
times_holders k n m d [] is = refl
times_holders k n m zero (xs ∷ more) is =
    let same : m ≡ n = omega arith in
    times_append m (replicate (times k xs) n) (holders_from k (n + 1) more)
    ∙ (ap (λ (t : ℕ). times m (replicate (times k xs) n) + t) (none_before k (n + 1) m more (omega arith))
    ∙ (plus_none (times m (replicate (times k xs) n)) ∙ (ap (λ (x : ℕ). times m (replicate (times k xs) x)) (sym same) ∙ times_own m (times k xs))))
  where
    plus_none : (t : ℕ) → t + 0 ≡ t
    plus_none t = omega arith
times_holders k n m (suc d) (xs ∷ more) is =
    times_append m (replicate (times k xs) n) (holders_from k (n + 1) more)
    ∙ (ap (λ (t : ℕ). t + times m (holders_from k (n + 1) more)) (times_other m (times k xs) n (λ e. omega arith))
    ∙ (zero_plus (times m (holders_from k (n + 1) more)) ∙ times_holders k (n + 1) m d more (omega arith)))

-- ---- in ascending order

-- each number is at least the one before it
Rises : ℕ → List ℕ → Type 0
Rises b [] = ⊤
Rises b (x ∷ xs) = (b ≤ x) × Rises x xs

rises_lower : (b c : ℕ) (xs : List ℕ) → b ≤ c → Rises c xs → Rises b xs
unfolding Rises
rises_lower b c [] less h = tt
rises_lower b c (x ∷ xs) less h = (let low = h.0 in omega arith, h.1)

rises_replicate : (b n m : ℕ) (ys : List ℕ) → b ≤ n → Rises n ys → Rises b (replicate m n ++ ys)
unfolding Rises
rises_replicate b n zero ys less h = rises_lower b n ys less h
rises_replicate b n (suc m) ys less h = (less, rises_replicate n n m ys (omega arith) h)

holders_rise : (k n : ℕ) (lists : List (List ℕ)) → Rises n (holders_from k n lists)
unfolding Rises
holders_rise k n [] = tt
holders_rise k n (xs ∷ more) =
    rises_replicate n n (times k xs) (holders_from k (n + 1) more) (omega arith)
    (rises_lower n (n + 1) (holders_from k (n + 1) more) (omega arith) (holders_rise k (n + 1) more))

at_least : (b : ℕ) (xs : List ℕ) (j : ℕ) → Rises b xs → j < length xs → b ≤ get_or xs j 0
unfolding Rises
at_least b [] j h below = absurd (omega arith)
at_least b (x ∷ xs) zero h below = h.0
at_least b (x ∷ xs) (suc j) h below = let low = h.0 in let later = at_least x xs j h.1 (omega arith) in omega arith

rising_do_not_fall : (b : ℕ) (xs : List ℕ) → Rises b xs → DoNotFall xs
unfolding Rises
rising_do_not_fall b [] h i j less below = absurd (omega arith)
rising_do_not_fall b (x ∷ xs) h i zero less below = absurd (omega arith)
rising_do_not_fall b (x ∷ xs) h zero (suc j) less below = at_least x xs j h.1 (omega arith)
rising_do_not_fall b (x ∷ xs) h (suc i) (suc j) less below = rising_do_not_fall x xs h.1 i j (omega arith) (omega arith)

-- ---- the law

-- the list that turned lists have for a number
pub holders_at : (count k : ℕ) (lists : List (List ℕ)) → k < count → get_or (turned_of count lists) k [] ≡ holders_from k 0 lists
holders_at count k lists below = get_or-map-range_with_len (λ j. holders_from j 0 lists) 0 count k k [] below (omega arith)

pub turned_are_turned : TurnedAreTurned
turned_are_turned count lists = record {
  many = length-map-range_with_len (λ k. holders_from k 0 lists) 0 count;
  times = λ k n below. ap (times n) (holders_at count k lists below) ∙ times_holders k 0 n n lists (omega arith);
  order = λ k below. subst DoNotFall (sym (holders_at count k lists below)) (rising_do_not_fall 0 (holders_from k 0 lists) (holders_rise k 0 lists));
}

-- ---- how many

holders_few : (k n : ℕ) (lists : List (List ℕ)) → length (holders_from k n lists) ≤ numbers_in lists
holders_few k n [] = omega arith
holders_few k n (xs ∷ more) =
    let rest = holders_few k (n + 1) more in
    let own : times k xs ≤ length xs = count_by-le-length (λ x. x == k) xs in
    let front = length-replicate (times k xs) n in
    let all = length-append (replicate (times k xs) n) (holders_from k (n + 1) more) in
    omega arith

-- a number has no more holders than the lists have numbers
pub turned_few : (count k : ℕ) (lists : List (List ℕ)) → k < count → length (get_or (turned_of count lists) k []) ≤ numbers_in lists
turned_few count k lists below = subst (λ (xs : List ℕ). length xs ≤ numbers_in lists) (sym (holders_at count k lists below)) (holders_few k 0 lists)

-- ---- which

-- each number is below the first one
Under : ℕ → List ℕ → Type 0
Under top [] = ⊤
Under top (x ∷ xs) = (x < top) × Under top xs

under_replicate : (top m n : ℕ) (ys : List ℕ) → n < top → Under top ys → Under top (replicate m n ++ ys)
unfolding Under
under_replicate top zero n ys less h = h
under_replicate top (suc m) n ys less h = (less, under_replicate top m n ys less h)

holders_under : (k n top : ℕ) (lists : List (List ℕ)) → top ≡ n + length lists → Under top (holders_from k n lists)
unfolding Under
holders_under k n top [] is = tt
holders_under k n top (xs ∷ more) is =
    under_replicate top (times k xs) n (holders_from k (n + 1) more) (omega arith) (holders_under k (n + 1) top more (omega arith))

under_at : (top : ℕ) (xs : List ℕ) (i : ℕ) → Under top xs → i < length xs → get_or xs i 0 < top
unfolding Under
under_at top [] i h below = absurd (omega arith)
under_at top (x ∷ xs) zero h below = h.0
under_at top (x ∷ xs) (suc i) h below = under_at top xs i h.1 (omega arith)

-- a holder is one of the lists
pub turned_below : (count k i : ℕ) (lists : List (List ℕ)) → k < count → i < length (get_or (turned_of count lists) k []) → get_or (get_or (turned_of count lists) k []) i 0 < length lists
turned_below count k i lists below within =
    let at = holders_at count k lists below in
    subst (λ (xs : List ℕ). get_or xs i 0 < length lists) (sym at)
    (under_at (length lists) (holders_from k 0 lists) i (holders_under k 0 (length lists) lists (omega arith)) (subst (λ (xs : List ℕ). i < length xs) at within))
