-- Authors: how often they stand in a list, and the least and the greatest of them.
use Rattle.std.proofs.Common.{◌≡◌, ℕ, zero, suc, ◌+◌, ◌<◌, ◌≤◌, ◌≢◌, ◌⊎◌, Bool, true, false, cond, not, ◌||◌, ◌==◌, max, min, if◌then◌else◌, nat_lt, List, [], ◌∷◌, ◌++◌, length}
use Rattle.std.proofs.Common.{refl, sym, ap, ◌∙◌, inl, inr, ⊎_elim, arith, eq-eqb, ne_eqb, true≢false, lt_of_not-le, zero-add, length-append}
use Rattle.std.proofs.lemmas.Bool.Decides.{nat_tests, eqb_tells}
use mathlib.Core.Logic.{dite}
use native.Mathlib.Decide.{dec_le, ℕ_discrete}
use Rattle.turn_cell.specs.Authors.{authors_below, least_author, greatest_author, without_author, times_among, AreDistinct}
use Rattle.turn_cell.specs.Histories.{is_author}
use Rattle.turn_cell.specs.inside.Ruled.{once_below}

head_none : (b : Bool) (n : ℕ) → (if b then 1 else 0) + n ≡ 0 → (b ≡ false) × (n ≡ 0)
head_none true n h = absurd (omega arith)
head_none false n h = (refl, omega arith)

head_some : (b c : Bool) (n : ℕ) → (b || c) ≡ true → (c ≡ true → 1 ≤ n) → 1 ≤ (if b then 1 else 0) + n
head_some true c n h k = omega arith
head_some false c n h k = let r = k h in omega arith

head_is : (b c : Bool) (n : ℕ) → 1 ≤ (if b then 1 else 0) + n → (1 ≤ n → c ≡ true) → (b || c) ≡ true
head_is true c n h k = refl
head_is false c n h k = k (omega arith)

-- who stands nowhere is no author
pub none_among : (a : ℕ) (xs : List ℕ) → times_among a xs ≡ 0 → is_author a xs ≡ false
none_among a [] h = refl
none_among a (b ∷ xs) h = let t = head_none (a == b) (times_among a xs) h in ap (λ (c : Bool). c || is_author a xs) t.0 ∙ none_among a xs t.1

pub some_among : (a : ℕ) (xs : List ℕ) → is_author a xs ≡ true → 1 ≤ times_among a xs
some_among a [] h = absurd (true≢false (sym h))
some_among a (b ∷ xs) h = head_some (a == b) (is_author a xs) (times_among a xs) h (some_among a xs)

pub among_is : (a : ℕ) (xs : List ℕ) → 1 ≤ times_among a xs → is_author a xs ≡ true
among_is a [] h = absurd (omega arith)
among_is a (b ∷ xs) h = head_is (a == b) (is_author a xs) (times_among a xs) h (among_is a xs)

pub times_append : (a : ℕ) (xs ys : List ℕ) → times_among a (xs ++ ys) ≡ times_among a xs + times_among a ys
times_append a [] ys = sym (zero-add (times_among a ys))
times_append a (x ∷ xs) ys = let n : ℕ = if a == x then 1 else 0 in let h = times_append a xs ys in let k : n + times_among a (xs ++ ys) ≡ (n + times_among a xs) + times_among a ys = omega arith in k

-- the list that is left where the first number is or is not the one that goes
pub left_at : (g b : ℕ) (xs : List ℕ) (c : Bool) → (g == b) ≡ c → without_author g (b ∷ xs) ≡ cond (not c) (b ∷ without_author g xs) (without_author g xs)
left_at g b xs c e = ap (λ (d : Bool). cond (not d) (b ∷ without_author g xs) (without_author g xs)) e

pub times_at : (a b : ℕ) (xs : List ℕ) (c : Bool) → (a == b) ≡ c → times_among a (b ∷ xs) ≡ (if c then 1 else 0) + times_among a xs
times_at a b xs c e = ap (λ (d : Bool). (if d then 1 else 0) + times_among a xs) e

pub times_without_self : (g : ℕ) (xs : List ℕ) → times_among g (without_author g xs) ≡ 0
times_without_self g [] = refl
times_without_self g (b ∷ xs) =
    ⊎_elim (λ t. ap (times_among g) (left_at g b xs true t.0) ∙ times_without_self g xs)
    (λ t. ap (times_among g) (left_at g b xs false t.0) ∙ (times_at g b (without_author g xs) false t.0 ∙ (zero-add (times_among g (without_author g xs)) ∙ times_without_self g xs)))
    (eqb_tells g b)

pub times_without_other : (a g : ℕ) (xs : List ℕ) → a ≢ g → times_among a (without_author g xs) ≡ times_among a xs
times_without_other a g [] n = refl
times_without_other a g (b ∷ xs) n =
    ⊎_elim
    (λ t. ap (times_among a) (left_at g b xs true t.0) ∙ (times_without_other a g xs n ∙ sym (times_at a b xs false (ne_eqb a b (λ e. n (e ∙ sym t.1))) ∙ zero-add (times_among a xs))))
    (λ t. ap (times_among a) (left_at g b xs false t.0) ∙ ap (λ (k : ℕ). (if a == b then 1 else 0) + k) (times_without_other a g xs n))
    (eqb_tells g b)

pub length_without : (g : ℕ) (xs : List ℕ) → length (without_author g xs) + times_among g xs ≡ length xs
length_without g [] = refl
length_without g (b ∷ xs) =
    ⊎_elim
    (λ t. let l : length (without_author g (b ∷ xs)) ≡ length (without_author g xs) = ap length (left_at g b xs true t.0) in let m : times_among g (b ∷ xs) ≡ 1 + times_among g xs = times_at g b xs true t.0 in let r = length_without g xs in omega arith)
    (λ t. let l : length (without_author g (b ∷ xs)) ≡ suc (length (without_author g xs)) = ap length (left_at g b xs false t.0) in let m : times_among g (b ∷ xs) ≡ 0 + times_among g xs = times_at g b xs false t.0 in let r = length_without g xs in omega arith)
    (eqb_tells g b)

-- who is left is an author of the whole
pub without_is : (a g : ℕ) (xs : List ℕ) → is_author a (without_author g xs) ≡ true → is_author a xs ≡ true
without_is a g xs h =
    let s = some_among a (without_author g xs) h in
    dite (ℕ_discrete a g)
    (λ e. let z : times_among a (without_author g xs) ≡ 0 = ap (λ (k : ℕ). times_among k (without_author g xs)) e ∙ times_without_self g xs in absurd (omega arith))
    (λ n. let o = times_without_other a g xs n in among_is a xs (omega arith))

-- an author alone
pub alone_is : (a g : ℕ) → is_author a (g ∷ []) ≡ true → a ≡ g
alone_is a g h = ⊎_elim (λ t. t.1) (λ t. absurd (true≢false (sym h ∙ ap (λ (c : Bool). c || false) t.0))) (eqb_tells a g)

pub first_in : (a : ℕ) (xs : List ℕ) → is_author a (a ∷ xs) ≡ true
first_in a xs = ap (λ (c : Bool). c || is_author a xs) (eq-eqb a a refl)

or_yes : (b : Bool) → (b || true) ≡ true
or_yes true = refl
or_yes false = refl

later_in : (m a : ℕ) (xs : List ℕ) → is_author m xs ≡ true → is_author m (a ∷ xs) ≡ true
later_in m a xs h = ap (λ (c : Bool). (m == a) || c) h ∙ or_yes (m == a)

filled : (xs : List ℕ) → 0 < greatest_author xs → 0 < length xs
filled [] h = absurd (omega arith)
filled (x ∷ xs) h = omega arith

-- the greatest author is one
pub greatest_in : (xs : List ℕ) → 0 < length xs → is_author (greatest_author xs) xs ≡ true
greatest_in [] h = absurd (omega arith)
greatest_in (a ∷ xs) h =
    dite (dec_le (greatest_author xs) a)
    (λ le. let e : max a (greatest_author xs) ≡ a = omega arith in ap (λ (m : ℕ). is_author m (a ∷ xs)) e ∙ first_in a xs)
    (λ n. let l = lt_of_not-le n in let e : max a (greatest_author xs) ≡ greatest_author xs = omega arith in
    ap (λ (m : ℕ). is_author m (a ∷ xs)) e ∙ later_in (greatest_author xs) a xs (greatest_in xs (filled xs (omega arith))))

-- the least author is one
pub least_in : (xs : List ℕ) → 0 < length xs → is_author (least_author xs) xs ≡ true
least_in [] h = absurd (omega arith)
least_in (a ∷ []) h = first_in a []
least_in (a ∷ (b ∷ xs)) h =
    let m : ℕ = least_author (b ∷ xs) in
    dite (dec_le a m)
    (λ le. let e : min a m ≡ a = omega arith in ap (λ (k : ℕ). is_author k (a ∷ (b ∷ xs))) e ∙ first_in a (b ∷ xs))
    (λ n. let l = lt_of_not-le n in let e : min a m ≡ m = omega arith in
    ap (λ (k : ℕ). is_author k (a ∷ (b ∷ xs))) e ∙ later_in m a (b ∷ xs) (least_in (b ∷ xs) (omega arith)))

all_zero : (xs : List ℕ) → greatest_author xs ≡ 0 → times_among 0 xs ≡ length xs
all_zero [] h = refl
all_zero (a ∷ xs) h =
    let z : a ≡ 0 = omega arith in
    let g : greatest_author xs ≡ 0 = omega arith in
    let t = times_at 0 a xs true (eq-eqb 0 a (sym z)) in
    let r = all_zero xs g in
    let k : times_among 0 (a ∷ xs) ≡ suc (length xs) = t ∙ omega arith in
    k

-- of two distinct authors the greatest is not 0
pub greatest_not_zero : (xs : List ℕ) → 2 ≤ length xs → AreDistinct xs → 0 ≢ greatest_author xs
greatest_not_zero xs two d e = let z = all_zero xs (sym e) in let o = d 0 in omega arith

-- the author 0 stays where the greatest of two or more goes
pub zero_stays : (xs : List ℕ) → 2 ≤ length xs → AreDistinct xs → is_author 0 xs ≡ true → is_author 0 (without_author (greatest_author xs) xs) ≡ true
zero_stays xs two d h =
    let n = greatest_not_zero xs two d in
    let t = times_without_other 0 (greatest_author xs) xs n in
    let s = some_among 0 xs h in
    among_is 0 (without_author (greatest_author xs) xs) (omega arith)

-- the greatest of distinct authors is there once
pub greatest_once : (xs : List ℕ) → 0 < length xs → AreDistinct xs → times_among (greatest_author xs) xs ≡ 1
greatest_once xs some d = let s = some_among (greatest_author xs) xs (greatest_in xs some) in let o = d (greatest_author xs) in omega arith

-- who stays and who goes are all
pub times_parts : (a g : ℕ) (xs : List ℕ) → times_among g xs ≡ 1 → times_among a (without_author g xs) + times_among a (g ∷ []) ≡ times_among a xs
times_parts a g xs once =
    dite (ℕ_discrete a g)
    (λ e. let z : times_among a (without_author g xs) ≡ 0 = ap (λ (k : ℕ). times_among k (without_author g xs)) e ∙ times_without_self g xs in
    let m : times_among a (g ∷ []) ≡ 1 + 0 = times_at a g [] true (eq-eqb a g e) in
    let o : times_among a xs ≡ 1 = ap (λ (k : ℕ). times_among k xs) e ∙ once in omega arith)
    (λ n. let o = times_without_other a g xs n in let m : times_among a (g ∷ []) ≡ 0 + 0 = times_at a g [] false (ne_eqb a g n) in omega arith)

-- the authors that stay are distinct
pub without_distinct : (g : ℕ) (xs : List ℕ) → AreDistinct xs → AreDistinct (without_author g xs)
without_distinct g xs d a =
    dite (ℕ_discrete a g)
    (λ e. let z : times_among a (without_author g xs) ≡ 0 = ap (λ (k : ℕ). times_among k (without_author g xs)) e ∙ times_without_self g xs in omega arith)
    (λ n. let o = times_without_other a g xs n in let k = d a in omega arith)

-- one author is distinct
pub alone_distinct : (g : ℕ) → AreDistinct (g ∷ [])
alone_distinct g a = ⊎_elim (λ t. let m : times_among a (g ∷ []) ≡ 1 + 0 = times_at a g [] true t.0 in omega arith) (λ t. let m : times_among a (g ∷ []) ≡ 0 + 0 = times_at a g [] false t.0 in omega arith) (eqb_tells a g)

once_more : (a n : ℕ) → once_below a (suc n) ≡ once_below a n + (if a == n then 1 else 0)
once_more a n = grind (arith, nat_tests)

once_none : (a : ℕ) → once_below a 0 ≡ 0
once_none a = grind (arith, nat_tests)

bit : (b : Bool) → (if b then 1 else 0) ≤ 1
bit true = omega arith
bit false = omega arith

pub once_le : (a n : ℕ) → once_below a n ≤ 1
once_le a n = bit (nat_lt a n)

-- each number below n is an author once
pub times_below : (a n : ℕ) → times_among a (authors_below n) ≡ once_below a n
times_below a zero = sym (once_none a)
times_below a (suc n) =
    let t : times_among a (authors_below n ++ n ∷ []) ≡ times_among a (authors_below n) + times_among a (n ∷ []) = times_append a (authors_below n) (n ∷ []) in
    let r = times_below a n in
    let k : ℕ = if a == n then 1 else 0 in
    let m : once_below a (suc n) ≡ once_below a n + k = once_more a n in
    let l : times_among a (n ∷ []) ≡ k + 0 = refl in
    let g : times_among a (authors_below n ++ n ∷ []) ≡ once_below a (suc n) = omega arith in
    g

pub length_below : (n : ℕ) → length (authors_below n) ≡ n
length_below zero = refl
length_below (suc n) = length-append (authors_below n) (n ∷ []) ∙ (let r = length_below n in omega arith)

pub below_distinct : (n : ℕ) → AreDistinct (authors_below n)
below_distinct n a = let t = times_below a n in let o = once_le a n in omega arith

zero_once : (n : ℕ) → 0 < n → once_below 0 n ≡ 1
zero_once n h = grind (arith, nat_tests)

pub zero_below : (n : ℕ) → 0 < n → is_author 0 (authors_below n) ≡ true
zero_below n h = let t = times_below 0 n in let o = zero_once n h in among_is 0 (authors_below n) (omega arith)
