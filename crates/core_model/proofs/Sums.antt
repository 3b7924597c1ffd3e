-- Sums and tests below a number.
use Rattle.std.proofs.Common.{◌≡◌, ◌≢◌, ℕ, zero, suc, ◌+◌, ◌<◌, ◌≤◌, Bool, true, false, cond, ◌==◌, ◌||◌, eq-eqb, ne_eqb, refl, ap, ◌∙◌, arith}
use Rattle.core_model.specs.Counts.{sum_below}
use mathlib.Core.Logic.{dite}
use native.Mathlib.Decide.{ℕ_discrete}

pub sum_same : (n : ℕ) (f h : ℕ → ℕ) → ((k : ℕ) → k < n → f k ≡ h k) → sum_below n f ≡ sum_below n h
sum_same zero f h e = refl
sum_same (suc n) f h e = let r = sum_same n f h (λ k l. e k (omega arith)) in let q = e n (omega arith) in omega arith

pub sum_le : (n : ℕ) (f h : ℕ → ℕ) → ((k : ℕ) → k < n → f k ≤ h k) → sum_below n f ≤ sum_below n h
sum_le zero f h e = omega arith
sum_le (suc n) f h e = let r = sum_le n f h (λ k l. e k (omega arith)) in let q = e n (omega arith) in omega arith

pub sum_change : (n i : ℕ) (f h : ℕ → ℕ) → i < n → ((k : ℕ) → k < n → k ≢ i → h k ≡ f k) → sum_below n h + f i ≡ sum_below n f + h i
sum_change zero i f h lt e = absurd (omega arith)
sum_change (suc n) i f h lt e = dite (ℕ_discrete n i)
    (λ q. let r = sum_same n h f (λ k l. e k (omega arith) (λ z. absurd (omega arith))) in
    let a : h n ≡ h i = ap h q in let b : f n ≡ f i = ap f q in omega arith)
    (λ ne. let r = sum_change n i f h (omega arith) (λ k l. e k (omega arith)) in let q = e n (omega arith) ne in omega arith)

pub sum_at : (n i : ℕ) (f : ℕ → ℕ) → i < n → f i ≤ sum_below n f
sum_at zero i f lt = absurd (omega arith)
sum_at (suc n) i f lt = dite (ℕ_discrete n i) (λ q. let a : f n ≡ f i = ap f q in omega arith) (λ ne. let r = sum_at n i f (omega arith) in omega arith)

pub sum_zero : (n : ℕ) → sum_below n (λ _. 0) ≡ 0
sum_zero zero = refl
sum_zero (suc n) = let r = sum_zero n in omega arith

pub sum_ones : (n : ℕ) → sum_below n (λ _. 1) ≡ n
sum_ones zero = refl
sum_ones (suc n) = let r = sum_ones n in omega arith

pub sum_add : (n : ℕ) (f h : ℕ → ℕ) → sum_below n (λ k. f k + h k) ≡ sum_below n f + sum_below n h
sum_add zero f h = refl
sum_add (suc n) f h = let r = sum_add n f h in omega arith

point_none : (n i v : ℕ) → n ≤ i → sum_below n (λ t. cond (i == t) v 0) ≡ 0
point_none zero i v le = refl
point_none (suc n) i v le = let r = point_none n i v (omega arith) in let q : cond (i == n) v 0 ≡ 0 = ap (λ b. cond b v 0) (ne_eqb i n (λ z. absurd (omega arith))) in omega arith

pub sum_point : (n i v : ℕ) → sum_below n (λ t. cond (i == t) v 0) ≤ v
sum_point zero i v = omega arith
sum_point (suc n) i v = dite (ℕ_discrete i n)
    (λ e. let r = point_none n i v (omega arith) in let q : cond (i == n) v 0 ≡ v = ap (λ b. cond b v 0) (eq-eqb i n e) in omega arith)
    (λ ne. let r = sum_point n i v in let q : cond (i == n) v 0 ≡ 0 = ap (λ b. cond b v 0) (ne_eqb i n ne) in omega arith)

-- what each of several has is no more than what there is
pub sum_shared : (n m : ℕ) (at u : ℕ → ℕ) → sum_below n (λ t. sum_below m (λ e. cond (at e == t) (u e) 0)) ≤ sum_below m u
sum_shared n zero at u = let r = sum_zero n in omega arith
sum_shared n (suc m) at u =
    let a = sum_add n (λ t. sum_below m (λ e. cond (at e == t) (u e) 0)) (λ t. cond (at m == t) (u m) 0) in
    let r = sum_shared n m at u in let q = sum_point n (at m) (u m) in omega arith

abbrev pub any_below : ℕ → (ℕ → Bool) → Bool
any_below zero p = false
any_below (suc n) p = any_below n p || p n

pub any_here : (n i : ℕ) (p : ℕ → Bool) → i < n → p i ≡ true → any_below n p ≡ true
any_here zero i p lt h = absurd (omega arith)
any_here (suc n) i p lt h = dite (ℕ_discrete n i) (λ q. or_right (any_below n p) (p n) (ap p q ∙ h)) (λ ne. or_left (any_below n p) (p n) (any_here n i p (omega arith) h))
  where
    or_right : (a b : Bool) → b ≡ true → (a || b) ≡ true
    or_right true b e = refl
    or_right false b e = e

    or_left : (a b : Bool) → a ≡ true → (a || b) ≡ true
    or_left true b e = refl
    or_left false b e = absurd (cc)

pub any_none : (n : ℕ) (p : ℕ → Bool) → ((k : ℕ) → k < n → p k ≡ false) → any_below n p ≡ false
any_none zero p h = refl
any_none (suc n) p h = λ k. (any_none n p (λ j l. h j (omega arith)) k) || (h n (omega arith) k)

pub any_same : (n : ℕ) (p q : ℕ → Bool) → ((k : ℕ) → k < n → p k ≡ q k) → any_below n p ≡ any_below n q
any_same zero p q h = refl
any_same (suc n) p q h = λ k. (any_same n p q (λ j l. h j (omega arith)) k) || (h n (omega arith) k)
