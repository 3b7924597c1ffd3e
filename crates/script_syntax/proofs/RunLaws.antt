-- Tests, and runs of bytes that pass one.
use Rattle.std.proofs.Common.{◌≡◌, ℕ, zero, suc, ◌+◌, ◌≤◌, Bool, true, false, cond, ◌&&◌, List, [], ◌∷◌, ◌++◌, length, take, refl, ◌∙◌, ap, arith}
use Rattle.std.specs.List.{list_all, prefix_len}

pub both : (a b : Bool) → (a && b) ≡ true → (a ≡ true) × (b ≡ true)
both true b h = (refl, h)
both false b h = absurd cc

pub and_is : (a b : Bool) → a ≡ true → b ≡ true → (a && b) ≡ true
and_is a b p q = rw (p, q) refl

pub cond_true : {A : Type 0} (b : Bool) (x y : A) → b ≡ true → cond b x y ≡ x
cond_true true x y e = refl
cond_true false x y e = absurd cc

pub cond_false : {A : Type 0} (b : Bool) (x y : A) → b ≡ false → cond b x y ≡ y
cond_false true x y e = absurd cc
cond_false false x y e = refl

-- bytes that pass before others
pub prefix_len-all : (p : ℕ → Bool) (xs ys : List ℕ) → list_all p xs ≡ true → prefix_len p (xs ++ ys) ≡ length xs + prefix_len p ys
prefix_len-all p [] ys h = omega arith
prefix_len-all p (x ∷ xs) ys h =
    let b = both (p x) (list_all p xs) h in
    let more = prefix_len-all p xs ys b.1 in
    let step : 1 + prefix_len p (xs ++ ys) ≡ length (x ∷ xs) + prefix_len p ys = omega arith in
    cond_true (p x) (1 + prefix_len p (xs ++ ys)) 0 b.0 ∙ step

-- the bytes of a run pass
pub list_all-run : (p : ℕ → Bool) (xs : List ℕ) → list_all p (take (prefix_len p xs) xs) ≡ true
list_all-run p [] = refl
list_all-run p (x ∷ xs) = by_test (p x) p x xs refl (list_all-run p xs)
  where
    by_test : (b : Bool) (p : ℕ → Bool) (x : ℕ) (xs : List ℕ) → p x ≡ b → list_all p (take (prefix_len p xs) xs) ≡ true → list_all p (take (cond (p x) (1 + prefix_len p xs) 0) (x ∷ xs)) ≡ true
    by_test true p x xs h more =
        let one : 1 + prefix_len p xs ≡ suc (prefix_len p xs) = omega arith in
        ap (λ (n : ℕ). list_all p (take n (x ∷ xs))) (cond_true (p x) (1 + prefix_len p xs) 0 h ∙ one) ∙ and_is (p x) (list_all p (take (prefix_len p xs) xs)) h more
    by_test false p x xs h more = ap (λ (n : ℕ). list_all p (take n (x ∷ xs))) (cond_false (p x) (1 + prefix_len p xs) 0 h)

-- so does each front of it
pub list_all-front : (p : ℕ → Bool) (k : ℕ) (xs : List ℕ) → k ≤ prefix_len p xs → list_all p (take k xs) ≡ true
list_all-front p zero xs h = refl
list_all-front p (suc k) [] h = refl
list_all-front p (suc k) (x ∷ xs) h = by_test (p x) p k x xs refl h (λ g. list_all-front p k xs g)
  where
    by_test : (b : Bool) (p : ℕ → Bool) (k x : ℕ) (xs : List ℕ) → p x ≡ b → suc k ≤ cond (p x) (1 + prefix_len p xs) 0 → (k ≤ prefix_len p xs → list_all p (take k xs) ≡ true) → list_all p (take (suc k) (x ∷ xs)) ≡ true
    by_test true p k x xs t h more =
        let is = cond_true (p x) (1 + prefix_len p xs) 0 t in
        and_is (p x) (list_all p (take k xs)) t (more (omega arith))
    by_test false p k x xs t h more =
        let is = cond_false (p x) (1 + prefix_len p xs) 0 t in
        absurd (omega arith)
