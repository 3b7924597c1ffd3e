-- Searches below a number, and functions changed at one place.
use Rattle.std.proofs.Common.{◌≡◌, ◌≢◌, ℕ, zero, suc, ◌<◌, ◌≤◌, Bool, true, false, cond, eq-eqb, ne_eqb, ◌⊎◌, inl, inr, ⊎_elim, List, [], ◌∷◌, ◌++◌, refl, ap, sym, ◌∙◌, subst, arith}
use mathlib.Core.Logic.{dite}
use native.Mathlib.Decide.{dec_le, ℕ_discrete}
use Rattle.core_model.specs.Graphs.{Each, In}
use Rattle.core_model.specs.Cores.{upd}

module _ {A : Type 0} where
  pub upd_same : (f : ℕ → A) (i : ℕ) (a : A) → upd f i a i ≡ a
  upd_same f i a = ap (λ b. cond b a (f i)) (eq-eqb i i refl)

  pub upd_other : (f : ℕ → A) (i k : ℕ) (a : A) → k ≢ i → upd f i a k ≡ f k
  upd_other f i k a ne = ap (λ b. cond b a (f k)) (ne_eqb k i ne)

  pub upd_cases : (P : A → Type 0) (f : ℕ → A) (i k : ℕ) (a : A) → (k ≡ i → P a) → (k ≢ i → P (f k)) → P (upd f i a k)
  upd_cases P f i k a here there = dite (ℕ_discrete k i) (λ e. subst P (sym (ap (λ b. cond b a (f k)) (eq-eqb k i e))) (here e)) (λ ne. subst P (sym (upd_other f i k a ne)) (there ne))

  pub each_in : (P : A → Type 0) (xs : List A) (a : A) → Each P xs → In a xs → P a
  each_in P [] a e i = absurd i
  each_in P (x ∷ xs) a e i = ⊎_elim (λ q. subst P (sym q) e.0) (λ q. each_in P xs a e.1 q) i

  pub each_from : (P : A → Type 0) (xs : List A) → ((a : A) → In a xs → P a) → Each P xs
  each_from P [] h = tt
  each_from P (x ∷ xs) h = (h x (inl refl), each_from P xs (λ a i. h a (inr i)))

  pub in_snoc : (xs : List A) (a b : A) → In a (xs ++ b ∷ []) → In a xs ⊎ (a ≡ b)
  in_snoc [] a b i = ⊎_elim (λ q. inr q) (λ q. absurd q) i
  in_snoc (x ∷ xs) a b i = ⊎_elim (λ q. inl (inl q)) (λ q. ⊎_elim (λ r. inl (inr r)) (λ r. inr r) (in_snoc xs a b q)) i

  pub in_longer : (xs ys : List A) (a : A) → In a xs → In a (xs ++ ys)
  in_longer [] ys a i = absurd i
  in_longer (x ∷ xs) ys a i = ⊎_elim (λ q. inl q) (λ q. inr (in_longer xs ys a q)) i

  pub in_last : (xs : List A) (a : A) → In a (xs ++ a ∷ [])
  in_last [] a = inl refl
  in_last (x ∷ xs) a = inr (in_last xs a)

  abbrev pub NoDup : List A → Type 0
  NoDup [] = Unit {0}
  NoDup (x ∷ xs) = (In x xs → ⊥) × NoDup xs

  pub no_dup_snoc : (xs : List A) (a : A) → NoDup xs → (In a xs → ⊥) → NoDup (xs ++ a ∷ [])
  no_dup_snoc [] a n out = ((λ i. i), tt)
  no_dup_snoc (x ∷ xs) a n out = ((λ i. ⊎_elim (λ q. n.0 q) (λ q. out (inl (sym q))) (in_snoc xs x a i)), no_dup_snoc xs a n.1 (λ i. out (inr i)))

pub bool_cases : {A : Type 0} (b : Bool) → (b ≡ true → A) → (b ≡ false → A) → A
bool_cases true y n = y refl
bool_cases false y n = n refl

-- the least that passes, or none does
pub find_least : (n : ℕ) (p : ℕ → Bool) → ((k : ℕ) × (k < n) × (p k ≡ true) × ((j : ℕ) → j < k → p j ≡ false)) ⊎ ((k : ℕ) → k < n → p k ≡ false)
find_least zero p = inr (λ k h. absurd (omega arith))
find_least (suc n) p =
    ⊎_elim (λ f. inl (f.0, (let h = f.1 in omega arith), f.2, f.3))
    (λ none'. bool_cases (p n)
    (λ y. inl (n, omega arith, y, none'))
    (λ no'. inr (λ k h. dite (ℕ_discrete k n) (λ e. ap p e ∙ no') (λ ne. none' k (omega arith)))))
    (find_least n p)

-- one that passes and is least in f, or none passes
pub find_lowest : (n : ℕ) (p : ℕ → Bool) (f : ℕ → ℕ) → ((k : ℕ) × (k < n) × (p k ≡ true) × ((j : ℕ) → j < n → p j ≡ true → f k ≤ f j)) ⊎ ((k : ℕ) → k < n → p k ≡ false)
find_lowest zero p f = inr (λ k h. absurd (omega arith))
find_lowest (suc n) p f =
    ⊎_elim
    (λ b. bool_cases (p n)
    (λ y. dite (dec_le (f b.0) (f n))
    (λ le. inl (b.0, (let h = b.1 in omega arith), b.2, λ j h q. dite (ℕ_discrete j n) (λ e. subst (λ z. f b.0 ≤ f z) (sym e) le) (λ ne. b.3 j (omega arith) q)))
    (λ gt. inl (n, omega arith, y, λ j h q. dite (ℕ_discrete j n) (λ e. subst (λ z. f n ≤ f z) (sym e) (let r : f n ≤ f n = omega arith in r)) (λ ne. let r = b.3 j (omega arith) q in let s : f n ≤ f b.0 = omega arith in omega arith))))
    (λ no'. inl (b.0, (let h = b.1 in omega arith), b.2, λ j h q. dite (ℕ_discrete j n) (λ e. absurd (let z : true ≡ false = sym q ∙ ap p e ∙ no' in cc)) (λ ne. b.3 j (omega arith) q))))
    (λ none'. bool_cases (p n)
    (λ y. inl (n, omega arith, y, λ j h q. dite (ℕ_discrete j n) (λ e. subst (λ z. f n ≤ f z) (sym e) (let r : f n ≤ f n = omega arith in r)) (λ ne. absurd (let z : true ≡ false = sym q ∙ none' j (omega arith) in cc))))
    (λ no'. inr (λ k h. dite (ℕ_discrete k n) (λ e. ap p e ∙ no') (λ ne. none' k (omega arith)))))
    (find_lowest n p f)
