-- Lists with one item written over, and how often a number stands in one.
use Rattle.std.proofs.Common.{◌≡◌, ◌≢◌, ℕ, zero, suc, ◌+◌, ◌-◌, ◌<◌, ◌≤◌, ◌==◌, eq-eqb, ne_eqb, inl, inr, ⊎_elim, List, [], ◌∷◌, ◌++◌, length, get_or, set, take, drop, Vec}
use Rattle.std.proofs.Common.{refl, ap, sym, ◌∙◌, subst, arith, length-append, get_or-set_other, get_or-set_same, add-one}
use Rattle.std.proofs.Math.Seq.{take-append_seam}
use Rattle.std.specs.Vec.{with_items}
use Rattle.std.proofs.lemmas.List.Sums.{sum_by-append}
use mathlib.Core.Logic.{dite}
use native.Mathlib.Decide.{ℕ_discrete}
use Rattle.core_model.specs.Counts.{flag, sum_below}
use Rattle.core_model.specs.Graphs.{Each, In}
use Rattle.core_model.proofs.Callers.{sum_add, sum_le, sum_ones, sum_same, sum_zero}
use Rattle.number_lists.specs.Turned.{times}

-- what holds of each item, after one was written
pub set_all : {A : Type 0} (xs : List A) (d : A) (n t : ℕ) (x : A) (Q : ℕ → A → Type 0) → t < length xs → Q t x
    → ((u : ℕ) → u < n → u ≢ t → Q u (get_or xs u d)) → (u : ℕ) → u < n → Q u (get_or (set xs t x) u d)
set_all xs d n t x Q lt here there u u_lt = dite (ℕ_discrete u t)
    (λ e. subst (λ v. Q v (get_or (set xs t x) v d)) (sym e) (subst (Q t) (sym (get_or-set_same xs t x d lt)) here))
    (λ ne. subst (Q u) (sym (get_or-set_other xs t u x d ne)) (there u u_lt ne))

pub times-append : (a : ℕ) (xs ys : List ℕ) → times a (xs ++ ys) ≡ times a xs + times a ys
times-append a xs ys = sum_by-append (λ x. flag (x == a)) xs ys

-- how often a number stands in a list, by its first item
pub times_front : (a x : ℕ) (xs : List ℕ) → times a (x ∷ xs) ≡ flag (x == a) + times a xs
times_front a x xs = let h = times-append a (x ∷ []) xs in let q : times a (x ∷ []) ≡ 0 + flag (x == a) = refl in omega arith

pub times_last : (a x : ℕ) (xs : List ℕ) → times a (xs ++ x ∷ []) ≡ times a xs + flag (x == a)
times_last a x xs = let h = times-append a xs (x ∷ []) in omega arith

pub times_last_same : (a : ℕ) (xs : List ℕ) → times a (xs ++ a ∷ []) ≡ times a xs + 1
times_last_same a xs = let h = times_last a a xs in let q : flag (a == a) ≡ 1 = ap flag (eq-eqb a a refl) in omega arith

pub times_last_other : (a x : ℕ) (xs : List ℕ) → a ≢ x → times a (xs ++ x ∷ []) ≡ times a xs
times_last_other a x xs ne = let h = times_last a x xs in let q : flag (x == a) ≡ 0 = ap flag (ne_eqb x a (λ e. ne (sym e))) in omega arith

pub each_last : {A : Type 0} (P : A → Type 0) (xs : List A) (x : A) → Each P (xs ++ x ∷ []) → Each P xs × P x
each_last P [] x e = (tt, e.0)
each_last P (y ∷ ys) x e = let r = each_last P ys x e.1 in ((e.0, r.0), r.1)

pub each_snoc : {A : Type 0} (P : A → Type 0) (xs : List A) (x : A) → Each P xs → P x → Each P (xs ++ x ∷ [])
each_snoc P [] x e p = (p, tt)
each_snoc P (y ∷ ys) x e p = (e.0, each_snoc P ys x e.1 p)

point_none : (n i : ℕ) → n ≤ i → sum_below n (λ t. flag (i == t)) ≡ 0
point_none zero i le = refl
point_none (suc n) i le = let r = point_none n i (omega arith) in let q : flag (i == n) ≡ 0 = ap flag (ne_eqb i n (λ z. absurd (omega arith))) in omega arith

point_one : (n i : ℕ) → i < n → sum_below n (λ t. flag (i == t)) ≡ 1
point_one zero i lt = absurd (omega arith)
point_one (suc n) i lt = dite (ℕ_discrete i n)
    (λ e. let r = point_none n i (omega arith) in let q : flag (i == n) ≡ 1 = ap flag (eq-eqb i n e) in omega arith)
    (λ ne. let r = point_one n i (omega arith) in let q : flag (i == n) ≡ 0 = ap flag (ne_eqb i n ne) in omega arith)

-- a list of numbers below n, by how often each stands there
pub length_times : (n : ℕ) (xs : List ℕ) → Each (λ x. x < n) xs → length xs ≡ sum_below n (λ t. times t xs)
length_times n [] e = sym (sum_zero n)
length_times n (x ∷ xs) e =
    let r = length_times n xs e.1 in let p = point_one n x e.0 in
    let a = sum_add n (λ t. flag (x == t)) (λ t. times t xs) in let f = sum_same n (λ t. times t (x ∷ xs)) (λ t. flag (x == t) + times t xs) (λ t _. times_front t x xs) in omega arith

-- numbers below n of which none stands twice are no more than n
pub few_once : (n : ℕ) (xs : List ℕ) → Each (λ x. x < n) xs → ((t : ℕ) → t < n → times t xs ≤ 1) → length xs ≤ n
few_once n xs e h = let l = length_times n xs e in let b = sum_le n (λ t. times t xs) (λ _. 1) h in let o = sum_ones n in omega arith

more_suc : (a : ℕ) (xs : List ℕ) (i : ℕ) → i < length xs → times a (take (suc i) xs) ≡ times a (take i xs) + flag (get_or xs i 0 == a)
more_suc a [] i h = absurd (omega arith)
more_suc a (x ∷ xs) zero h = let f = times_front a x [] in let q : times a [] ≡ 0 = refl in omega arith
more_suc a (x ∷ xs) (suc i) h = let r = more_suc a xs i (omega arith) in let f = times_front a x (take (suc i) xs) in let k = times_front a x (take i xs) in omega arith

-- one more item
pub times_more : (a : ℕ) (xs : List ℕ) (i : ℕ) → i < length xs → times a (take (i + 1) xs) ≡ times a (take i xs) + flag (get_or xs i 0 == a)
times_more a xs i h = ap (λ k. times a (take k xs)) (add-one i) ∙ more_suc a xs i h

-- a part has no more than the whole
pub times_part : (a : ℕ) (xs : List ℕ) (i : ℕ) → times a (take i xs) ≤ times a xs
times_part a [] zero = omega arith
times_part a [] (suc i) = omega arith
times_part a (x ∷ xs) zero = omega arith
times_part a (x ∷ xs) (suc i) = let r = times_part a xs i in let f = times_front a x xs in let k = times_front a x (take i xs) in omega arith

-- what stands in the list stands there once at least
pub times_in : (a : ℕ) (xs : List ℕ) → In a xs → 1 ≤ times a xs
times_in a [] i = absurd i
times_in a (x ∷ xs) i = ⊎_elim
    (λ e. let q : flag (x == a) ≡ 1 = ap flag (eq-eqb x a (sym e)) in let f = times_front a x xs in omega arith)
    (λ j. let r = times_in a xs j in let f = times_front a x xs in omega arith) i

-- and the other way
pub in_times : (a : ℕ) (xs : List ℕ) → 1 ≤ times a xs → In a xs
in_times a [] h = let q : times a [] ≡ 0 = refl in absurd (omega arith)
in_times a (x ∷ xs) h = dite (ℕ_discrete x a) (λ e. inl (sym e)) (λ ne. let q : flag (x == a) ≡ 0 = ap flag (ne_eqb x a ne) in let f = times_front a x xs in inr (in_times a xs (omega arith)))

pub each_get : {A : Type 0} (P : A → Type 0) (xs : List A) (i : ℕ) (d : A) → Each P xs → i < length xs → P (get_or xs i d)
each_get P [] i d e lt = absurd (omega arith)
each_get P (x ∷ xs) zero d e lt = e.0
each_get P (x ∷ xs) (suc i) d e lt = each_get P xs i d e.1 (omega arith)

pub in_get : {A : Type 0} (xs : List A) (i : ℕ) (d : A) → i < length xs → In (get_or xs i d) xs
in_get [] i d lt = absurd (omega arith)
in_get (x ∷ xs) zero d lt = inl refl
in_get (x ∷ xs) (suc i) d lt = inr (in_get xs i d (omega arith))

-- there is room for one more number below n where none stands twice
pub room_for : (n : ℕ) (cs : List ℕ) (t : ℕ) → Each (λ k. k < n) cs → t < n → times t cs ≡ 0 → ((u : ℕ) → u < n → times u cs ≤ 1) → length cs < n
room_for n cs t e lt none' most =
    let l = few_once n (cs ++ t ∷ []) (each_snoc (λ k. k < n) cs t e lt)
    (λ u u_lt. dite (ℕ_discrete u t)
    (λ q. let a : times u (cs ++ t ∷ []) ≡ 1 = ap (λ k. times k (cs ++ t ∷ [])) q ∙ times_last_same t cs ∙ ap (λ k. k + 1) none' in omega arith)
    (λ ne. let a = times_last_other u t cs ne in let c = most u u_lt in omega arith)) in
    let a = length-append cs (t ∷ []) in omega arith

module _ (xs : List ℕ) (i r : ℕ) (at : r ≡ get_or xs i 0) (i_lt : i < length xs) where
  pub more_here : times r (take (i + 1) xs) ≡ times r (take i xs) + 1
  more_here = let m = times_more r xs i i_lt in let q : flag (get_or xs i 0 == r) ≡ 1 = ap flag (eq-eqb (get_or xs i 0) r (sym at)) in omega arith

  pub more_there : (t : ℕ) → t ≢ r → times t (take (i + 1) xs) ≡ times t (take i xs)
  more_there t ne = let m = times_more t xs i i_lt in let q : flag (get_or xs i 0 == t) ≡ 0 = ap flag (ne_eqb (get_or xs i 0) t (λ e. ne (sym (at ∙ e)))) in omega arith

  pub owed_here : (old now : ℕ) → now + times r (take i xs) ≡ old → times r xs ≤ old → 1 ≤ now
  owed_here old now e le = let p = times_part r xs (i + 1) in let q = more_here in omega arith

  pub unmet_more : (us : List ℕ) (old t : ℕ) → r < length us → 1 ≤ get_or us r 0 → get_or us t 0 + times t (take i xs) ≡ old → get_or (set us r (get_or us r 0 - 1)) t 0 + times t (take (i + 1) xs) ≡ old
  unmet_more us old t lt one e = dite (ℕ_discrete t r)
      (λ q. let a : get_or (set us r (get_or us r 0 - 1)) t 0 ≡ get_or us r 0 - 1 = ap (λ k. get_or (set us r (get_or us r 0 - 1)) k 0) q ∙ get_or-set_same us r (get_or us r 0 - 1) 0 lt in
      let b : times t (take (i + 1) xs) ≡ times r (take i xs) + 1 = ap (λ k. times k (take (i + 1) xs)) q ∙ more_here in
      let d : get_or us t 0 ≡ get_or us r 0 = ap (λ k. get_or us k 0) q in
      let f : times t (take i xs) ≡ times r (take i xs) = ap (λ k. times k (take i xs)) q in omega arith)
      (λ ne. let a = get_or-set_other us r t (get_or us r 0 - 1) 0 ne in let b = more_there t ne in omega arith)

-- an item that is there, whatever stands for one that isn't
pub get_any : {A : Type 0} (xs : List A) (i : ℕ) (d e : A) → i < length xs → get_or xs i d ≡ get_or xs i e
get_any [] i d e lt = absurd (omega arith)
get_any (x ∷ xs) zero d e lt = refl
get_any (x ∷ xs) (suc i) d e lt = get_any xs i d e (omega arith)

pub get_past : {A : Type 0} (xs : List A) (i : ℕ) (d : A) → length xs ≤ i → get_or xs i d ≡ d
get_past [] i d le = refl
get_past (x ∷ xs) zero d le = absurd (omega arith)
get_past (x ∷ xs) (suc i) d le = get_past xs i d (omega arith)

-- what was written through a slice of all items
pub items_back : {A Z : Type 0} (v : Vec A Z) (ws : List A) → length ws ≡ length v.items → (with_items v ws).items ≡ ws
items_back v ws e = ap (λ n. take n (ws ++ drop (length ws) v.items)) (v.ok.0 ∙ sym e) ∙ take-append_seam ws (drop (length ws) v.items)

pub no_items : {A : Type 0} (xs : List A) → length xs ≡ 0 → xs ≡ []
no_items [] e = refl
no_items (x ∷ xs) e = absurd (omega arith)

-- what each item satisfies, an item that does not isn't among them
pub times_out : (P : ℕ → Type 0) (a : ℕ) (xs : List ℕ) → Each P xs → (P a → ⊥) → times a xs ≡ 0
times_out P a [] e out = refl
times_out P a (x ∷ xs) e out =
    let r = times_out P a xs e.1 out in
    let q : flag (x == a) ≡ 0 = ap flag (ne_eqb x a (λ i. out (subst P i e.0))) in let f = times_front a x xs in omega arith

-- each item is so, and so otherwise
pub each_weaken : {A : Type 0} (P Q : A → Type 0) (xs : List A) → ((a : A) → P a → Q a) → Each P xs → Each Q xs
each_weaken P Q [] h e = tt
each_weaken P Q (x ∷ xs) h e = (h x e.0, each_weaken P Q xs h e.1)
