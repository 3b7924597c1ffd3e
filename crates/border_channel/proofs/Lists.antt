-- Lists of places.
use Rattle.std.proofs.Common.{◌≡◌, ℕ, List, [], ◌∷◌, refl, sym, ap, subst, ◌∙◌, arith, inl, inr, Bool, true, false, cond}
use Rattle.std.specs.Prelude.{◌&&◌, if◌then◌else◌}
use Rattle.std.specs.List.{Contains, filter, list_all}
use Rattle.std.proofs.lemmas.Bool.{and_from, and_parts}
use Rattle.std.proofs.lemmas.List.Elements.{Contains-append_right}
use Rattle.drain_meaning.proofs.Callers.{contains_cases, contains_first, contains_later}

-- each of a list passes a test
pub list_all-each : (p : ℕ → Bool) (xs : List ℕ) → list_all p xs ≡ true → (u : ℕ) → Contains xs u → p u ≡ true
list_all-each p [] e u h = absurd (omega (arith, h.1))
list_all-each p (x ∷ xs) e u h =
    let both = and_parts (p x) (list_all p xs) e in
    elim (contains_cases x xs u h) as (λ _. p u ≡ true) [ inl same ↦ ap p same ∙ both.0 | inr later ↦ list_all-each p xs both.1 u later ]

pub each-list_all : (p : ℕ → Bool) (xs : List ℕ) → ((u : ℕ) → Contains xs u → p u ≡ true) → list_all p xs ≡ true
each-list_all p [] e = refl
each-list_all p (x ∷ xs) e = and_from (p x) (list_all p xs) (e x (contains_first x xs)) (each-list_all p xs (λ u h. e u (contains_later x xs u h)))

-- tests that agree on a list
pub list_all-alike : (p q : ℕ → Bool) (xs : List ℕ) → ((u : ℕ) → Contains xs u → p u ≡ q u) → list_all p xs ≡ list_all q xs
list_all-alike p q [] e = refl
list_all-alike p q (x ∷ xs) e =
    let here : p x ≡ q x = e x (contains_first x xs) in
    let rest : list_all p xs ≡ list_all q xs = list_all-alike p q xs (λ u h. e u (contains_later x xs u h)) in
    ap (λ (y : Bool). y && list_all p xs) here ∙ ap (λ (y : Bool). q x && y) rest

-- a choice whose parts hold
pub choice_holds : (o x y : Bool) → (o ≡ true → x ≡ true) → (o ≡ false → y ≡ true) → (if o then x else y) ≡ true
choice_holds true x y a b = a refl
choice_holds false x y a b = b refl

pub choice_first : {A : Type 0} (o : Bool) (x y z : A) → (if o then x else y) ≡ z → o ≡ true → x ≡ z
choice_first o x y z h e = rw e at h

pub choice_other : {A : Type 0} (o : Bool) (x y z : A) → (if o then x else y) ≡ z → o ≡ false → y ≡ z
choice_other o x y z h e = rw e at h

-- an element of a list
pub has_first : {A : Type 0} (x : A) (xs : List A) → Contains (x ∷ xs) x
has_first x xs = (0, omega arith, refl)

pub has_later : {A : Type 0} (x : A) (xs : List A) (y : A) → Contains xs y → Contains (x ∷ xs) y
has_later x xs y h = Contains-append_right (x ∷ []) xs y h

-- what passes a test is kept
keeps : (p : ℕ → Bool) (x u : ℕ) (xs : List ℕ) (o : Bool) → p x ≡ o → p u ≡ true → (Contains xs u → Contains (filter p xs) u) → Contains (x ∷ xs) u → Contains (cond o (x ∷ filter p xs) (filter p xs)) u
keeps p x u xs true e pass rest h = elim (contains_cases x xs u h) as (λ _. Contains (x ∷ filter p xs) u) [
  | inl same ↦ subst (λ (y : ℕ). Contains (x ∷ filter p xs) y) (sym same) (contains_first x (filter p xs))
  | inr later ↦ contains_later x (filter p xs) u (rest later)
]
keeps p x u xs false e pass rest h = elim (contains_cases x xs u h) as (λ _. Contains (filter p xs) u) [
  | inl same ↦ absurd (let f : p x ≡ true = ap p (sym same) ∙ pass in cc (e, f))
  | inr later ↦ rest later
]

pub filter-keeps : (p : ℕ → Bool) (xs : List ℕ) (u : ℕ) → Contains xs u → p u ≡ true → Contains (filter p xs) u
filter-keeps p [] u h e = absurd (omega (arith, h.1))
filter-keeps p (x ∷ xs) u h e = keeps p x u xs (p x) refl e (λ k. filter-keeps p xs u k e) h

-- no number stands twice
abbrev pub Apart : List ℕ → Type 0
Apart [] = Unit {0}
Apart (x ∷ xs) = (Contains xs x → ⊥) × Apart xs
