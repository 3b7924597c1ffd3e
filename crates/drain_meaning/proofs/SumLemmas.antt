-- Flows together over lists of places.
use Rattle.std.proofs.Common.{◌≡◌, ◌⊎◌, inl, inr, ℕ, List, [], ◌∷◌, map, refl, sym, ap, subst, ◌∙◌, arith, suc, zero, Bool, true, false, cond}
use Rattle.std.specs.List.{Contains, filter}
use Rattle.std.specs.Prelude.{if◌then◌else◌, ◌||◌}
use Rattle.std.proofs.lemmas.List.Elements.{Contains-append_right}
use Rattle.drain_meaning.specs.declared.flow.Flow.{Flow}
use Rattle.drain_meaning.specs.Flows.{nothing, together, total_flow}
use Rattle.drain_meaning.specs.inside.SumLaws.{together_regroup, together_swap, together_unit}

pub contains_first : (x : ℕ) (xs : List ℕ) → Contains (x ∷ xs) x
contains_first x xs = (0, omega arith, refl)

pub contains_later : (x : ℕ) (xs : List ℕ) (u : ℕ) → Contains xs u → Contains (x ∷ xs) u
contains_later x xs u h = Contains-append_right (x ∷ []) xs u h

pub contains_cases : (x : ℕ) (xs : List ℕ) (u : ℕ) → Contains (x ∷ xs) u → (u ≡ x) ⊎ Contains xs u
contains_cases x xs u (zero, w, e) = inl (sym e)
contains_cases x xs u (suc k, w, e) = inr (k, omega arith, e)

-- functions that agree on a list
pub map_alike : {A : Type 0} (f g : ℕ → A) (xs : List ℕ) → ((u : ℕ) → Contains xs u → f u ≡ g u) → map f xs ≡ map g xs
map_alike f g [] e = refl
map_alike f g (x ∷ xs) e =
    let rest : map f xs ≡ map g xs = map_alike f g xs (λ u h. e u (contains_later x xs u h)) in
    let here : f x ≡ g x = e x (contains_first x xs) in
    cc

kept_by : (p : ℕ → Bool) (x u : ℕ) (xs : List ℕ) (o : Bool) → p x ≡ o → (Contains (filter p xs) u → (p u ≡ true) × Contains xs u) → Contains (cond o (x ∷ filter p xs) (filter p xs)) u → (p u ≡ true) × Contains (x ∷ xs) u
kept_by p x u xs true e rest h = elim (contains_cases x (filter p xs) u h) as (λ _. (p u ≡ true) × Contains (x ∷ xs) u) [
  | inl same ↦ (ap p same ∙ e, subst (λ (y : ℕ). Contains (x ∷ xs) y) (sym same) (contains_first x xs))
  | inr later ↦ let r = rest later in (r.0, contains_later x xs u r.1)
]
kept_by p x u xs false e rest h = let r = rest h in (r.0, contains_later x xs u r.1)

-- what a filter keeps is of the list and passes the test
pub kept_passes : (p : ℕ → Bool) (xs : List ℕ) (u : ℕ) → Contains (filter p xs) u → (p u ≡ true) × Contains xs u
kept_passes p [] u h = absurd (omega (arith, h.1))
kept_passes p (x ∷ xs) u h = kept_by p x u xs (p x) refl (kept_passes p xs u) h

-- a flow that counts where a test is passed
abbrev pub if_so : Bool → Flow → Flow
if_so o x = if o then x else nothing

total_by : (p : ℕ → Bool) (f : ℕ → Flow) (x : ℕ) (xs : List ℕ) (o : Bool) → p x ≡ o → total_flow (map f (filter p xs)) ≡ total_flow (map (λ q. if_so (p q) (f q)) xs) →
    total_flow (map f (cond o (x ∷ filter p xs) (filter p xs))) ≡ together (if_so o (f x)) (total_flow (map (λ q. if_so (p q) (f q)) xs))
total_by p f x xs true e rest = ap (λ (y : Flow). together (f x) y) rest
total_by p f x xs false e rest = rest ∙ sym (together_swap nothing (total_flow (map (λ q. if_so (p q) (f q)) xs)) ∙ together_unit (total_flow (map (λ q. if_so (p q) (f q)) xs)))

-- the flows of a filtered list together
pub total-filter : (p : ℕ → Bool) (f : ℕ → Flow) (xs : List ℕ) → total_flow (map f (filter p xs)) ≡ total_flow (map (λ q. if_so (p q) (f q)) xs)
total-filter p f [] = refl
total-filter p f (x ∷ xs) = total_by p f x xs (p x) refl (total-filter p f xs)

-- nothing together is nothing
pub total-nothing : (xs : List ℕ) → total_flow (map (λ q. nothing) xs) ≡ nothing
total-nothing [] = refl
total-nothing (x ∷ xs) = ap (λ (y : Flow). together nothing y) (total-nothing xs)

four : (a b c d : Flow) → together (together a b) (together c d) ≡ together (together a c) (together b d)
four a b c d =
    let one = together_regroup a b (together c d) in
    let two : together b (together c d) ≡ together c (together b d) = sym (together_regroup b c d) ∙ (ap (λ (y : Flow). together y d) (together_swap b c) ∙ together_regroup c b d) in
    let three = together_regroup a c (together b d) in
    one ∙ (ap (λ (y : Flow). together a y) two ∙ sym three)

-- sums of two flows at each place
pub total-together : (f g : ℕ → Flow) (xs : List ℕ) → total_flow (map (λ q. together (f q) (g q)) xs) ≡ together (total_flow (map f xs)) (total_flow (map g xs))
total-together f g [] = refl
total-together f g (x ∷ xs) = ap (λ (y : Flow). together (together (f x) (g x)) y) (total-together f g xs) ∙ four (f x) (g x) (total_flow (map f xs)) (total_flow (map g xs))

-- sums over two lists, one in the other
pub total-swap : (f : ℕ → ℕ → Flow) (xs ys : List ℕ) → total_flow (map (λ u. total_flow (map (f u) ys)) xs) ≡ total_flow (map (λ q. total_flow (map (λ u. f u q) xs)) ys)
total-swap f [] ys = sym (total-nothing ys)
total-swap f (x ∷ xs) ys =
    ap (λ (y : Flow). together (total_flow (map (f x) ys)) y) (total-swap f xs ys)
    ∙ sym (total-together (f x) (λ q. total_flow (map (λ u. f u q) xs)) ys)

-- a sum that counts where a test is passed
pub if_so-total : (o : Bool) (f : ℕ → Flow) (xs : List ℕ) → if_so o (total_flow (map f xs)) ≡ total_flow (map (λ q. if_so o (f q)) xs)
if_so-total true f xs = refl
if_so-total false f xs = sym (total-nothing xs)

-- one of two tests is passed, and not both
pub if_so-either : (o p : Bool) (x : Flow) → (o ≡ true → p ≡ true → ⊥) → if_so (o || p) x ≡ together (if_so o x) (if_so p x)
if_so-either true true x apart = absurd (apart refl refl)
if_so-either true false x apart = sym (together_unit x)
if_so-either false true x apart = sym (together_swap nothing x ∙ together_unit x)
if_so-either false false x apart = refl

-- a test for two flows together
pub if_so-together : (o : Bool) (x y : Flow) → if_so o (together x y) ≡ together (if_so o x) (if_so o y)
if_so-together true x y = refl
if_so-together false x y = refl
