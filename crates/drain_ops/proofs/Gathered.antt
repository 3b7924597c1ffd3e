-- Values of places, joined over lists.
use Rattle.std.proofs.Common.{◌≡◌, ◌≢◌, inl, inr, ℕ, ◌<◌, List, [], ◌∷◌, length, map, refl, sym, ap, subst, ◌∙◌, arith, suc, get_or, Bool, true, false, cond}
use Rattle.std.specs.Prelude.{◌==◌, if◌then◌else◌}
use Rattle.std.specs.List.{Contains, filter, range_with_len}
use Rattle.std.proofs.lemmas.Bool.{cases_eq, eq-eqb}
use Rattle.std.proofs.lemmas.Bool.Decides.{eqb_tells}
use Rattle.std.proofs.lemmas.List.{get_or_default}
use Rattle.std.proofs.lemmas.List.FromFn.{get_or-range_with_len, length-range_with_len}
use Rattle.drain_meaning.specs.declared.flow.Flow.{Flow}
use Rattle.drain_meaning.specs.Rules.{Accumulator, RuleLaws, joined_all}
use Rattle.drain_meaning.specs.Transports.{Transport}
use Rattle.drain_meaning.proofs.Callers.{contains_cases, contains_first, contains_later}

-- the values at these places, joined
abbrev pub gathered : {A : Type 0} → Accumulator A → (ℕ → A) → List ℕ → A
gathered rule f [] = rule.none
gathered rule f (x ∷ xs) = rule.joined (gathered rule f xs) (f x)

-- no place stands twice
abbrev pub IsApart : List ℕ → Type 0
IsApart [] = Unit {0}
IsApart (x ∷ xs) = (Contains xs x → ⊥) × IsApart xs

-- the values without that of one place
abbrev pub without : {A : Type 0} → Accumulator A → ℕ → (ℕ → A) → ℕ → A
without rule x f u = if u == x then rule.none else f u

without_same : {A : Type 0} (rule : Accumulator A) (x : ℕ) (f : ℕ → A) → without rule x f x ≡ rule.none
without_same rule x f = rw (eq-eqb x x refl)

pub without_other : {A : Type 0} (rule : Accumulator A) (x : ℕ) (f : ℕ → A) (u : ℕ) → u ≢ x → without rule x f u ≡ f u
without_other rule x f u ne = elim (eqb_tells u x) as (λ _. without rule x f u ≡ f u) [ inl t ↦ absurd (ne t.1) | inr t ↦ rw t.0 ]

-- values that agree on a list are joined to the same
pub gathered_alike : {A : Type 0} (rule : Accumulator A) (f g : ℕ → A) (xs : List ℕ) → ((u : ℕ) → Contains xs u → f u ≡ g u) → gathered rule f xs ≡ gathered rule g xs
gathered_alike rule f g [] e = refl
gathered_alike rule f g (x ∷ xs) e =
    let rest : gathered rule f xs ≡ gathered rule g xs = gathered_alike rule f g xs (λ u h. e u (contains_later x xs u h)) in
    let here : f x ≡ g x = e x (contains_first x xs) in
    cc

gathered_none : {A : Type 0} (t : Transport) (rule : Accumulator A) → RuleLaws t rule → (f : ℕ → A) (xs : List ℕ) → ((u : ℕ) → Contains xs u → f u ≡ rule.none) → gathered rule f xs ≡ rule.none
gathered_none t rule laws f [] e = refl
gathered_none t rule laws f (x ∷ xs) e =
    let rest : gathered rule f xs ≡ rule.none = gathered_none t rule laws f xs (λ u h. e u (contains_later x xs u h)) in
    let here : f x ≡ rule.none = e x (contains_first x xs) in
    cc (laws.unit rule.none)

-- one place taken out
pub gathered_split : {A : Type 0} (t : Transport) (rule : Accumulator A) → RuleLaws t rule → (x : ℕ) (f : ℕ → A) (xs : List ℕ) → IsApart xs → Contains xs x → gathered rule f xs ≡ rule.joined (gathered rule (without rule x f) xs) (f x)
gathered_split t rule laws x f [] apart on = absurd (omega (arith, on.1))
gathered_split t rule laws x f (y ∷ ys) apart on = elim (cases_eq y x) as (λ _. gathered rule f (y ∷ ys) ≡ rule.joined (gathered rule (without rule x f) (y ∷ ys)) (f x)) [
  | inl same ↦
      let here : f y ≡ f x = ap f same in
      let gone : without rule x f y ≡ rule.none = ap (λ (z : ℕ). without rule x f z) same ∙ without_same rule x f in
      let rest : gathered rule f ys ≡ gathered rule (without rule x f) ys = gathered_alike rule f (without rule x f) ys (λ u h. sym (without_other rule x f u (λ e. apart.0 (subst (λ (z : ℕ). Contains ys z) (e ∙ sym same) h)))) in
      let unit : rule.joined (gathered rule (without rule x f) ys) rule.none ≡ gathered rule (without rule x f) ys = laws.unit (gathered rule (without rule x f) ys) in
      cc
  | inr other ↦
      let later : Contains ys x = elim (contains_cases y ys x on) as (λ _. Contains ys x) [ inl b ↦ absurd (other (sym b)) | inr b ↦ b ] in
      let kept : without rule x f y ≡ f y = without_other rule x f y other in
      let rest : gathered rule f ys ≡ rule.joined (gathered rule (without rule x f) ys) (f x) = gathered_split t rule laws x f ys apart.1 later in
      let one = laws.regroup (gathered rule (without rule x f) ys) (f x) (f y) in
      let two = laws.swap (f x) (f y) in
      let three = laws.regroup (gathered rule (without rule x f) ys) (f y) (f x) in
      cc
]

-- Joined over a list is joined over another one that has each place where there is something to join.
pub gathered_same : {A : Type 0} (t : Transport) (rule : Accumulator A) → RuleLaws t rule → (f : ℕ → A) (xs ys : List ℕ) → IsApart xs → IsApart ys → ((u : ℕ) → Contains ys u → Contains xs u) → ((u : ℕ) → Contains xs u → (Contains ys u → ⊥) → f u ≡ rule.none) → gathered rule f xs ≡ gathered rule f ys
gathered_same t rule laws f xs [] one two on out = gathered_none t rule laws f xs (λ u h. out u h (λ k. omega (arith, k.1)))
gathered_same t rule laws f xs (y ∷ ys) one two on out =
    let split = gathered_split t rule laws y f xs one (on y (contains_first y ys)) in
    let rest : gathered rule (without rule y f) xs ≡ gathered rule (without rule y f) ys =
    gathered_same t rule laws (without rule y f) xs ys one two.1 (λ u h. on u (contains_later y ys u h))
    (λ u h k. elim (cases_eq u y) as (λ _. without rule y f u ≡ rule.none) [
      | inl same ↦ ap (λ (z : ℕ). without rule y f z) same ∙ without_same rule y f
      | inr other ↦ without_other rule y f u other ∙ out u h (λ m. elim (contains_cases y ys u m) as (λ _. ⊥) [ inl b ↦ other b | inr b ↦ k b ])
    ]) in
    let same : gathered rule (without rule y f) ys ≡ gathered rule f ys =
    gathered_alike rule (without rule y f) f ys (λ u h. without_other rule y f u (λ e. two.0 (subst (λ (z : ℕ). Contains ys z) e h))) in
    cc

joined_by : {A : Type 0} (t : Transport) (rule : Accumulator A) → RuleLaws t rule → (p : ℕ → Bool) (outs : ℕ → Flow) (x : ℕ) (xs : List ℕ) (o : Bool) →
    joined_all rule (map outs (filter p xs)) ≡ gathered rule (λ u. if p u then rule.lifted (outs u) else rule.none) xs →
    joined_all rule (map outs (cond o (x ∷ filter p xs) (filter p xs))) ≡ rule.joined (gathered rule (λ u. if p u then rule.lifted (outs u) else rule.none) xs) (if o then rule.lifted (outs x) else rule.none)
joined_by {A = A} t rule laws p outs x xs true rest = ap (λ (y : A). rule.joined (rule.lifted (outs x)) y) rest ∙ laws.swap (rule.lifted (outs x)) (gathered rule (λ u. if p u then rule.lifted (outs u) else rule.none) xs)
joined_by {A = A} t rule laws p outs x xs false rest = rest ∙ sym (laws.unit (gathered rule (λ u. if p u then rule.lifted (outs u) else rule.none) xs))

-- the flows of a filtered list, joined
pub joined_all-filter : {A : Type 0} (t : Transport) (rule : Accumulator A) → RuleLaws t rule → (p : ℕ → Bool) (outs : ℕ → Flow) (xs : List ℕ) →
    joined_all rule (map outs (filter p xs)) ≡ gathered rule (λ u. if p u then rule.lifted (outs u) else rule.none) xs
joined_all-filter t rule laws p outs [] = refl
joined_all-filter t rule laws p outs (x ∷ xs) = joined_by t rule laws p outs x xs (p x) (joined_all-filter t rule laws p outs xs)

pub apart_of : (xs : List ℕ) → ((i j : ℕ) → i < j → j < length xs → get_or xs i 0 ≢ get_or xs j 0) → IsApart xs
apart_of [] e = tt
apart_of (x ∷ xs) e = (
  (λ h. e 0 (suc h.0) (omega arith) (omega (arith, h.1)) (sym (get_or_default xs h.0 0 x h.1 ∙ h.2))),
  apart_of xs (λ i j h k. e (suc i) (suc j) (omega arith) (omega arith)),
)

-- The places of a map stand once in their list.
pub apart_range : (n : ℕ) → IsApart (range_with_len 0 n)
apart_range n = apart_of (range_with_len 0 n) (λ i j h k same.
    let low : j < n = omega (arith, k, length-range_with_len 0 n) in
    let one = get_or-range_with_len 0 n i 0 (omega arith) in
    let two = get_or-range_with_len 0 n j 0 low in
    omega (arith, one, two, same, h))

pub in_range : (n u : ℕ) → u < n → Contains (range_with_len 0 n) u
in_range n u h = (u, omega (arith, length-range_with_len 0 n), get_or-range_with_len 0 n u u h ∙ omega arith)

-- the places of a map are below its number of cells
pub of_range : (n u : ℕ) → Contains (range_with_len 0 n) u → u < n
of_range n u h =
    let low : h.0 < n = omega (arith, h.1, length-range_with_len 0 n) in
    omega (arith, low, get_or-range_with_len 0 n h.0 u low, h.2)

-- joined over the images of a list
pub gathered-map : {A : Type 0} (rule : Accumulator A) (f : ℕ → A) (g : ℕ → ℕ) (xs : List ℕ) → gathered rule f (map g xs) ≡ gathered rule (λ u. f (g u)) xs
gathered-map rule f g [] = refl
gathered-map {A = A} rule f g (x ∷ xs) = ap (λ (y : A). rule.joined y (f (g x))) (gathered-map rule f g xs)
