-- The items of some lists by their numbers.
use Rattle.std.proofs.Common.{◌≡◌, ◌∙◌, ℕ, zero, suc, ◌+◌, ◌-◌, ◌<◌, ◌≤◌, List, [], ◌∷◌, length, get_or, refl, ap, arith, inl, inr, Bool, true, false}
use Rattle.std.specs.Prelude.{◌⊎◌, nat_lt, if◌then◌else◌}
use Rattle.std.proofs.lemmas.Bool.Decides.{leb_tells}
use Rattle.plan_graph.specs.Numbered.{count_all, count_before, list_of_number, place_of_number}

-- what a comparison tells
pub lt_tells : (a b : ℕ) → ((nat_lt a b ≡ true) × (a < b)) ⊎ ((nat_lt a b ≡ false) × (b ≤ a))
lt_tells a b = elim (leb_tells (suc a) b) as (λ _. ((nat_lt a b ≡ true) × (a < b)) ⊎ ((nat_lt a b ≡ false) × (b ≤ a))) [
  | inl low ↦ inl (low.0, let h = low.1 in omega arith)
  | inr high ↦ inr (high.0, let h = high.1 in omega arith)
]

pub choice_yes : {A : Type 0} (o : Bool) (x y : A) → o ≡ true → (if o then x else y) ≡ x
choice_yes true x y e = refl
choice_yes false x y e = absurd (cc)

pub choice_no : {A : Type 0} (o : Bool) (x y : A) → o ≡ false → (if o then x else y) ≡ y
choice_no true x y e = absurd (cc)
choice_no false x y e = refl

-- where the item with a number stands
pub record StandsIn {A : Type 0} (lists : List (List A)) (n : ℕ) : Type 0 where
  pub list : list_of_number lists n < length lists
  pub place : place_of_number lists n < length (get_or lists (list_of_number lists n) [])
  pub number : count_before lists (list_of_number lists n) + place_of_number lists n ≡ n

-- each number below their count is that of an item
pub stands_in : {A : Type 0} (lists : List (List A)) (n : ℕ) → n < count_all lists → StandsIn lists n
stands_in [] n below = absurd (omega arith)
stands_in (xs ∷ more) n below = elim (lt_tells n (length xs)) as (λ _. StandsIn (xs ∷ more) n) [
  | inl low ↦
      let list : list_of_number (xs ∷ more) n ≡ 0 = choice_yes (nat_lt n (length xs)) 0 (suc (list_of_number more (n - length xs))) low.0 in
      let place : place_of_number (xs ∷ more) n ≡ n = choice_yes (nat_lt n (length xs)) n (place_of_number more (n - length xs)) low.0 in
      let first = ap (λ (k : ℕ). length (get_or (xs ∷ more) k [])) list in
      let before = ap (λ (k : ℕ). count_before (xs ∷ more) k) list in
      let less = low.1 in
      record { list = omega arith; place = omega arith; number = omega arith }
  | inr high ↦
      let list : list_of_number (xs ∷ more) n ≡ suc (list_of_number more (n - length xs)) = choice_no (nat_lt n (length xs)) 0 (suc (list_of_number more (n - length xs))) high.0 in
      let place : place_of_number (xs ∷ more) n ≡ place_of_number more (n - length xs) = choice_no (nat_lt n (length xs)) n (place_of_number more (n - length xs)) high.0 in
      let most = high.1 in
      let rest = stands_in more (n - length xs) (omega arith) in
      let a = rest.list in
      let b = rest.place in
      let c = rest.number in
      let first = ap (λ (k : ℕ). length (get_or (xs ∷ more) k [])) list in
      let before = ap (λ (k : ℕ). count_before (xs ∷ more) k) list in
      record { list = omega arith; place = omega arith; number = omega arith }
]

-- the number of an item
pub record IsNumbered {A : Type 0} (lists : List (List A)) (f k : ℕ) : Type 0 where
  pub below : count_before lists f + k < count_all lists
  pub list : list_of_number lists (count_before lists f + k) ≡ f
  pub place : place_of_number lists (count_before lists f + k) ≡ k

pub is_numbered : {A : Type 0} (lists : List (List A)) (f k : ℕ) → f < length lists → k < length (get_or lists f []) → IsNumbered lists f k
is_numbered [] f k within below = absurd (omega arith)
is_numbered (xs ∷ more) zero k within below = elim (lt_tells (0 + k) (length xs)) as (λ _. IsNumbered (xs ∷ more) zero k) [
  | inl low ↦ record {
    below = omega arith;
    list = choice_yes (nat_lt (0 + k) (length xs)) 0 (suc (list_of_number more (0 + k - length xs))) low.0;
    place = choice_yes (nat_lt (0 + k) (length xs)) (0 + k) (place_of_number more (0 + k - length xs)) low.0 ∙ omega arith;
  }
  | inr high ↦ absurd (let h = high.1 in omega arith)
]
is_numbered (xs ∷ more) (suc f) k within below =
    let rest = is_numbered more f k (omega arith) below in
    let low = rest.below in
    let n = length xs + count_before more f + k in
    let less : n - length xs ≡ count_before more f + k = omega arith in
    elim (lt_tells n (length xs)) as (λ _. IsNumbered (xs ∷ more) (suc f) k) [
      | inl low' ↦ absurd (let h = low'.1 in omega arith)
      | inr high ↦ record {
        below = omega arith;
        list = choice_no (nat_lt n (length xs)) 0 (suc (list_of_number more (n - length xs))) high.0 ∙ ap suc (ap (list_of_number more) less ∙ rest.list);
        place = choice_no (nat_lt n (length xs)) n (place_of_number more (n - length xs)) high.0 ∙ (ap (place_of_number more) less ∙ rest.place);
      }
    ]
