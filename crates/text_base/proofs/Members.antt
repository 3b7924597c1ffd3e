-- Lists by their members.
use Rattle.std.proofs.Common.{◌≡◌, ℕ, zero, suc, ◌<◌, ◌⊎◌, List, [], ◌∷◌, length, get_or, refl, sym, ap, ◌∙◌, inl, inr, arith}
use Rattle.std.specs.List.{All, AllPairs, Any, Contains}
use Rattle.std.proofs.lemmas.List.Elements.{All-contains}

-- a member of a list is its first element or one of the others
pub Contains-cons_cases : {X : Type 0} (y : X) (ys : List X) (x : X) → Contains (y ∷ ys) x → (y ≡ x) ⊎ Contains ys x
Contains-cons_cases {X} y ys x h = at h.0 h.1 h.2
  where
    at : (k : ℕ) → k < length (y ∷ ys) → get_or (y ∷ ys) k x ≡ x → (y ≡ x) ⊎ Contains ys x
    at zero lt is = inl is
    at (suc k) lt is = inr (k, omega arith, is)

-- the first element is a member
pub Contains-head : {X : Type 0} (y : X) (ys : List X) → Contains (y ∷ ys) y
Contains-head y ys = (0, omega arith, refl)

-- a member of the others is one of the list
pub Contains-tail : {X : Type 0} (y : X) (ys : List X) (x : X) → Contains ys x → Contains (y ∷ ys) x
Contains-tail y ys x h = (suc h.0, omega (arith, h.1), h.2)

-- some element of a list with one more in front
pub Any-tail : {X : Type 0} (P : X → Type 0) (y : X) (ys : List X) → Any P ys → Any P (y ∷ ys)
Any-tail P y ys h = (suc h.0, h.1, omega (arith, h.2), h.3, h.4)

-- the first element has it
pub Any-head : {X : Type 0} (P : X → Type 0) (y : X) (ys : List X) → P y → Any P (y ∷ ys)
Any-head P y ys p = (0, y, omega arith, refl, p)

-- the first element stands so to all later ones
pub AllPairs-head : {X : Type 0} (R : X → X → Type 0) (x : X) (xs : List X) → AllPairs R (x ∷ xs) → All (R x) xs
AllPairs-head R x xs h = λ k d lt. h 0 (suc k) d (omega arith) (omega (arith, lt))

-- the others stand so too
pub AllPairs-tail : {X : Type 0} (R : X → X → Type 0) (x : X) (xs : List X) → AllPairs R (x ∷ xs) → AllPairs R xs
AllPairs-tail R x xs h = λ i j d lt within. h (suc i) (suc j) d (omega (arith, lt)) (omega (arith, within))

-- a member of the list without its first element, where that has another key
other_member : {X : Type 0} (key : X → ℕ) (y : X) (ys : List X) (x : X) → key y < key x → Contains (y ∷ ys) x → Contains ys x
other_member key y ys x apart h =
    elim (Contains-cons_cases y ys x h) [ inl same ↦ absurd (let e = ap key same in omega (arith, e, apart)) | inr other ↦ other ]

-- two lists with the same first element and the same members have the same others
others_within : {X : Type 0} (key : X → ℕ) (x y : X) (xs ys : List X) → x ≡ y → AllPairs (λ a b. key a < key b) (x ∷ xs) → ((z : X) → Contains (x ∷ xs) z → Contains (y ∷ ys) z) → (z : X) → Contains xs z → Contains ys z
others_within key x y xs ys same ascending within z h =
    let after : key x < key z = All-contains (λ b. key x < key b) xs z (AllPairs-head (λ a b. key a < key b) x xs ascending) h in
    let e = ap key same in
    other_member key y ys z (omega (arith, e, after)) (within z (Contains-tail x xs z h))

-- two ascending lists with the same members begin alike
same_first : {X : Type 0} (key : X → ℕ) (x y : X) (xs ys : List X) → AllPairs (λ a b. key a < key b) (x ∷ xs) → AllPairs (λ a b. key a < key b) (y ∷ ys) → Contains (y ∷ ys) x → Contains (x ∷ xs) y → x ≡ y
same_first key x y xs ys ascending ascending' x_in y_in =
    elim (Contains-cons_cases y ys x x_in) [
      | inl same ↦ sym same
      | inr later ↦ elim (Contains-cons_cases x xs y y_in) [
        | inl same ↦ same
        | inr earlier ↦ absurd (
            let a : key y < key x = All-contains (λ b. key y < key b) ys x (AllPairs-head (λ a b. key a < key b) y ys ascending') later in
            let b : key x < key y = All-contains (λ b. key x < key b) xs y (AllPairs-head (λ a b. key a < key b) x xs ascending) earlier in
            omega (arith, a, b))
      ]
    ]

no_member : {X : Type 0} (x : X) → Contains [] x → ⊥
no_member x h = let lt = h.1 in omega (arith, lt)

-- ascending lists with the same members are one list
pub same_by_members : {X : Type 0} (key : X → ℕ) (xs ys : List X) → AllPairs (λ a b. key a < key b) xs → AllPairs (λ a b. key a < key b) ys → ((x : X) → Contains xs x → Contains ys x) → ((x : X) → Contains ys x → Contains xs x) → xs ≡ ys
same_by_members key [] [] ascending ascending' within within' = refl
same_by_members key [] (y ∷ ys) ascending ascending' within within' = absurd (no_member y (within' y (Contains-head y ys)))
same_by_members key (x ∷ xs) [] ascending ascending' within within' = absurd (no_member x (within x (Contains-head x xs)))
same_by_members key (x ∷ xs) (y ∷ ys) ascending ascending' within within' =
    let first : x ≡ y = same_first key x y xs ys ascending ascending' (within x (Contains-head x xs)) (within' y (Contains-head y ys)) in
    let others : xs ≡ ys = same_by_members key xs ys (AllPairs-tail (λ a b. key a < key b) x xs ascending) (AllPairs-tail (λ a b. key a < key b) y ys ascending') (others_within key x y xs ys first ascending within) (others_within key y x ys xs (sym first) ascending' within') in
    ap (λ z. z ∷ xs) first ∙ ap (λ zs. y ∷ zs) others
