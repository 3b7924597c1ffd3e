-- The columns of a time series ascend, and are the positive ids.
use Rattle.std.proofs.Common.{◌≡◌, ◌⊎◌, inl, inr, ℕ, zero, suc, ◌<◌, Bool, true, false, cond, pos, negsuc, List, [], ◌∷◌, length, refl, sym, ap, subst, ◌∙◌, arith}
use Rattle.std.specs.Prelude.{◌==◌, All, AllPairs, Contains, nat_lt, slice_index_or}
use Rattle.std.proofs.lemmas.Bool.Decides.{nat_tests}
use Rattle.std.proofs.lemmas.List.Kept.{AllPairs-cons}
use Rattle.std.proofs.lemmas.List.Elements.{All-cons, All-nil}
use Rattle.cell_values.specs.declared.cell.Cell.{Cell}
use Rattle.cell_values.specs.declared.cell.Cell.TheVariants.{Mv, Val}
use Rattle.run_session.specs.Laws.{ColumnsAreIds, HasId}
use Rattle.run_session.specs.Samples.{ascending, id_columns, ids_in, with_number}
use Rattle.run_session.proofs.Columns.{AscendAbove, Compared, IsLess, IsMore, IsSame, ascend_with, compared}

-- ---- membership

-- an item is one of a list
abbrev pub In : {X : Type 0} → X → List X → Type 0
In x [] = ⊥
In x (y ∷ ys) = (x ≡ y) ⊎ In x ys

pub contains_in : {X : Type 0} (ys : List X) (x : X) → Contains ys x → In x ys
contains_in [] x c = absurd (omega (arith, c.1))
contains_in (y ∷ ys) x c = by (λ c. contains_in ys x c) c.0 c.1 c.2
  where
    by : (Contains ys x → In x ys) → (k : ℕ) → k < suc (length ys) → slice_index_or (y ∷ ys) k x ≡ x → In x (y ∷ ys)
    by rest zero within is = inl (sym is)
    by rest (suc k) within is = inr (rest (k, omega (arith, within), is))

in_contains : {X : Type 0} (ys : List X) (x : X) → In x ys → Contains ys x
in_contains [] x is = absurd is
in_contains (y ∷ ys) x (inl is) = (0, omega arith, sym is)
in_contains (y ∷ ys) x (inr later) = let c = in_contains ys x later in (suc c.0, omega (arith, c.1), c.2)

-- what holds of each item holds of all
all_in : {X : Type 0} (P : X → Type 0) (ys : List X) → ((x : X) → In x ys → P x) → All P ys
all_in P [] each = All-nil P
all_in P (y ∷ ys) each = All-cons P y ys (each y (inl refl)) (all_in P ys (λ x is. each x (inr is)))

-- ---- the numbers in order

-- a number among others
with_in : (m n : ℕ) (xs : List ℕ) → (m ≡ n) ⊎ In m xs → In m (with_number n xs)
with_in m n [] is = is
with_in m n (x ∷ xs) is = by (λ h. with_in m n xs h) (compared n x) is
  where
    by : ((m ≡ n) ⊎ In m xs → In m (with_number n xs)) → Compared n x → (m ≡ n) ⊎ ((m ≡ x) ⊎ In m xs) → In m (cond (nat_lt n x) (n ∷ x ∷ xs) (cond (n == x) (x ∷ xs) (x ∷ with_number n xs)))
    by rest (IsLess less below) is = subst (λ t. In m (cond t (n ∷ x ∷ xs) (cond (n == x) (x ∷ xs) (x ∷ with_number n xs)))) (sym less) is
    by rest (IsSame less same e) (inl is) = subst (λ t. In m (cond t (n ∷ x ∷ xs) (cond (n == x) (x ∷ xs) (x ∷ with_number n xs)))) (sym less) (subst (λ t. In m (cond t (x ∷ xs) (x ∷ with_number n xs))) (sym same) (inl (is ∙ e)))
    by rest (IsSame less same e) (inr is) = subst (λ t. In m (cond t (n ∷ x ∷ xs) (cond (n == x) (x ∷ xs) (x ∷ with_number n xs)))) (sym less) (subst (λ t. In m (cond t (x ∷ xs) (x ∷ with_number n xs))) (sym same) is)
    by rest (IsMore less same more below) (inl is) = subst (λ t. In m (cond t (n ∷ x ∷ xs) (cond (n == x) (x ∷ xs) (x ∷ with_number n xs)))) (sym less) (subst (λ t. In m (cond t (x ∷ xs) (x ∷ with_number n xs))) (sym same) (inr (rest (inl is))))
    by rest (IsMore less same more below) (inr (inl is)) = subst (λ t. In m (cond t (n ∷ x ∷ xs) (cond (n == x) (x ∷ xs) (x ∷ with_number n xs)))) (sym less) (subst (λ t. In m (cond t (x ∷ xs) (x ∷ with_number n xs))) (sym same) (inl is))
    by rest (IsMore less same more below) (inr (inr is)) = subst (λ t. In m (cond t (n ∷ x ∷ xs) (cond (n == x) (x ∷ xs) (x ∷ with_number n xs)))) (sym less) (subst (λ t. In m (cond t (x ∷ xs) (x ∷ with_number n xs))) (sym same) (inr (rest (inr is))))

in_with : (m n : ℕ) (xs : List ℕ) → In m (with_number n xs) → (m ≡ n) ⊎ In m xs
in_with m n [] is = is
in_with m n (x ∷ xs) is = by (λ h. in_with m n xs h) (compared n x) is
  where
    moved : (m ≡ n) ⊎ In m xs → (m ≡ n) ⊎ ((m ≡ x) ⊎ In m xs)
    moved (inl is) = inl is
    moved (inr is) = inr (inr is)

    later : (In m (with_number n xs) → (m ≡ n) ⊎ In m xs) → (m ≡ x) ⊎ In m (with_number n xs) → (m ≡ n) ⊎ ((m ≡ x) ⊎ In m xs)
    later rest (inl is) = inr (inl is)
    later rest (inr is) = moved (rest is)

    by : (In m (with_number n xs) → (m ≡ n) ⊎ In m xs) → Compared n x → In m (cond (nat_lt n x) (n ∷ x ∷ xs) (cond (n == x) (x ∷ xs) (x ∷ with_number n xs))) → (m ≡ n) ⊎ ((m ≡ x) ⊎ In m xs)
    by rest (IsLess less below) is = subst (λ t. In m (cond t (n ∷ x ∷ xs) (cond (n == x) (x ∷ xs) (x ∷ with_number n xs)))) less is
    by rest (IsSame less same e) is = inr (subst (λ t. In m (cond t (x ∷ xs) (x ∷ with_number n xs))) same (subst (λ t. In m (cond t (n ∷ x ∷ xs) (cond (n == x) (x ∷ xs) (x ∷ with_number n xs)))) less is))
    by rest (IsMore less same more below) is = later rest (subst (λ t. In m (cond t (x ∷ xs) (x ∷ with_number n xs))) same (subst (λ t. In m (cond t (n ∷ x ∷ xs) (cond (n == x) (x ∷ xs) (x ∷ with_number n xs)))) less is))

ascending_in : (m : ℕ) (ns : List ℕ) → In m ns → In m (ascending ns)
ascending_in m [] is = is
ascending_in m (n ∷ ns) (inl is) = with_in m n (ascending ns) (inl is)
ascending_in m (n ∷ ns) (inr is) = with_in m n (ascending ns) (inr (ascending_in m ns is))

in_ascending : (m : ℕ) (ns : List ℕ) → In m (ascending ns) → In m ns
in_ascending m [] is = is
in_ascending m (n ∷ ns) is = by (λ h. in_ascending m ns h) (in_with m n (ascending ns) is)
  where
    by : (In m (ascending ns) → In m ns) → (m ≡ n) ⊎ In m (ascending ns) → In m (n ∷ ns)
    by rest (inl is) = inl is
    by rest (inr is) = inr (rest is)

-- they ascend
ascends : (b : ℕ) (ns : List ℕ) → ((n : ℕ) → In n ns → b < n) → AscendAbove b (ascending ns)
ascends b [] above = tt
ascends b (n ∷ ns) above = ascend_with b n (ascending ns) (above n (inl refl)) (ascends b ns (λ m is. above m (inr is)))

-- numbers above one
above_all : (b : ℕ) (xs : List ℕ) → AscendAbove b xs → (n : ℕ) → In n xs → b < n
above_all b [] up n is = absurd is
above_all b (x ∷ xs) up n (inl is) = subst (λ k. b < k) (sym is) up.0
above_all b (x ∷ xs) up n (inr is) = let above = above_all x xs up.1 n is in omega (arith, above, up.0)

pairs : (b : ℕ) (xs : List ℕ) → AscendAbove b xs → AllPairs (λ m n. m < n) xs
pairs b [] up = λ i j d below within. absurd (omega (arith, within))
pairs b (x ∷ xs) up = AllPairs-cons (λ m n. m < n) x xs (all_in (λ n. x < n) xs (above_all x xs up.1)) (pairs x xs up.1)

-- ---- the ids

ids_are : (m : ℕ) (ids : List Cell) → In m (ids_in ids) → (0 < m) × In (Val (pos m)) ids
ids_are m [] is = absurd is
ids_are m (Mv ∷ ids) is = let more = ids_are m ids is in (more.0, inr more.1)
ids_are m (Val (negsuc n) ∷ ids) is = let more = ids_are m ids is in (more.0, inr more.1)
ids_are m (Val (pos n) ∷ ids) is = by (λ h. ids_are m ids h) (nat_lt 0 n) refl is
  where
    by : (In m (ids_in ids) → (0 < m) × In (Val (pos m)) ids) → (t : Bool) → nat_lt 0 n ≡ t → In m (cond t (n ∷ ids_in ids) (ids_in ids)) → (0 < m) × In (Val (pos m)) (Val (pos n) ∷ ids)
    by rest true e (inl is) = let up : 0 < n = grind (arith, nat_tests, e) in (subst (λ k. 0 < k) (sym is) up, inl (ap (λ k. Val (pos k)) is))
    by rest true e (inr is) = let more = rest is in (more.0, inr more.1)
    by rest false e is = let more = rest is in (more.0, inr more.1)

are_ids : (m : ℕ) → 0 < m → (ids : List Cell) → In (Val (pos m)) ids → In m (ids_in ids)
are_ids m up [] is = absurd is
are_ids m up (Mv ∷ ids) (inl is) = absurd (cc)
are_ids m up (Mv ∷ ids) (inr is) = are_ids m up ids is
are_ids m up (Val (negsuc n) ∷ ids) (inl is) = absurd (cc)
are_ids m up (Val (negsuc n) ∷ ids) (inr is) = are_ids m up ids is
are_ids m up (Val (pos n) ∷ ids) is = by (λ h. are_ids m up ids h) (nat_lt 0 n) refl is
  where
    by : (In (Val (pos m)) ids → In m (ids_in ids)) → (t : Bool) → nat_lt 0 n ≡ t → (Val (pos m) ≡ Val (pos n)) ⊎ In (Val (pos m)) ids → In m (cond t (n ∷ ids_in ids) (ids_in ids))
    by rest true e (inl is) = let same : m ≡ n = cc in inl same
    by rest true e (inr is) = inr (rest is)
    by rest false e (inl is) = let same : m ≡ n = cc in absurd (let low : nat_lt 0 m ≡ false = ap (nat_lt 0) same ∙ e in let contra : ⊥ = grind (arith, nat_tests, low, up) in contra)
    by rest false e (inr is) = rest is

-- the columns of a time series are those of its ids
pub columns_are_ids : ColumnsAreIds
unfolding id_columns
columns_are_ids ids = record {
  ascend = pairs 0 (ascending (ids_in ids)) (ascends 0 (ids_in ids) (λ n is. (ids_are n ids is).0));
  only = all_in (λ n. (0 < n) × HasId ids n) (ascending (ids_in ids)) (λ n is. let id = ids_are n ids (in_ascending n (ids_in ids) is) in (id.0, in_contains ids (Val (pos n)) id.1));
  all = λ n up has. in_contains (ascending (ids_in ids)) n (ascending_in n (ids_in ids) (are_ids n up ids (contains_in ids (Val (pos n)) has)));
}
