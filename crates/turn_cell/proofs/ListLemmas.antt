-- Lists: sums over views, places, and prefixes.
use Rattle.std.proofs.Common.{◌≡◌, ℕ, zero, suc, ◌+◌, ◌<◌, ◌≤◌, ◌≢◌, ◌⊎◌, Bool, true, false, nat_le, if◌then◌else◌, List, [], ◌∷◌, ◌++◌, length, set}
use Rattle.std.proofs.Common.{refl, sym, ap, subst, ◌∙◌, inl, inr, arith, append_assoc, append-nil, length-append, le_of_lt, lt_of_not-le}
use Rattle.std.proofs.lemmas.Bool.Decides.{nat_tests}
use mathlib.Core.Option.{some, some-injective, some-ne-none}
use mathlib.Core.Logic.{dite}
use mathlib.Core.List.{IsPrefix}
use native.Mathlib.Decide.{dec_le}
use lib.ListN.{get_elem?}
use Rattle.turn_cell.specs.Histories.{longer}
use Rattle.turn_cell.specs.inside.Ruled.{sum_over}

module _ {A : Type 0} where
  -- a place with a value is inside the list
  pub inside_of : (l : List A) (i : ℕ) (a : A) → get_elem? l i ≡ some a → i < length l
  inside_of [] i a e = absurd (some-ne-none a (sym e))
  inside_of (x ∷ xs) zero a e = omega arith
  inside_of (x ∷ xs) (suc i) a e = let h = inside_of xs i a e in omega arith

  -- the one element of a list
  pub alone_at : (F : A → Type 0) (x y : A) (j : ℕ) → get_elem? (x ∷ []) j ≡ some y → F x → F y
  alone_at F x y zero e h = subst F (some-injective x y e) h
  alone_at F x y (suc j) e h = absurd (some-ne-none y (sym e))

  -- the sum after one view changed
  pub sum_set : (f : A → ℕ) (vs : List A) (i : ℕ) (v w : A) → get_elem? vs i ≡ some v → sum_over f (set vs i w) + f v ≡ sum_over f vs + f w
  sum_set f [] i v w e = absurd (some-ne-none v (sym e))
  sum_set f (x ∷ xs) zero v w e = let h : f x ≡ f v = ap f (some-injective x v e) in omega arith
  sum_set f (x ∷ xs) (suc i) v w e = let h = sum_set f xs i v w e in omega arith

  -- the sum with one more view
  pub sum_snoc : (f : A → ℕ) (vs : List A) (w : A) → sum_over f (vs ++ w ∷ []) ≡ sum_over f vs + f w
  sum_snoc f [] w = omega arith
  sum_snoc f (x ∷ xs) w = let h = sum_snoc f xs w in omega arith

  -- one view has at most the sum
  pub sum_one : (f : A → ℕ) (vs : List A) (i : ℕ) (v : A) → get_elem? vs i ≡ some v → f v ≤ sum_over f vs
  sum_one f [] i v e = absurd (some-ne-none v (sym e))
  sum_one f (x ∷ xs) zero v e = let h : f x ≡ f v = ap f (some-injective x v e) in omega arith
  sum_one f (x ∷ xs) (suc i) v e = let h = sum_one f xs i v e in omega arith

  -- and two have together
  pub sum_two : (f : A → ℕ) (vs : List A) (i j : ℕ) (v w : A) → get_elem? vs i ≡ some v → get_elem? vs j ≡ some w → i ≢ j → f v + f w ≤ sum_over f vs
  sum_two f [] i j v w e g n = absurd (some-ne-none v (sym e))
  sum_two f (x ∷ xs) zero zero v w e g n = absurd (n refl)
  sum_two f (x ∷ xs) zero (suc j) v w e g n = let h : f x ≡ f v = ap f (some-injective x v e) in let k = sum_one f xs j w g in omega arith
  sum_two f (x ∷ xs) (suc i) zero v w e g n = let h : f x ≡ f w = ap f (some-injective x w g) in let k = sum_one f xs i v e in omega arith
  sum_two f (x ∷ xs) (suc i) (suc j) v w e g n = let h = sum_two f xs i j v w e g (λ p. n (ap suc p)) in omega arith

  pub prefix_refl : (xs : List A) → IsPrefix xs xs
  prefix_refl xs = ([], append-nil xs)

  abbrev pub prefix_trans : (xs ys zs : List A) → IsPrefix xs ys → IsPrefix ys zs → IsPrefix xs zs
  prefix_trans xs ys zs p q = (p.0 ++ q.0, sym (append_assoc xs p.0 q.0) ∙ (ap (λ (l : List A). l ++ q.0) p.1 ∙ q.1))

  -- of two prefixes of one list the shorter is one of the longer
  pub prefix_shorter : (xs ys log : List A) → IsPrefix xs log → IsPrefix ys log → length xs ≤ length ys → IsPrefix xs ys
  prefix_shorter [] ys log p q h = (ys, refl)
  prefix_shorter (x ∷ xs) [] log p q h = absurd (omega arith)
  prefix_shorter (x ∷ xs) (y ∷ ys) [] p q h = let e : x ∷ (xs ++ p.0) ≡ [] = p.1 in cc
  prefix_shorter (x ∷ xs) (y ∷ ys) (z ∷ log) p q h =
      let e : x ∷ (xs ++ p.0) ≡ z ∷ log = p.1 in
      let g : y ∷ (ys ++ q.0) ≡ z ∷ log = q.1 in
      let e' : xs ++ p.0 ≡ log = cc in
      let g' : ys ++ q.0 ≡ log = cc in
      let r = prefix_shorter xs ys log (p.0, e') (q.0, g') (omega arith) in
      let k : xs ++ r.0 ≡ ys = r.1 in
      let same : x ∷ (xs ++ r.0) ≡ y ∷ ys = cc in (
        r.0,
        same,
      )

  -- a prefix that is as long is the whole
  pub prefix_whole : (xs ys : List A) → IsPrefix xs ys → length ys ≤ length xs → xs ≡ ys
  prefix_whole [] [] p h = refl
  prefix_whole [] (y ∷ ys) p h = absurd (omega arith)
  prefix_whole (x ∷ xs) [] p h = let e : x ∷ (xs ++ p.0) ≡ [] = p.1 in cc
  prefix_whole (x ∷ xs) (y ∷ ys) p h =
      let e : x ∷ (xs ++ p.0) ≡ y ∷ ys = p.1 in
      let t : xs ++ p.0 ≡ ys = cc in
      let r = prefix_whole xs ys (p.0, t) (omega arith) in
      cc

  -- the longer of two lists is one of them
  pub longer_cases : (xs ys : List A) → ((length xs ≤ length ys) × (longer xs ys ≡ ys)) ⊎ ((length ys ≤ length xs) × (longer xs ys ≡ xs))
  longer_cases xs ys =
      dite (dec_le (length xs) (length ys))
      (λ h. let t : nat_le (length xs) (length ys) ≡ true = grind (arith, nat_tests) in inl (h, ap (λ (b : Bool). if b then ys else xs) t))
      (λ n. let l = lt_of_not-le n in let t : nat_le (length xs) (length ys) ≡ false = grind (arith, nat_tests) in inr (omega arith, ap (λ (b : Bool). if b then ys else xs) t))

  -- the longer of two prefixes of one list begins with both, and is a prefix of that list
  pub longer_prefix : (xs ys log : List A) → IsPrefix xs log → IsPrefix ys log → IsPrefix xs (longer xs ys) × IsPrefix ys (longer xs ys) × IsPrefix (longer xs ys) log
  longer_prefix xs ys log p q =
      let P : List A → Type 0 = λ l. IsPrefix xs l × IsPrefix ys l × IsPrefix l log in
      elim (longer_cases xs ys) [
        | inl t ↦ subst P (sym t.1) (prefix_shorter xs ys log p q t.0, prefix_refl ys, q)
        | inr t ↦ subst P (sym t.1) (prefix_refl xs, prefix_shorter ys xs log q p t.0, p)
      ]
