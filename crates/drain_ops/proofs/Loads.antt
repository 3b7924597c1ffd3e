-- How many cells have passed their flow on to a cell, directly or not.
use Rattle.std.proofs.Common.{◌≡◌, inl, inr, ℕ, ◌+◌, ◌<◌, ◌≤◌, List, [], ◌∷◌, length, refl, sym, subst, arith, true, false}
use Rattle.std.specs.Prelude.{if◌then◌else◌}
use Rattle.std.specs.List.{AllByRecursion, Contains, IsDistinct}
use Rattle.std.proofs.Math.Dec.{eqb}
use Rattle.std.proofs.lemmas.Bool.{eq-eqb, eqb-true}
use Rattle.std.proofs.lemmas.Bool.Decides.{eqb_tells}
use Rattle.std.proofs.lemmas.Map.Steps.{length-le_from_distinct_below}
use Rattle.std.proofs.lemmas.Map.Views.{Contains-from_any}
use Rattle.drain_meaning.specs.declared.next.Next.{Next}
use Rattle.drain_meaning.specs.declared.next.Next.TheVariants as next
use Rattle.drain_meaning.specs.Drains.{DrainMap, next_at}
use Rattle.drain_meaning.specs.Transports.{drains_into}
use Rattle.drain_meaning.proofs.Callers.{contains_cases, contains_first, contains_later, drains_tells}
use Rattle.drain_ops.proofs.Gathered.{IsApart}

-- how many of the cells that were passed, the first one last, have passed their flow on to d
abbrev pub loads : DrainMap → List ℕ → ℕ → ℕ
loads drains [] d = 0
loads drains (c ∷ done) d = loads drains done d + (if drains_into d (next_at drains c) then loads drains done c + 1 else 0)

pub drains_true : (m : Next) (c : ℕ) → m ≡ next.Cell c → drains_into c m ≡ true
drains_true m c e = subst (λ (y : Next). drains_into c y ≡ true) (sym e) (eq-eqb c c refl)

pub loads_same : (drains : DrainMap) (done : List ℕ) (c d : ℕ) → next_at drains c ≡ next.Cell d → loads drains (c ∷ done) d ≡ loads drains done d + (loads drains done c + 1)
loads_same drains done c d e = rw (drains_true (next_at drains c) d e)

pub loads_other : (drains : DrainMap) (done : List ℕ) (c d : ℕ) → drains_into d (next_at drains c) ≡ false → loads drains (c ∷ done) d ≡ loads drains done d
loads_other drains done c d e = rw e (omega arith)

-- the loads of several cells
abbrev pub load_sum : DrainMap → List ℕ → List ℕ → ℕ
load_sum drains done [] = 0
load_sum drains done (u ∷ us) = loads drains done u + load_sum drains done us

sum_other : (drains : DrainMap) (done : List ℕ) (c : ℕ) (us : List ℕ) → ((u : ℕ) → Contains us u → drains_into u (next_at drains c) ≡ false) → load_sum drains (c ∷ done) us ≡ load_sum drains done us
sum_other drains done c [] e = refl
sum_other drains done c (u ∷ us) e =
    let one = loads_other drains done c u (e u (contains_first u us)) in
    let rest = sum_other drains done c us (λ v h. e v (contains_later u us v h)) in
    omega (arith, one, rest)

sum_one : (drains : DrainMap) (done : List ℕ) (c : ℕ) (us : List ℕ) → IsApart us → load_sum drains (c ∷ done) us ≤ load_sum drains done us + (loads drains done c + 1)
sum_one drains done c [] apart = omega arith
sum_one drains done c (u ∷ us) apart = elim (drains_tells (next_at drains c) u) as (λ _. load_sum drains (c ∷ done) (u ∷ us) ≤ load_sum drains done (u ∷ us) + (loads drains done c + 1)) [
  | inl b ↦
      let one = loads_same drains done c u b in
      let rest = sum_other drains done c us (λ v h. elim (drains_tells (next_at drains c) v) as (λ _. drains_into v (next_at drains c) ≡ false) [
        | inl k ↦ let same : u ≡ v = cc (b, k) in absurd (apart.0 (subst (λ (y : ℕ). Contains us y) (sym same) h))
        | inr k ↦ k
      ]) in
      omega (arith, one, rest)
  | inr b ↦
      let one = loads_other drains done c u b in
      let rest = sum_one drains done c us apart.1 in
      omega (arith, one, rest)
]

-- Cells that have not passed their flow on have together no more than those that have.
pub few_loads : (drains : DrainMap) (done us : List ℕ) → IsApart done → IsApart us → ((u : ℕ) → Contains us u → Contains done u → ⊥) → load_sum drains done us ≤ length done
few_loads drains [] [] one two out = omega arith
few_loads drains [] (u ∷ us) one two out = let rest = few_loads drains [] us one two.1 (λ v h. out v (contains_later u us v h)) in omega (arith, rest)
few_loads drains (c ∷ done) us one two out =
    let step = sum_one drains done c us two in
    let rest = few_loads drains done (c ∷ us) one.1 ((λ h. out c h (contains_first c done)), two)
    (λ v h k. elim (contains_cases c us v h) as (λ _. ⊥) [ inl b ↦ one.0 (subst (λ (y : ℕ). Contains done y) b k) | inr b ↦ out v b (contains_later c done v k) ]) in
    omega (arith, step, rest)

none_equal : (x : ℕ) (ys : List ℕ) → (Contains ys x → ⊥) → AllByRecursion (λ y. eqb x y ≡ false) ys
none_equal x [] e = tt
none_equal x (y ∷ ys) e = (
  elim (eqb_tells x y) as (λ _. eqb x y ≡ false) [ inl b ↦ absurd (e (subst (λ (z : ℕ). Contains (y ∷ ys) z) (sym b.1) (contains_first y ys))) | inr b ↦ b.0 ],
  none_equal x ys (λ h. e (contains_later y ys x h)),
)

distinct_of_apart : (xs : List ℕ) → IsApart xs → IsDistinct eqb xs
unfolding IsDistinct
distinct_of_apart [] e = tt
distinct_of_apart (x ∷ xs) e = (none_equal x xs e.0, distinct_of_apart xs e.1)

-- There are no more places that stand once and are below a number than that number.
pub few_places : (xs : List ℕ) (n : ℕ) → IsApart xs → ((u : ℕ) → Contains xs u → u < n) → length xs ≤ n
few_places xs n apart low = length-le_from_distinct_below xs n (distinct_of_apart xs apart) (λ q h. low q (Contains-from_any eqb-true q xs h))
