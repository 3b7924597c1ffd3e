-- Tallies of numbers.
use Rattle.std.proofs.Common.{◌≡◌, ℕ, zero, suc, ◌+◌, ℤ, ◌+ℤ◌, false, List, [], ◌∷◌, ◌++◌, refl, sym, inl, inr, ap, ◌∙◌, arith}
use Rattle.std.specs.Prelude.{Option, Some, None, Ok, option_map}
use Rattle.std.specs.Int.{int_max, int_min}
use Rattle.std.specs.Option.{unwrap_or}
use Rattle.std.proofs.lemmas.Bool.{cases_eq}
use Rattle.std.proofs.lemmas.Int.{clamps, ints}
use Rattle.std.proofs.lemmas.List.{append-nil, length-append}
use Rattle.cell_values.specs.declared.cell.Cell.TheVariants.{Mv}
use Rattle.region_meaning.specs.declared.area.AreaOp.{AreaOp}
use Rattle.region_meaning.specs.declared.area.AreaOp.TheVariants.{Total, Average, Minimum, Maximum, Diversity, Majority, Area}
use Rattle.area_ops.specs.declared.tally.Tally.{Tally}
use Rattle.region_meaning.specs.AreaResults.{area_result}
use Rattle.region_meaning.specs.Numbers.{greatest_of, least_of, total_of}
use Rattle.area_ops.specs.inside.Counts.{counts_numbers}
use Rattle.area_ops.specs.inside.Tallies.{IsTally, joined_by, no_tally, tally_join, number_tally, tally_result, tally_sum}

-- joined by counts
joined_by-none : (m n : ℕ) (a b : Tally) → n ≡ 0 → joined_by m n a b ≡ a
joined_by-none m zero a b e = refl
joined_by-none m (suc n) a b e = absurd (omega (arith, e))

none-joined_by : (m n : ℕ) (a b : Tally) → m ≡ 0 → (n ≡ 0 → ⊥) → joined_by m n a b ≡ b
none-joined_by m zero a b e some = absurd (some refl)
none-joined_by zero (suc n) a b e some = refl
none-joined_by (suc m) (suc n) a b e some = absurd (omega (arith, e))

joined_by-some : (m n : ℕ) (a b : Tally) → (m ≡ 0 → ⊥) → (n ≡ 0 → ⊥) → joined_by m n a b ≡ tally_sum a b
joined_by-some m zero a b f g = absurd (g refl)
joined_by-some zero (suc n) a b f g = absurd (f refl)
joined_by-some (suc m) (suc n) a b f g = refl

pub join_none : (a b : Tally) → b.count ≡ 0 → tally_join a b ≡ a
unfolding tally_join
join_none a b e = joined_by-none a.count b.count a b e

pub none_join : (a b : Tally) → a.count ≡ 0 → (b.count ≡ 0 → ⊥) → tally_join a b ≡ b
unfolding tally_join
none_join a b e some = none-joined_by a.count b.count a b e some

pub join_some : (a b : Tally) → (a.count ≡ 0 → ⊥) → (b.count ≡ 0 → ⊥) → tally_join a b ≡ tally_sum a b
unfolding tally_join
join_some a b f g = joined_by-some a.count b.count a b f g

-- how many numbers two tallies have together
count-joined_by : (m n : ℕ) (a b : Tally) → m ≡ a.count → n ≡ b.count → (joined_by m n a b).count ≡ a.count + b.count
count-joined_by m zero a b e f = omega (arith, e, f)
count-joined_by zero (suc n) a b e f = omega (arith, e, f)
count-joined_by (suc m) (suc n) a b e f = refl

pub count-tally_join : (a b : Tally) → (tally_join a b).count ≡ a.count + b.count
unfolding tally_join
count-tally_join a b = count-joined_by a.count b.count a b refl refl

-- the tally of no number, joined with a sound one
pub none_join_sound : (a : Tally) → IsTally a → tally_join no_tally a ≡ a
none_join_sound a sound = elim (cases_eq a.count 0) as (λ x. tally_join no_tally a ≡ a) [
  | inl e ↦ join_none no_tally a e ∙ sym (sound.empty e)
  | inr other ↦ none_join no_tally a refl other
]

-- a tally by its parts
pub same_tally : (t u : Tally) → t.count ≡ u.count → t.total ≡ u.total → t.least ≡ u.least → t.greatest ≡ u.greatest → t ≡ u
same_tally t u count total least greatest =
    ap (λ (x : ℕ). let r : Tally = record { count = x; total = t.total; least = t.least; greatest = t.greatest } in r) count
    ∙ (ap (λ (x : ℤ). let r : Tally = record { count = u.count; total = x; least = t.least; greatest = t.greatest } in r) total
    ∙ (ap (λ (x : ℤ). let r : Tally = record { count = u.count; total = u.total; least = x; greatest = t.greatest } in r) least
    ∙ ap (λ (x : ℤ). let r : Tally = record { count = u.count; total = u.total; least = u.least; greatest = x } in r) greatest))

-- the least of two is one of the two, whichever comes first, and three may be taken in any order
min_assoc : (x y z : ℤ) → int_min (int_min x y) z ≡ int_min x (int_min y z)
min_assoc x y z = omega (arith, ints, clamps)

max_assoc : (x y z : ℤ) → int_max (int_max x y) z ≡ int_max x (int_max y z)
max_assoc x y z = omega (arith, ints, clamps)

-- it does not matter which of three are joined first
pub tally_regroup : (a b c : Tally) → tally_join (tally_join a b) c ≡ tally_join a (tally_join b c)
tally_regroup a b c = elim (cases_eq c.count 0) as (λ x. tally_join (tally_join a b) c ≡ tally_join a (tally_join b c)) [
  | inl none ↦ join_none (tally_join a b) c none ∙ ap (tally_join a) (sym (join_none b c none))
  | inr third ↦ elim (cases_eq b.count 0) as (λ x. tally_join (tally_join a b) c ≡ tally_join a (tally_join b c)) [
    | inl none ↦ ap (λ (t : Tally). tally_join t c) (join_none a b none) ∙ ap (tally_join a) (sym (none_join b c none third))
    | inr second ↦
        let both : (tally_join b c).count ≡ 0 → ⊥ = λ e. let n = count-tally_join b c in omega (arith, e, n, second) in
        elim (cases_eq a.count 0) as (λ x. tally_join (tally_join a b) c ≡ tally_join a (tally_join b c)) [
          | inl none ↦ ap (λ (t : Tally). tally_join t c) (none_join a b none second) ∙ sym (none_join a (tally_join b c) none both)
          | inr first ↦
              let front : (tally_join a b).count ≡ 0 → ⊥ = λ e. let n = count-tally_join a b in omega (arith, e, n, second) in
              join_some (tally_join a b) c front third
              ∙ (ap (λ (t : Tally). tally_sum t c) (join_some a b first second)
              ∙ (same_tally (tally_sum (tally_sum a b) c) (tally_sum a (tally_sum b c)) (omega arith) (omega (arith, ints)) (min_assoc a.least b.least c.least) (max_assoc a.greatest b.greatest c.greatest)
              ∙ (ap (tally_sum a) (sym (join_some b c second third))
              ∙ sym (join_some a (tally_join b c) first both))))
        ]
  ]
]

-- of two lists
total_of-append : (xs ys : List ℤ) → total_of (xs ++ ys) ≡ total_of xs +ℤ total_of ys
total_of-append [] ys = omega (arith, ints)
total_of-append (x ∷ xs) ys = let e = total_of-append xs ys in omega (arith, ints)

least_of-append : (x : ℤ) (xs : List ℤ) (y : ℤ) (ys : List ℤ) → least_of x (xs ++ y ∷ ys) ≡ int_min (least_of x xs) (least_of y ys)
least_of-append x [] y ys = refl
least_of-append x (z ∷ zs) y ys = ap (int_min x) (least_of-append z zs y ys) ∙ sym (min_assoc x (least_of z zs) (least_of y ys))

greatest_of-append : (x : ℤ) (xs : List ℤ) (y : ℤ) (ys : List ℤ) → greatest_of x (xs ++ y ∷ ys) ≡ int_max (greatest_of x xs) (greatest_of y ys)
greatest_of-append x [] y ys = refl
greatest_of-append x (z ∷ zs) y ys = ap (int_max x) (greatest_of-append z zs y ys) ∙ sym (max_assoc x (greatest_of z zs) (greatest_of y ys))

-- the tally of two lists is that of both, joined
pub number_tally-append : (xs ys : List ℤ) → number_tally (xs ++ ys) ≡ tally_join (number_tally xs) (number_tally ys)
unfolding number_tally tally_join
number_tally-append [] [] = refl
number_tally-append [] (y ∷ ys) = refl
number_tally-append (x ∷ xs) [] = ap (λ (zs : List ℤ). number_tally (x ∷ zs)) (append-nil xs)
number_tally-append (x ∷ xs) (y ∷ ys) = same_tally _ _ (length-append (x ∷ xs) (y ∷ ys)) (total_of-append (x ∷ xs) (y ∷ ys)) (least_of-append x xs y ys) (greatest_of-append x xs y ys)

-- what an operation gives of numbers is what it gives of their tally
pub result_of_tally : (op : AreaOp) (xs : List ℤ) → counts_numbers op ≡ false → area_result op xs ≡ tally_result op (number_tally xs)
unfolding area_result number_tally tally_result
result_of_tally Total [] plain = refl
result_of_tally Average [] plain = refl
result_of_tally Minimum [] plain = refl
result_of_tally Maximum [] plain = refl
result_of_tally Diversity xs plain = absurd cc
result_of_tally Majority xs plain = absurd cc
result_of_tally Area [] plain = refl
result_of_tally Total (x ∷ xs) plain = refl
result_of_tally Average (x ∷ xs) plain = refl
result_of_tally Minimum (x ∷ xs) plain = refl
result_of_tally Maximum (x ∷ xs) plain = refl
result_of_tally Area (x ∷ xs) plain = refl

-- what the tally that was found gives, or a missing value
pub result_of_found : (op : AreaOp) (o : Option Tally) → unwrap_or (option_map (tally_result op) o) (Ok Mv) ≡ tally_result op (unwrap_or o no_tally)
unfolding tally_result
result_of_found op None = refl
result_of_found op (Some t) = refl

-- two sound tallies give a sound one
sound-joined_by : (m n : ℕ) (a b : Tally) → m ≡ a.count → n ≡ b.count → IsTally a → IsTally b → IsTally (joined_by m n a b)
sound-joined_by m zero a b e f s t = s
sound-joined_by zero (suc n) a b e f s t = t
sound-joined_by (suc m) (suc n) a b e f s t = record {
  bounded = let p = s.bounded in let q = t.bounded in omega (arith, ints);
  empty = λ h. absurd (omega (arith, h, e, f));
}

pub sound-tally_join : (a b : Tally) → IsTally a → IsTally b → IsTally (tally_join a b)
unfolding tally_join
sound-tally_join a b s t = sound-joined_by a.count b.count a b refl refl s t

pub sound-no_tally : IsTally no_tally
sound-no_tally = record { bounded = omega (arith, ints); empty = λ h. refl }
