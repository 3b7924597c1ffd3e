-- Places in another order, and maps as one area.
use Rattle.std.proofs.Common.{◌≡◌, ℕ, zero, suc, ◌<◌, ℤ, pos, negsuc, Bool, true, false, ◌⊎◌, inl, inr, List, [], ◌∷◌, ◌++◌, length, refl, sym, ap, ◌∙◌, arith}
use Rattle.std.specs.Prelude.{◌≤ℤ◌, ◌-ℤ◌, Option, Some, None, if◌then◌else◌}
use Rattle.std.specs.Int.{int_max, int_min}
use Rattle.std.specs.List.{filter_map, sum_by}
use Rattle.std.specs.List.Sorted.{IsPermutation}
use Rattle.std.specs.Ordering.{int_eq}
use Rattle.std.proofs.lemmas.Int.{clamps, ints}
use Rattle.std.proofs.lemmas.List.Elements.{filter_map-append}
use Rattle.std.proofs.lemmas.List.Sorted.{length_permutation, sum_by-IsPermutation}
use Rattle.std.proofs.lemmas.List.Sums.{sum_by-append, sum_by-cons}
use Rattle.cell_values.specs.declared.cell.Cell.{Cell}
use Rattle.cell_values.specs.declared.cell.Cell.TheVariants.{Mv, Val}
use Rattle.tile_map.specs.declared.arg.Arg.TheVariants.{One}
use Rattle.tile_map.specs.Args.{arg_cell}
use Rattle.tile_map.specs.Parts.{tabulate}
use Rattle.region_meaning.specs.declared.area.AreaOp.{AreaOp}
use Rattle.region_meaning.specs.Areas.{AreaPlace, area_places, numbers_of, taken, taken_by_class}
use Rattle.region_meaning.specs.Numbers.{occurrences}
use Rattle.area_ops.specs.Laws.{MapIsOneArea, OrderDoesNotMatter}
use Rattle.region_meaning.specs.AreaResults.{area_outcome, area_result}
use Rattle.region_meaning.specs.Numbers.{greatest_of, least_of, total_of}
use Rattle.area_ops.specs.inside.Counts.{counts_numbers}
use Rattle.area_ops.specs.inside.Tallies.{number_tally, tally_result}
use Rattle.area_ops.proofs.LeaderLemmas.{same_result}
use Rattle.region_meaning.proofs.Callers.{int_eq-same, occurs_at_front, occurs_behind, occurs_more}
use Rattle.area_ops.proofs.TallyLemmas.{result_of_tally, same_tally}

-- ---- sums over the numbers of a class are sums over places

-- lists over which each function has the same sum
record AreAlike (xs ys : List ℤ) : Type 0 where
  sums : (f : ℤ → ℕ) → sum_by f xs ≡ sum_by f ys

abbrev term : (ℤ → ℕ) → Option ℤ → ℕ
term f None = 0
term f (Some x) = f x

one_term : (f : ℤ → ℕ) (o : Option ℤ) → sum_by f (filter_map (λ (x : Option ℤ). x) (o ∷ [])) ≡ term f o
one_term f None = refl
one_term f (Some x) = let e = sum_by-cons f x [] in omega (arith, e)

sum_of_numbers : (f : ℤ → ℕ) (op : AreaOp) (places : List AreaPlace) (class : ℤ) →
    sum_by f (numbers_of op places class) ≡ sum_by (λ (p : AreaPlace). term f (taken_by_class op class p.value p.area)) places
sum_of_numbers f op [] class = refl
sum_of_numbers f op (p ∷ ps) class =
    let a = ap (sum_by f) (filter_map-append (λ (q : AreaPlace). taken_by_class op class q.value q.area) (p ∷ []) ps) in
    let b = sum_by-append f (numbers_of op (p ∷ []) class) (numbers_of op ps class) in
    let c = one_term f (taken_by_class op class p.value p.area) in
    let d = sum_of_numbers f op ps class in
    let e = sum_by-cons (λ (q : AreaPlace). term f (taken_by_class op class q.value q.area)) p ps in
    omega (arith, a, b, c, d, e)

alike_in_order : (op : AreaOp) (xs ys : List AreaPlace) (class : ℤ) → IsPermutation xs ys → AreAlike (numbers_of op xs class) (numbers_of op ys class)
alike_in_order op xs ys class same = record {
  sums = λ f.
      sum_of_numbers f op xs class
      ∙ (sym (sum_by-IsPermutation (λ (p : AreaPlace). term f (taken_by_class op class p.value p.area)) xs ys same)
      ∙ sym (sum_of_numbers f op ys class));
}

-- ---- what lists have in common over which each function has the same sum

length_as_sum : (xs : List ℤ) → length xs ≡ sum_by (λ (x : ℤ). 1) xs
length_as_sum [] = refl
length_as_sum (x ∷ xs) = let e = length_as_sum xs in let c = sum_by-cons (λ (y : ℤ). 1) x xs in omega (arith, e, c)

same_length : (xs ys : List ℤ) → AreAlike xs ys → length xs ≡ length ys
same_length xs ys same = length_as_sum xs ∙ (same.sums (λ x. 1) ∙ sym (length_as_sum ys))

abbrev above_zero : ℤ → ℕ
above_zero (pos n) = n
above_zero (negsuc n) = 0

abbrev below_zero : ℤ → ℕ
below_zero (pos n) = 0
below_zero (negsuc n) = suc n

of_both_parts : (x : ℤ) → x ≡ pos (above_zero x) -ℤ pos (below_zero x)
of_both_parts (pos n) = omega (arith, ints)
of_both_parts (negsuc n) = omega (arith, ints)

total_as_sums : (xs : List ℤ) → total_of xs ≡ pos (sum_by above_zero xs) -ℤ pos (sum_by below_zero xs)
total_as_sums [] = refl
total_as_sums (x ∷ xs) =
    let e = total_as_sums xs in let p = of_both_parts x in
    let a = sum_by-cons above_zero x xs in let b = sum_by-cons below_zero x xs in
    omega (arith, ints, e, p, a, b)

same_total : (xs ys : List ℤ) → AreAlike xs ys → total_of xs ≡ total_of ys
same_total xs ys same =
    let p = total_as_sums xs in let q = total_as_sums ys in
    let a = same.sums above_zero in let b = same.sums below_zero in
    omega (arith, ints, p, q, a, b)

same_occurrences : (xs ys : List ℤ) → AreAlike xs ys → (w : ℤ) → occurrences xs w ≡ occurrences ys w
same_occurrences xs ys same w = same.sums (λ (x : ℤ). if int_eq x w then 1 else 0)

-- the least of a list is a number of it that is at most each other one
record IsLeast (xs : List ℤ) (m : ℤ) : Type 0 where
  occurs : 0 < occurrences xs m
  least : (w : ℤ) → 0 < occurrences xs w → m ≤ℤ w

record IsGreatest (xs : List ℤ) (m : ℤ) : Type 0 where
  occurs : 0 < occurrences xs m
  greatest : (w : ℤ) → 0 < occurrences xs w → w ≤ℤ m

one_of_min : (x y : ℤ) → (int_min x y ≡ x) ⊎ (int_min x y ≡ y)
one_of_min x y = grind (arith, ints, clamps)

one_of_max : (x y : ℤ) → (int_max x y ≡ x) ⊎ (int_max x y ≡ y)
one_of_max x y = grind (arith, ints, clamps)

nothing_behind : (x w : ℤ) → 0 < occurrences (x ∷ []) w → x ≡ w
nothing_behind x w some = elim (occurs_behind x w [] some) [ inl same ↦ same | inr none ↦ absurd (omega (arith, none)) ]

least_with : (x : ℤ) (xs : List ℤ) (m : ℤ) → IsLeast xs m → IsLeast (x ∷ xs) (int_min x m)
least_with x xs m is = record {
  occurs = elim (one_of_min x m) [
    | inl e ↦ let a = occurs_at_front x xs in let b = ap (occurrences (x ∷ xs)) e in omega (arith, a, b)
    | inr e ↦ let a = occurs_more x m xs is.occurs in let b = ap (occurrences (x ∷ xs)) e in omega (arith, a, b)
  ];
  least = λ w some. elim (occurs_behind x w xs some) [
    | inl same ↦ omega (arith, ints, clamps, same)
    | inr behind ↦ let a = is.least w behind in omega (arith, ints, clamps, a)
  ];
}

greatest_with : (x : ℤ) (xs : List ℤ) (m : ℤ) → IsGreatest xs m → IsGreatest (x ∷ xs) (int_max x m)
greatest_with x xs m is = record {
  occurs = elim (one_of_max x m) [
    | inl e ↦ let a = occurs_at_front x xs in let b = ap (occurrences (x ∷ xs)) e in omega (arith, a, b)
    | inr e ↦ let a = occurs_more x m xs is.occurs in let b = ap (occurrences (x ∷ xs)) e in omega (arith, a, b)
  ];
  greatest = λ w some. elim (occurs_behind x w xs some) [
    | inl same ↦ omega (arith, ints, clamps, same)
    | inr behind ↦ let a = is.greatest w behind in omega (arith, ints, clamps, a)
  ];
}

least : (x : ℤ) (xs : List ℤ) → IsLeast (x ∷ xs) (least_of x xs)
least x [] = record { occurs = occurs_at_front x []; least = λ w some. let e = nothing_behind x w some in omega (arith, ints, e) }
least x (y ∷ ys) = least_with x (y ∷ ys) (least_of y ys) (least y ys)

greatest : (x : ℤ) (xs : List ℤ) → IsGreatest (x ∷ xs) (greatest_of x xs)
greatest x [] = record { occurs = occurs_at_front x []; greatest = λ w some. let e = nothing_behind x w some in omega (arith, ints, e) }
greatest x (y ∷ ys) = greatest_with x (y ∷ ys) (greatest_of y ys) (greatest y ys)

same_least : (x y : ℤ) (xs ys : List ℤ) → AreAlike (x ∷ xs) (y ∷ ys) → least_of x xs ≡ least_of y ys
same_least x y xs ys same =
    let p = least x xs in let q = least y ys in
    let e = same_occurrences (x ∷ xs) (y ∷ ys) same (least_of x xs) in
    let f = same_occurrences (x ∷ xs) (y ∷ ys) same (least_of y ys) in
    let s = p.occurs in let t = q.occurs in
    let a = p.least (least_of y ys) (omega (arith, f, t)) in
    let b = q.least (least_of x xs) (omega (arith, e, s)) in
    omega (arith, ints, a, b)

same_greatest : (x y : ℤ) (xs ys : List ℤ) → AreAlike (x ∷ xs) (y ∷ ys) → greatest_of x xs ≡ greatest_of y ys
same_greatest x y xs ys same =
    let p = greatest x xs in let q = greatest y ys in
    let e = same_occurrences (x ∷ xs) (y ∷ ys) same (greatest_of x xs) in
    let f = same_occurrences (x ∷ xs) (y ∷ ys) same (greatest_of y ys) in
    let s = p.occurs in let t = q.occurs in
    let a = p.greatest (greatest_of y ys) (omega (arith, f, t)) in
    let b = q.greatest (greatest_of x xs) (omega (arith, e, s)) in
    omega (arith, ints, a, b)

same_number_tally : (xs ys : List ℤ) → AreAlike xs ys → number_tally xs ≡ number_tally ys
unfolding number_tally
same_number_tally [] [] same = refl
same_number_tally [] (y ∷ ys) same = let e = same_length [] (y ∷ ys) same in absurd (omega (arith, e))
same_number_tally (x ∷ xs) [] same = let e = same_length (x ∷ xs) [] same in absurd (omega (arith, e))
same_number_tally (x ∷ xs) (y ∷ ys) same =
    same_tally _ _ (same_length (x ∷ xs) (y ∷ ys) same) (same_total (x ∷ xs) (y ∷ ys) same) (same_least x y xs ys same) (same_greatest x y xs ys same)

-- ---- the law

result_by : (op : AreaOp) (xs ys : List ℤ) (b : Bool) → counts_numbers op ≡ b → AreAlike xs ys → area_result op xs ≡ area_result op ys
result_by op xs ys true counted same = same_result op xs ys counted (same_occurrences xs ys same)
result_by op xs ys false plain same =
    result_of_tally op xs plain ∙ (ap (tally_result op) (same_number_tally xs ys same) ∙ sym (result_of_tally op ys plain))

same_outcome : (op : AreaOp) (xs ys : List AreaPlace) → IsPermutation xs ys → (class : Cell) → area_outcome op xs class ≡ area_outcome op ys class
same_outcome op xs ys same Mv = refl
same_outcome op xs ys same (Val class) =
    result_by op (numbers_of op xs class) (numbers_of op ys class) (counts_numbers op) refl (alike_in_order op xs ys class same)

pub order : OrderDoesNotMatter
order xs ys same = (
  (λ op class. same_outcome op xs ys same class),
  (λ partial stands. record {
    cells = stands.cells ∙ sym (length_permutation xs ys same);
    tallies = λ plain class. stands.tallies plain class ∙ same_number_tally (numbers_of partial.op xs class) (numbers_of partial.op ys class) (alike_in_order partial.op xs ys class same);
    counts = λ counted class number.
        stands.counts counted class number ∙ same_occurrences (numbers_of partial.op xs class) (numbers_of partial.op ys class) (alike_in_order partial.op xs ys class same) number;
  }),
)

-- ---- a map as one area

own_class : (op : AreaOp) (class : ℤ) (value : Cell) → taken_by_class op class value (Val class) ≡ taken op value
own_class op class value = ap (λ (b : Bool). if b then taken op value else None) (int_eq-same class)

one_of_all : (o p : Option ℤ) → o ≡ p → filter_map (λ (x : Option ℤ). x) (o ∷ []) ≡ filter_map (λ (x : Option ℤ). x) (p ∷ [])
one_of_all o p e = ap (λ (x : Option ℤ). filter_map (λ (y : Option ℤ). y) (x ∷ [])) e

pub one_area : MapIsOneArea
one_area op values class zero = refl
one_area op values class (suc n) =
    let value = arg_cell values n in
    let place : AreaPlace = record { value = value; area = Val class } in
    filter_map-append (λ (q : AreaPlace). taken_by_class op class q.value q.area) (area_places values (One (Val class)) n) (place ∷ [])
    ∙ (ap (λ (xs : List ℤ). xs ++ numbers_of op (place ∷ []) class) (one_area op values class n)
    ∙ (ap (λ (xs : List ℤ). filter_map (taken op) (tabulate (arg_cell values) n) ++ xs) (one_of_all (taken_by_class op class value (Val class)) (taken op value) (own_class op class value))
    ∙ sym (filter_map-append (taken op) (tabulate (arg_cell values) n) (value ∷ []))))
