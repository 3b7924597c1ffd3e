-- What numbers of a kind give: the kind of the least, the greatest and the most frequent one, and the range of an average.
use Rattle.std.proofs.Common.{◌≡◌, ℕ, ◌+◌, ◌*◌, ◌<◌, ◌≤◌, Bool, true, false, cond, ℤ, pos, List, [], ◌∷◌, length, refl, ap, inl, inr, arith, unsigned_abs}
use Rattle.std.specs.Prelude.{Ok, Err, IfOk, IsOk, is_ok, int_lt}
use Rattle.std.specs.List.{All}
use Rattle.std.proofs.lemmas.Int.{ints}
use Rattle.std.proofs.lemmas.List.Elements.{All-contains, All-head, All-tail}
use Rattle.std.proofs.Math.Nat.{mul-le-mul_left}
use Rattle.std.proofs.lemmas.Bool.{cases_lt}
use Rattle.text_base.specs.Limits.{most_cells}
use Rattle.cell_values.specs.declared.kind.Kind.{Kind}
use Rattle.cell_values.specs.declared.kind.Kind.TheVariants.{Scalar}
use Rattle.cell_values.specs.declared.cell.Cell.TheVariants.{Val}
use Rattle.cell_values.specs.Kinds.{IsCell, IsValue, cell_of_number, is_value}
use Rattle.cell_values.specs.Rounding.{IsNearestSize}
use Rattle.cell_values.specs.Units.{million}
use Rattle.cell_values.proofs.Nearest.{nearest-IsNearest}
use Rattle.cell_values.proofs.Readings.{test-from_value, value-from_test}
use Rattle.tile_map.specs.Parts.{Outcome}
use Rattle.region_meaning.specs.Numbers.{average_of, greatest_of, least_of, total_of}
use Rattle.region_meaning.specs.inside.MostFrequent.{most_frequent}
use Rattle.region_meaning.proofs.NumberLemmas.{most_frequent-stands}

-- ---- the kind of one of the numbers

-- a choice of two values
value_of_two : (kind : Kind) (b : Bool) (x y : ℤ) → IsValue kind x → IsValue kind y → IsValue kind (cond b x y)
value_of_two kind true x y p q = p
value_of_two kind false x y p q = q

-- the least of values
pub least_of-value : (kind : Kind) (x : ℤ) (xs : List ℤ) → IsValue kind x → All (IsValue kind) xs → IsValue kind (least_of x xs)
least_of-value kind x [] is all = is
least_of-value kind x (y ∷ ys) is all =
    value_of_two kind (int_lt (least_of y ys) x) (least_of y ys) x
    (least_of-value kind y ys (All-head (IsValue kind) y ys all) (All-tail (IsValue kind) y ys all)) is

-- the greatest of values
pub greatest_of-value : (kind : Kind) (x : ℤ) (xs : List ℤ) → IsValue kind x → All (IsValue kind) xs → IsValue kind (greatest_of x xs)
greatest_of-value kind x [] is all = is
greatest_of-value kind x (y ∷ ys) is all =
    value_of_two kind (int_lt (greatest_of y ys) x) x (greatest_of y ys) is
    (greatest_of-value kind y ys (All-head (IsValue kind) y ys all) (All-tail (IsValue kind) y ys all))

-- the most frequent of values
pub most_frequent-value : (kind : Kind) (x : ℤ) (xs : List ℤ) → All (IsValue kind) (x ∷ xs) → IsValue kind (most_frequent (x ∷ xs) x)
most_frequent-value kind x xs all = All-contains (IsValue kind) (x ∷ xs) (most_frequent (x ∷ xs) x) all (most_frequent-stands x xs)

-- ---- scalars

tested : (kind : Kind) (z : ℤ) (b : Bool) → is_value kind z ≡ b → IfOk (let o : Outcome = cond b (Ok (Val z)) (Err (record {})) in o) (IsCell kind)
tested kind z true e = value-from_test kind z e
tested kind z false e = tt

-- the cell of a number is one of the kind, where there is one
pub cell_of_number-in_kind : (kind : Kind) (z : ℤ) → IfOk (cell_of_number kind z) (IsCell kind)
cell_of_number-in_kind kind z = tested kind z (is_value kind z) refl

-- and there is one for a value
pub cell_of_number-ok : (kind : Kind) (z : ℤ) → IsValue kind z → IsOk (cell_of_number kind z)
cell_of_number-ok kind z is =
    ap (λ (b : Bool). let o : Outcome = cond b (Ok (Val z)) (Err (record {})) in is_ok o) (test-from_value kind z is)

-- so many ones as a scalar
pub scalar_of_count : (n : ℕ) → n ≤ most_cells → IsValue Scalar (pos (n * million))
scalar_of_count n few = record { least = omega (arith, ints); greatest = omega (arith, ints) }

-- the sum of scalars
total_of-scalars : (xs : List ℤ) → All (IsValue Scalar) xs → unsigned_abs (total_of xs) ≤ length xs * 9000000000000000000
total_of-scalars [] all = omega arith
total_of-scalars (x ∷ xs) all =
    let is : IsValue Scalar x = All-head (IsValue Scalar) x xs all in
    let h = total_of-scalars xs (All-tail (IsValue Scalar) x xs all) in
    let low = is.least in
    let high = is.greatest in
    omega (arith, ints)

-- the nearest whole number to a fraction is not above a whole number that the fraction is not above
nearest-within : (s d q m : ℕ) → 0 < d → s ≤ d * m → IsNearestSize s d q → q ≤ m
nearest-within s d q m some within is = elim (cases_lt m q) as (λ x. q ≤ m) [
  | inl beyond ↦
      let step : d * (m + 1) ≤ d * q = mul-le-mul_left d (omega arith) in
      let above = is.above in
      absurd (omega (arith, step, above, within, some))
  | inr less ↦ less
]

-- the mean of numbers of a range that reaches as far down as up lies in it
pub average_of-scalars : (xs : List ℤ) → 0 < length xs → All (IsValue Scalar) xs → IsValue Scalar (average_of xs)
average_of-scalars xs some all =
    let sum = total_of-scalars xs all in
    let is = nearest-IsNearest (total_of xs) (length xs) some in
    let few : unsigned_abs (average_of xs) ≤ 9000000000000000000 = nearest-within (unsigned_abs (total_of xs)) (length xs) (unsigned_abs (average_of xs)) 9000000000000000000 some sum is.size in
    record { least = omega (arith, ints); greatest = omega (arith, ints) }
