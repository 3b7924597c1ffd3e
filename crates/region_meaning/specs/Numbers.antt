-- Lists of numbers: their sum and average, the least and the greatest, how many are different, how often one stands there, and
-- which one is the most frequent.
use Rattle.std.specs.Prelude.{◌≡◌, ◌≤◌, ℕ, ℤ, pos, ◌+ℤ◌, ◌≤ℤ◌, List, [], ◌∷◌, length, count_by}
use Rattle.std.specs.Int.{int_max, int_min}
use Rattle.std.specs.List.{Contains}
use Rattle.std.specs.Ordering.{int_eq}
use Rattle.std.specs.Set.{distinct_count}
use Rattle.cell_values.specs.Rounding.{nearest}

-- the sum of numbers, unbounded
abbrev pub total_of : List ℤ → ℤ
total_of [] = pos 0
total_of (x ∷ xs) = x +ℤ total_of xs

-- the sum of numbers over how many there are, rounded
abbrev pub average_of : List ℤ → ℤ
average_of numbers = nearest (total_of numbers) (length numbers)

-- the least of a number and further ones
abbrev pub least_of : ℤ → List ℤ → ℤ
least_of x [] = x
least_of x (y ∷ ys) = int_min x (least_of y ys)

-- the greatest of a number and further ones
abbrev pub greatest_of : ℤ → List ℤ → ℤ
greatest_of x [] = x
greatest_of x (y ∷ ys) = int_max x (greatest_of y ys)

-- how many different numbers there are
abbrev pub diversity_of : List ℤ → ℕ
diversity_of numbers = distinct_count int_eq numbers

-- how often a number stands among numbers
abbrev pub occurrences : List ℤ → ℤ → ℕ
occurrences numbers number = count_by (λ other. int_eq other number) numbers

-- one of the numbers that no other one is more frequent than, and the least of those that are as frequent
pub record IsMostFrequent (numbers : List ℤ) (number : ℤ) : Type 0 where
  pub stands : Contains numbers number
  pub most : (other : ℤ) → occurrences numbers other ≤ occurrences numbers number
  pub least : (other : ℤ) → occurrences numbers other ≡ occurrences numbers number → number ≤ℤ other
