-- Where numbers stand in a list.
use Rattle.std.specs.Prelude.{◌≡◌, ℕ, ◌<◌, ◌==◌, List, [], get_or, length, map, slice_index}
use Rattle.std.specs.List.{filter, range_with_len}

-- the places below n where a number stands in a list, ascending
abbrev pub places_below : List ℕ → ℕ → ℕ → List ℕ
places_below numbers n k = filter (λ i. slice_index numbers i == k) (range_with_len 0 n)

-- the places where a number stands in a list, ascending
abbrev pub places_with : List ℕ → ℕ → List ℕ
places_with numbers k = places_below numbers (length numbers) k

-- those of each number below the count
abbrev pub places_by_number : List ℕ → ℕ → List (List ℕ)
places_by_number numbers count = map (places_with numbers) (range_with_len 0 count)

-- The lists have for each number below the count its places below n.
pub record AreNotedUpTo (numbers : List ℕ) (count n : ℕ) (lists : List (List ℕ)) : Type 0 where
  pub many : length lists ≡ count
  pub each : (k : ℕ) → k < count → get_or lists k [] ≡ places_below numbers n k
