-- The key columns of a table: numbers and intervals. Key values are whole numbers of millionths, so each key column takes
-- in the numbers from a first to a last one.
use Rattle.std.specs.Prelude.{◌≡◌, ℕ, Bool, true, false, ◌&&◌, ◌==◌, List, [], ◌∷◌, ◌++◌, map, ℤ, pos, negsuc, ◌+ℤ◌, ◌-ℤ◌}
use Rattle.std.specs.Prelude.{int_le, is_some, Option, Some, None, Ok, if◌then◌else◌}
use Rattle.std.specs.List.{list_any}
use Rattle.cell_values.specs.declared.kind.Kind.TheVariants.{Scalar}
use Rattle.cell_values.specs.declared.cell.Cell.TheVariants.{Val}
use Rattle.cell_values.specs.inside.Reading.{decimal_of}
use Rattle.cell_values.specs.inside.Reading.{cell_read}
use Rattle.text_base.specs.Tokens.{tokens}
use Rattle.lookup_table.specs.declared.key.KeyRange.{KeyRange}
use Rattle.lookup_table.specs.Columns.{comma, opening_bracket, closing_bracket, is_opening}

-- the column is an interval, and no run
abbrev pub begins_interval : List ℕ → Bool
begins_interval [] = false
begins_interval (b ∷ bytes) = is_opening b

-- a bound by what stands there between blanks: no bound, or one decimal
abbrev pub bound_of : List (List ℕ) → Option (Option (List ℕ))
bound_of [] = Some None
bound_of (word ∷ []) = if is_some (decimal_of word) then Some (Some word) else None
bound_of (word ∷ other ∷ more) = None

-- the bound that a text writes
abbrev pub bound_in : List ℕ → Option (Option (List ℕ))
bound_in text = bound_of (map (λ token. token.bytes) (tokens text))

-- an interval: its brackets, and the decimals at its bounds
pub record Interval : Type 0 where
  pub opening : ℕ
  pub low : Option (List ℕ)
  pub high : Option (List ℕ)
  pub closing : ℕ

-- The column writes the interval: a bracket, a low bound, the first comma, a high bound, and a bracket. A bound is a decimal
-- or nothing, and blanks may stand around it.
pub record Writes (column : List ℕ) (interval : Interval) : Type 0 where
  pub low_text : List ℕ
  pub high_text : List ℕ
  pub parts : column ≡ interval.opening ∷ ((low_text ++ comma ∷ high_text) ++ interval.closing ∷ [])
  pub first_comma : list_any (λ b. b == comma) low_text ≡ false
  pub low : bound_in low_text ≡ Some interval.low
  pub high : bound_in high_text ≡ Some interval.high

-- the least number of 64 bits
abbrev pub least_number : ℤ
least_number = negsuc 9223372036854775807

-- the greatest number of 64 bits
abbrev pub greatest_number : ℤ
greatest_number = pos 9223372036854775807

-- the first number that a low bound takes in: itself, or the next one where `<` leaves it out
abbrev pub first_from : ℕ → ℤ → ℤ
first_from opening z = if opening == opening_bracket then z else z +ℤ pos 1

-- the last number that a high bound takes in: itself, or the one before it where `>` leaves it out
abbrev pub last_to : ℕ → ℤ → ℤ
last_to closing z = if closing == closing_bracket then z else z -ℤ pos 1

-- the first number that an interval takes in
abbrev pub IsFirst : ℕ → Option (List ℕ) → ℤ → Type 0
IsFirst opening None first = first ≡ least_number
IsFirst opening (Some word) first = (z : ℤ) × (cell_read Scalar word ≡ Ok (Val z)) × (first ≡ first_from opening z)

-- the last number that an interval takes in
abbrev pub IsLast : ℕ → Option (List ℕ) → ℤ → Type 0
IsLast closing None last = last ≡ greatest_number
IsLast closing (Some word) last = (z : ℤ) × (cell_read Scalar word ≡ Ok (Val z)) × (last ≡ last_to closing z)

-- the column is a key that takes in just these numbers
pub data IsKey (column : List ℕ) (range : KeyRange) : Type 0 where
  -- a decimal, read as a scalar: that number alone
  Number : (z : ℤ) → begins_interval column ≡ false → cell_read Scalar column ≡ Ok (Val z)
      → range ≡ record { first = z; last = z } → IsKey column range
  -- an interval, its bounds read as scalars
  Between : (interval : Interval) → begins_interval column ≡ true → Writes column interval
      → IsFirst interval.opening interval.low range.first → IsLast interval.closing interval.high range.last
      → IsKey column range

-- a number lies in a range
abbrev pub lies_in : KeyRange → ℤ → Bool
lies_in range z = int_le range.first z && int_le z range.last

-- Each number lies in the range at its place. Numbers beyond the last range do not count.
abbrev pub all_lie_in : List KeyRange → List ℤ → Bool
all_lie_in [] zs = true
all_lie_in (range ∷ ranges) [] = true
all_lie_in (range ∷ ranges) (z ∷ zs) = lies_in range z && all_lie_in ranges zs
