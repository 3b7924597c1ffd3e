-- How many cells a cell waits for before its turn. Words of private contracts.
use Rattle.std.specs.Prelude.{◌≡◌, ◌≢◌, ℕ, zero, suc, ◌+◌, ◌<◌, List, [], ◌∷◌, length, slice_index, if◌then◌else◌}
use Rattle.std.specs.List.{Contains}
use Rattle.drain_meaning.specs.declared.next.Next.TheVariants as next
use Rattle.drain_meaning.specs.Drains.{DrainMap, next_at}
use Rattle.drain_meaning.specs.Paths.{IsDirected}
use Rattle.drain_meaning.specs.Transports.{drains_into}

-- how many of these cells drain into d
abbrev pub feeding : DrainMap → ℕ → List ℕ → ℕ
feeding m d [] = 0
feeding m d (u ∷ us) = feeding m d us + (if drains_into d (next_at m u) then 1 else 0)

-- the places before this one, the last one first
abbrev pub places_before : ℕ → List ℕ
places_before zero = []
places_before (suc n) = n ∷ places_before n

-- Each cell with a direction that is not done waits for so many cells: those that drain into it and are not done. No other
-- cell waits for none.
pub record AreWaits (m : DrainMap) (done : List ℕ) (waits : List ℕ) : Type 0 where
  pub many : length waits ≡ length m.codes
  pub past : (u : ℕ) → Contains done u → slice_index waits u ≢ 0
  pub missing : (u : ℕ) → u < length m.codes → next_at m u ≡ next.Missing → slice_index waits u ≢ 0
  pub left : (d : ℕ) → IsDirected m d → (Contains done d → ⊥) →
      slice_index waits d + feeding m d done ≡ feeding m d (places_before (length m.codes))
