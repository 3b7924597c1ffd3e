-- The way down from a place to a cell that has its end. Words of private contracts.
use Rattle.std.specs.Prelude.{◌≡◌, ◌⊎◌, ℕ, ◌+◌, ◌<◌, List, length, slice_index, slice_index_or, Bool, true, false}
use Rattle.std.specs.List.{Contains}
use Rattle.drain_meaning.specs.declared.next.Next.TheVariants as next
use Rattle.drain_meaning.specs.Drains.{DrainMap, next_at}
use Rattle.drain_meaning.specs.Paths.{IsDirected}

-- the cell has its end
abbrev pub IsEnded : List Bool → ℕ → Type 0
IsEnded ended u = slice_index_or ended u false ≡ true

-- the cell is the next one of the trail
abbrev pub FollowsOn : List ℕ → ℕ → ℕ → Type 0
FollowsOn trail i d = (i + 1 < length trail) × (slice_index trail (i + 1) ≡ d)

-- Each cell of the trail has a direction, and drains into the next one or into one that has its end.
pub record LeadsDown (m : DrainMap) (ended : List Bool) (trail : List ℕ) : Type 0 where
  pub directed : (i : ℕ) → i < length trail → IsDirected m (slice_index trail i)
  pub next : (i d : ℕ) → i < length trail → next_at m (slice_index trail i) ≡ next.Cell d → IsEnded ended d ⊎ FollowsOn trail i d

-- a place with a direction has its end, or is on the trail
abbrev pub IsEndedOrOnTrail : DrainMap → List Bool → List ℕ → ℕ → Type 0
IsEndedOrOnTrail m ended trail place = IsDirected m place → IsEnded ended place ⊎ Contains trail place
