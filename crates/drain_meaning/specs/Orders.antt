-- Orders in which a walk can go over a drain map.
use Rattle.std.specs.Prelude.{◌≡◌, ◌≢◌, ℕ, ◌<◌, List, length, slice_index}
use Rattle.drain_meaning.specs.declared.next.Next.TheVariants as next
use Rattle.drain_meaning.specs.Drains.{DrainMap, next_at}
use Rattle.drain_meaning.specs.Paths.{IsDirected}

-- the list has the cell before this place
pub record IsListedBefore (order : List ℕ) (i d : ℕ) : Type 0 where
  pub place : ℕ
  pub earlier : place < i
  pub there : slice_index order place ≡ d

-- the list has the cell
pub record IsListed (order : List ℕ) (c : ℕ) : Type 0 where
  pub place : ℕ
  pub within : place < length order
  pub there : slice_index order place ≡ c

-- drain order: all cells with a direction, each once and after the cell that it drains into
pub record IsDrainOrder (m : DrainMap) (order : List ℕ) : Type 0 where
  pub directed : (i : ℕ) → i < length order → IsDirected m (slice_index order i)
  pub once : (i j : ℕ) → i < j → j < length order → slice_index order i ≢ slice_index order j
  pub after : (i d : ℕ) → i < length order → next_at m (slice_index order i) ≡ next.Cell d → IsListedBefore order i d
  pub all : (c : ℕ) → IsDirected m c → IsListed order c
