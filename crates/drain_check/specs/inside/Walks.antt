-- How far a walk along drain directions has come. Words of private contracts.
use Rattle.std.specs.Prelude.{◌≡◌, ◌≢◌, ℕ, ◌<◌, ◌⊎◌, ⊤, Bool, true, false, Result, Ok, Err}
use Rattle.std.specs.Prelude.{List, [], ◌∷◌, length, slice_index, slice_index_or}
use Rattle.std.specs.List.{Contains, count_by}
use Rattle.drain_meaning.specs.declared.next.Next.TheVariants as next
use Rattle.drain_meaning.specs.Drains.{DrainMap, next_at}
use Rattle.drain_meaning.specs.Paths.{HasPath}
use Rattle.drain_meaning.specs.inside.Ways.{IsWay}
use Rattle.drain_check.specs.declared.codes.Codes.{Codes}
use Rattle.drain_check.specs.declared.walk.Mark.{Mark}
use Rattle.drain_check.specs.declared.walk.Mark.TheVariants.{Unseen, Walked, Done}

-- the drain map of these codes
abbrev pub map_of : Codes → DrainMap
map_of codes = record { rows = codes.rows; cols = codes.cols; codes = codes.cells.now }

-- the mark of a cell
abbrev pub mark_at : List Mark → ℕ → Mark
mark_at marks c = slice_index_or marks c Unseen

-- no walk has come to the cell
abbrev pub is_unseen : Mark → Bool
is_unseen Unseen = true
is_unseen Walked = false
is_unseen Done = false

-- how many cells no walk has come to
abbrev pub unseen : List Mark → ℕ
unseen marks = count_by is_unseen marks

-- a walk over these cells comes to the last one
abbrev pub IsTrail : DrainMap → List ℕ → ℕ → Type 0
IsTrail drains [] at = ⊤
IsTrail drains (q ∷ ps) at = IsWay drains q ps at

-- The order has each cell that is done, once and after the cell that it drains into.
pub record Ordered (drains : DrainMap) (marks : List Mark) (order : List ℕ) : Type 0 where
  pub listed : (i : ℕ) → i < length order → mark_at marks (slice_index order i) ≡ Done
  pub once : (i j : ℕ) → i < j → j < length order → slice_index order i ≢ slice_index order j
  pub after : (i d : ℕ) → i < length order → next_at drains (slice_index order i) ≡ next.Cell d →
      (j : ℕ) × (j < i) × (slice_index order j ≡ d)
  pub found : (q : ℕ) → mark_at marks q ≡ Done → (j : ℕ) × (j < length order) × (slice_index order j ≡ q)

-- Each cell that is done has a path and stands in the order, and the cells under way are those of the trail, which comes to this cell.
pub record Underway (drains : DrainMap) (marks : List Mark) (trail : List ℕ) (order : List ℕ) (at : ℕ) : Type 0 where
  pub size : length marks ≡ length drains.codes
  pub done : (q : ℕ) → mark_at marks q ≡ Done → HasPath drains q
  pub walked : (q : ℕ) → mark_at marks q ≡ Walked → Contains trail q
  pub marked : (q : ℕ) → Contains trail q → mark_at marks q ≡ Walked
  pub way : IsTrail drains trail at
  pub ordered : Ordered drains marks order

-- No cell is under way, and each cell that is done has a path and stands in the order.
pub record IsAtRest (drains : DrainMap) (marks : List Mark) (order : List ℕ) : Type 0 where
  pub size : length marks ≡ length drains.codes
  pub resting : (q : ℕ) → mark_at marks q ≢ Walked
  pub done : (q : ℕ) → mark_at marks q ≡ Done → HasPath drains q
  pub ordered : Ordered drains marks order

-- the trail comes to a cell that is done
pub record Returning (drains : DrainMap) (marks : List Mark) (trail : List ℕ) (order : List ℕ) : Type 0 where
  pub at : ℕ
  pub underway : Underway drains marks trail order at
  pub arrived : mark_at marks at ≡ Done

-- each cell that was done is done
pub record Keeps (old : List Mark) (marks : List Mark) : Type 0 where
  pub kept : (q : ℕ) → mark_at old q ≡ Done → mark_at marks q ≡ Done

-- the walk from the place came to a cell that is done
pub record Arrived (drains : DrainMap) (place : ℕ) (old : List Mark) (marks : List Mark) (trail : List ℕ) (order : List ℕ) : Type 0 where
  pub at : ℕ
  pub underway : Underway drains marks trail order at
  pub arrived : mark_at marks at ≡ Done
  pub keeps : Keeps old marks
  pub from : (place ≡ at) ⊎ Contains trail place

-- the walk from the place is over, and the place is done
pub record CameDown (drains : DrainMap) (place : ℕ) (old : List Mark) (marks : List Mark) (trail : List ℕ) (order : List ℕ) : Type 0 where
  pub settled : IsAtRest drains marks order
  pub empty : length trail ≡ 0
  pub here : mark_at marks place ≡ Done
  pub keeps : Keeps old marks

-- what holds after a walk that may run out of memory: it arrived, or the place has no path
abbrev pub WalkResult : {E : Type 0} → Result Bool E → Type 0 → Type 0 → Type 0
WalkResult (Ok true) arrived path = arrived
WalkResult (Ok false) arrived path = path → ⊥
WalkResult (Err e) arrived path = ⊤
