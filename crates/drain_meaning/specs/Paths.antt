-- Paths along drain directions.
use Rattle.std.specs.Prelude.{◌≡◌, ◌≢◌, ℕ, zero, suc, ◌<◌, List, [], ◌∷◌, length}
use Rattle.drain_meaning.specs.declared.next.Next.{Next}
use Rattle.drain_meaning.specs.declared.next.Next.TheVariants as next
use Rattle.drain_meaning.specs.Drains.{DrainMap, next_at}

-- the cell at the place has a direction
abbrev pub IsDirected : DrainMap → ℕ → Type 0
IsDirected m c = next_at m c ≢ next.Missing

-- these cells follow on the cell, each drained into by the one before it, and the last one is a pit
abbrev pub IsFollowedBy : DrainMap → ℕ → List ℕ → Type 0
IsFollowedBy m c [] = next_at m c ≡ next.Pit
IsFollowedBy m c (d ∷ behind) = (next_at m c ≡ next.Cell d) × IsFollowedBy m d behind

-- the path of a cell: the cell itself and those that follow on it down to a pit
pub record HasPath (m : DrainMap) (c : ℕ) : Type 0 where
  pub behind : List ℕ
  pub followed : IsFollowedBy m c behind

-- each cell that has a direction has a path
abbrev pub IsSound : DrainMap → Type 0
IsSound m = (c : ℕ) → IsDirected m c → HasPath m c

-- the first place in row-major order that has a direction and no path
pub record IsFirstUnsound (m : DrainMap) (place : ℕ) : Type 0 where
  pub within : place < length m.codes
  pub directed : IsDirected m place
  pub fails : HasPath m place → ⊥
  pub before : (c : ℕ) → c < place → IsDirected m c → HasPath m c

-- what follows on a cell, from what is next to it
abbrev pub behind_next : (ℕ → List ℕ) → Next → List ℕ
behind_next path_from (next.Cell d) = path_from d
behind_next path_from next.Pit = []
behind_next path_from next.Outside = []
behind_next path_from next.Missing = []

-- the first cells of a path, so many at most
abbrev pub first_of_path : DrainMap → ℕ → ℕ → List ℕ
first_of_path m zero c = []
first_of_path m (suc most) c = c ∷ behind_next (first_of_path m most) (next_at m c)

-- the path of a cell of a sound map, as a list that begins with the cell
unfoldable pub path_of : DrainMap → ℕ → List ℕ
path_of m c = first_of_path m (length m.codes) c
