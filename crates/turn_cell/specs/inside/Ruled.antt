-- The rule of the turn: one word, which is 1 while the turn is taken, one slot for the value, and what the seats know.
use Rattle.std.specs.Prelude.{◌≡◌, ◌≢◌, ℕ, ◌+◌, ◌<◌, ◌≤◌, ◌⊎◌, Bool, true, false, List, [], ◌∷◌, length, if◌then◌else◌, nat_lt}
use Rattle.std.specs.Prelude.{Some, Option, slice_index}
use mathlib.Core.Option.{some}
use mathlib.Core.List.{IsPrefix}
use lib.ListN.{get_elem?}
use Rattle.atomic_table.specs.Table.{State}
use Rattle.turn_cell.specs.declared.view.View.{View}
use Rattle.turn_cell.specs.Authors.{times_among}
use Rattle.turn_cell.specs.Histories.{is_author, entries_by}

-- the sum over views
abbrev pub sum_over : {V : Type 0} → (V → ℕ) → List V → ℕ
sum_over f [] = 0
sum_over f (v ∷ vs) = f v + sum_over f vs

-- 1 for an author of the cell, else 0
abbrev pub once_below : ℕ → ℕ → ℕ
once_below a n = if nat_lt a n then 1 else 0

-- how often a view has an author
abbrev pub times_in : {P E : Type 0} → ℕ → View P E → ℕ
times_in a v = times_among a v.authors + times_among a v.told_authors

-- how many authors a view has
abbrev pub share_in : {P E : Type 0} → View P E → ℕ
share_in v = length v.authors + length v.told_authors

-- what a view knows of the history so far: what it has seen begins it, and of its authors it has no further entry
pub record FitsHistory {P E : Type 0} (author : E → ℕ) (p : P) (log : List E) (v : View P E) : Type 0 where
  pub begins : IsPrefix v.seen log
  pub begins_told : IsPrefix v.told log
  pub own_seen : entries_by author v.authors log ≡ entries_by author v.authors v.seen
  pub own_told : entries_by author v.told_authors log ≡ entries_by author v.told_authors v.told
  pub met : v.holds ≡ true → v.met ≡ log
  pub planned : 0 < length v.authors → v.plan ≡ Some p
  pub single : 2 ≤ length v.authors → is_author 0 v.authors ≡ true
  pub spent : share_in v ≡ 0 → (v.seen ≡ []) × (v.told ≡ [])

-- some view has seen all of the history so far
abbrev pub IsReached : {P E : Type 0} → List E → List (View P E) → Type 0
IsReached {P} {E} log views = (j : ℕ) × (v : View P E) × (get_elem? views j ≡ some v) × ((v.seen ≡ log) ⊎ (v.told ≡ log))

-- the turn is free, and the value at home
abbrev pub IsTurnFree : {B P E : Type 0} → (B → P) → (B → List E) → P → List E → State (Option B) (View P E) → Type 0
IsTurnFree {B} {P} {E} plan history p log s =
    (slice_index s.words 0 ≡ 0) × ((b : B) × (get_elem? s.homes 0 ≡ some (some (Some b))) × (history b ≡ log) × (plan b ≡ p))
    × ((j : ℕ) (v : View P E) → get_elem? s.views j ≡ some v → v.holds ≡ false)

-- one seat has the turn
abbrev pub IsTurnTaken : {B P E : Type 0} → State (Option B) (View P E) → Type 0
IsTurnTaken {B} {P} {E} s =
    (slice_index s.words 0 ≡ 1)
    × ((j : ℕ) × (v : View P E) × (get_elem? s.views j ≡ some v) × (v.holds ≡ true) × (0 < length v.authors)
    × ((i : ℕ) (w : View P E) → get_elem? s.views i ≡ some w → i ≢ j → w.holds ≡ false))

-- there is one history so far, of which every seen history is a beginning and some seat's is the whole; each author is with one seat; and
-- the turn is free with the value at home, or one seat has it
pub record KeepsTurns {B P E : Type 0} (plan : B → P) (history : B → List E) (author : E → ℕ) (p : P) (seats : ℕ)
    (s : State (Option B) (View P E)) : Type 0 where
  pub log : List E
  pub one_word : length s.words ≡ 1
  pub one_slot : length s.homes ≡ 1
  pub each : (j : ℕ) (v : View P E) → get_elem? s.views j ≡ some v → FitsHistory author p log v
  pub reached : IsReached log s.views
  pub dealt : (a : ℕ) → sum_over (times_in a) s.views ≡ once_below a seats
  pub shared : sum_over share_in s.views ≡ seats
  pub turn : IsTurnFree plan history p log s ⊎ IsTurnTaken s
