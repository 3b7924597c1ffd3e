-- What a seat may meet behind the turn, and what a turn leaves.
use Rattle.std.specs.Prelude.{◌≡◌, ℕ, List, Some}
use mathlib.Core.List.{IsPrefix}
use Rattle.turn_cell.specs.declared.chronicle.Chronicle.{Ghosts}
use Rattle.turn_cell.specs.declared.cell.TurnSeat.{TurnSeat}
use Rattle.turn_cell.specs.Histories.{entries_by, Appends}
use Rattle.turn_cell.specs.Seats.{plan_known, history_seen, authors_of, own_entries}

-- the value is of the seat's plan, its history begins with what the seat has seen, and the entries of the seat's authors in it are the
-- seat's own, each as often as it was
pub record MayMeet {B P E : Type 0} {C : Ghosts B P E} (seat : TurnSeat B P E C) (value : B) : Type 0 where
  pub planned : plan_known seat ≡ Some (C.plan value)
  pub begins : IsPrefix (history_seen seat) (C.history value)
  pub own : entries_by C.author (authors_of seat) (C.history value) ≡ own_entries seat

-- one turn: the seat met the first value, the job left the second, and the seat has then seen its history; an entry that was appended is
-- by this author, and one of the seat's own
pub record IsTurn {B P E : Type 0} {C : Ghosts B P E} (before_turn after_turn : TurnSeat B P E C) (does : B → B → Type 0) (by : ℕ)
    (met left : B) : Type 0 where
  pub may : MayMeet before_turn met
  pub did : does met left
  pub plan : C.plan left ≡ C.plan met
  pub history : Appends C.author by (C.history met) (C.history left)
  pub seen : history_seen after_turn ≡ C.history left
  pub own : Appends C.author by (own_entries before_turn) (own_entries after_turn)
