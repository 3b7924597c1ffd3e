-- What a seat knows, and which cell it is of.
use Rattle.std.specs.Prelude.{◌≡◌, ℕ, List, length, Option}
use Rattle.turn_cell.specs.declared.chronicle.Chronicle.{Ghosts}
use Rattle.turn_cell.specs.declared.cell.TurnCell.{TurnCell}
use Rattle.turn_cell.specs.declared.cell.TurnSeat.{TurnSeat}
use Rattle.turn_cell.specs.Histories.{entries_by}

-- the plan that the seat knows
abbrev pub plan_known : {B P E : Type 0} {C : Ghosts B P E} → TurnSeat B P E C → Option P
plan_known seat = seat.seat.me.0.plan

-- the history that the seat has seen
abbrev pub history_seen : {B P E : Type 0} {C : Ghosts B P E} → TurnSeat B P E C → List E
history_seen seat = seat.seat.me.0.seen

-- the seat's authors
abbrev pub authors_of : {B P E : Type 0} {C : Ghosts B P E} → TurnSeat B P E C → List ℕ
authors_of seat = seat.seat.me.0.authors

-- how many authors the seat has
abbrev pub share_of : {B P E : Type 0} {C : Ghosts B P E} → TurnSeat B P E C → ℕ
share_of seat = length (authors_of seat)

-- the seat's own entries: those of its authors in what it has seen
abbrev pub own_entries : {B P E : Type 0} {C : Ghosts B P E} → TurnSeat B P E C → List E
own_entries {C} seat = entries_by C.author (authors_of seat) (history_seen seat)

-- the seat is one of this cell
abbrev pub IsSeatOf : {B P E : Type 0} {C : Ghosts B P E} → TurnCell B P E → TurnSeat B P E C → Type 0
IsSeatOf cell seat = seat.seat.table_id ≡ cell.table.shared.table_id

-- how many authors the seats of this cell have together
abbrev pub seats_of : {B P E : Type 0} → TurnCell B P E → ℕ
seats_of cell = cell.table.shared.key.seats
