-- What a transport over a tile has come to: by the numbers of the tile's cells. Words of private contracts.
use Rattle.std.specs.Prelude.{◌≡◌, ℕ, ◌-◌, ◌<◌, List, [], ◌∷◌, ◌++◌, length, get_or, slice_index_or, slice_set, ◌==◌, if◌then◌else◌}
use Rattle.cell_values.specs.declared.cell.Cell.{Cell}
use Rattle.tile_map.specs.Cuts.{cell_at}
use Rattle.drain_meaning.specs.declared.end.FlowEnd.{FlowEnd}
use Rattle.drain_meaning.specs.declared.flow.Flow.{Flow}
use Rattle.drain_meaning.specs.Rules.{Accumulator, FitTogether, FitsBefore}

-- what has come to each cell, from how many feeding cells nothing has come, and the cells to which all has come, in the order in
-- which that was so
pub record State (A : Type 0) : Type 0 where
  pub inflows : List A
  pub missing : List ℕ
  pub queue : List ℕ

-- such a state
abbrev pub state : {A : Type 0} → List A → List ℕ → List ℕ → State A
state inflows missing queue = record { inflows = inflows; missing = missing; queue = queue }

-- from how many nothing has come
abbrev pub missing_at : {A : Type 0} → State A → ℕ → ℕ
missing_at s cell = slice_index_or s.missing cell 0

-- what has come to a cell
abbrev pub inflow_at : {A : Type 0} → Accumulator A → State A → ℕ → A
inflow_at rule s cell = slice_index_or s.inflows cell rule.none

-- a flow can come to a cell, with room for so many cells
pub record CanReceive {A : Type 0} (rule : Accumulator A) (s : State A) (cell : ℕ) (flow : Flow) (room : ℕ) : Type 0 where
  pub inflow_within : cell < length s.inflows
  pub missing_within : cell < length s.missing
  pub fit : FitTogether rule (inflow_at rule s cell) (rule.lifted flow)
  pub some : 0 < missing_at s cell
  pub room_left : missing_at s cell ≡ 1 → length s.queue < room

-- the queue after one that was missed has come to a cell
abbrev pub queued : List ℕ → ℕ → ℕ → List ℕ
queued queue missed cell = if missed == 1 then queue ++ cell ∷ [] else queue

-- a flow has come to a cell
abbrev pub received : {A : Type 0} → Accumulator A → State A → ℕ → Flow → State A
received rule s cell flow =
    state (slice_set s.inflows cell (rule.joined (inflow_at rule s cell) (rule.lifted flow)))
    (slice_set s.missing cell (missing_at s cell - 1)) (queued s.queue (missing_at s cell) cell)

-- a flow can come to several cells, one after the other
abbrev pub CanPass : {A : Type 0} → Accumulator A → List ℕ → Flow → ℕ → State A → Type 0
CanPass rule [] flow room s = Unit {0}
CanPass rule (cell ∷ cells) flow room s = CanReceive rule s cell flow room × CanPass rule cells flow room (received rule s cell flow)

-- a flow has come to several cells
abbrev pub passed_on : {A : Type 0} → Accumulator A → List ℕ → Flow → State A → State A
passed_on rule [] flow s = s
passed_on rule (cell ∷ cells) flow s = passed_on rule cells flow (received rule s cell flow)

-- the cells of the tile that a cell feeds, by the lists of all
abbrev pub fed_cells : List (List ℕ) → ℕ → List ℕ
fed_cells fed cell = get_or fed cell []

-- the end of a cell to which all has come
abbrev pub end_here : {A : Type 0} → Accumulator A → State A → List Cell → List Cell → ℕ → FlowEnd
end_here rule s a b cell = rule.ended (inflow_at rule s cell) (cell_at a cell) (cell_at b cell)

-- a cell can have its turn
pub record CanEnd {A : Type 0} (rule : Accumulator A) (s : State A) (fed : List (List ℕ)) (a b : List Cell) (cell room : ℕ) : Type 0 where
  pub inflow_within : cell < length s.inflows
  pub a_within : cell < length a
  pub b_within : cell < length b
  pub fed_has : cell < length fed
  pub fits : FitsBefore rule (inflow_at rule s cell)
  pub can_pass : CanPass rule (fed_cells fed cell) (end_here rule s a b cell).out room s

-- a list with more behind it
pub record Grows (old new : List ℕ) : Type 0 where
  pub more : List ℕ
  pub is : new ≡ old ++ more
