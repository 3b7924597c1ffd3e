-- How far a transport over a tile has come. Words of private contracts.
use Rattle.std.specs.Prelude.{◌≡◌, ℕ, ◌+◌, ◌<◌, ◌≤◌, Bool, true, false, not, ◌==◌, is_some, if◌then◌else◌}
use Rattle.std.specs.Prelude.{List, [], ◌∷◌, length, map, take, slice_index_or}
use Rattle.std.specs.List.{Contains, filter, list_any}
use Rattle.cell_values.specs.declared.cell.Cell.{Cell}
use Rattle.cell_values.specs.declared.kind.Kind.TheVariants.{Scalar}
use Rattle.cell_values.specs.Kinds.{IsCell}
use Rattle.tile_map.specs.Cuts.{cell_at}
use Rattle.tile_map.specs.Rects.{cell_count, number_in, place_in}
use Rattle.drain_meaning.specs.declared.flow.Flow.{Flow}
use Rattle.drain_meaning.specs.declared.op.Orient.{Orient}
use Rattle.drain_meaning.specs.Flows.{FlowFits}
use Rattle.drain_meaning.specs.Rules.{Accumulator}
use Rattle.drain_meaning.specs.Transports.{Transport, feeders}
use Rattle.border_channel.specs.Edges.{fed_by}
use Rattle.border_channel.specs.Laws.{IsTileOf}
use Rattle.border_channel.specs.Loads.{load_of}
use Rattle.border_channel.specs.Locals.{local_end, local_inflow}
use Rattle.border_channel.specs.TileFlows.{TileFlow, came_over, in_tile, tile_rect}
use Rattle.flow_task.specs.inside.States.{State, fed_cells, inflow_at, missing_at}

-- ---- the cells of a tile

-- how many cells the tile has
abbrev pub tile_size : TileFlow → ℕ
tile_size w = cell_count (tile_rect w)

-- the place of a cell by its number in the tile
abbrev pub cell_place : TileFlow → ℕ → ℕ
cell_place w i = place_in w.tiling.cols (tile_rect w) i

-- the number of a place
abbrev pub cell_number : TileFlow → ℕ → ℕ
cell_number w c = number_in w.tiling.cols (tile_rect w) c

-- no number stands twice
abbrev pub Distinct : List ℕ → Type 0
Distinct [] = Unit {0}
Distinct (x ∷ xs) = (Contains xs x → ⊥) × Distinct xs

-- the cells of the tile that each of its cells feeds, by their numbers
pub record AreLinks (o : Orient) (w : TileFlow) (fed : List (List ℕ)) : Type 0 where
  pub many : length fed ≡ tile_size w
  pub below : (i j : ℕ) → i < tile_size w → Contains (fed_cells fed i) j → j < tile_size w
  pub each : (i : ℕ) → i < tile_size w →
      map (cell_place w) (fed_cells fed i) ≡ filter (in_tile w) (fed_by o w.drain (cell_place w i))

-- ---- what has come to each cell

-- one that passes one_if
abbrev pub one_if : Bool → ℕ
one_if true = 1
one_if false = 0

-- how many of a list pass a test
abbrev pub passing_many : (ℕ → Bool) → List ℕ → ℕ
passing_many p [] = 0
passing_many p (x ∷ xs) = one_if (p x) + passing_many p xs

-- the values of a list, joined
abbrev pub joined_over : {A : Type 0} → Accumulator A → (ℕ → A) → List ℕ → A
joined_over rule f [] = rule.none
joined_over rule f (x ∷ xs) = rule.joined (joined_over rule f xs) (f x)

-- what flows from u into c in the tile
abbrev pub flow_into : Transport → TileFlow → ℕ → ℕ → Flow
flow_into t w c u = local_inflow w (local_end t w) c u

-- what has come from u
abbrev pub came : {A : Type 0} → Transport → Accumulator A → TileFlow → (ℕ → ℕ → Bool) → ℕ → ℕ → A
came t rule w come c u = if come u c then rule.lifted (flow_into t w c u) else rule.none

-- Of each pair of a feeding cell and a cell of the tile a relation says whether its flow has come, and the state is that.
pub record Counted {A : Type 0} (t : Transport) (rule : Accumulator A) (w : TileFlow) (come : ℕ → ℕ → Bool) (s : State A) : Type 0 where
  pub inflows_many : length s.inflows ≡ tile_size w
  pub missing_many : length s.missing ≡ tile_size w
  pub missing : (i : ℕ) → i < tile_size w →
      missing_at s i ≡ passing_many (λ u. not (come u (cell_place w i))) (feeders t.orient w.drain (cell_place w i))
  pub inflow : (i : ℕ) → i < tile_size w →
      inflow_at rule s i ≡ joined_over rule (came t rule w come (cell_place w i)) (feeders t.orient w.drain (cell_place w i))
  pub ready : (i : ℕ) → i < tile_size w → missing_at s i ≡ 0 → Contains s.queue i
  pub waits : (i : ℕ) → Contains s.queue i → (i < tile_size w) × (missing_at s i ≡ 0)
  pub apart : Distinct s.queue
  pub fits : (i u : ℕ) → i < tile_size w → Contains (feeders t.orient w.drain (cell_place w i)) u → come u (cell_place w i) ≡ true →
      FlowFits (flow_into t w (cell_place w i) u) (load_of t.orient w.drain u)

-- the flow of the first cells of the queue has come to all that they feed in the tile, and that of the messages that were taken
abbrev pub done_come : TileFlow → List ℕ → ℕ → ℕ → ℕ → Bool
done_come w queue head u c =
    if in_tile w u then list_any (λ i. i == cell_number w u) (take head queue) else is_some (came_over w u c)

-- the cell at a place of the queue
abbrev pub queued_at : List ℕ → ℕ → ℕ
queued_at queue j = slice_index_or queue j 0

-- what stays while a transport over a tile goes on
pub record IsWorkBegun (t : Transport) (w : TileFlow) (fed : List (List ℕ)) (a b : List Cell) : Type 0 where
  pub tile : IsTileOf w
  pub a_is : a ≡ w.a
  pub b_is : b ≡ w.b
  pub a_many : length w.a ≡ tile_size w
  pub b_many : length w.b ≡ tile_size w
  pub a_range : (i : ℕ) → IsCell Scalar (cell_at w.a i)
  pub b_range : (i : ℕ) → IsCell Scalar (cell_at w.b i)
  pub links : AreLinks t.orient w fed

-- the first cells of the queue have had their turn
pub record IsUnderway {A : Type 0} (t : Transport) (rule : Accumulator A) (w : TileFlow) (s : State A) (head : ℕ) : Type 0 where
  pub counted : Counted t rule w (done_come w s.queue head) s
  pub head_in : head ≤ length s.queue
