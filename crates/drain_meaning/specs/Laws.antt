-- What holds of all sound drain maps.
use Rattle.std.specs.Prelude.{◌≡◌, ◌≢◌, ◌↔◌, ◌⊎◌, ℕ, ◌<◌, List, ◌∷◌, length, map, Option, Some, None, Ok}
use Rattle.std.specs.List.{filter, range_with_len}
use Rattle.cell_values.specs.declared.cell.Cell.{Cell}
use Rattle.cell_values.specs.declared.cell.Cell.TheVariants as cell
use Rattle.cell_values.specs.declared.kind.Kind.{Kind}
use Rattle.drain_meaning.specs.declared.end.FlowEnd.{FlowEnd}
use Rattle.drain_meaning.specs.declared.next.Next.TheVariants as next
use Rattle.drain_meaning.specs.declared.op.FlowOp.TheVariants as op
use Rattle.drain_meaning.specs.declared.op.NearOp.{NearOp}
use Rattle.drain_meaning.specs.declared.op.NearOp.TheVariants.{Upstream, Downstream}
use Rattle.drain_meaning.specs.Accumulation.{accuflux_of, catchment_of, is_pit}
use Rattle.drain_meaning.specs.Drains.{DrainMap, IsDrainMap, next_at}
use Rattle.drain_meaning.specs.Equations.{passing, transport_of}
use Rattle.drain_meaning.specs.Flows.{material, together, total_flow}
use Rattle.drain_meaning.specs.Masks.{lddmask_of, leads_on}
use Rattle.drain_meaning.specs.Near.{near_outcome}
use Rattle.drain_meaning.specs.Paths.{IsDirected, IsFirstUnsound, IsFollowedBy, IsSound, path_of}
use Rattle.drain_meaning.specs.Sound.{IsDrain}
use Rattle.drain_meaning.specs.inside.FirstUnsound.{first_unsound}
use Rattle.drain_meaning.specs.Transports.{AreEnds, Transport, end_of, transport_outcome}

-- the cell that another one drains into is a cell of the map
abbrev pub StayInTheMap : Type 0
StayInTheMap = (m : DrainMap) → IsDrainMap m → (c d : ℕ) → next_at m c ≡ next.Cell d → d < length m.codes

-- the path of a cell, as a list, is the cell and those that follow on it down to a pit
abbrev pub ListTheirCells : Type 0
ListTheirCells = (m : DrainMap) (c : ℕ) (behind : List ℕ) → IsFollowedBy m c behind → path_of m c ≡ c ∷ behind

-- on a sound map the ends of a transport meet its equation
abbrev pub MeetTheirEquation : Type 0
MeetTheirEquation = (t : Transport) (m : DrainMap) (a b : ℕ → Cell) → IsSound m → AreEnds t m a b (end_of t m a b)

-- no other ends do
abbrev pub AreTheOnlyEnds : Type 0
AreTheOnlyEnds =
    (t : Transport) (m : DrainMap) (a b : ℕ → Cell) (ends : ℕ → FlowEnd) → IsSound m → AreEnds t m a b ends →
    (c : ℕ) → IsDirected m c → end_of t m a b c ≡ ends c

-- `accuflux` is the material of all cells whose path holds the cell
abbrev pub SumOverPaths : Type 0
SumOverPaths =
    (m : DrainMap) (a b : ℕ → Cell) → IsSound m → (c : ℕ) → IsDirected m c →
    end_of (transport_of op.Accuflux) m a b c ≡ passing (accuflux_of m a c)

-- What comes together at the pits of a sound map is the material of all cells with a direction; it is missing where one of
-- these is.
abbrev pub KeepMass : Type 0
KeepMass =
    (m : DrainMap) (a : ℕ → Cell) → IsSound m →
    let places = range_with_len 0 (length m.codes) in
    total_flow (map (accuflux_of m a) (filter (λ p. is_pit (next_at m p)) places))
    ≡ total_flow (map (λ q. material (a q)) (filter (λ q. leads_on (next_at m q)) places))

-- no operand of a cell with a direction is missing
abbrev pub ArePresent : DrainMap → (ℕ → Cell) → (ℕ → Cell) → Type 0
ArePresent m a b = (c : ℕ) → IsDirected m c → (a c ≢ cell.Mv) × (b c ≢ cell.Mv)

-- Where no operand is missing, what thresholds keep in the cells of a sound map and what they let flow out of its pits make up
-- the material of all cells with a direction.
abbrev pub KeepOrLetPass : Type 0
KeepOrLetPass =
    (m : DrainMap) (a b : ℕ → Cell) → IsSound m → ArePresent m a b →
    let places = range_with_len 0 (length m.codes) in
    together
    (total_flow (map (λ c. (end_of (transport_of op.ThresholdState) m a b c).result) (filter (λ c. leads_on (next_at m c)) places)))
    (total_flow (map (λ p. (end_of (transport_of op.ThresholdFlux) m a b p).result) (filter (λ p. is_pit (next_at m p)) places)))
    ≡ total_flow (map (λ q. material (a q)) (filter (λ q. leads_on (next_at m q)) places))

-- `catchment` is the point farthest down the path
abbrev pub ChooseOnPaths : Type 0
ChooseOnPaths =
    (m : DrainMap) (a b : ℕ → Cell) → IsSound m → (c : ℕ) → IsDirected m c →
    end_of (transport_of op.Catchment) m a b c ≡ passing (catchment_of m a c)

-- a map has no unsound place, or its first one is this
abbrev pub HasFirstUnsound : DrainMap → Option ℕ → Type 0
HasFirstUnsound m None = IsSound m
HasFirstUnsound m (Some place) = IsFirstUnsound m place

-- the first unsound place that is found is the first unsound place, and where none is found the map is sound
abbrev pub FindTheFirstUnsound : Type 0
FindTheFirstUnsound = (m : DrainMap) → HasFirstUnsound m (first_unsound m)

-- the part of a sound map that a mask keeps is a sound map
abbrev pub StaySound : Type 0
StaySound = (m : DrainMap) (mask : ℕ → Cell) → IsDrain m → IsDrain (lddmask_of m mask)

-- a step looks at the value of a cell: up stream at those that drain directly into c, down stream at the one that c drains into,
-- at a pit at its own
abbrev pub IsLookedAt : NearOp → DrainMap → ℕ → ℕ → Type 0
IsLookedAt Upstream m c u = next_at m u ≡ next.Cell c
IsLookedAt Downstream m c u = (next_at m c ≡ next.Cell u) ⊎ ((next_at m c ≡ next.Pit) × (u ≡ c))

-- on a sound map a step is missing exactly where there is no direction, or a value that it looks at is missing
abbrev pub StepsAreMissing : Type 0
StepsAreMissing =
    (o : NearOp) (m : DrainMap) (values : ℕ → Cell) → IsSound m → (c : ℕ) →
    (near_outcome o m values c ≡ Ok cell.Mv)
    ↔ ((next_at m c ≡ next.Missing) ⊎ ((u : ℕ) × IsLookedAt o m c u × (values u ≡ cell.Mv)))

-- a transport is missing where there is no direction
abbrev pub TransportsAreMissing : Type 0
TransportsAreMissing =
    (t : Transport) (kind : Kind) (m : DrainMap) (a b : ℕ → Cell) (c : ℕ) → next_at m c ≡ next.Missing →
    transport_outcome t kind m a b c ≡ Ok cell.Mv
