-- Catchments, and what a threshold keeps, stay in the range of their kind.
use Rattle.std.proofs.Common.{◌≡◌, ℕ, zero, suc, Bool, true, false, List, [], ◌∷◌, map, length, refl, subst, cond, arith}
use Rattle.std.specs.Prelude.{pos, ◌+ℤ◌, ◌-ℤ◌, ◌≤ℤ◌, int_lt, IsOk, ⊤}
use Rattle.std.specs.Ordering.{int_eq}
use Rattle.std.proofs.lemmas.Int.{ints}
use Rattle.cell_values.specs.declared.kind.Kind.{Kind}
use Rattle.cell_values.specs.declared.kind.Kind.TheVariants.{Scalar}
use Rattle.cell_values.specs.declared.cell.Cell.{Cell}
use Rattle.cell_values.specs.declared.cell.Cell.TheVariants.{Mv, Val}
use Rattle.cell_values.specs.Kinds.{IsCell, IsValue}
use Rattle.cell_values.proofs.Readings.{test-from_value}
use Rattle.drain_meaning.specs.declared.flow.Flow.{Flow}
use Rattle.drain_meaning.specs.declared.flow.Flow.TheVariants as flow
use Rattle.drain_meaning.specs.declared.next.Next.{Next}
use Rattle.drain_meaning.specs.declared.next.Next.TheVariants as next
use Rattle.drain_meaning.specs.declared.op.FlowOp.TheVariants as flows
use Rattle.drain_meaning.specs.Drains.{DrainMap, next_at}
use Rattle.drain_meaning.specs.Equations.{above_threshold, equation_of, farthest, gathered_material, keeping, transport_of}
use Rattle.drain_meaning.specs.Flows.{flow_outcome, material, together, total_flow}
use Rattle.drain_meaning.specs.Transports.{end_after, end_of, feeders, outlet, tributaries, transport_outcome, where_directed}
use Rattle.map_meaning.specs.Maps.{CellAt}

-- ---- flows that are cells

-- the flow is missing, or its number is a value of the kind
abbrev pub IsFlowOf : Kind → Flow → Type 0
IsFlowOf kind flow.Mv = ⊤
IsFlowOf kind (flow.Num z) = IsValue kind z

-- the flow of a cell
of_cell : (kind : Kind) (x : Cell) → IsCell kind x → IsFlowOf kind (material x)
of_cell kind Mv h = tt
of_cell kind (Val z) h = h

-- such a flow gives a cell
flow_cell : (kind : Kind) (f : Flow) → IsFlowOf kind f → IsOk (flow_outcome kind f)
flow_cell kind flow.Mv h = refl
flow_cell kind (flow.Num z) h = rw (test-from_value kind z h) refl

directed_cell : (kind : Kind) (n : Next) (f : Flow) → IsFlowOf kind f → IsOk (flow_outcome kind (where_directed n f))
directed_cell kind next.Missing f h = refl
directed_cell kind next.Pit f h = flow_cell kind f h
directed_cell kind next.Outside f h = flow_cell kind f h
directed_cell kind (next.Cell d) f h = flow_cell kind f h

-- ---- catchments

-- the farther of two points
farther : (kind : Kind) (f g : Flow) → IsFlowOf kind f → IsFlowOf kind g → IsFlowOf kind (farthest f g)
farther kind flow.Mv g hf hg = tt
farther kind (flow.Num a) flow.Mv hf hg = tt
farther kind (flow.Num a) (flow.Num b) hf hg = by_case (int_eq a (pos 0))
  where
    by_case : (t : Bool) → IsValue kind (cond t b a)
    by_case true = hg
    by_case false = hf

-- what comes up from the cell drained into, with nothing
alone : (kind : Kind) (f : Flow) → IsFlowOf kind f → IsFlowOf kind (total_flow (f ∷ []))
alone kind flow.Mv h = tt
alone kind (flow.Num z) h = let same : z ≡ z +ℤ pos 0 = omega (arith, ints) in subst (IsValue kind) same h

from_below : (kind : Kind) → IsValue kind (pos 0) → (n : Next) (f : ℕ → Flow) → ((u : ℕ) → IsFlowOf kind (f u)) → IsFlowOf kind (total_flow (map f (outlet n)))
from_below kind none (next.Cell d) f h = alone kind (f d) (h d)
from_below kind none next.Pit f h = none
from_below kind none next.Outside f h = none
from_below kind none next.Missing f h = none

catchment_after : (kind : Kind) → IsValue kind (pos 0) → (m : DrainMap) (a b : CellAt) → ((c : ℕ) → IsCell kind (a c)) → (steps c : ℕ) → IsFlowOf kind (end_after (transport_of flows.Catchment) m a b steps c).out
unfolding equation_of feeders
catchment_after kind none m a b cells zero c = tt
catchment_after kind none m a b cells (suc steps) c =
    farther kind (total_flow (map (λ u. (end_after (transport_of flows.Catchment) m a b steps u).out) (outlet (next_at m c)))) (material (a c))
    (from_below kind none (next_at m c) (λ u. (end_after (transport_of flows.Catchment) m a b steps u).out) (λ u. catchment_after kind none m a b cells steps u))
    (of_cell kind (a c) (cells c))

same_end : (m : DrainMap) (a b : CellAt) (steps c : ℕ) → (end_after (transport_of flows.Catchment) m a b steps c).out ≡ (end_after (transport_of flows.Catchment) m a b steps c).result
unfolding equation_of
same_end m a b zero c = refl
same_end m a b (suc steps) c = refl

-- a catchment of points of a kind that has 0 is a cell of the kind
pub catchment_stays : (kind : Kind) → IsValue kind (pos 0) → (m : DrainMap) (a b : CellAt) → ((c : ℕ) → IsCell kind (a c)) → (place : ℕ) → IsOk (transport_outcome (transport_of flows.Catchment) kind m a b place)
unfolding end_of
catchment_stays kind none m a b cells place =
    directed_cell kind (next_at m place) (end_after (transport_of flows.Catchment) m a b (length m.codes) place).result
    (subst (IsFlowOf kind) (same_end m a b (length m.codes) place) (catchment_after kind none m a b cells (length m.codes) place))

-- ---- thresholds

-- the flow is missing, or not below 0
abbrev NotBelow : Flow → Type 0
NotBelow flow.Mv = ⊤
NotBelow (flow.Num z) = pos 0 ≤ℤ z

-- what is above a threshold is not below 0
above_is : (f g : Flow) → NotBelow (above_threshold f g)
above_is flow.Mv g = tt
above_is (flow.Num a) flow.Mv = tt
above_is (flow.Num a) (flow.Num b) = by_case (int_lt (a -ℤ b) (pos 0)) refl
  where
    by_case : (t : Bool) → int_lt (a -ℤ b) (pos 0) ≡ t → pos 0 ≤ℤ cond t (pos 0) (a -ℤ b)
    by_case true h = omega (arith, ints)
    by_case false h = grind (arith, ints)

-- neither is what flows of that kind are together
together_is : (fs : List Flow) → (f : Flow) → NotBelow f → NotBelow (total_flow fs) → NotBelow (total_flow (f ∷ fs))
together_is fs flow.Mv hf hs = tt
together_is fs (flow.Num a) hf hs = by_rest (total_flow fs) hs
  where
    by_rest : (g : Flow) → NotBelow g → NotBelow (together (flow.Num a) g)
    by_rest flow.Mv hg = tt
    by_rest (flow.Num b) hg = omega (arith, ints, hf, hg)

all_together : (f : ℕ → Flow) → ((u : ℕ) → NotBelow (f u)) → (us : List ℕ) → NotBelow (total_flow (map f us))
all_together f h [] = omega (arith, ints)
all_together f h (u ∷ us) = together_is (map f us) (f u) (h u) (all_together f h us)

-- what flows out of a cell
outflow : (m : DrainMap) (a b : CellAt) (steps c : ℕ) → NotBelow (end_after (transport_of flows.ThresholdState) m a b steps c).out
unfolding equation_of
outflow m a b zero c = tt
outflow m a b (suc steps) c = above_is (gathered_material (map (λ u. (end_after (transport_of flows.ThresholdState) m a b steps u).out) (feeders (transport_of flows.ThresholdState).orient m c)) (a c)) (material (b c))

-- what is kept of inflows that are not below 0 is between the cell's own value and its threshold
kept : (inflow : Flow) (a b : Cell) → NotBelow inflow → IsCell Scalar a → IsCell Scalar b → IsFlowOf Scalar (keeping (together inflow (material a)) (above_threshold (together inflow (material a)) (material b))).result
kept flow.Mv a b hf ha hb = tt
kept (flow.Num f) Mv b hf ha hb = tt
kept (flow.Num f) (Val a) Mv hf ha hb = tt
kept (flow.Num f) (Val a) (Val b) hf ha hb = by_case (int_lt ((f +ℤ a) -ℤ b) (pos 0)) refl
  where
    by_case : (t : Bool) → int_lt ((f +ℤ a) -ℤ b) (pos 0) ≡ t → IsValue Scalar ((f +ℤ a) -ℤ cond t (pos 0) ((f +ℤ a) -ℤ b))
    by_case true h =
        let below : (f +ℤ a) ≤ℤ b = grind (arith, ints) in
        record { least = omega (arith, ints, hf, ha.least, hb.greatest, below); greatest = omega (arith, ints, hf, ha.least, hb.greatest, below) }
    by_case false h = record { least = omega (arith, ints, hb.least); greatest = omega (arith, ints, hb.greatest) }

state_after : (m : DrainMap) (a b : CellAt) → ((c : ℕ) → IsCell Scalar (a c)) → ((c : ℕ) → IsCell Scalar (b c)) → (steps c : ℕ) → IsFlowOf Scalar (end_after (transport_of flows.ThresholdState) m a b steps c).result
unfolding equation_of feeders
state_after m a b ha hb zero c = tt
state_after m a b ha hb (suc steps) c =
    kept (total_flow (map (λ u. (end_after (transport_of flows.ThresholdState) m a b steps u).out) (tributaries m c))) (a c) (b c)
    (all_together (λ u. (end_after (transport_of flows.ThresholdState) m a b steps u).out) (λ u. outflow m a b steps u) (tributaries m c))
    (ha c) (hb c)

-- what a threshold keeps of scalars is a scalar
pub state_stays : (m : DrainMap) (a b : CellAt) → ((c : ℕ) → IsCell Scalar (a c)) → ((c : ℕ) → IsCell Scalar (b c)) → (place : ℕ) → IsOk (transport_outcome (transport_of flows.ThresholdState) Scalar m a b place)
unfolding end_of
state_stays m a b ha hb place =
    directed_cell Scalar (next_at m place) (end_after (transport_of flows.ThresholdState) m a b (length m.codes) place).result (state_after m a b ha hb (length m.codes) place)
