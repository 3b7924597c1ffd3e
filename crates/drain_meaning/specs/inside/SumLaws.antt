-- The laws of the rules that add their inflows.
use Rattle.std.proofs.Common.{◌≡◌, ◌∙◌, ℕ, ◌+◌, ◌<◌, List, [], ◌∷◌, refl, ap, arith, Bool, true, false}
use Rattle.std.specs.Prelude.{ℤ, pos, ◌+ℤ◌, ◌-ℤ◌, int_lt, if◌then◌else◌}
use Rattle.std.specs.Ordering.{int_eq}
use Rattle.std.proofs.lemmas.Int.{ints}
use Rattle.text_base.specs.Limits.{most_cells}
use Rattle.cell_values.specs.declared.cell.Cell.{Cell}
use Rattle.cell_values.specs.declared.cell.Cell.TheVariants as cell
use Rattle.cell_values.specs.declared.kind.Kind.TheVariants.{Scalar}
use Rattle.cell_values.specs.Kinds.{IsCell, IsValue}
use Rattle.drain_meaning.specs.declared.end.FlowEnd.{FlowEnd}
use Rattle.drain_meaning.specs.declared.flow.Flow.{Flow}
use Rattle.drain_meaning.specs.declared.flow.Flow.TheVariants as flow
use Rattle.drain_meaning.specs.declared.op.FlowOp.TheVariants as op
use Rattle.drain_meaning.specs.Equations.{equation_of, farthest, passing, threshold_op, transport_of}
use Rattle.drain_meaning.specs.Flows.{FitsCells, FlowFits, material, nothing, together, total_flow}
use Rattle.drain_meaning.specs.Rules.{RuleLaws, joined_all}
use Rattle.drain_meaning.specs.Sums.{accu_rule, adding, point_rule, threshold_end, threshold_rule}
use Rattle.drain_meaning.specs.Transports.{Transport}

-- nothing adds nothing
pub together_unit : (x : Flow) → together x nothing ≡ x
together_unit flow.Mv = refl
together_unit (flow.Num x) = ap (λ (y : ℤ). flow.Num y) (omega (arith, ints))

-- the order of two flows does not matter
pub together_swap : (x y : Flow) → together x y ≡ together y x
together_swap flow.Mv flow.Mv = refl
together_swap flow.Mv (flow.Num y) = refl
together_swap (flow.Num x) flow.Mv = refl
together_swap (flow.Num x) (flow.Num y) = ap (λ (z : ℤ). flow.Num z) (omega (arith, ints))

-- nor does it matter which of three are taken together first
pub together_regroup : (x y z : Flow) → together (together x y) z ≡ together x (together y z)
together_regroup flow.Mv y z = refl
together_regroup (flow.Num x) flow.Mv z = refl
together_regroup (flow.Num x) (flow.Num y) flow.Mv = refl
together_regroup (flow.Num x) (flow.Num y) (flow.Num z) = ap (λ (w : ℤ). flow.Num w) (omega (arith, ints))

-- what adding rules join is the total
pub joined_all-adding : (ended : Flow → Cell → Cell → FlowEnd) (flows : List Flow) →
    joined_all (adding ended) flows ≡ total_flow flows
joined_all-adding ended [] = refl
joined_all-adding ended (f ∷ flows) = ap (λ (y : Flow). together f y) (joined_all-adding ended flows)

-- two flows together fit both loads together
together_fits : (x y : Flow) (m n : ℕ) → FlowFits x m → FlowFits y n → FlowFits (together x y) (m + n)
together_fits flow.Mv y m n f g = tt
together_fits (flow.Num x) flow.Mv m n f g = tt
together_fits (flow.Num x) (flow.Num y) m n f g = (omega (arith, ints, f.0, g.0), omega (arith, ints, f.1, g.1))

-- the material of a cell with an inflow
material_fits : (x : Flow) (a : Cell) (n : ℕ) → FlowFits x n → IsCell Scalar a → FlowFits (together x (material a)) (n + 1)
material_fits flow.Mv a n f g = tt
material_fits (flow.Num x) cell.Mv n f g = tt
material_fits (flow.Num x) (cell.Val z) n f g =
    (omega (arith, ints, f.0, f.1, g.least, g.greatest), omega (arith, ints, f.0, f.1, g.least, g.greatest))

-- a flow that comes of an inflow and two cells fits one cell more than the inflow
abbrev GrowsByOne : (Flow → Cell → Cell → Flow) → Type 0
GrowsByOne flow_of =
    (x : Flow) (a b : Cell) (n : ℕ) → FlowFits x n → n < most_cells → IsCell Scalar a → IsCell Scalar b →
    FlowFits (flow_of x a b) (n + 1)

-- a rule that adds, by what its ends are
adding_laws : (t : Transport) (ended : Flow → Cell → Cell → FlowEnd) →
    ((flows : List Flow) (a b : Cell) → ended (total_flow flows) a b ≡ t.equation flows a b) →
    GrowsByOne (λ x a b. (ended x a b).out) →
    GrowsByOne (λ x a b. (ended x a b).result) →
    RuleLaws t (adding ended)
adding_laws t ended means outs results = record {
  unit = together_unit;
  swap = together_swap;
  regroup = together_regroup;
  means = λ flows a b. ap (λ (y : Flow). ended y a b) (joined_all-adding ended flows) ∙ means flows a b;
  none_fits = (omega (arith, ints), omega (arith, ints));
  lifted_fits = λ f n h. h;
  joined_fits = λ x y m n f g h. together_fits x y m n f g;
  out_fits = outs;
  result_fits = results;
}

-- the rule gives the ends of its transport
accu_means : (flows : List Flow) (a b : Cell) → passing (together (total_flow flows) (material a)) ≡ equation_of op.Accuflux flows a b
unfolding equation_of
accu_means flows a b = refl

-- the laws of the rule of `accuflux`
pub accu_laws : RuleLaws (transport_of op.Accuflux) accu_rule
accu_laws = adding_laws (transport_of op.Accuflux) (λ inflow a b. passing (together inflow (material a))) accu_means
    (λ x a b n f h g k. material_fits x a n f g)
    (λ x a b n f h g k. material_fits x a n f g)

-- what a threshold lets pass
passed_fits : (o : Bool) (x y z : ℤ) (n : ℕ) → FitsCells x n → IsValue Scalar y → IsValue Scalar z →
    FitsCells (if o then pos 0 else ((x +ℤ y) -ℤ z)) (n + 1)
passed_fits true x y z n f g h = (omega (arith, ints), omega (arith, ints))
passed_fits false x y z n f g h = (
  omega (arith, ints, f.0, f.1, g.least, g.greatest, h.least, h.greatest),
  omega (arith, ints, f.0, f.1, g.least, g.greatest, h.least, h.greatest),
)

-- what a threshold keeps
kept_fits : (o : Bool) (x y z : ℤ) (n : ℕ) → FitsCells x n → IsValue Scalar y → IsValue Scalar z →
    FitsCells ((x +ℤ y) -ℤ (if o then pos 0 else ((x +ℤ y) -ℤ z))) (n + 1)
kept_fits true x y z n f g h =
    (omega (arith, ints, f.0, f.1, g.least, g.greatest), omega (arith, ints, f.0, f.1, g.least, g.greatest))
kept_fits false x y z n f g h =
    (omega (arith, ints, f.0, f.1, h.least, h.greatest), omega (arith, ints, f.0, f.1, h.least, h.greatest))

-- the total and the threshold at a cell
threshold_fits : (state : Bool) (x : Flow) (a b : Cell) (n : ℕ) → FlowFits x n → IsCell Scalar a → IsCell Scalar b →
    FlowFits (threshold_end state (together x (material a)) b).out (n + 1)
    × FlowFits (threshold_end state (together x (material a)) b).result (n + 1)
threshold_fits true flow.Mv a b n f g h = (tt, tt)
threshold_fits false flow.Mv a b n f g h = (tt, tt)
threshold_fits true (flow.Num x) cell.Mv b n f g h = (tt, tt)
threshold_fits false (flow.Num x) cell.Mv b n f g h = (tt, tt)
threshold_fits true (flow.Num x) (cell.Val y) cell.Mv n f g h = (tt, tt)
threshold_fits false (flow.Num x) (cell.Val y) cell.Mv n f g h = (tt, tt)
threshold_fits true (flow.Num x) (cell.Val y) (cell.Val z) n f g h =
    let none = int_lt ((x +ℤ y) -ℤ z) (pos 0) in (passed_fits none x y z n f g h, kept_fits none x y z n f g h)
threshold_fits false (flow.Num x) (cell.Val y) (cell.Val z) n f g h =
    let none = int_lt ((x +ℤ y) -ℤ z) (pos 0) in (passed_fits none x y z n f g h, passed_fits none x y z n f g h)

-- the rule gives the ends of its transport
threshold_means : (state : Bool) (flows : List Flow) (a b : Cell) →
    threshold_end state (together (total_flow flows) (material a)) b ≡ equation_of (threshold_op state) flows a b
unfolding equation_of
threshold_means true flows a b = refl
threshold_means false flows a b = refl

-- the laws of the rules of the operations with a threshold
pub threshold_laws : (state : Bool) → RuleLaws (transport_of (threshold_op state)) (threshold_rule state)
threshold_laws state = adding_laws (transport_of (threshold_op state))
    (λ inflow a b. threshold_end state (together inflow (material a)) b) (threshold_means state)
    (λ x a b n f h g k. (threshold_fits state x a b n f g k).0)
    (λ x a b n f h g k. (threshold_fits state x a b n f g k).1)

-- the rule gives the ends of its transport
point_means : (flows : List Flow) (a b : Cell) → passing (farthest (total_flow flows) (material a)) ≡ equation_of op.Catchment flows a b
unfolding equation_of
point_means flows a b = refl

-- the one of two numbers that is chosen
grow_choice : (o : Bool) (x z : ℤ) (n : ℕ) → FitsCells x n → IsValue Scalar z → FitsCells (if o then z else x) (n + 1)
grow_choice true x z n f g =
    (omega (arith, ints, f.0, f.1, g.least, g.greatest), omega (arith, ints, f.0, f.1, g.least, g.greatest))
grow_choice false x z n f g = (omega (arith, ints, f.0, f.1), omega (arith, ints, f.0, f.1))

-- the farthest of an inflow and a point
farthest_fits : (x : Flow) (a : Cell) (n : ℕ) → FlowFits x n → IsCell Scalar a → FlowFits (farthest x (material a)) (n + 1)
farthest_fits flow.Mv a n f g = tt
farthest_fits (flow.Num x) cell.Mv n f g = tt
farthest_fits (flow.Num x) (cell.Val z) n f g = grow_choice (int_eq x (pos 0)) x z n f g

-- the laws of the rule of `catchment`
pub point_laws : RuleLaws (transport_of op.Catchment) point_rule
point_laws = adding_laws (transport_of op.Catchment) (λ inflow a b. passing (farthest inflow (material a))) point_means
    (λ x a b n f h g k. farthest_fits x a n f g)
    (λ x a b n f h g k. farthest_fits x a n f g)
