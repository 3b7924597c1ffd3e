-- Which results can be out of range.
use Rattle.std.proofs.Common.{◌≡◌, ℕ, ◌+◌, ◌*◌, ◌%◌, ◌<◌, ◌≤◌, ◌&&◌, Bool, true, false, List, length, refl, sym, subst, Ok, cond, arith, lit<}
use Rattle.std.specs.Prelude.{All, ℤ, pos, negsuc, neg_ℤ, unsigned_abs, ◌*ℤ◌, int_le, int_lt, not, ◌||◌, IsOk, nat_le}
use Rattle.std.specs.Int.{int_rem_euclid}
use Rattle.std.specs.Ordering.{int_eq}
use Rattle.std.proofs.Math.Nat.{mod-lt}
use Rattle.std.proofs.lemmas.Bool.{and_parts}
use Rattle.std.proofs.lemmas.Int.{ints}
use Rattle.cell_values.specs.declared.kind.Kind.{Kind}
use Rattle.cell_values.specs.declared.kind.Kind.TheVariants.{Boolean, Nominal, Ordinal, Scalar, Directional, Ldd}
use Rattle.cell_values.specs.declared.cell.Cell.{Cell}
use Rattle.cell_values.specs.declared.cell.Cell.TheVariants.{Mv, Val}
use Rattle.cell_values.specs.Kinds.{IsCell, IsValue, cell_of_number}
use Rattle.cell_values.specs.Arithmetic.{at_cells}
use Rattle.cell_values.specs.Conversion.{conversion_of, has_direction, has_truth}
use Rattle.cell_values.specs.Rounding.{IsNearest, nearest}
use Rattle.cell_values.proofs.Nearest.{nearest-IsNearest}
use Rattle.cell_values.proofs.Readings.{test-from_value, value-from_test}
use Rattle.time_series.specs.Values.{cell_in_row, cells_at}
use Rattle.tile_map.specs.Cuts.{cell_at}
use Rattle.region_meaning.specs.declared.area.AreaOp.TheVariants as area
use Rattle.region_meaning.specs.declared.window.WindowOp.TheVariants as window
use Rattle.region_meaning.proofs.Callers.{area_outcome-average_ok, area_outcome-diversity_ok, area_outcome-of_kind_ok, area_outcome-size_ok, window_outcome-average_ok, window_outcome-diversity_ok, window_outcome-of_kind_ok}
use Rattle.drain_meaning.specs.declared.next.Next.{Next}
use Rattle.drain_meaning.specs.declared.next.Next.TheVariants as next
use Rattle.drain_meaning.specs.declared.op.NearOp.TheVariants as near
use Rattle.drain_meaning.specs.Drains.{next_at}
use Rattle.drain_meaning.specs.Flows.{flow_outcome, material}
use Rattle.drain_meaning.specs.Near.{drained_place, near_outcome}
use Rattle.drain_meaning.specs.Transports.{transport_outcome, where_directed}
use Rattle.drain_meaning.specs.Equations.{transport_of}
use Rattle.drain_meaning.specs.declared.op.FlowOp.TheVariants as flows
use Rattle.map_meaning.specs.declared.op.Op.{Op}
use Rattle.map_meaning.specs.declared.op.Op.TheVariants as op
use Rattle.map_meaning.specs.Laws.{AreMapsOfKinds}
use Rattle.map_meaning.specs.Local.{defined_of, cover_of, if_else_of, if_then_of, is_either, is_one, truth}
use Rattle.map_meaning.specs.Maps.{CellAt}
use Rattle.map_meaning.specs.Missing.{at_cell}
use Rattle.map_meaning.specs.Overs.{may_be_over}
use Rattle.map_meaning.specs.Rules.{Setting, alike, drain_by, kind_at, operand_at, outcome_of, reach_of, rule_of, setting_places, whole_by, zone_places}
use Rattle.map_meaning.specs.Table.{HasKinds, allows, ask_at, is_kind, map_row, row_of}
use Rattle.map_meaning.specs.Whole.{whole_above, whole_below, whole_nearest}
use Rattle.map_meaning.proofs.Callers.{same_kind}
use Rattle.map_meaning.proofs.FlowsInRange.{catchment_stays, state_stays}
use Rattle.map_meaning.proofs.InKinds.{at_place, from_least, no_row, whole_in, zones_few, zones_in}
use Rattle.map_meaning.proofs.NearWhole.{above, below}
use Rattle.map_meaning.proofs.laws.few_operations_leave_their_range.Goals as goal

-- ---- numbers

-- a number in range gives a cell
fits : (kind : Kind) (z : ℤ) → IsValue kind z → IsOk (cell_of_number kind z)
fits kind z h = rw (test-from_value kind z h) refl

-- a function of one scalar that stays in range
on_scalar : (f : ℤ → ℤ) → ((z : ℤ) → IsValue Scalar z → IsValue Scalar (f z)) → (x : Cell) → IsCell Scalar x → IsOk (at_cell (λ a. cell_of_number Scalar (f a)) x)
on_scalar f stays Mv h = refl
on_scalar f stays (Val z) h = fits Scalar (f z) (stays z h)

negative_stays : (z : ℤ) → IsValue Scalar z → IsValue Scalar (neg_ℤ z)
negative_stays z h = record { least = omega (arith, ints, h.least, h.greatest); greatest = omega (arith, ints, h.least, h.greatest) }

size_stays : (z : ℤ) → IsValue Scalar z → IsValue Scalar (pos (unsigned_abs z))
size_stays z h = record { least = omega (arith, ints, h.least, h.greatest); greatest = omega (arith, ints, h.least, h.greatest) }

below_stays : (z : ℤ) → IsValue Scalar z → IsValue Scalar (whole_below z)
below_stays z h =
    let near = below z in
    let k : ℤ = near.whole.0 in
    let is : whole_below z ≡ k *ℤ pos 1000000 = near.whole.1 in
    record {
      least = omega (arith, ints, is, near.not_above, near.greatest, h.least, h.greatest);
      greatest = omega (arith, ints, is, near.not_above, near.greatest, h.least, h.greatest);
    }

above_stays : (z : ℤ) → IsValue Scalar z → IsValue Scalar (whole_above z)
above_stays z h =
    let near = above z in
    let k : ℤ = near.whole.0 in
    let is : whole_above z ≡ k *ℤ pos 1000000 = near.whole.1 in
    record {
      least = omega (arith, ints, is, near.not_below, near.least, h.least, h.greatest);
      greatest = omega (arith, ints, is, near.not_below, near.least, h.least, h.greatest);
    }

nearest_stays : (z : ℤ) → IsValue Scalar z → IsValue Scalar (whole_nearest z)
nearest_stays z h =
    let q : ℤ = nearest z 1000000 in
    let near : IsNearest z (pos 1000000) q = nearest-IsNearest z 1000000 (lit< tt) in
    let most : 2 * (unsigned_abs q * 1000000) ≤ 2 * unsigned_abs z + 1000000 = near.size.above in
    record { least = omega (arith, ints, most, h.least, h.greatest); greatest = omega (arith, ints, most, h.least, h.greatest) }

-- ---- conversions

to_boolean : (b : Bool) → IsOk (cell_of_number Boolean (cond b (pos 0) (pos 1)))
to_boolean true = refl
to_boolean false = refl

boolean_from : (k : Kind) (x : Cell) → has_truth k ≡ true → IsCell k x → IsOk (conversion_of k Boolean x)
boolean_from k Mv may h = refl
boolean_from Boolean (Val z) may h = fits Boolean z h
boolean_from Nominal (Val z) may h = to_boolean (int_eq z (pos 0))
boolean_from Ordinal (Val z) may h = to_boolean (int_eq z (pos 0))
boolean_from Scalar (Val z) may h = to_boolean (int_eq z (pos 0))
boolean_from Directional (Val z) may h = absurd (cc)
boolean_from Ldd (Val z) may h = absurd (cc)

scalar_from : (k : Kind) (x : Cell) → IsCell k x → IsOk (conversion_of k Scalar x)
scalar_from k Mv h = refl
scalar_from Boolean (Val z) h = fits Scalar (z *ℤ pos 1000000) (record { least = omega (arith, ints, h.least, h.greatest); greatest = omega (arith, ints, h.least, h.greatest) })
scalar_from Nominal (Val z) h = fits Scalar (z *ℤ pos 1000000) (record { least = omega (arith, ints, h.least, h.greatest); greatest = omega (arith, ints, h.least, h.greatest) })
scalar_from Ordinal (Val z) h = fits Scalar (z *ℤ pos 1000000) (record { least = omega (arith, ints, h.least, h.greatest); greatest = omega (arith, ints, h.least, h.greatest) })
scalar_from Scalar (Val z) h = fits Scalar z h
scalar_from Directional (Val z) h = fits Scalar z (record { least = omega (arith, ints, h.least, h.greatest); greatest = omega (arith, ints, h.least, h.greatest) })
scalar_from Ldd (Val z) h = fits Scalar (z *ℤ pos 1000000) (record { least = omega (arith, ints, h.least, h.greatest); greatest = omega (arith, ints, h.least, h.greatest) })

turned : (z : ℤ) → IsValue Directional (int_rem_euclid z (pos 360000000))
turned (pos n) =
    let small : n % 360000000 < 360000000 = mod-lt n (lit< tt) in
    record { least = omega (arith, ints, small); greatest = omega (arith, ints, small) }
turned (negsuc n) =
    let small : n % 360000000 < 360000000 = mod-lt n (lit< tt) in
    record { least = omega (arith, ints, small); greatest = omega (arith, ints, small) }

direction_from : (k : Kind) (x : Cell) → has_direction k ≡ true → IsCell k x → IsOk (conversion_of k Directional x)
direction_from k Mv may h = refl
direction_from Boolean (Val z) may h = absurd (cc)
direction_from Nominal (Val z) may h = absurd (cc)
direction_from Ordinal (Val z) may h = absurd (cc)
direction_from Scalar (Val z) may h = fits Directional (int_rem_euclid z (pos 360000000)) (turned z)
direction_from Directional (Val z) may h = fits Directional z h
direction_from Ldd (Val z) may h = absurd (cc)

-- ---- operations by their form

-- an operation on two numbers that gives a cell
cells_ok : (f : ℤ → ℤ → Cell) (x y : Cell) → IsOk (at_cells (λ a b. Ok (f a b)) x y)
cells_ok f Mv y = refl
cells_ok f (Val a) Mv = refl
cells_ok f (Val a) (Val b) = refl

-- an operation on one number that gives a cell
cell_ok : (f : ℤ → Cell) (x : Cell) → IsOk (at_cell (λ a. Ok (f a)) x)
cell_ok f Mv = refl
cell_ok f (Val a) = refl

if_then_ok : (c x : Cell) → IsOk (if_then_of c x)
if_then_ok Mv x = refl
if_then_ok (Val c) x = refl

if_else_ok : (c x y : Cell) → IsOk (if_else_of c x y)
if_else_ok Mv x y = refl
if_else_ok (Val c) x y = refl

cover_ok : (x y : Cell) → IsOk (cover_of x y)
cover_ok Mv y = refl
cover_ok (Val a) y = refl

defined_ok : (x : Cell) → IsOk (defined_of x)
defined_ok Mv = refl
defined_ok (Val a) = refl

-- ---- down stream

-- what is there of a cell, where there is a direction
directed_ok : (n : Next) (x : Cell) → IsCell Scalar x → IsOk (flow_outcome Scalar (where_directed n (material x)))
directed_ok next.Missing x h = refl
directed_ok next.Pit Mv h = refl
directed_ok next.Pit (Val z) h = fits Scalar z h
directed_ok next.Outside Mv h = refl
directed_ok next.Outside (Val z) h = fits Scalar z h
directed_ok (next.Cell d) Mv h = refl
directed_ok (next.Cell d) (Val z) h = fits Scalar z h

downstream_ok : (setting : Setting) (codes values : CellAt) (place : ℕ) → All (IsCell Scalar) (whole_by setting values) → IsOk (near_outcome near.Downstream (drain_by setting codes) (cell_at (whole_by setting values)) place)
unfolding near_outcome
downstream_ok setting codes values place all =
    let n = next_at (drain_by setting codes) place in
    directed_ok n (cell_at (whole_by setting values) (drained_place place n)) (at_place Scalar (whole_by setting values) (drained_place place n) all)

-- ---- transports

-- each cell of a map of a kind is of it, and what is past its end is missing
each_cell : (kind : Kind) (m : List Cell) → All (IsCell kind) m → (place : ℕ) → IsCell kind (cell_at m place)
each_cell kind m all place = at_place kind m place all

-- 0 is a point
zero_in : (common kind : Kind) → allows common (ask_at (map_row (row_of (op.Flow flows.Catchment))) 1) kind ≡ true → IsValue kind (pos 0)
unfolding row_of
zero_in common Boolean h = value-from_test Boolean (pos 0) refl
zero_in common Nominal h = value-from_test Nominal (pos 0) refl
zero_in common Ordinal h = value-from_test Ordinal (pos 0) refl
zero_in common Scalar h = absurd (cc)
zero_in common Directional h = absurd (cc)
zero_in common Ldd h = absurd (cc)

-- ---- the operations

-- one operand is there
one_there : (n high : ℕ) → (nat_le 1 n && nat_le n high) ≡ true → 0 < n
one_there n high h = let parts = and_parts (nat_le 1 n) (nat_le n high) h in grind (arith, parts.0)

-- the first of two operands is there, and the second
two_there : (n high : ℕ) → (nat_le 2 n && nat_le n high) ≡ true → 0 < n
two_there n high h = let parts = and_parts (nat_le 2 n) (nat_le n high) h in grind (arith, parts.0)

second_there : (n high : ℕ) → (nat_le 2 n && nat_le n high) ≡ true → 1 < n
second_there n high h = let parts = and_parts (nat_le 2 n) (nat_le n high) h in grind (arith, parts.0)

-- a cell of a kind that is a scalar
scalar_cell : (k : Kind) (x : Cell) → is_kind Scalar k ≡ true → IsCell k x → IsCell Scalar x
scalar_cell k x same h = subst (λ j. IsCell j x) (sym (same_kind Scalar k same)) h

stays : (o : Op) (setting : Setting) (kind : Kind) (operands : List CellAt) (place : ℕ) → may_be_over o ≡ false → HasKinds (map_row (row_of o)) setting.kinds kind → AreMapsOfKinds setting operands → place < setting_places setting → IsOk (outcome_of o setting operands place)
unfolding row_of rule_of
stays op.CopyOf setting kind operands place may h maps below = refl
stays op.Add setting kind operands place may h maps below = absurd (cc)
stays op.Sub setting kind operands place may h maps below = absurd (cc)
stays op.Mul setting kind operands place may h maps below = absurd (cc)
stays op.Div setting kind operands place may h maps below = absurd (cc)
stays op.IntDiv setting kind operands place may h maps below = absurd (cc)
stays op.ToNominal setting kind operands place may h maps below = absurd (cc)
stays op.ToOrdinal setting kind operands place may h maps below = absurd (cc)
stays op.IntMod setting kind operands place may h maps below = refl
stays op.Neg setting kind operands place may h maps below = let there = one_there (length setting.kinds) 1 h.count in on_scalar (λ z. neg_ℤ z) negative_stays (operand_at operands 0 place) (scalar_cell (kind_at setting.kinds 0) (operand_at operands 0 place) (h.each 0 there) (maps.kinds place below 0 there))
stays op.Abs setting kind operands place may h maps below = let there = one_there (length setting.kinds) 1 h.count in on_scalar (λ z. pos (unsigned_abs z)) size_stays (operand_at operands 0 place) (scalar_cell (kind_at setting.kinds 0) (operand_at operands 0 place) (h.each 0 there) (maps.kinds place below 0 there))
stays op.RoundDown setting kind operands place may h maps below = let there = one_there (length setting.kinds) 1 h.count in on_scalar (λ z. whole_below z) below_stays (operand_at operands 0 place) (scalar_cell (kind_at setting.kinds 0) (operand_at operands 0 place) (h.each 0 there) (maps.kinds place below 0 there))
stays op.RoundUp setting kind operands place may h maps below = let there = one_there (length setting.kinds) 1 h.count in on_scalar (λ z. whole_above z) above_stays (operand_at operands 0 place) (scalar_cell (kind_at setting.kinds 0) (operand_at operands 0 place) (h.each 0 there) (maps.kinds place below 0 there))
stays op.RoundOff setting kind operands place may h maps below = let there = one_there (length setting.kinds) 1 h.count in on_scalar (λ z. whole_nearest z) nearest_stays (operand_at operands 0 place) (scalar_cell (kind_at setting.kinds 0) (operand_at operands 0 place) (h.each 0 there) (maps.kinds place below 0 there))
stays op.Min setting kind operands place may h maps below = cells_ok (λ a b. Val (cond (int_le a b) a b)) (operand_at operands 0 place) (operand_at operands 1 place)
stays op.Max setting kind operands place may h maps below = cells_ok (λ a b. Val (cond (int_le a b) b a)) (operand_at operands 0 place) (operand_at operands 1 place)
stays op.Equal setting kind operands place may h maps below = cells_ok (λ a b. truth (int_eq a b)) (operand_at operands 0 place) (operand_at operands 1 place)
stays op.NotEqual setting kind operands place may h maps below = cells_ok (λ a b. truth (not (int_eq a b))) (operand_at operands 0 place) (operand_at operands 1 place)
stays op.Less setting kind operands place may h maps below = cells_ok (λ a b. truth (int_lt a b)) (operand_at operands 0 place) (operand_at operands 1 place)
stays op.LessEqual setting kind operands place may h maps below = cells_ok (λ a b. truth (int_le a b)) (operand_at operands 0 place) (operand_at operands 1 place)
stays op.Greater setting kind operands place may h maps below = cells_ok (λ a b. truth (int_lt b a)) (operand_at operands 0 place) (operand_at operands 1 place)
stays op.GreaterEqual setting kind operands place may h maps below = cells_ok (λ a b. truth (int_le b a)) (operand_at operands 0 place) (operand_at operands 1 place)
stays op.And setting kind operands place may h maps below = cells_ok (λ a b. truth (is_one a && is_one b)) (operand_at operands 0 place) (operand_at operands 1 place)
stays op.Or setting kind operands place may h maps below = cells_ok (λ a b. truth (is_one a || is_one b)) (operand_at operands 0 place) (operand_at operands 1 place)
stays op.Xor setting kind operands place may h maps below = cells_ok (λ a b. truth (is_either (is_one a) (is_one b))) (operand_at operands 0 place) (operand_at operands 1 place)
stays op.Not setting kind operands place may h maps below = cell_ok (λ a. truth (not (is_one a))) (operand_at operands 0 place)
stays op.IfThen setting kind operands place may h maps below = if_then_ok (operand_at operands 0 place) (operand_at operands 1 place)
stays op.IfElse setting kind operands place may h maps below = if_else_ok (operand_at operands 0 place) (operand_at operands 1 place) (operand_at operands 2 place)
stays op.Cover setting kind operands place may h maps below = cover_ok (operand_at operands 0 place) (operand_at operands 1 place)
stays op.Defined setting kind operands place may h maps below = defined_ok (operand_at operands 0 place)
stays op.ToBoolean setting kind operands place may h maps below = let there = one_there (length setting.kinds) 1 h.count in boolean_from (kind_at setting.kinds 0) (operand_at operands 0 place) (h.each 0 there) (maps.kinds place below 0 there)
stays op.ToDirectional setting kind operands place may h maps below = let there = one_there (length setting.kinds) 1 h.count in direction_from (kind_at setting.kinds 0) (operand_at operands 0 place) (h.each 0 there) (maps.kinds place below 0 there)
stays op.ToScalar setting kind operands place may h maps below = scalar_from (kind_at setting.kinds 0) (operand_at operands 0 place) (maps.kinds place below 0 (one_there (length setting.kinds) 1 h.count))
stays op.LookupBoolean setting kind operands place may h maps below = refl
stays op.LookupNominal setting kind operands place may h maps below = refl
stays op.LookupOrdinal setting kind operands place may h maps below = refl
stays op.LookupScalar setting kind operands place may h maps below = refl
stays op.LookupDirectional setting kind operands place may h maps below = refl
stays op.TimeInputBoolean setting kind operands place may h maps below = cell_ok (λ id. cell_in_row (cells_at setting.series.rows setting.step) id) (operand_at operands 0 place)
stays op.TimeInputNominal setting kind operands place may h maps below = cell_ok (λ id. cell_in_row (cells_at setting.series.rows setting.step) id) (operand_at operands 0 place)
stays op.TimeInputOrdinal setting kind operands place may h maps below = cell_ok (λ id. cell_in_row (cells_at setting.series.rows setting.step) id) (operand_at operands 0 place)
stays op.TimeInputScalar setting kind operands place may h maps below = cell_ok (λ id. cell_in_row (cells_at setting.series.rows setting.step) id) (operand_at operands 0 place)
stays op.TimeInputDirectional setting kind operands place may h maps below = cell_ok (λ id. cell_in_row (cells_at setting.series.rows setting.step) id) (operand_at operands 0 place)
stays op.WindowTotal setting kind operands place may h maps below = absurd (cc)
stays op.AreaTotal setting kind operands place may h maps below = absurd (cc)
stays op.MapTotal setting kind operands place may h maps below = absurd (cc)
stays (op.Near near.Upstream) setting kind operands place may h maps below = absurd (cc)
stays (op.Flow flows.Accuflux) setting kind operands place may h maps below = absurd (cc)
stays (op.Flow flows.ThresholdFlux) setting kind operands place may h maps below = absurd (cc)
stays (op.Flow flows.ThresholdState) setting kind operands place may h maps below =
    let three : 3 ≤ length setting.kinds = from_least (length setting.kinds) 3 3 h.count in
    let first : Scalar ≡ kind_at setting.kinds 1 = same_kind Scalar (kind_at setting.kinds 1) (h.each 1 (omega (arith, three))) in
    let second : Scalar ≡ kind_at setting.kinds 2 = same_kind Scalar (kind_at setting.kinds 2) (h.each 2 (omega (arith, three))) in
    subst (λ k. IsOk (transport_outcome (transport_of flows.ThresholdState) k (drain_by setting (operand_at operands 0)) (cell_at (whole_by setting (operand_at operands 1))) (cell_at (whole_by setting (operand_at operands 2))) place)) first
    (state_stays (drain_by setting (operand_at operands 0)) (cell_at (whole_by setting (operand_at operands 1))) (cell_at (whole_by setting (operand_at operands 2)))
    (each_cell Scalar (whole_by setting (operand_at operands 1)) (subst (λ k. All (IsCell k) (whole_by setting (operand_at operands 1))) (sym first) (whole_in setting operands 1 (omega (arith, three)) maps)))
    (each_cell Scalar (whole_by setting (operand_at operands 2)) (subst (λ k. All (IsCell k) (whole_by setting (operand_at operands 2))) (sym second) (whole_in setting operands 2 (omega (arith, three)) maps)))
    place)
stays (op.Flow flows.Catchment) setting kind operands place may h maps below =
    let there = second_there (length setting.kinds) 2 h.count in
    catchment_stays (kind_at setting.kinds 1) (zero_in (kind_at setting.kinds 0) (kind_at setting.kinds 1) (h.each 1 there)) (drain_by setting (operand_at operands 0)) (cell_at (whole_by setting (operand_at operands 1))) (cell_at (whole_by setting (operand_at operands 2)))
    (each_cell (kind_at setting.kinds 1) (whole_by setting (operand_at operands 1)) (whole_in setting operands 1 there maps)) place
stays (op.Flow flows.CapacityFlux) setting kind operands place may h maps below = absurd (no_row (length setting.kinds) h.count)
stays (op.Flow flows.CapacityState) setting kind operands place may h maps below = absurd (no_row (length setting.kinds) h.count)
stays (op.Flow flows.TriggerFlux) setting kind operands place may h maps below = absurd (no_row (length setting.kinds) h.count)
stays (op.Flow flows.TriggerState) setting kind operands place may h maps below = absurd (no_row (length setting.kinds) h.count)
stays (op.Flow flows.FractionFlux) setting kind operands place may h maps below = absurd (no_row (length setting.kinds) h.count)
stays (op.Flow flows.FractionState) setting kind operands place may h maps below = absurd (no_row (length setting.kinds) h.count)
stays (op.Flow flows.Subcatchment) setting kind operands place may h maps below = absurd (no_row (length setting.kinds) h.count)
stays (op.Flow flows.PathOf) setting kind operands place may h maps below = absurd (no_row (length setting.kinds) h.count)
stays (op.Flow flows.StreamOrder) setting kind operands place may h maps below = absurd (no_row (length setting.kinds) h.count)
stays op.WindowAverage setting kind operands place may h maps below = let there = one_there (length setting.kinds) 1 h.count in window_outcome-average_ok setting.rows setting.cols (reach_of setting.window) (whole_by setting (operand_at operands 0)) place (subst (λ k. All (IsCell k) (whole_by setting (operand_at operands 0))) (sym (same_kind Scalar (kind_at setting.kinds 0) (h.each 0 there))) (whole_in setting operands 0 there maps))
stays op.WindowDiversity setting kind operands place may h maps below = window_outcome-diversity_ok setting.rows setting.cols (reach_of setting.window) (whole_by setting (operand_at operands 0)) place maps.few
stays op.WindowMinimum setting kind operands place may h maps below = window_outcome-of_kind_ok window.Minimum setting.rows setting.cols (reach_of setting.window) (whole_by setting (operand_at operands 0)) place refl
stays op.WindowMaximum setting kind operands place may h maps below = window_outcome-of_kind_ok window.Maximum setting.rows setting.cols (reach_of setting.window) (whole_by setting (operand_at operands 0)) place refl
stays op.WindowMajority setting kind operands place may h maps below = window_outcome-of_kind_ok window.Majority setting.rows setting.cols (reach_of setting.window) (whole_by setting (operand_at operands 0)) place refl
stays op.AreaAverage setting kind operands place may h maps below = let there = two_there (length setting.kinds) 2 h.count in area_outcome-average_ok (zone_places setting (operand_at operands 0) (operand_at operands 1)) (operand_at operands 1 place) (subst (λ k. All (λ p. IsCell k p.value) (zone_places setting (operand_at operands 0) (operand_at operands 1))) (sym (same_kind Scalar (kind_at setting.kinds 0) (h.each 0 there))) (zones_in setting operands (operand_at operands 1) 0 there maps))
stays op.AreaDiversity setting kind operands place may h maps below = area_outcome-diversity_ok (zone_places setting (operand_at operands 0) (operand_at operands 1)) (operand_at operands 1 place) (zones_few setting (operand_at operands 0) (operand_at operands 1) maps.few)
stays op.AreaMinimum setting kind operands place may h maps below = area_outcome-of_kind_ok area.Minimum (zone_places setting (operand_at operands 0) (operand_at operands 1)) (operand_at operands 1 place) refl
stays op.AreaMaximum setting kind operands place may h maps below = area_outcome-of_kind_ok area.Maximum (zone_places setting (operand_at operands 0) (operand_at operands 1)) (operand_at operands 1 place) refl
stays op.AreaMajority setting kind operands place may h maps below = area_outcome-of_kind_ok area.Majority (zone_places setting (operand_at operands 0) (operand_at operands 1)) (operand_at operands 1 place) refl
stays op.AreaArea setting kind operands place may h maps below = area_outcome-size_ok (zone_places setting (alike 0) (operand_at operands 0)) (operand_at operands 0 place)
stays op.MapMinimum setting kind operands place may h maps below = area_outcome-of_kind_ok area.Minimum (zone_places setting (operand_at operands 0) (alike 1)) (alike 1 place) refl
stays op.MapMaximum setting kind operands place may h maps below = area_outcome-of_kind_ok area.Maximum (zone_places setting (operand_at operands 0) (alike 1)) (alike 1 place) refl
stays (op.Near near.Downstream) setting kind operands place may h maps below = let there = second_there (length setting.kinds) 2 h.count in downstream_ok setting (operand_at operands 0) (operand_at operands 1) place (subst (λ k. All (IsCell k) (whole_by setting (operand_at operands 1))) (sym (same_kind Scalar (kind_at setting.kinds 1) (h.each 1 there))) (whole_in setting operands 1 there maps))

pub returns : goal.returns
returns c o setting kind operands place may h maps below = stays o setting kind operands place may h maps below
