use Rattle.std.proofs.Common.{◌≡◌, ℕ, zero, suc, ◌<◌, ◌≤◌, map, length, Bool, true, false, List, refl, subst, ap, ◌∙◌, cond, Ok, arith, ◌⊎◌, inl, inr}
use Rattle.std.specs.Prelude.{Option, Some, None, slice_index_or, nat_lt, ◌==◌, ℤ, pos, ◌+ℤ◌, ◌-ℤ◌, ◌*ℤ◌, neg_ℤ, unsigned_abs, int_le, int_lt, not, ◌&&◌, ◌||◌}
use Rattle.std.specs.Ordering.{int_eq}
use Rattle.cell_values.specs.declared.kind.Kind.{Kind}
use Rattle.cell_values.specs.declared.kind.Kind.TheVariants.{Boolean, Nominal, Ordinal, Scalar, Directional}
use Rattle.cell_values.specs.declared.cell.Cell.{Cell}
use Rattle.cell_values.specs.declared.cell.Cell.TheVariants.{Mv, Val}
use Rattle.cell_values.specs.Kinds.{cell_of_number}
use Rattle.cell_values.specs.Arithmetic.{at_cells, scalar_remainder}
use Rattle.cell_values.specs.Conversion.{conversion_of}
use Rattle.cell_values.specs.Rounding.{cut_quotient, nearest, nearest_quotient}
use Rattle.tile_map.specs.Parts.{Outcome}
use Rattle.std.proofs.lemmas.Bool.{cases_lt}
use Rattle.std.proofs.lemmas.List.{get_or_past}
use Rattle.tile_map.specs.Cuts.{cell_at}
use Rattle.tile_map.proofs.PartLemmas.{get_or-tabulate, length-tabulate}
use Rattle.region_meaning.specs.declared.area.AreaOp.TheVariants as area
use Rattle.region_meaning.specs.AreaResults.{area_outcome}
use Rattle.drain_meaning.specs.declared.flow.Flow.{Flow}
use Rattle.drain_meaning.specs.declared.flow.Flow.TheVariants as flow
use Rattle.drain_meaning.specs.declared.next.Next.{Next}
use Rattle.drain_meaning.specs.declared.next.Next.TheVariants as next
use Rattle.drain_meaning.specs.declared.op.FlowOp.{FlowOp}
use Rattle.drain_meaning.specs.declared.op.FlowOp.TheVariants as flows
use Rattle.drain_meaning.specs.declared.op.NearOp.{NearOp}
use Rattle.drain_meaning.specs.Near.{near_flow, near_outcome}
use Rattle.drain_meaning.specs.Drains.{DrainMap, next_at}
use Rattle.drain_meaning.specs.Equations.{above_threshold, equation_of, gathered_material, transport_of}
use Rattle.drain_meaning.specs.Flows.{at_flows, flow_outcome, material, total_flow}
use Rattle.drain_meaning.specs.Transports.{Transport, end_after, end_of, feeders, transport_outcome, where_directed}
use Rattle.drain_meaning.proofs.Callers.{next_at-missing}
use Rattle.map_meaning.specs.declared.op.Op.{Op}
use Rattle.map_meaning.specs.declared.op.Op.TheVariants as op
use Rattle.lookup_table.specs.Form.{TableValue}
use Rattle.map_meaning.specs.declared.program.Role.TheVariants.{Table}
use Rattle.map_meaning.specs.Laws.{CountsAsOperand}
use Rattle.map_meaning.specs.Programs.{file_role}
use Rattle.map_meaning.specs.Local.{further_key, if_else_of, key_number, value_at_keys, lookup_of, timeinput_of, if_then_of, is_either, is_one, truth}
use Rattle.map_meaning.specs.Maps.{CellAt}
use Rattle.map_meaning.specs.Missing.{at_cell, spreads_missing}
use Rattle.map_meaning.specs.Rules.{Setting, alike, by_rule, looking_up, drain_by, kind_at, operand_at, outcome_of, rule_of, setting_places, whole_by, zone_places}
use Rattle.map_meaning.specs.Table.{map_row, row_of}
use Rattle.map_meaning.specs.Whole.{whole_above, whole_below, whole_nearest}
use Rattle.map_meaning.proofs.laws.missing_operands_spread.Goals as goal

-- ---- which operand it is

-- the one operand of an operation is missing
only_one : (P : ℕ → Type 0) (i : ℕ) → i < 1 → P i → P 0
only_one P zero below h = h
only_one P (suc i) below h = absurd (omega arith)

-- one of its two operands is
one_of_two : (P : ℕ → Type 0) (i : ℕ) → i < 2 → P i → P 0 ⊎ P 1
one_of_two P zero below h = inl h
one_of_two P (suc zero) below h = inr h
one_of_two P (suc (suc i)) below h = absurd (omega arith)

-- ---- operations by their form

-- an operation on one number
of_one : (f : ℤ → Outcome) (x : Cell) → x ≡ Mv → at_cell f x ≡ Ok Mv
of_one f x h = ap (at_cell f) h

-- an operation on two numbers
of_second : (f : ℤ → ℤ → Outcome) (x : Cell) → at_cells f x Mv ≡ Ok Mv
of_second f Mv = refl
of_second f (Val a) = refl

of_two : (f : ℤ → ℤ → Outcome) (x y : Cell) → (x ≡ Mv) ⊎ (y ≡ Mv) → at_cells f x y ≡ Ok Mv
of_two f x y (inl h) = ap (λ z. at_cells f z y) h
of_two f x y (inr h) = ap (at_cells f x) h ∙ of_second f x

-- what is left of a number
left_second : (x : Cell) → scalar_remainder x Mv ≡ Mv
left_second Mv = refl
left_second (Val a) = refl

of_left : (x y : Cell) → (x ≡ Mv) ⊎ (y ≡ Mv) → scalar_remainder x y ≡ Mv
of_left x y (inl h) = ap (λ z. scalar_remainder z y) h
of_left x y (inr h) = ap (scalar_remainder x) h ∙ left_second x

-- a branch that is not there
no_cell : (b : Bool) → cond b Mv Mv ≡ Mv
no_cell true = refl
no_cell false = refl

then_second : (c : Cell) → if_then_of c Mv ≡ Ok Mv
then_second Mv = refl
then_second (Val c) = ap Ok (no_cell (is_one c))

of_then : (c x : Cell) → (c ≡ Mv) ⊎ (x ≡ Mv) → if_then_of c x ≡ Ok Mv
of_then c x (inl h) = ap (λ z. if_then_of z x) h
of_then c x (inr h) = ap (if_then_of c) h ∙ then_second c

-- ---- transports

-- a map is missing where its operand is
whole_missing : (setting : Setting) (operand : CellAt) (place : ℕ) → operand place ≡ Mv → cell_at (whole_by setting operand) place ≡ Mv
whole_missing setting operand place gone = by_case (cases_lt place (setting_places setting))
  where
    by_case : (place < setting_places setting) ⊎ (setting_places setting ≤ place) → cell_at (whole_by setting operand) place ≡ Mv
    by_case (inl below) = get_or-tabulate operand (setting_places setting) place Mv below ∙ gone
    by_case (inr past) = get_or_past (whole_by setting operand) place Mv (let count = length-tabulate operand (setting_places setting) in omega (arith, past, count))

-- a missing flow makes what it goes together with missing
gone_first : (f : ℤ → ℤ → ℤ) (x y : Flow) → x ≡ flow.Mv → at_flows f x y ≡ flow.Mv
gone_first f x y h = ap (λ z. at_flows f z y) h

gone_second : (f : ℤ → ℤ → ℤ) (x y : Flow) → y ≡ flow.Mv → at_flows f x y ≡ flow.Mv
gone_second f flow.Mv y h = refl
gone_second f (flow.Num a) y h = ap (at_flows f (flow.Num a)) h

-- a flow that is missing gives a missing value
flow_gone : (kind : Kind) (n : Next) (f : Flow) → f ≡ flow.Mv → flow_outcome kind (where_directed n f) ≡ Ok Mv
flow_gone kind next.Pit f h = ap (flow_outcome kind) h
flow_gone kind (next.Cell d) f h = ap (flow_outcome kind) h
flow_gone kind next.Outside f h = ap (flow_outcome kind) h
flow_gone kind next.Missing f h = refl

-- where no inflows make the result there, it is missing
transport_gone : (t : Transport) (kind : Kind) (m : DrainMap) (a b : CellAt) (place : ℕ) → ((inflows : List Flow) → (t.equation inflows (a place) (b place)).result ≡ flow.Mv) → transport_outcome t kind m a b place ≡ Ok Mv
unfolding end_of
transport_gone t kind m a b place none = flow_gone kind (next_at m place) (end_after t m a b (length m.codes) place).result (by_steps (length m.codes))
  where
    by_steps : (steps : ℕ) → (end_after t m a b steps place).result ≡ flow.Mv
    by_steps zero = refl
    by_steps (suc steps) = none (map (λ u. (end_after t m a b steps u).out) (feeders t.orient m place))

-- where the drain map is missing, nothing is transported
code_gone : (t : Transport) (kind : Kind) (setting : Setting) (codes a b : CellAt) (place : ℕ) → codes place ≡ Mv → transport_outcome t kind (drain_by setting codes) a b place ≡ Ok Mv
code_gone t kind setting codes a b place gone =
    ap (λ n. flow_outcome kind (where_directed n (end_of t (drain_by setting codes) a b place).result)) (next_at-missing (drain_by setting codes) place (whole_missing setting codes place gone))

-- the equations

gathered_gone : (inflows : List Flow) (a : Cell) → a ≡ Mv → gathered_material inflows a ≡ flow.Mv
gathered_gone inflows a gone = gone_second (λ x y. x +ℤ y) (total_flow inflows) (material a) (ap material gone)

above_gone : (total threshold : Flow) → (total ≡ flow.Mv) ⊎ (threshold ≡ flow.Mv) → above_threshold total threshold ≡ flow.Mv
above_gone total threshold (inl h) = gone_first _ total threshold h
above_gone total threshold (inr h) = gone_second _ total threshold h

accuflux_gone : (inflows : List Flow) (a b : Cell) → a ≡ Mv → (equation_of flows.Accuflux inflows a b).result ≡ flow.Mv
unfolding equation_of
accuflux_gone inflows a b gone = gathered_gone inflows a gone

catchment_gone : (inflows : List Flow) (a b : Cell) → a ≡ Mv → (equation_of flows.Catchment inflows a b).result ≡ flow.Mv
unfolding equation_of
catchment_gone inflows a b gone = gone_second _ (total_flow inflows) (material a) (ap material gone)

flux_gone : (inflows : List Flow) (a b : Cell) → (a ≡ Mv) ⊎ (b ≡ Mv) → (equation_of flows.ThresholdFlux inflows a b).result ≡ flow.Mv
unfolding equation_of
flux_gone inflows a b (inl gone) = above_gone (gathered_material inflows a) (material b) (inl (gathered_gone inflows a gone))
flux_gone inflows a b (inr gone) = above_gone (gathered_material inflows a) (material b) (inr (ap material gone))

state_gone : (inflows : List Flow) (a b : Cell) → (a ≡ Mv) ⊎ (b ≡ Mv) → (equation_of flows.ThresholdState inflows a b).result ≡ flow.Mv
unfolding equation_of
state_gone inflows a b (inl gone) = gone_first (λ x y. x -ℤ y) (gathered_material inflows a) (above_threshold (gathered_material inflows a) (material b)) (gathered_gone inflows a gone)
state_gone inflows a b (inr gone) = gone_second (λ x y. x -ℤ y) (gathered_material inflows a) (above_threshold (gathered_material inflows a) (material b)) (above_gone (gathered_material inflows a) (material b) (inr (ap material gone)))

-- an operand that is not there as a drain map, or a value
module _ (o : FlowOp) (setting : Setting) (operands : List CellAt) (place : ℕ) where
  abbrev given : ℕ → CellAt
  given i = cell_at (whole_by setting (operand_at operands i))

  abbrev Gives : Type 0
  Gives = transport_outcome (transport_of o) (kind_at setting.kinds 1) (drain_by setting (operand_at operands 0)) (given 1) (given 2) place ≡ Ok Mv

  no_code : operand_at operands 0 place ≡ Mv → Gives
  no_code gone = code_gone (transport_of o) (kind_at setting.kinds 1) setting (operand_at operands 0) (given 1) (given 2) place gone

  no_material : ((inflows : List Flow) (a b : Cell) → a ≡ Mv → (equation_of o inflows a b).result ≡ flow.Mv) → operand_at operands 1 place ≡ Mv → Gives
  no_material equation gone =
      transport_gone (transport_of o) (kind_at setting.kinds 1) (drain_by setting (operand_at operands 0)) (given 1) (given 2) place
      (λ inflows. equation inflows (given 1 place) (given 2 place) (whole_missing setting (operand_at operands 1) place gone))

  no_threshold : ((inflows : List Flow) (a b : Cell) → b ≡ Mv → (equation_of o inflows a b).result ≡ flow.Mv) → operand_at operands 2 place ≡ Mv → Gives
  no_threshold equation gone =
      transport_gone (transport_of o) (kind_at setting.kinds 1) (drain_by setting (operand_at operands 0)) (given 1) (given 2) place
      (λ inflows. equation inflows (given 1 place) (given 2 place) (whole_missing setting (operand_at operands 2) place gone))

  -- a drain map and one operand
  of_material : ((inflows : List Flow) (a b : Cell) → a ≡ Mv → (equation_of o inflows a b).result ≡ flow.Mv) → (operand_at operands 0 place ≡ Mv) ⊎ (operand_at operands 1 place ≡ Mv) → Gives
  of_material equation (inl gone) = no_code gone
  of_material equation (inr gone) = no_material equation gone

  -- a drain map and two operands
  of_threshold : ((inflows : List Flow) (a b : Cell) → (a ≡ Mv) ⊎ (b ≡ Mv) → (equation_of o inflows a b).result ≡ flow.Mv) → (i : ℕ) → i < 3 → operand_at operands i place ≡ Mv → Gives
  of_threshold equation zero below gone = no_code gone
  of_threshold equation (suc zero) below gone = no_material (λ inflows a b h. equation inflows a b (inl h)) gone
  of_threshold equation (suc (suc zero)) below gone = no_threshold (λ inflows a b h. equation inflows a b (inr h)) gone
  of_threshold equation (suc (suc (suc i))) below gone = absurd (omega arith)

-- ---- one step up or down stream

-- without a direction there is no value
near_gone : (o : NearOp) (setting : Setting) (codes values : CellAt) (place : ℕ) → codes place ≡ Mv → near_outcome o (drain_by setting codes) values place ≡ Ok Mv
unfolding near_outcome
near_gone o setting codes values place gone =
    ap (λ n. flow_outcome Scalar (where_directed n (near_flow o (drain_by setting codes) values place))) (next_at-missing (drain_by setting codes) place (whole_missing setting codes place gone))

-- ---- tables

-- a key that is missing has no number
no_key : (kind : Kind) (x : Cell) → x ≡ Mv → key_number kind x ≡ None
no_key kind x gone = ap (key_number kind) gone

-- a further key of the table that is missing
no_further_key : (table : TableValue) (kinds : List Kind) (i : ℕ) (x : Cell) → i < table.keys → x ≡ Mv → further_key table kinds i x ≡ None
no_further_key table kinds i x below gone =
    let counts : nat_lt i table.keys ≡ true = grind arith in
    ap (λ b. cond b (key_number (slice_index_or kinds i Scalar) x) (Some (pos 0))) counts ∙ no_key (slice_index_or kinds i Scalar) x gone

-- a table has no value where one of its keys has no number
no_second : (table : TableValue) (a c d : Option ℤ) → value_at_keys table a None c d ≡ Mv
no_second table None c d = refl
no_second table (Some a) c d = refl

no_third : (table : TableValue) (a b d : Option ℤ) → value_at_keys table a b None d ≡ Mv
no_third table None b d = refl
no_third table (Some a) None d = refl
no_third table (Some a) (Some b) d = refl

no_fourth : (table : TableValue) (a b c : Option ℤ) → value_at_keys table a b c None ≡ Mv
no_fourth table None b c = refl
no_fourth table (Some a) None c = refl
no_fourth table (Some a) (Some b) None = refl
no_fourth table (Some a) (Some b) (Some c) = refl

-- where a key is missing, there is nothing to find
module _ (setting : Setting) (operands : List CellAt) (place : ℕ) where
  abbrev key : ℕ → Option ℤ
  key i = further_key setting.table setting.kinds i (operand_at operands i place)

  abbrev first_key : Option ℤ
  first_key = key_number (slice_index_or setting.kinds 0 Scalar) (operand_at operands 0 place)

  looked_up_gone : (i : ℕ) → i < setting.table.keys → i < 4 → operand_at operands i place ≡ Mv → by_rule looking_up setting operands place ≡ Ok Mv
  looked_up_gone zero below few gone = ap (λ k. Ok (value_at_keys setting.table k (key 1) (key 2) (key 3))) (no_key (slice_index_or setting.kinds 0 Scalar) (operand_at operands 0 place) gone)
  looked_up_gone (suc zero) below few gone =
      ap (λ k. Ok (value_at_keys setting.table first_key k (key 2) (key 3))) (no_further_key setting.table setting.kinds 1 (operand_at operands 1 place) below gone) ∙ ap Ok (no_second setting.table first_key (key 2) (key 3))
  looked_up_gone (suc (suc zero)) below few gone =
      ap (λ k. Ok (value_at_keys setting.table first_key (key 1) k (key 3))) (no_further_key setting.table setting.kinds 2 (operand_at operands 2 place) below gone) ∙ ap Ok (no_third setting.table first_key (key 1) (key 3))
  looked_up_gone (suc (suc (suc zero))) below few gone =
      ap (λ k. Ok (value_at_keys setting.table first_key (key 1) (key 2) k)) (no_further_key setting.table setting.kinds 3 (operand_at operands 3 place) below gone) ∙ ap Ok (no_fourth setting.table first_key (key 1) (key 2))
  looked_up_gone (suc (suc (suc (suc i)))) below few gone = absurd (omega arith)

-- ---- the operations

-- the operand at a place is missing
at_place : (operands : List CellAt) (place i k : ℕ) → (i == k) ≡ true → operand_at operands i place ≡ Mv → operand_at operands k place ≡ Mv
at_place operands place i k same gone = let is : i ≡ k = grind arith in subst (λ n. operand_at operands n place ≡ Mv) is gone

spreads : (o : Op) (setting : Setting) (operands : List CellAt) (place i : ℕ) →
    spreads_missing o i ≡ true → i < (map_row (row_of o)).least → operand_at operands i place ≡ Mv → outcome_of o setting operands place ≡ Ok Mv
unfolding row_of rule_of
spreads op.CopyOf setting operands place i spread below gone = ap Ok (only_one (λ i. operand_at operands i place ≡ Mv) i below gone)
spreads op.Add setting operands place i spread below gone = of_two (λ a b. cell_of_number Scalar (a +ℤ b)) (operand_at operands 0 place) (operand_at operands 1 place) (one_of_two (λ i. operand_at operands i place ≡ Mv) i below gone)
spreads op.Sub setting operands place i spread below gone = of_two (λ a b. cell_of_number Scalar (a -ℤ b)) (operand_at operands 0 place) (operand_at operands 1 place) (one_of_two (λ i. operand_at operands i place ≡ Mv) i below gone)
spreads op.Mul setting operands place i spread below gone = of_two (λ a b. cell_of_number Scalar (nearest (a *ℤ b) 1000000)) (operand_at operands 0 place) (operand_at operands 1 place) (one_of_two (λ i. operand_at operands i place ≡ Mv) i below gone)
spreads op.Div setting operands place i spread below gone = of_two (λ a b. cond (int_eq b (pos 0)) (Ok Mv) (cell_of_number Scalar (nearest_quotient (a *ℤ pos 1000000) b))) (operand_at operands 0 place) (operand_at operands 1 place) (one_of_two (λ i. operand_at operands i place ≡ Mv) i below gone)
spreads op.IntDiv setting operands place i spread below gone = of_two (λ a b. cond (int_eq b (pos 0)) (Ok Mv) (cell_of_number Scalar (cut_quotient a b *ℤ pos 1000000))) (operand_at operands 0 place) (operand_at operands 1 place) (one_of_two (λ i. operand_at operands i place ≡ Mv) i below gone)
spreads op.IntMod setting operands place i spread below gone = ap Ok (of_left (operand_at operands 0 place) (operand_at operands 1 place) (one_of_two (λ i. operand_at operands i place ≡ Mv) i below gone))
spreads op.Neg setting operands place i spread below gone = of_one (λ a. cell_of_number Scalar (neg_ℤ a)) (operand_at operands 0 place) (only_one (λ i. operand_at operands i place ≡ Mv) i below gone)
spreads op.Abs setting operands place i spread below gone = of_one (λ a. cell_of_number Scalar (pos (unsigned_abs a))) (operand_at operands 0 place) (only_one (λ i. operand_at operands i place ≡ Mv) i below gone)
spreads op.RoundDown setting operands place i spread below gone = of_one (λ a. cell_of_number Scalar (whole_below a)) (operand_at operands 0 place) (only_one (λ i. operand_at operands i place ≡ Mv) i below gone)
spreads op.RoundUp setting operands place i spread below gone = of_one (λ a. cell_of_number Scalar (whole_above a)) (operand_at operands 0 place) (only_one (λ i. operand_at operands i place ≡ Mv) i below gone)
spreads op.RoundOff setting operands place i spread below gone = of_one (λ a. cell_of_number Scalar (whole_nearest a)) (operand_at operands 0 place) (only_one (λ i. operand_at operands i place ≡ Mv) i below gone)
spreads op.Min setting operands place i spread below gone = of_two (λ a b. Ok (Val (cond (int_le a b) a b))) (operand_at operands 0 place) (operand_at operands 1 place) (one_of_two (λ i. operand_at operands i place ≡ Mv) i below gone)
spreads op.Max setting operands place i spread below gone = of_two (λ a b. Ok (Val (cond (int_le a b) b a))) (operand_at operands 0 place) (operand_at operands 1 place) (one_of_two (λ i. operand_at operands i place ≡ Mv) i below gone)
spreads op.Equal setting operands place i spread below gone = of_two (λ a b. Ok (truth (int_eq a b))) (operand_at operands 0 place) (operand_at operands 1 place) (one_of_two (λ i. operand_at operands i place ≡ Mv) i below gone)
spreads op.NotEqual setting operands place i spread below gone = of_two (λ a b. Ok (truth (not (int_eq a b)))) (operand_at operands 0 place) (operand_at operands 1 place) (one_of_two (λ i. operand_at operands i place ≡ Mv) i below gone)
spreads op.Less setting operands place i spread below gone = of_two (λ a b. Ok (truth (int_lt a b))) (operand_at operands 0 place) (operand_at operands 1 place) (one_of_two (λ i. operand_at operands i place ≡ Mv) i below gone)
spreads op.LessEqual setting operands place i spread below gone = of_two (λ a b. Ok (truth (int_le a b))) (operand_at operands 0 place) (operand_at operands 1 place) (one_of_two (λ i. operand_at operands i place ≡ Mv) i below gone)
spreads op.Greater setting operands place i spread below gone = of_two (λ a b. Ok (truth (int_lt b a))) (operand_at operands 0 place) (operand_at operands 1 place) (one_of_two (λ i. operand_at operands i place ≡ Mv) i below gone)
spreads op.GreaterEqual setting operands place i spread below gone = of_two (λ a b. Ok (truth (int_le b a))) (operand_at operands 0 place) (operand_at operands 1 place) (one_of_two (λ i. operand_at operands i place ≡ Mv) i below gone)
spreads op.And setting operands place i spread below gone = of_two (λ a b. Ok (truth (is_one a && is_one b))) (operand_at operands 0 place) (operand_at operands 1 place) (one_of_two (λ i. operand_at operands i place ≡ Mv) i below gone)
spreads op.Or setting operands place i spread below gone = of_two (λ a b. Ok (truth (is_one a || is_one b))) (operand_at operands 0 place) (operand_at operands 1 place) (one_of_two (λ i. operand_at operands i place ≡ Mv) i below gone)
spreads op.Xor setting operands place i spread below gone = of_two (λ a b. Ok (truth (is_either (is_one a) (is_one b)))) (operand_at operands 0 place) (operand_at operands 1 place) (one_of_two (λ i. operand_at operands i place ≡ Mv) i below gone)
spreads op.Not setting operands place i spread below gone = of_one (λ a. Ok (truth (not (is_one a)))) (operand_at operands 0 place) (only_one (λ i. operand_at operands i place ≡ Mv) i below gone)
spreads op.IfThen setting operands place i spread below gone = of_then (operand_at operands 0 place) (operand_at operands 1 place) (one_of_two (λ i. operand_at operands i place ≡ Mv) i below gone)
spreads op.IfElse setting operands place i spread below gone = ap (λ c. if_else_of c (operand_at operands 1 place) (operand_at operands 2 place)) (at_place operands place i 0 spread gone)
spreads op.Cover setting operands place i spread below gone = absurd (cc)
spreads op.Defined setting operands place i spread below gone = absurd (cc)
spreads op.ToBoolean setting operands place i spread below gone = ap (conversion_of (kind_at setting.kinds 0) Boolean) (only_one (λ i. operand_at operands i place ≡ Mv) i below gone)
spreads op.ToNominal setting operands place i spread below gone = ap (conversion_of (kind_at setting.kinds 0) Nominal) (only_one (λ i. operand_at operands i place ≡ Mv) i below gone)
spreads op.ToOrdinal setting operands place i spread below gone = ap (conversion_of (kind_at setting.kinds 0) Ordinal) (only_one (λ i. operand_at operands i place ≡ Mv) i below gone)
spreads op.ToScalar setting operands place i spread below gone = ap (conversion_of (kind_at setting.kinds 0) Scalar) (only_one (λ i. operand_at operands i place ≡ Mv) i below gone)
spreads op.ToDirectional setting operands place i spread below gone = ap (conversion_of (kind_at setting.kinds 0) Directional) (only_one (λ i. operand_at operands i place ≡ Mv) i below gone)
spreads op.LookupBoolean setting operands place i spread below gone = ap (λ x. lookup_of setting.table setting.kinds x (operand_at operands 1 place) (operand_at operands 2 place) (operand_at operands 3 place)) (only_one (λ i. operand_at operands i place ≡ Mv) i below gone)
spreads op.LookupNominal setting operands place i spread below gone = ap (λ x. lookup_of setting.table setting.kinds x (operand_at operands 1 place) (operand_at operands 2 place) (operand_at operands 3 place)) (only_one (λ i. operand_at operands i place ≡ Mv) i below gone)
spreads op.LookupOrdinal setting operands place i spread below gone = ap (λ x. lookup_of setting.table setting.kinds x (operand_at operands 1 place) (operand_at operands 2 place) (operand_at operands 3 place)) (only_one (λ i. operand_at operands i place ≡ Mv) i below gone)
spreads op.LookupScalar setting operands place i spread below gone = ap (λ x. lookup_of setting.table setting.kinds x (operand_at operands 1 place) (operand_at operands 2 place) (operand_at operands 3 place)) (only_one (λ i. operand_at operands i place ≡ Mv) i below gone)
spreads op.LookupDirectional setting operands place i spread below gone = ap (λ x. lookup_of setting.table setting.kinds x (operand_at operands 1 place) (operand_at operands 2 place) (operand_at operands 3 place)) (only_one (λ i. operand_at operands i place ≡ Mv) i below gone)
spreads op.TimeInputBoolean setting operands place i spread below gone = ap (timeinput_of setting.series setting.step) (only_one (λ i. operand_at operands i place ≡ Mv) i below gone)
spreads op.TimeInputNominal setting operands place i spread below gone = ap (timeinput_of setting.series setting.step) (only_one (λ i. operand_at operands i place ≡ Mv) i below gone)
spreads op.TimeInputOrdinal setting operands place i spread below gone = ap (timeinput_of setting.series setting.step) (only_one (λ i. operand_at operands i place ≡ Mv) i below gone)
spreads op.TimeInputScalar setting operands place i spread below gone = ap (timeinput_of setting.series setting.step) (only_one (λ i. operand_at operands i place ≡ Mv) i below gone)
spreads op.TimeInputDirectional setting operands place i spread below gone = ap (timeinput_of setting.series setting.step) (only_one (λ i. operand_at operands i place ≡ Mv) i below gone)
spreads op.WindowTotal setting operands place i spread below gone = absurd (cc)
spreads op.WindowAverage setting operands place i spread below gone = absurd (cc)
spreads op.WindowMinimum setting operands place i spread below gone = absurd (cc)
spreads op.WindowMaximum setting operands place i spread below gone = absurd (cc)
spreads op.WindowDiversity setting operands place i spread below gone = absurd (cc)
spreads op.WindowMajority setting operands place i spread below gone = absurd (cc)
spreads op.AreaTotal setting operands place i spread below gone = ap (area_outcome area.Total (zone_places setting (operand_at operands 0) (operand_at operands 1))) (at_place operands place i 1 spread gone)
spreads op.AreaAverage setting operands place i spread below gone = ap (area_outcome area.Average (zone_places setting (operand_at operands 0) (operand_at operands 1))) (at_place operands place i 1 spread gone)
spreads op.AreaMinimum setting operands place i spread below gone = ap (area_outcome area.Minimum (zone_places setting (operand_at operands 0) (operand_at operands 1))) (at_place operands place i 1 spread gone)
spreads op.AreaMaximum setting operands place i spread below gone = ap (area_outcome area.Maximum (zone_places setting (operand_at operands 0) (operand_at operands 1))) (at_place operands place i 1 spread gone)
spreads op.AreaDiversity setting operands place i spread below gone = ap (area_outcome area.Diversity (zone_places setting (operand_at operands 0) (operand_at operands 1))) (at_place operands place i 1 spread gone)
spreads op.AreaMajority setting operands place i spread below gone = ap (area_outcome area.Majority (zone_places setting (operand_at operands 0) (operand_at operands 1))) (at_place operands place i 1 spread gone)
spreads op.MapTotal setting operands place i spread below gone = absurd (cc)
spreads op.MapMinimum setting operands place i spread below gone = absurd (cc)
spreads op.MapMaximum setting operands place i spread below gone = absurd (cc)
spreads (op.Near o) setting operands place i spread below gone = near_gone o setting (operand_at operands 0) (cell_at (whole_by setting (operand_at operands 1))) place (at_place operands place i 0 spread gone)
spreads op.AreaArea setting operands place i spread below gone = ap (area_outcome area.Area (zone_places setting (alike 0) (operand_at operands 0))) (only_one (λ i. operand_at operands i place ≡ Mv) i below gone)
spreads (op.Flow flows.Accuflux) setting operands place i spread below gone = of_material flows.Accuflux setting operands place accuflux_gone (one_of_two (λ i. operand_at operands i place ≡ Mv) i below gone)
spreads (op.Flow flows.Catchment) setting operands place i spread below gone = of_material flows.Catchment setting operands place catchment_gone (one_of_two (λ i. operand_at operands i place ≡ Mv) i below gone)
spreads (op.Flow flows.ThresholdFlux) setting operands place i spread below gone = of_threshold flows.ThresholdFlux setting operands place flux_gone i below gone
spreads (op.Flow flows.ThresholdState) setting operands place i spread below gone = of_threshold flows.ThresholdState setting operands place state_gone i below gone
spreads (op.Flow flows.CapacityFlux) setting operands place i spread below gone = no_code flows.CapacityFlux setting operands place (only_one (λ i. operand_at operands i place ≡ Mv) i below gone)
spreads (op.Flow flows.CapacityState) setting operands place i spread below gone = no_code flows.CapacityState setting operands place (only_one (λ i. operand_at operands i place ≡ Mv) i below gone)
spreads (op.Flow flows.TriggerFlux) setting operands place i spread below gone = no_code flows.TriggerFlux setting operands place (only_one (λ i. operand_at operands i place ≡ Mv) i below gone)
spreads (op.Flow flows.TriggerState) setting operands place i spread below gone = no_code flows.TriggerState setting operands place (only_one (λ i. operand_at operands i place ≡ Mv) i below gone)
spreads (op.Flow flows.FractionFlux) setting operands place i spread below gone = no_code flows.FractionFlux setting operands place (only_one (λ i. operand_at operands i place ≡ Mv) i below gone)
spreads (op.Flow flows.FractionState) setting operands place i spread below gone = no_code flows.FractionState setting operands place (only_one (λ i. operand_at operands i place ≡ Mv) i below gone)
spreads (op.Flow flows.Subcatchment) setting operands place i spread below gone = no_code flows.Subcatchment setting operands place (only_one (λ i. operand_at operands i place ≡ Mv) i below gone)
spreads (op.Flow flows.PathOf) setting operands place i spread below gone = no_code flows.PathOf setting operands place (only_one (λ i. operand_at operands i place ≡ Mv) i below gone)
spreads (op.Flow flows.StreamOrder) setting operands place i spread below gone = no_code flows.StreamOrder setting operands place (only_one (λ i. operand_at operands i place ≡ Mv) i below gone)

-- an operation that looks up in a table
looks_up : (o : Op) (keys : ℕ) → file_role o keys ≡ Some (Table keys) → rule_of o ≡ looking_up
unfolding rule_of
looks_up op.CopyOf keys h = absurd (cc)
looks_up op.Add keys h = absurd (cc)
looks_up op.Sub keys h = absurd (cc)
looks_up op.Mul keys h = absurd (cc)
looks_up op.Div keys h = absurd (cc)
looks_up op.IntDiv keys h = absurd (cc)
looks_up op.IntMod keys h = absurd (cc)
looks_up op.Neg keys h = absurd (cc)
looks_up op.Abs keys h = absurd (cc)
looks_up op.RoundDown keys h = absurd (cc)
looks_up op.RoundUp keys h = absurd (cc)
looks_up op.RoundOff keys h = absurd (cc)
looks_up op.Min keys h = absurd (cc)
looks_up op.Max keys h = absurd (cc)
looks_up op.Equal keys h = absurd (cc)
looks_up op.NotEqual keys h = absurd (cc)
looks_up op.Less keys h = absurd (cc)
looks_up op.LessEqual keys h = absurd (cc)
looks_up op.Greater keys h = absurd (cc)
looks_up op.GreaterEqual keys h = absurd (cc)
looks_up op.And keys h = absurd (cc)
looks_up op.Or keys h = absurd (cc)
looks_up op.Xor keys h = absurd (cc)
looks_up op.Not keys h = absurd (cc)
looks_up op.IfThen keys h = absurd (cc)
looks_up op.IfElse keys h = absurd (cc)
looks_up op.Cover keys h = absurd (cc)
looks_up op.Defined keys h = absurd (cc)
looks_up op.ToBoolean keys h = absurd (cc)
looks_up op.ToNominal keys h = absurd (cc)
looks_up op.ToOrdinal keys h = absurd (cc)
looks_up op.ToScalar keys h = absurd (cc)
looks_up op.ToDirectional keys h = absurd (cc)
looks_up op.LookupBoolean keys h = refl
looks_up op.LookupNominal keys h = refl
looks_up op.LookupOrdinal keys h = refl
looks_up op.LookupScalar keys h = refl
looks_up op.LookupDirectional keys h = refl
looks_up op.TimeInputBoolean keys h = absurd (cc)
looks_up op.TimeInputNominal keys h = absurd (cc)
looks_up op.TimeInputOrdinal keys h = absurd (cc)
looks_up op.TimeInputScalar keys h = absurd (cc)
looks_up op.TimeInputDirectional keys h = absurd (cc)
looks_up op.WindowTotal keys h = absurd (cc)
looks_up op.WindowAverage keys h = absurd (cc)
looks_up op.WindowMinimum keys h = absurd (cc)
looks_up op.WindowMaximum keys h = absurd (cc)
looks_up op.WindowDiversity keys h = absurd (cc)
looks_up op.WindowMajority keys h = absurd (cc)
looks_up op.AreaTotal keys h = absurd (cc)
looks_up op.AreaAverage keys h = absurd (cc)
looks_up op.AreaMinimum keys h = absurd (cc)
looks_up op.AreaMaximum keys h = absurd (cc)
looks_up op.AreaDiversity keys h = absurd (cc)
looks_up op.AreaMajority keys h = absurd (cc)
looks_up op.MapTotal keys h = absurd (cc)
looks_up op.MapMinimum keys h = absurd (cc)
looks_up op.MapMaximum keys h = absurd (cc)
looks_up (op.Near o) keys h = absurd (cc)
looks_up op.AreaArea keys h = absurd (cc)
looks_up (op.Flow flows.Accuflux) keys h = absurd (cc)
looks_up (op.Flow flows.Catchment) keys h = absurd (cc)
looks_up (op.Flow flows.ThresholdFlux) keys h = absurd (cc)
looks_up (op.Flow flows.ThresholdState) keys h = absurd (cc)
looks_up (op.Flow flows.CapacityFlux) keys h = absurd (cc)
looks_up (op.Flow flows.CapacityState) keys h = absurd (cc)
looks_up (op.Flow flows.TriggerFlux) keys h = absurd (cc)
looks_up (op.Flow flows.TriggerState) keys h = absurd (cc)
looks_up (op.Flow flows.FractionFlux) keys h = absurd (cc)
looks_up (op.Flow flows.FractionState) keys h = absurd (cc)
looks_up (op.Flow flows.Subcatchment) keys h = absurd (cc)
looks_up (op.Flow flows.PathOf) keys h = absurd (cc)
looks_up (op.Flow flows.StreamOrder) keys h = absurd (cc)

counted : (o : Op) (setting : Setting) (operands : List CellAt) (place i : ℕ) →
    spreads_missing o i ≡ true → CountsAsOperand o setting i → operand_at operands i place ≡ Mv → outcome_of o setting operands place ≡ Ok Mv
counted o setting operands place i spread (inl below) gone = spreads o setting operands place i spread below gone
counted o setting operands place i spread (inr table) gone =
    ap (λ rule. by_rule rule setting operands place) (looks_up o setting.table.keys table.0) ∙ looked_up_gone setting operands place i table.1 table.2 gone

pub returns : goal.returns
returns c = counted
