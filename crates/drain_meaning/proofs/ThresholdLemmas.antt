-- What thresholds keep in cells, and what they let flow out of pits.
use Rattle.std.proofs.Common.{◌≡◌, ◌≢◌, ◌⊎◌, inl, inr, ℕ, ◌≤◌, List, length, map, refl, sym, ap, ◌∙◌, arith, suc, zero, Bool, true, false}
use Rattle.std.specs.Prelude.{ℤ, pos, ◌+ℤ◌, ◌-ℤ◌, int_lt, if◌then◌else◌}
use Rattle.std.specs.List.{filter}
use Rattle.std.proofs.lemmas.Int.{ints}
use Rattle.cell_values.specs.declared.cell.Cell.{Cell}
use Rattle.cell_values.specs.declared.cell.Cell.TheVariants as cell
use Rattle.drain_meaning.specs.declared.end.FlowEnd.{FlowEnd}
use Rattle.drain_meaning.specs.declared.flow.Flow.{Flow}
use Rattle.drain_meaning.specs.declared.flow.Flow.TheVariants as flow
use Rattle.drain_meaning.specs.declared.next.Next.{Next}
use Rattle.drain_meaning.specs.declared.next.Next.TheVariants as next
use Rattle.drain_meaning.specs.declared.op.FlowOp.TheVariants as op
use Rattle.drain_meaning.specs.declared.op.Orient.TheVariants.{Down}
use Rattle.drain_meaning.specs.Accumulation.{is_pit}
use Rattle.drain_meaning.specs.Drains.{DrainMap, next_at}
use Rattle.drain_meaning.specs.Equations.{above_threshold, equation_of, gathered_material, keeping, passing, transport_of}
use Rattle.drain_meaning.specs.Flows.{material, nothing, together, total_flow}
use Rattle.drain_meaning.specs.Laws.{ArePresent, KeepOrLetPass}
use Rattle.drain_meaning.specs.Masks.{leads_on}
use Rattle.drain_meaning.specs.Paths.{IsDirected, IsSound}
use Rattle.drain_meaning.specs.Transports.{drains_into, end_after, end_of, feeders, tributaries}
use Rattle.drain_meaning.specs.inside.SumLaws.{together_regroup, together_swap, together_unit}
use Rattle.drain_meaning.proofs.AccuLemmas.{all_places, from_one, if_so-nothing, leads_of}
use Rattle.drain_meaning.proofs.EndLemmas.{ends_meet, ends_unique, feeder_feeds, steps_few, steps_to}
use Rattle.drain_meaning.proofs.MapLemmas.{directed_within}
use Rattle.drain_meaning.proofs.MissingLemmas.{material_missing, missing-total, missing_of_two}
use Rattle.drain_meaning.proofs.PathLemmas.{next_directed, path_leaves}
use Rattle.drain_meaning.proofs.SumLemmas.{if_so, if_so-together, if_so-total, map_alike, total-filter, total-nothing, total-swap, total-together}

-- ---- one cell

-- what is above a threshold is missing only where one of both is
above_missing : (x y : Flow) → above_threshold x y ≡ flow.Mv → (x ≡ flow.Mv) ⊎ (y ≡ flow.Mv)
above_missing flow.Mv y e = inl refl
above_missing (flow.Num n) flow.Mv e = inr refl
above_missing (flow.Num n) (flow.Num k) e = cc e

-- what flows out of a cell is missing only where an inflow or an operand is
threshold_missing : (flows : List Flow) (a b : Cell) → (equation_of op.ThresholdState flows a b).out ≡ flow.Mv →
    (total_flow flows ≡ flow.Mv) ⊎ ((a ≡ cell.Mv) ⊎ (b ≡ cell.Mv))
unfolding equation_of
threshold_missing flows a b e = elim (above_missing (gathered_material flows a) (material b) e) as (λ _. (total_flow flows ≡ flow.Mv) ⊎ ((a ≡ cell.Mv) ⊎ (b ≡ cell.Mv))) [
  | inl gathered ↦ elim (missing_of_two (total_flow flows) (material a) gathered) as (λ _. (total_flow flows ≡ flow.Mv) ⊎ ((a ≡ cell.Mv) ⊎ (b ≡ cell.Mv))) [
    | inl came ↦ inl came
    | inr own ↦ inr (inl (material_missing a own))
  ]
  | inr threshold ↦ inr (inr (material_missing b threshold))
]

-- where no operand is missing no outflow is
out_there : (m : DrainMap) (a b : ℕ → Cell) → IsSound m → ArePresent m a b → (k c : ℕ) → IsDirected m c → steps_to Down m c ≤ k →
    (end_after (transport_of op.ThresholdState) m a b k c).out ≡ flow.Mv → ⊥
out_there m a b sound there zero c directed few e = let some = steps_few Down m sound c directed in absurd (omega (arith, some.0))
out_there m a b sound there (suc k) c directed few e =
    let outs : (ℕ → Flow) = λ u. (end_after (transport_of op.ThresholdState) m a b k u).out in
    elim (threshold_missing (map outs (feeders Down m c)) (a c) (b c) e) as (λ _. ⊥) [
      | inl came ↦
          let r = missing-total outs (feeders Down m c) came in
          let feeds = feeder_feeds Down m sound c r.0 directed r.1 in
          out_there m a b sound there k r.0 feeds.directed (omega (arith, feeds.fewer)) r.2
      | inr own ↦ elim own as (λ _. ⊥) [ inl x ↦ (there c directed).0 x | inr y ↦ (there c directed).1 y ]
    ]

-- what is taken out of a number and put back
back : (x o : ℤ) → ((x -ℤ o) +ℤ o) ≡ x
back x o = omega (arith, ints)

-- what is kept of a total and what is above the threshold are the total
balance : (total : Flow) (z : ℤ) → together (keeping total (above_threshold total (flow.Num z))).result (above_threshold total (flow.Num z)) ≡ total
balance flow.Mv z = refl
balance (flow.Num x) z = ap (λ (y : ℤ). flow.Num y) (back x (if int_lt (x -ℤ z) (pos 0) then pos 0 else (x -ℤ z)))

-- the result and the outflow of a cell together are its inflow and its material
kept_out : (e : FlowEnd) (flows : List Flow) (a b : Cell) → b ≢ cell.Mv → e ≡ equation_of op.ThresholdState flows a b →
    together e.result e.out ≡ together (total_flow flows) (material a)
unfolding equation_of
kept_out e flows a cell.Mv there is = absurd (there refl)
kept_out e flows a (cell.Val z) there is = ap (λ (y : FlowEnd). together y.result y.out) is ∙ balance (gathered_material flows a) z

-- what stays in a cell
abbrev kept_at : DrainMap → (ℕ → Cell) → (ℕ → Cell) → ℕ → Flow
kept_at m a b c = (end_of (transport_of op.ThresholdState) m a b c).result

-- what flows out of a cell
abbrev out_at : DrainMap → (ℕ → Cell) → (ℕ → Cell) → ℕ → Flow
out_at m a b c = (end_of (transport_of op.ThresholdState) m a b c).out

-- what flows into a cell
abbrev inflow_at : DrainMap → (ℕ → Cell) → (ℕ → Cell) → ℕ → Flow
inflow_at m a b c = total_flow (map (out_at m a b) (tributaries m c))

-- both are what came together in it
cell_balance : (m : DrainMap) (a b : ℕ → Cell) → IsSound m → ArePresent m a b → (c : ℕ) → IsDirected m c →
    together (kept_at m a b c) (out_at m a b c) ≡ together (inflow_at m a b c) (material (a c))
unfolding feeders
cell_balance m a b sound there c directed =
    kept_out (end_of (transport_of op.ThresholdState) m a b c) (map (out_at m a b) (tributaries m c)) (a c) (b c) (there c directed).1
    (ends_meet (transport_of op.ThresholdState) m a b sound c directed)

-- ---- all cells

-- there is a cell drained into
abbrev leads_to_cell : Next → Bool
leads_to_cell next.Pit = false
leads_to_cell (next.Cell d) = true
leads_to_cell next.Outside = false
leads_to_cell next.Missing = false

-- flows that are alike where there is a direction
where_leads : (n : Next) (x y : Flow) → ((n ≡ next.Missing → ⊥) → x ≡ y) → if_so (leads_on n) x ≡ if_so (leads_on n) y
where_leads next.Pit x y e = e (λ h. cc h)
where_leads (next.Cell d) x y e = e (λ h. cc h)
where_leads next.Outside x y e = e (λ h. cc h)
where_leads next.Missing x y e = refl

-- nothing that is passed on
none_passed : (m : DrainMap) → total_flow (map (λ c. if_so (leads_on (next_at m c)) nothing) (all_places m)) ≡ nothing
none_passed m = ap total_flow (map_alike (λ c. if_so (leads_on (next_at m c)) nothing) (λ c. nothing) (all_places m) (λ c h. if_so-nothing (leads_on (next_at m c)))) ∙ total-nothing (all_places m)

-- what flows out of a cell comes to one cell with a direction, and what flows out of a pit to none
passed_on : (m : DrainMap) → IsSound m → (u : ℕ) (x : Flow) (n : Next) → next_at m u ≡ n →
    total_flow (map (λ c. if_so (leads_on (next_at m c)) (if_so (drains_into c n) x)) (all_places m)) ≡ if_so (leads_to_cell n) x
passed_on m sound u x next.Pit e = none_passed m
passed_on m sound u x (next.Cell d) e =
    let directed = next_directed m u d (sound u (λ h. cc (h, e))) e in
    from_one m (λ c. leads_on (next_at m c)) d x (directed_within m d directed) ∙ ap (λ (o : Bool). if_so o x) (leads_of m d (next_at m d) refl directed)
passed_on m sound u x next.Outside e = none_passed m
passed_on m sound u x next.Missing e = none_passed m

-- what flows into all cells is what flows out of those that drain into a cell
inflows_all : (m : DrainMap) → IsSound m → (out : ℕ → Flow) →
    total_flow (map (λ c. if_so (leads_on (next_at m c)) (total_flow (map out (tributaries m c)))) (all_places m))
    ≡ total_flow (map (λ u. if_so (leads_to_cell (next_at m u)) (out u)) (all_places m))
inflows_all m sound out =
    let given : (ℕ → ℕ → Flow) = λ c u. if_so (drains_into c (next_at m u)) (out u) in
    ap total_flow (map_alike (λ c. if_so (leads_on (next_at m c)) (total_flow (map out (tributaries m c)))) (λ c. total_flow (map (λ u. if_so (leads_on (next_at m c)) (given c u)) (all_places m))) (all_places m) (λ c h.
    ap (λ (y : Flow). if_so (leads_on (next_at m c)) y) (total-filter (λ u. drains_into c (next_at m u)) out (all_places m)) ∙ if_so-total (leads_on (next_at m c)) (given c) (all_places m)))
    ∙ (total-swap (λ c u. if_so (leads_on (next_at m c)) (given c u)) (all_places m) (all_places m)
    ∙ ap total_flow (map_alike (λ u. total_flow (map (λ c. if_so (leads_on (next_at m c)) (given c u)) (all_places m))) (λ u. if_so (leads_to_cell (next_at m u)) (out u)) (all_places m) (λ u h. passed_on m sound u (out u) (next_at m u) refl)))

-- a cell with a direction is a pit or drains into a cell
pit_or_cell : (m : DrainMap) → IsSound m → (u : ℕ) (x : Flow) (n : Next) → next_at m u ≡ n →
    if_so (leads_on n) x ≡ together (if_so (is_pit n) x) (if_so (leads_to_cell n) x)
pit_or_cell m sound u x next.Pit e = sym (together_unit x)
pit_or_cell m sound u x (next.Cell d) e = sym (together_swap nothing x ∙ together_unit x)
pit_or_cell m sound u x next.Outside e = absurd (path_leaves m u (sound u (λ h. cc (h, e))) (inl e))
pit_or_cell m sound u x next.Missing e = refl

-- what flows out of all cells flows out of pits, or into cells
outflows_all : (m : DrainMap) → IsSound m → (out : ℕ → Flow) →
    total_flow (map (λ u. if_so (leads_on (next_at m u)) (out u)) (all_places m))
    ≡ together (total_flow (map (λ u. if_so (is_pit (next_at m u)) (out u)) (all_places m))) (total_flow (map (λ u. if_so (leads_to_cell (next_at m u)) (out u)) (all_places m)))
outflows_all m sound out =
    ap total_flow (map_alike (λ u. if_so (leads_on (next_at m u)) (out u)) (λ u. together (if_so (is_pit (next_at m u)) (out u)) (if_so (leads_to_cell (next_at m u)) (out u))) (all_places m) (λ u h. pit_or_cell m sound u (out u) (next_at m u) refl))
    ∙ total-together (λ u. if_so (is_pit (next_at m u)) (out u)) (λ u. if_so (leads_to_cell (next_at m u)) (out u)) (all_places m)

-- what is kept of all cells and flows out of them is what flows into them and their material
all_balance : (m : DrainMap) (a b : ℕ → Cell) → IsSound m → ArePresent m a b →
    together (total_flow (map (λ c. if_so (leads_on (next_at m c)) (kept_at m a b c)) (all_places m))) (total_flow (map (λ c. if_so (leads_on (next_at m c)) (out_at m a b c)) (all_places m)))
    ≡ together (total_flow (map (λ c. if_so (leads_on (next_at m c)) (inflow_at m a b c)) (all_places m))) (total_flow (map (λ c. if_so (leads_on (next_at m c)) (material (a c))) (all_places m)))
all_balance m a b sound there =
    sym (total-together (λ c. if_so (leads_on (next_at m c)) (kept_at m a b c)) (λ c. if_so (leads_on (next_at m c)) (out_at m a b c)) (all_places m))
    ∙ (ap total_flow (map_alike
    (λ c. together (if_so (leads_on (next_at m c)) (kept_at m a b c)) (if_so (leads_on (next_at m c)) (out_at m a b c)))
    (λ c. together (if_so (leads_on (next_at m c)) (inflow_at m a b c)) (if_so (leads_on (next_at m c)) (material (a c))))
    (all_places m)
    (λ c h. sym (if_so-together (leads_on (next_at m c)) (kept_at m a b c) (out_at m a b c))
    ∙ (where_leads (next_at m c) (together (kept_at m a b c) (out_at m a b c)) (together (inflow_at m a b c) (material (a c))) (cell_balance m a b sound there c)
    ∙ if_so-together (leads_on (next_at m c)) (inflow_at m a b c) (material (a c)))))
    ∙ total-together (λ c. if_so (leads_on (next_at m c)) (inflow_at m a b c)) (λ c. if_so (leads_on (next_at m c)) (material (a c))) (all_places m))

-- ---- what is left where the flows between cells are taken out

-- a number on both sides is taken out
cancel : (x y z : Flow) → (z ≡ flow.Mv → ⊥) → together x z ≡ together y z → x ≡ y
cancel x y flow.Mv there e = absurd (there refl)
cancel flow.Mv flow.Mv (flow.Num n) there e = refl
cancel flow.Mv (flow.Num k) (flow.Num n) there e = cc e
cancel (flow.Num j) flow.Mv (flow.Num n) there e = cc e
cancel (flow.Num j) (flow.Num k) (flow.Num n) there e =
    let same : (j +ℤ n) ≡ (k +ℤ n) = cc e in
    ap (λ (y : ℤ). flow.Num y) (omega (arith, ints, same))

-- what flows from cell to cell is no missing value
cell_flow : (m : DrainMap) (a b : ℕ → Cell) → IsSound m → ArePresent m a b → (u : ℕ) (n : Next) → next_at m u ≡ n → if_so (leads_to_cell n) (out_at m a b u) ≡ flow.Mv → ⊥
unfolding end_of
cell_flow m a b sound there u next.Pit e h = cc h
cell_flow m a b sound there u (next.Cell d) e h =
    let directed : IsDirected m u = λ k. cc (k, e) in
    out_there m a b sound there (length m.codes) u directed (steps_few Down m sound u directed).1 h
cell_flow m a b sound there u next.Outside e h = cc h
cell_flow m a b sound there u next.Missing e h = cc h

-- nor is all of it together
between_there : (m : DrainMap) (a b : ℕ → Cell) → IsSound m → ArePresent m a b →
    total_flow (map (λ u. if_so (leads_to_cell (next_at m u)) (out_at m a b u)) (all_places m)) ≡ flow.Mv → ⊥
between_there m a b sound there e =
    let r = missing-total (λ u. if_so (leads_to_cell (next_at m u)) (out_at m a b u)) (all_places m) e in
    cell_flow m a b sound there r.0 (next_at m r.0) refl r.2

-- what is left where the flows between cells are taken out on both sides
kept_and_pits : (kept pits between all inflows own : Flow) → (between ≡ flow.Mv → ⊥) → all ≡ together pits between → inflows ≡ between → together kept all ≡ together inflows own → together kept pits ≡ own
kept_and_pits kept pits between all inflows own there split came e =
    cancel (together kept pits) own between there
    (together_regroup kept pits between
    ∙ (ap (λ (y : Flow). together kept y) (sym split)
    ∙ (e ∙ (ap (λ (y : Flow). together y own) came ∙ together_swap between own))))

-- the flux is what flows out
flux_out : (m : DrainMap) (a b : ℕ → Cell) → IsSound m → (c : ℕ) → IsDirected m c → end_of (transport_of op.ThresholdFlux) m a b c ≡ passing (out_at m a b c)
unfolding equation_of feeders
flux_out m a b sound c directed =
    ends_unique (transport_of op.ThresholdFlux) m a b (λ d. passing (out_at m a b d)) sound
    (λ d h. ap (λ (e : FlowEnd). passing e.out) (ends_meet (transport_of op.ThresholdState) m a b sound d h)) c directed

-- at a pit the flux is what flows out
pit_flux : (m : DrainMap) (a b : ℕ → Cell) → IsSound m → (p : ℕ) (n : Next) → next_at m p ≡ n →
    if_so (is_pit n) (end_of (transport_of op.ThresholdFlux) m a b p).result ≡ if_so (is_pit n) (out_at m a b p)
pit_flux m a b sound p next.Pit e = ap (λ (y : FlowEnd). y.result) (flux_out m a b sound p (λ h. cc (h, e)))
pit_flux m a b sound p (next.Cell d) e = refl
pit_flux m a b sound p next.Outside e = refl
pit_flux m a b sound p next.Missing e = refl

-- what is kept in the cells and what flows out of the pits are the material of all cells
pub kept_or_passed : KeepOrLetPass
kept_or_passed m a b sound there =
    let kept = total-filter (λ c. leads_on (next_at m c)) (kept_at m a b) (all_places m) in
    let pits = total-filter (λ p. is_pit (next_at m p)) (λ p. (end_of (transport_of op.ThresholdFlux) m a b p).result) (all_places m)
    ∙ ap total_flow (map_alike (λ p. if_so (is_pit (next_at m p)) (end_of (transport_of op.ThresholdFlux) m a b p).result) (λ p. if_so (is_pit (next_at m p)) (out_at m a b p)) (all_places m) (λ p h. pit_flux m a b sound p (next_at m p) refl)) in
    let own = total-filter (λ q. leads_on (next_at m q)) (λ q. material (a q)) (all_places m) in
    ap (λ (y : Flow). together y (total_flow (map (λ p. (end_of (transport_of op.ThresholdFlux) m a b p).result) (filter (λ p. is_pit (next_at m p)) (all_places m))))) kept
    ∙ (ap (λ (y : Flow). together (total_flow (map (λ c. if_so (leads_on (next_at m c)) (kept_at m a b c)) (all_places m))) y) pits
    ∙ (kept_and_pits
    (total_flow (map (λ c. if_so (leads_on (next_at m c)) (kept_at m a b c)) (all_places m)))
    (total_flow (map (λ u. if_so (is_pit (next_at m u)) (out_at m a b u)) (all_places m)))
    (total_flow (map (λ u. if_so (leads_to_cell (next_at m u)) (out_at m a b u)) (all_places m)))
    (total_flow (map (λ u. if_so (leads_on (next_at m u)) (out_at m a b u)) (all_places m)))
    (total_flow (map (λ c. if_so (leads_on (next_at m c)) (inflow_at m a b c)) (all_places m)))
    (total_flow (map (λ c. if_so (leads_on (next_at m c)) (material (a c))) (all_places m)))
    (between_there m a b sound there)
    (outflows_all m sound (out_at m a b))
    (inflows_all m sound (out_at m a b))
    (all_balance m a b sound there)
    ∙ sym own))
