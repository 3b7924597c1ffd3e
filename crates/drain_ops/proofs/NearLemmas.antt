-- One step up and down stream in the cells around a rectangle is the step in the whole map.
use Rattle.std.proofs.Common.{◌≡◌, inl, inr, ℕ, ◌<◌, List, length, refl, sym, ap, subst, ◌∙◌, arith, Bool, true, false, get_or}
use Rattle.std.specs.Prelude.{pos, negsuc, ◌==◌, if◌then◌else◌, IfOk, Result, Ok, Err}
use Rattle.std.specs.List.{Contains, range_with_len}
use Rattle.std.proofs.lemmas.List.{get_or_default}
use Rattle.cell_values.specs.declared.cell.Cell.{Cell}
use Rattle.cell_values.specs.declared.cell.Cell.TheVariants as cell
use Rattle.cell_values.specs.declared.kind.Kind.TheVariants.{Scalar}
use Rattle.tile_map.specs.declared.part.Part.{Part}
use Rattle.tile_map.specs.declared.rect.Rect.{Rect}
use Rattle.tile_map.specs.Cuts.{cell_at}
use Rattle.tile_map.specs.Parts.{part_of}
use Rattle.tile_map.specs.Rects.{HoldsPlace, cell_count, number_in, place_in, places_of}
use Rattle.tile_map.proofs.Callers.{ascends_over_places, holds_cell, number_in-place_in, number_of_held, part_of-same}
use Rattle.drain_meaning.specs.declared.flow.Flow.{Flow}
use Rattle.drain_meaning.specs.declared.next.Next.{Next}
use Rattle.drain_meaning.specs.declared.next.Next.TheVariants as next
use Rattle.drain_meaning.specs.declared.op.FlowOp.TheVariants as op
use Rattle.drain_meaning.specs.declared.op.NearOp.{NearOp}
use Rattle.drain_meaning.specs.declared.op.NearOp.TheVariants.{Upstream, Downstream}
use Rattle.drain_meaning.specs.Drains.{DrainMap, next_at, next_of}
use Rattle.drain_meaning.specs.Equations.{transport_of}
use Rattle.drain_meaning.specs.Flows.{flow_outcome, material, nothing}
use Rattle.drain_meaning.specs.Near.{downstream_of, drained_place, near_flow, near_outcome, upstream_of}
use Rattle.drain_meaning.specs.Sums.{accu_rule}
use Rattle.drain_meaning.specs.Transports.{drains_into, where_directed}
use Rattle.drain_meaning.specs.inside.SumLaws.{accu_laws}
use Rattle.drain_meaning.proofs.Callers.{drains_tells}
use Rattle.drain_ops.specs.Surroundings.{AreSurroundings, IsNearPart}
use Rattle.drain_ops.specs.inside.Cutout.{cutout, fed, flow_or_nothing, flow_within, number_around}
use Rattle.drain_ops.proofs.CutoutLemmas.{cell_there, next_inward, next_outward}
use Rattle.drain_ops.proofs.FedLemmas.{upstream-gathered}
use Rattle.drain_ops.proofs.Gathered.{IsApart, apart_of, apart_range, gathered, gathered-map, gathered_alike, gathered_same, in_range, of_range}
use Rattle.drain_ops.proofs.Loads.{drains_true}
use Rattle.drain_ops.proofs.SurroundingLemmas.{around_in_map, cell_at-cut, drained_held, feeder_held, inner_held, inner_within, length-cut, number_of_inner}

-- ---- the value of the cell drained into

-- a cell that drains into none counts itself
stays_there : (n : ℕ) (y : Next) → ((v : ℕ) → y ≡ next.Cell v → ⊥) → drained_place n y ≡ n
stays_there n (next.Cell v) none = absurd (none v refl)
stays_there n next.Pit none = refl
stays_there n next.Outside none = refl
stays_there n next.Missing none = refl

-- so it does around the rectangle
none_around : (m : DrainMap) (values codes cells : List Cell) (around inner : Rect) → AreSurroundings m values codes cells around inner → (i : ℕ) → i < cell_count inner → ((d : ℕ) → next_at m (place_in m.cols inner i) ≡ next.Cell d → ⊥) →
    cell_at cells (drained_place (number_in m.cols around (place_in m.cols inner i)) (next_at (cutout around codes) (number_in m.cols around (place_in m.cols inner i)))) ≡ cell_at values (place_in m.cols inner i)
none_around m values codes cells around inner a i low none =
    let c : ℕ = place_in m.cols inner i in
    let n : ℕ = number_in m.cols around c in
    let held = inner_held m values codes cells around inner a i low in
    let is = around_in_map m values codes cells around inner a in
    ap (cell_at cells) (stays_there n (next_at (cutout around codes) n) (λ v e. none (place_in m.cols around v) (next_outward m around codes c v is a.codes_cut held e)))
    ∙ cell_there m.cols values around cells c a.cells_cut held

-- the cell that is drained into, by where that leads in the whole map
drained_by : (m : DrainMap) (values codes cells : List Cell) (around inner : Rect) → AreSurroundings m values codes cells around inner → (i : ℕ) → i < cell_count inner → (x : Next) → next_at m (place_in m.cols inner i) ≡ x →
    cell_at cells (drained_place (number_in m.cols around (place_in m.cols inner i)) (next_at (cutout around codes) (number_in m.cols around (place_in m.cols inner i)))) ≡ cell_at values (drained_place (place_in m.cols inner i) x)
drained_by m values codes cells around inner a i low (next.Cell d) e =
    let c : ℕ = place_in m.cols inner i in
    let n : ℕ = number_in m.cols around c in
    let there = drained_held m values codes cells around inner a i d low e in
    ap (λ (y : Next). cell_at cells (drained_place n y)) (next_inward m around codes c d a.codes_cut (inner_held m values codes cells around inner a i low) there e)
    ∙ cell_there m.cols values around cells d a.cells_cut there
drained_by m values codes cells around inner a i low next.Pit e = none_around m values codes cells around inner a i low (λ d f. cc (e, f))
drained_by m values codes cells around inner a i low next.Outside e = none_around m values codes cells around inner a i low (λ d f. cc (e, f))
drained_by m values codes cells around inner a i low next.Missing e = none_around m values codes cells around inner a i low (λ d f. cc (e, f))

-- one step downstream is that of the whole map
downstream_around : (m : DrainMap) (values codes cells : List Cell) (around inner : Rect) → AreSurroundings m values codes cells around inner → (i : ℕ) → i < cell_count inner →
    downstream_of (cutout around codes) (cell_at cells) (number_in m.cols around (place_in m.cols inner i)) ≡ downstream_of m (cell_at values) (place_in m.cols inner i)
downstream_around m values codes cells around inner a i low =
    ap material (drained_by m values codes cells around inner a i low (next_at m (place_in m.cols inner i)) refl)

-- ---- what comes from the cells that drain into one

-- a cell around the rectangle drains into one of the rectangle just where it does so in the whole map
drains_around : (m : DrainMap) (values codes cells : List Cell) (around inner : Rect) → AreSurroundings m values codes cells around inner → (i x : ℕ) → i < cell_count inner → HoldsPlace m.cols around x →
    drains_into (number_in m.cols around (place_in m.cols inner i)) (next_at (cutout around codes) (number_in m.cols around x)) ≡ drains_into (place_in m.cols inner i) (next_at m x)
drains_around m values codes cells around inner a i x low held =
    let c : ℕ = place_in m.cols inner i in
    let n : ℕ = number_in m.cols around c in
    let k : ℕ = number_in m.cols around x in
    let there = inner_held m values codes cells around inner a i low in
    let is = around_in_map m values codes cells around inner a in
    elim (drains_tells (next_at m x) c) as (λ _. drains_into n (next_at (cutout around codes) k) ≡ drains_into c (next_at m x)) [
      | inl e ↦ drains_true (next_at (cutout around codes) k) n (next_inward m around codes x c a.codes_cut held there e) ∙ sym (drains_true (next_at m x) c e)
      | inr e ↦ elim (drains_tells (next_at (cutout around codes) k) n) as (λ _. drains_into n (next_at (cutout around codes) k) ≡ drains_into c (next_at m x)) [
        | inl f ↦
            let on : next_at m x ≡ next.Cell (place_in m.cols around n) = next_outward m around codes x n is a.codes_cut held f in
            let back : place_in m.cols around n ≡ c = (number_of_held m.cols around c there).1 in
            let yes : drains_into c (next_at m x) ≡ true = drains_true (next_at m x) c (on ∙ ap (λ (y : ℕ). next.Cell y) back) in
            cc (e, yes)
        | inr f ↦ f ∙ sym e
      ]
    ]

-- it gives the same
fed_around : (m : DrainMap) (values codes cells : List Cell) (around inner : Rect) → AreSurroundings m values codes cells around inner → (i k : ℕ) → i < cell_count inner → k < cell_count around →
    fed (cutout around codes) (cell_at cells) (number_in m.cols around (place_in m.cols inner i)) k ≡ fed m (cell_at values) (place_in m.cols inner i) (place_in m.cols around k)
fed_around m values codes cells around inner a i k low within =
    let c : ℕ = place_in m.cols inner i in
    let n : ℕ = number_in m.cols around c in
    let x : ℕ = place_in m.cols around k in
    let is = around_in_map m values codes cells around inner a in
    let number : number_in m.cols around x ≡ k = number_in-place_in m.rows m.cols around k is within in
    let test : drains_into n (next_at (cutout around codes) k) ≡ drains_into c (next_at m x) =
    subst (λ (z : ℕ). drains_into n (next_at (cutout around codes) z) ≡ drains_into c (next_at m x)) number
    (drains_around m values codes cells around inner a i x low (holds_cell m.rows m.cols around k is within).0) in
    ap (λ (o : Bool). if o then material (cell_at cells k) else nothing) test
    ∙ ap (λ (z : Cell). if drains_into c (next_at m x) then material z else nothing) (cell_at-cut m.cols values cells around k a.cells_cut within)

-- the places of a rectangle stand once in their list
apart_places : (m : DrainMap) (values codes cells : List Cell) (around inner : Rect) → AreSurroundings m values codes cells around inner → IsApart (places_of m.cols around)
apart_places m values codes cells around inner a =
    let listed = ascends_over_places m.rows m.cols around (around_in_map m values codes cells around inner a) in
    apart_of (places_of m.cols around) (λ i j less below same. let up = listed.ascends i j less below in omega (arith, up, same))

-- joined over the places of a rectangle is joined over their numbers
gathered-places_of : (cols : ℕ) (r : Rect) (f : ℕ → Flow) → gathered accu_rule f (places_of cols r) ≡ gathered accu_rule (λ k. f (place_in cols r k)) (range_with_len 0 (cell_count r))
unfolding places_of
gathered-places_of cols r f = gathered-map accu_rule f (place_in cols r) (range_with_len 0 (cell_count r))

-- a place in the list of a rectangle's places is in the map
listed_within : (m : DrainMap) (values codes cells : List Cell) (around inner : Rect) → AreSurroundings m values codes cells around inner → (u : ℕ) → Contains (places_of m.cols around) u → u < length m.codes
listed_within m values codes cells around inner a u h =
    let listed = ascends_over_places m.rows m.cols around (around_in_map m values codes cells around inner a) in
    let low = (listed.only h.0 h.1).0 in
    let same : get_or (places_of m.cols around) h.0 0 ≡ u = get_or_default (places_of m.cols around) h.0 0 u h.1 ∙ h.2 in
    omega (arith, low, same, a.map.size)

-- what comes to a cell of the inner rectangle comes from the cells around
gathered_around : (m : DrainMap) (values codes cells : List Cell) (around inner : Rect) → AreSurroundings m values codes cells around inner → (i : ℕ) → i < cell_count inner →
    gathered accu_rule (fed m (cell_at values) (place_in m.cols inner i)) (range_with_len 0 (length m.codes)) ≡ gathered accu_rule (fed m (cell_at values) (place_in m.cols inner i)) (places_of m.cols around)
gathered_around m values codes cells around inner a i low =
    let c : ℕ = place_in m.cols inner i in
    let listed = ascends_over_places m.rows m.cols around (around_in_map m values codes cells around inner a) in
    let all : List ℕ = range_with_len 0 (length m.codes) in
    gathered_same (transport_of op.Accuflux) accu_rule accu_laws (fed m (cell_at values) c) all (places_of m.cols around) (apart_range (length m.codes)) (apart_places m values codes cells around inner a)
    (λ u h. in_range (length m.codes) u (listed_within m values codes cells around inner a u h))
    (λ u h out. elim (drains_tells (next_at m u) c) as (λ _. fed m (cell_at values) c u ≡ nothing) [
      | inl e ↦ absurd (out (listed.each u (subst (λ (z : ℕ). u < z) a.map.size (of_range (length m.codes) u h), feeder_held m values codes cells around inner a i u low e)))
      | inr e ↦ rw e
    ])

-- one step upstream is that of the whole map
upstream_around : (m : DrainMap) (values codes cells : List Cell) (around inner : Rect) → AreSurroundings m values codes cells around inner → (i : ℕ) → i < cell_count inner →
    upstream_of (cutout around codes) (cell_at cells) (number_in m.cols around (place_in m.cols inner i)) ≡ upstream_of m (cell_at values) (place_in m.cols inner i)
upstream_around m values codes cells around inner a i low =
    let c : ℕ = place_in m.cols inner i in
    let n : ℕ = number_in m.cols around c in
    let here : (ℕ → Flow) = fed (cutout around codes) (cell_at cells) n in
    let whole : (ℕ → Flow) = fed m (cell_at values) c in
    let many : length codes ≡ cell_count around = length-cut m.cols m.codes codes around a.codes_cut in
    upstream-gathered (cutout around codes) (cell_at cells) n
    ∙ (ap (λ (z : ℕ). gathered accu_rule here (range_with_len 0 z)) many
    ∙ (gathered_alike accu_rule here (λ k. whole (place_in m.cols around k)) (range_with_len 0 (cell_count around)) (λ k h. fed_around m values codes cells around inner a i k low (of_range (cell_count around) k h))
    ∙ (sym (gathered-places_of m.cols around whole)
    ∙ (sym (gathered_around m values codes cells around inner a i low)
    ∙ sym (upstream-gathered m (cell_at values) c)))))

-- ---- outcomes

-- so is either step
near_around : (o : NearOp) (m : DrainMap) (values codes cells : List Cell) (around inner : Rect) → AreSurroundings m values codes cells around inner → (i : ℕ) → i < cell_count inner →
    near_flow o (cutout around codes) (cell_at cells) (number_in m.cols around (place_in m.cols inner i)) ≡ near_flow o m (cell_at values) (place_in m.cols inner i)
near_around Upstream m values codes cells around inner a i low = upstream_around m values codes cells around inner a i low
near_around Downstream m values codes cells around inner a i low = downstream_around m values codes cells around inner a i low

-- a code that leads to a cell, to none or nowhere is a direction
led : (o t : Bool) (x : ℕ) (f : Flow) → where_directed (if o then next.Pit else (if t then next.Cell x else next.Outside)) f ≡ f
led true t x f = refl
led false true x f = refl
led false false x f = refl

-- whether there is a direction is told by the code alone
directed_alike : (rows cols place rows2 cols2 place2 : ℕ) (code : Cell) (f : Flow) → where_directed (next_of rows cols place code) f ≡ where_directed (next_of rows2 cols2 place2 code) f
unfolding next_of
directed_alike rows cols place rows2 cols2 place2 cell.Mv f = refl
directed_alike rows cols place rows2 cols2 place2 (cell.Val (negsuc k)) f = refl
directed_alike rows cols place rows2 cols2 place2 (cell.Val (pos k)) f = led (k == 5) _ _ f ∙ sym (led (k == 5) _ _ f)

-- so a cell has a direction around the rectangle just where it has one in the whole map
directed_around : (m : DrainMap) (around : Rect) (codes : List Cell) (number c : ℕ) (f : Flow) → cell_at codes number ≡ cell_at m.codes c → where_directed (next_at (cutout around codes) number) f ≡ where_directed (next_at m c) f
unfolding next_at
directed_around m around codes number c f e =
    ap (λ (x : Cell). where_directed (next_of around.rows around.cols number x) f) e
    ∙ directed_alike around.rows around.cols number m.rows m.cols c (cell_at m.codes c) f

-- the flows are what an operation comes to at each cell of the rectangle's map
pub record AreFlows (o : NearOp) (around : Rect) (codes cells : List Cell) (flows : List Flow) : Type 0 where
  pub each : (d : ℕ) → d < length codes → flow_or_nothing flows d ≡ near_flow o (cutout around codes) (cell_at cells) d

-- the outcome at a cell of the inner rectangle is that at its place
outcome_around : (o : NearOp) (m : DrainMap) (values codes cells : List Cell) (around inner : Rect) (flows : List Flow) → AreSurroundings m values codes cells around inner →
    AreFlows o around codes cells flows → (i : ℕ) → i < cell_count inner →
    flow_within around codes flows inner i ≡ near_outcome o m (cell_at values) (place_in m.cols inner i)
unfolding near_outcome
outcome_around o m values codes cells around inner flows a are i low =
    let c : ℕ = place_in m.cols inner i in
    let n : ℕ = number_in m.cols around c in
    let is : number_around around inner i ≡ n = number_of_inner m values codes cells around inner a i low in
    let within : n < length codes = subst (λ (z : ℕ). z < length codes) is ((inner_within m values codes cells around inner a).each i low).below in
    let held = inner_held m values codes cells around inner a i low in
    ap (λ (z : ℕ). flow_outcome Scalar (where_directed (next_at (cutout around codes) z) (flow_or_nothing flows z))) is
    ∙ (ap (λ (f : Flow). flow_outcome Scalar (where_directed (next_at (cutout around codes) n) f)) (are.each n within ∙ near_around o m values codes cells around inner a i low)
    ∙ ap (flow_outcome Scalar) (directed_around m around codes n c (near_flow o m (cell_at values) c) (cell_there m.cols m.codes around codes c a.codes_cut held)))

-- ---- the part

-- the part of the inner rectangle is that of the whole map
part_around : (o : NearOp) (m : DrainMap) (values codes cells : List Cell) (around inner : Rect) (flows : List Flow) → AreSurroundings m values codes cells around inner → AreFlows o around codes cells flows →
    part_of (flow_within around codes flows inner) (cell_count inner) ≡ part_of (λ i. near_outcome o m (cell_at values) (place_in m.cols inner i)) (cell_count inner)
part_around o m values codes cells around inner flows a are =
    part_of-same (flow_within around codes flows inner) (λ i. near_outcome o m (cell_at values) (place_in m.cols inner i)) (cell_count inner) (outcome_around o m values codes cells around inner flows a are)

-- the part that the flows come to is that of the whole map
pub part_result : {E : Type 0} (r : Result Part E) (o : NearOp) (codes cells : List Cell) (around inner : Rect) (flows : List Flow) → AreFlows o around codes cells flows →
    IfOk r (λ part. part ≡ part_of (flow_within around codes flows inner) (cell_count inner)) →
    IfOk r (IsNearPart o codes cells around inner)
part_result (Ok part) o codes cells around inner flows are is = λ m values a. is ∙ part_around o m values codes cells around inner flows a are
part_result (Err e) o codes cells around inner flows are is = tt
