-- What a transport over a tile begins with.
use Rattle.std.proofs.Common.{◌≡◌, ℕ, ◌<◌, ◌≤◌, List, [], ◌∷◌, length, map, take, replicate, refl, sym, ap, subst, ◌∙◌, arith, inl, inr, suc, zero, Bool, true, false, get_or}
use Rattle.std.specs.Prelude.{not, ◌==◌, is_some}
use Rattle.std.specs.List.{Contains, filter, list_any, range_with_len}
use Rattle.std.proofs.lemmas.Bool.{cases_Bool, eq-eqb}
use Rattle.std.proofs.lemmas.List.{get_or-map, get_or-replicate, get_or_default, length-map, length-replicate}
use Rattle.std.proofs.lemmas.List.FromFn.{get_or-map-range_with_len, length-map-range_with_len}
use Rattle.tile_map.specs.Rects.{HoldsPlace}
use Rattle.tile_map.proofs.Callers.{number_of_held}
use Rattle.drain_meaning.specs.declared.op.Orient.{Orient}
use Rattle.drain_meaning.specs.declared.op.Orient.TheVariants.{Down, Up}
use Rattle.drain_meaning.specs.Drains.{DrainMap}
use Rattle.drain_meaning.specs.Rules.{Accumulator, RuleLaws}
use Rattle.drain_meaning.specs.Transports.{Transport, feeders}
use Rattle.drain_meaning.proofs.Callers.{contains_first, contains_later, feeder_within, kept_passes}
use Rattle.border_channel.specs.declared.edge.Edge.{Edge}
use Rattle.border_channel.specs.declared.edge.Message.{Message}
use Rattle.border_channel.specs.Edges.{IsBorderEdge, border_edges_of, edge_at, fed_by}
use Rattle.border_channel.specs.Laws.{IsTileOf}
use Rattle.border_channel.specs.TileFlows.{TileFlow, brought, in_tile, tile_rect}
use Rattle.border_channel.proofs.Callers.{edges_listed, fed_within, feeds_fed, filter-keeps, filter_rises, held_in_tile, place_of_map, range_rises, rises_index}
use Rattle.flow_task.specs.declared.link.Link.{Link}
use Rattle.flow_task.specs.inside.Begins.{edge_end, fed_in_tile, missing_first, none_missing, over_cells, tile_link, turned_round}
use Rattle.flow_task.specs.inside.Kept.{AreInbound, AreOutbound, AreUnsent, Ascend, HasLink, how_many, link_at, numbers, still_to_come, was_taken}
use Rattle.flow_task.specs.inside.States.{State, fed_cells, missing_at}
use Rattle.flow_task.specs.inside.Underway.{AreLinks, Counted, Distinct, IsUnderway, came, one_if, done_come, joined_over, cell_number, cell_place, passing_many, tile_size}
use Rattle.flow_task.proofs.Receiving.{eqb_same}
use Rattle.flow_task.proofs.Sending.{range_has}
use Rattle.flow_task.proofs.Settling.{in_range, range_distinct}
use Rattle.flow_task.proofs.Turns.{distinct_filter, map_from, number_there}

-- ---- something over the first cells

pub over_many : {A : Type 0} (f : ℕ → A) (n : ℕ) → length (over_cells f n) ≡ n
over_many f n = length-map-range_with_len f 0 n

pub over_at : {A : Type 0} (f : ℕ → A) (n i : ℕ) (d : A) → i < n → get_or (over_cells f n) i d ≡ f i
over_at f n i d low = get_or-map-range_with_len f 0 n i i d low (omega arith)

-- ---- the cells that are fed in the tile

-- numbers of places of the tile lead back to these
places_back : (w : TileFlow) → IsTileOf w → (xs : List ℕ) → ((c : ℕ) → Contains xs c → (c < length w.drain.codes) × (in_tile w c ≡ true)) → map (cell_place w) (map (cell_number w) xs) ≡ xs
places_back w is [] all = refl
places_back w is (x ∷ xs) all =
    let here = all x (contains_first x xs) in
    let one : cell_place w (cell_number w x) ≡ x = number_there w is x here.0 here.1 in
    let rest : map (cell_place w) (map (cell_number w) xs) ≡ xs = places_back w is xs (λ c h. all c (contains_later x xs c h)) in
    ap (λ (y : ℕ). y ∷ map (cell_place w) (map (cell_number w) xs)) one ∙ ap (λ (ys : List ℕ). x ∷ ys) rest

-- what is known of a fed cell that lies in the tile
fed_inside : (o : Orient) (w : TileFlow) → IsTileOf w → (u c : ℕ) → Contains (filter (in_tile w) (fed_by o w.drain u)) c → (c < length w.drain.codes) × (in_tile w c ≡ true)
fed_inside o w is u c h =
    let passes = kept_passes (in_tile w) (fed_by o w.drain u) c h in
    (fed_within o w.drain is.drain u c passes.1, passes.0)

-- the lists are those of the fed cells
pub links_begin : (o : Orient) (w : TileFlow) (fed : List (List ℕ)) → IsTileOf w → fed ≡ over_cells (fed_in_tile o w.drain w.tiling w.tile) (tile_size w) → AreLinks o w fed
links_begin o w fed is e = record {
  many = ap length e ∙ over_many (fed_in_tile o w.drain w.tiling w.tile) (tile_size w);
  below = λ i j low h.
      let there : Contains (fed_in_tile o w.drain w.tiling w.tile i) j = subst (λ (y : List ℕ). Contains y j) (listed i low) h in
      let from = map_from (cell_number w) (filter (in_tile w) (fed_by o w.drain (cell_place w i))) j there in
      let inside = fed_inside o w is (cell_place w i) from.at from.on in
      let held = held_in_tile w from.at (place_of_map w is from.at inside.0) inside.1 in
      subst (λ (y : ℕ). y < tile_size w) from.is (number_of_held w.tiling.cols (tile_rect w) from.at held).0;
  each = λ i low.
      ap (map (cell_place w)) (listed i low)
      ∙ places_back w is (filter (in_tile w) (fed_by o w.drain (cell_place w i))) (λ c h. fed_inside o w is (cell_place w i) c h);
}
  where
    listed : (i : ℕ) → i < tile_size w → fed_cells fed i ≡ fed_in_tile o w.drain w.tiling w.tile i
    listed i low = ap (λ (y : List (List ℕ)). get_or y i []) e ∙ over_at (fed_in_tile o w.drain w.tiling w.tile) (tile_size w) i [] low

-- ---- nothing has come

-- what feeds a cell is what is fed by it where orientations change places
pub turned_feeds : (o : Orient) (m : DrainMap) (c : ℕ) → fed_by (turned_round o) m c ≡ feeders o m c
unfolding fed_by feeders
turned_feeds Down m c = refl
turned_feeds Up m c = refl

any_none_taken : (p : ℕ → Bool) (xs : List ℕ) → list_any p (take 0 xs) ≡ false
any_none_taken p [] = refl
any_none_taken p (x ∷ xs) = refl

nothing_came : (w : TileFlow) (queue : List ℕ) → w.taken ≡ [] → (u c : ℕ) → done_come w queue 0 u c ≡ false
nothing_came w queue e u c = elim (cases_Bool (in_tile w u)) as (λ _. done_come w queue 0 u c ≡ false) [
  | inl inside ↦ rw inside (any_none_taken (λ i. i == cell_number w u) queue)
  | inr outside ↦ rw outside (ap (λ (y : List Message). is_some (brought w.edges y u c)) e)
]

tally_all : (p : ℕ → Bool) (xs : List ℕ) → ((x : ℕ) → p x ≡ true) → passing_many p xs ≡ length xs
tally_all p [] all = refl
tally_all p (x ∷ xs) all =
    let one : one_if (p x) ≡ 1 = ap one_if (all x) in
    let rest = tally_all p xs all in
    omega (arith, one, rest)

gathered_none : {A : Type 0} (t : Transport) (rule : Accumulator A) → RuleLaws t rule → (f : ℕ → A) (xs : List ℕ) → ((x : ℕ) → f x ≡ rule.none) → joined_over rule f xs ≡ rule.none
gathered_none t rule laws f [] none = refl
gathered_none {A = A} t rule laws f (x ∷ xs) none =
    ap (λ (y : A). rule.joined (joined_over rule f xs) y) (none x)
    ∙ (laws.unit (joined_over rule f xs) ∙ gathered_none t rule laws f xs none)

-- what is known of the state with which a transport begins
pub record IsFirst {A : Type 0} (t : Transport) (rule : Accumulator A) (w : TileFlow) (s : State A) : Type 0 where
  pub missing : s.missing ≡ over_cells (missing_first t.orient w.drain w.tiling w.tile) (tile_size w)
  pub queue : s.queue ≡ none_missing s.missing
  pub inflows : s.inflows ≡ over_cells (λ i. rule.none) (tile_size w)

counted_begin : {A : Type 0} (t : Transport) (rule : Accumulator A) → RuleLaws t rule → (w : TileFlow) → w.taken ≡ [] → (s : State A) → IsFirst t rule w s → Counted t rule w (done_come w s.queue 0) s
counted_begin {A = A} t rule laws w untaken s first = record {
  inflows_many = ap length first.inflows ∙ over_many (λ i. rule.none) (tile_size w);
  missing_many = many;
  missing = λ i low.
      ap (λ (y : List ℕ). get_or y i 0) first.missing
      ∙ (over_at (missing_first t.orient w.drain w.tiling w.tile) (tile_size w) i 0 low
      ∙ (ap length (turned_feeds t.orient w.drain (cell_place w i))
      ∙ sym (tally_all (λ u. not (done_come w s.queue 0 u (cell_place w i))) (feeders t.orient w.drain (cell_place w i)) (λ u. ap not (nothing_came w s.queue untaken u (cell_place w i))))));
  inflow = λ i low.
      ap (λ (y : List A). get_or y i rule.none) first.inflows
      ∙ (over_at (λ j. rule.none) (tile_size w) i rule.none low
      ∙ sym (gathered_none t rule laws (came t rule w (done_come w s.queue 0) (cell_place w i)) (feeders t.orient w.drain (cell_place w i)) (λ u. (let e : done_come w s.queue 0 u (cell_place w i) ≡ false = nothing_came w s.queue untaken u (cell_place w i) in rw e refl))));
  ready = λ i low e.
      let below : i < length s.missing = omega (arith, low, many) in
      subst (λ (y : List ℕ). Contains y i) (sym first.queue)
      (filter-keeps (λ j. missing_at s j == 0) (range_with_len 0 (length s.missing)) i (range_has (length s.missing) i below) (eq-eqb (missing_at s i) 0 e));
  waits = λ i h.
      let passes = kept_passes (λ j. missing_at s j == 0) (range_with_len 0 (length s.missing)) i (subst (λ (y : List ℕ). Contains y i) first.queue h) in
      let below = in_range (length s.missing) i passes.1 in
      (omega (arith, below, many), eqb_same (missing_at s i) 0 passes.0);
  apart = subst (λ (y : List ℕ). Distinct y) (sym first.queue) (distinct_filter (λ j. missing_at s j == 0) (range_with_len 0 (length s.missing)) (range_distinct 0 (length s.missing)));
  fits = λ i u low h e. absurd (let off = nothing_came w s.queue untaken u (cell_place w i) in cc (off, e));
}
  where
    many : length s.missing ≡ tile_size w
    many = ap length first.missing ∙ over_many (missing_first t.orient w.drain w.tiling w.tile) (tile_size w)

-- The state with which a transport begins.
pub underway_begin : {A : Type 0} (t : Transport) (rule : Accumulator A) → RuleLaws t rule → (w : TileFlow) → w.taken ≡ [] → (s : State A) → IsFirst t rule w s → IsUnderway t rule w s 0
underway_begin t rule laws w untaken s first = record { counted = counted_begin t rule laws w untaken s first; head_in = omega arith }

-- ---- the edges of the tile

-- an edge of the tile can have a link
pub edge_held : (w : TileFlow) (o : Orient) (inward : Bool) → IsTileOf w → w.edges ≡ border_edges_of w.drain w.tiling o → (e : ℕ) → e < length w.edges → in_tile w (edge_end inward (edge_at w.edges e)) ≡ true → HoldsPlace w.tiling.cols (tile_rect w) (edge_end inward (edge_at w.edges e))
edge_held w o inward is are e low inside = held_in_tile w (edge_end inward (edge_at w.edges e)) (place_of_map w is (edge_end inward (edge_at w.edges e)) (within inward)) inside
  where
    border : IsBorderEdge w.drain w.tiling o (edge_at w.edges e)
    border =
        subst (λ (y : List Edge). e < length y → IsBorderEdge w.drain w.tiling o (edge_at y e)) (sym are) (λ less. (edges_listed w.drain w.tiling o is.drain is.size).only e less) low

    within : (side : Bool) → edge_end side (edge_at w.edges e) < length w.drain.codes
    within true = fed_within o w.drain is.drain (edge_at w.edges e).source (edge_at w.edges e).target (feeds_fed o w.drain (edge_at w.edges e).source (edge_at w.edges e).target border.feeds)
    within false = feeder_within o w.drain is.drain.map (edge_at w.edges e).target (edge_at w.edges e).source border.feeds

-- the edges of the tile on one side: into it, or out of it
abbrev pub side_edges : TileFlow → Bool → List ℕ
side_edges w inward = filter (λ e. in_tile w (edge_end inward (edge_at w.edges e))) (range_with_len 0 (length w.edges))

-- what is known of one of them, by its place in the list
pub record IsSide (w : TileFlow) (inward : Bool) (e : ℕ) : Type 0 where
  pub below : e < length w.edges
  pub inside : in_tile w (edge_end inward (edge_at w.edges e)) ≡ true
  pub held : HoldsPlace w.tiling.cols (tile_rect w) (edge_end inward (edge_at w.edges e))

pub side_at : (w : TileFlow) (o : Orient) (inward : Bool) → IsTileOf w → w.edges ≡ border_edges_of w.drain w.tiling o → (k : ℕ) → k < length (side_edges w inward) → IsSide w inward (get_or (side_edges w inward) k 0)
side_at w o inward is are k low =
    let e : ℕ = get_or (side_edges w inward) k 0 in
    let passes = kept_passes (λ x. in_tile w (edge_end inward (edge_at w.edges x))) (range_with_len 0 (length w.edges)) e (k, low, get_or_default (side_edges w inward) k e 0 low) in
    let below = in_range (length w.edges) e passes.1 in
    record { below = below; inside = passes.0; held = edge_held w o inward is are e below passes.0 }

-- the links of these edges
pub record AreSideLinks (w : TileFlow) (inward : Bool) (links : List Link) : Type 0 where
  pub within : (k : ℕ) → k < length links → (link_at links k).edge < length w.edges
  pub cell_in : (k : ℕ) → k < length links → (link_at links k).cell < tile_size w
  pub place : (k : ℕ) → k < length links → cell_place w (link_at links k).cell ≡ edge_end inward (edge_at w.edges (link_at links k).edge)
  pub each : (e : ℕ) → e < length w.edges → in_tile w (edge_end inward (edge_at w.edges e)) ≡ true → HasLink links e
  pub ascends : Ascend links

pub side_links : (w : TileFlow) (o : Orient) (inward : Bool) → IsTileOf w → w.edges ≡ border_edges_of w.drain w.tiling o → (links : List Link) → links ≡ map (tile_link w.tiling w.tile w.edges inward) (side_edges w inward) → AreSideLinks w inward links
side_links w o inward is are links made = record {
  within = λ k low. subst (λ (l : Link). l.edge < length w.edges) (sym (at k low)) (side k low).below;
  cell_in = λ k low. subst (λ (l : Link). l.cell < tile_size w) (sym (at k low)) (number_of_held w.tiling.cols (tile_rect w) _ (side k low).held).0;
  place = λ k low. subst (λ (l : Link). cell_place w l.cell ≡ edge_end inward (edge_at w.edges l.edge)) (sym (at k low)) (number_of_held w.tiling.cols (tile_rect w) _ (side k low).held).1;
  each = λ e low inside.
      let on = filter-keeps (λ x. in_tile w (edge_end inward (edge_at w.edges x))) (range_with_len 0 (length w.edges)) e (range_has (length w.edges) e low) inside in
      let there : on.0 < length links = omega (arith, on.1, many) in
      record {
        at = on.0;
        within = there;
        edge_is = ap (λ (l : Link). l.edge) (at on.0 there) ∙ (get_or_default (side_edges w inward) on.0 0 e on.1 ∙ on.2);
      };
  ascends = λ i j less low.
      let up = rises_index (side_edges w inward) (filter_rises (λ x. in_tile w (edge_end inward (edge_at w.edges x))) (range_with_len 0 (length w.edges)) (range_rises 0 (length w.edges))) i j less (omega (arith, low, many)) in
      let one : (link_at links i).edge ≡ get_or (side_edges w inward) i 0 = ap (λ (l : Link). l.edge) (at i (omega arith)) in
      let two : (link_at links j).edge ≡ get_or (side_edges w inward) j 0 = ap (λ (l : Link). l.edge) (at j low) in
      omega (arith, up, one, two);
}
  where
    many : length links ≡ length (side_edges w inward)
    many = ap length made ∙ length-map (side_edges w inward) (tile_link w.tiling w.tile w.edges inward)

    at : (k : ℕ) → k < length links → link_at links k ≡ tile_link w.tiling w.tile w.edges inward (get_or (side_edges w inward) k 0)
    at k low = ap (λ (y : List Link). link_at y k) made ∙ get_or-map (tile_link w.tiling w.tile w.edges inward) (side_edges w inward) k 0 (let none : Link = record { edge = 0; cell = 0 } in none) (omega (arith, low, many))

    side : (k : ℕ) → k < length links → IsSide w inward (get_or (side_edges w inward) k 0)
    side k low = side_at w o inward is are k (omega (arith, low, many))

pub inbound_begin : (w : TileFlow) (links : List Link) → AreSideLinks w true links → AreInbound w links
inbound_begin w links s = record { within = s.within; cell_in = s.cell_in; target = s.place; each = s.each; ascends = s.ascends }

pub outbound_begin : (w : TileFlow) (links : List Link) → AreSideLinks w false links → AreOutbound w links
outbound_begin w links s = record { within = s.within; cell_in = s.cell_in; source = s.place; each = s.each; ascends = s.ascends }

-- ---- room

tally_few : (p : ℕ → Bool) (xs : List ℕ) → passing_many p xs ≤ length xs
tally_few p [] = omega arith
tally_few p (x ∷ xs) =
    let rest = tally_few p xs in
    elim (cases_Bool (p x)) as (λ _. passing_many p (x ∷ xs) ≤ suc (length xs)) [
      | inl on ↦ (let one : one_if (p x) ≡ 1 = ap one_if on in omega (arith, rest, one))
      | inr off ↦ (let none : one_if (p x) ≡ 0 = ap one_if off in omega (arith, rest, none))
    ]

-- no more messages are to come than there are edges into the tile
pub come_few : (w : TileFlow) (inbound : List Link) → still_to_come w inbound ≤ length inbound
come_few w inbound =
    let few = tally_few (λ e. not (was_taken w.taken e)) (numbers inbound) in
    omega (arith, few, length-map inbound (λ (l : Link). l.edge))

how_many_all : (n : ℕ) → how_many (replicate n true) ≡ n
how_many_all zero = refl
how_many_all (suc n) = (let rest = how_many_all n in omega (arith, rest))

-- all are still to be sent
pub unsent_begin : (outbound : List Link) (unsent : List Bool) (sent : List ℕ) (room : ℕ) → unsent ≡ replicate (length outbound) true → sent ≡ [] → length outbound ≤ room → AreUnsent outbound unsent sent room
unsent_begin outbound unsent sent room all none wide = subst (λ (y : List ℕ). AreUnsent outbound unsent y room) (sym none) (record {
  many = ap length all ∙ length-replicate (length outbound) true;
  is = λ k low. ap (λ (y : List Bool). get_or y k false) all ∙ get_or-replicate (length outbound) k true false low;
  to_send = (let many = ap how_many all ∙ how_many_all (length outbound) in omega (arith, many));
  wide = wide;
})
