-- Settled cells, and the ends of a tile.
use Rattle.std.proofs.Common.{◌≡◌, ℕ, ◌*◌, ◌<◌, ◌≤◌, List, [], ◌∷◌, ◌++◌, length, map, refl, sym, ap, subst, ◌∙◌, arith, inl, inr, Bool, true, false, suc, zero}
use Rattle.std.specs.Prelude.{if◌then◌else◌, ◌==◌, Option, Some, None, is_some}
use Rattle.std.specs.List.{Contains, list_all}
use Rattle.std.proofs.lemmas.Bool.{and_parts, cases_Bool}
use Rattle.std.proofs.lemmas.Bool.Decides.{eqb_tells}
use Rattle.std.proofs.lemmas.Nat.{mul-le}
use Rattle.cell_values.specs.declared.cell.Cell.{Cell}
use Rattle.cell_values.specs.declared.cell.Cell.TheVariants as cell
use Rattle.tile_map.specs.Cuts.{cell_at}
use Rattle.tile_map.specs.Rects.{HoldsPlace, number_in, places_of}
use Rattle.tile_map.specs.Tiles.{rect_of, tile_at}
use Rattle.tile_map.proofs.Callers.{get_or-over, number_of_held, tile_of_place}
use Rattle.drain_meaning.specs.declared.end.FlowEnd.{FlowEnd}
use Rattle.drain_meaning.specs.declared.flow.Flow.{Flow}
use Rattle.drain_meaning.specs.declared.next.Next.TheVariants as next
use Rattle.drain_meaning.specs.declared.op.Orient.{Orient}
use Rattle.drain_meaning.specs.declared.op.Orient.TheVariants.{Down, Up}
use Rattle.drain_meaning.specs.Drains.{DrainMap, next_at}
use Rattle.drain_meaning.specs.Paths.{IsDirected, IsSound}
use Rattle.drain_meaning.specs.Sound.{IsDrain}
use Rattle.drain_meaning.specs.Transports.{Transport, end_of, feeders, outlet}
use Rattle.drain_meaning.proofs.Callers.{contains_first, cases_directed, directed_within, ends_meet, feeder_feeds, map_alike, next_directed, steps_few, steps_to, tributary_drains}
use Rattle.border_channel.specs.declared.edge.Edge.{Edge}
use Rattle.border_channel.specs.declared.edge.Message.{Message}
use Rattle.border_channel.specs.Edges.{edge_at}
use Rattle.border_channel.specs.Laws.{IsTileOf, StandsForWhole}
use Rattle.border_channel.specs.Locals.{AreLocalEnds, flow_that_came, local_after, local_end, local_inflow}
use Rattle.border_channel.specs.Settled.{HoldsWhatItFeeds, AreSettledCells, is_settled, settled_after}
use Rattle.border_channel.specs.TileFlows.{TileFlow, brought, came_over, in_tile, joins, operand_in, tile_rect, with_taken}
use Rattle.border_channel.proofs.Lists.{choice_first, choice_holds, choice_other, each-list_all, has_first, has_later, list_all-alike, list_all-each}

-- ---- cells without a direction

-- nothing feeds a cell without a direction
pub no_feeders : (o : Orient) (m : DrainMap) → IsSound m → (c u : ℕ) → next_at m c ≡ next.Missing → Contains (feeders o m c) u → ⊥
unfolding feeders
no_feeders Down m sound c u e h =
    let into = tributary_drains m c u h in
    let directed : IsDirected m u = λ k. cc (k, into) in
    next_directed m u c (sound u directed) into e
no_feeders Up m sound c u e h =
    let none : outlet (next_at m c) ≡ [] = ap outlet e in
    let there : Contains [] u = subst (λ (y : List ℕ). Contains y u) none h in
    omega (arith, there.1)

-- ---- settled cells

-- what feeds c has come, by a set of settled cells
abbrev pub has_fed : TileFlow → (ℕ → Bool) → ℕ → ℕ → Bool
has_fed w set c u = if in_tile w u then set u else is_some (came_over w u c)

settled_same : (o : Orient) (w : TileFlow) → IsSound w.drain → (k l c : ℕ) → IsDirected w.drain c → steps_to o w.drain c ≤ k → steps_to o w.drain c ≤ l → settled_after o w k c ≡ settled_after o w l c
settled_same o w sound zero l c directed one two = let some = steps_few o w.drain sound c directed in absurd (omega (arith, some.0))
settled_same o w sound (suc k) zero c directed one two = let some = steps_few o w.drain sound c directed in absurd (omega (arith, some.0))
settled_same o w sound (suc k) (suc l) c directed one two =
    list_all-alike (has_fed w (settled_after o w k) c) (has_fed w (settled_after o w l) c) (feeders o w.drain c) (λ u h.
    let feeds = feeder_feeds o w.drain sound c u directed h in
    ap (λ (y : Bool). if in_tile w u then y else is_some (came_over w u c)) (settled_same o w sound k l u feeds.directed (omega (arith, feeds.fewer)) (omega (arith, feeds.fewer))))

-- a cell without a direction is settled
settled_missing : (o : Orient) (w : TileFlow) → IsSound w.drain → (k c : ℕ) → next_at w.drain c ≡ next.Missing → settled_after o w (suc k) c ≡ true
settled_missing o w sound k c e = each-list_all (has_fed w (settled_after o w k) c) (feeders o w.drain c) (λ u h. absurd (no_feeders o w.drain sound c u e h))

settled_missing_at : (o : Orient) (w : TileFlow) → IsSound w.drain → (n c : ℕ) → 0 < n → next_at w.drain c ≡ next.Missing → settled_after o w n c ≡ true
settled_missing_at o w sound zero c some e = absurd (omega arith)
settled_missing_at o w sound (suc k) c some e = settled_missing o w sound k c e

-- a map with a tile has cells
pub some_cells : (w : TileFlow) → IsTileOf w → 0 < length w.drain.codes
some_cells w is =
    let g = w.tiling in
    let low : 1 * 1 ≤ g.rows * g.cols = mul-le 1 1 g.rows g.cols (omega (arith, g.sides.some_rows)) (omega (arith, g.sides.some_cols)) in
    let same : length w.drain.codes ≡ g.rows * g.cols = is.drain.map.size ∙ (ap (λ (r : ℕ). r * w.drain.cols) is.size.rows ∙ ap (λ (k : ℕ). g.rows * k) is.size.cols) in
    omega (arith, low, same)

-- a cell is settled exactly where what feeds it has come
pub settled_step : (o : Orient) (w : TileFlow) → IsTileOf w → (c : ℕ) → is_settled o w c ≡ list_all (has_fed w (is_settled o w) c) (feeders o w.drain c)
unfolding is_settled
settled_step o w is c = elim (cases_directed w.drain c) as (λ _. settled_after o w (length w.drain.codes) c ≡ settled_after o w (suc (length w.drain.codes)) c) [
  | inl directed ↦ let few = steps_few o w.drain is.drain.sound c directed in settled_same o w is.drain.sound (length w.drain.codes) (suc (length w.drain.codes)) c directed few.1 (omega (arith, few.1))
  | inr missing ↦ settled_missing_at o w is.drain.sound (length w.drain.codes) c (some_cells w is) missing ∙ sym (settled_missing o w is.drain.sound (length w.drain.codes) c missing)
]

settled_closed : (o : Orient) (w : TileFlow) → IsTileOf w → HoldsWhatItFeeds o w (is_settled o w)
settled_closed o w is c inside fed =
    settled_step o w is c
    ∙ each-list_all (has_fed w (is_settled o w) c) (feeders o w.drain c) (λ u h. let f = fed u h in choice_holds (in_tile w u) (is_settled o w u) (is_some (came_over w u c)) f.0 f.1)

settled_least : (o : Orient) (w : TileFlow) (other : ℕ → Bool) → HoldsWhatItFeeds o w other → (k c : ℕ) → in_tile w c ≡ true → settled_after o w k c ≡ true → other c ≡ true
settled_least o w other closed zero c inside e = cc e
settled_least o w other closed (suc k) c inside e =
    let each = list_all-each (has_fed w (settled_after o w k) c) (feeders o w.drain c) e in
    closed c inside (λ u h. (
      (λ inner. settled_least o w other closed k u inner (choice_first (in_tile w u) (settled_after o w k u) (is_some (came_over w u c)) true (each u h) inner)),
      (λ out. choice_other (in_tile w u) (settled_after o w k u) (is_some (came_over w u c)) true (each u h) out),
    ))

-- The settled cells are the least closed set.
pub settled_is_least : (o : Orient) (w : TileFlow) → IsTileOf w → AreSettledCells o w (is_settled o w)
unfolding is_settled
settled_is_least o w is = record { closed = settled_closed o w is; least = λ other closed c inside e. settled_least o w other closed (length w.drain.codes) c inside e }

-- ---- local ends

inflow_same : (w : TileFlow) (ends other : ℕ → FlowEnd) (c u : ℕ) → ends u ≡ other u → local_inflow w ends c u ≡ local_inflow w other c u
inflow_same w ends other c u e = ap (λ (y : FlowEnd). if in_tile w u then y.out else flow_that_came (came_over w u c)) e

local_same : (t : Transport) (w : TileFlow) → IsSound w.drain → (k l c : ℕ) → IsDirected w.drain c → steps_to t.orient w.drain c ≤ k → steps_to t.orient w.drain c ≤ l → local_after t w k c ≡ local_after t w l c
local_same t w sound zero l c directed one two = let some = steps_few t.orient w.drain sound c directed in absurd (omega (arith, some.0))
local_same t w sound (suc k) zero c directed one two = let some = steps_few t.orient w.drain sound c directed in absurd (omega (arith, some.0))
local_same t w sound (suc k) (suc l) c directed one two =
    ap (λ (y : List Flow). t.equation y (operand_in w w.a c) (operand_in w w.b c)) (map_alike (local_inflow w (local_after t w k) c) (local_inflow w (local_after t w l) c) (feeders t.orient w.drain c) (λ u h.
    let feeds = feeder_feeds t.orient w.drain sound c u directed h in
    inflow_same w (local_after t w k) (local_after t w l) c u (local_same t w sound k l u feeds.directed (omega (arith, feeds.fewer)) (omega (arith, feeds.fewer)))))

-- The local ends meet the equation of the tile.
pub local_meets : (t : Transport) (w : TileFlow) → IsDrain w.drain → AreLocalEnds t w (local_end t w)
unfolding local_end
local_meets t w drain c directed =
    let few = steps_few t.orient w.drain drain.sound c directed in
    local_same t w drain.sound (length w.drain.codes) (suc (length w.drain.codes)) c directed few.1 (omega (arith, few.1))

-- ---- what stands for the whole map

-- the message by which something was brought
pub record IsBroughtBy (edges : List Edge) (taken : List Message) (u c : ℕ) (f : Flow) : Type 0 where
  pub message : Message
  pub taken_in : Contains taken message
  pub joined : joins u c (edge_at edges message.edge) ≡ true
  pub flow_is : message.flow ≡ f

brought_cases : (edges : List Edge) (x : Message) (taken : List Message) (u c : ℕ) (f : Flow) (o : Bool) → joins u c (edge_at edges x.edge) ≡ o → (brought edges taken u c ≡ Some f → IsBroughtBy edges taken u c f) → (if o then Some x.flow else brought edges taken u c) ≡ Some f → IsBroughtBy edges (x ∷ taken) u c f
brought_cases edges x taken u c f true e rest h = record { message = x; taken_in = has_first x taken; joined = e; flow_is = cc h }
brought_cases edges x taken u c f false e rest h = let r = rest h in record { message = r.message; taken_in = has_later x taken r.message r.taken_in; joined = r.joined; flow_is = r.flow_is }

pub brought_by : (edges : List Edge) (taken : List Message) (u c : ℕ) (f : Flow) → brought edges taken u c ≡ Some f → IsBroughtBy edges taken u c f
brought_by edges [] u c f h = cc h
brought_by edges (x ∷ taken) u c f h = brought_cases edges x taken u c f (joins u c (edge_at edges x.edge)) refl (brought_by edges taken u c f) h

eqb_true : (a b : ℕ) → (a == b) ≡ true → a ≡ b
eqb_true a b e = elim (eqb_tells a b) as (λ _. a ≡ b) [ inl t ↦ t.1 | inr t ↦ cc (e, t.0) ]

some_of : (o : Option Flow) → is_some o ≡ true → (f : Flow) × (o ≡ Some f)
some_of None e = cc e
some_of (Some f) e = (f, refl)

-- what came over is what flows on the whole map
came_right : (t : Transport) (w : TileFlow) (a b : ℕ → Cell) → StandsForWhole t w a b → (u c : ℕ) → is_some (came_over w u c) ≡ true → flow_that_came (came_over w u c) ≡ (end_of t w.drain a b u).out
came_right t w a b stands u c e =
    let some = some_of (came_over w u c) e in
    let by = brought_by w.edges w.taken u c some.0 some.1 in
    let both = and_parts ((edge_at w.edges by.message.edge).source == u) ((edge_at w.edges by.message.edge).target == c) by.joined in
    let source : (edge_at w.edges by.message.edge).source ≡ u = eqb_true (edge_at w.edges by.message.edge).source u both.0 in
    ap flow_that_came some.1
    ∙ (sym by.flow_is
    ∙ (stands.messages by.message by.taken_in
    ∙ ap (λ (y : ℕ). (end_of t w.drain a b y).out) source))

-- a place of the tile
pub held_in_tile : (w : TileFlow) (c : ℕ) → c < w.tiling.rows * w.tiling.cols → in_tile w c ≡ true → HoldsPlace w.tiling.cols (tile_rect w) c
held_in_tile w c low e =
    let same : tile_at w.tiling c ≡ w.tile = eqb_true (tile_at w.tiling c) w.tile e in
    subst (λ (y : ℕ). HoldsPlace w.tiling.cols (rect_of w.tiling y) c) same (tile_of_place w.tiling c low).1

-- an operand of the tile that is cut out of the whole map's
operand_right : (w : TileFlow) (cells : List Cell) (a : ℕ → Cell) (c : ℕ) → cells ≡ map a (places_of w.tiling.cols (tile_rect w)) → HoldsPlace w.tiling.cols (tile_rect w) c → operand_in w cells c ≡ a c
operand_right w cells a c cut held =
    let n = number_of_held w.tiling.cols (tile_rect w) c held in
    ap (λ (y : List Cell). cell_at y (number_in w.tiling.cols (tile_rect w) c)) cut
    ∙ (get_or-over w.tiling.cols (tile_rect w) a (number_in w.tiling.cols (tile_rect w) c) cell.Mv n.0
    ∙ ap a n.1)

pub place_of_map : (w : TileFlow) → IsTileOf w → (c : ℕ) → c < length w.drain.codes → c < w.tiling.rows * w.tiling.cols
place_of_map w is c low = subst (λ (n : ℕ). c < n) (is.drain.map.size ∙ (ap (λ (r : ℕ). r * w.drain.cols) is.size.rows ∙ ap (λ (k : ℕ). w.tiling.rows * k) is.size.cols)) low

right_after : (t : Transport) (w : TileFlow) (a b : ℕ → Cell) → IsTileOf w → StandsForWhole t w a b → (k c : ℕ) → in_tile w c ≡ true → IsDirected w.drain c → settled_after t.orient w k c ≡ true → local_after t w k c ≡ end_of t w.drain a b c
right_after t w a b is stands zero c inside directed e = cc e
right_after t w a b is stands (suc k) c inside directed e =
    let each = list_all-each (has_fed w (settled_after t.orient w k) c) (feeders t.orient w.drain c) e in
    let held = held_in_tile w c (place_of_map w is c (directed_within w.drain c directed)) inside in
    let flows : map (local_inflow w (local_after t w k) c) (feeders t.orient w.drain c) ≡ map (λ u. (end_of t w.drain a b u).out) (feeders t.orient w.drain c) =
    map_alike (local_inflow w (local_after t w k) c) (λ u. (end_of t w.drain a b u).out) (feeders t.orient w.drain c) (λ u h.
    let feeds = feeder_feeds t.orient w.drain is.drain.sound c u directed h in
    elim (cases_Bool (in_tile w u)) as (λ _. local_inflow w (local_after t w k) c u ≡ (end_of t w.drain a b u).out) [
      | inl inner ↦ rw inner (ap (λ (y : FlowEnd). y.out) (right_after t w a b is stands k u inner feeds.directed (choice_first (in_tile w u) (settled_after t.orient w k u) (is_some (came_over w u c)) true (each u h) inner)))
      | inr out ↦ rw out (came_right t w a b stands u c (choice_other (in_tile w u) (settled_after t.orient w k u) (is_some (came_over w u c)) true (each u h) out))
    ]) in
    ap (λ (y : List Flow). t.equation y (operand_in w w.a c) (operand_in w w.b c)) flows
    ∙ (ap (λ (y : Cell). t.equation (map (λ u. (end_of t w.drain a b u).out) (feeders t.orient w.drain c)) y (operand_in w w.b c)) (operand_right w w.a a c stands.a_cut held)
    ∙ (ap (λ (y : Cell). t.equation (map (λ u. (end_of t w.drain a b u).out) (feeders t.orient w.drain c)) (a c) y) (operand_right w w.b b c stands.b_cut held)
    ∙ sym (ends_meet t w.drain a b is.drain.sound c directed)))

-- A settled cell has the end that it has on the whole map.
pub settled_right : (t : Transport) (w : TileFlow) (a b : ℕ → Cell) → IsTileOf w → StandsForWhole t w a b → (c : ℕ) → in_tile w c ≡ true → IsDirected w.drain c → is_settled t.orient w c ≡ true → local_end t w c ≡ end_of t w.drain a b c
unfolding is_settled local_end
settled_right t w a b is stands c inside directed e = right_after t w a b is stands (length w.drain.codes) c inside directed e

-- ---- the equation at each cell, and sets that are settled

none_listed : (xs : List ℕ) → ((u : ℕ) → Contains xs u → ⊥) → xs ≡ []
none_listed [] e = refl
none_listed (x ∷ xs) e = absurd (e x (contains_first x xs))

local_missing : (t : Transport) (w : TileFlow) → IsSound w.drain → (k l c : ℕ) → 0 < k → 0 < l → next_at w.drain c ≡ next.Missing → local_after t w k c ≡ local_after t w l c
local_missing t w sound zero l c k_some l_some e = absurd (omega arith)
local_missing t w sound (suc k) zero c k_some l_some e = absurd (omega arith)
local_missing t w sound (suc k) (suc l) c k_some l_some e =
    let none : feeders t.orient w.drain c ≡ [] = none_listed (feeders t.orient w.drain c) (λ u h. no_feeders t.orient w.drain sound c u e h) in
    ap (λ (y : List ℕ). t.equation (map (local_inflow w (local_after t w k) c) y) (operand_in w w.a c) (operand_in w w.b c)) none
    ∙ sym (ap (λ (y : List ℕ). t.equation (map (local_inflow w (local_after t w l) c) y) (operand_in w w.a c) (operand_in w w.b c)) none)

-- the equation holds of cells without a direction as well
pub local_step : (t : Transport) (w : TileFlow) → IsTileOf w → (c : ℕ) → local_end t w c ≡ t.equation (map (local_inflow w (local_end t w) c) (feeders t.orient w.drain c)) (operand_in w w.a c) (operand_in w w.b c)
unfolding local_end
local_step t w is c = elim (cases_directed w.drain c) as (λ _. local_after t w (length w.drain.codes) c ≡ local_after t w (suc (length w.drain.codes)) c) [
  | inl directed ↦ let few = steps_few t.orient w.drain is.drain.sound c directed in local_same t w is.drain.sound (length w.drain.codes) (suc (length w.drain.codes)) c directed few.1 (omega (arith, few.1))
  | inr missing ↦ local_missing t w is.drain.sound (length w.drain.codes) (suc (length w.drain.codes)) c (some_cells w is) (omega arith) missing
]

unique_after : (o : Orient) (w : TileFlow) → IsTileOf w → (set : ℕ → Bool) → ((c : ℕ) → in_tile w c ≡ true → c < length w.drain.codes → set c ≡ list_all (has_fed w set c) (feeders o w.drain c)) →
    (k c : ℕ) → in_tile w c ≡ true → IsDirected w.drain c → steps_to o w.drain c ≤ k → set c ≡ settled_after o w k c
unique_after o w is set fixed zero c inside directed few = let some = steps_few o w.drain is.drain.sound c directed in absurd (omega (arith, some.0))
unique_after o w is set fixed (suc k) c inside directed few =
    fixed c inside (directed_within w.drain c directed)
    ∙ list_all-alike (has_fed w set c) (has_fed w (settled_after o w k) c) (feeders o w.drain c) (λ u h.
    let feeds = feeder_feeds o w.drain is.drain.sound c u directed h in
    elim (cases_Bool (in_tile w u)) as (λ _. has_fed w set c u ≡ has_fed w (settled_after o w k) c u) [
      | inl inner ↦ ap (λ (y : Bool). if in_tile w u then y else is_some (came_over w u c)) (unique_after o w is set fixed k u inner feeds.directed (omega (arith, feeds.fewer)))
      | inr outer ↦ rw outer refl
    ])

-- A set that holds just the cells that it feeds is that of the settled ones.
pub settled_unique : (o : Orient) (w : TileFlow) → IsTileOf w → (set : ℕ → Bool) → ((c : ℕ) → in_tile w c ≡ true → c < length w.drain.codes → set c ≡ list_all (has_fed w set c) (feeders o w.drain c)) →
    (c : ℕ) → in_tile w c ≡ true → c < length w.drain.codes → set c ≡ is_settled o w c
unfolding is_settled
settled_unique o w is set fixed c inside low = elim (cases_directed w.drain c) as (λ _. set c ≡ settled_after o w (length w.drain.codes) c) [
  | inl directed ↦ unique_after o w is set fixed (length w.drain.codes) c inside directed (steps_few o w.drain is.drain.sound c directed).1
  | inr missing ↦
      fixed c inside low
      ∙ (each-list_all (has_fed w set c) (feeders o w.drain c) (λ u h. absurd (no_feeders o w.drain is.drain.sound c u missing h))
      ∙ sym (settled_missing_at o w is.drain.sound (length w.drain.codes) c (some_cells w is) missing))
]

-- ---- one more message

brought_more_by : (edges : List Edge) (x : Message) (taken more : List Message) (u c : ℕ) (f : Flow) (o : Bool) → (brought edges taken u c ≡ Some f → brought edges (taken ++ more) u c ≡ Some f) →
    (if o then Some x.flow else brought edges taken u c) ≡ Some f → (if o then Some x.flow else brought edges (taken ++ more) u c) ≡ Some f
brought_more_by edges x taken more u c f true rest h = h
brought_more_by edges x taken more u c f false rest h = rest h

-- what was brought stays
pub brought_more : (edges : List Edge) (taken more : List Message) (u c : ℕ) (f : Flow) → brought edges taken u c ≡ Some f → brought edges (taken ++ more) u c ≡ Some f
brought_more edges [] more u c f h = cc h
brought_more edges (x ∷ taken) more u c f h = brought_more_by edges x taken more u c f (joins u c (edge_at edges x.edge)) (brought_more edges taken more u c f) h

-- what comes over an edge after more messages, where it came before
pub came_same : (w : TileFlow) (more : List Message) (u c : ℕ) → is_some (came_over w u c) ≡ true → came_over (with_taken w (w.taken ++ more)) u c ≡ came_over w u c
came_same w more u c e =
    let some = some_of (came_over w u c) e in
    brought_more w.edges w.taken more u c some.0 some.1 ∙ sym some.1

local_more_after : (t : Transport) (w : TileFlow) (more : List Message) → (k c : ℕ) → settled_after t.orient w k c ≡ true → local_after t (with_taken w (w.taken ++ more)) k c ≡ local_after t w k c
local_more_after t w more zero c e = refl
local_more_after t w more (suc k) c e =
    let each = list_all-each (has_fed w (settled_after t.orient w k) c) (feeders t.orient w.drain c) e in
    let later : TileFlow = with_taken w (w.taken ++ more) in
    ap (λ (y : List Flow). t.equation y (operand_in w w.a c) (operand_in w w.b c)) (map_alike (local_inflow later (local_after t later k) c) (local_inflow w (local_after t w k) c) (feeders t.orient w.drain c) (λ u h.
    elim (cases_Bool (in_tile w u)) as (λ _. local_inflow later (local_after t later k) c u ≡ local_inflow w (local_after t w k) c u) [
      | inl inner ↦ rw inner (ap (λ (y : FlowEnd). y.out) (local_more_after t w more k u (choice_first (in_tile w u) (settled_after t.orient w k u) (is_some (came_over w u c)) true (each u h) inner)))
      | inr outer ↦ rw outer (ap flow_that_came (came_same w more u c (choice_other (in_tile w u) (settled_after t.orient w k u) (is_some (came_over w u c)) true (each u h) outer)))
    ]))

-- A settled cell keeps its local end when more messages come.
pub local_more : (t : Transport) (w : TileFlow) (more : List Message) (c : ℕ) → is_settled t.orient w c ≡ true → local_end t (with_taken w (w.taken ++ more)) c ≡ local_end t w c
unfolding is_settled local_end
local_more t w more c e = local_more_after t w more (length w.drain.codes) c e
