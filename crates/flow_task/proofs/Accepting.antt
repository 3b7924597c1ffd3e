-- A message comes to a tile.
use Rattle.std.proofs.Common.{◌≡◌, ◌≢◌, ℕ, ◌*◌, ◌<◌, ◌≤◌, List, [], ◌∷◌, ◌++◌, length, take, refl, sym, ap, subst, ◌∙◌, arith, inl, inr, Bool, true, false, length-append}
use Rattle.std.specs.Prelude.{if◌then◌else◌, not, ◌==◌, ◌&&◌, ◌||◌, is_some, Option, Some, None}
use Rattle.std.specs.List.{Contains, list_all, list_any}
use Rattle.std.proofs.lemmas.Bool.{and_from, and_parts, cases_Bool, cases_eq, cases_lt, eq-eqb, or_cases}
use Rattle.std.proofs.lemmas.Bool.Decides.{eqb_tells}
use Rattle.std.proofs.lemmas.List.{get_or_append_left}
use Rattle.drain_meaning.specs.declared.end.FlowEnd.{FlowEnd}
use Rattle.drain_meaning.specs.declared.flow.Flow.{Flow}
use Rattle.drain_meaning.specs.Flows.{FlowFits}
use Rattle.drain_meaning.specs.Rules.{Accumulator, RuleLaws}
use Rattle.drain_meaning.specs.Transports.{Transport, feeders}
use Rattle.drain_meaning.proofs.Callers.{contains_first, contains_later}
use Rattle.tile_map.specs.Tiles.{tile_at}
use Rattle.tile_map.proofs.Callers.{number_in-place_in, number_of_held, tile_in_map}
use Rattle.border_channel.specs.declared.edge.Edge.{Edge}
use Rattle.border_channel.specs.declared.edge.Message.{Message}
use Rattle.border_channel.specs.Edges.{AreBorderEdges, EdgeComesBefore, border_edges_of, edge, edge_at}
use Rattle.border_channel.specs.Laws.{IsTileOf}
use Rattle.border_channel.specs.Loads.{load_of}
use Rattle.border_channel.specs.Locals.{flow_that_came}
use Rattle.border_channel.specs.Settled.{is_settled}
use Rattle.border_channel.specs.TileFlows.{TileFlow, brought, came_over, in_tile, joins, tile_rect, with_taken}
use Rattle.border_channel.proofs.Callers.{edges_listed}
use Rattle.drain_meaning.proofs.Callers.{feeder_within}
use Rattle.border_channel.proofs.Callers.{each-list_all, list_all-each}
use Rattle.border_channel.proofs.Callers.{tile_place}
use Rattle.border_channel.proofs.Callers.{brought_by, came_same, has_fed, held_in_tile, local_more, place_of_map, settled_unique}
use Rattle.flow_task.specs.Works.{CanAccept, TileWork}
use Rattle.drain_meaning.specs.declared.op.Orient.{Orient}
use Rattle.flow_task.specs.inside.States.{CanReceive, State, missing_at, received}
use Rattle.flow_task.specs.inside.Underway.{Counted, IsUnderway, came, done_come, flow_into, cell_number, cell_place, queued_at, passing_many, tile_size}
use Rattle.flow_task.proofs.Counting.{gathered_alike, tally_none, tally_zero}
use Rattle.flow_task.proofs.Receiving.{Comes, also, can_receive, eqb_same, receive_counts}
use Rattle.flow_task.proofs.Turns.{any_has, counted_alike, number_there, queue_has, queued_grows}

-- ---- all that are queued are settled

take_all : (xs : List ℕ) → take (length xs) xs ≡ xs
take_all [] = refl
take_all (x ∷ xs) = ap (λ (y : List ℕ). x ∷ y) (take_all xs)

pub any_on : (p : ℕ → Bool) (xs : List ℕ) → list_any p xs ≡ true → (x : ℕ) × Contains xs x × (p x ≡ true)
any_on p [] e = cc e
any_on p (x ∷ xs) e = elim (or_cases (p x) (list_any p xs) e) as (λ _. (y : ℕ) × Contains (x ∷ xs) y × (p y ≡ true)) [
  | inl here ↦ (x, contains_first x xs, here)
  | inr later ↦ let r = any_on p xs later in (r.0, contains_later x xs r.0 r.1, r.2)
]

-- a cell is queued
abbrev pub is_queued : TileFlow → List ℕ → ℕ → Bool
is_queued w queue c = list_any (λ i. i == cell_number w c) queue

done_is : (w : TileFlow) (queue : List ℕ) (u c : ℕ) → done_come w queue (length queue) u c ≡ has_fed w (is_queued w queue) c u
done_is w queue u c = ap (λ (q : List ℕ). if in_tile w u then list_any (λ i. i == cell_number w u) q else is_some (came_over w u c)) (take_all queue)

pub agree : (a b : Bool) → (a ≡ true → b ≡ true) → (b ≡ true → a ≡ true) → a ≡ b
agree true true f g = refl
agree true false f g = sym (f refl)
agree false true f g = g refl
agree false false f g = refl

true_of : (o : Bool) → (not o ≡ true → ⊥) → o ≡ true
true_of true e = refl
true_of false e = absurd (e refl)

queued_fixed : {A : Type 0} (t : Transport) (rule : Accumulator A) (w : TileFlow) → IsTileOf w → (s : State A) → IsUnderway t rule w s (length s.queue) → (c : ℕ) → in_tile w c ≡ true → c < length w.drain.codes →
    is_queued w s.queue c ≡ list_all (has_fed w (is_queued w s.queue) c) (feeders t.orient w.drain c)
queued_fixed t rule w is s under c inside low =
    let i : ℕ = cell_number w c in
    let held = held_in_tile w c (place_of_map w is c low) inside in
    let below : i < tile_size w = (number_of_held w.tiling.cols (tile_rect w) c held).0 in
    let there : cell_place w i ≡ c = number_there w is c low inside in
    let count : missing_at s i ≡ passing_many (λ u. not (done_come w s.queue (length s.queue) u c)) (feeders t.orient w.drain c) =
    subst (λ (z : ℕ). missing_at s i ≡ passing_many (λ u. not (done_come w s.queue (length s.queue) u z)) (feeders t.orient w.drain z)) there (under.counted.missing i below) in
    agree (is_queued w s.queue c) (list_all (has_fed w (is_queued w s.queue) c) (feeders t.orient w.drain c))
    (λ e.
    let on = any_on (λ k. k == i) s.queue e in
    let here : Contains s.queue i = subst (λ (z : ℕ). Contains s.queue z) (eqb_same on.0 i on.2) on.1 in
    let none : passing_many (λ u. not (done_come w s.queue (length s.queue) u c)) (feeders t.orient w.drain c) ≡ 0 = sym count ∙ (under.counted.waits i here).1 in
    each-list_all (has_fed w (is_queued w s.queue) c) (feeders t.orient w.drain c) (λ u h.
    sym (done_is w s.queue u c) ∙ true_of (done_come w s.queue (length s.queue) u c) (tally_none (λ v. not (done_come w s.queue (length s.queue) v c)) (feeders t.orient w.drain c) none u h)))
    (λ e.
    let all = list_all-each (has_fed w (is_queued w s.queue) c) (feeders t.orient w.drain c) e in
    let none = tally_zero (λ u. not (done_come w s.queue (length s.queue) u c)) (feeders t.orient w.drain c) (λ u h. ap not (done_is w s.queue u c ∙ all u h)) in
    any_has (λ k. k == i) s.queue i (under.counted.ready i below (count ∙ none)) (eq-eqb i i refl))

-- Where all that are queued have had their turn they are the settled ones.
pub queued_settled : {A : Type 0} (t : Transport) (rule : Accumulator A) (w : TileFlow) → IsTileOf w → (s : State A) → IsUnderway t rule w s (length s.queue) → (c : ℕ) → in_tile w c ≡ true → c < length w.drain.codes →
    is_queued w s.queue c ≡ is_settled t.orient w c
queued_settled t rule w is s under c inside low = settled_unique t.orient w is (is_queued w s.queue) (queued_fixed t rule w is s under) c inside low

-- ---- the message

-- the edge of a message that can be accepted, and what it is for
pub record Crosses (t : Transport) (w : TileFlow) (x : Message) (i : ℕ) : Type 0 where
  pub low : i < tile_size w
  pub target : cell_place w i ≡ (edge_at w.edges x.edge).target
  pub source_out : in_tile w (edge_at w.edges x.edge).source ≡ false
  pub feeds : Contains (feeders t.orient w.drain (cell_place w i)) (edge_at w.edges x.edge).source
  pub not_yet : came_over w (edge_at w.edges x.edge).source (cell_place w i) ≡ None

eqb_sym : (a b : ℕ) → (a == b) ≡ (b == a)
eqb_sym a b = elim (eqb_tells a b) as (λ _. (a == b) ≡ (b == a)) [
  | inl e ↦ let x : (a == b) ≡ true = eq-eqb a b e.1 in let y : (b == a) ≡ true = eq-eqb b a (sym e.1) in x ∙ sym y
  | inr ne ↦ elim (eqb_tells b a) as (λ _. (a == b) ≡ (b == a)) [ inl f ↦ (let x : (a == b) ≡ true = eq-eqb a b (sym f.1) in cc (x, ne.0)) | inr f ↦ ne.0 ∙ sym f.0 ]
]

none_by : (o : Option Flow) → (is_some o ≡ true → ⊥) → o ≡ None
none_by None e = refl
none_by (Some f) e = absurd (e refl)

some_came : (o : Option Flow) → is_some o ≡ true → (f : Flow) × (o ≡ Some f)
some_came None e = cc e
some_came (Some f) e = (f, refl)

not_itself : (e f : Edge) → e ≡ f → EdgeComesBefore e f → ⊥
not_itself e f same (inl less) = (let s : e.source ≡ f.source = ap (λ (y : Edge). y.source) same in omega (arith, less, s))
not_itself e f same (inr less) = (let d : e.target ≡ f.target = ap (λ (y : Edge). y.target) same in omega (arith, less.1, d))

-- two border edges between the same cells are one
same_edge : (edges : List Edge) (i j : ℕ) → ((a b : ℕ) → a < b → b < length edges → EdgeComesBefore (edge_at edges a) (edge_at edges b)) → i < length edges → j < length edges → edge_at edges i ≡ edge_at edges j → i ≡ j
same_edge edges i j ascends low high same = elim (cases_lt i j) as (λ _. i ≡ j) [
  | inl less ↦ absurd (not_itself (edge_at edges i) (edge_at edges j) same (ascends i j less high))
  | inr more ↦ elim (cases_eq i j) as (λ _. i ≡ j) [ inl e ↦ e | inr ne ↦ absurd (not_itself (edge_at edges j) (edge_at edges i) (sym same) (ascends j i (omega arith) low)) ]
]

false_of : (a b : ℕ) → a ≢ b → (a == b) ≡ false
false_of a b ne = elim (eqb_tells a b) as (λ _. (a == b) ≡ false) [ inl e ↦ absurd (ne e.1) | inr f ↦ f.0 ]

joined_is : (u c : ℕ) (e : Edge) → joins u c e ≡ true → e ≡ edge u c
joined_is u c e h =
    let both = and_parts (e.source == u) (e.target == c) h in
    let s : e.source ≡ u = eqb_same e.source u both.0 in
    let d : e.target ≡ c = eqb_same e.target c both.1 in
    ap (λ (z : ℕ). edge z e.target) s ∙ ap (λ (z : ℕ). edge u z) d

pub crosses_of : (t : Transport) (w : TileFlow) → IsTileOf w → w.edges ≡ border_edges_of w.drain w.tiling t.orient → ((y : Message) → Contains w.taken y → y.edge < length w.edges) → (x : Message) → CanAccept t.orient w x → (i : ℕ) → i < tile_size w → cell_place w i ≡ (edge_at w.edges x.edge).target →
    Crosses t w x i
crosses_of t w is edges_are within x can i low target =
    let listed = subst (λ (es : List Edge). AreBorderEdges w.drain w.tiling t.orient es) (sym edges_are) (edges_listed w.drain w.tiling t.orient is.drain is.size) in
    let border = listed.only x.edge can.within in
    let e : Edge = edge_at w.edges x.edge in
    let into : tile_at w.tiling e.target ≡ w.tile = eqb_same (tile_at w.tiling e.target) w.tile can.into in
    record {
      low = low;
      target = target;
      source_out = false_of (tile_at w.tiling e.source) w.tile (λ h. border.apart (h ∙ sym into));
      feeds = subst (λ (z : ℕ). Contains (feeders t.orient w.drain z) e.source) (sym target) border.feeds;
      not_yet = none_by (came_over w e.source (cell_place w i)) (λ some.
          let has = some_came (came_over w e.source (cell_place w i)) some in
          let by = brought_by w.edges w.taken e.source (cell_place w i) has.0 has.1 in
          let same : edge_at w.edges by.message.edge ≡ edge_at w.edges x.edge = joined_is e.source (cell_place w i) (edge_at w.edges by.message.edge) by.joined ∙ ap (λ (z : ℕ). edge e.source z) target in
          can.first by.message by.taken_in (same_edge w.edges by.message.edge x.edge listed.ascends (within by.message by.taken_in) can.within same));
    }

-- ---- what was brought with one more message

brought_last_by : (edges : List Edge) (y x : Message) (taken : List Message) (u c : ℕ) (o : Bool) → is_some (brought edges (taken ++ x ∷ []) u c) ≡ (is_some (brought edges taken u c) || joins u c (edge_at edges x.edge)) →
    is_some (if o then Some y.flow else brought edges (taken ++ x ∷ []) u c) ≡ (is_some (if o then Some y.flow else brought edges taken u c) || joins u c (edge_at edges x.edge))
brought_last_by edges y x taken u c true rest = refl
brought_last_by edges y x taken u c false rest = rest

choice_some : (o : Bool) (f : Flow) → is_some (if o then Some f else None) ≡ (false || o)
choice_some true f = refl
choice_some false f = refl

brought_last : (edges : List Edge) (x : Message) (taken : List Message) (u c : ℕ) → is_some (brought edges (taken ++ x ∷ []) u c) ≡ (is_some (brought edges taken u c) || joins u c (edge_at edges x.edge))
brought_last edges x [] u c = choice_some (joins u c (edge_at edges x.edge)) x.flow
brought_last edges x (y ∷ taken) u c = brought_last_by edges y x taken u c (joins u c (edge_at edges y.edge)) (brought_last edges x taken u c)

brought_here_by : (edges : List Edge) (y x : Message) (taken : List Message) (u c : ℕ) (o : Bool) → (brought edges taken u c ≡ None → brought edges (taken ++ x ∷ []) u c ≡ Some x.flow) → (if o then Some y.flow else brought edges taken u c) ≡ None → (if o then Some y.flow else brought edges (taken ++ x ∷ []) u c) ≡ Some x.flow
brought_here_by edges y x taken u c true rest e = cc e
brought_here_by edges y x taken u c false rest e = rest e

-- the message is the first for its edge
brought_here : (edges : List Edge) (x : Message) (taken : List Message) (u c : ℕ) → joins u c (edge_at edges x.edge) ≡ true → brought edges taken u c ≡ None → brought edges (taken ++ x ∷ []) u c ≡ Some x.flow
brought_here edges x [] u c e none = rw e refl
brought_here edges x (y ∷ taken) u c e none = brought_here_by edges y x taken u c (joins u c (edge_at edges y.edge)) (brought_here edges x taken u c e) none

-- ---- the state with one more message

-- the work with the message
abbrev pub with_message : TileFlow → Message → TileFlow
with_message w x = with_taken w (w.taken ++ x ∷ [])

-- a flow that has come stays
flow_stays : {A : Type 0} (t : Transport) (rule : Accumulator A) (w : TileFlow) → IsTileOf w → (s : State A) → IsUnderway t rule w s (length s.queue) → (x : Message) (c u : ℕ) → u < length w.drain.codes → done_come w s.queue (length s.queue) u c ≡ true → flow_into t (with_message w x) c u ≡ flow_into t w c u
flow_stays t rule w is s under x c u low e = elim (cases_Bool (in_tile w u)) as (λ _. flow_into t (with_message w x) c u ≡ flow_into t w c u) [
  | inl inner ↦
      let queued : is_queued w s.queue u ≡ true = rw inner at (sym (done_is w s.queue u c) ∙ e) in
      let settled : is_settled t.orient w u ≡ true = sym (queued_settled t rule w is s under u inner low) ∙ queued in
      rw inner (ap (λ (y : FlowEnd). y.out) (local_more t w (x ∷ []) u settled))
  | inr outer ↦
      let came : is_some (came_over w u c) ≡ true = rw outer at e in
      rw outer (ap flow_that_came (came_same w (x ∷ []) u c came))
]

came_stays : {A : Type 0} (t : Transport) (rule : Accumulator A) (w : TileFlow) (x : Message) (come : ℕ → ℕ → Bool) (c u : ℕ) (o : Bool) → come u c ≡ o → (o ≡ true → flow_into t (with_message w x) c u ≡ flow_into t w c u) → came t rule (with_message w x) come c u ≡ came t rule w come c u
came_stays t rule w x come c u true e same = rw e (ap rule.lifted (same refl))
came_stays t rule w x come c u false e same = rw e refl

-- what had come has come with the message too
counted_with : {A : Type 0} (t : Transport) (rule : Accumulator A) (w : TileFlow) → IsTileOf w → (s : State A) → IsUnderway t rule w s (length s.queue) → (x : Message) → Counted t rule (with_message w x) (done_come w s.queue (length s.queue)) s
counted_with t rule w is s under x = record {
  inflows_many = under.counted.inflows_many;
  missing_many = under.counted.missing_many;
  missing = under.counted.missing;
  inflow = λ i low. under.counted.inflow i low ∙ gathered_alike rule (came t rule w (done_come w s.queue (length s.queue)) (cell_place w i)) (came t rule (with_message w x) (done_come w s.queue (length s.queue)) (cell_place w i)) (feeders t.orient w.drain (cell_place w i))
      (λ u h. sym (came_stays t rule w x (done_come w s.queue (length s.queue)) (cell_place w i) u (done_come w s.queue (length s.queue) u (cell_place w i)) refl (λ e. flow_stays t rule w is s under x (cell_place w i) u (feeder_within t.orient w.drain is.drain.map (cell_place w i) u h) e)));
  ready = under.counted.ready;
  waits = under.counted.waits;
  apart = under.counted.apart;
  fits = λ i u low h e. subst (λ (f : Flow). FlowFits f (load_of t.orient w.drain u)) (sym (flow_stays t rule w is s under x (cell_place w i) u (feeder_within t.orient w.drain is.drain.map (cell_place w i) u h) e)) (under.counted.fits i u low h e);
}

-- ---- it comes

comes_of : {A : Type 0} (t : Transport) (rule : Accumulator A) (w : TileFlow) (queue : List ℕ) (x : Message) (i : ℕ) → CanAccept t.orient w x → Crosses t w x i → Comes t rule (with_message w x) (done_come w queue (length queue)) i (edge_at w.edges x.edge).source x.flow
comes_of t rule w queue x i can crosses = record {
  low = crosses.low;
  feeds = crosses.feeds;
  not_yet = (let out = crosses.source_out in let none : is_some (came_over w (edge_at w.edges x.edge).source (cell_place w i)) ≡ false = ap (λ (o : Option Flow). is_some o) crosses.not_yet in rw out none);
  is = (let out = crosses.source_out in
      let joined : joins (edge_at w.edges x.edge).source (cell_place w i) (edge_at w.edges x.edge) ≡ true = and_from ((edge_at w.edges x.edge).source == (edge_at w.edges x.edge).source) ((edge_at w.edges x.edge).target == cell_place w i)
      (eq-eqb (edge_at w.edges x.edge).source (edge_at w.edges x.edge).source refl) (eq-eqb (edge_at w.edges x.edge).target (cell_place w i) (sym crosses.target)) in
      let here : flow_that_came (came_over (with_message w x) (edge_at w.edges x.edge).source (cell_place w i)) ≡ x.flow = ap flow_that_came (brought_here w.edges x w.taken (edge_at w.edges x.edge).source (cell_place w i) joined crosses.not_yet) in
      rw out (sym here));
  fits = can.fits;
}

joins_turned : (w : TileFlow) (x : Message) (i u c : ℕ) → cell_place w i ≡ (edge_at w.edges x.edge).target → ((u == (edge_at w.edges x.edge).source) && (c == cell_place w i)) ≡ joins u c (edge_at w.edges x.edge)
joins_turned w x i u c target =
    ap (λ (o : Bool). o && (c == cell_place w i)) (eqb_sym u (edge_at w.edges x.edge).source)
    ∙ ap (λ (o : Bool). ((edge_at w.edges x.edge).source == u) && o) (ap (λ (z : ℕ). c == z) target ∙ eqb_sym c (edge_at w.edges x.edge).target)

or_nothing : (a b : Bool) → b ≡ false → (a || b) ≡ a
or_nothing true b e = refl
or_nothing false b e = e

and_nothing : (a b : Bool) → a ≡ false → (a && b) ≡ false
and_nothing true b e = cc e
and_nothing false b e = refl

-- the relation with the message
relation_with : (t : Transport) (w : TileFlow) (queue grown : List ℕ) (x : Message) (i u c : ℕ) → Crosses t w x i → take (length queue) grown ≡ queue → also (done_come w queue (length queue)) (edge_at w.edges x.edge).source (cell_place w i) u c ≡ done_come (with_message w x) grown (length queue) u c
relation_with t w queue grown x i u c crosses prefix = elim (cases_Bool (in_tile w u)) as (λ _. also (done_come w queue (length queue)) (edge_at w.edges x.edge).source (cell_place w i) u c ≡ done_come (with_message w x) grown (length queue) u c) [
  | inl inner ↦
      let ne : u ≢ (edge_at w.edges x.edge).source = λ e. (let one : in_tile w (edge_at w.edges x.edge).source ≡ true = subst (λ (z : ℕ). in_tile w z ≡ true) e inner in let two = crosses.source_out in cc (one, two)) in
      let none : ((u == (edge_at w.edges x.edge).source) && (c == cell_place w i)) ≡ false = and_nothing (u == (edge_at w.edges x.edge).source) (c == cell_place w i) (false_of u (edge_at w.edges x.edge).source ne) in
      or_nothing (done_come w queue (length queue) u c) ((u == (edge_at w.edges x.edge).source) && (c == cell_place w i)) none
      ∙ (ap (λ (q : List ℕ). if in_tile w u then list_any (λ k. k == cell_number w u) q else is_some (came_over w u c)) (take_all queue ∙ sym prefix)
      ∙ (rw inner refl))
  | inr outer ↦
      let last = brought_last w.edges x w.taken u c in
      let turned = joins_turned w x i u c crosses.target in
      ap (λ (o : Bool). done_come w queue (length queue) u c || o) turned
      ∙ (rw outer (sym last))
]

pub take_front : (xs ys : List ℕ) → take (length xs) (xs ++ ys) ≡ xs
take_front [] ys = refl
take_front (x ∷ xs) ys = ap (λ (y : List ℕ). x ∷ y) (take_front xs ys)

pub back_to_map : (w : TileFlow) → IsTileOf w → (c : ℕ) → c < w.tiling.rows * w.tiling.cols → c < length w.drain.codes
back_to_map w is c low = subst (λ (n : ℕ). c < n) (sym (is.drain.map.size ∙ (ap (λ (r : ℕ). r * w.drain.cols) is.size.rows ∙ ap (λ (k : ℕ). w.tiling.rows * k) is.size.cols))) low

pub number_back : (w : TileFlow) → IsTileOf w → (i : ℕ) → i < tile_size w → cell_number w (cell_place w i) ≡ i
number_back w is i low = number_in-place_in w.tiling.rows w.tiling.cols _ i (tile_in_map w.tiling w.tile is.tile).0 low

-- A message has come.
pub record Accepts {A : Type 0} (t : Transport) (rule : Accumulator A) (w : TileFlow) (s : State A) (x : Message) (i room : ℕ) : Type 0 where
  pub can : CanReceive rule s i x.flow room
  pub underway : IsUnderway t rule (with_message w x) (received rule s i x.flow) (length s.queue)

pub accepts : {A : Type 0} (t : Transport) (rule : Accumulator A) → RuleLaws t rule → (w : TileFlow) → IsTileOf w → (s : State A) → IsUnderway t rule w s (length s.queue) → (x : Message) (i room : ℕ) → CanAccept t.orient w x → Crosses t w x i → tile_size w ≤ room →
    Accepts t rule w s x i room
accepts t rule laws w is s under x i room can crosses wide =
    let later : TileFlow = with_message w x in
    let is_later : IsTileOf later = record { drain = is.drain; size = is.size; tile = is.tile } in
    let counted = counted_with t rule w is s under x in
    let comes = comes_of t rule w s.queue x i can crosses in
    let after : State _ = received rule s i x.flow in
    let grows = queued_grows s.queue (missing_at s i) i (missing_at s i == 1) refl in
    let prefix : take (length s.queue) after.queue ≡ s.queue = ap (take (length s.queue)) grows.is ∙ take_front s.queue grows.more in
    let same_at : ((j : ℕ) → j < length s.queue → queued_at after.queue j ≡ queued_at s.queue j) = λ j h. ap (λ (q : List ℕ). queued_at q j) grows.is ∙ get_or_append_left s.queue grows.more 0 j h in
    let long : length s.queue ≤ length after.queue = omega (arith, ap length grows.is, length-append s.queue grows.more) in
    let settled : ((j : ℕ) → j < length s.queue → is_settled t.orient w (cell_place w (queued_at s.queue j)) ≡ true) = λ j h.
    let on = queue_has s.queue j h in
    let low = (under.counted.waits (queued_at s.queue j) on).0 in
    let at = tile_place w is (queued_at s.queue j) low in
    let inside_map : cell_place w (queued_at s.queue j) < length w.drain.codes = back_to_map w is (cell_place w (queued_at s.queue j)) at.below in
    sym (queued_settled t rule w is s under (cell_place w (queued_at s.queue j)) at.inside inside_map)
    ∙ any_has (λ k. k == cell_number w (cell_place w (queued_at s.queue j))) s.queue (queued_at s.queue j) on (eq-eqb (queued_at s.queue j) (cell_number w (cell_place w (queued_at s.queue j))) (sym (number_back w is (queued_at s.queue j) low))) in
    record {
      can = can_receive t rule laws later is_later (done_come w s.queue (length s.queue)) s i (edge_at w.edges x.edge).source x.flow room counted comes wide;
      underway = record {
        counted = counted_alike t rule later (also (done_come w s.queue (length s.queue)) (edge_at w.edges x.edge).source (cell_place w i)) (done_come later after.queue (length s.queue)) after
            (λ k u low h. relation_with t w s.queue after.queue x i u (cell_place w k) crosses prefix)
            (receive_counts t rule laws later is_later (done_come w s.queue (length s.queue)) s i (edge_at w.edges x.edge).source x.flow counted comes);
        head_in = long;
      };
    }

-- ---- a message that a work accepts

pub can_moved : {X : Type 0} (orient : X → Orient) (v given : TileWork X) (x : Message) → v ≡ given → CanAccept (orient given.which) given.of x → CanAccept (orient v.which) v.of x
can_moved {X = X} orient v given x same can = subst (λ (y : TileWork X). CanAccept (orient y.which) y.of x) (sym same) can
