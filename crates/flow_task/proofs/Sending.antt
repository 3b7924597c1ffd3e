-- The next edge that can be sent.
use Rattle.std.proofs.Common.{◌≡◌, ℕ, ◌+◌, ◌<◌, ◌≤◌, List, length, refl, sym, ap, subst, ◌∙◌, arith, inl, inr, suc, zero, Bool, true, false, get_or, cond}
use Rattle.std.specs.Prelude.{◌==◌, ◌&&◌, not, Some, None}
use Rattle.std.specs.List.{Contains, filter, find, list_all, range_with_len}
use Rattle.std.proofs.lemmas.List.FromFn.{get_or-range_with_len, length-range_with_len}
use Rattle.drain_meaning.proofs.Callers.{kept_passes}
use Rattle.border_channel.proofs.Callers.{each-list_all, filter-keeps, list_all-each}
use Rattle.std.proofs.lemmas.Bool.{and_parts, cases_Bool, cases_eq, cases_lt, eq-eqb}
use Rattle.std.proofs.lemmas.List.{get_or_default}
use Rattle.drain_meaning.specs.declared.end.FlowEnd.{FlowEnd}
use Rattle.drain_meaning.specs.Rules.{Accumulator, RuleLaws}
use Rattle.drain_meaning.specs.Transports.{Transport}
use Rattle.border_channel.specs.declared.edge.Message.{Message}
use Rattle.border_channel.specs.Edges.{edge_at}
use Rattle.border_channel.specs.Locals.{local_end}
use Rattle.border_channel.specs.Outbound.{all_sent, is_due, leaves, message_for, next_due, next_message, was_sent}
use Rattle.border_channel.specs.Settled.{is_settled}
use Rattle.border_channel.specs.TileFlows.{TileFlow, in_tile}
use Rattle.border_channel.proofs.Callers.{tile_place}
use Rattle.flow_task.specs.declared.link.Link.{Link}
use Rattle.flow_task.specs.inside.Kept.{AreUnsent, IsWorkKept, link_at}
use Rattle.flow_task.specs.inside.States.{State, end_here, missing_at}
use Rattle.flow_task.specs.inside.Underway.{cell_number, cell_place, done_come}
use Rattle.drain_meaning.specs.declared.flow.Flow.{Flow}
use Rattle.flow_task.proofs.Accepting.{agree, any_on, back_to_map, is_queued, number_back, queued_settled}
use Rattle.flow_task.proofs.Receiving.{eqb_same}
use Rattle.flow_task.proofs.Turns.{Turn, any_has, turn_of}

find_by : (p : ℕ → Bool) (x : ℕ) (xs : List ℕ) (e : ℕ) (o : Bool) → p x ≡ o → (o ≡ true → x ≡ e) → (o ≡ false → find p xs ≡ Some e) → cond o (Some x) (find p xs) ≡ Some e
find_by p x xs e true h here later = ap (λ (z : ℕ). Some z) (here refl)
find_by p x xs e false h here later = later refl

-- the first of a range that passes
find_first : (p : ℕ → Bool) (from n e : ℕ) → from ≤ e → e < from + n → p e ≡ true → ((d : ℕ) → from ≤ d → d < e → p d ≡ false) → find p (range_with_len from n) ≡ Some e
find_first p from zero e low high pass before = absurd (omega arith)
find_first p from (suc n) e low high pass before = find_by p from (range_with_len (from + 1) n) e (p from) refl
    (λ h. elim (cases_lt from e) as (λ _. from ≡ e) [ inl less ↦ absurd (let off : p from ≡ false = before from (omega arith) less in cc (h, off)) | inr more ↦ omega arith ])
    (λ h. elim (cases_lt from e) as (λ _. find p (range_with_len (from + 1) n) ≡ Some e) [
      | inl less ↦ find_first p (from + 1) n e (omega arith) (omega arith) pass (λ d a b. before d (omega arith) b)
      | inr more ↦ absurd (let same : from ≡ e = omega arith in let on : p from ≡ true = ap p same ∙ pass in cc (h, on))
    ])

none_by : (p : ℕ → Bool) (x : ℕ) (xs : List ℕ) (o : Bool) → o ≡ false → find p xs ≡ None → cond o (Some x) (find p xs) ≡ None
none_by p x xs true h rest = cc h
none_by p x xs false h rest = rest

find_none : (p : ℕ → Bool) (from n : ℕ) → ((d : ℕ) → from ≤ d → d < from + n → p d ≡ false) → find p (range_with_len from n) ≡ None
find_none p from zero off = refl
find_none p from (suc n) off = none_by p from (range_with_len (from + 1) n) (p from) (off from (omega arith) (omega arith)) (find_none p (from + 1) n (λ d a b. off d (omega arith) (omega arith)))

-- ---- links that can be sent

-- a link can be sent as the code sees it
abbrev pub ready : {A : Type 0} → State A → List Bool → List Link → ℕ → Bool
ready s unsent outbound k = get_or unsent k false && (missing_at s (link_at outbound k).cell == 0)

-- the tile has a cell at the source of a link
link_source : {A : Type 0} (t : Transport) (rule : Accumulator A) (w : TileFlow) (fed : List (List ℕ)) (s : State A) (inbound outbound : List Link) (unsent : List Bool) (sent : List ℕ) (queue_room taken_room sent_room : ℕ) → IsWorkKept t rule w fed s inbound outbound queue_room taken_room → AreUnsent outbound unsent sent sent_room → (k : ℕ) → k < length outbound →
    (missing_at s (link_at outbound k).cell == 0) ≡ is_settled t.orient w (edge_at w.edges (link_at outbound k).edge).source
link_source t rule w fed s inbound outbound unsent sent queue_room taken_room sent_room kept un k low =
    let i : ℕ = (link_at outbound k).cell in
    let below = kept.outbound_are.cell_in k low in
    let is = kept.begun.tile in
    let at = tile_place w is i below in
    let settled = queued_settled t rule w is s kept.underway (cell_place w i) at.inside (back_to_map w is (cell_place w i) at.below) in
    let number = number_back w is i below in
    let queued : (missing_at s i == 0) ≡ is_queued w s.queue (cell_place w i) = agree (missing_at s i == 0) (is_queued w s.queue (cell_place w i))
    (λ e. any_has (λ j. j == cell_number w (cell_place w i)) s.queue i (kept.underway.counted.ready i below (eqb_same (missing_at s i) 0 e)) (eq-eqb i (cell_number w (cell_place w i)) (sym number)))
    (λ e. let on = any_on (λ j. j == cell_number w (cell_place w i)) s.queue e in
    let here : Contains s.queue i = subst (λ (z : ℕ). Contains s.queue z) (eqb_same on.0 (cell_number w (cell_place w i)) on.2 ∙ number) on.1 in
    eq-eqb (missing_at s i) 0 (kept.underway.counted.waits i here).1) in
    queued ∙ (settled ∙ ap (is_settled t.orient w) (kept.outbound_are.source k low))

and_again : (a b c : Bool) → a ≡ true → (a && b && c) ≡ (b && c)
and_again true b c e = refl
and_again false b c e = cc e

and_swap : (a b : Bool) → (a && b) ≡ (b && a)
and_swap true true = refl
and_swap true false = refl
and_swap false true = refl
and_swap false false = refl

-- it can be sent exactly where its edge can
pub ready_due : {A : Type 0} (t : Transport) (rule : Accumulator A) (w : TileFlow) (fed : List (List ℕ)) (s : State A) (inbound outbound : List Link) (unsent : List Bool) (sent : List ℕ) (queue_room taken_room sent_room : ℕ) → IsWorkKept t rule w fed s inbound outbound queue_room taken_room → AreUnsent outbound unsent sent sent_room → (k : ℕ) → k < length outbound →
    ready s unsent outbound k ≡ is_due t.orient w sent (link_at outbound k).edge
ready_due t rule w fed s inbound outbound unsent sent queue_room taken_room sent_room kept un k low =
    let e : ℕ = (link_at outbound k).edge in
    let at = tile_place w kept.begun.tile (link_at outbound k).cell (kept.outbound_are.cell_in k low) in
    let inside : in_tile w (edge_at w.edges e).source ≡ true = subst (λ (z : ℕ). in_tile w z ≡ true) (kept.outbound_are.source k low) at.inside in
    ap (λ (o : Bool). o && (missing_at s (link_at outbound k).cell == 0)) (un.is k low)
    ∙ (ap (λ (o : Bool). not (was_sent sent e) && o) (link_source t rule w fed s inbound outbound unsent sent queue_room taken_room sent_room kept un k low)
    ∙ (and_swap (not (was_sent sent e)) (is_settled t.orient w (edge_at w.edges e).source)
    ∙ sym (and_again (in_tile w (edge_at w.edges e).source) (is_settled t.orient w (edge_at w.edges e).source) (not (was_sent sent e)) inside)))

-- an edge below that of a link, or any where there is no link, can be sent only by a link before it
due_linked : {A : Type 0} (t : Transport) (rule : Accumulator A) (w : TileFlow) (fed : List (List ℕ)) (s : State A) (inbound outbound : List Link) (unsent : List Bool) (sent : List ℕ) (queue_room taken_room sent_room : ℕ) → IsWorkKept t rule w fed s inbound outbound queue_room taken_room → AreUnsent outbound unsent sent sent_room → (k : ℕ) → ((j : ℕ) → j < k → ready s unsent outbound j ≡ false) →
    (d : ℕ) → d < length w.edges → ((j : ℕ) → j < length outbound → (link_at outbound j).edge ≡ d → j < k) → is_due t.orient w sent d ≡ false
due_linked t rule w fed s inbound outbound unsent sent queue_room taken_room sent_room kept un k off d low before = elim (cases_Bool (is_due t.orient w sent d)) as (λ _. is_due t.orient w sent d ≡ false) [
  | inl due ↦
      let leaves = (and_parts (in_tile w (edge_at w.edges d).source) (is_settled t.orient w (edge_at w.edges d).source) (and_parts (in_tile w (edge_at w.edges d).source && is_settled t.orient w (edge_at w.edges d).source) (not (was_sent sent d)) due).0).0 in
      let link = kept.outbound_are.each d low leaves in
      let earlier = before link.at link.within link.edge_is in
      let same : is_due t.orient w sent d ≡ false = ap (is_due t.orient w sent) (sym link.edge_is) ∙ (sym (ready_due t rule w fed s inbound outbound unsent sent queue_room taken_room sent_room kept un link.at link.within) ∙ off link.at earlier) in
      same
  | inr none ↦ none
]

-- the turn of the cell of a link that can be sent
pub ready_turn : {A : Type 0} (t : Transport) (rule : Accumulator A) → RuleLaws t rule → (w : TileFlow) (fed : List (List ℕ)) (s : State A) (inbound outbound : List Link) (unsent : List Bool) (queue_room taken_room : ℕ) → IsWorkKept t rule w fed s inbound outbound queue_room taken_room → (k : ℕ) → k < length outbound → ready s unsent outbound k ≡ true →
    Turn t rule w s w.a w.b (link_at outbound k).cell
ready_turn t rule laws w fed s inbound outbound unsent queue_room taken_room kept k low on =
    let i : ℕ = (link_at outbound k).cell in
    let none : missing_at s i ≡ 0 = eqb_same (missing_at s i) 0 (and_parts (get_or unsent k false) (missing_at s i == 0) on).1 in
    turn_of t rule laws w fed w.a w.b kept.begun (done_come w s.queue (length s.queue)) s i kept.underway.counted (kept.outbound_are.cell_in k low) none

-- The edge of the first link that can be sent is the next.
pub next_found : {A : Type 0} (t : Transport) (rule : Accumulator A) (w : TileFlow) (fed : List (List ℕ)) (s : State A) (inbound outbound : List Link) (unsent : List Bool) (sent : List ℕ) (queue_room taken_room sent_room : ℕ) → IsWorkKept t rule w fed s inbound outbound queue_room taken_room → AreUnsent outbound unsent sent sent_room → (k : ℕ) → k < length outbound → ((j : ℕ) → j < k → ready s unsent outbound j ≡ false) → ready s unsent outbound k ≡ true →
    next_due t.orient w sent ≡ Some (link_at outbound k).edge
next_found t rule w fed s inbound outbound unsent sent queue_room taken_room sent_room kept un k low off on =
    let e : ℕ = (link_at outbound k).edge in
    let due : is_due t.orient w sent e ≡ true = sym (ready_due t rule w fed s inbound outbound unsent sent queue_room taken_room sent_room kept un k low) ∙ on in
    find_first (is_due t.orient w sent) 0 (length w.edges) e (omega arith) (omega (arith, kept.outbound_are.within k low)) due (λ d a b.
    due_linked t rule w fed s inbound outbound unsent sent queue_room taken_room sent_room kept un k off d (omega (arith, b, kept.outbound_are.within k low)) (λ j j_low same.
    elim (cases_lt j k) as (λ _. j < k) [
      | inl less ↦ less
      | inr more ↦ elim (cases_eq j k) as (λ _. j < k) [
        | inl equal ↦ absurd (let edges : (link_at outbound j).edge ≡ e = ap (λ (z : ℕ). (link_at outbound z).edge) equal in omega (arith, edges, same, b))
        | inr ne ↦ absurd (let up = kept.outbound_are.ascends k j (omega arith) j_low in omega (arith, up, same, b))
      ]
    ]))

-- The first link that can be sent gives the next message.
pub next_some : {A : Type 0} (t : Transport) (rule : Accumulator A) → RuleLaws t rule → (w : TileFlow) (fed : List (List ℕ)) (s : State A) (inbound outbound : List Link) (unsent : List Bool) (sent : List ℕ) (queue_room taken_room sent_room : ℕ) → IsWorkKept t rule w fed s inbound outbound queue_room taken_room → AreUnsent outbound unsent sent sent_room → (k : ℕ) → k < length outbound → ((j : ℕ) → j < k → ready s unsent outbound j ≡ false) → ready s unsent outbound k ≡ true →
    Some (let m : Message = record { edge = (link_at outbound k).edge; flow = (end_here rule s w.a w.b (link_at outbound k).cell).out } in m) ≡ next_message t w sent
next_some t rule laws w fed s inbound outbound unsent sent queue_room taken_room sent_room kept un k low off on =
    let e : ℕ = (link_at outbound k).edge in
    let i : ℕ = (link_at outbound k).cell in
    let found = next_found t rule w fed s inbound outbound unsent sent queue_room taken_room sent_room kept un k low off on in
    let turn = ready_turn t rule laws w fed s inbound outbound unsent queue_room taken_room kept k low on in
    let flow : (end_here rule s w.a w.b i).out ≡ (local_end t w (edge_at w.edges e).source).out = ap (λ (z : FlowEnd). z.out) turn.end ∙ ap (λ (z : ℕ). (local_end t w z).out) (kept.outbound_are.source k low) in
    ap (λ (f : Flow). Some (let m : Message = record { edge = e; flow = f } in m)) flow ∙ sym (ap (message_for t w) found)

-- Where no link can be sent no edge is the next.
pub next_none_due : {A : Type 0} (t : Transport) (rule : Accumulator A) (w : TileFlow) (fed : List (List ℕ)) (s : State A) (inbound outbound : List Link) (unsent : List Bool) (sent : List ℕ) (queue_room taken_room sent_room : ℕ) → IsWorkKept t rule w fed s inbound outbound queue_room taken_room → AreUnsent outbound unsent sent sent_room → ((j : ℕ) → j < length outbound → ready s unsent outbound j ≡ false) →
    next_due t.orient w sent ≡ None
next_none_due t rule w fed s inbound outbound unsent sent queue_room taken_room sent_room kept un off =
    find_none (is_due t.orient w sent) 0 (length w.edges) (λ d a b.
    due_linked t rule w fed s inbound outbound unsent sent queue_room taken_room sent_room kept un (length outbound) off d (omega arith) (λ j low same. low))

-- Where no link can be sent there is none.
pub next_none : {A : Type 0} (t : Transport) (rule : Accumulator A) (w : TileFlow) (fed : List (List ℕ)) (s : State A) (inbound outbound : List Link) (unsent : List Bool) (sent : List ℕ) (queue_room taken_room sent_room : ℕ) → IsWorkKept t rule w fed s inbound outbound queue_room taken_room → AreUnsent outbound unsent sent sent_room → ((j : ℕ) → j < length outbound → ready s unsent outbound j ≡ false) →
    None ≡ next_message t w sent
next_none t rule w fed s inbound outbound unsent sent queue_room taken_room sent_room kept un off =
    sym (ap (message_for t w) (next_none_due t rule w fed s inbound outbound unsent sent queue_room taken_room sent_room kept un off))

-- ---- the same of what the code has

pub message_same : (l m : Link) (e f : FlowEnd) → l ≡ m → e ≡ f → Some (let x : Message = record { edge = l.edge; flow = e.out } in x) ≡ Some (let x : Message = record { edge = m.edge; flow = f.out } in x)
message_same l m e f one two =
    ap (λ (z : Link). Some (let x : Message = record { edge = z.edge; flow = e.out } in x)) one
    ∙ ap (λ (z : FlowEnd). Some (let x : Message = record { edge = m.edge; flow = z.out } in x)) two

pub link_read : (links : List Link) (k : ℕ) (l : Link) → k < length links → l ≡ get_or links k l → l ≡ link_at links k
link_read links k l low is = is ∙ get_or_default links k l (let none : Link = record { edge = 0; cell = 0 } in none) low

pub ready_read : {A : Type 0} (s : State A) (unsent : List Bool) (outbound : List Link) (k : ℕ) (l : Link) (o : Bool) → l ≡ link_at outbound k → o ≡ (get_or unsent k false && (missing_at s l.cell == 0)) → ready s unsent outbound k ≡ o
ready_read s unsent outbound k l o link is = ap (λ (z : Link). get_or unsent k false && (missing_at s z.cell == 0)) (sym link) ∙ sym is

-- ---- whether all were sent

not_all : (p : ℕ → Bool) (xs : List ℕ) (x : ℕ) → Contains xs x → p x ≡ false → list_all p xs ≡ false
not_all p xs x on off = elim (cases_Bool (list_all p xs)) as (λ _. list_all p xs ≡ false) [
  | inl all ↦ absurd (let here : p x ≡ true = list_all-each p xs all x on in cc (here, off))
  | inr none ↦ none
]

pub range_has : (n e : ℕ) → e < n → Contains (range_with_len 0 n) e
range_has n e low = (e, omega (arith, length-range_with_len 0 n), get_or-range_with_len 0 n e e low ∙ omega arith)

range_low : (n e : ℕ) → Contains (range_with_len 0 n) e → e < n
range_low n e h =
    let low : h.0 < n = omega (arith, h.1, length-range_with_len 0 n) in
    omega (arith, low, get_or-range_with_len 0 n h.0 e low, h.2)

not_yet : (a b : Bool) → a ≡ not b → a ≡ true → b ≡ false
not_yet a true e h = cc (e, h)
not_yet a false e h = refl

all_yet : (a b : Bool) → a ≡ not b → a ≡ false → b ≡ true
all_yet a true e h = refl
all_yet a false e h = cc (e, h)

-- an edge that leaves the tile was not sent
pub some_unsent : {A : Type 0} (t : Transport) (rule : Accumulator A) (w : TileFlow) (fed : List (List ℕ)) (s : State A) (inbound outbound : List Link) (unsent : List Bool) (sent : List ℕ) (queue_room taken_room sent_room : ℕ) → IsWorkKept t rule w fed s inbound outbound queue_room taken_room → AreUnsent outbound unsent sent sent_room → (k : ℕ) → k < length unsent → get_or unsent k false ≡ true → false ≡ all_sent w sent
some_unsent t rule w fed s inbound outbound unsent sent queue_room taken_room sent_room kept un k low on =
    let below : k < length outbound = omega (arith, low, un.many) in
    let e : ℕ = (link_at outbound k).edge in
    let at = tile_place w kept.begun.tile (link_at outbound k).cell (kept.outbound_are.cell_in k below) in
    let inside : in_tile w (edge_at w.edges e).source ≡ true = subst (λ (z : ℕ). in_tile w z ≡ true) (kept.outbound_are.source k below) at.inside in
    sym (not_all (was_sent sent) (filter (leaves w) (range_with_len 0 (length w.edges))) e
    (filter-keeps (leaves w) (range_with_len 0 (length w.edges)) e (range_has (length w.edges) e (kept.outbound_are.within k below)) inside)
    (not_yet (get_or unsent k false) (was_sent sent e) (un.is k below) on))

-- all were
pub none_unsent : {A : Type 0} (t : Transport) (rule : Accumulator A) (w : TileFlow) (fed : List (List ℕ)) (s : State A) (inbound outbound : List Link) (unsent : List Bool) (sent : List ℕ) (queue_room taken_room sent_room : ℕ) → IsWorkKept t rule w fed s inbound outbound queue_room taken_room → AreUnsent outbound unsent sent sent_room → ((k : ℕ) → k < length unsent → get_or unsent k false ≡ false) → true ≡ all_sent w sent
none_unsent t rule w fed s inbound outbound unsent sent queue_room taken_room sent_room kept un off =
    sym (each-list_all (was_sent sent) (filter (leaves w) (range_with_len 0 (length w.edges))) (λ e h.
    let passes = kept_passes (leaves w) (range_with_len 0 (length w.edges)) e h in
    let link = kept.outbound_are.each e (range_low (length w.edges) e passes.1) passes.0 in
    let gone : was_sent sent (link_at outbound link.at).edge ≡ true = all_yet (get_or unsent link.at false) (was_sent sent (link_at outbound link.at).edge) (un.is link.at link.within) (off link.at (omega (arith, link.within, un.many))) in
    subst (λ (z : ℕ). was_sent sent z ≡ true) link.edge_is gone))
