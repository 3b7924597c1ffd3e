-- The edges of a work that can be sent.
use Rattle.std.proofs.Common.{◌≡◌, ℕ, ◌+◌, ◌<◌, ◌≤◌, List, [], length, take, refl, sym, ap, subst, ◌∙◌, arith, inl, inr, Bool, true, false, get_or, get_or-set_same, get_or-set_other, length-append}
use Rattle.std.specs.Prelude.{◌==◌, ◌&&◌, Option, Some, None, IfSome}
use Rattle.std.specs.List.{Contains, list_any}
use Rattle.std.proofs.Math.ListN.{set}
use Rattle.std.proofs.lemmas.Bool.{cases_Bool, cases_eq, cases_lt, eq-eqb}
use Rattle.std.proofs.lemmas.Bool.Decides.{eqb_tells}
use Rattle.tile_map.proofs.Callers.{tile_in_map}
use Rattle.tile_map.proofs.RectLemmas.{places_ascend}
use Rattle.drain_meaning.specs.declared.op.Orient.{Orient}
use Rattle.drain_meaning.specs.Rules.{Accumulator}
use Rattle.drain_meaning.specs.Transports.{Transport}
use Rattle.border_channel.specs.declared.edge.Edge.{Edge}
use Rattle.border_channel.specs.Edges.{EdgeComesBefore, border_edges_of, edge_at}
use Rattle.border_channel.specs.Laws.{IsTileOf}
use Rattle.border_channel.specs.Outbound.{next_due}
use Rattle.border_channel.specs.TileFlows.{TileFlow, tile_rect}
use Rattle.border_channel.proofs.Callers.{edges_listed}
use Rattle.flow_task.specs.declared.link.Link.{Link}
use Rattle.flow_task.specs.inside.Due.{LinksAreDue, AreMarked, AreNoted, CanAdd, CellsRise, IsLeast, Waiting, leaves_one, place_times}
use Rattle.flow_task.specs.inside.Kept.{AreOutbound, AreUnsent, IsLinkAt, IsWorkKept, link_at}
use Rattle.flow_task.specs.inside.States.{Grows, State, missing_at}
use Rattle.flow_task.specs.inside.Underway.{cell_place, one_if, tile_size}
use Rattle.flow_task.proofs.Accepting.{agree, any_on, take_front}
use Rattle.flow_task.proofs.DueLemmas.{and_off, first_on, off_and, on_within, some_on, times_has, times_on}
use Rattle.flow_task.proofs.Ending.{tile_few}
use Rattle.flow_task.proofs.Marking.{apart_links}
use Rattle.flow_task.proofs.Receiving.{eqb_same}
use Rattle.flow_task.proofs.Sending.{next_found, next_none_due, ready}
use Rattle.flow_task.proofs.Turns.{any_has}

-- ---- the cells of links

lower_first : (edges : List Edge) (i j : ℕ) → EdgeComesBefore (edge_at edges i) (edge_at edges j) → (edge_at edges i).source ≤ (edge_at edges j).source
lower_first edges i j (inl less) = omega arith
lower_first edges i j (inr same) = (let e = same.0 in omega (arith, e))

-- the links of a tile stand by its cells
pub outbound_rises : (o : Orient) (w : TileFlow) → IsTileOf w → w.edges ≡ border_edges_of w.drain w.tiling o → (links : List Link) → AreOutbound w links → CellsRise links
outbound_rises o w is are links out i j less low = elim (cases_lt (link_at links j).cell (link_at links i).cell) as (λ _. (link_at links i).cell ≤ (link_at links j).cell) [
  | inl fall ↦
      let right = (tile_in_map w.tiling w.tile is.tile).0.right in
      let up : cell_place w (link_at links j).cell < cell_place w (link_at links i).cell = places_ascend w.tiling.cols (tile_rect w) (link_at links j).cell (link_at links i).cell right fall (out.cell_in i (omega (arith, less, low))) in
      let one = out.source i (omega (arith, less, low)) in
      let two = out.source j low in
      let order = out.ascends i j less low in
      let listed : (a b : ℕ) → a < b → b < length w.edges → EdgeComesBefore (edge_at w.edges a) (edge_at w.edges b) =
      subst (λ (y : List Edge). (a b : ℕ) → a < b → b < length y → EdgeComesBefore (edge_at y a) (edge_at y b)) (sym are) (edges_listed w.drain w.tiling o is.drain is.size).ascends in
      let first = lower_first w.edges (link_at links i).edge (link_at links j).edge (listed (link_at links i).edge (link_at links j).edge order (out.within j low)) in
      absurd (omega (arith, up, one, two, first))
  | inr rise ↦ rise
]

-- ---- what is due

-- before any cell is looked at nothing is due
pub due_begin : (outbound : List Link) (unsent : List Bool) (places : List ℕ) → places ≡ [] → LinksAreDue outbound unsent [] places
due_begin outbound unsent places none k = ap (λ (y : List ℕ). place_times y k) none ∙ sym (ap one_if (and_off (get_or unsent k false) false refl))

-- the first cells of a list that grew
pub grown_front : (old new : List ℕ) → Grows old new → take (length old) new ≡ old
grown_front old new grows = ap (take (length old)) grows.is ∙ take_front old grows.more

pub can_add : {A : Type 0} (t : Transport) (rule : Accumulator A) (w : TileFlow) (fed : List (List ℕ)) (s : State A) (inbound outbound : List Link) (queue_room taken_room : ℕ) → IsWorkKept t rule w fed s inbound outbound queue_room taken_room → (unsent leaves : List Bool) (due : Waiting) (at : ℕ) →
    length unsent ≡ length outbound → AreMarked outbound leaves → length leaves ≡ tile_size w → length outbound ≤ due.room → at ≤ length s.queue → LinksAreDue outbound unsent (take at s.queue) due.places → CanAdd outbound unsent leaves s.queue at due
can_add t rule w fed s inbound outbound queue_room taken_room kept unsent leaves due at many marked sized room in_queue so_far = record {
  at_in = in_queue;
  inside = λ i h. (let low = (kept.underway.counted.waits i h).0 in omega (arith, low, sized));
  few = (let few = tile_few w kept.begun.tile in omega (arith, few, sized));
  rise = outbound_rises t.orient w kept.begun.tile kept.edges_are outbound kept.outbound_are;
  marked = marked;
  many = many;
  apart = kept.underway.counted.apart;
  room = room;
  so_far = so_far;
}

-- a link that waits can be sent, as the code sees it
waits_ready : {A : Type 0} (t : Transport) (rule : Accumulator A) (w : TileFlow) (fed : List (List ℕ)) (s : State A) (inbound outbound : List Link) (queue_room taken_room : ℕ) → IsWorkKept t rule w fed s inbound outbound queue_room taken_room → (unsent : List Bool) (k : ℕ) → k < length outbound → leaves_one outbound unsent s.queue k ≡ ready s unsent outbound k
waits_ready t rule w fed s inbound outbound queue_room taken_room kept unsent k low =
    let i : ℕ = (link_at outbound k).cell in
    let below = kept.outbound_are.cell_in k low in
    ap (λ (o : Bool). get_or unsent k false && o) (agree (list_any (λ c. c == i) s.queue) (missing_at s i == 0)
    (λ e.
    let on = any_on (λ c. c == i) s.queue e in
    let here : Contains s.queue i = subst (λ (z : ℕ). Contains s.queue z) (eqb_same on.0 i on.2) on.1 in
    eq-eqb (missing_at s i) 0 (kept.underway.counted.waits i here).1)
    (λ e. any_has (λ c. c == i) s.queue i (kept.underway.counted.ready i below (eqb_same (missing_at s i) 0 e)) (eq-eqb i i refl)))

-- what is known of the least link that waits
pub record LeastReady {A : Type 0} (s : State A) (unsent : List Bool) (outbound : List Link) (k : ℕ) : Type 0 where
  pub within : k < length outbound
  pub on : ready s unsent outbound k ≡ true
  pub before : (j : ℕ) → j < k → ready s unsent outbound j ≡ false

pub least_ready : {A : Type 0} (t : Transport) (rule : Accumulator A) (w : TileFlow) (fed : List (List ℕ)) (s : State A) (inbound outbound : List Link) (queue_room taken_room : ℕ) → IsWorkKept t rule w fed s inbound outbound queue_room taken_room → (unsent leaves : List Bool) (due : Waiting) →
    length unsent ≡ length outbound → AreNoted outbound unsent leaves s.queue s.missing due → (k : ℕ) → IsLeast due.places (Some k) → LeastReady s unsent outbound k
least_ready t rule w fed s inbound outbound queue_room taken_room kept unsent leaves due many noted k least =
    let some = times_on due.places k least.0 in
    let at = noted.all k in
    let on : leaves_one outbound unsent s.queue k ≡ true = some_on (leaves_one outbound unsent s.queue k) (omega (arith, some, at)) in
    let inside : k < length unsent = on_within unsent k (first_on (get_or unsent k false) (list_any (λ c. c == (link_at outbound k).cell) s.queue) on) in
    let low : k < length outbound = omega (arith, inside, many) in
    record {
      within = low;
      on = sym (waits_ready t rule w fed s inbound outbound queue_room taken_room kept unsent k low) ∙ on;
      before = λ j less.
          let j_low : j < length outbound = omega (arith, less, low) in
          let same = waits_ready t rule w fed s inbound outbound queue_room taken_room kept unsent j j_low in
          elim (cases_Bool (ready s unsent outbound j)) as (λ _. ready s unsent outbound j ≡ false) [
            | inl here ↦ absurd (
                let once : place_times due.places j ≡ 1 = noted.all j ∙ ap one_if (same ∙ here) in
                let up = least.1 j (times_has due.places j (omega (arith, once))) in
                omega (arith, up, less))
            | inr none ↦ none
          ];
    }

-- where none waits none can be sent
pub none_ready : {A : Type 0} (t : Transport) (rule : Accumulator A) (w : TileFlow) (fed : List (List ℕ)) (s : State A) (inbound outbound : List Link) (queue_room taken_room : ℕ) → IsWorkKept t rule w fed s inbound outbound queue_room taken_room → (unsent leaves : List Bool) (due : Waiting) →
    AreNoted outbound unsent leaves s.queue s.missing due → due.places ≡ [] → (j : ℕ) → j < length outbound → ready s unsent outbound j ≡ false
none_ready t rule w fed s inbound outbound queue_room taken_room kept unsent leaves due noted none j low =
    let same = waits_ready t rule w fed s inbound outbound queue_room taken_room kept unsent j low in
    elim (cases_Bool (ready s unsent outbound j)) as (λ _. ready s unsent outbound j ≡ false) [
      | inl here ↦ absurd (
          let once : place_times due.places j ≡ 1 = noted.all j ∙ ap one_if (same ∙ here) in
          let zero_of : place_times due.places j ≡ 0 = ap (λ (y : List ℕ). place_times y j) none in
          omega (arith, once, zero_of))
      | inr off ↦ off
    ]

-- ---- an edge is marked

-- the least link that waits is that of the edge that is to be sent
pub least_is : {A : Type 0} (t : Transport) (rule : Accumulator A) (w : TileFlow) (fed : List (List ℕ)) (s : State A) (inbound outbound : List Link) (queue_room taken_room : ℕ) → IsWorkKept t rule w fed s inbound outbound queue_room taken_room → (unsent leaves : List Bool) (sent : List ℕ) (sent_room : ℕ) → AreUnsent outbound unsent sent sent_room → (due : Waiting) →
    AreNoted outbound unsent leaves s.queue s.missing due → (edge at : ℕ) → next_due t.orient w sent ≡ Some edge → IsLinkAt outbound edge at → (r : Option ℕ) → IsLeast due.places r → r ≡ Some at
least_is t rule w fed s inbound outbound queue_room taken_room kept unsent leaves sent sent_room un due noted edge at found here None none =
    let no = next_none_due t rule w fed s inbound outbound unsent sent queue_room taken_room sent_room kept un (none_ready t rule w fed s inbound outbound queue_room taken_room kept unsent leaves due noted none) in
    absurd (cc (no, found))
least_is t rule w fed s inbound outbound queue_room taken_room kept unsent leaves sent sent_room un due noted edge at found here (Some k) least =
    let is = least_ready t rule w fed s inbound outbound queue_room taken_room kept unsent leaves due un.many noted k least in
    let yes = next_found t rule w fed s inbound outbound unsent sent queue_room taken_room sent_room kept un k is.within is.before is.on in
    let same : (link_at outbound k).edge ≡ edge = cc (yes, found) in
    elim (cases_eq k at) as (λ _. (let r : Option ℕ = Some k in r) ≡ Some at) [
      | inl e ↦ ap (λ (n : ℕ). Some n) e
      | inr ne ↦ absurd (apart_links outbound kept.outbound_are.ascends k at is.within here.within ne (same ∙ sym here.edge_is))
    ]

took_one : (places new : List ℕ) (at : ℕ) (r : Option ℕ) → r ≡ Some at → IsLeast places r → IfSome r (λ p. (k : ℕ) → one_if (p == k) + place_times new k ≡ place_times places k) →
    IsLeast places (Some at) × ((k : ℕ) → one_if (at == k) + place_times new k ≡ place_times places k)
took_one places new at None e least times = cc e
took_one places new at (Some p) e least times = (let same : p ≡ at = cc e in subst (λ (n : ℕ). IsLeast places (Some n) × ((k : ℕ) → one_if (n == k) + place_times new k ≡ place_times places k)) same (least, times))

-- what is due when the least link is taken out and its edge marked
pub noted_after : (outbound : List Link) (unsent leaves : List Bool) (queue missing : List ℕ) (due after : Waiting) (at : ℕ) (r : Option ℕ) → AreNoted outbound unsent leaves queue missing due → r ≡ Some at → IsLeast due.places r → IfSome r (λ p. (k : ℕ) → one_if (p == k) + place_times after.places k ≡ place_times due.places k) → after.room ≡ due.room →
    AreNoted outbound (set unsent at false) leaves queue missing after
noted_after outbound unsent leaves queue missing due after at r noted is least times room =
    let took = took_one due.places after.places at r is least times in
    record {
      all = λ k. elim (cases_eq k at) as (λ _. place_times after.places k ≡ one_if (leaves_one outbound (set unsent at false) queue k)) [
        | inl same ↦
            let some = times_on due.places at took.0.0 in
            let old = noted.all at in
            let on : leaves_one outbound unsent queue at ≡ true = some_on (leaves_one outbound unsent queue at) (omega (arith, some, old)) in
            let low = on_within unsent at (first_on (get_or unsent at false) (list_any (λ c. c == (link_at outbound at).cell) queue) on) in
            let one : one_if (at == at) ≡ 1 = ap one_if (eq-eqb at at refl) in
            let once : place_times due.places at ≡ 1 = old ∙ ap one_if on in
            let less = took.1 at in
            let none : place_times after.places at ≡ 0 = omega (arith, one, once, less) in
            let off : leaves_one outbound (set unsent at false) queue at ≡ false = off_and (get_or (set unsent at false) at false) (list_any (λ c. c == (link_at outbound at).cell) queue) (get_or-set_same unsent at false false low) in
            subst (λ (n : ℕ). place_times after.places n ≡ one_if (leaves_one outbound (set unsent at false) queue n)) (sym same) (none ∙ sym (ap one_if off))
        | inr ne ↦
            let test : (at == k) ≡ false = elim (eqb_tells at k) as (λ _. (at == k) ≡ false) [ inl t ↦ absurd (ne (sym t.1)) | inr t ↦ t.0 ] in
            let zero_of : one_if (at == k) ≡ 0 = ap one_if test in
            let stays = took.1 k in
            let same : place_times after.places k ≡ place_times due.places k = omega (arith, zero_of, stays) in
            same ∙ (noted.all k ∙ ap (λ (o : Bool). one_if (o && list_any (λ c. c == (link_at outbound k).cell) queue)) (sym (get_or-set_other unsent at k false false ne)))
      ];
      room = omega (arith, room, noted.room);
      marked = noted.marked;
      many = noted.many;
    }

-- ---- more cells settle

pub can_add_more : {A : Type 0} (t : Transport) (rule : Accumulator A) (w : TileFlow) (fed : List (List ℕ)) (s : State A) (inbound outbound : List Link) (queue_room taken_room : ℕ) → IsWorkKept t rule w fed s inbound outbound queue_room taken_room → (unsent leaves : List Bool) (sent : List ℕ) (sent_room : ℕ) → AreUnsent outbound unsent sent sent_room → (queue missing : List ℕ) (due : Waiting) →
    AreNoted outbound unsent leaves queue missing due → length missing ≡ tile_size w → Grows queue s.queue → (from : ℕ) → from ≡ length queue → CanAdd outbound unsent leaves s.queue from due
can_add_more t rule w fed s inbound outbound queue_room taken_room kept unsent leaves sent sent_room un queue missing due noted sized grows from is =
    let front : take from s.queue ≡ queue = ap (λ (n : ℕ). take n s.queue) is ∙ grown_front queue s.queue grows in
    let long : from ≤ length s.queue = omega (arith, is, ap length grows.is, length-append queue grows.more) in
    can_add t rule w fed s inbound outbound queue_room taken_room kept unsent leaves due from un.many noted.marked (noted.many ∙ sized) noted.room long (subst (λ (y : List ℕ). LinksAreDue outbound unsent y due.places) (sym front) noted.all)

pub noted_more : (outbound : List Link) (unsent leaves : List Bool) (queue missing now later : List ℕ) (due after : Waiting) → AreNoted outbound unsent leaves queue missing due → LinksAreDue outbound unsent now after.places → due.room ≤ after.room → length later ≡ length missing → AreNoted outbound unsent leaves now later after
noted_more outbound unsent leaves queue missing now later due after noted all room many = record {
  all = all;
  room = omega (arith, room, noted.room);
  marked = noted.marked;
  many = noted.many ∙ sym many;
}
