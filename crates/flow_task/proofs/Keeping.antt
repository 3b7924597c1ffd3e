-- A work keeps what it promises when it accepts a message.
use Rattle.std.proofs.Common.{◌≡◌, ◌≢◌, ℕ, ◌<◌, ◌≤◌, List, [], ◌∷◌, ◌++◌, length, refl, sym, ap, subst, ◌∙◌, arith, inl, inr, suc, zero, Bool, true, false, get_or, length-append}
use Rattle.std.specs.Prelude.{not, ◌==◌, ◌||◌}
use Rattle.std.specs.List.{Contains}
use Rattle.std.proofs.lemmas.Bool.{eq-eqb}
use Rattle.std.proofs.lemmas.Bool.Decides.{eqb_tells}
use Rattle.std.proofs.lemmas.List.Elements.{Contains-append_cases}
use Rattle.cell_values.specs.declared.cell.Cell.{Cell}
use Rattle.drain_meaning.specs.Rules.{Accumulator, RuleLaws}
use Rattle.drain_meaning.specs.Transports.{Transport}
use Rattle.border_channel.specs.declared.edge.Message.{Message}
use Rattle.border_channel.specs.Edges.{edge_at}
use Rattle.border_channel.specs.TileFlows.{TileFlow, with_taken}
use Rattle.border_channel.proofs.Callers.{has_first, has_later}
use Rattle.flow_task.specs.declared.link.Link.{Link}
use Rattle.flow_task.specs.Works.{CanAccept}
use Rattle.flow_task.specs.inside.Kept.{AreInbound, AreOutbound, Ascend, IsWorkKept, IsLinked, link_at, numbers, was_taken}
use Rattle.flow_task.specs.inside.States.{CanReceive, State, received, state}
use Rattle.flow_task.specs.inside.Underway.{AreLinks, Distinct, IsWorkBegun, IsUnderway, cell_place, tile_size}
use Rattle.flow_task.proofs.Accepting.{accepts, crosses_of, with_message}
use Rattle.flow_task.proofs.Counting.{tally_less}

-- ---- links

numbers_at : (links : List Link) (k d : ℕ) → k < length links → get_or (numbers links) k d ≡ (link_at links k).edge
numbers_at [] k d low = absurd (omega arith)
numbers_at (l ∷ links) zero d low = refl
numbers_at (l ∷ links) (suc k) d low = numbers_at links k d (omega arith)

numbers_many : (links : List Link) → length (numbers links) ≡ length links
numbers_many [] = refl
numbers_many (l ∷ links) = ap (λ (n : ℕ). suc n) (numbers_many links)

numbers_distinct : (links : List Link) → Ascend links → Distinct (numbers links)
numbers_distinct [] a = tt
numbers_distinct (l ∷ links) a = (
  (λ h.
      let low : h.0 < length links = omega (arith, h.1, numbers_many links) in
      let at = numbers_at links h.0 l.edge low in
      let less = a 0 (suc h.0) (omega arith) (omega (arith, low)) in
      omega (arith, at, h.2, less)),
  numbers_distinct links (λ i j h k. a (suc i) (suc j) (omega arith) (omega arith)),
)

linked_number : (links : List Link) (e cell : ℕ) → IsLinked links e cell → Contains (numbers links) e
linked_number links e cell linked = (linked.at, omega (arith, linked.within, numbers_many links), numbers_at links linked.at e linked.within ∙ linked.edge_is)

-- ---- messages that were taken

or_again : (a b c : Bool) → (a || (b || c)) ≡ ((a || b) || c)
or_again true b c = refl
or_again false b c = refl

or_false : (a : Bool) → (a || false) ≡ a
or_false true = refl
or_false false = refl

or_true : (a b : Bool) → b ≡ true → (a || b) ≡ true
or_true true b e = refl
or_true false b e = e

or_same : (a b : Bool) → b ≡ false → (a || b) ≡ a
or_same true b e = refl
or_same false b e = e

or_none : (a b : Bool) → a ≡ false → b ≡ false → (a || b) ≡ false
or_none true b e f = cc e
or_none false b e f = f

taken_last : (taken : List Message) (x : Message) (e : ℕ) → was_taken (taken ++ x ∷ []) e ≡ (was_taken taken e || (x.edge == e))
taken_last [] x e = or_false (x.edge == e)
taken_last (y ∷ taken) x e = ap (λ (o : Bool). (y.edge == e) || o) (taken_last taken x e) ∙ or_again (y.edge == e) (was_taken taken e) (x.edge == e)

differ : (a b : ℕ) → a ≢ b → (a == b) ≡ false
differ a b ne = elim (eqb_tells a b) as (λ _. (a == b) ≡ false) [ inl t ↦ absurd (ne t.1) | inr t ↦ t.0 ]

not_taken : (taken : List Message) (e : ℕ) → ((y : Message) → Contains taken y → y.edge ≢ e) → was_taken taken e ≡ false
not_taken [] e other = refl
not_taken (y ∷ taken) e other = or_none (y.edge == e) (was_taken taken e) (differ y.edge e (other y (has_first y taken))) (not_taken taken e (λ z h. other z (has_later y taken z h)))

only_one : (x y : Message) → Contains (x ∷ []) y → x ≡ y
only_one x y (zero, low, e) = e
only_one x y (suc k, low, e) = absurd (omega arith)

-- ---- what stays with one more message

links_with : (t : Transport) (w : TileFlow) (m : List Message) (fed : List (List ℕ)) → AreLinks t.orient w fed → AreLinks t.orient (with_taken w m) fed
links_with t w m fed l = record { many = l.many; below = l.below; each = l.each }

begun_with : (t : Transport) (w : TileFlow) (m : List Message) (fed : List (List ℕ)) (a b : List Cell) → IsWorkBegun t w fed a b → IsWorkBegun t (with_taken w m) fed a b
begun_with t w m fed a b g = record {
  tile = record { drain = g.tile.drain; size = g.tile.size; tile = g.tile.tile };
  a_is = g.a_is;
  b_is = g.b_is;
  a_many = g.a_many;
  b_many = g.b_many;
  a_range = g.a_range;
  b_range = g.b_range;
  links = links_with t w m fed g.links;
}

inbound_with : (w : TileFlow) (m : List Message) (links : List Link) → AreInbound w links → AreInbound (with_taken w m) links
inbound_with w m links l = record { within = l.within; cell_in = l.cell_in; target = l.target; each = l.each; ascends = l.ascends }

outbound_with : (w : TileFlow) (m : List Message) (links : List Link) → AreOutbound w links → AreOutbound (with_taken w m) links
outbound_with w m links l = record { within = l.within; cell_in = l.cell_in; source = l.source; each = l.each; ascends = l.ascends }

-- ---- a message is accepted

pub record Step {A : Type 0} (t : Transport) (rule : Accumulator A) (w : TileFlow) (fed : List (List ℕ)) (s : State A) (inbound outbound : List Link) (queue_room taken_room : ℕ) (x : Message) (cell : ℕ) : Type 0 where
  pub can : CanReceive rule s cell x.flow queue_room
  pub begun : IsWorkBegun t (with_message w x) fed w.a w.b
  pub underway : IsUnderway t rule (with_message w x) (received rule s cell x.flow) (length s.queue)
  pub room_left : length w.taken < taken_room
  pub kept : (after : State A) (more_queue more_taken : ℕ) → IsUnderway t rule (with_message w x) after (length after.queue) → queue_room ≤ more_queue → taken_room ≤ more_taken →
      IsWorkKept t rule (with_message w x) fed after inbound outbound more_queue more_taken

pub step : {A : Type 0} (t : Transport) (rule : Accumulator A) → RuleLaws t rule → (w : TileFlow) (fed : List (List ℕ)) (s : State A) (inbound outbound : List Link) (queue_room taken_room : ℕ) → IsWorkKept t rule w fed s inbound outbound queue_room taken_room → (x : Message) (cell : ℕ) →
    CanAccept t.orient w x → IsLinked inbound x.edge cell → Step t rule w fed s inbound outbound queue_room taken_room x cell
step t rule laws w fed s inbound outbound queue_room taken_room kept x cell can linked =
    let is = kept.begun.tile in
    let low : cell < tile_size w = subst (λ (z : ℕ). z < tile_size w) linked.cell_is (kept.inbound_are.cell_in linked.at linked.within) in
    let target : cell_place w cell ≡ (edge_at w.edges x.edge).target =
    ap (cell_place w) (sym linked.cell_is) ∙ (kept.inbound_are.target linked.at linked.within ∙ ap (λ (z : ℕ). (edge_at w.edges z).target) linked.edge_is) in
    let crosses = crosses_of t w is kept.edges_are kept.taken_within x can cell low target in
    let accepted = accepts t rule laws w is s kept.underway x cell queue_room can crosses kept.room in
    let fresh : was_taken w.taken x.edge ≡ false = not_taken w.taken x.edge can.first in
    let number = linked_number inbound x.edge cell linked in
    let now_taken : was_taken (w.taken ++ x ∷ []) x.edge ≡ true = taken_last w.taken x x.edge ∙ or_true (was_taken w.taken x.edge) (x.edge == x.edge) (eq-eqb x.edge x.edge refl) in
    let less = tally_less (λ e. not (was_taken w.taken e)) (λ e. not (was_taken (w.taken ++ x ∷ []) e)) x.edge (numbers inbound) (numbers_distinct inbound kept.inbound_are.ascends) number (ap not fresh) (ap not now_taken)
    (λ e h ne. ap not (sym (taken_last w.taken x e ∙ or_same (was_taken w.taken e) (x.edge == e) (differ x.edge e (λ same. ne (sym same)))))) in
    let room = kept.room_to_take in
    let long = length-append w.taken (x ∷ []) in
    record {
      can = accepted.can;
      begun = begun_with t w (w.taken ++ x ∷ []) fed w.a w.b kept.begun;
      underway = accepted.underway;
      room_left = omega (arith, less, room);
      kept = λ after more_queue more_taken under wide_queue wide_taken. record {
        begun = begun_with t w (w.taken ++ x ∷ []) fed w.a w.b kept.begun;
        edges_are = kept.edges_are;
        underway = under;
        inbound_are = inbound_with w (w.taken ++ x ∷ []) inbound kept.inbound_are;
        outbound_are = outbound_with w (w.taken ++ x ∷ []) outbound kept.outbound_are;
        taken_within = λ y h. elim (Contains-append_cases w.taken (x ∷ []) y h) as (λ _. y.edge < length w.edges) [
          | inl before ↦ kept.taken_within y before
          | inr now ↦ subst (λ (z : Message). z.edge < length w.edges) (only_one x y now) can.within
        ];
        room = omega (arith, kept.room, wide_queue);
        room_to_take = omega (arith, less, room, long, wide_taken);
      };
    }

-- ---- the same of what the code has

pub state_same : {A : Type 0} (i j : List A) (m n q r : List ℕ) → i ≡ j → m ≡ n → q ≡ r → state i m q ≡ state j n r
state_same i j m n q r one two three = cc

pub underway_with : {A : Type 0} (t : Transport) (rule : Accumulator A) (w : TileFlow) (m n : List Message) (s r : State A) (h k : ℕ) → n ≡ m → r ≡ s → k ≡ h → IsUnderway t rule (with_taken w m) s h → IsUnderway t rule (with_taken w n) r k
underway_with {A = A} t rule w m n s r h k em es eh under =
    subst (λ (z : List Message). IsUnderway t rule (with_taken w z) r k) (sym em) (subst (λ (z : State A). IsUnderway t rule (with_taken w m) z k) (sym es) (subst (λ (z : ℕ). IsUnderway t rule (with_taken w m) s z) (sym eh) under))
