-- An edge is marked as sent.
use Rattle.std.proofs.Common.{◌≡◌, ◌≢◌, ℕ, ◌+◌, ◌<◌, ◌≤◌, List, [], ◌∷◌, ◌++◌, length, refl, sym, ap, subst, ◌∙◌, arith, inl, inr, suc, zero, Bool, true, false, get_or, get_or-set_same, get_or-set_other, length-append, cond}
use Rattle.std.specs.Prelude.{◌==◌, ◌&&◌, ◌||◌, not, Option, Some}
use Rattle.std.specs.List.{Contains, find, range_with_len}
use Rattle.std.proofs.Math.ListN.{set, length-set}
use Rattle.std.proofs.lemmas.Bool.{and_parts, cases_eq, cases_lt, eq-eqb}
use Rattle.std.proofs.lemmas.Bool.Decides.{eqb_tells}
use Rattle.drain_meaning.specs.Rules.{Accumulator}
use Rattle.drain_meaning.specs.Transports.{Transport}
use Rattle.border_channel.specs.Edges.{edge_at}
use Rattle.border_channel.specs.Outbound.{all_sent, is_due, next_due, was_sent}
use Rattle.border_channel.specs.Settled.{is_settled}
use Rattle.border_channel.specs.TileFlows.{TileFlow, in_tile}
use Rattle.flow_task.specs.declared.link.Link.{Link}
use Rattle.flow_task.specs.Works.{TileWork}
use Rattle.flow_task.specs.inside.Kept.{AreUnsent, Ascend, HasLink, IsWorkKept, IsLinkAt, how_many, link_at}
use Rattle.flow_task.specs.inside.States.{State}
use Rattle.flow_task.specs.inside.Underway.{one_if}
use Rattle.flow_task.proofs.Accepting.{agree}
use Rattle.flow_task.proofs.Receiving.{eqb_same}
use Rattle.flow_task.proofs.Sending.{none_unsent, some_unsent}
use Rattle.flow_task.proofs.Settling.{in_range}

-- ---- what is due

-- what a search finds passes the test, and is of the list
found_by : (p : ℕ → Bool) (x : ℕ) (xs : List ℕ) (e : ℕ) (o : Bool) → p x ≡ o → (find p xs ≡ Some e → (p e ≡ true) × Contains xs e) → cond o (Some x) (find p xs) ≡ Some e → (p e ≡ true) × Contains (x ∷ xs) e
found_by p x xs e true on rest h = (let same : x ≡ e = cc h in (ap p (sym same) ∙ on, (0, omega arith, same)))
found_by p x xs e false on rest h = (let r = rest h in (r.0, (suc r.1.0, (let low = r.1.1 in omega arith), r.1.2)))

find_is : (p : ℕ → Bool) (xs : List ℕ) (e : ℕ) → find p xs ≡ Some e → (p e ≡ true) × Contains xs e
find_is p [] e h = cc h
find_is p (x ∷ xs) e h = found_by p x xs e (p x) refl (find_is p xs e) h

-- what is known of the edge that is to be sent next
pub record IsNext (w : TileFlow) (outbound : List Link) (sent : List ℕ) (e : ℕ) : Type 0 where
  pub link : HasLink outbound e
  pub unsent : was_sent sent e ≡ false

off_of : (o : Bool) → not o ≡ true → o ≡ false
off_of true e = cc e
off_of false e = refl

pub next_is : {A : Type 0} (t : Transport) (rule : Accumulator A) (w : TileFlow) (fed : List (List ℕ)) (s : State A) (inbound outbound : List Link) (queue_room taken_room : ℕ) → IsWorkKept t rule w fed s inbound outbound queue_room taken_room → (sent : List ℕ) (e : ℕ) → next_due t.orient w sent ≡ Some e →
    IsNext w outbound sent e
next_is t rule w fed s inbound outbound queue_room taken_room kept sent e found =
    let is = find_is (is_due t.orient w sent) (range_with_len 0 (length w.edges)) e found in
    let both = and_parts (in_tile w (edge_at w.edges e).source && is_settled t.orient w (edge_at w.edges e).source) (not (was_sent sent e)) is.0 in
    let leaves = (and_parts (in_tile w (edge_at w.edges e).source) (is_settled t.orient w (edge_at w.edges e).source) both.0).0 in
    record { link = kept.outbound_are.each e (in_range (length w.edges) e is.1) leaves; unsent = off_of (was_sent sent e) both.1 }

-- ---- how many are still to be sent

how_many_less : (xs : List Bool) (k : ℕ) → k < length xs → get_or xs k false ≡ true → how_many xs ≡ how_many (set xs k false) + 1
how_many_less [] k low on = absurd (omega arith)
how_many_less (x ∷ xs) zero low on = (let one : one_if x ≡ 1 = ap one_if on in omega (arith, one))
how_many_less (x ∷ xs) (suc k) low on = (let rest = how_many_less xs k (omega arith) on in omega (arith, rest))

-- where none is true all are false
how_many_none : (xs : List Bool) → how_many xs ≡ 0 → (k : ℕ) → k < length xs → get_or xs k false ≡ false
how_many_none [] none k low = absurd (omega arith)
how_many_none (true ∷ xs) none k low = absurd (omega (arith, none))
how_many_none (false ∷ xs) none zero low = refl
how_many_none (false ∷ xs) none (suc k) low = how_many_none xs (omega (arith, none)) k (omega arith)

-- else there is one
how_many_some : (xs : List Bool) → 0 < how_many xs → (k : ℕ) × (k < length xs) × (get_or xs k false ≡ true)
how_many_some [] some = absurd (omega arith)
how_many_some (true ∷ xs) some = (0, omega arith, refl)
how_many_some (false ∷ xs) some = (let r = how_many_some xs (omega (arith, some)) in (suc r.0, (let low = r.1 in omega arith), r.2))

-- ---- one more edge is sent

or_again : (a b c : Bool) → (a || (b || c)) ≡ ((a || b) || c)
or_again true b c = refl
or_again false b c = refl

or_false : (a : Bool) → (a || false) ≡ a
or_false true = refl
or_false false = refl

or_on : (a b : Bool) → b ≡ true → (a || b) ≡ true
or_on true b e = refl
or_on false b e = e

or_off : (a b : Bool) → b ≡ false → (a || b) ≡ a
or_off true b e = refl
or_off false b e = e

sent_last : (sent : List ℕ) (e d : ℕ) → was_sent (sent ++ e ∷ []) d ≡ (was_sent sent d || (e == d))
sent_last [] e d = or_false (e == d)
sent_last (x ∷ sent) e d = ap (λ (o : Bool). (x == d) || o) (sent_last sent e d) ∙ or_again (x == d) (was_sent sent d) (e == d)

-- two links have two edges
pub apart_links : (links : List Link) → Ascend links → (i j : ℕ) → i < length links → j < length links → i ≢ j → (link_at links i).edge ≢ (link_at links j).edge
apart_links links a i j low high ne same = elim (cases_lt i j) as (λ _. ⊥) [
  | inl less ↦ (let up = a i j less high in omega (arith, up, same))
  | inr more ↦ (let other : j < i = omega arith in let up = a j i other low in omega (arith, up, same))
]

-- what stays when the edge of a link is marked
pub record Marks (outbound : List Link) (unsent : List Bool) (sent : List ℕ) (room at e : ℕ) : Type 0 where
  pub room_left : length sent < room
  pub within : at < length unsent
  pub after : (more : ℕ) → room ≤ more → AreUnsent outbound (set unsent at false) (sent ++ e ∷ []) more

pub marks : (outbound : List Link) (unsent : List Bool) (sent : List ℕ) (room at e : ℕ) → Ascend outbound → AreUnsent outbound unsent sent room → IsLinkAt outbound e at → was_sent sent e ≡ false → Marks outbound unsent sent room at e
marks outbound unsent sent room at e ascends un here off =
    let low : at < length unsent = omega (arith, here.within, un.many) in
    let on : get_or unsent at false ≡ true = un.is at here.within ∙ ap (λ (y : ℕ). not (was_sent sent y)) here.edge_is ∙ ap not off in
    let less = how_many_less unsent at low on in
    let long = length-append sent (e ∷ []) in
    record {
      room_left = omega (arith, less, un.to_send, un.wide);
      within = low;
      after = λ more wide. record {
        many = length-set unsent at false ∙ un.many;
        is = λ k below. elim (cases_eq k at) as (λ _. get_or (set unsent at false) k false ≡ not (was_sent (sent ++ e ∷ []) (link_at outbound k).edge)) [
          | inl same ↦
              let now : was_sent (sent ++ e ∷ []) (link_at outbound at).edge ≡ true = sent_last sent e (link_at outbound at).edge ∙ or_on (was_sent sent (link_at outbound at).edge) (e == (link_at outbound at).edge) (eq-eqb e (link_at outbound at).edge (sym here.edge_is)) in
              subst (λ (y : ℕ). get_or (set unsent at false) y false ≡ not (was_sent (sent ++ e ∷ []) (link_at outbound y).edge)) (sym same) (get_or-set_same unsent at false false low ∙ sym (ap not now))
          | inr ne ↦
              let other = apart_links outbound ascends k at below here.within ne in
              let test : (e == (link_at outbound k).edge) ≡ false = elim (eqb_tells e (link_at outbound k).edge) as (λ _. (e == (link_at outbound k).edge) ≡ false) [ inl t ↦ absurd (other (sym t.1 ∙ sym here.edge_is)) | inr t ↦ t.0 ] in
              get_or-set_other unsent at k false false ne
              ∙ (un.is k below
              ∙ ap not (sym (sent_last sent e (link_at outbound k).edge ∙ or_off (was_sent sent (link_at outbound k).edge) (e == (link_at outbound k).edge) test)))
        ];
        to_send = omega (arith, less, un.to_send, long);
        wide = omega (arith, un.wide, wide);
      };
    }

-- ---- whether all were sent

-- All were sent exactly where as many were as there are edges out of the tile.
pub sent_count : {A : Type 0} (t : Transport) (rule : Accumulator A) (w : TileFlow) (fed : List (List ℕ)) (s : State A) (inbound outbound : List Link) (unsent : List Bool) (sent : List ℕ) (queue_room taken_room sent_room : ℕ) → IsWorkKept t rule w fed s inbound outbound queue_room taken_room → AreUnsent outbound unsent sent sent_room →
    (length sent == length outbound) ≡ all_sent w sent
sent_count t rule w fed s inbound outbound unsent sent queue_room taken_room sent_room kept un = agree (length sent == length outbound) (all_sent w sent)
    (λ e.
    let many : length sent ≡ length outbound = eqb_same (length sent) (length outbound) e in
    let none : how_many unsent ≡ 0 = omega (arith, many, un.to_send) in
    sym (none_unsent t rule w fed s inbound outbound unsent sent queue_room taken_room sent_room kept un (how_many_none unsent none)))
    (λ all. elim (cases_eq (how_many unsent) 0) as (λ _. (length sent == length outbound) ≡ true) [
      | inl none ↦ eq-eqb (length sent) (length outbound) (omega (arith, none, un.to_send))
      | inr ne ↦
          let some = how_many_some unsent (omega arith) in
          let off = some_unsent t rule w fed s inbound outbound unsent sent queue_room taken_room sent_room kept un some.0 some.1 some.2 in
          absurd (cc (off, all))
    ])

-- what is due of a value is due of what the code has
pub due_moved : {X : Type 0} (due : TileWork X → Option ℕ) (v given : TileWork X) (e : ℕ) → v ≡ given → due given ≡ Some e → due v ≡ Some e
due_moved due v given e same found = ap due same ∙ found
