-- A state that is not finished has an enabled step.
use Rattle.std.proofs.Common.{◌≡◌, ◌≢◌, ℕ, zero, suc, ◌-◌, ◌<◌, ◌≤◌, Bool, true, false, ◌==◌, ◌&&◌, eq-eqb, ne_eqb, ◌⊎◌, inl, inr, ⊎_elim, List, [], ◌∷◌, refl, ap, sym, ◌∙◌, subst, arith}
use mathlib.Core.Logic.{dite}
use native.Mathlib.Decide.{dec_le, ℕ_discrete}
use Rattle.core_model.specs.Graphs.{Feed, inside, over_edge, Graph, In, FeedsWell, NeedsWell, IsSoundGraph, edge_at, from_task, into_task}
use Rattle.core_model.specs.declared.step.Step.{Step}
use Rattle.core_model.specs.declared.step.Step.TheVariants.{Claim, Publish, Send, Take, Park}
use Rattle.core_model.specs.Cores.{Status, ready, held, parked, published, Core, opening}
use Rattle.core_model.specs.inside.Settling.{feed_has_come, is_settled}
use Rattle.core_model.specs.Steps.{worker_of, AllSettled, NoneWaits, Claimable, CanSend, CanTake, Allows, Enabled}
use Rattle.core_model.specs.Runs.{after}
use Rattle.core_model.specs.Laws.{NeverStuck}
use Rattle.core_model.proofs.Find.{bool_cases, find_least, find_lowest, each_in, each_from}
use Rattle.core_model.proofs.Settled.{settled_is, fed_well, taken_into, each_all_fed}
use Rattle.core_model.proofs.Kept.{Kept, opening_kept, run_kept, no_true}

abbrev pub is_empty : List ℕ → Bool
is_empty [] = true
is_empty (x ∷ xs) = false

pub empty_is : (l : List ℕ) → is_empty l ≡ true → l ≡ []
empty_is [] e = refl
empty_is (x ∷ xs) e = no_true (sym e)

pub filled_is : (l : List ℕ) → is_empty l ≡ false → (x : ℕ) × ((xs : List ℕ) × (l ≡ x ∷ xs))
filled_is [] e = no_true e
filled_is (x ∷ xs) e = (x, (xs, refl))

-- a test of two parts
pub both : (a b : Bool) → (a && b) ≡ true → (a ≡ true) × (b ≡ true)
both true b e = (refl, e)
both false b e = no_true (sym e)

pub either_not : (a b : Bool) → (a && b) ≡ false → a ≡ true → b ≡ false
either_not true b e h = e
either_not false b e h = no_true (sym h)

pub both_are : (a b : Bool) → a ≡ true → b ≡ true → (a && b) ≡ true
both_are true b p q = q
both_are false b p q = no_true (sym p)

pub same_eqb : (a b : ℕ) → (a == b) ≡ true → a ≡ b
same_eqb a b e = dite (ℕ_discrete a b) (λ q. q) (λ ne. no_true (sym e ∙ ne_eqb a b ne))

abbrev pub not_b : Bool → Bool
not_b true = false
not_b false = true

pub not_is : (b : Bool) → not_b b ≡ true → b ≡ false
not_is true e = no_true (sym e)
not_is false e = refl

pub not_not : (b : Bool) → not_b b ≡ false → b ≡ true
not_not true e = refl
not_not false e = no_true e

-- a task's edge has a number of its own
own_number : (g : Graph) (t e : ℕ) → g.first_edge t ≤ e → e ≡ edge_at g t (e - g.first_edge t)
own_number g t e le = omega arith

module _ (g : Graph) (sound : IsSoundGraph g) (n : ℕ) (s : Core) (k : Kept g n s) where
  abbrev Moves : ℕ → Type 0
  Moves w = (x : Step) × (worker_of x ≡ w) × Allows g s x

  not_flow : (w t : ℕ) → t < g.tasks → s.status t ≡ held w → g.is_flow t ≡ false → Moves w
  not_flow w t lt h f = (Publish w t, refl, (lt, h, λ y. no_true (sym y ∙ f)))

  waits_at : (w t c : ℕ) → t < g.tasks → s.status t ≡ held w → g.is_flow t ≡ true → g.into c ≡ t → is_empty (s.waiting c) ≡ false → Moves w
  waits_at w t c lt h f i full =
      let l = filled_is (s.waiting c) full in
      let q = k.waits c l.0 (subst (λ (z : List ℕ). In l.0 z) (sym l.1.1) (inl refl)) in
      let e : ℕ = l.0 in
      let here : into_task g e ≡ t = ap g.into q.1 ∙ i in
      let first : g.first_edge t ≤ e = subst (λ z. g.first_edge z ≤ e) here (sound.edges_join e q.0).into_first in
      (Take w t (e - g.first_edge t), refl, subst (CanTake g s w t) (own_number g t e first) (lt, (h, f), q.0, here, (l.1.0, ap s.waiting q.1 ∙ l.1.1)))

  pub holder_moves : (w t : ℕ) → t < g.tasks → s.status t ≡ held w → Moves w
  holder_moves w t lt h = bool_cases (g.is_flow t)
      (λ f. ⊎_elim
      (λ c. let b = both (g.into c.0 == t) (not_b (is_empty (s.waiting c.0))) c.2 in waits_at w t c.0 lt h f (same_eqb (g.into c.0) t b.0) (not_is (is_empty (s.waiting c.0)) b.1))
      (λ none'.
      let empty : NoneWaits g s t = λ c l i. empty_is (s.waiting c) (not_not (is_empty (s.waiting c)) (either_not (g.into c == t) (not_b (is_empty (s.waiting c))) (none' c l) (eq-eqb (g.into c) t i))) in
      ⊎_elim
      (λ e. let b = both (from_task g e.0 == t) (is_settled g s.taken (g.source e.0) && not_b (s.sent e.0)) e.2 in
      let d = both (is_settled g s.taken (g.source e.0)) (not_b (s.sent e.0)) b.1 in
      let here : from_task g e.0 ≡ t = same_eqb (from_task g e.0) t b.0 in
      let first : g.first_edge t ≤ e.0 = subst (λ z. g.first_edge z ≤ e.0) here (sound.edges_join e.0 e.1).from_first in
      (Send w t (e.0 - g.first_edge t), refl, subst (CanSend g s w t) (own_number g t e.0 first) (lt, (h, f), e.1, here, d.0, not_is (s.sent e.0) d.1)))
      (λ all_out.
      let out : (e : ℕ) → e < g.edges → from_task g e ≡ t → is_settled g s.taken (g.source e) ≡ true → s.sent e ≡ true =
      λ e l i st. not_not (s.sent e) (either_not (is_settled g s.taken (g.source e)) (not_b (s.sent e)) (either_not (from_task g e == t) (is_settled g s.taken (g.source e) && not_b (s.sent e)) (all_out e l) (eq-eqb (from_task g e) t i)) st) in
      ⊎_elim
      (λ x. let b = both (g.owner x.0 == t) (not_b (is_settled g s.taken x.0)) x.2 in
      (Park w t, refl, (lt, (h, f), (x.0, x.1, same_eqb (g.owner x.0) t b.0, not_is (is_settled g s.taken x.0) b.1), out, empty)))
      (λ done. let settled : AllSettled g s t = λ x l o. not_not (is_settled g s.taken x) (either_not (g.owner x == t) (not_b (is_settled g s.taken x)) (done x l) (eq-eqb (g.owner x) t o)) in
      (Publish w t, refl, (lt, h, λ _. (settled, λ e l i. out e l i (settled (g.source e) (sound.edges_join e l).source_in ((sound.edges_join e l).source_owner ∙ i))))))
      (find_least g.points (λ x. (g.owner x == t) && not_b (is_settled g s.taken x))))
      (find_least g.edges (λ e. (from_task g e == t) && (is_settled g s.taken (g.source e) && not_b (s.sent e)))))
      (find_least g.channels (λ c. (g.into c == t) && not_b (is_empty (s.waiting c)))))
      (λ f. not_flow w t lt h f)

abbrev is_ready : Status → Bool
is_ready ready = true
is_ready (held w) = false
is_ready parked = false
is_ready published = false

abbrev is_open : Status → Bool
is_open ready = true
is_open (held w) = true
is_open parked = true
is_open published = false

ready_is : (st : Status) → is_ready st ≡ true → st ≡ ready
ready_is ready e = refl
ready_is (held w) e = no_true (sym e)
ready_is parked e = no_true (sym e)
ready_is published e = no_true (sym e)

shut_is : (st : Status) → is_open st ≡ false → st ≡ published
shut_is ready e = no_true e
shut_is (held w) e = no_true e
shut_is parked e = no_true e
shut_is published e = refl

-- of a status: published, parked, ready, or held
status_cases : {A : Type 0} (st : Status) → (st ≡ published → A) → (st ≡ parked → A) → (st ≡ ready → A) → ((w : ℕ) → st ≡ held w → A) → A
status_cases ready p q r h = r refl
status_cases (held w) p q r h = h w refl
status_cases parked p q r h = q refl
status_cases published p q r h = p refl

module _ (g : Graph) (sound : IsSoundGraph g) (n : ℕ) (s : Core) (k : Kept g n s) (idle : (t w : ℕ) → t < g.tasks → s.status t ≢ held w) where
  abbrev Found : Type 0
  Found = (t : ℕ) × (t < g.tasks) × Claimable g s t

  -- u is the least task that is not published
  module _ (u : ℕ) (u_lt : u < g.tasks) (u_open : s.status u ≢ published) (lower : (j : ℕ) → j < u → s.status j ≡ published) where
    o : ℕ
    o = g.operation u

    before : (n : ℕ) → n < g.tasks → g.operation n < g.operation u → s.status n ≡ published
    before n lt less = lower n (dite (dec_le u n) (λ le. let a = sound.ascending u n le lt in absurd (omega arith)) (λ gt. omega arith))

    -- the least ready task of the operation can be claimed
    claim_ready : (r : ℕ) → r < g.tasks → s.status r ≡ ready → g.operation r ≡ g.operation u → ((j : ℕ) → j < r → s.status j ≡ ready → g.operation j ≡ g.operation u → ⊥) → Found
    claim_ready r lt st op least = (r, lt, inl (st, each_from (λ n. s.status n ≡ published) (g.needs r) (λ n i. need n (each_in (NeedsWell g r) (g.needs r) n (sound.needed r lt) i))))
      where
        need : (n : ℕ) → NeedsWell g r n → s.status n ≡ published
        need n w =
            let n_lt : n < g.tasks = (let a = w.0 in omega arith) in
            ⊎_elim (λ less. before n n_lt (let q = op in omega arith))
            (λ same. status_cases (s.status n) (λ p. p) (λ p. no_true (sym (k.parks n n_lt p).0 ∙ same.1)) (λ p. absurd (least n w.0 p (same.0 ∙ op))) (λ v p. absurd (idle n v n_lt p)))
            w.1

    -- no task of the operation is ready: a parked one has a message
    module _ (none_ready : (j : ℕ) → j < g.tasks → g.operation j ≡ g.operation u → s.status j ≢ ready) where
      -- each task of the operation is parked or published
      stands : {A : Type 0} → (j : ℕ) → j < g.tasks → g.operation j ≡ g.operation u → (s.status j ≡ published → A) → (s.status j ≡ parked → A) → A
      stands j lt op p q = status_cases (s.status j) p q (λ r. absurd (none_ready j lt op r)) (λ w h. absurd (idle j w lt h))

      claim_parked : (c : ℕ) → c < g.channels → g.operation (g.into c) ≡ g.operation u → is_empty (s.waiting c) ≡ false → Found
      claim_parked c lt op full =
          let l = filled_is (s.waiting c) full in
          let e : ℕ = l.0 in
          let q = k.waits c e (subst (λ (z : List ℕ). In e z) (sym l.1.1) (inl refl)) in
          let j = sound.channels_join c lt in
          let t = sound.edges_join e q.0 in
          stands (g.into c) j.into_in op
          (λ p. let done = (k.ends (g.into c) j.into_in j.into_flow p).0 (g.target e) t.target_in (t.target_owner ∙ ap g.into q.1) in no_true (sym (taken_into g sound s.taken e q.0 done) ∙ q.3))
          (λ p. (g.into c, j.into_in, inr (p, (c, lt, refl, λ none'. absurd (let z : e ∷ l.1.0 ≡ [] = sym l.1.1 ∙ none' in cc)))))

      -- if no message of the operation waits, all its points are settled
      fed_now : ((c : ℕ) → c < g.channels → g.operation (g.into c) ≡ g.operation u → s.waiting c ≡ []) → (x : ℕ) → x < g.points → g.owner x < g.tasks → g.operation (g.owner x) ≡ g.operation u
          → ((d : ℕ) → d < g.points → g.operation (g.owner d) ≡ g.operation u → g.load d < g.load x → is_settled g s.taken d ≡ true) → (f : Feed) → FeedsWell g x f → feed_has_come s.taken (is_settled g s.taken) f ≡ true
      fed_now empty x lt own op low (inside d) w = low d w.0 (ap g.operation w.1 ∙ op) w.2
      fed_now empty x lt own op low (over_edge e) w =
          let c : ℕ = g.channel_of e in
          let both_ends = sound.edges_join e w.0 in
          let c_lt = both_ends.channel_in in
          let j = sound.channels_join c c_lt in
          let into_op : g.operation (g.into c) ≡ g.operation u = ap g.operation (sym both_ends.target_owner ∙ ap g.owner w.1) ∙ op in
          let from_op : g.operation (g.from c) ≡ g.operation u = j.same ∙ into_op in
          let src_settled : is_settled g s.taken (g.source e) ≡ true = low (g.source e) both_ends.source_in (ap g.operation both_ends.source_owner ∙ from_op) w.2 in
          let sent : s.sent e ≡ true = stands (g.from c) j.from_in from_op (λ p. (k.ends (g.from c) j.from_in j.from_flow p).1 e w.0 refl) (λ p. (k.parks (g.from c) j.from_in p).2 e w.0 refl src_settled) in
          bool_cases (s.taken e) (λ y. y) (λ n. let i = k.lies e w.0 sent n in absurd (subst (λ (z : List ℕ). In e z) (empty c c_lt into_op) i))

      abbrev here : ℕ → Bool
      here x = (g.operation (g.owner x) == g.operation u) && not_b (is_settled g s.taken x)

      nothing_waits : ((c : ℕ) → c < g.channels → g.operation (g.into c) ≡ g.operation u → s.waiting c ≡ []) → (x : ℕ) → x < g.points → g.owner x < g.tasks → g.operation (g.owner x) ≡ g.operation u → is_settled g s.taken x ≡ false
          → ((j : ℕ) → j < g.points → here j ≡ true → g.load x ≤ g.load j) → ⊥
      nothing_waits empty x lt own op unsettled least =
          let low : (d : ℕ) → d < g.points → g.operation (g.owner d) ≡ g.operation u → g.load d < g.load x → is_settled g s.taken d ≡ true =
          λ d l q less. bool_cases (is_settled g s.taken d) (λ y. y) (λ n. let le = least d l (both_are (g.operation (g.owner d) == g.operation u) (not_b (is_settled g s.taken d)) (eq-eqb (g.operation (g.owner d)) (g.operation u) q) (ap not_b n)) in absurd (omega arith)) in
          let fed_all = each_all_fed (feed_has_come s.taken (is_settled g s.taken)) (g.feeds x) (each_from _ (g.feeds x) (λ f i. fed_now empty x lt own op low f (fed_well g sound x f lt i))) in
          no_true (sym (settled_is g sound s.taken x lt ∙ fed_all) ∙ unsettled)

      claim_some : Found
      claim_some =
          ⊎_elim
          (λ c. let b = both (g.operation (g.into c.0) == g.operation u) (not_b (is_empty (s.waiting c.0))) c.2 in claim_parked c.0 c.1 (same_eqb (g.operation (g.into c.0)) (g.operation u) b.0) (not_is (is_empty (s.waiting c.0)) b.1))
          (λ none'.
          let empty : (c : ℕ) → c < g.channels → g.operation (g.into c) ≡ g.operation u → s.waiting c ≡ [] =
          λ c l q. empty_is (s.waiting c) (not_not (is_empty (s.waiting c)) (either_not (g.operation (g.into c) == g.operation u) (not_b (is_empty (s.waiting c))) (none' c l) (eq-eqb (g.operation (g.into c)) (g.operation u) q))) in
          stands u u_lt refl (λ p. absurd (u_open p))
          (λ p. let x0 = (k.parks u u_lt p).1 in
          ⊎_elim
          (λ x. let b = both (g.operation (g.owner x.0) == g.operation u) (not_b (is_settled g s.taken x.0)) x.2 in
          absurd (nothing_waits empty x.0 x.1 (sound.owned x.0 x.1) (same_eqb (g.operation (g.owner x.0)) (g.operation u) b.0) (not_is (is_settled g s.taken x.0) b.1) x.3))
          (λ none_here. no_true (sym (both_are (g.operation (g.owner x0.0) == g.operation u) (not_b (is_settled g s.taken x0.0)) (eq-eqb (g.operation (g.owner x0.0)) (g.operation u) (ap g.operation x0.2)) (ap not_b x0.3)) ∙ none_here x0.0 x0.1))
          (find_lowest g.points here g.load)))
          (find_least g.channels (λ c. (g.operation (g.into c) == g.operation u) && not_b (is_empty (s.waiting c))))

    found_at : Found
    found_at =
        ⊎_elim
        (λ r. let b = both (is_ready (s.status r.0)) (g.operation r.0 == g.operation u) r.2 in
        claim_ready r.0 r.1 (ready_is (s.status r.0) b.0) (same_eqb (g.operation r.0) (g.operation u) b.1)
        (λ j less st op. no_true (sym (both_are (is_ready (s.status j)) (g.operation j == g.operation u) (ap is_ready st) (eq-eqb (g.operation j) (g.operation u) op)) ∙ r.3 j less)))
        (λ none'. claim_some (λ j lt op st. no_true (sym (both_are (is_ready (s.status j)) (g.operation j == g.operation u) (ap is_ready st) (eq-eqb (g.operation j) (g.operation u) op)) ∙ none' j lt)))
        (find_least g.tasks (λ t. is_ready (s.status t) && (g.operation t == g.operation u)))

  pub task_found : (t : ℕ) → t < g.tasks → s.status t ≢ published → Found
  task_found t lt open' =
      ⊎_elim
      (λ u. found_at u.0 u.1 (λ p. no_true (sym u.2 ∙ ap is_open p)) (λ j less. shut_is (s.status j) (u.3 j less)))
      (λ none'. absurd (open' (shut_is (s.status t) (none' t lt))))
      (find_least g.tasks (λ t. is_open (s.status t)))

-- a held task and its holder, or nobody holds one
find_holder : (n : ℕ) (status : ℕ → Status) → ((t : ℕ) × ((w : ℕ) × (t < n) × (status t ≡ held w))) ⊎ ((t w : ℕ) → t < n → status t ≢ held w)
find_holder zero status = inr (λ t w lt. absurd (omega arith))
find_holder (suc n) status = ⊎_elim
    (λ f. inl (f.0, (f.1.0, (let h = f.1.1 in omega arith), f.1.2)))
    (λ none'. status_cases (status n)
    (λ p. inr (λ t w lt h. dite (ℕ_discrete t n) (λ e. let z : published ≡ held w = sym p ∙ ap status (sym e) ∙ h in cc) (λ ne. none' t w (omega arith) h)))
    (λ p. inr (λ t w lt h. dite (ℕ_discrete t n) (λ e. let z : parked ≡ held w = sym p ∙ ap status (sym e) ∙ h in cc) (λ ne. none' t w (omega arith) h)))
    (λ p. inr (λ t w lt h. dite (ℕ_discrete t n) (λ e. let z : ready ≡ held w = sym p ∙ ap status (sym e) ∙ h in cc) (λ ne. none' t w (omega arith) h)))
    (λ w h. inl (n, (w, omega arith, h))))
    (find_holder n status)

module _ (g : Graph) (n : ℕ) (sound : IsSoundGraph g) (s : Core) (k : Kept g n s) where
  pub holder_enabled : (w t : ℕ) → t < g.tasks → s.status t ≡ held w → (x : Step) × (worker_of x ≡ w) × Enabled g s n x
  holder_enabled w t lt h = let m = holder_moves g sound n s k w t lt h in (m.0, m.1, (subst (λ z. z ≤ n) (sym m.1) (k.holders t w h), m.2))

  pub idle_enabled : ((t : ℕ) × (t < g.tasks) × (s.status t ≢ published)) → ((t w : ℕ) → t < g.tasks → s.status t ≢ held w)
      → (t : ℕ) × (t < g.tasks) × ((w : ℕ) → w ≤ n → Enabled g s n (Claim w t))
  idle_enabled unfinished idle = let f = task_found g sound n s k idle unfinished.0 unfinished.1 unfinished.2 in (f.0, f.1, λ w le. (le, (f.1, (λ t lt. idle t w lt), f.2)))

pub never_stuck : NeverStuck
never_stuck g n xs sound legal unfinished =
    let k = run_kept g n sound opening xs (opening_kept g n) legal in
    let s : Core = after g xs in
    record {
      holder = λ w t lt h. holder_enabled g n sound s k w t lt h;
      idle = λ idle. idle_enabled g n sound s k unfinished idle;
      some = ⊎_elim
          (λ f. let m = holder_enabled g n sound s k f.1.0 f.0 f.1.1 f.1.2 in (m.0, m.2))
          (λ none'. let c = idle_enabled g n sound s k unfinished none' in (Claim 0 c.0, c.2 0 (omega arith)))
          (find_holder g.tasks s.status);
    }
