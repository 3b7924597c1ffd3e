-- What each step makes of the marks.
use Rattle.std.proofs.Common.{◌≡◌, ◌≢◌, ℕ, suc, ◌+◌, ◌-◌, ◌<◌, ◌≤◌, Bool, true, false, ◌==◌, eq-eqb, ne_eqb, ◌⊎◌, inl, inr, ⊎_elim, List, [], ◌∷◌, ◌++◌, length, get_or, set, Option, Some, None}
use Rattle.std.proofs.Common.{refl, ap, sym, ◌∙◌, subst, arith, get_or-set_other, get_or-set_same}
use Rattle.std.proofs.lemmas.List.{length-set}
use mathlib.Core.Logic.{dite}
use native.Mathlib.Decide.{dec_le, ℕ_discrete}
use Rattle.core_model.specs.Counts.{flag}
use Rattle.core_model.specs.Graphs.{Graph, Each, In}
use Rattle.core_model.specs.Cores.{Status, ready, held, parked, published, Core, upd, opening}
use Rattle.core_model.specs.Steps.{HoldsNone, Claimable, NoneWaits, SomeWaits, rest_of, effect, sent_on, taken_in}
use Rattle.core_model.specs.Runs.{BegunHaveNeeds}
use Rattle.core_model.specs.declared.step.Step.TheVariants.{Claim, Publish, Park, PutDown}
use Rattle.core_model.proofs.Callers.{upd_same, upd_other, upd_cases, each_in, each_from}
use Rattle.task_states.specs.declared.states.TaskState.{TaskState}
use Rattle.task_states.specs.declared.states.TaskState.TheVariants.{Ready, Held, Parked, Due, Published}
use Rattle.number_lists.specs.Turned.{times}
use Rattle.task_states.specs.States.{shown_status, state_at, held_by, due, unpublished, unmet_of, Waits, ShowsCore, ReadsIt, CountsNeeds}
use Rattle.task_states.proofs.ListLemmas.{set_all, times_front, times_last_same, times_last_other, each_last, each_snoc, in_times, times_in, room_for}

-- a task that can be claimed is ready with all its needs published, or due
pub due_cases : (st : TaskState) (u : ℕ) → 1 ≤ due st u → ((st ≡ Ready) × (u ≡ 0)) ⊎ (st ≡ Due)
due_cases Ready u h = dite (ℕ_discrete u 0) (λ e. inl (refl, e)) (λ ne. let q : flag (u == 0) ≡ 0 = ap flag (ne_eqb u 0 ne) in absurd (omega arith))
due_cases (Held w) u h = absurd (omega arith)
due_cases Parked u h = absurd (omega arith)
due_cases Due u h = inr refl
due_cases Published u h = absurd (omega arith)

pub due_most : (st : TaskState) (u : ℕ) → due st u ≤ 1
due_most Ready u = elim (u == 0) as (λ b. flag b ≤ 1) [ true ↦ omega arith | false ↦ omega arith ]
due_most (Held w) u = omega arith
due_most Parked u = omega arith
due_most Due u = omega arith
due_most Published u = omega arith

unpublished_none : (st : Status) → unpublished st ≡ 0 → st ≡ published
unpublished_none ready e = absurd (omega arith)
unpublished_none (held w) e = absurd (omega arith)
unpublished_none parked e = absurd (omega arith)
unpublished_none published e = refl

-- no need is unpublished
pub unmet_none : (status : ℕ → Status) (ns : List ℕ) → unmet_of status ns ≡ 0 → Each (λ n. status n ≡ published) ns
unmet_none status [] e = tt
unmet_none status (n ∷ ns) e = (unpublished_none (status n) (omega arith), unmet_none status ns (omega arith))

pub none_unmet : (status : ℕ → Status) (ns : List ℕ) → Each (λ n. status n ≡ published) ns → unmet_of status ns ≡ 0
none_unmet status [] e = refl
none_unmet status (n ∷ ns) e = let q : unpublished (status n) ≡ 0 = ap unpublished e.0 in let r = none_unmet status ns e.1 in omega arith

-- a status is written over by one that is published where it was, or not where it wasn't
pub unmet_same : (status : ℕ → Status) (t : ℕ) (st : Status) (ns : List ℕ) → unpublished st ≡ unpublished (status t) → unmet_of (upd status t st) ns ≡ unmet_of status ns
unmet_same status t st [] e = refl
unmet_same status t st (n ∷ ns) e =
    let r = unmet_same status t st ns e in
    let q : unpublished (upd status t st n) ≡ unpublished (status n) = upd_cases (λ (z : Status). unpublished z ≡ unpublished (status n)) status t n st (λ i. e ∙ ap (λ k. unpublished (status k)) (sym i)) (λ _. refl) in omega arith

status_is : {g : Graph} {n : ℕ} {s : Core} {states : List TaskState} {unmet claimable : List ℕ} {holding : List (Option ℕ)} {put_downs : List Bool} (h : ShowsCore g n s states unmet claimable holding put_downs) (t : ℕ) (st : TaskState) → t < g.tasks → state_at states t ≡ st → s.status t ≡ shown_status st
status_is h t st lt e = sym (h.states t lt) ∙ ap shown_status e

-- a task that stands among those that can be claimed can be claimed
pub can_claim : (g : Graph) (n : ℕ) (s : Core) (states : List TaskState) (unmet claimable : List ℕ) (holding : List (Option ℕ)) (put_downs : List Bool) → ShowsCore g n s states unmet claimable holding put_downs → (t : ℕ) → t < g.tasks → 1 ≤ times t claimable → Claimable g s t
can_claim g n s states unmet claimable holding put_downs h t lt one = ⊎_elim
    (λ r. inl (status_is h t Ready lt r.0, unmet_none s.status (g.needs t) (sym (h.unmet t lt) ∙ r.1)))
    (λ d. inr (status_is h t Due lt d, subst (Waits g s t) d (h.waits t lt)))
    (due_cases (state_at states t) (get_or unmet t 0) (let e = h.claimable t lt in omega arith))

-- a task that can be claimed isn't published and isn't held
claimable_open : (g : Graph) (s : Core) (t : ℕ) → Claimable g s t → (unpublished (s.status t) ≡ 1) × ((w : ℕ) → s.status t ≢ held w)
claimable_open g s t c = ⊎_elim
    (λ r. (ap unpublished r.0, λ w e. let z : ready ≡ held w = sym r.0 ∙ e in cc))
    (λ r. (ap unpublished r.0, λ w e. let z : parked ≡ held w = sym r.0 ∙ e in cc)) c

pub claimed : (g : Graph) (n : ℕ) (s : Core) (states : List TaskState) (unmet rest : List ℕ) (holding : List (Option ℕ)) (put_downs : List Bool) (w t : ℕ)
    → ShowsCore g n s states unmet (rest ++ t ∷ []) holding put_downs → w ≤ n → HoldsNone g s w
    → (t < g.tasks) × Claimable g s t × ShowsCore g n (effect g s (Claim w t)) (set states t (Held w)) unmet rest (set holding w (Some t)) put_downs
claimed g n s states unmet rest holding put_downs w t h le none' =
    let both = each_last (λ k. k < g.tasks) rest t h.claimable_in in
    let lt : t < g.tasks = both.1 in
    let inside : t < length states = (let a = h.all_states in omega arith) in
    let room : w < length holding = (let a = h.all_holding in omega arith) in
    let twice = times_last_same t rest in
    let was = h.claimable t lt in
    let most = due_most (state_at states t) (get_or unmet t 0) in
    let can = can_claim g n s states unmet (rest ++ t ∷ []) holding put_downs h t lt (omega arith) in
    let open' = claimable_open g s t can in (
      lt,
      can,
      record {
        all_states = length-set states t (Held w) ∙ h.all_states;
        states = set_all states Ready g.tasks t (Held w) (λ u st. shown_status st ≡ upd s.status t (held w) u) inside (sym (upd_same s.status t (held w))) (λ u u_lt ne. h.states u u_lt ∙ sym (upd_other s.status t u (held w) ne));
        waits = set_all states Ready g.tasks t (Held w) (λ u st. Waits g s u st) inside tt (λ u u_lt ne. h.waits u u_lt);
        all_unmet = h.all_unmet;
        unmet = λ u u_lt. h.unmet u u_lt ∙ sym (unmet_same s.status t (held w) (g.needs u) (sym open'.0));
        claimable_in = both.0;
        claimable = set_all states Ready g.tasks t (Held w) (λ u st. times u rest ≡ due st (get_or unmet u 0)) inside (omega arith) (λ u u_lt ne. sym (times_last_other u t rest ne) ∙ h.claimable u u_lt);
        all_holding = length-set holding w (Some t) ∙ h.all_holding;
        holding = λ v u e. dite (ℕ_discrete v w)
            (λ q. let same : Some u ≡ Some t = sym e ∙ ap (held_by (set holding w (Some t))) q ∙ get_or-set_same holding w (Some t) None room in
            let u_t : u ≡ t = cc in
            (subst (λ z. z < g.tasks) (sym u_t) lt, ap (upd s.status t (held w)) u_t ∙ upd_same s.status t (held w) ∙ ap held (sym q)))
            (λ ne. let old = h.holding v u (sym (get_or-set_other holding w v (Some t) None ne) ∙ e) in
            (old.0, upd_other s.status t u (held w) (λ q. open'.1 v (ap s.status (sym q) ∙ old.1)) ∙ old.1));
        held = λ v u u_lt. upd_cases (λ (z : Status). z ≡ held v → held_by (set holding w (Some t)) v ≡ Some u) s.status t u (held w)
            (λ q e. let v_w : v ≡ w = (let z : held w ≡ held v = e in cc) in ap (held_by (set holding w (Some t))) v_w ∙ get_or-set_same holding w (Some t) None room ∙ ap Some (sym q))
            (λ ne e. get_or-set_other holding w v (Some t) None (λ q. none' u u_lt (e ∙ ap held q)) ∙ h.held v u u_lt e);
        all_put_downs = h.all_put_downs;
        put_downs = h.put_downs;
      },
    )

is_ready : (st : TaskState) → shown_status st ≡ ready → st ≡ Ready
is_ready Ready e = refl
is_ready (Held w) e = absurd (cc)
is_ready Parked e = absurd (cc)
is_ready Due e = absurd (cc)
is_ready Published e = absurd (cc)

is_held : (st : TaskState) (w : ℕ) → shown_status st ≡ held w → st ≡ Held w
is_held Ready w e = absurd (cc)
is_held (Held v) w e = let q : v ≡ w = cc in ap Held q
is_held Parked w e = absurd (cc)
is_held Due w e = absurd (cc)
is_held Published w e = absurd (cc)

pub unmet_published : (status : ℕ → Status) (t : ℕ) (ns : List ℕ) → unpublished (status t) ≡ 1 → unmet_of (upd status t published) ns + times t ns ≡ unmet_of status ns
unmet_published status t [] e = refl
unmet_published status t (n ∷ ns) e =
    let r = unmet_published status t ns e in
    let q : unpublished (upd status t published n) + flag (n == t) ≡ unpublished (status n) = dite (ℕ_discrete n t)
    (λ i. let a : unpublished (upd status t published n) ≡ 0 = ap (λ k. unpublished (upd status t published k)) i ∙ ap unpublished (upd_same status t published) in
    let b : flag (n == t) ≡ 1 = ap flag (eq-eqb n t i) in let d : unpublished (status n) ≡ 1 = ap (λ k. unpublished (status k)) i ∙ e in omega arith)
    (λ ne. let a : unpublished (upd status t published n) ≡ unpublished (status n) = ap unpublished (upd_other status t n published ne) in let b : flag (n == t) ≡ 0 = ap flag (ne_eqb n t ne) in omega arith) in
    let f = times_front t n ns in omega arith

module _ (g : Graph) (n : ℕ) (s : Core) (ss : List TaskState) (us cs : List ℕ) (hs : List (Option ℕ)) (ps : List Bool) (h : ShowsCore g n s ss us cs hs ps) where
  -- what is held by whom, once the worker w let go of the task t
  holding_left : (w t : ℕ) (st : Status) → w ≤ n → t < g.tasks → s.status t ≡ held w → ((v : ℕ) → st ≢ held v)
      → (v u : ℕ) → held_by (set hs w None) v ≡ Some u → (u < g.tasks) × (upd s.status t st u ≡ held v)
  holding_left w t st le lt is open' v u e = dite (ℕ_discrete v w)
      (λ q. absurd (let room : w < length hs = (let a = h.all_holding in omega arith) in let z : None ≡ Some u = sym (get_or-set_same hs w None None room) ∙ ap (held_by (set hs w None)) (sym q) ∙ e in cc))
      (λ ne. let old = h.holding v u (sym (get_or-set_other hs w v None None ne) ∙ e) in
      (old.0, upd_other s.status t u st (λ q. ne (let z : held v ≡ held w = sym old.1 ∙ ap s.status q ∙ is in cc)) ∙ old.1))

  held_left : (w t : ℕ) (st : Status) → t < g.tasks → s.status t ≡ held w → ((v : ℕ) → st ≢ held v)
      → (v u : ℕ) → u < g.tasks → upd s.status t st u ≡ held v → held_by (set hs w None) v ≡ Some u
  held_left w t st lt is open' v u u_lt = upd_cases (λ (z : Status). z ≡ held v → held_by (set hs w None) v ≡ Some u) s.status t u st
      (λ q e. absurd (open' v e))
      (λ ne e. get_or-set_other hs w v None None (λ q. ne (let z : Some u ≡ Some t = sym (h.held v u u_lt e) ∙ ap (held_by hs) q ∙ h.held w t lt is in cc)) ∙ h.held v u u_lt e)

  inside_states : (t : ℕ) → t < g.tasks → t < length ss
  inside_states t lt = let a = h.all_states in omega arith

  -- a held task is not among those that can be claimed
  not_claimable : (w t : ℕ) → t < g.tasks → s.status t ≡ held w → times t cs ≡ 0
  not_claimable w t lt is = h.claimable t lt ∙ ap (λ st. due st (get_or us t 0)) (is_held (state_at ss t) w (h.states t lt ∙ is))

  -- a state is written over
  states_set : (t : ℕ) (st : TaskState) → t < g.tasks → (u : ℕ) → u < g.tasks → shown_status (state_at (set ss t st) u) ≡ upd s.status t (shown_status st) u
  states_set t st lt = set_all ss Ready g.tasks t st (λ u z. shown_status z ≡ upd s.status t (shown_status st) u) (inside_states t lt) (sym (upd_same s.status t (shown_status st))) (λ u u_lt ne. h.states u u_lt ∙ sym (upd_other s.status t u (shown_status st) ne))

  pub put_down_shown : (w t : ℕ) → BegunHaveNeeds g s → w ≤ n → t < g.tasks → s.status t ≡ held w → ShowsCore g n (effect g s (PutDown w t)) (set ss t Ready) us (cs ++ t ∷ []) (set hs w None) (set ps w true)
  put_down_shown w t b le lt is =
      let no_need : get_or us t 0 ≡ 0 = h.unmet t lt ∙ none_unmet s.status (g.needs t) (each_from _ (g.needs t) (λ k i. b.needs t lt (λ q. absurd (let z : held w ≡ ready = sym is ∙ q in cc)) k i)) in
      record {
        all_states = length-set ss t Ready ∙ h.all_states;
        states = states_set t Ready lt;
        waits = set_all ss Ready g.tasks t Ready (λ u st. Waits g s u st) (inside_states t lt) tt (λ u u_lt ne. h.waits u u_lt);
        all_unmet = h.all_unmet;
        unmet = λ u u_lt. h.unmet u u_lt ∙ sym (unmet_same s.status t ready (g.needs u) (sym (ap unpublished is)));
        claimable_in = each_snoc (λ k. k < g.tasks) cs t h.claimable_in lt;
        claimable = set_all ss Ready g.tasks t Ready (λ u st. times u (cs ++ t ∷ []) ≡ due st (get_or us u 0)) (inside_states t lt)
            (let z = not_claimable w t lt is in let y = times_last_same t cs in let q : flag (get_or us t 0 == 0) ≡ 1 = ap flag (eq-eqb (get_or us t 0) 0 no_need) in omega arith)
            (λ u u_lt ne. times_last_other u t cs ne ∙ h.claimable u u_lt);
        all_holding = length-set hs w None ∙ h.all_holding;
        holding = holding_left w t ready le lt is (λ v e. let z : ready ≡ held v = e in cc);
        held = held_left w t ready lt is (λ v e. let z : ready ≡ held v = e in cc);
        all_put_downs = length-set ps w true ∙ h.all_put_downs;
        put_downs = λ v v_le. set_all ps false (suc n) w true (λ u z. z ≡ upd s.has_put_down w true u) (let a = h.all_put_downs in omega arith) (sym (upd_same s.has_put_down w true)) (λ u u_lt ne. h.put_downs u (omega arith) ∙ sym (upd_other s.has_put_down w u true ne)) v (omega arith);
      }

  pub park_shown : (w t : ℕ) → w ≤ n → t < g.tasks → s.status t ≡ held w → NoneWaits g s t → ShowsCore g n (effect g s (Park w t)) (set ss t Parked) us cs (set hs w None) ps
  park_shown w t le lt is none' = record {
    all_states = length-set ss t Parked ∙ h.all_states;
    states = states_set t Parked lt;
    waits = set_all ss Ready g.tasks t Parked (λ u st. Waits g s u st) (inside_states t lt) none' (λ u u_lt ne. h.waits u u_lt);
    all_unmet = h.all_unmet;
    unmet = λ u u_lt. h.unmet u u_lt ∙ sym (unmet_same s.status t parked (g.needs u) (sym (ap unpublished is)));
    claimable_in = h.claimable_in;
    claimable = set_all ss Ready g.tasks t Parked (λ u st. times u cs ≡ due st (get_or us u 0)) (inside_states t lt) (not_claimable w t lt is) (λ u u_lt ne. h.claimable u u_lt);
    all_holding = length-set hs w None ∙ h.all_holding;
    holding = holding_left w t parked le lt is (λ v e. let z : parked ≡ held v = e in cc);
    held = held_left w t parked lt is (λ v e. let z : parked ≡ held v = e in cc);
    all_put_downs = h.all_put_downs;
    put_downs = h.put_downs;
  }

  -- a reader of the task is ready
  pub readers_ready : (w t : ℕ) (rs : List ℕ) → BegunHaveNeeds g s → t < g.tasks → s.status t ≡ held w → ReadsIt g t rs → Each (λ r. (r < g.tasks) × (state_at (set ss t Published) r ≡ Ready)) rs
  readers_ready w t rs b lt is reads = each_from _ rs (λ r i.
      let r_lt = each_in (λ k. k < g.tasks) rs r reads.0 i in
      let needs_it : In t (g.needs r) = in_times t (g.needs r) (let a = reads.1 r r_lt in let o = times_in r rs i in omega arith) in
      let at : s.status r ≡ ready = ready_or (s.status r) (λ begun. let z : held w ≡ published = sym is ∙ b.needs r r_lt begun t needs_it in cc) in
      (r_lt, get_or-set_other ss t r Published Ready (λ q. let z : ready ≡ held w = sym at ∙ ap s.status q ∙ is in cc) ∙ is_ready (state_at ss r) (h.states r r_lt ∙ at)))
    where
      ready_or : (st : Status) → (st ≢ ready → ⊥) → st ≡ ready
      ready_or ready k = refl
      ready_or (held v) k = absurd (k (λ e. let z : held v ≡ ready = e in cc))
      ready_or parked k = absurd (k (λ e. let z : parked ≡ ready = e in cc))
      ready_or published k = absurd (k (λ e. let z : published ≡ ready = e in cc))

  -- it lacks the task as often as it reads it
  pub readers_owed : (w t : ℕ) (rs : List ℕ) → t < g.tasks → s.status t ≡ held w → ReadsIt g t rs → (r : ℕ) → times r rs ≤ get_or us r 0
  readers_owed w t rs lt is reads r = dite (dec_le (suc r) g.tasks)
      (λ le. let q = reads.1 r (omega arith) in let p = unmet_published s.status t (g.needs r) (ap unpublished is) in let u = h.unmet r (omega arith) in omega arith)
      (λ gt. let z : times r rs ≡ 0 = none_above g.tasks r rs (omega arith) reads.0 in omega arith)
    where
      none_above : (n r : ℕ) (xs : List ℕ) → n ≤ r → Each (λ k. k < n) xs → times r xs ≡ 0
      none_above n r [] le e = refl
      none_above n r (x ∷ xs) le e = let a = none_above n r xs le e.1 in let l = e.0 in let q : flag (x == r) ≡ 0 = ap flag (ne_eqb x r (λ z. absurd (omega arith))) in let f = times_front r x xs in omega arith

  -- those that can be claimed, with the task no longer held
  pub due_published : (w t : ℕ) → t < g.tasks → s.status t ≡ held w → (u : ℕ) → u < g.tasks → times u cs ≡ due (state_at (set ss t Published) u) (get_or us u 0)
  due_published w t lt is = set_all ss Ready g.tasks t Published (λ u st. times u cs ≡ due st (get_or us u 0)) (inside_states t lt) (not_claimable w t lt is) (λ u u_lt ne. h.claimable u u_lt)

  pub publish_shown : (w t : ℕ) (rs us' cs' : List ℕ) → w ≤ n → t < g.tasks → s.status t ≡ held w → ReadsIt g t rs → length us' ≡ length us
      → ((r : ℕ) → get_or us' r 0 + times r rs ≡ get_or us r 0) → ((u : ℕ) → u < g.tasks → times u cs' ≡ due (state_at (set ss t Published) u) (get_or us' u 0)) → Each (λ k. k < g.tasks) cs'
      → ShowsCore g n (effect g s (Publish w t)) (set ss t Published) us' cs' (set hs w None) ps
  publish_shown w t rs us' cs' le lt is reads len unmet' due' within = record {
    all_states = length-set ss t Published ∙ h.all_states;
    states = states_set t Published lt;
    waits = set_all ss Ready g.tasks t Published (λ u st. Waits g s u st) (inside_states t lt) tt (λ u u_lt ne. h.waits u u_lt);
    all_unmet = len ∙ h.all_unmet;
    unmet = λ u u_lt. let a = unmet' u in let q = reads.1 u u_lt in let p = unmet_published s.status t (g.needs u) (ap unpublished is) in let o = h.unmet u u_lt in omega arith;
    claimable_in = within;
    claimable = due';
    all_holding = length-set hs w None ∙ h.all_holding;
    holding = holding_left w t published le lt is (λ v e. let z : published ≡ held v = e in cc);
    held = held_left w t published lt is (λ v e. let z : published ≡ held v = e in cc);
    all_put_downs = h.all_put_downs;
    put_downs = h.put_downs;
  }

  -- there is room for one more that can be claimed
  pub room_more : (t : ℕ) → t < g.tasks → times t cs ≡ 0 → length cs < g.tasks
  room_more t lt none' = room_for g.tasks cs t h.claimable_in lt none' (λ u u_lt. let c = h.claimable u u_lt in let m = due_most (state_at ss u) (get_or us u 0) in omega arith)

  pub not_held : (w t : ℕ) → t < g.tasks → s.status t ≡ held w → times t cs ≡ 0
  not_held w t lt is = not_claimable w t lt is

  pub not_parked : (t : ℕ) → t < g.tasks → state_at ss t ≡ Parked → times t cs ≡ 0
  not_parked t lt at = h.claimable t lt ∙ ap (λ st. due st (get_or us t 0)) at

  -- a message is sent on the edge
  snoc_some : (l : List ℕ) (e : ℕ) → (l ++ e ∷ []) ≢ []
  snoc_some [] e q = let z : e ∷ [] ≡ [] = q in cc
  snoc_some (x ∷ xs) e q = let z : x ∷ (xs ++ e ∷ []) ≡ [] = q in cc

  waits_sent : (e u : ℕ) (st : TaskState) → g.into (g.channel_of e) ≢ u → Waits g s u st → Waits g (sent_on g s e) u st
  waits_sent e u Ready ne k = tt
  waits_sent e u (Held w) ne k = tt
  waits_sent e u Parked ne k = λ c lt i. upd_other s.waiting (g.channel_of e) c (s.waiting (g.channel_of e) ++ e ∷ []) (λ q. ne (ap g.into (sym q) ∙ i)) ∙ k c lt i
  waits_sent e u Due ne k = (k.0, k.1, k.2, λ q. k.3 (sym (upd_other s.waiting (g.channel_of e) k.0 (s.waiting (g.channel_of e) ++ e ∷ []) (λ z. ne (ap g.into (sym z) ∙ k.2))) ∙ q))
  waits_sent e u Published ne k = tt

  some_sent : (e u : ℕ) → g.channel_of e < g.channels → g.into (g.channel_of e) ≡ u → SomeWaits g (sent_on g s e) u
  some_sent e u lt i = (g.channel_of e, lt, i, λ q. snoc_some (s.waiting (g.channel_of e)) e (sym (upd_same s.waiting (g.channel_of e) (s.waiting (g.channel_of e) ++ e ∷ [])) ∙ q))

  waits_here : (e u : ℕ) (st : TaskState) → st ≢ Parked → g.channel_of e < g.channels → g.into (g.channel_of e) ≡ u → Waits g s u st → Waits g (sent_on g s e) u st
  waits_here e u Ready ne lt i k = tt
  waits_here e u (Held w) ne lt i k = tt
  waits_here e u Parked ne lt i k = absurd (ne refl)
  waits_here e u Due ne lt i k = some_sent e u lt i
  waits_here e u Published ne lt i k = tt

  -- to a task that isn't parked, or is due
  pub sent_shown : (e t : ℕ) → t < g.tasks → g.channel_of e < g.channels → g.into (g.channel_of e) ≡ t → state_at ss t ≢ Parked → ShowsCore g n (sent_on g s e) ss us cs hs ps
  sent_shown e t lt c_lt i ne = record {
    all_states = h.all_states;
    states = h.states;
    waits = λ u u_lt. dite (ℕ_discrete u t)
        (λ q. waits_here e u (state_at ss u) (λ z. ne (ap (state_at ss) (sym q) ∙ z)) c_lt (i ∙ sym q) (h.waits u u_lt))
        (λ other. waits_sent e u (state_at ss u) (λ z. other (sym z ∙ i)) (h.waits u u_lt));
    all_unmet = h.all_unmet;
    unmet = h.unmet;
    claimable_in = h.claimable_in;
    claimable = h.claimable;
    all_holding = h.all_holding;
    holding = h.holding;
    held = h.held;
    all_put_downs = h.all_put_downs;
    put_downs = h.put_downs;
  }

  -- to a parked task
  pub woken_shown : (e t : ℕ) → t < g.tasks → g.channel_of e < g.channels → g.into (g.channel_of e) ≡ t → state_at ss t ≡ Parked → ShowsCore g n (sent_on g s e) (set ss t Due) us (cs ++ t ∷ []) hs ps
  woken_shown e t lt c_lt i at = record {
    all_states = length-set ss t Due ∙ h.all_states;
    states = set_all ss Ready g.tasks t Due (λ u z. shown_status z ≡ s.status u) (inside_states t lt) (sym (ap shown_status at) ∙ h.states t lt) (λ u u_lt ne. h.states u u_lt);
    waits = set_all ss Ready g.tasks t Due (λ u st. Waits g (sent_on g s e) u st) (inside_states t lt) (some_sent e t c_lt i) (λ u u_lt other. waits_sent e u (state_at ss u) (λ z. other (sym z ∙ i)) (h.waits u u_lt));
    all_unmet = h.all_unmet;
    unmet = h.unmet;
    claimable_in = each_snoc (λ k. k < g.tasks) cs t h.claimable_in lt;
    claimable = set_all ss Ready g.tasks t Due (λ u st. times u (cs ++ t ∷ []) ≡ due st (get_or us u 0)) (inside_states t lt)
        (let y = times_last_same t cs in let z : times t cs ≡ 0 = h.claimable t lt ∙ ap (λ st. due st (get_or us t 0)) at in omega arith)
        (λ u u_lt ne. times_last_other u t cs ne ∙ h.claimable u u_lt);
    all_holding = h.all_holding;
    holding = h.holding;
    held = h.held;
    all_put_downs = h.all_put_downs;
    put_downs = h.put_downs;
  }

  waits_taken : (e u : ℕ) (st : TaskState) → g.into (g.channel_of e) ≢ u → Waits g s u st → Waits g (taken_in g s e) u st
  waits_taken e u Ready ne k = tt
  waits_taken e u (Held w) ne k = tt
  waits_taken e u Parked ne k = λ c lt i. upd_other s.waiting (g.channel_of e) c (rest_of (s.waiting (g.channel_of e))) (λ q. ne (ap g.into (sym q) ∙ i)) ∙ k c lt i
  waits_taken e u Due ne k = (k.0, k.1, k.2, λ q. k.3 (sym (upd_other s.waiting (g.channel_of e) k.0 (rest_of (s.waiting (g.channel_of e))) (λ z. ne (ap g.into (sym z) ∙ k.2))) ∙ q))
  waits_taken e u Published ne k = tt

  -- a message is taken by a held task: the marks stay
  pub taken_shown : (e w t : ℕ) → t < g.tasks → s.status t ≡ held w → g.into (g.channel_of e) ≡ t → ShowsCore g n (taken_in g s e) ss us cs hs ps
  taken_shown e w t lt is i = record {
    all_states = h.all_states;
    states = h.states;
    waits = λ u u_lt. dite (ℕ_discrete u t)
        (λ q. subst (Waits g (taken_in g s e) u) (sym (is_held (state_at ss u) w (h.states u u_lt ∙ ap s.status q ∙ is))) tt)
        (λ other. waits_taken e u (state_at ss u) (λ z. other (sym z ∙ i)) (h.waits u u_lt));
    all_unmet = h.all_unmet;
    unmet = h.unmet;
    claimable_in = h.claimable_in;
    claimable = h.claimable;
    all_holding = h.all_holding;
    holding = h.holding;
    held = h.held;
    all_put_downs = h.all_put_downs;
    put_downs = h.put_downs;
  }

module _ (ss : List TaskState) (us cs : List ℕ) (r : ℕ) (at : state_at ss r ≡ Ready) (lt : r < length us) (some : 1 ≤ get_or us r 0)
    (was : (t : ℕ) → t < length us → times t cs ≡ due (state_at ss t) (get_or us t 0)) where
  -- a ready task that lacks a need is not among those that can be claimed
  pub lacks_one : times r cs ≡ 0
  lacks_one = was r lt ∙ ap (λ st. due st (get_or us r 0)) at ∙ (let q : flag (get_or us r 0 == 0) ≡ 0 = ap flag (ne_eqb (get_or us r 0) 0 (λ e. absurd (omega arith))) in q)

  pub released_last : get_or us r 0 - 1 ≡ 0 → (t : ℕ) → t < length us → times t (cs ++ r ∷ []) ≡ due (state_at ss t) (get_or (set us r (get_or us r 0 - 1)) t 0)
  released_last z t t_lt = dite (ℕ_discrete t r)
      (λ q. let a : get_or (set us r (get_or us r 0 - 1)) t 0 ≡ 0 = ap (λ k. get_or (set us r (get_or us r 0 - 1)) k 0) q ∙ get_or-set_same us r (get_or us r 0 - 1) 0 lt ∙ z in
      let b : times t (cs ++ r ∷ []) ≡ 1 = ap (λ k. times k (cs ++ r ∷ [])) q ∙ times_last_same r cs ∙ ap (λ k. k + 1) lacks_one in
      b ∙ sym (ap (λ k. due (state_at ss t) k) a ∙ ap (λ st. due st 0) (ap (state_at ss) q ∙ at)))
      (λ ne. times_last_other t r cs ne ∙ was t t_lt ∙ ap (λ k. due (state_at ss t) k) (sym (get_or-set_other us r t (get_or us r 0 - 1) 0 ne)))

  pub released_more : get_or us r 0 - 1 ≢ 0 → (t : ℕ) → t < length us → times t cs ≡ due (state_at ss t) (get_or (set us r (get_or us r 0 - 1)) t 0)
  released_more nz t t_lt = dite (ℕ_discrete t r)
      (λ q. let a : get_or (set us r (get_or us r 0 - 1)) t 0 ≡ get_or us r 0 - 1 = ap (λ k. get_or (set us r (get_or us r 0 - 1)) k 0) q ∙ get_or-set_same us r (get_or us r 0 - 1) 0 lt in
      let b : times t cs ≡ 0 = ap (λ k. times k cs) q ∙ lacks_one in
      let f : due Ready (get_or us r 0 - 1) ≡ 0 = ap flag (ne_eqb (get_or us r 0 - 1) 0 nz) in
      b ∙ sym (ap (λ k. due (state_at ss t) k) a ∙ ap (λ st. due st (get_or us r 0 - 1)) (ap (state_at ss) q ∙ at) ∙ f))
      (λ ne. was t t_lt ∙ ap (λ k. due (state_at ss t) k) (sym (get_or-set_other us r t (get_or us r 0 - 1) 0 ne)))

  pub released_room : Each (λ k. k < length us) cs → length cs < length us
  released_room e = room_for (length us) cs r e lt lacks_one (λ u u_lt. let c = was u u_lt in let m = due_most (state_at ss u) (get_or us u 0) in omega arith)

-- before any step every need is unpublished
pub unmet_ready : (ns : List ℕ) → unmet_of (λ _. ready) ns ≡ length ns
unmet_ready [] = refl
unmet_ready (n ∷ ns) = let r = unmet_ready ns in omega arith

-- what is kept before any step
pub opening_shown : (g : Graph) (n : ℕ) (ss : List TaskState) (us cs : List ℕ) (hs : List (Option ℕ)) (ps : List Bool)
    → CountsNeeds g us → length ss ≡ length us → ((k : ℕ) → get_or ss k Ready ≡ Ready)
    → Each (λ t. t < length us) cs → ((t : ℕ) → t < length us → times t cs ≡ due Ready (get_or us t 0))
    → length hs ≡ n + 1 → ((k : ℕ) → get_or hs k None ≡ None) → length ps ≡ n + 1 → ((k : ℕ) → get_or ps k false ≡ false)
    → ShowsCore g n opening ss us cs hs ps
opening_shown g n ss us cs hs ps counts all_ss each_ss within due' all_hs each_hs all_ps each_ps =
    let back : (t : ℕ) → t < g.tasks → t < length us = λ t lt. (let k = counts.0 in omega arith) in
    record {
      all_states = all_ss ∙ counts.0;
      states = λ t lt. ap shown_status (each_ss t);
      waits = λ t lt. subst (Waits g opening t) (sym (each_ss t)) tt;
      all_unmet = counts.0;
      unmet = λ t lt. counts.1 t lt ∙ sym (unmet_ready (g.needs t));
      claimable_in = subst (λ k. Each (λ t. t < k) cs) counts.0 within;
      claimable = λ t lt. due' t (back t lt) ∙ ap (λ st. due st (get_or us t 0)) (sym (each_ss t));
      all_holding = all_hs;
      holding = λ w t e. absurd (let z : None ≡ Some t = sym (each_hs w) ∙ e in cc);
      held = λ w t lt e. absurd (let z : ready ≡ held w = e in cc);
      all_put_downs = all_ps;
      put_downs = λ w le. each_ps w;
    }
