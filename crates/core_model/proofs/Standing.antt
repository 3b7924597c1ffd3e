-- Along a run the values stand for the whole-map values.
use Rattle.std.proofs.Common.{◌≡◌, ◌≢◌, ℕ, ◌<◌, Bool, true, false, cond, ◌⊎◌, ⊎_elim, List, [], ◌∷◌, refl, ap, sym, ◌∙◌, subst, arith}
use mathlib.Core.Logic.{dite}
use native.Mathlib.Decide.{ℕ_discrete}
use Rattle.core_model.specs.Graphs.{Graph, Each, In, NeedsWell, IsSoundGraph, edge_at, from_task, into_task}
use Rattle.core_model.specs.declared.step.Step.{Step}
use Rattle.core_model.specs.declared.step.Step.TheVariants.{Claim, Publish, Send, Take, Park, PutDown}
use Rattle.core_model.specs.Cores.{Status, ready, held, parked, published, Core, upd, opening}
use Rattle.core_model.specs.Steps.{Allows, effect}
use Rattle.core_model.specs.Runs.{BegunHaveNeeds, after_from, LegalFrom, after, Legal}
use Rattle.core_model.specs.Laws.{HoldsOne, HeldStays}
use Rattle.core_model.specs.Values.{Meaning, RunValues, value_step, values_from, IsRight, StandsRight, Right}
use Rattle.core_model.proofs.Find.{upd_same, upd_other, upd_cases, each_in, each_from}
use Rattle.core_model.proofs.Kept.{Kept, opening_kept, step_kept, no_true}

-- a task is held by one worker
pub same_holder : {v w : ℕ} → held v ≡ held w → v ≡ w
same_holder q = cc

module _ (g : Graph) (sound : IsSoundGraph g) where
  -- a status is changed, and none that was published
  begun_upd : (s : Core) (t : ℕ) (st : Status) → BegunHaveNeeds g s → s.status t ≢ published → (t < g.tasks → st ≢ ready → (n : ℕ) → In n (g.needs t) → s.status n ≡ published) → (u : ℕ) → u < g.tasks → upd s.status t st u ≢ ready → (n : ℕ) → In n (g.needs u) → upd s.status t st n ≡ published
  begun_upd s t st b open' mine u lt begun n i =
      let old : s.status n ≡ published = dite (ℕ_discrete u t)
      (λ e. mine (subst (λ z. z < g.tasks) e lt) (λ q. begun (ap (upd s.status t st) e ∙ upd_same s.status t st ∙ q)) n (subst (λ z. In n (g.needs z)) e i))
      (λ ne. b.needs u lt (λ q. begun (upd_other s.status t u st ne ∙ q)) n i) in
      upd_cases (λ (z : Status). z ≡ published) s.status t n st (λ e. absurd (open' (ap s.status (sym e) ∙ old))) (λ _. old)

  pub begun_step : (s : Core) (x : Step) → BegunHaveNeeds g s → Allows g s x → BegunHaveNeeds g (effect g s x)
  begun_step s (Claim w t) b en = record {
    needs = begun_upd s t (held w) b
        (λ p. ⊎_elim (λ r. absurd (let q : ready ≡ published = sym r.0 ∙ p in cc)) (λ r. absurd (let q : parked ≡ published = sym r.0 ∙ p in cc)) en.2)
        (λ lt _ n i. ⊎_elim (λ r. each_in (λ k. s.status k ≡ published) (g.needs t) n r.1 i) (λ r. b.needs t lt (λ q. absurd (let z : parked ≡ ready = sym r.0 ∙ q in cc)) n i) en.2);
  }
  begun_step s (Publish w t) b en = record { needs = begun_upd s t published b (λ p. absurd (let q : held w ≡ published = sym en.1 ∙ p in cc)) (λ lt _. b.needs t lt (λ q. absurd (let z : held w ≡ ready = sym en.1 ∙ q in cc))) }
  begun_step s (Send w t e) b en = record { needs = b.needs }
  begun_step s (Take w t e) b en = record { needs = b.needs }
  begun_step s (Park w t) b en = record { needs = begun_upd s t parked b (λ p. absurd (let q : held w ≡ published = sym en.1.0 ∙ p in cc)) (λ lt _. b.needs t lt (λ q. absurd (let z : held w ≡ ready = sym en.1.0 ∙ q in cc))) }
  begun_step s (PutDown w t) b en = record { needs = begun_upd s t ready b (λ p. absurd (let q : held w ≡ published = sym en.1 ∙ p in cc)) (λ lt no'. absurd (no' refl)) }

  module _ {V F : Type 0} (n : ℕ) (m : Meaning V F) (whole_tile : ℕ → V) (whole_flow : ℕ → F) (right : IsRight g m whole_tile whole_flow) where
    -- the tiles that a held task reads stand for the whole
    reads : (s : Core) (v : RunValues V F) (w t : ℕ) → StandsRight g whole_tile whole_flow s v → BegunHaveNeeds g s → t < g.tasks → s.status t ≡ held w → Each (λ n. v.tile n ≡ whole_tile n) (g.needs t)
    reads s v w t st b lt h = each_from (λ n. v.tile n ≡ whole_tile n) (g.needs t)
        (λ n i. st.tiles n (let q = (each_in (NeedsWell g t) (g.needs t) n (sound.needed t lt) i).0 in omega arith) (b.needs t lt (λ q. absurd (let z : held w ≡ ready = sym h ∙ q in cc)) n i))

    taken_stand : (s : Core) (v : RunValues V F) → Kept g n s → StandsRight g whole_tile whole_flow s v → (e : ℕ) → e < g.edges → s.taken e ≡ true → v.message e ≡ whole_flow (g.source e)
    taken_stand s v k st e lt t = st.messages e lt (k.was_sent e t)

    -- a status changes to one that is not published
    not_published : (s : Core) (v : RunValues V F) (t : ℕ) (new : Status) (pd : ℕ → Bool) → StandsRight g whole_tile whole_flow s v → new ≢ published → StandsRight g whole_tile whole_flow record { status = upd s.status t new; sent = s.sent; taken = s.taken; waiting = s.waiting; has_put_down = pd } v
    not_published s v t new pd st ne = record { tiles = λ u lt. upd_cases (λ (z : Status). z ≡ published → v.tile u ≡ whole_tile u) s.status t u new (λ _ p. absurd (ne p)) (λ _ p. st.tiles u lt p); messages = st.messages }

    stands_step : (s : Core) (v : RunValues V F) (x : Step) → Kept g n s → BegunHaveNeeds g s → StandsRight g whole_tile whole_flow s v → Allows g s x → StandsRight g whole_tile whole_flow (effect g s x) (value_step g m v x)
    stands_step s v (Claim w t) k b st en = not_published s v t (held w) s.has_put_down st (λ e. absurd (cc))
    stands_step s v (Publish w t) k b st en =
        let r = reads s v w t st b en.0 en.1 in
        let value : (c : Bool) → g.is_flow t ≡ c → cond c (m.result t v.tile v.message) (m.local t v.tile) ≡ whole_tile t =
        λ c. elim c as (λ c. g.is_flow t ≡ c → cond c (m.result t v.tile v.message) (m.local t v.tile) ≡ whole_tile t) [ true ↦ (λ f. right.result s t v.tile v.message en.0 f r (en.2 f).0 (taken_stand s v k st)) | false ↦ (λ f. right.local t v.tile en.0 f r) ] in
        let new : V = cond (g.is_flow t) (m.result t v.tile v.message) (m.local t v.tile) in
        record {
          tiles = λ u lt p. upd_cases (λ (z : V). z ≡ whole_tile u) v.tile t u new (λ e. value (g.is_flow t) refl ∙ ap whole_tile (sym e)) (λ ne. st.tiles u lt (sym (upd_other s.status t u published ne) ∙ p));
          messages = st.messages;
        }
    stands_step s v (Send w t d) k b st en =
        let e : ℕ = edge_at g t d in
        let r = reads s v w t st b en.0 en.1.0 in
        let src = sound.edges_join e en.2 in
        let f = right.flow (g.source e) v.tile v.message s.taken src.source_in (subst (λ z. Each (λ n. v.tile n ≡ whole_tile n) (g.needs z)) (sym (src.source_owner ∙ en.3)) r) en.4 (taken_stand s v k st) in
        record {
          tiles = st.tiles;
          messages = λ e' lt p. upd_cases (λ (z : F). z ≡ whole_flow (g.source e')) v.message e e' (m.flow (g.source e) v.tile v.message) (λ q. f ∙ ap (λ z. whole_flow (g.source z)) (sym q)) (λ ne. st.messages e' lt (sym (upd_other s.sent e e' true ne) ∙ p));
        }
    stands_step s v (Take w t e) k b st en = record { tiles = st.tiles; messages = st.messages }
    stands_step s v (Park w t) k b st en = not_published s v t parked s.has_put_down st (λ e. absurd (cc))
    stands_step s v (PutDown w t) k b st en = not_published s v t ready (upd s.has_put_down w true) st (λ e. absurd (cc))

    stands_run : (s : Core) (v : RunValues V F) (xs : List Step) → Kept g n s → BegunHaveNeeds g s → StandsRight g whole_tile whole_flow s v → LegalFrom g n s xs → StandsRight g whole_tile whole_flow (after_from g s xs) (values_from g m v xs)
    stands_run s v [] k b st l = st
    stands_run s v (x ∷ xs) k b st l = stands_run (effect g s x) (value_step g m v x) xs (step_kept g n sound s x k l.0) (begun_step s x b l.0.1) (stands_step s v x k b st l.0.1) l.1

pub right : {V F : Type 0} → Right V F
right g n m whole_tile whole_flow v xs sound is_right legal =
    stands_run g sound n m whole_tile whole_flow is_right opening v xs (opening_kept g n) record { needs = λ t lt no'. absurd (no' refl) } record { tiles = λ t lt p. absurd (cc); messages = λ e lt p. no_true (sym p) } legal

-- a step of another worker changes nothing of the task that is held
pub held_stays : HeldStays
held_stays g n s (Claim v u) w t en ne lt h = record { still = upd_cases (λ (z : Status). z ≡ held w) s.status u t (held v) (λ q. absurd (no_claim en.1.2 (ap s.status (sym q) ∙ h))) (λ _. h); taken = λ e _ _. refl; sent = λ e _ _. refl; has_put_down = refl }
  where
    no_claim : {P Q : Type 0} → ((s.status u ≡ ready) × P) ⊎ ((s.status u ≡ parked) × Q) → s.status u ≡ held w → ⊥
    no_claim c q = ⊎_elim (λ r. let z : ready ≡ held w = sym r.0 ∙ q in cc) (λ r. let z : parked ≡ held w = sym r.0 ∙ q in cc) c
held_stays g n s (Publish v u) w t en ne lt h = record { still = upd_cases (λ (z : Status). z ≡ held w) s.status u t published (λ q. absurd (ne (same_holder (sym en.1.1 ∙ ap s.status (sym q) ∙ h)))) (λ _. h); taken = λ e _ _. refl; sent = λ e _ _. refl; has_put_down = refl }
held_stays g n s (Send v u d) w t en ne lt h = record { still = h; taken = λ e _ _. refl; sent = λ e _ f. upd_other s.sent (edge_at g u d) e true (λ q. ne (same_holder (sym en.1.1.0 ∙ ap s.status (sym en.1.3 ∙ ap (from_task g) (sym q) ∙ f) ∙ h))); has_put_down = refl }
held_stays g n s (Take v u d) w t en ne lt h = record { still = h; taken = λ e _ f. upd_other s.taken (edge_at g u d) e true (λ q. ne (same_holder (sym en.1.1.0 ∙ ap s.status (sym en.1.3 ∙ ap (into_task g) (sym q) ∙ f) ∙ h))); sent = λ e _ _. refl; has_put_down = refl }
held_stays g n s (Park v u) w t en ne lt h = record { still = upd_cases (λ (z : Status). z ≡ held w) s.status u t parked (λ q. absurd (ne (same_holder (sym en.1.1.0 ∙ ap s.status (sym q) ∙ h)))) (λ _. h); taken = λ e _ _. refl; sent = λ e _ _. refl; has_put_down = refl }
held_stays g n s (PutDown v u) w t en ne lt h = record { still = upd_cases (λ (z : Status). z ≡ held w) s.status u t ready (λ q. absurd (ne (same_holder (sym en.1.1 ∙ ap s.status (sym q) ∙ h)))) (λ _. h); taken = λ e _ _. refl; sent = λ e _ _. refl; has_put_down = upd_other s.has_put_down v w true (λ q. ne (sym q)) }

-- what a task reads was published when it was begun
pub run_begun : (g : Graph) (n : ℕ) (sound : IsSoundGraph g) (xs : List Step) → Legal g n xs → BegunHaveNeeds g (after g xs)
run_begun g n sound xs l = begun_from opening xs record { needs = λ t lt no'. absurd (no' refl) } l
  where
    begun_from : (s : Core) (xs : List Step) → BegunHaveNeeds g s → LegalFrom g n s xs → BegunHaveNeeds g (after_from g s xs)
    begun_from s [] b l = b
    begun_from s (x ∷ xs) b l = begun_from (effect g s x) xs (begun_step g sound s x b l.0.1) l.1

-- each worker holds one task at most
abbrev OneEach : Graph → Core → Type 0
OneEach g s = (w t u : ℕ) → t < g.tasks → u < g.tasks → s.status t ≡ held w → s.status u ≡ held w → t ≡ u

module _ (g : Graph) where
  -- a status is written over by one that isn't held
  one_let_go : (s : Core) (a : ℕ) (st : Status) (pd : ℕ → Bool) → ((v : ℕ) → st ≢ held v) → OneEach g s → OneEach g record { status = upd s.status a st; sent = s.sent; taken = s.taken; waiting = s.waiting; has_put_down = pd }
  one_let_go s a st pd open' o w t u t_lt u_lt = upd_cases (λ (z : Status). z ≡ held w → upd s.status a st u ≡ held w → t ≡ u) s.status a t st
      (λ _ e _. absurd (open' w e))
      (λ _ e. upd_cases (λ (z : Status). z ≡ held w → t ≡ u) s.status a u st (λ _ f. absurd (open' w f)) (λ _ f. o w t u t_lt u_lt e f))

  one_step : (s : Core) (x : Step) → Allows g s x → OneEach g s → OneEach g (effect g s x)
  one_step s (Claim v a) en o = λ w t u t_lt u_lt. upd_cases (λ (z : Status). z ≡ held w → upd s.status a (held v) u ≡ held w → t ≡ u) s.status a t (held v)
      (λ q e. upd_cases (λ (z : Status). z ≡ held w → t ≡ u) s.status a u (held v) (λ r _. q ∙ sym r) (λ _ f. absurd (en.1 u u_lt (f ∙ ap held (sym (same_holder e))))))
      (λ _ e. upd_cases (λ (z : Status). z ≡ held w → t ≡ u) s.status a u (held v) (λ _ f. absurd (en.1 t t_lt (e ∙ ap held (sym (same_holder f))))) (λ _ f. o w t u t_lt u_lt e f))
  one_step s (Publish v a) en o = one_let_go s a published s.has_put_down (λ k e. let z : published ≡ held k = e in cc) o
  one_step s (Send v a d) en o = o
  one_step s (Take v a d) en o = o
  one_step s (Park v a) en o = one_let_go s a parked s.has_put_down (λ k e. let z : parked ≡ held k = e in cc) o
  one_step s (PutDown v a) en o = one_let_go s a ready (upd s.has_put_down v true) (λ k e. let z : ready ≡ held k = e in cc) o

  one_run : (n : ℕ) (s : Core) (xs : List Step) → LegalFrom g n s xs → OneEach g s → OneEach g (after_from g s xs)
  one_run n s [] l o = o
  one_run n s (x ∷ xs) l o = one_run n (effect g s x) xs l.1 (one_step s x l.0.1 o)

pub holds_one : HoldsOne
holds_one g n xs legal = one_run g n opening xs legal (λ w t u _ _ e _. absurd (let z : ready ≡ held w = e in cc))
