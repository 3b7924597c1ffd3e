-- What the steps of others leave as it is.
use Rattle.std.proofs.Common.{◌≡◌, ◌≢◌, ℕ, ◌<◌, true, cond, ◌==◌, ne_eqb, ⊎_elim, List, [], ◌∷◌, ◌++◌, refl, ap, sym, ◌∙◌, subst, append_assoc}
use Rattle.std.proofs.lemmas.List.{append-nil}
use Rattle.core_model.specs.declared.step.Step.{Step}
use Rattle.core_model.specs.declared.step.Step.TheVariants.{Claim, Publish, Send, Take, Park, PutDown}
use Rattle.core_model.specs.Graphs.{Graph}
use Rattle.core_model.specs.Cores.{Status, ready, held, parked, published, Core, upd, opening}
use Rattle.core_model.specs.Steps.{worker_of, HoldsNone, Allows, effect, IsByOthers}
use Rattle.core_model.specs.Runs.{after_from, LegalFrom, after, Finished}
use Rattle.core_model.specs.TaskHistories.{takes_for, sends_for, taken_edges, sent_edges}
use Rattle.core_model.specs.Laws.{StaysHeld, LeftByOthers}
use Rattle.core_model.proofs.Find.{upd_other, upd_cases}
use Rattle.core_model.proofs.RunLemmas.{after_rest, legal_rest}
use Rattle.core_model.proofs.Standing.{same_holder, held_stays}

-- a list and another that is empty
more_none : (xs more : List ℕ) → more ≡ [] → xs ++ more ≡ xs
more_none xs more e = ap (λ (l : List ℕ). xs ++ l) e ∙ append-nil xs

-- the takes for a task in two parts of a history
pub taken_append : (t : ℕ) (xs ys : List Step) → taken_edges t (xs ++ ys) ≡ taken_edges t xs ++ taken_edges t ys
taken_append t [] ys = refl
taken_append t (x ∷ xs) ys = ap (λ (l : List ℕ). takes_for t x ++ l) (taken_append t xs ys) ∙ sym (append_assoc (takes_for t x) (taken_edges t xs) (taken_edges t ys))

-- the sends for a task in two parts of a history
pub sent_append : (t : ℕ) (xs ys : List Step) → sent_edges t (xs ++ ys) ≡ sent_edges t xs ++ sent_edges t ys
sent_append t [] ys = refl
sent_append t (x ∷ xs) ys = ap (λ (l : List ℕ). sends_for t x ++ l) (sent_append t xs ys) ∙ sym (append_assoc (sends_for t x) (sent_edges t xs) (sent_edges t ys))

module _ (g : Graph) where
  -- a task that one worker holds is no task that another holds
  other_task : (s : Core) (w v t u : ℕ) → v ≢ w → s.status t ≡ held w → s.status u ≡ held v → t ≢ u
  other_task s w v t u ne h k e = ne (same_holder (sym k ∙ (ap s.status (sym e) ∙ h)))

  not_here : (t u e : ℕ) → t ≢ u → cond (u == t) (e ∷ []) [] ≡ []
  not_here t u e ne = ap (λ b. cond b (e ∷ []) []) (ne_eqb u t (λ q. ne (sym q)))

  -- a step of another takes nothing for the task that a worker holds
  takes_none : (s : Core) (x : Step) (w t : ℕ) → Allows g s x → worker_of x ≢ w → s.status t ≡ held w → takes_for t x ≡ []
  takes_none s (Claim v u) w t en ne h = refl
  takes_none s (Publish v u) w t en ne h = refl
  takes_none s (Send v u e) w t en ne h = refl
  takes_none s (Take v u e) w t en ne h = not_here t u e (other_task s w v t u ne h en.1.0)
  takes_none s (Park v u) w t en ne h = refl
  takes_none s (PutDown v u) w t en ne h = refl

  -- and sends nothing for it
  sends_none : (s : Core) (x : Step) (w t : ℕ) → Allows g s x → worker_of x ≢ w → s.status t ≡ held w → sends_for t x ≡ []
  sends_none s (Claim v u) w t en ne h = refl
  sends_none s (Publish v u) w t en ne h = refl
  sends_none s (Send v u e) w t en ne h = not_here t u e (other_task s w v t u ne h en.1.0)
  sends_none s (Take v u e) w t en ne h = refl
  sends_none s (Park v u) w t en ne h = refl
  sends_none s (PutDown v u) w t en ne h = refl

  module _ (n : ℕ) where
    -- a held task stays held through what others do
    pub held_run : (s : Core) (xs : List Step) (w t : ℕ) → LegalFrom g n s xs → IsByOthers w xs → t < g.tasks → s.status t ≡ held w → StaysHeld g w t s (after_from g s xs)
    held_run s [] w t l o lt h = record { still = h; taken = λ e _ _. refl; sent = λ e _ _. refl; has_put_down = refl }
    held_run s (x ∷ xs) w t l o lt h =
        let a = held_stays g n s x w t l.0 o.0 lt h in
        let b = held_run (effect g s x) xs w t l.1 o.1 lt a.still in
        record { still = b.still; taken = λ e q r. b.taken e q r ∙ a.taken e q r; sent = λ e q r. b.sent e q r ∙ a.sent e q r; has_put_down = b.has_put_down ∙ a.has_put_down }

    -- others take nothing for the task that a worker holds
    taken_run : (s : Core) (xs : List Step) (w t : ℕ) → LegalFrom g n s xs → IsByOthers w xs → t < g.tasks → s.status t ≡ held w → taken_edges t xs ≡ []
    taken_run s [] w t l o lt h = refl
    taken_run s (x ∷ xs) w t l o lt h =
        ap (λ (l : List ℕ). l ++ taken_edges t xs) (takes_none s x w t l.0.1 o.0 h) ∙ taken_run (effect g s x) xs w t l.1 o.1 lt (held_stays g n s x w t l.0 o.0 lt h).still

    -- and send nothing for it
    sent_run : (s : Core) (xs : List Step) (w t : ℕ) → LegalFrom g n s xs → IsByOthers w xs → t < g.tasks → s.status t ≡ held w → sent_edges t xs ≡ []
    sent_run s [] w t l o lt h = refl
    sent_run s (x ∷ xs) w t l o lt h =
        ap (λ (l : List ℕ). l ++ sent_edges t xs) (sends_none s x w t l.0.1 o.0 h) ∙ sent_run (effect g s x) xs w t l.1 o.1 lt (held_stays g n s x w t l.0 o.0 lt h).still

    -- a status is written that is no holding by the worker
    none_upd : (s : Core) (u w : ℕ) (st : Status) → st ≢ held w → HoldsNone g s w → (t : ℕ) → t < g.tasks → upd s.status u st t ≢ held w
    none_upd s u w st ne none t lt = upd_cases (λ (z : Status). z ≢ held w) s.status u t st (λ _. ne) (λ _. none t lt)

    none_step : (s : Core) (x : Step) (w : ℕ) → worker_of x ≢ w → HoldsNone g s w → HoldsNone g (effect g s x) w
    none_step s (Claim v u) w ne none = none_upd s u w (held v) (λ e. ne (same_holder e)) none
    none_step s (Publish v u) w ne none = none_upd s u w published (λ e. absurd (cc)) none
    none_step s (Send v u e) w ne none = none
    none_step s (Take v u e) w ne none = none
    none_step s (Park v u) w ne none = none_upd s u w parked (λ e. absurd (cc)) none
    none_step s (PutDown v u) w ne none = none_upd s u w ready (λ e. absurd (cc)) none

    -- who holds none holds none through what others do
    pub none_run : (s : Core) (xs : List Step) (w : ℕ) → IsByOthers w xs → HoldsNone g s w → HoldsNone g (after_from g s xs) w
    none_run s [] w o none = none
    none_run s (x ∷ xs) w o none = none_run (effect g s x) xs w o.1 (none_step s x w o.0 none)

    flag_step : (s : Core) (x : Step) (w : ℕ) → worker_of x ≢ w → (effect g s x).has_put_down w ≡ s.has_put_down w
    flag_step s (Claim v u) w ne = refl
    flag_step s (Publish v u) w ne = refl
    flag_step s (Send v u e) w ne = refl
    flag_step s (Take v u e) w ne = refl
    flag_step s (Park v u) w ne = refl
    flag_step s (PutDown v u) w ne = upd_other s.has_put_down v w true (λ e. ne (sym e))

    -- whether a worker has put down stays through what others do
    pub flag_run : (s : Core) (xs : List Step) (w : ℕ) → IsByOthers w xs → (after_from g s xs).has_put_down w ≡ s.has_put_down w
    flag_run s [] w o = refl
    flag_run s (x ∷ xs) w o = flag_run (effect g s x) xs w o.1 ∙ flag_step s x w o.0

    -- one that is not published stays so under no other status
    published_upd : (s : Core) (u t : ℕ) (st : Status) → s.status u ≢ published → s.status t ≡ published → upd s.status u st t ≡ published
    published_upd s u t st ne p = upd_cases (λ (z : Status). z ≡ published) s.status u t st (λ e. absurd (ne (ap s.status (sym e) ∙ p))) (λ _. p)

    published_step : (s : Core) (x : Step) (t : ℕ) → Allows g s x → s.status t ≡ published → (effect g s x).status t ≡ published
    published_step s (Claim v u) t en p = published_upd s u t (held v) (λ q. ⊎_elim (λ r. let z : ready ≡ published = sym r.0 ∙ q in cc) (λ r. let z : parked ≡ published = sym r.0 ∙ q in cc) en.2) p
    published_step s (Publish v u) t en p = upd_cases (λ (z : Status). z ≡ published) s.status u t published (λ _. refl) (λ _. p)
    published_step s (Send v u e) t en p = p
    published_step s (Take v u e) t en p = p
    published_step s (Park v u) t en p = published_upd s u t parked (λ q. let z : held v ≡ published = sym en.1.0 ∙ q in cc) p
    published_step s (PutDown v u) t en p = published_upd s u t ready (λ q. let z : held v ≡ published = sym en.1 ∙ q in cc) p

    -- a published task stays published
    pub published_run : (s : Core) (xs : List Step) (t : ℕ) → LegalFrom g n s xs → s.status t ≡ published → (after_from g s xs).status t ≡ published
    published_run s [] t l p = p
    published_run s (x ∷ xs) t l p = published_run (effect g s x) xs t l.1 (published_step s x t l.0.1 p)

    -- a finished state stays finished
    pub finished_run : (s : Core) (xs : List Step) → LegalFrom g n s xs → Finished g s → Finished g (after_from g s xs)
    finished_run s xs l f t lt = published_run s xs t l (f t lt)

pub left_by_others : LeftByOthers
left_by_others g n seen more w l o =
    let rest = legal_rest g n opening seen more l in
    let last = sym (after_rest g opening seen more) in
    record {
      stays = λ t lt h. subst (λ (z : Core). StaysHeld g w t (after g seen) z) last (held_run g n (after g seen) more w t rest o lt h);
      takes = λ t lt h. taken_append t seen more ∙ more_none (taken_edges t seen) (taken_edges t more) (taken_run g n (after g seen) more w t rest o lt h);
      sends = λ t lt h. sent_append t seen more ∙ more_none (sent_edges t seen) (sent_edges t more) (sent_run g n (after g seen) more w t rest o lt h);
      free = λ none. subst (λ (z : Core). HoldsNone g z w) last (none_run g n (after g seen) more w o none);
      has_put_down = sym (ap (λ (z : Core). z.has_put_down w) last) ∙ flag_run g n (after g seen) more w o;
    }
