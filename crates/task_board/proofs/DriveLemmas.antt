-- One task that the caller claims and lets go of again.
use Rattle.std.proofs.Common.{◌≡◌, ◌≢◌, ◌∙◌, ℕ, ◌-◌, ◌<◌, false, List, [], ◌∷◌, ◌++◌, length, ap, sym, subst, arith, append_assoc, length-append, inl, inr, refl, Bool, Ok, Err}
use Rattle.std.specs.Prelude.{OnErr, OnOk, Result}
use Rattle.core_model.specs.declared.step.Step.{Step}
use Rattle.core_model.specs.declared.step.Step.TheVariants.{Claim, Park, Publish, PutDown}
use Rattle.core_model.specs.Cores.{Core, Status, held, opening, parked, published, ready, upd}
use Rattle.core_model.specs.Steps.{effect, worker_of}
use Rattle.core_model.proofs.Callers.{after_snoc, legal_rest, upd_cases, upd_other}
use Rattle.plan_graph.specs.PlanGraphs.{graph_of, IsPlan, PlanGraphValue}
use Rattle.task_board.specs.Boards.{BoardValue, Continues, IsFinished, IsLegal, NobodyHolds, board_with_step, state_of}
use Rattle.task_board.specs.Tickets.{board_with_steps}
use Rattle.task_board.specs.Holders.{IsWorkedOn}
use Rattle.task_board.specs.inside.Driven.{EndsWell, EndsBy}
use Rattle.task_board.specs.inside.Held.{steps_at_most}
use Rattle.task_board.proofs.BoardLemmas.{claimable_unpublished}
use Rattle.task_board.proofs.GoingLemmas.{few_steps, worked_none, worked_plan}

-- ---- what a call ends with

pub ok_more : {A E : Type 0} {P Q : Type 0} (r : Result A E) → (P → Q) → OnOk r P → OnOk r Q
ok_more (Ok x) f h = f h
ok_more (Err e) f h = h

pub err_more : {A E : Type 0} {P Q : Type 0} (r : Result A E) → (P → Q) → OnErr r P → OnErr r Q
err_more (Ok x) f h = h
err_more (Err e) f h = f h

pub ends_now : (b c : BoardValue) (x : Step) → c ≡ board_with_step b x → EndsBy b c x
ends_now b c x is = record { last = b; worked = worked_none (worker_of x) b; is = is }

-- a step of the same worker on the same task, after the board was worked on
pub ends_by : (f : ℕ → ℕ → Step) (a b c : BoardValue) (w t v u : ℕ) → worker_of (f w t) ≡ w → IsWorkedOn w a b → v ≡ w → u ≡ t → c ≡ board_with_step b (f v u) → EndsBy a c (f w t)
ends_by f a b c w t v u own on worker task is = record {
  last = b;
  worked = subst (λ (k : ℕ). IsWorkedOn k a b) (sym own) on;
  is = is ∙ (ap (λ (k : ℕ). board_with_step b (f k u)) worker ∙ ap (λ (k : ℕ). board_with_step b (f w k)) task);
}

-- ---- a task that is claimed and let go of

-- the state with one more step
pub state_step : (b : BoardValue) (x : Step) → state_of (board_with_step b x) ≡ effect (graph_of b.plan) (state_of b) x
state_step b x = after_snoc (graph_of b.plan) opening b.history x

-- a claim notes no put-down
pub claim_puts : (b : BoardValue) (t : ℕ) → (state_of (board_with_step b (Claim 0 t))).has_put_down 0 ≡ (state_of b).has_put_down 0
claim_puts b t = ap (λ (s : Core). s.has_put_down 0) (state_step b (Claim 0 t))

module _ (b c : BoardValue) (t : ℕ) (x : Step) (ends : EndsBy (board_with_step b (Claim 0 t)) c x) where
  abbrev claimed : BoardValue
  claimed = board_with_step b (Claim 0 t)

  -- only the task stands elsewhere
  status_is : (st : Status) → (effect (graph_of ends.last.plan) (state_of ends.last) x).status ≡ upd (state_of ends.last).status t st → (state_of c).status ≡ upd (state_of claimed).status t st
  status_is st e =
      ap (λ (v : BoardValue). (state_of v).status) ends.is ∙ (ap (λ (s : Core). s.status) (state_step ends.last x) ∙ (e ∙ ap (λ (f : ℕ → Status). upd f t st) ends.worked.status))

  idle_by : (st : Status) → ((v : ℕ) → st ≢ held v) → NobodyHolds b → (state_of c).status ≡ upd (state_of claimed).status t st → c.plan ≡ b.plan → NobodyHolds c
  idle_by st open' idle e plan = λ u w lt is.
      let now : upd (state_of claimed).status t st u ≡ held w = ap (λ (f : ℕ → Status). f u) (sym e) ∙ is in
      let lt' = subst (λ (p : PlanGraphValue). u < p.tasks) plan lt in
      upd_cases (λ (z : Status). z ≡ held w → ⊥) (state_of claimed).status t u st
      (λ _ q. open' w q)
      (λ ne q. idle u w lt' (sym (upd_other (state_of b).status t u (held 0) ne) ∙ ap (λ (s : Core). s.status u) (sym (state_step b (Claim 0 t))) ∙ q))
      now

  plan_kept : c.plan ≡ b.plan
  plan_kept = ap (λ (v : BoardValue). v.plan) ends.is ∙ worked_plan claimed ends.last ends.worked

  -- the board goes on by these steps
  pub goes_on : (a : BoardValue) → Continues a b → Continues a c
  goes_on a con = record {
    more = con.more ++ (Claim 0 t ∷ [] ++ (ends.worked.more ++ x ∷ []));
    is =
        ends.is ∙ (ap (λ (v : BoardValue). board_with_step v x) ends.worked.is ∙ (ap (λ (v : BoardValue). board_with_step (board_with_steps (board_with_step v (Claim 0 t)) ends.worked.more) x) con.is
        ∙ ap (λ (l : List Step). let v : BoardValue = record a { history = l } in v) (joined a.history con.more (Claim 0 t ∷ []) ends.worked.more (x ∷ []))));
  }
    where
      joined : (h p q r s : List Step) → (((h ++ p) ++ q) ++ r) ++ s ≡ h ++ (p ++ (q ++ (r ++ s)))
      joined h p q r s = append_assoc ((h ++ p) ++ q) r s ∙ (append_assoc (h ++ p) q (r ++ s) ∙ append_assoc h p (q ++ (r ++ s)))

  -- it has more steps
  pub longer : length b.history < length c.history
  longer =
      let one = length-append b.history (Claim 0 t ∷ []) in
      let two = length-append claimed.history ends.worked.more in
      let three = length-append ends.last.history (x ∷ []) in
      let is = ap (λ (v : BoardValue). length v.history) ends.is in
      let on = ap (λ (v : BoardValue). length v.history) ends.worked.is in
      omega arith

  workers_kept : c.workers ≡ b.workers
  workers_kept = ap (λ (v : BoardValue). v.workers) ends.is ∙ ap (λ (v : BoardValue). v.workers) ends.worked.is

  -- so it is nearer to its end
  pub nearer : IsPlan b.plan → IsLegal c → steps_at_most c.plan c.workers - length c.history < steps_at_most b.plan b.workers - length b.history
  nearer plan legal =
      let few = few_steps c (subst IsPlan (sym plan_kept) plan) legal in
      let more = longer in
      let one = ap (λ (p : PlanGraphValue). steps_at_most p c.workers) plan_kept in
      let two = ap (λ (n : ℕ). steps_at_most b.plan n) workers_kept in
      omega arith

module _ (b c : BoardValue) (t : ℕ) where
  idle_published : EndsBy (board_with_step b (Claim 0 t)) c (Publish 0 t) → NobodyHolds b → NobodyHolds c
  idle_published ends idle = idle_by b c t (Publish 0 t) ends published (λ v e. let z : published ≡ held v = e in cc) idle (status_is b c t (Publish 0 t) ends published refl) (plan_kept b c t (Publish 0 t) ends)

  idle_parked : EndsBy (board_with_step b (Claim 0 t)) c (Park 0 t) → NobodyHolds b → NobodyHolds c
  idle_parked ends idle = idle_by b c t (Park 0 t) ends parked (λ v e. let z : parked ≡ held v = e in cc) idle (status_is b c t (Park 0 t) ends parked refl) (plan_kept b c t (Park 0 t) ends)

  pub idle_put_down : EndsBy (board_with_step b (Claim 0 t)) c (PutDown 0 t) → NobodyHolds b → NobodyHolds c
  idle_put_down ends idle = idle_by b c t (PutDown 0 t) ends ready (λ v e. let z : ready ≡ held v = e in cc) idle (status_is b c t (PutDown 0 t) ends ready refl) (plan_kept b c t (PutDown 0 t) ends)

  puts_kept : (x : Step) (ends : EndsBy (board_with_step b (Claim 0 t)) c x) → (effect (graph_of ends.last.plan) (state_of ends.last) x).has_put_down ≡ (state_of ends.last).has_put_down → (state_of c).has_put_down 0 ≡ (state_of b).has_put_down 0
  puts_kept x ends e =
      ap (λ (v : BoardValue). (state_of v).has_put_down 0) ends.is
      ∙ (ap (λ (s : Core). s.has_put_down 0) (state_step ends.last x)
      ∙ (ap (λ (f : ℕ → Bool). f 0) (e ∙ ends.worked.puts) ∙ claim_puts b t))

-- ---- the loop

-- what is so whenever the caller of a board has let go of a task
pub record Driven (a b : BoardValue) : Type 0 where
  pub continues : Continues a b
  pub idle : NobodyHolds b
  pub can : (state_of b).has_put_down 0 ≡ false
  pub done : IsFinished a → b ≡ a
  pub plan : IsPlan b.plan

-- where a task can be claimed, not all are published
pub not_finished : (a b : BoardValue) (t : ℕ) → Driven a b → IsLegal (board_with_step b (Claim 0 t)) → IsFinished a → ⊥
not_finished a b t d legal fin =
    let en = (legal_rest (graph_of b.plan) b.workers opening b.history (Claim 0 t ∷ []) legal).0.1 in
    let all = subst (λ (v : BoardValue). IsFinished v) (sym (d.done fin)) fin in
    claimable_unpublished (graph_of b.plan) (state_of b) t en.2 (all t (let k = d.plan.all_tasks in let l = en.0 in omega arith))

driven_by : (a b c : BoardValue) (t : ℕ) (x : Step) (ends : EndsBy (board_with_step b (Claim 0 t)) c x) → Driven a b → IsLegal (board_with_step b (Claim 0 t)) → NobodyHolds c → (state_of c).has_put_down 0 ≡ (state_of b).has_put_down 0 → Driven a c
driven_by a b c t x ends d legal idle puts = record {
  continues = goes_on b c t x ends a d.continues;
  idle = idle;
  can = puts ∙ d.can;
  done = λ fin. absurd (not_finished a b t d legal fin);
  plan = subst IsPlan (sym (plan_kept b c t x ends)) d.plan;
}

-- a task was claimed, and published or parked
pub driven_step : (a b c : BoardValue) (t : ℕ) → EndsWell (board_with_step b (Claim 0 t)) c 0 t → Driven a b → IsLegal (board_with_step b (Claim 0 t)) → Driven a c
driven_step a b c t (inl ends) d legal = driven_by a b c t (Publish 0 t) ends d legal (idle_published b c t ends d.idle) (puts_kept b c t (Publish 0 t) ends refl)
driven_step a b c t (inr ends) d legal = driven_by a b c t (Park 0 t) ends d legal (idle_parked b c t ends d.idle) (puts_kept b c t (Park 0 t) ends refl)

pub nearer_well : (b c : BoardValue) (t : ℕ) → EndsWell (board_with_step b (Claim 0 t)) c 0 t → IsPlan b.plan → IsLegal c → steps_at_most c.plan c.workers - length c.history < steps_at_most b.plan b.workers - length b.history
nearer_well b c t (inl ends) plan legal = nearer b c t (Publish 0 t) ends plan legal
nearer_well b c t (inr ends) plan legal = nearer b c t (Park 0 t) ends plan legal
