-- A worker that lets go of its task.
use Rattle.std.proofs.Common.{◌≡◌, ◌≢◌, ◌∙◌, ℕ, ◌<◌, List, [], ◌∷◌, ◌++◌, Option, ap, sym, subst, arith, append_assoc}
use Rattle.core_model.specs.declared.step.Step.{Step}
use Rattle.core_model.specs.Cores.{Core, Status, held, opening, upd}
use Rattle.core_model.specs.Graphs.{Each}
use Rattle.core_model.specs.Steps.{effect, worker_of}
use Rattle.core_model.proofs.Callers.{after_snoc, holds_one, upd_cases}
use Rattle.drain_meaning.specs.declared.op.FlowOp.{FlowOp}
use Rattle.flow_task.specs.Works.{TileWork}
use Rattle.plan_graph.specs.PlanGraphs.{IsPlan, PlanGraphValue, graph_of}
use Rattle.task_board.specs.Boards.{BoardValue, IsFree, IsLegal, board_with_step, state_of}
use Rattle.task_board.specs.Holders.{IsWorkedOn}
use Rattle.task_board.specs.Tickets.{IsGood}
use Rattle.round_runtime.specs.inside.Free.{FreesItself}

pub each_append : {A : Type 0} (P : A → Type 0) (xs ys : List A) → Each P xs → Each P ys → Each P (xs ++ ys)
each_append P [] ys one two = two
each_append P (x ∷ xs) ys one two = (one.0, each_append P xs ys one.1 two)

module _ (b last c : BoardValue) (w t : ℕ) (o : Option (TileWork FlowOp)) (plan : IsPlan b.plan) (legal : IsLegal b) (good : IsGood b w t o) (worked : IsWorkedOn w b last) where
  same_plan : last.plan ≡ b.plan
  same_plan = ap (λ (v : BoardValue). v.plan) worked.is

  -- the step leaves no task held
  free_after : (x : Step) (st : Status) (u : ℕ) → u ≡ t → ((s : Core) → (effect (graph_of last.plan) s x).status ≡ upd s.status u st) → ((v : ℕ) → st ≢ held v) → IsFree (board_with_step last x) w
  free_after x st u same writes open' k lt is =
      let now : upd (state_of b).status t st k ≡ held w =
      ap (λ (f : ℕ → Status). upd f t st k) (sym worked.status) ∙ (ap (λ (n : ℕ). upd (state_of last).status n st k) (sym same) ∙ (ap (λ (f : ℕ → Status). f k) (sym (writes (state_of last)))
      ∙ (ap (λ (s : Core). s.status k) (sym (after_snoc (graph_of last.plan) opening last.history x)) ∙ is))) in
      let here : k < (graph_of b.plan).tasks = subst (λ (p : PlanGraphValue). k < (graph_of p).tasks) same_plan lt in
      let own : t < (graph_of b.plan).tasks = (let n = plan.all_tasks in let l = good.holds.task in omega arith) in
      upd_cases (λ (z : Status). z ≡ held w → ⊥) (state_of b).status t k st (λ _ q. open' w q)
      (λ ne q. ne (sym (holds_one (graph_of b.plan) b.workers b.history legal w t k own here good.holds.holds q))) now

  -- so its holder has let go of it
  pub lets_go : (x : Step) (st : Status) (u : ℕ) → u ≡ t → worker_of x ≡ w → ((s : Core) → (effect (graph_of last.plan) s x).status ≡ upd s.status u st) → ((v : ℕ) → st ≢ held v) → c ≡ board_with_step last x → FreesItself w b c
  lets_go x st u same own writes open' is = record {
    more = worked.more ++ x ∷ [];
    is = is ∙ (ap (λ (v : BoardValue). board_with_step v x) worked.is ∙ ap (λ (l : List Step). let v : BoardValue = record b { history = l } in v) (append_assoc b.history worked.more (x ∷ [])));
    own = each_append (λ (y : Step). worker_of y ≡ w) worked.more (x ∷ []) worked.own (own, tt);
    free = subst (λ (v : BoardValue). IsFree v w) (sym is) (free_after x st u same writes open');
  }
