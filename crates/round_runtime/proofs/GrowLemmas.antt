-- Boards that grow by steps of workers.
use Rattle.std.proofs.Common.{◌≡◌, ◌≢◌, ◌∙◌, ℕ, ◌-◌, ◌<◌, ◌≤◌, List, [], ◌∷◌, ◌++◌, length, length-append, ap, sym, subst, arith, append_assoc, Option, Ok, Err}
use mathlib.Core.Logic.{dite}
use native.Mathlib.Decide.{ℕ_discrete}
use Rattle.std.proofs.lemmas.List.{append-nil}
use Rattle.std.specs.Prelude.{IfOk, OnOk, Result}
use Rattle.core_model.specs.declared.step.Step.{Step}
use Rattle.core_model.specs.declared.step.Step.TheVariants.{Claim}
use Rattle.core_model.specs.Graphs.{Each}
use Rattle.core_model.specs.Steps.{IsByOthers, worker_of}
use Rattle.core_model.proofs.Callers.{left_by_others}
use Rattle.drain_meaning.specs.declared.op.FlowOp.{FlowOp}
use Rattle.flow_task.specs.Works.{TileWork}
use Rattle.plan_graph.specs.PlanGraphs.{IsPlan, graph_of}
use Rattle.task_board.specs.Boards.{BoardValue, IsFree, IsLegal, NobodyHolds, board_with_step}
use Rattle.task_board.specs.Tickets.{IsGood, board_with_steps}
use Rattle.task_board.specs.inside.Held.{steps_at_most}
use Rattle.task_board.proofs.Callers.{stays_good}
use Rattle.task_board.proofs.GoingLemmas.{few_steps}
use Rattle.round_runtime.specs.Rounds.{GrowsByWorkers}
use Rattle.round_runtime.specs.inside.Free.{AreFree, FreesItself}
use Rattle.round_runtime.proofs.StepLemmas.{each_append}

-- ---- what a call ends with

pub ok_of : {A E : Type 0} {P : Type 0} (r : Result A E) → P → OnOk r P
ok_of (Ok x) h = h
ok_of (Err e) h = tt

pub ok_more : {A E : Type 0} {P Q : Type 0} (r : Result A E) → (P → Q) → OnOk r P → OnOk r Q
ok_more (Ok x) f h = f h
ok_more (Err e) f h = h

pub if_more : {A E : Type 0} {P Q : A → Type 0} (r : Result A E) → ((x : A) → P x → Q x) → IfOk r P → IfOk r Q
if_more (Ok x) f h = f x h
if_more (Err e) f h = h

-- ---- steps of workers

pub each_more : {A : Type 0} (P Q : A → Type 0) (xs : List A) → ((x : A) → P x → Q x) → Each P xs → Each Q xs
each_more P Q [] f h = tt
each_more P Q (x ∷ xs) f h = (f x h.0, each_more P Q xs f h.1)

-- the steps of one worker are by others than another
pub own_others : (w v : ℕ) (more : List Step) → w ≢ v → Each (λ x. worker_of x ≡ w) more → IsByOthers v more
own_others w v more ne own = each_more (λ (x : Step). worker_of x ≡ w) (λ (x : Step). worker_of x ≢ v) more (λ x is e. ne (sym is ∙ e)) own

-- the steps of the workers from 1 to the last are by others than one that is none of them
pub by_others : (last v : ℕ) (more : List Step) → ((1 ≤ v) → (v ≤ last) → ⊥) → Each (λ x. (1 ≤ worker_of x) × (worker_of x ≤ last)) more → IsByOthers v more
by_others last v more out by = each_more (λ (x : Step). (1 ≤ worker_of x) × (worker_of x ≤ last)) (λ (x : Step). worker_of x ≢ v) more
    (λ x is e. out (subst (λ (n : ℕ). 1 ≤ n) e is.0) (subst (λ (n : ℕ). n ≤ last) e is.1)) by

-- who holds none holds none through what others do
pub free_kept : (b c : BoardValue) (v : ℕ) (more : List Step) → c ≡ board_with_steps b more → IsLegal c → IsByOthers v more → IsFree b v → IsFree c v
free_kept b c v more is legal others free =
    subst (λ (x : BoardValue). IsFree x v) (sym is)
    ((left_by_others (graph_of b.plan) b.workers b.history more v (subst IsLegal is legal) others).free free)

-- what is good for a board stays good through what others do
pub good_kept : (b c : BoardValue) (w t : ℕ) (o : Option (TileWork FlowOp)) (more : List Step) → IsPlan b.plan → c ≡ board_with_steps b more → IsLegal c → IsByOthers w more → IsGood b w t o → IsGood c w t o
good_kept b c w t o more plan is legal others good =
    subst (λ (x : BoardValue). IsGood x w t o) (sym is) (stays_good b more w t o plan (subst IsLegal is legal) others good)

-- ---- a round

module _ (b one two three : BoardValue) (n w t : ℕ) (same : w ≡ n) (claimed : one ≡ board_with_step b (Claim w t)) where
  -- the others hold none after a claim
  pub free_claimed : IsLegal one → AreFree b n → AreFree one (n - 1)
  free_claimed legal free v some most =
      let ne : w ≢ v = (λ e. let k = same in omega arith) in
      free_kept b one v (Claim w t ∷ []) claimed legal (ne, tt) (free v some (omega arith))

  plan_claimed : IsPlan b.plan → IsPlan one.plan
  plan_claimed plan = subst IsPlan (sym (ap (λ (v : BoardValue). v.plan) claimed)) plan

  -- the ticket is good after the steps of those below
  pub good_then : (o : Option (TileWork FlowOp)) → 1 ≤ n → IsPlan b.plan → IsLegal two → GrowsByWorkers (n - 1) one two → IsGood one w t o → IsGood two w t o
  good_then o some plan legal grows good =
      good_kept one two w t o grows.more (plan_claimed plan) grows.is legal
      (by_others (n - 1) w grows.more (λ low high. let k = same in omega arith) grows.by) good

  -- the board has grown by the claim, the steps of those below, and its own
  pub grows_round : 1 ≤ n → GrowsByWorkers (n - 1) one two → FreesItself w two three → GrowsByWorkers n b three
  grows_round some grows go = record {
    more = Claim w t ∷ [] ++ (grows.more ++ go.more);
    is =
        go.is ∙ (ap (λ (v : BoardValue). board_with_steps v go.more) (grows.is ∙ ap (λ (v : BoardValue). board_with_steps v grows.more) claimed)
        ∙ ap (λ (l : List Step). let v : BoardValue = record b { history = l } in v) (append_assoc (b.history ++ Claim w t ∷ []) grows.more go.more ∙ append_assoc b.history (Claim w t ∷ []) (grows.more ++ go.more)));
    by = (
      (let k = same in omega arith),
      each_append (λ (x : Step). (1 ≤ worker_of x) × (worker_of x ≤ n)) grows.more go.more
          (each_more (λ (x : Step). (1 ≤ worker_of x) × (worker_of x ≤ n - 1)) (λ (x : Step). (1 ≤ worker_of x) × (worker_of x ≤ n)) grows.more (λ x is. (is.0, (let k = is.1 in omega arith))) grows.by)
          (each_more (λ (x : Step). worker_of x ≡ w) (λ (x : Step). (1 ≤ worker_of x) × (worker_of x ≤ n)) go.more (λ x is. let k = same in (omega arith, omega arith)) go.own),
    );
  }

  -- and the workers down from this one hold none
  pub free_round : IsLegal three → AreFree two (n - 1) → FreesItself w two three → AreFree three n
  free_round legal free go v some most =
      dite (ℕ_discrete v w) (λ e. subst (λ (k : ℕ). IsFree three k) (sym e) go.free)
      (λ ne. free_kept two three v go.more go.is legal (own_others w v go.more (λ e. ne (sym e)) go.own) (free v some (let k = same in omega arith)))

  -- and has more steps
  pub longer_round : GrowsByWorkers (n - 1) one two → FreesItself w two three → length b.history < length three.history
  longer_round grows go =
      let p = length-append b.history (Claim w t ∷ []) in let q = length-append one.history grows.more in let r = length-append two.history go.more in
      let i = ap (λ (v : BoardValue). length v.history) claimed in let j = ap (λ (v : BoardValue). length v.history) grows.is in
      let k = ap (λ (v : BoardValue). length v.history) go.is in omega arith

-- ---- rounds

pub grows_none : (last : ℕ) (b : BoardValue) → GrowsByWorkers last b b
grows_none last b = record {
  more = [];
  is = ap (λ (l : List Step). let v : BoardValue = record b { history = l } in v) (sym (append-nil b.history));
  by = tt;
}

pub grows_more : (last : ℕ) (a b c : BoardValue) → GrowsByWorkers last a b → GrowsByWorkers last b c → GrowsByWorkers last a c
grows_more last a b c first then' = record {
  more = first.more ++ then'.more;
  is = then'.is ∙ (ap (λ (v : BoardValue). board_with_steps v then'.more) first.is ∙ ap (λ (l : List Step). let v : BoardValue = record a { history = l } in v) (append_assoc a.history first.more then'.more));
  by = each_append (λ (x : Step). (1 ≤ worker_of x) × (worker_of x ≤ last)) first.more then'.more first.by then'.by;
}

pub grows_plan : (last : ℕ) (b c : BoardValue) → GrowsByWorkers last b c → c.plan ≡ b.plan
grows_plan last b c grows = ap (λ (v : BoardValue). v.plan) grows.is

pub grows_workers : (last : ℕ) (b c : BoardValue) → GrowsByWorkers last b c → c.workers ≡ b.workers
grows_workers last b c grows = ap (λ (v : BoardValue). v.workers) grows.is

-- a round that makes steps brings a board nearer to its end
pub nearer_round : (last : ℕ) (b c d : BoardValue) → IsPlan b.plan → IsLegal d → GrowsByWorkers last b c → GrowsByWorkers last c d → length c.history < length d.history →
    steps_at_most d.plan d.workers - length d.history < steps_at_most c.plan c.workers - length c.history
nearer_round last b c d plan legal first then' longer =
    let kept : IsPlan d.plan = subst IsPlan (sym (grows_plan last c d then' ∙ grows_plan last b c first)) plan in
    let few = few_steps d kept legal in
    let same : steps_at_most d.plan d.workers ≡ steps_at_most c.plan c.workers = ap (λ (v : BoardValue). steps_at_most v.plan v.workers) then'.is in
    omega arith

-- where nobody holds a task, the workers hold none
pub free_idle : (b : BoardValue) (last : ℕ) → IsPlan b.plan → NobodyHolds b → AreFree b last
free_idle b last plan idle w some most t lt is = idle t w (let n = plan.all_tasks in omega arith) is

-- where none of the workers holds a task, and nobody held one before, nobody holds one
pub idle_round : (last : ℕ) (b c : BoardValue) → IsPlan b.plan → IsLegal c → NobodyHolds b → GrowsByWorkers last b c → AreFree c last → NobodyHolds c
idle_round last b c plan legal idle grows free t w lt is =
    let kept : IsPlan c.plan = subst IsPlan (sym (grows_plan last b c grows)) plan in
    let here : t < (graph_of c.plan).tasks = (let n = kept.all_tasks in omega arith) in
    let away : ((1 ≤ w) → (w ≤ last) → ⊥) = λ some most. free w some most t here is in
    free_kept b c w grows.more grows.is legal (by_others last w grows.more away grows.by)
    (λ u low at. idle u w (let n = plan.all_tasks in omega arith) at) t here is
