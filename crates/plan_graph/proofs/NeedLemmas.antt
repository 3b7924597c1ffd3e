-- What the tasks of a plan read, in the core's words.
use Rattle.std.proofs.Common.{◌≡◌, ◌≢◌, ℕ, suc, ◌<◌, ◌≤◌, List, [], ◌∷◌, length, get_or, refl, arith, inl, inr, false}
use Rattle.std.specs.Prelude.{◌⊎◌}
use Rattle.core_model.specs.Graphs.{Each}
use Rattle.task_graph.specs.declared.task.Task.{Task}
use Rattle.task_graph.specs.declared.task.Work.{Work}
use Rattle.task_graph.specs.declared.task.Work.TheVariants.{Local, Window, Near, Partial, Merge, Spread, Flow}
use Rattle.task_graph.specs.Plans.{IsNeedOf, PlanValue, needs_at, no_task, operation_code, task_at}
use Rattle.task_graph.proofs.Callers.{IsOrdered, IsWithin, each_at, keys_ascend, need_of, rank_few}
use Rattle.plan_graph.specs.Graphs.{is_flow_work}

-- what holds at each index holds of each
pub each_index : {A : Type 0} (P : A → Type 0) (xs : List A) (d : A) → ((i : ℕ) → i < length xs → P (get_or xs i d)) → Each P xs
each_index P [] d h = tt
each_index P (x ∷ xs) d h = (h 0 (omega arith), each_index P xs d (λ i below. h (suc i) (omega arith)))

pub not_flow : (w : Work) → w ≢ Flow → is_flow_work w ≡ false
not_flow Local h = refl
not_flow Window h = refl
not_flow Near h = refl
not_flow Partial h = refl
not_flow Merge h = refl
not_flow Spread h = refl
not_flow Flow h = absurd (h refl)

-- the number of a task's operation at its step
abbrev pub code_at : PlanValue → ℕ → ℕ
code_at plan t = operation_code (task_at plan t).step (task_at plan t).operation

-- a need is of an operation with a lower number, or of the same one and no transport
codes_of : (a b : Task) → IsWithin a → IsWithin b → IsNeedOf a b →
    (operation_code a.step a.operation < operation_code b.step b.operation) ⊎ ((operation_code a.step a.operation ≡ operation_code b.step b.operation) × (is_flow_work a.work ≡ false))
codes_of a b wa wb (inl (inl less)) = let oa = wa.operation in inl (omega arith)
codes_of a b wa wb (inl (inr same)) = let e = same.0 in let h = same.1 in inl (omega arith)
codes_of a b wa wb (inr own) = let s = own.0.0 in let o = own.0.1 in inr (omega arith, not_flow a.work own.1)

pub need_codes : (plan : PlanValue) → IsOrdered plan → (t : ℕ) → t < length plan.tasks → (i : ℕ) → i < length (needs_at plan t) →
    let n = get_or (needs_at plan t) i 0 in (n < t) × ((code_at plan n < code_at plan t) ⊎ ((code_at plan n ≡ code_at plan t) × (is_flow_work (task_at plan n).work ≡ false)))
need_codes plan is t below i less =
    let n = get_or (needs_at plan t) i 0 in
    let lower : n < t = each_at (λ m. m < t) (needs_at plan t) i 0 (is.lower t below) less in (
      lower,
      codes_of (task_at plan n) (task_at plan t) (each_at IsWithin plan.tasks n no_task is.within (omega arith)) (each_at IsWithin plan.tasks t no_task is.within below) (need_of plan is t below i less),
    )

-- the numbers of operations do not fall
pub codes_ascend : (plan : PlanValue) → IsOrdered plan → (t u : ℕ) → t ≤ u → u < length plan.tasks → code_at plan t ≤ code_at plan u
codes_ascend plan is t u less below =
    let h = keys_ascend plan is t u less below in
    let w : IsWithin (task_at plan u) = each_at IsWithin plan.tasks u no_task is.within below in
    let a = w.tile in
    let r = rank_few (task_at plan u).work in
    omega arith
