use Rattle.std.proofs.Common.{◌≡◌, ℕ, ◌+◌, List, [], ◌∷◌, ◌++◌, length, get_or, ap, sym, ◌∙◌, arith, Bool, false, length-append}
use mathlib.Core.Logic.{dite}
use native.Mathlib.Decide.{ℕ_discrete}
use Rattle.task_graph.specs.declared.task.Task.{Task}
use Rattle.task_graph.specs.Plans.{PlanValue, no_task, task_at}
use Rattle.task_board.specs.Tiles.{hands_out, hands_out_at}
use Rattle.task_board.proofs.Lists.{get_snoc_last, get_snoc_old, get_there}
use Rattle.task_board.proofs.fresh.kept_tasks.Goals as goal

pub task-requires : goal.task-requires
task-requires c =
    let p = c.tasks-tasks.ensures.plan in let t = p.plan_tasks in let v = c.tasks-tasks.ensures.value in
    let e = ap (λ (x : PlanValue). length x.tasks) c.plan.ensures in omega arith

pub loop-task-preserved : goal.loop-task-preserved
loop-task-preserved c =
    let i = c.loop-task.invariant in let t : ℕ = c.loop-task.task in let ks : List Bool = c.loop-task.kept.items in
    let x : Bool = c.is_handed_out.result in
    let items : c.push.new.self.items ≡ ks ++ x ∷ [] = c.in_ok-push.ensures.items in
    let at : task_at c.args.plan.now.plan t ≡ c.task.result = ap (λ (q : PlanValue). task_at q t) (sym c.plan.ensures) ∙ get_there c.plan.result.now.tasks t no_task c.task.result c.task.ensures in
    let is : x ≡ hands_out_at c.args.plan.now.plan c.args.program.now c.args.plan.now.span t =
    c.is_handed_out.ensures ∙ ap (λ s. hands_out c.args.program.now s c.task.result.work c.task.result.operation) c.span-span.ensures
    ∙ ap (λ (k : Task). hands_out c.args.program.now c.args.plan.now.span k.work k.operation) (sym at) in
    record {
      all = ap length items ∙ length-append ks (x ∷ []) ∙ ap (λ k. k + 1) i.all;
      kept = λ u u_lt. ap (λ (l : List Bool). get_or l u false) items ∙ dite (ℕ_discrete u t)
          (λ e. ap (λ k. get_or (ks ++ x ∷ []) k false) (e ∙ sym i.all) ∙ get_snoc_last ks x false ∙ is ∙ ap (hands_out_at c.args.plan.now.plan c.args.program.now c.args.plan.now.span) (sym e))
          (λ ne. get_snoc_old ks x false u (let a = i.all in omega arith) ∙ i.kept u (omega arith));
    }
