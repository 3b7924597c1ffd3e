-- The task of a plan with a number: the operation that it is of, and what it reads.
use Rattle.std.proofs.Common.{◌≡◌, ℕ, ◌<◌, false, List, length, get_or, map, sym, ap, subst, ◌∙◌}
use Rattle.std.specs.Prelude.{Some, slice_get}
use Rattle.std.specs.List.{AllZip}
use Rattle.std.proofs.lemmas.Option.{get_or_from_slice_get, slice_get_within}
use Rattle.tile_map.specs.declared.tiling.Tiling.{Tiling}
use Rattle.map_meaning.specs.declared.known.Known.{Known}
use Rattle.map_meaning.specs.declared.known.Span.{Span}
use Rattle.map_meaning.specs.declared.program.Operation.{Operation}
use Rattle.map_meaning.specs.declared.program.Program.{Program}
use Rattle.plan_graph.specs.Graphs.{is_flow_work}
use Rattle.span_operands.specs.declared.scope.Scope.{Scope}
use Rattle.span_operands.specs.inside.Scopes.{IsScopeOf}
use Rattle.task_laws.specs.Laws.{AreCutsOfMaps}
use Rattle.task_graph.specs.declared.task.Task.{Task}
use Rattle.task_graph.specs.Layouts.{laid_in, layout_of}
use Rattle.task_graph.specs.Needs.{task_for}
use Rattle.task_graph.specs.Plans.{PlanValue, needs_at, no_task, span_plan, task_at}
use Rattle.task_tiles.specs.declared.tile.Tile.{Tile}
use Rattle.task_tiles.specs.TaskTiles.{IsPlanned, IsTaskTile, IsWorkTile, onward_done, span_section}
use Rattle.tile_tasks.specs.inside.Runs.{CanRun, ReadsFor}
use Rattle.tile_tasks.proofs.LaidLemmas.{laid_is}
use Rattle.tile_tasks.proofs.NeedTiles.{are_told}
use Rattle.tile_tasks.proofs.PlanTasks.{IsWorkOf, is_work_of}
use Rattle.tile_tasks.proofs.RunLemmas.{reads_are, run_is}

-- it is of an operation of the span's section, and reads what its work does
pub record IsRunnable (plan : PlanValue) (s : Span) (program : Program) (known : Known) (t : ℕ) (ts : List Tile) : Type 0 where
  pub operation : Operation
  pub there : slice_get (span_section program s) (task_at plan t).operation ≡ Some operation
  pub run : (sc : Scope) → IsScopeOf sc operation.op → CanRun program s known plan.tiling (task_at plan t).step (task_at plan t).tile operation (task_at plan t).work sc
  pub reads : (sc : Scope) → IsScopeOf sc operation.op → ReadsFor (task_at plan t).work sc program s known plan.tiling (task_at plan t).step (task_at plan t).tile operation ts (onward_done program s known (task_at plan t).step)

pub runnable : {A : Type 0} (f : A → Tile) → AreCutsOfMaps → (plan : PlanValue) (s : Span) (program : Program) (known : Known) (t : ℕ) (xs : List A) → IsPlanned plan s program known → t < length plan.tasks → is_flow_work (task_at plan t).work ≡ false →
    AllZip (λ a n. IsTaskTile plan s program known n (f a)) xs (needs_at plan t) → IsRunnable plan s program known t (map f xs)
runnable f law plan s program known t xs planned below plain all =
    let ts = map f xs in
    let told = are_told f (IsTaskTile plan s program known) xs (needs_at plan t) all in
    let g = plan.tiling in
    let there : t < length (span_plan program s g).tasks = subst (λ (p : PlanValue). t < length p.tasks) planned.plans below in
    let of : IsWorkOf (layout_of program s g) (laid_in program s) (task_at plan t) (needs_at plan t) =
    subst (λ (p : PlanValue). IsWorkOf (layout_of program s g) (laid_in program s) (task_at p t) (needs_at p t)) (sym planned.plans) (is_work_of program s g t there) in
    let l = of.laid_there in
    let o = l.operation in
    let in_span = laid_is program s of.place l planned.spans of.there in
    let task : task_at plan t ≡ task_for l of.work of.tile = of.is in
    let no_flow : is_flow_work of.work ≡ false = subst (λ (k : Task). is_flow_work k.work ≡ false) task plain in
    let run = λ (sc : Scope) (scope_is : IsScopeOf sc o.op). run_is law plan s program known planned l in_span of.tile of.below of.work sc of.suits no_flow scope_is in
    record {
      operation = o;
      there = ap (λ (k : Task). slice_get (span_section program s) k.operation) task ∙ in_span.there;
      run = λ sc scope_is. subst (λ (k : Task). CanRun program s known g k.step k.tile o k.work sc) (sym task) (run sc scope_is);
      reads = λ sc scope_is.
          subst (λ (k : Task). ReadsFor k.work sc program s known g k.step k.tile o ts (onward_done program s known k.step)) (sym task)
          (reads_are law plan s program known planned l in_span of.tile of.below of.work sc of.place (needs_at plan t) ts of.there scope_is (run sc scope_is).suits of.reads told);
    }

-- the same of a task and an operation that were looked up
module _ (plan : PlanValue) (s : Span) (program : Program) (known : Known) (t : ℕ) (ts : List Tile) (is : IsRunnable plan s program known t ts) (task : Task) (os : List Operation) (d : Operation) (at : slice_get plan.tasks t ≡ Some task) (all : os ≡ span_section program s) where
  task_is : task_at plan t ≡ task
  task_is = get_or_from_slice_get plan.tasks t task no_task at

  operation_there : slice_get os task.operation ≡ Some is.operation
  operation_there = ap (λ (xs : List Operation). slice_get xs task.operation) all ∙ (ap (λ (k : Task). slice_get (span_section program s) k.operation) (sym task_is) ∙ is.there)

  pub operation_below : task.operation < length os
  operation_below = slice_get_within os task.operation is.operation operation_there

  same : is.operation ≡ get_or os task.operation d
  same = sym (get_or_from_slice_get os task.operation is.operation d operation_there)

  pub asked_of : (sc : Scope) (g : Tiling) → g ≡ plan.tiling → IsScopeOf sc (get_or os task.operation d).op → CanRun program s known g task.step task.tile (get_or os task.operation d) task.work sc
  asked_of sc g tiling scope_is =
      let run = is.run sc (subst (λ (o : Operation). IsScopeOf sc o.op) (sym same) scope_is) in
      let of = λ (k : Task) (o : Operation) (h : Tiling). CanRun program s known h k.step k.tile o k.work sc in
      subst (λ (h : Tiling). of task (get_or os task.operation d) h) (sym tiling)
      (subst (λ (o : Operation). of task o plan.tiling) same (subst (λ (k : Task). of k is.operation plan.tiling) task_is run))

  pub read_by : (sc : Scope) (g : Tiling) → g ≡ plan.tiling → IsScopeOf sc (get_or os task.operation d).op → ReadsFor task.work sc program s known g task.step task.tile (get_or os task.operation d) ts (onward_done program s known task.step)
  read_by sc g tiling scope_is =
      let reads = is.reads sc (subst (λ (o : Operation). IsScopeOf sc o.op) (sym same) scope_is) in
      let of = λ (k : Task) (o : Operation) (h : Tiling). ReadsFor k.work sc program s known h k.step k.tile o ts (onward_done program s known k.step) in
      subst (λ (h : Tiling). of task (get_or os task.operation d) h) (sym tiling)
      (subst (λ (o : Operation). of task o plan.tiling) same (subst (λ (k : Task). of k is.operation plan.tiling) task_is reads))

  pub gives : (g : Tiling) (tile : Tile) → g ≡ plan.tiling → IsWorkTile program known g task.step (onward_done program s known task.step) (get_or os task.operation d) task.work task.tile tile → IsTaskTile plan s program known t tile
  gives g tile tiling work_is =
      let of = λ (k : Task) (o : Operation) (h : Tiling). IsWorkTile program known h k.step (onward_done program s known k.step) o k.work k.tile tile in
      record {
        operation = is.operation;
        there = is.there;
        is = subst (λ (k : Task). of k is.operation plan.tiling) (sym task_is) (subst (λ (o : Operation). of task o plan.tiling) (sym same) (subst (λ (h : Tiling). of task (get_or os task.operation d) h) tiling work_is));
      }
