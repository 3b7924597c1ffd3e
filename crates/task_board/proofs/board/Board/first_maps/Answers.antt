use Rattle.std.proofs.Common.{◌≡◌, ℕ, ◌+◌, ◌<◌, ◌++◌, List, length, ap, sym, ◌∙◌, subst, arith, add-one}
use Rattle.std.specs.Arc.{arc_value}
use Rattle.tile_map.specs.declared.tiling.Tiling.{Tiling}
use Rattle.tile_map.specs.Tiles.{tile_count}
use Rattle.map_meaning.specs.declared.known.Known.{Known}
use Rattle.map_meaning.specs.declared.known.Span.{Span}
use Rattle.map_meaning.specs.declared.known.StepMap.{StepMap}
use Rattle.map_meaning.specs.declared.program.Operation.{Operation}
use Rattle.map_meaning.specs.declared.program.Program.{Program}
use Rattle.map_meaning.specs.Evaluation.{section_maps}
use Rattle.map_meaning.specs.Maps.{WholeMap}
use Rattle.map_meaning.specs.Spans.{first_operation, kept_maps, span_operations}
use Rattle.task_graph.specs.Counts.{tasks_of}
use Rattle.task_graph.specs.Layouts.{tasks_in}
use Rattle.task_graph.specs.Plans.{PlanValue}
use Rattle.plan_graph.specs.PlanGraphs.{PlanGraphValue}
use Rattle.task_tiles.specs.TaskTiles.{onward_done}
use Rattle.task_board.specs.Boards.{BoardValue, IsFinished}
use Rattle.task_board.specs.inside.Collected.{first_maps, span_begin, step_count}
use Rattle.task_board.proofs.MapLemmas.{have_same, have_tiles}
use Rattle.task_board.proofs.SpanTasks.{laid_before, tasks_before_next, tasks_few}
use Rattle.task_board.proofs.board.Board.first_maps.Goals as goal

pub step_maps-requires-clause-tasks : goal.step_maps-requires-clause-tasks
step_maps-requires-clause-tasks g' c =
    let i = c.self.inside in let b = c.self.invariant in
    let p : PlanGraphValue = arc_value i.plan in let program : Program = arc_value i.program in let known : Known = arc_value i.known in
    let s : Span = p.span in let g : Tiling = p.plan.tiling in let n : ℕ = c.loop-n.n in
    let tiling : c.tiling.result.now ≡ g = c.tiling.ensures ∙ ap (λ (q : PlanValue). q.tiling) (c.plan.ensures ∙ ap (λ (v : PlanGraphValue). v.plan) c.deref-in-loop-n.ensures) in
    let span_is : c.span-span.result ≡ s = c.span-span.ensures ∙ ap (λ (v : PlanGraphValue). v.span) c.deref.ensures in
    let ops : c.operations_of-operations.result.now ≡ span_operations program s = c.operations_of-operations.ensures ∙ ap (λ (q : Program). span_operations q c.span-span.result) c.deref-3.ensures ∙ ap (span_operations program) span_is in
    let task : c.loop-n.task ≡ tasks_in (tile_count g) (laid_before program s n) = c.loop-n.invariant.task ∙ ap (λ (v : BoardValue). tasks_in (tile_count v.plan.plan.tiling) (laid_before v.program v.plan.span n)) (sym c.self.view_is) in
    let many = ap (λ (v : BoardValue). step_count v.plan.span) c.self.view_is in
    let steps = c.requires.steps in
    let lt : n < step_count s = omega arith in
    let sum : c.loop-n.task + tasks_of (tile_count c.tiling.result.now) c.operations_of-operations.result.now ≡ tasks_in (tile_count g) (laid_before program s n) + tasks_of (tile_count g) (span_operations program s) =
    ap (λ (k : ℕ). k + tasks_of (tile_count c.tiling.result.now) c.operations_of-operations.result.now) task
    ∙ ap (λ (h : Tiling). tasks_in (tile_count g) (laid_before program s n) + tasks_of (tile_count h) c.operations_of-operations.result.now) tiling
    ∙ ap (λ (l : List Operation). tasks_in (tile_count g) (laid_before program s n) + tasks_of (tile_count g) l) ops in
    let few = tasks_few program s g n lt in
    let plans = ap (λ (q : PlanValue). length q.tasks) b.of.planned.plans in
    let all = b.plan.plan_tasks in let low = b.plan.few_tasks in
    omega arith

pub step_maps-requires-clause-there : goal.step_maps-requires-clause-there
step_maps-requires-clause-there g' c =
    let i = c.self.inside in let b = c.self.invariant in
    let p : PlanGraphValue = arc_value i.plan in let program : Program = arc_value i.program in let known : Known = arc_value i.known in
    let s : Span = p.span in let g : Tiling = p.plan.tiling in let n : ℕ = c.loop-n.n in
    let tiling : c.tiling.result.now ≡ g = c.tiling.ensures ∙ ap (λ (q : PlanValue). q.tiling) (c.plan.ensures ∙ ap (λ (v : PlanGraphValue). v.plan) c.deref-in-loop-n.ensures) in
    let span_is : c.span-span.result ≡ s = c.span-span.ensures ∙ ap (λ (v : PlanGraphValue). v.span) c.deref.ensures in
    let ops : c.operations_of-operations.result.now ≡ span_operations program s = c.operations_of-operations.ensures ∙ ap (λ (q : Program). span_operations q c.span-span.result) c.deref-3.ensures ∙ ap (span_operations program) span_is in
    let task : c.loop-n.task ≡ tasks_in (tile_count g) (laid_before program s n) = c.loop-n.invariant.task ∙ ap (λ (v : BoardValue). tasks_in (tile_count v.plan.plan.tiling) (laid_before v.program v.plan.span n)) (sym c.self.view_is) in
    let many = ap (λ (v : BoardValue). step_count v.plan.span) c.self.view_is in
    let steps = c.requires.steps in
    let lt : n < step_count s = omega arith in
    let sum : c.loop-n.task + tasks_of (tile_count c.tiling.result.now) c.operations_of-operations.result.now ≡ tasks_in (tile_count g) (laid_before program s n) + tasks_of (tile_count g) (span_operations program s) =
    ap (λ (k : ℕ). k + tasks_of (tile_count c.tiling.result.now) c.operations_of-operations.result.now) task
    ∙ ap (λ (h : Tiling). tasks_in (tile_count g) (laid_before program s n) + tasks_of (tile_count h) c.operations_of-operations.result.now) tiling
    ∙ ap (λ (l : List Operation). tasks_in (tile_count g) (laid_before program s n) + tasks_of (tile_count g) l) ops in
    let finished = subst (λ (v : BoardValue). IsFinished v) (sym c.self.view_is) c.requires.finished in
    let maps : List WholeMap = section_maps s (onward_done program s known (span_begin s + n)) in
    let number : c.first_number.result ≡ first_operation s = c.first_number.ensures ∙ ap first_operation span_is in
    let have = have_same c.tiling.result.now g c.as_slice.result.now i.tiles.items c.loop-n.task (tasks_in (tile_count g) (laid_before program s n)) c.first_number.result (first_operation s) maps c.operations_of-operations.result.now (span_operations program s)
    tiling c.as_slice.ensures.value task number ops (have_tiles b finished n lt) in
    (maps, have)

pub loop-n-preserved : goal.loop-n-preserved
loop-n-preserved g' c =
    let i = c.self.inside in let b = c.self.invariant in
    let p : PlanGraphValue = arc_value i.plan in let program : Program = arc_value i.program in let known : Known = arc_value i.known in
    let s : Span = p.span in let g : Tiling = p.plan.tiling in let n : ℕ = c.loop-n.n in
    let tiling : c.tiling.result.now ≡ g = c.tiling.ensures ∙ ap (λ (q : PlanValue). q.tiling) (c.plan.ensures ∙ ap (λ (v : PlanGraphValue). v.plan) c.deref-in-loop-n.ensures) in
    let span_is : c.span-span.result ≡ s = c.span-span.ensures ∙ ap (λ (v : PlanGraphValue). v.span) c.deref.ensures in
    let ops : c.operations_of-operations.result.now ≡ span_operations program s = c.operations_of-operations.ensures ∙ ap (λ (q : Program). span_operations q c.span-span.result) c.deref-3.ensures ∙ ap (span_operations program) span_is in
    let task : c.loop-n.task ≡ tasks_in (tile_count g) (laid_before program s n) = c.loop-n.invariant.task ∙ ap (λ (v : BoardValue). tasks_in (tile_count v.plan.plan.tiling) (laid_before v.program v.plan.span n)) (sym c.self.view_is) in
    let many = ap (λ (v : BoardValue). step_count v.plan.span) c.self.view_is in
    let steps = c.requires.steps in
    let lt : n < step_count s = omega arith in
    let sum : c.loop-n.task + tasks_of (tile_count c.tiling.result.now) c.operations_of-operations.result.now ≡ tasks_in (tile_count g) (laid_before program s n) + tasks_of (tile_count g) (span_operations program s) =
    ap (λ (k : ℕ). k + tasks_of (tile_count c.tiling.result.now) c.operations_of-operations.result.now) task
    ∙ ap (λ (h : Tiling). tasks_in (tile_count g) (laid_before program s n) + tasks_of (tile_count h) c.operations_of-operations.result.now) tiling
    ∙ ap (λ (l : List Operation). tasks_in (tile_count g) (laid_before program s n) + tasks_of (tile_count g) l) ops in
    let finished = subst (λ (v : BoardValue). IsFinished v) (sym c.self.view_is) c.requires.finished in
    let maps : List WholeMap = section_maps s (onward_done program s known (span_begin s + n)) in
    let number : c.first_number.result ≡ first_operation s = c.first_number.ensures ∙ ap first_operation span_is in
    let have = have_same c.tiling.result.now g c.as_slice.result.now i.tiles.items c.loop-n.task (tasks_in (tile_count g) (laid_before program s n)) c.first_number.result (first_operation s) maps c.operations_of-operations.result.now (span_operations program s)
    tiling c.as_slice.ensures.value task number ops (have_tiles b finished n lt) in
    let step = c.begin.ensures ∙ ap span_begin span_is in
    record {
      task = c.in_ok-task.ensures.next ∙ sum ∙ sym (tasks_before_next (tile_count g) program s n)
          ∙ ap (λ (v : BoardValue). tasks_in (tile_count v.plan.plan.tiling) (laid_before v.program v.plan.span (n + 1))) c.self.view_is;
      maps = c.in_ok-task.ensures.maps maps have
          ∙ ap (λ (l : List StepMap). l ++ kept_maps (c.begin.result + n) maps c.first_number.result c.operations_of-operations.result.now) (c.loop-n.invariant.maps ∙ ap (λ (v : BoardValue). first_maps v.program v.plan.span v.known n) (sym c.self.view_is))
          ∙ ap (λ (k : ℕ). first_maps program s known n ++ kept_maps (k + n) maps c.first_number.result c.operations_of-operations.result.now) step
          ∙ ap (λ (k : ℕ). first_maps program s known n ++ kept_maps (span_begin s + n) maps k c.operations_of-operations.result.now) number
          ∙ ap (λ (l : List Operation). first_maps program s known n ++ kept_maps (span_begin s + n) maps (first_operation s) l) ops
          ∙ ap (first_maps program s known) (sym (add-one n))
          ∙ ap (λ (v : BoardValue). first_maps v.program v.plan.span v.known (n + 1)) c.self.view_is;
    }
