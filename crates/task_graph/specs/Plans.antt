-- Plans: the tasks of a span in their order, what each reads, and which of them are transports.
use Rattle.std.specs.Prelude.{◌≡◌, ◌≢◌, ◌⊎◌, ℕ, ◌+◌, ◌*◌, ◌<◌, List, [], ◌∷◌, ◌++◌, All, Some, get_or, length, map, slice_get, take}
use Rattle.number_lists.specs.Turned.{turned_of}
use Rattle.tile_map.specs.declared.tiling.Tiling.{Tiling}
use Rattle.tile_map.specs.Tiles.{tile_count}
use Rattle.map_meaning.specs.Limits.{most_block, most_operations}
use Rattle.map_meaning.specs.Programs.{IsWellFormed}
use Rattle.map_meaning.specs.Spans.{IsSpan}
use Rattle.map_meaning.specs.declared.known.Span.{Span}
use Rattle.map_meaning.specs.declared.op.Op.{Op}
use Rattle.map_meaning.specs.declared.op.Op.TheVariants as op
use Rattle.map_meaning.specs.declared.program.Program.{Program}
use Rattle.task_graph.specs.declared.class.Class.{Class}
use Rattle.task_graph.specs.declared.class.Class.TheVariants as class
use Rattle.task_graph.specs.declared.flows.FlowTasks.{FlowTasks}
use Rattle.task_graph.specs.declared.layout.Laid.{Laid}
use Rattle.task_graph.specs.declared.task.Task.{Task}
use Rattle.task_graph.specs.declared.task.Work.{Work}
use Rattle.task_graph.specs.declared.task.Work.TheVariants.{Local, Window, Near, Partial, Merge, Spread, Flow}
use Rattle.task_graph.specs.declared.layout.Layout.{Layout}
use Rattle.task_graph.specs.Classes.{op_class}
use Rattle.task_graph.specs.Counts.{span_tasks}
use Rattle.task_graph.specs.Layouts.{laid_in, layout_of, size_for, tasks_in}
use Rattle.task_graph.specs.Needs.{Entry, entries_from, needs_of, task_for}

-- a plan: its tiles, its tasks, what each of them reads, and the transports among its operations, each at its steps
pub record PlanValue : Type 0 where
  pub tiling : Tiling
  pub tasks : List Task
  pub needs : List (List ℕ)
  pub flows : List FlowTasks

-- the transport of an operation whose tasks begin at start, if it is one
abbrev pub flow_by : ℕ → ℕ → Op → List FlowTasks
flow_by start drain (op.Flow o) = record { first = start; drain = drain; op = o } ∷ []
flow_by start drain _ = []

-- the transports among these operations, whose tasks begin at start
abbrev pub flows_from : ℕ → ℕ → List Laid → List FlowTasks
flows_from tiles start [] = []
flows_from tiles start (l ∷ more) = flow_by start l.operation.drain l.operation.op ++ flows_from tiles (start + size_for tiles l) more

-- the tasks of a span and what each reads
abbrev pub entries_of : Program → Span → Tiling → List Entry
entries_of program s g = entries_from (layout_of program s g) 0 (laid_in program s)

-- the plan of a span
unfoldable pub span_plan : Program → Span → Tiling → PlanValue
span_plan program s g = record {
  tiling = g;
  tasks = map (λ (e : Entry). e.task) (entries_of program s g);
  needs = map (λ (e : Entry). e.needs) (entries_of program s g);
  flows = flows_from (tile_count g) 0 (laid_in program s);
}

-- ---- tasks by their numbers

-- in the place of a task where there is none
abbrev pub no_task : Task
no_task = record { step = 0; operation = 0; work = Local; tile = 0 }

-- the task with this number
abbrev pub task_at : PlanValue → ℕ → Task
task_at plan t = get_or plan.tasks t no_task

-- what the task with this number reads
abbrev pub needs_at : PlanValue → ℕ → List ℕ
needs_at plan t = get_or plan.needs t []

-- the tasks that read the task with this number, in ascending order, each as often as it reads it
abbrev pub readers_at : PlanValue → ℕ → List ℕ
readers_at plan t = get_or (turned_of (length plan.tasks) plan.needs) t []

-- the number of an operation at a step: it ascends by steps, and in a step by operations
abbrev pub operation_code : ℕ → ℕ → ℕ
operation_code step operation = step * most_operations + operation

-- the place of a work among those of an operation
abbrev pub rank : Work → ℕ
rank Local = 0
rank Window = 1
rank Near = 2
rank Partial = 3
rank Merge = 4
rank Spread = 5
rank Flow = 6

-- the tasks are of one operation at one step
abbrev pub AreOfOne : Task → Task → Type 0
AreOfOne a b = (a.step ≡ b.step) × (a.operation ≡ b.operation)

-- the first is a task of an earlier step, or of an earlier operation of the same step
abbrev pub IsOfEarlier : Task → Task → Type 0
IsOfEarlier a b = (a.step < b.step) ⊎ ((a.step ≡ b.step) × (a.operation < b.operation))

-- the first comes before by its work, or by its tile
abbrev pub IsOfLower : Task → Task → Type 0
IsOfLower a b = (rank a.work < rank b.work) ⊎ ((a.work ≡ b.work) × (a.tile < b.tile))

-- a task stands before another: by step, operation, work and tile
abbrev pub IsTaskBefore : Task → Task → Type 0
IsTaskBefore a b = IsOfEarlier a b ⊎ (AreOfOne a b × IsOfLower a b)

-- a need is a task of an earlier operation, or one of the same that is no transport's
abbrev pub IsNeedOf : Task → Task → Type 0
IsNeedOf a b = IsOfEarlier a b ⊎ (AreOfOne a b × (a.work ≢ Flow))

-- ---- what a task is

-- the work whose tasks give an operation's value
abbrev pub value_work : Class → Work
value_work class.Local = Local
value_work class.Window = Window
value_work class.Near = Near
value_work class.Area = Spread
value_work class.Flow = Flow

-- The task is that of an operation of the list at its step, and reads what such a task does.
pub record IsTaskOf (y : Layout) (laid : List Laid) (task : Task) (needs : List ℕ) : Type 0 where
  pub place : ℕ
  pub laid_there : Laid
  pub there : slice_get laid place ≡ Some laid_there
  pub work : Work
  pub tile : ℕ
  pub is : task ≡ task_for laid_there work tile
  pub reads : needs ≡ needs_of y (tasks_in (tile_count y.tiling) (take place laid)) laid_there work tile

-- each task is one of the span's
abbrev pub AreOfTheSpan : Type 0
AreOfTheSpan = (program : Program) (s : Span) (g : Tiling) (t : ℕ) → t < length (span_plan program s g).tasks →
    IsTaskOf (layout_of program s g) (laid_in program s) (task_at (span_plan program s g) t) (needs_at (span_plan program s g) t)

-- the first task of an operation's value is that of the tile 0, and those of the other tiles follow
abbrev pub GiveTheValues : Type 0
GiveTheValues = (program : Program) (s : Span) (g : Tiling) (place : ℕ) (l : Laid) (tile : ℕ) →
    slice_get (laid_in program s) place ≡ Some l → tile < tile_count g →
    let plan = span_plan program s g in
    let t = get_or (layout_of program s g).firsts place 0 + tile in
    (t < length plan.tasks) × (task_at plan t ≡ task_for l (value_work (op_class l.operation.op)) tile)

-- ---- laws

-- it is so of the plan of each span of a well-formed program
abbrev pub OfAllPlans : (PlanValue → Type 0) → Type 0
OfAllPlans P = (program : Program) (s : Span) (g : Tiling) → IsWellFormed program → IsSpan program s most_block → P (span_plan program s g)

-- a plan has as many tasks as its span
abbrev pub CountTasks : Type 0
CountTasks = (program : Program) (s : Span) (g : Tiling) →
    (length (span_plan program s g).tasks ≡ span_tasks (tile_count g) program s)
    × (length (span_plan program s g).needs ≡ span_tasks (tile_count g) program s)

-- tasks ascend by step, operation, work and tile
abbrev pub StandInOrder : Type 0
StandInOrder = OfAllPlans (λ plan. (t u : ℕ) → t < u → u < length plan.tasks → IsTaskBefore (task_at plan t) (task_at plan u))

-- each task reads only tasks with lower numbers
abbrev pub ReadLower : Type 0
ReadLower = OfAllPlans (λ plan. (t : ℕ) → t < length plan.tasks → All (λ n. n < t) (needs_at plan t))

-- what a task reads was made by an earlier operation, or by its own before it, but not by a transport's task
abbrev pub ReadEarlier : Type 0
ReadEarlier = OfAllPlans (λ plan. (t : ℕ) → t < length plan.tasks → All (λ n. IsNeedOf (task_at plan n) (task_at plan t)) (needs_at plan t))
