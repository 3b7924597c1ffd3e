-- How many tasks there are.
use Rattle.std.specs.Prelude.{ℕ, ◌+◌, ◌-◌, ◌*◌, ◌≤◌, List, [], ◌∷◌, map, max, min, slice_range}
use Rattle.map_meaning.specs.declared.known.Span.{Span}
use Rattle.map_meaning.specs.declared.known.Span.TheVariants as span
use Rattle.map_meaning.specs.declared.program.Operation.{Operation}
use Rattle.map_meaning.specs.declared.program.Program.{Program}
use Rattle.map_meaning.specs.Spans.{IsSpan, initial_stages}
use Rattle.task_graph.specs.Classes.{op_class, tasks_for}

-- how many tasks these operations have
abbrev pub tasks_of : ℕ → List Operation → ℕ
tasks_of tiles [] = 0
tasks_of tiles (o ∷ more) = tasks_for tiles (op_class o.op) + tasks_of tiles more

-- how many tasks a span has
abbrev pub span_tasks : ℕ → Program → Span → ℕ
span_tasks tiles program (span.Initial first end) = tasks_of tiles (slice_range program.initial first end)
span_tasks tiles program (span.Steps first last) = (last + 1 - first) * tasks_of tiles program.dynamic

-- the greatest of some numbers of tasks
abbrev pub most_tasks_of : List ℕ → ℕ
most_tasks_of [] = 0
most_tasks_of (n ∷ more) = max n (most_tasks_of more)

-- The number of tasks of a program: the greatest of a stage of `initial`, or that of `dynamic` times the steps of a block.
abbrev pub task_count : ℕ → Program → ℕ → ℕ
task_count tiles program block =
    max (most_tasks_of (map (span_tasks tiles program) (initial_stages program))) (min block program.steps * tasks_of tiles program.dynamic)

-- no span that a runner of this block may be asked for has more tasks than its program
abbrev pub FitTheCount : Type 0
FitTheCount = (tiles : ℕ) (program : Program) (s : Span) (block : ℕ) → IsSpan program s block →
    span_tasks tiles program s ≤ task_count tiles program block
