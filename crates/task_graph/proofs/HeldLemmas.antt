-- A plan that is held.
use Rattle.std.proofs.Common.{◌≡◌, ◌∙◌, ℕ, ◌*◌, ◌<◌, ◌≤◌, List, [], length, get_or, sym, ap, subst, refl, arith}
use Rattle.number_lists.specs.Lists.{numbers_in}
use Rattle.number_lists.specs.Turned.{turned_of}
use Rattle.number_lists.proofs.Callers.{list_few, turned_are_turned, turned_few}
use Rattle.tile_map.specs.declared.tiling.Tiling.{Tiling}
use Rattle.tile_map.specs.Tiles.{tile_at, tile_count}
use Rattle.tile_map.proofs.TileLemmas.{tile_below}
use Rattle.map_meaning.specs.Limits.{most_block, most_steps}
use Rattle.map_meaning.specs.Programs.{IsWellFormed}
use Rattle.map_meaning.specs.Spans.{IsSpan}
use Rattle.map_meaning.specs.declared.known.Span.{Span}
use Rattle.map_meaning.specs.declared.program.Program.{Program}
use Rattle.task_graph.specs.declared.flows.FlowTasks.{FlowTasks}
use Rattle.task_graph.specs.declared.layout.Laid.{Laid}
use Rattle.task_graph.specs.declared.layout.Layout.{Layout}
use Rattle.task_graph.specs.declared.task.Task.{Task}
use Rattle.task_graph.specs.Counts.{span_tasks}
use Rattle.task_graph.specs.Layouts.{firsts_from, laid_in, layout_of, tasks_in}
use Rattle.task_graph.specs.Limits.{most_needs, most_tasks}
use Rattle.task_graph.specs.Needs.{entries_from}
use Rattle.task_graph.specs.Plans.{PlanValue, entries_of, flows_from, span_plan}
use Rattle.task_graph.specs.declared.build.Drawn.{Drawn}
use Rattle.task_graph.specs.inside.Held.{IsHeldPlan, IsSmallPlan}
use Rattle.task_graph.specs.inside.Grown.{CanLayAll, IsDrawn, needs_of_entries, tasks_of_entries}
use Rattle.task_graph.proofs.Climbs.{each_at, each_more}
use Rattle.task_graph.proofs.Low.{can_from}
use Rattle.task_graph.proofs.PlanLaws.{count_tasks, is_ordered}
use Rattle.task_graph.proofs.Spans.{IsLaidWithin, are_laid, tasks_in-laid_in}

-- a tiling has a tile
pub some_tiles : (g : Tiling) → 0 < tile_count g
some_tiles g =
    let rows = g.sides.some_rows in
    let cols = g.sides.some_cols in
    let below : tile_at g 0 < tile_count g = tile_below g 0 (positive g.rows g.cols rows cols) in
    omega arith
  where
    positive : (m n : ℕ) → 0 < m → 0 < n → 0 < m * n
    positive m n a b = grind arith

-- the plan of a span that has no more tasks than a plan may have, and reads few, is one to hold
pub plan_is_held : (program : Program) (s : Span) (g : Tiling) → IsWellFormed program → IsSpan program s most_block → span_tasks (tile_count g) program s ≤ most_tasks →
    numbers_in (needs_of_entries (entries_of program s g)) ≤ most_needs → IsSmallPlan (tasks_of_entries (entries_of program s g)) (needs_of_entries (entries_of program s g))
unfolding span_plan
plan_is_held program s g well is few few_needs =
    let plan = span_plan program s g in
    let ordered = is_ordered program s g well is in
    let count = count_tasks program s g in
    let tasks : length (tasks_of_entries (entries_of program s g)) ≡ span_tasks (tile_count g) program s = count.0 in
    let needs : length (needs_of_entries (entries_of program s g)) ≡ span_tasks (tile_count g) program s = count.1 in
    record {
      few = omega arith;
      as_many = needs ∙ sym tasks;
      few_needs = few_needs;
      below = λ i j inside within.
          let lower = each_at (λ (n : ℕ). n < i) (get_or (needs_of_entries (entries_of program s g)) i []) j 0 (ordered.lower i (omega arith)) within in omega arith;
    }

-- and its operations can be laid
pub plan_can : (program : Program) (s : Span) (g : Tiling) → IsWellFormed program → IsSpan program s most_block → span_tasks (tile_count g) program s ≤ most_tasks → CanLayAll (layout_of program s g) 0 (laid_in program s)
plan_can program s g well is few =
    let laid = are_laid program s g well is in
    let count = tasks_in-laid_in (tile_count g) program s in
    can_from (layout_of program s g) 0 0 (laid_in program s) refl (λ place below. absurd (omega arith)) laid.before laid.many (each_more IsLaidWithin (λ l. l.step ≤ most_steps) (λ l w. w.step) (laid_in program s) laid.within) (omega arith)

-- ---- what is built is the plan

-- a plan by its parts
abbrev pub plan_by : Tiling → List Task → List (List ℕ) → List FlowTasks → PlanValue
plan_by g tasks needs flows = record { tiling = g; tasks = tasks; needs = needs; flows = flows }

pub few_laid : (program : Program) (s : Span) (g : Tiling) (tiles : ℕ) (laid : List Laid) → tiles ≡ tile_count g → laid ≡ laid_in program s → span_tasks (tile_count g) program s ≤ most_tasks → tasks_in tiles laid ≤ most_tasks
few_laid program s g tiles laid count is few =
    let e : tasks_in tiles laid ≡ span_tasks (tile_count g) program s = ap (λ (n : ℕ). tasks_in n laid) count ∙ (ap (tasks_in (tile_count g)) is ∙ tasks_in-laid_in (tile_count g) program s) in
    omega arith

-- a layout by its parts
abbrev pub layout_by : Tiling → Span → ℕ → List ℕ → Layout
layout_by g s many firsts = record { tiling = g; span = s; many = many; firsts = firsts }

pub can_lay : (program : Program) (s : Span) (g : Tiling) (many : ℕ) (firsts : List ℕ) (laid : List Laid) → IsWellFormed program → IsSpan program s most_block → span_tasks (tile_count g) program s ≤ most_tasks →
    many ≡ length program.dynamic → firsts ≡ firsts_from (tile_count g) 0 (laid_in program s) → laid ≡ laid_in program s → CanLayAll (layout_by g s many firsts) 0 laid
can_lay program s g many firsts laid well is few a b c =
    subst (λ (n : ℕ). CanLayAll (layout_by g s n firsts) 0 laid) (sym a)
    (subst (λ (fs : List ℕ). CanLayAll (layout_by g s (length program.dynamic) fs) 0 laid) (sym b)
    (subst (λ (ls : List Laid). CanLayAll (layout_of program s g) 0 ls) (sym c) (plan_can program s g well is few)))

pub entries_same : (program : Program) (s : Span) (g : Tiling) (many : ℕ) (firsts : List ℕ) (laid : List Laid) →
    many ≡ length program.dynamic → firsts ≡ firsts_from (tile_count g) 0 (laid_in program s) → laid ≡ laid_in program s → entries_from (layout_by g s many firsts) 0 laid ≡ entries_of program s g
entries_same program s g many firsts laid a b c =
    ap (λ (n : ℕ). entries_from (layout_by g s n firsts) 0 laid) a
    ∙ (ap (λ (fs : List ℕ). entries_from (layout_by g s (length program.dynamic) fs) 0 laid) b
    ∙ ap (λ (ls : List Laid). entries_from (layout_of program s g) 0 ls) c)

pub drawn_small : (program : Program) (s : Span) (g : Tiling) (drawn : Drawn) → IsWellFormed program → IsSpan program s most_block → span_tasks (tile_count g) program s ≤ most_tasks →
    IsDrawn drawn (entries_of program s g) → IsSmallPlan drawn.tasks drawn.needs
drawn_small program s g drawn well is few all =
    subst (λ (ts : List Task). IsSmallPlan ts drawn.needs) (sym all.tasks)
    (subst (λ (ns : List (List ℕ)). IsSmallPlan (tasks_of_entries (entries_of program s g)) ns) (sym all.needs)
    (plan_is_held program s g well is few (subst (λ (ns : List (List ℕ)). numbers_in ns ≤ most_needs) all.needs all.few)))

pub plan_same : (program : Program) (s : Span) (g : Tiling) (tasks : List Task) (needs : List (List ℕ)) (flows : List FlowTasks) →
    tasks ≡ tasks_of_entries (entries_of program s g) → needs ≡ needs_of_entries (entries_of program s g) → flows ≡ flows_from (tile_count g) 0 (laid_in program s) →
    plan_by g tasks needs flows ≡ span_plan program s g
unfolding span_plan
plan_same program s g tasks needs flows a b c =
    ap (λ (ts : List Task). plan_by g ts needs flows) a
    ∙ (ap (λ (ns : List (List ℕ)). plan_by g (tasks_of_entries (entries_of program s g)) ns flows) b
    ∙ ap (λ (fs : List FlowTasks). plan_by g (tasks_of_entries (entries_of program s g)) (needs_of_entries (entries_of program s g)) fs) c)

-- ---- what is held of one task

pub few_read : (needs : List (List ℕ)) (t : ℕ) (xs : List ℕ) → numbers_in needs ≤ most_needs → xs ≡ get_or needs t [] → length xs ≤ most_needs
few_read needs t xs few is = let one = list_few needs t in let same = ap length is in omega arith

pub few_readers : (tasks : List Task) (needs readers : List (List ℕ)) (t : ℕ) (xs : List ℕ) → IsHeldPlan tasks needs readers → t < length tasks → xs ≡ get_or readers t [] → length xs ≤ most_needs
few_readers tasks needs readers t xs is below e =
    let one = turned_few (length tasks) t needs below in
    let same : length xs ≡ length (get_or (turned_of (length tasks) needs) t []) = ap length (e ∙ ap (λ (rs : List (List ℕ)). get_or rs t []) is.turned) in
    let few = is.few_needs in
    omega arith

pub all_readers : (tasks : List Task) (needs readers : List (List ℕ)) → IsHeldPlan tasks needs readers → length readers ≡ length tasks
all_readers tasks needs readers is = ap length is.turned ∙ (turned_are_turned (length tasks) needs).many
