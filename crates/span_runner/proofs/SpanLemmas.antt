-- The tiles of plans, and spans that fit the number of tasks.
use Rattle.std.proofs.Common.{◌≡◌, ℕ, ◌≤◌, refl, ap, arith, cond}
use Rattle.std.specs.Prelude.{Bool, true, false, Some, None, nat_lt}
use Rattle.std.proofs.lemmas.Bool.Decides.{nat_tests}
use Rattle.tile_map.specs.Tiles.{across, down, tile_count}
use Rattle.tile_map.specs.declared.tiling.Tiling.{Tiling}
use Rattle.map_meaning.specs.Spans.{IsSpan}
use Rattle.map_meaning.specs.declared.known.Span.{Span}
use Rattle.map_meaning.specs.declared.known.Span.TheVariants as span
use Rattle.map_meaning.specs.declared.program.Program.{Program}
use Rattle.task_graph.specs.Admitted.{program_too_many, tiles_over}
use Rattle.task_graph.specs.Counts.{span_tasks, task_count}
use Rattle.task_graph.specs.Limits.{most_tasks}
use Rattle.task_graph.specs.Plans.{span_plan}
use Rattle.task_graph.proofs.Callers.{fit_the_count}

-- a plan is in its tiles
pub plan_tiling : (program : Program) (s : Span) (g : Tiling) → (span_plan program s g).tiling ≡ g
unfolding span_plan
plan_tiling program s g = refl

-- ---- numbers of tasks

by_test : (b : Bool) (n : ℕ) → nat_lt most_tasks n ≡ b → cond b (Some n) None ≡ None → n ≤ most_tasks
by_test true n t e = absurd (cc)
by_test false n t e = grind (arith, nat_tests)

tiles_are : (g : Tiling) → tiles_over g.tile_rows g.tile_cols g.rows g.cols ≡ tile_count g
unfolding down across
tiles_are g = refl

-- a span has few tasks where the program has
pub few_tasks : (program : Program) (s : Span) (g : Tiling) (block : ℕ) → IsSpan program s block →
    program_too_many g.tile_rows g.tile_cols block program g.rows g.cols ≡ None → span_tasks (tile_count g) program s ≤ most_tasks
few_tasks program s g block is none =
    let count : ℕ = task_count (tiles_over g.tile_rows g.tile_cols g.rows g.cols) program block in
    let all : count ≤ most_tasks = by_test (nat_lt most_tasks count) count refl none in
    let same : count ≡ task_count (tile_count g) program block = ap (λ (n : ℕ). task_count n program block) (tiles_are g) in
    let fits = fit_the_count (tile_count g) program s block is in
    omega arith

-- ---- spans of more steps

-- a span of few steps is one of more
pub wider : (program : Program) (s : Span) (few many : ℕ) → few ≤ many → IsSpan program s few → IsSpan program s many
wider program (span.Initial first end) few many le is = is
wider program (span.Steps first last) few many le is =
    record { some = is.some; order = is.order; there = is.there; few = (let a = is.few in omega arith) }
