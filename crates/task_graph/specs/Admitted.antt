-- When a program has too many tasks for a run by tiles.
use Rattle.std.specs.Prelude.{ℕ, ◌*◌, Option, Some, None, nat_lt, if◌then◌else◌}
use Rattle.std.specs.Int.{div_ceil}
use Rattle.map_meaning.specs.declared.program.Program.{Program}
use Rattle.task_graph.specs.Counts.{task_count}
use Rattle.task_graph.specs.Limits.{most_tasks}

-- how many tiles of these sides cover a map of so many rows and columns
abbrev pub tiles_over : ℕ → ℕ → ℕ → ℕ → ℕ
tiles_over tile_rows tile_cols rows cols = div_ceil rows tile_rows * div_ceil cols tile_cols

-- the number of tasks, where a run may not have so many
abbrev pub too_many : ℕ → Option ℕ
too_many count = if nat_lt most_tasks count then Some count else None

-- The number of tasks of a program by tiles of these sides and by blocks of so many steps, over a map of so many rows and columns,
-- where a run may not have so many.
abbrev pub program_too_many : ℕ → ℕ → ℕ → Program → ℕ → ℕ → Option ℕ
program_too_many tile_rows tile_cols block program rows cols =
    too_many (task_count (tiles_over tile_rows tile_cols rows cols) program block)
