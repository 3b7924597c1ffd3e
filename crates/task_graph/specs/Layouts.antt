-- A span as one list of operations at steps, and where their tasks stand.
use Rattle.std.specs.Prelude.{ℕ, ◌+◌, ◌-◌, ◌*◌, nat_le, nat_lt, if◌then◌else◌, List, [], ◌∷◌, length, slice_range, Option, Some, None}
use Rattle.std.specs.List.{flat_map, range_with_len}
use Rattle.tile_map.specs.declared.tiling.Tiling.{Tiling}
use Rattle.tile_map.specs.Tiles.{tile_count}
use Rattle.map_meaning.specs.declared.known.Span.{Span}
use Rattle.map_meaning.specs.declared.known.Span.TheVariants as span
use Rattle.map_meaning.specs.declared.program.Operand.{Operand}
use Rattle.map_meaning.specs.declared.program.Operand.TheVariants.{Initial, Now, Last}
use Rattle.map_meaning.specs.declared.program.Operation.{Operation}
use Rattle.map_meaning.specs.declared.program.Program.{Program}
use Rattle.task_graph.specs.declared.layout.Laid.{Laid}
use Rattle.task_graph.specs.declared.layout.Layout.{Layout}
use Rattle.task_graph.specs.Classes.{before_value, op_class, tasks_for}

-- operations at one step, numbered from n
abbrev pub laid_from : ℕ → ℕ → List Operation → List Laid
laid_from step n [] = []
laid_from step n (o ∷ more) = record { step = step; number = n; operation = o } ∷ laid_from step (n + 1) more

-- the operations of a span at its steps, in their order
abbrev pub laid_of : List Operation → List Operation → Span → List Laid
laid_of initial dynamic (span.Initial first end) = laid_from 0 first (slice_range initial first end)
laid_of initial dynamic (span.Steps first last) =
    flat_map (λ step. laid_from step 0 dynamic) (range_with_len first (last + 1 - first))

-- the operations of a program's span
abbrev pub laid_in : Program → Span → List Laid
laid_in program s = laid_of program.initial program.dynamic s

-- The place in that list of the operation that makes an operand's value, where the span makes it. A step has so many operations.
abbrev pub maker_of : Span → ℕ → ℕ → Operand → Option ℕ
maker_of (span.Initial first end) many step (Initial n) = if nat_le first n then Some (n - first) else None
maker_of (span.Steps first last) many step (Now n) = Some ((step - first) * many + n)
maker_of (span.Steps first last) many step (Last dynamic initial) =
    if nat_lt first step then Some ((step - 1 - first) * many + dynamic) else None
maker_of _ many step _ = None

-- how many tasks an operation at a step has
abbrev pub size_for : ℕ → Laid → ℕ
size_for tiles l = tasks_for tiles (op_class l.operation.op)

-- how many tasks these operations have
abbrev pub tasks_in : ℕ → List Laid → ℕ
tasks_in tiles [] = 0
tasks_in tiles (l ∷ more) = size_for tiles l + tasks_in tiles more

-- the first task of each operation's value, where so many tasks come before
abbrev pub firsts_from : ℕ → ℕ → List Laid → List ℕ
firsts_from tiles start [] = []
firsts_from tiles start (l ∷ more) =
    (start + before_value tiles (op_class l.operation.op)) ∷ firsts_from tiles (start + size_for tiles l) more

-- the layout of a span
abbrev pub layout_of : Program → Span → Tiling → Layout
layout_of program s g = record {
  tiling = g;
  span = s;
  many = length program.dynamic;
  firsts = firsts_from (tile_count g) 0 (laid_in program s);
}
