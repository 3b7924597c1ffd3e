-- How many tasks a script has: one a tile for an operation, for areas and the whole map two a tile and one that merges.
use Rattle.std.specs.Prelude.{ℕ, ◌+◌, ◌*◌, List, [], ◌∷◌, map, max, min, Result, Ok, Err, if◌then◌else◌}
use Rattle.cell_values.specs.declared.kind.Kind.TheVariants.{Ldd}
use Rattle.map_meaning.specs.Table.{is_kind}
use Rattle.script_syntax.specs.declared.tree.Script.{Script}
use Rattle.script_types.specs.declared.fault.MeaningFault.{MeaningFault}
use Rattle.script_types.specs.declared.typed.Line.{Line}
use Rattle.script_types.specs.declared.typed.Section.TheVariants.{Initial, Dynamic}
use Rattle.script_types.specs.Lowered.{Unnumbered, lines_in, post_order}
use Rattle.script_types.specs.Meaning.{meaning}
use Rattle.task_graph.specs.Classes.{op_class, tasks_for}
use Rattle.task_graph.specs.Counts.{most_tasks_of}

-- how many tasks the operations of an expression have, over so many tiles
abbrev pub operation_tasks : ℕ → List Unnumbered → ℕ
operation_tasks tiles [] = 0
operation_tasks tiles (u ∷ us) = tasks_for tiles (op_class u.op) + operation_tasks tiles us

-- how many tasks a statement has
abbrev pub line_tasks : ℕ → Line → ℕ
line_tasks tiles l = operation_tasks tiles (post_order l.statement.value)

-- how many tasks some statements have
abbrev pub lines_tasks : ℕ → List Line → ℕ
lines_tasks tiles [] = 0
lines_tasks tiles (l ∷ ls) = line_tasks tiles l + lines_tasks tiles ls

-- the same lists with this item first in the first of them
abbrev pub in_first : {X : Type 0} → X → List (List X) → List (List X)
in_first x [] = (x ∷ []) ∷ []
in_first x (xs ∷ more) = (x ∷ xs) ∷ more

-- the statements of `initial` by stages: each statement of kind ldd ends one, and the last one ends with the section
abbrev pub stages_among : List Line → List (List Line)
stages_among [] = [] ∷ []
stages_among (l ∷ ls) = if is_kind Ldd l.kind then (l ∷ []) ∷ stages_among ls else in_first l (stages_among ls)

-- The number of tasks of settled statements that run to this last step: the greatest of a stage of `initial`, or that of `dynamic`
-- times the steps of a block.
abbrev pub statement_tasks : ℕ → ℕ → ℕ → List Line → ℕ
statement_tasks tiles block steps ls =
    max (most_tasks_of (map (lines_tasks tiles) (stages_among (lines_in Initial ls))))
    (min block steps * lines_tasks tiles (lines_in Dynamic ls))

-- the same of a script, by its settled statements; none where it has a fault of meaning
abbrev pub tasks_by : ℕ → ℕ → ℕ → Result (List Line) MeaningFault → ℕ
tasks_by tiles block steps (Ok ls) = statement_tasks tiles block steps ls
tasks_by tiles block steps (Err fault) = 0

-- the number of tasks of a script, over so many tiles, by blocks of so many steps
unfoldable pub script_tasks : ℕ → ℕ → Script → ℕ
script_tasks tiles block script = tasks_by tiles block script.steps (meaning script)
