-- The value of a list of operations, one by one over whole maps.
use Rattle.std.specs.Prelude.{ℕ, ◌-◌, ◌==◌, List, [], ◌∷◌, ◌++◌, drop, length, map, take, Result, Ok, if◌then◌else◌}
use Rattle.text_base.specs.Results.{◌>>=◌}
use Rattle.tile_map.specs.Cuts.{cell_at}
use Rattle.tile_map.specs.Parts.{Outcome, part_of}
use Rattle.tile_map.specs.declared.part.Part.{Part}
use Rattle.map_meaning.specs.declared.known.OverAt.{OverAt}
use Rattle.map_meaning.specs.declared.known.Span.{Span}
use Rattle.map_meaning.specs.declared.known.Span.TheVariants as span
use Rattle.map_meaning.specs.declared.program.Operand.{Operand}
use Rattle.map_meaning.specs.declared.program.DrainFrom.{DrainFrom}
use Rattle.map_meaning.specs.declared.program.DrainFrom.TheVariants as from
use Rattle.map_meaning.specs.declared.program.DrainUse.{DrainUse}
use Rattle.map_meaning.specs.declared.program.Operand.TheVariants.{Unused, Literal, Time, Input, Stack, Initial, Now, Last, Drain}
use Rattle.map_meaning.specs.declared.program.Operation.{Operation}
use Rattle.map_meaning.specs.declared.program.Program.{Program}
use Rattle.map_meaning.specs.Maps.{WholeMap, CellAt, everywhere, nowhere, nth, step_cell}
use Rattle.map_meaning.specs.Rules.{outcome_of}
use Rattle.map_meaning.specs.Scenes.{Scene, masked_map, place_count, setting_at, stack_map}
use Rattle.map_meaning.specs.Overs.{whole_or_over}
use Rattle.map_meaning.specs.Programs.{all_operands, kinds_of}

-- the maps of the operations that are done, by their numbers: those of `initial`, those of `dynamic` at the step, and those of
-- `dynamic` at the step before; and the codes of the drain maps that are computed, by their numbers
pub record Done : Type 0 where
  pub initial : List WholeMap
  pub dynamic : List WholeMap
  pub last : List WholeMap
  pub drains : List WholeMap

-- nothing is done
abbrev pub nothing_done : Done
nothing_done = record { initial = []; dynamic = []; last = []; drains = [] }

-- the same with the map of the next operation of the span
abbrev pub with_map : Span → Done → WholeMap → Done
with_map (span.Initial first end) done m =
    record { initial = done.initial ++ m ∷ []; dynamic = done.dynamic; last = done.last; drains = done.drains }
with_map (span.Steps first last) done m =
    record { initial = done.initial; dynamic = done.dynamic ++ m ∷ []; last = done.last; drains = done.drains }

-- the same with the codes of the next drain map
abbrev pub with_drain : Done → WholeMap → Done
with_drain done codes =
    record { initial = done.initial; dynamic = done.dynamic; last = done.last; drains = done.drains ++ codes ∷ [] }

-- the maps of the operations of the span's section, by their numbers
abbrev pub section_maps : Span → Done → List WholeMap
section_maps (span.Initial first end) done = done.initial
section_maps (span.Steps first last) done = done.dynamic

-- The map that a name had at the end of the step before, where `dynamic` and `initial` gave it those of these operations: at
-- step 1 the map of `initial`.
abbrev pub last_map : Scene → Done → ℕ → ℕ → WholeMap
last_map scene done dynamic initial = if scene.step == 1 then nth done.initial initial else nth done.last dynamic

-- an operand by its places
abbrev pub operand_cell : Scene → Done → Operand → CellAt
operand_cell scene done Unused = nowhere
operand_cell scene done (Literal kind cell) = λ place. cell
operand_cell scene done Time = λ place. step_cell scene.step
operand_cell scene done (Input n) = cell_at (nth scene.inputs n)
operand_cell scene done (Stack n) = cell_at (stack_map scene n)
operand_cell scene done (Initial n) = cell_at (nth done.initial n)
operand_cell scene done (Now n) = cell_at (nth done.dynamic n)
operand_cell scene done (Last dynamic initial) = cell_at (last_map scene done dynamic initial)
operand_cell scene done (Drain n) = cell_at (nth done.drains n)

-- the map of an operand
abbrev pub operand_map : Scene → Done → Operand → WholeMap
operand_map scene done Unused = []
operand_map scene done (Literal kind cell) = everywhere (place_count scene) cell
operand_map scene done Time = everywhere (place_count scene) (step_cell scene.step)
operand_map scene done (Input n) = nth scene.inputs n
operand_map scene done (Stack n) = stack_map scene n
operand_map scene done (Initial n) = nth done.initial n
operand_map scene done (Now n) = nth done.dynamic n
operand_map scene done (Last dynamic initial) = last_map scene done dynamic initial
operand_map scene done (Drain n) = nth done.drains n

-- what an operation gives at a place
abbrev pub outcome_at : Program → Scene → Done → Operation → ℕ → Outcome
outcome_at program scene done o =
    outcome_of o.op (setting_at scene o.file o.window (kinds_of program o)) (map (operand_cell scene done) (all_operands o))

-- the map of an operation, with a missing value where it is Over, and its first Over
unfoldable pub operation_part : Program → Scene → Done → Operation → Part
operation_part program scene done o = part_of (outcome_at program scene done o) (place_count scene)

-- the map of an operation, or its first Over
abbrev pub operation_value : Program → Scene → Done → Operation → Result WholeMap OverAt
operation_value program scene done o = whole_or_over scene o.statement o.number (operation_part program scene done o)

-- the maps of operations of a span in their order, or the first Over
abbrev pub operation_values : Program → Scene → Span → Done → List Operation → Result Done OverAt
operation_values program scene s done [] = Ok done
operation_values program scene s done (o ∷ more) =
    operation_value program scene done o >>= λ m. operation_values program scene s (with_map s done m) more

-- ---- the section `initial`

-- the codes of a drain map, from what is done before it
abbrev pub drain_codes : Scene → Done → DrainFrom → WholeMap
drain_codes scene done (from.Input n) = nth scene.inputs n
drain_codes scene done (from.Same n) = nth done.drains n
drain_codes scene done (from.Mask of by) = masked_map scene (nth done.drains of) (operand_map scene done by)

-- The maps of operations in their order, with the drain maps between them, each of which is computed once the operations before
-- it are done; or the first Over.
abbrev pub staged_values : Program → Scene → Span → Done → List DrainUse → List Operation → Result Done OverAt
staged_values program scene s done [] operations = operation_values program scene s done operations
staged_values program scene s done (d ∷ ds) operations =
    let before = d.after - length done.initial in
    operation_values program scene s done (take before operations) >>= λ after.
    staged_values program scene s (with_drain after (drain_codes scene after d.from)) ds (drop before operations)
