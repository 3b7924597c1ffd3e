-- The evaluation that goes on behind an Over, with a missing value in its place, and notes it.
use Rattle.std.specs.Prelude.{◌≡◌, ◌<◌, ℕ, List, [], ◌∷◌, ◌++◌, Option, Some, None, ◌⊎◌}
use Rattle.map_meaning.specs.declared.known.OverAt.{OverAt}
use Rattle.map_meaning.specs.declared.known.Span.{Span}
use Rattle.map_meaning.specs.declared.program.Operation.{Operation}
use Rattle.map_meaning.specs.declared.program.Program.{Program}
use Rattle.map_meaning.specs.Scenes.{Scene}
use Rattle.map_meaning.specs.Overs.{over_at}
use Rattle.map_meaning.specs.Evaluation.{Done, operation_part, with_map}

-- what an evaluation that goes on has: the maps of all operations, and a note of each that was Over somewhere
pub record Onward : Type 0 where
  pub done : Done
  pub notes : List OverAt

-- the note of an operation: its first Over
abbrev pub note_of : Scene → Operation → Option ℕ → List OverAt
note_of scene o None = []
note_of scene o (Some place) = over_at scene o.statement o.number place ∷ []

-- notes in front of those of the operations behind
abbrev pub with_notes : List OverAt → Onward → Onward
with_notes notes behind = record { done = behind.done; notes = notes ++ behind.notes }

-- the operations of a span in their order, each of them to its end
abbrev pub onward : Program → Scene → Span → Done → List Operation → Onward
onward program scene s done [] = record { done = done; notes = [] }
onward program scene s done (o ∷ more) =
    with_notes (note_of scene o (operation_part program scene done o).over)
    (onward program scene s (with_map s done (operation_part program scene done o).cells) more)

-- the first Over is that of an earlier statement, or of an earlier operation of the same one, in the same step
abbrev pub ComesBefore : OverAt → OverAt → Type 0
ComesBefore x y = (x.statement < y.statement) ⊎ ((x.statement ≡ y.statement) × (x.operation < y.operation))
