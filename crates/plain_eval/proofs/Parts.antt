-- The map of an operation and its first Over.
use Rattle.std.proofs.Common.{◌≡◌, ℕ, ◌<◌, arith}
use Rattle.std.specs.Prelude.{Option, None, Some, Ok}
use Rattle.tile_map.proofs.Callers.{is_part-part_of}
use Rattle.tile_map.specs.Parts.{Outcome, TellsFirstOver, first_over}
use Rattle.map_meaning.specs.declared.program.Operation.{Operation}
use Rattle.map_meaning.specs.declared.program.Program.{Program}
use Rattle.map_meaning.specs.Evaluation.{Done, operation_part, outcome_at, operation_value}
use Rattle.map_meaning.specs.Maps.{WholeMap}
use Rattle.map_meaning.specs.Overs.{map_or_over}
use Rattle.map_meaning.specs.Scenes.{Scene, place_count}

-- a first Over stands at a place
told_below : (f : ℕ → Outcome) (places : ℕ) (over : Option ℕ) (place : ℕ) → TellsFirstOver f places over → over ≡ Some place → place < places
told_below f places None place tells is = absurd (cc)
told_below f places (Some first) place tells is = let same : first ≡ place = cc in let below : first < places = tells.0 in omega arith

-- the first Over of an operation stands at a place of the map
pub over_below : (program : Program) (scene : Scene) (done : Done) (o : Operation) (place : ℕ) → (operation_part program scene done o).over ≡ Some place → place < place_count scene
unfolding operation_part
over_below program scene done o place is =
    let f = outcome_at program scene done o in
    told_below f (place_count scene) (first_over f (place_count scene)) place (is_part-part_of f (place_count scene)).over is

-- a map that an operation gave is that of its part
gave : (scene : Scene) (statement number : ℕ) (over : Option ℕ) (cells m : WholeMap) → map_or_over scene statement number over cells ≡ Ok m → cells ≡ m
gave scene statement number None cells m is = cc
gave scene statement number (Some place) cells m is = absurd (cc)

-- the map that an operation gave is that of the operation's part
pub map_is : (program : Program) (scene : Scene) (done : Done) (o : Operation) (m : WholeMap) → operation_value program scene done o ≡ Ok m → (operation_part program scene done o).cells ≡ m
map_is program scene done o m is =
    let part = operation_part program scene done o in
    gave scene o.statement o.number part.over part.cells m is
