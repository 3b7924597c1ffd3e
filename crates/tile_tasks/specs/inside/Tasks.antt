-- Tasks of an operation at a step of a span, what they read, and what they give.
use Rattle.std.specs.Prelude.{◌≡◌, ◌<◌, ◌≤◌, ◌+◌, ◌*◌, ℕ, List, length, true, if◌then◌else◌}
use Rattle.cell_values.specs.declared.kind.Kind.TheVariants.{Scalar}
use Rattle.cell_values.specs.Kinds.{IsCell}
use Rattle.tile_map.specs.Tiles.{tile_count}
use Rattle.tile_map.specs.declared.tiling.Tiling.{Tiling}
use Rattle.map_meaning.specs.declared.known.Known.{Known}
use Rattle.map_meaning.specs.declared.known.Span.{Span}
use Rattle.map_meaning.specs.declared.program.Operand.{Operand}
use Rattle.map_meaning.specs.declared.program.Operation.{Operation}
use Rattle.map_meaning.specs.declared.program.Program.{Program}
use Rattle.map_meaning.specs.Evaluation.{Done, operand_cell}
use Rattle.map_meaning.specs.Spans.{scene_of}
use Rattle.span_operands.specs.Made.{AgreesWith, IsKnown, span_start, is_made}
use Rattle.span_operands.specs.inside.Held.{IsOneOf}
use Rattle.tile_tasks.specs.inside.Tiles.{StandFrom}
use Rattle.task_tiles.specs.declared.tile.Tile.{Tile}

-- how many tiles are handed in for an operand, of so many that its map has there
abbrev pub many_for : Span → ℕ → ℕ → Operand → ℕ
many_for s step count operand = if is_made s step operand then count else 0

-- the tiles with these numbers of an operand's map are handed in, from a place on, where the span makes the map
abbrev pub AreHandedIn : Program → Span → Known → Tiling → ℕ → Done → List ℕ → Operand → ℕ → List Tile → Type 0
AreHandedIn program s known g step done numbers operand start ts =
    is_made s step operand ≡ true → StandFrom g (operand_cell (scene_of program.inputs known step) done operand) numbers start ts

-- the tiles with these numbers of all operands' maps are handed in, operand by operand, and what is done has what is known
pub record ReadsEach (program : Program) (s : Span) (known : Known) (g : Tiling) (step : ℕ) (numbers : List ℕ) (o : Operation)
    (ts : List Tile) (done : Done) : Type 0 where
  pub agrees : AgreesWith program s known step done
  pub a : AreHandedIn program s known g step done numbers o.a 0 ts
  pub b : AreHandedIn program s known g step done numbers o.b (many_for s step (length numbers) o.a) ts
  pub c : AreHandedIn program s known g step done numbers o.c
      (many_for s step (length numbers) o.a + many_for s step (length numbers) o.b) ts
  pub d : AreHandedIn program s known g step done numbers o.d
      (many_for s step (length numbers) o.a + many_for s step (length numbers) o.b + many_for s step (length numbers) o.c) ts

-- there is what is done
abbrev pub SomeDone : (Done → Type 0) → Type 0
SomeDone P = (done : Done) × P done

-- the operation is one of the program's, at a step of the span, and what it reads from outside the span is known
pub record IsTaskAt (program : Program) (s : Span) (known : Known) (g : Tiling) (step tile : ℕ) (o : Operation) : Type 0 where
  pub rows : g.rows ≡ known.rows
  pub cols : g.cols ≡ known.cols
  pub in_tiling : tile < tile_count g
  pub order : span_start s ≤ step
  pub one : IsOneOf program known o
  pub a : IsKnown program s known step o.a
  pub b : IsKnown program s known step o.b
  pub c : IsKnown program s known step o.c
  pub d : IsKnown program s known step o.d

-- the tiles with these numbers of an operand's map are handed in, and no others, and what is done has what is known
pub record ReadsAround (program : Program) (s : Span) (known : Known) (g : Tiling) (step : ℕ) (numbers : List ℕ) (operand : Operand)
    (ts : List Tile) (done : Done) : Type 0 where
  pub agrees : AgreesWith program s known step done
  pub handed : AreHandedIn program s known g step done numbers operand 0 ts

-- the same of an operand that has scalars
pub record ReadsScalars (program : Program) (s : Span) (known : Known) (g : Tiling) (step : ℕ) (numbers : List ℕ) (operand : Operand)
    (ts : List Tile) (done : Done) : Type 0 where
  pub around : ReadsAround program s known g step numbers operand ts done
  pub scalars : (place : ℕ) → place < known.rows * known.cols →
      IsCell Scalar (operand_cell (scene_of program.inputs known step) done operand place)
