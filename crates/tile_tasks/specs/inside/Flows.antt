-- Transports over one tile: what they read.
use Rattle.std.specs.Prelude.{◌≡◌, ℕ, ◌*◌, ◌<◌, List, [], ◌∷◌, slice_get, Some, ⊤}
use Rattle.cell_values.specs.declared.kind.Kind.TheVariants.{Scalar}
use Rattle.cell_values.specs.Kinds.{IsCell}
use Rattle.tile_map.specs.declared.tiling.Tiling.{Tiling}
use Rattle.drain_meaning.specs.declared.op.FlowOp.{FlowOp}
use Rattle.drain_meaning.specs.Drains.{DrainMap}
use Rattle.drain_meaning.specs.Equations.{orient_of}
use Rattle.border_channel.specs.declared.edge.Edge.{Edge}
use Rattle.border_channel.specs.Edges.{border_edges_of}
use Rattle.border_channel.specs.Own.{edges_into, edges_out_of}
use Rattle.map_meaning.specs.Evaluation.{Done, operand_cell}
use Rattle.map_meaning.specs.Spans.{scene_of}
use Rattle.map_meaning.specs.declared.known.Known.{Known}
use Rattle.map_meaning.specs.declared.known.Span.{Span}
use Rattle.map_meaning.specs.declared.program.Operand.{Operand}
use Rattle.map_meaning.specs.declared.program.Operation.{Operation}
use Rattle.map_meaning.specs.declared.program.Program.{Program}
use Rattle.span_operands.specs.declared.scope.Scope.{Scope}
use Rattle.span_operands.specs.declared.scope.Scope.TheVariants as scope
use Rattle.task_tiles.specs.declared.tile.Tile.{Tile}
use Rattle.tile_tasks.specs.inside.Tasks.{ReadsEach}

-- operations that look at this are transports
abbrev pub IsTransport : Scope → Type 0
IsTransport (scope.Transport f) = ⊤
IsTransport _ = ⊥

-- an operand has a scalar, or none, at each place
abbrev pub HasScalars : Program → Known → ℕ → Done → Operand → Type 0
HasScalars program known step done operand =
    (place : ℕ) → place < known.rows * known.cols → IsCell Scalar (operand_cell (scene_of program.inputs known step) done operand place)

-- the tiles of a transport's operands are handed in, and these have scalars
pub record ReadsFlow (program : Program) (s : Span) (known : Known) (g : Tiling) (step tile : ℕ) (o : Operation) (ts : List Tile)
    (done : Done) : Type 0 where
  pub each : ReadsEach program s known g step (tile ∷ []) o ts done
  pub a : HasScalars program known step done o.a
  pub b : HasScalars program known step done o.b

-- the border edges of a transport along an operation's drain map, and the numbers of those of one tile
pub record AreTileEdges (known : Known) (g : Tiling) (tile : ℕ) (o : Operation) (f : FlowOp) (edges : List Edge)
    (into out : List ℕ) : Type 0 where
  pub edges_are : (m : DrainMap) → slice_get known.drains o.drain ≡ Some m → edges ≡ border_edges_of m g (orient_of f)
  pub into_are : into ≡ edges_into g tile edges
  pub out_are : out ≡ edges_out_of g tile edges
