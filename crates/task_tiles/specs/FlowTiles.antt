-- The work that a task of a transport begins.
use Rattle.std.specs.Prelude.{◌≡◌, ℕ, ◌<◌, List, [], length, map, slice_get, Some}
use Rattle.std.specs.List.{Contains}
use Rattle.cell_values.specs.declared.cell.Cell.{Cell}
use Rattle.tile_map.specs.Rects.{places_of}
use Rattle.tile_map.specs.Tiles.{rect_of}
use Rattle.tile_map.specs.declared.tiling.Tiling.{Tiling}
use Rattle.drain_meaning.specs.declared.op.FlowOp.{FlowOp}
use Rattle.drain_meaning.specs.Drains.{DrainMap}
use Rattle.drain_meaning.specs.Equations.{orient_of, transport_of}
use Rattle.drain_meaning.specs.Transports.{end_of}
use Rattle.border_channel.specs.declared.edge.Message.{Message}
use Rattle.border_channel.specs.Edges.{border_edges_of, edge_at}
use Rattle.border_channel.specs.TileFlows.{with_taken}
use Rattle.flow_task.specs.Works.{TileWork, flow_begun, tile_work}
use Rattle.map_meaning.specs.Evaluation.{Done, operand_cell}
use Rattle.map_meaning.specs.Maps.{CellAt}
use Rattle.map_meaning.specs.Programs.{kinds_of}
use Rattle.map_meaning.specs.Rules.{kind_at}
use Rattle.map_meaning.specs.Spans.{scene_of}
use Rattle.map_meaning.specs.declared.known.Known.{Known}
use Rattle.map_meaning.specs.declared.known.Span.{Span}
use Rattle.map_meaning.specs.declared.op.Op.TheVariants.{Flow}
use Rattle.map_meaning.specs.declared.program.Operand.{Operand}
use Rattle.map_meaning.specs.declared.program.Operation.{Operation}
use Rattle.map_meaning.specs.declared.program.Program.{Program}
use Rattle.task_graph.specs.Plans.{PlanValue, task_at}
use Rattle.task_tiles.specs.TaskTiles.{onward_done, span_section}

-- the cells of an operand at a tile's places, where this is done
abbrev pub operand_tile : Program → Known → Tiling → ℕ → Done → Operand → ℕ → List Cell
operand_tile program known g step done operand tile =
    map (operand_cell (scene_of program.inputs known step) done operand) (places_of g.cols (rect_of g tile))

-- the cells of an operand of the task with this number, over the whole map, where what is done is that of the evaluation that goes on
-- behind an Over
abbrev pub task_operand : PlanValue → Span → Program → Known → ℕ → Operand → CellAt
task_operand plan s program known t operand =
    let step = (task_at plan t).step in operand_cell (scene_of program.inputs known step) (onward_done program s known step) operand

-- The work is a transport of an operation over one tile, where this is done, as it begins: along the operation's drain map, with all
-- border edges of that, and the cells of both operands at the tile's places. No message was taken, and no edge sent.
pub record IsBegunOn (program : Program) (known : Known) (g : Tiling) (step : ℕ) (done : Done) (o : Operation) (tile : ℕ)
    (w : TileWork FlowOp) : Type 0 where
  pub drain : DrainMap
  pub along : slice_get known.drains o.drain ≡ Some drain
  pub is : w ≡ tile_work w.which (flow_begun (kind_at (kinds_of program o) 1) drain g tile
      (border_edges_of drain g (orient_of w.which)) (operand_tile program known g step done o.a tile)
      (operand_tile program known g step done o.b tile)) []

-- The work is the one that the task with this number begins: the transport of its operation over its tile, where what is done is that
-- of the evaluation that goes on behind an Over.
pub record IsFlowBegun (plan : PlanValue) (s : Span) (program : Program) (known : Known) (t : ℕ) (w : TileWork FlowOp) : Type 0 where
  pub operation : Operation
  pub there : slice_get (span_section program s) (task_at plan t).operation ≡ Some operation
  pub transport : operation.op ≡ Flow w.which
  pub is : IsBegunOn program known plan.tiling (task_at plan t).step (onward_done program s known (task_at plan t).step) operation
      (task_at plan t).tile w

-- The message is for a border edge of the transport that the task with this number is of, and brings what flows out of the edge's source
-- over the whole map, where what is done is that of the evaluation that goes on behind an Over.
pub record StandsForEdge (plan : PlanValue) (s : Span) (program : Program) (known : Known) (t : ℕ) (x : Message) : Type 0 where
  pub operation : Operation
  pub op : FlowOp
  pub drain : DrainMap
  pub there : slice_get (span_section program s) (task_at plan t).operation ≡ Some operation
  pub transport : operation.op ≡ Flow op
  pub along : slice_get known.drains operation.drain ≡ Some drain
  pub within : x.edge < length (border_edges_of drain plan.tiling (orient_of op))
  pub brings : x.flow ≡ (end_of (transport_of op) drain (task_operand plan s program known t operation.a)
      (task_operand plan s program known t operation.b) (edge_at (border_edges_of drain plan.tiling (orient_of op)) x.edge).source).out

-- The work is one that the task with this number began and that has taken messages since, each of which stands for its edge.
pub record IsFlowUnderway (plan : PlanValue) (s : Span) (program : Program) (known : Known) (t : ℕ) (w : TileWork FlowOp) : Type 0 where
  pub begun : IsFlowBegun plan s program known t (tile_work w.which (with_taken w.of []) [])
  pub stand : (x : Message) → Contains w.of.taken x → StandsForEdge plan s program known t x
