-- What a transport's work over one tile gives.
use Rattle.std.specs.Prelude.{◌≡◌, ℕ, ◌<◌, true, List, length}
use Rattle.drain_meaning.specs.declared.op.FlowOp.{FlowOp}
use Rattle.drain_meaning.specs.Equations.{orient_of, transport_of}
use Rattle.drain_meaning.specs.Flows.{FlowFits}
use Rattle.border_channel.specs.declared.edge.Message.{Message}
use Rattle.border_channel.specs.Edges.{border_edges_of, edge_at}
use Rattle.border_channel.specs.Laws.{StandsForWhole}
use Rattle.border_channel.specs.Loads.{load_of}
use Rattle.border_channel.specs.Locals.{local_part}
use Rattle.border_channel.specs.Settled.{all_settled}
use Rattle.border_channel.specs.TileFlows.{with_taken}
use Rattle.flow_task.specs.Works.{TileWork}
use Rattle.map_meaning.specs.declared.known.Known.{Known}
use Rattle.map_meaning.specs.declared.known.Span.{Span}
use Rattle.map_meaning.specs.declared.program.Program.{Program}
use Rattle.plan_graph.specs.Graphs.{is_flow_work}
use Rattle.task_graph.specs.Plans.{PlanValue, task_at}
use Rattle.task_tiles.specs.FlowTiles.{IsFlowBegun, StandsForEdge, task_operand}
use Rattle.task_tiles.specs.TaskTiles.{IsPlanned, IsTaskTile}
use Rattle.task_tiles.specs.declared.tile.Tile.TheVariants.{Part}

-- The work that a task begins, once it has taken messages that are what flows over their edges on the whole map, and all cells of its
-- tile are settled, has the results of the tile that the task is to publish.
abbrev pub GiveTheirTiles : Type 0
GiveTheirTiles =
    (plan : PlanValue) (s : Span) (program : Program) (known : Known) (t : ℕ) (w : TileWork FlowOp) (taken : List Message) →
    IsPlanned plan s program known → t < length plan.tasks → is_flow_work (task_at plan t).work ≡ true →
    (begun : IsFlowBegun plan s program known t w) →
    StandsForWhole (transport_of w.which) (with_taken w.of taken) (task_operand plan s program known t begun.operation.a)
    (task_operand plan s program known t begun.operation.b) →
    all_settled (orient_of w.which) (with_taken w.of taken) ≡ true →
    IsTaskTile plan s program known t (Part (local_part (transport_of w.which) (with_taken w.of taken)))

-- what a message that stands for its edge brings fits the load of the edge's source
abbrev pub MessagesFit : Type 0
MessagesFit =
    (plan : PlanValue) (s : Span) (program : Program) (known : Known) (t : ℕ) (x : Message) →
    IsPlanned plan s program known → t < length plan.tasks → is_flow_work (task_at plan t).work ≡ true →
    (stands : StandsForEdge plan s program known t x) →
    FlowFits x.flow (load_of (orient_of stands.op) stands.drain
    (edge_at (border_edges_of stands.drain plan.tiling (orient_of stands.op)) x.edge).source)
