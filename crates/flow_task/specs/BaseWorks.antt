-- Transports over tiles by the first rules.
use Rattle.drain_meaning.specs.declared.op.FlowOp.{FlowOp}
use Rattle.drain_meaning.specs.declared.op.FlowOp.TheVariants.{Accuflux, Catchment}
use Rattle.drain_meaning.specs.Equations.{threshold_op}
use Rattle.flow_task.specs.Works.{TileWork, tile_work}
use Rattle.flow_task.specs.declared.base.BaseWork.{BaseWork}
use Rattle.flow_task.specs.declared.base.BaseWork.TheVariants.{Accu, Threshold, Point}

-- the operation and the state of such a work
abbrev pub base_work_of : BaseWork → TileWork FlowOp
base_work_of (Accu w) = tile_work Accuflux w.of w.sent
base_work_of (Threshold w) = tile_work (threshold_op w.which.state) w.of w.sent
base_work_of (Point w) = tile_work Catchment w.of w.sent
