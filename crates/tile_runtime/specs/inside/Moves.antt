-- What a transport's work comes to next. Words of private contracts.
use Rattle.std.specs.Prelude.{◌≡◌, true, None}
use Rattle.drain_meaning.specs.declared.op.FlowOp.{FlowOp}
use Rattle.drain_meaning.specs.Equations.{orient_of}
use Rattle.border_channel.specs.Outbound.{next_due}
use Rattle.border_channel.specs.Settled.{all_settled}
use Rattle.flow_task.specs.Works.{TileWork}
use Rattle.task_board.specs.Messages.{HasToWait, IsMessageOf}
use Rattle.tile_runtime.specs.declared.flow.Move.{Move}
use Rattle.tile_runtime.specs.declared.flow.Move.TheVariants.{Send, Finish, Wait}

-- it sends its next message; or all its cells are settled, and it has nothing to send; or it has to wait
abbrev pub ComesNext : TileWork FlowOp → Move → Type 0
ComesNext w (Send x) = IsMessageOf w x
ComesNext w Finish = (all_settled (orient_of w.which) w.of ≡ true) × (next_due (orient_of w.which) w.of w.sent ≡ None)
ComesNext w Wait = HasToWait w
