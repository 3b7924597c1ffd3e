-- Messages between the tiles of a transport, and what a work comes to.
use Rattle.std.specs.Prelude.{◌≡◌, ℕ, false, true, None, Some}
use Rattle.drain_meaning.specs.declared.op.FlowOp.{FlowOp}
use Rattle.drain_meaning.specs.Equations.{orient_of, transport_of}
use Rattle.border_channel.specs.declared.edge.Message.{Message}
use Rattle.border_channel.specs.Outbound.{all_sent, next_due, next_message}
use Rattle.border_channel.specs.Settled.{all_settled}
use Rattle.flow_task.specs.Works.{TileWork}
use Rattle.task_tiles.specs.FlowTiles.{StandsForEdge}
use Rattle.task_board.specs.Boards.{BoardValue}

-- the message stands for a border edge of the transport that the task is of
abbrev pub StandsOn : BoardValue → ℕ → Message → Type 0
StandsOn b t x = StandsForEdge b.plan.plan b.plan.span b.program b.known t x

-- the message is the next that the work has to send: over the least of its edges that can be sent
abbrev pub IsMessageOf : TileWork FlowOp → Message → Type 0
IsMessageOf w x = next_message (transport_of w.which) w.of w.sent ≡ Some x

-- the work has to wait for a message: some cell is not settled, and no edge can be sent
abbrev pub HasToWait : TileWork FlowOp → Type 0
HasToWait w = (all_settled (orient_of w.which) w.of ≡ false) × (next_due (orient_of w.which) w.of w.sent ≡ None)

-- the work is at its end: all cells are settled, and all edges are sent
abbrev pub IsAtItsEnd : TileWork FlowOp → Type 0
IsAtItsEnd w = (all_settled (orient_of w.which) w.of ≡ true) × (all_sent w.of w.sent ≡ true)
