use Rattle.turn_cell.specs.Seats.{history_seen}
use Rattle.task_board.specs.Tickets.{work_in}
use Rattle.tile_runtime.specs.inside.Knowledge.{plan_at}
use Rattle.tile_runtime.proofs.FlowLemmas.{finished_tile}
use Rattle.tile_runtime.proofs.flow.finish.Goals as goal

pub let_go-requires-clause-tile : goal.let_go-requires-clause-tile
let_go-requires-clause-tile g c =
    finished_tile (plan_at c.args.crew.now.desk) c.requires.seat.board (history_seen c.args.seat.now) c.args.worker c.args.ticket.task c.settled_works_give_their_tiles.ensures (work_in g.K.FlowKit.work_of c.args.ticket) c.flow_tile-made.result
    c.requires.ticket.1.good c.requires.end c.flow_tile-made.ensures
