use Rattle.std.proofs.Common.{ap}
use Rattle.std.specs.Option.{option_map}
use Rattle.turn_cell.specs.Seats.{history_seen}
use Rattle.task_board.specs.Tickets.{work_in}
use Rattle.tile_runtime.specs.inside.Knowledge.{plan_at}
use Rattle.tile_runtime.proofs.FlowLemmas.{begun_work}
use Rattle.tile_runtime.proofs.worker.begin.Goals as goal

pub flow_on-requires-clause-ticket : goal.flow_on-requires-clause-ticket
flow_on-requires-clause-ticket g c = (
  c.requires.ticket.0,
  begun_work (plan_at c.args.crew.now.desk) c.requires.seat.board (history_seen c.args.seat.now) c.args.worker c.args.ticket.task (work_in g.K.FlowKit.work_of c.args.ticket) (g.K.FlowKit.work_of c.in-Ok.work)
      (ap (option_map g.K.FlowKit.work_of) c.requires.bare) c.requires.ticket.1 c.requires.flow c.in-Ok.ensures,
)
