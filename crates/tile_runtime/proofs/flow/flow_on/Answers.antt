use Rattle.turn_cell.specs.Seats.{history_seen}
use Rattle.flow_task.specs.Works.{marked}
use Rattle.task_board.specs.declared.jobs.BoardPlan.{BoardPlan}
use Rattle.task_board.specs.Tickets.{work_in}
use Rattle.tile_runtime.specs.inside.Knowledge.{plan_at, board_seen}
use Rattle.tile_runtime.proofs.FlowLemmas.{at_its_end, changed, still_begun, taken_again, taken_begun}
use Rattle.tile_runtime.proofs.flow.flow_on.Goals as goal

pub finish-requires-clause-end : goal.finish-requires-clause-end
finish-requires-clause-end g c =
    let p : BoardPlan = plan_at c.args.crew.now.desk in
    at_its_end p c.loop.invariant.seat.board (history_seen c.loop.seat) c.args.worker c.loop.ticket.task (work_in g.K.FlowKit.work_of c.loop.ticket) c.loop.invariant.ticket.1.good c.in-Finish.ensures

pub loop-preserved-in-Send : goal.loop-preserved-in-Send
loop-preserved-in-Send g c =
    let p : BoardPlan = plan_at c.args.crew.now.desk in
    record {
      seat = c.send.ensures.seat;
      ticket = changed g.K.FlowKit.work_of (board_seen p c.send.new.seat) c.args.worker (λ k. marked k c.in-Send.message.edge) c.loop.ticket c.mark_sent.new.self c.send.ensures.sent c.mark_sent.ensures.worker c.mark_sent.ensures.task c.mark_sent.ensures.work;
      begun = still_begun g.K.FlowKit.work_of (λ k. marked k c.in-Send.message.edge) c.loop.ticket c.mark_sent.new.self c.loop.invariant.begun c.mark_sent.ensures.work;
    }

pub loop-preserved : goal.loop-preserved
loop-preserved g c =
    let p : BoardPlan = plan_at c.args.crew.now.desk in
    record {
      seat = c.in-Took.ensures.seat;
      ticket = taken_again g.K.FlowKit.work_of (board_seen p c.take_or_park.new.seat) c.args.worker c.in-Took.message c.loop.ticket c.in-Took.same c.accept.new.self c.in-Took.ensures.next.0 (c.in-Took.ensures.next.2, c.in-Took.ensures.next.3) c.accept.ensures.worker c.accept.ensures.task c.accept.ensures.work;
      begun = taken_begun g.K.FlowKit.work_of c.in-Took.message c.loop.ticket c.in-Took.same c.accept.new.self c.in-Took.ensures.next.0 c.loop.invariant.begun c.accept.ensures.work;
    }
