use Rattle.std.proofs.Common.{IsSome}
use Rattle.tile_runtime.specs.inside.Knowledge.{IsWorkersSeat, plan_at, board_seen}
use Rattle.tile_runtime.specs.inside.Turns.{HasTicket}
use Rattle.tile_runtime.proofs.flow.flow_on.Given as goal

abbrev pub invariant-loop : goal.invariant-loop
invariant-loop g l = record {
  seat : IsWorkersSeat l.cell (plan_at l.crew.desk) l.worker l.seat;
  ticket : HasTicket g.K.FlowKit.work_of (board_seen (plan_at l.crew.desk) l.seat) l.worker l.ticket;
  begun : IsSome l.ticket.work;
}
