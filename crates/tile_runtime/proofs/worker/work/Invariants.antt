use Rattle.tile_runtime.specs.inside.Knowledge.{HasFreeHands, IsWorkersSeat, plan_at, board_seen}
use Rattle.tile_runtime.proofs.worker.work.Given as goal

abbrev pub invariant-loop : goal.invariant-loop
invariant-loop g l = record {
  seat : IsWorkersSeat l.cell (plan_at l.crew.desk) l.worker l.seat;
  free : HasFreeHands (board_seen (plan_at l.crew.desk) l.seat) l.worker;
}
