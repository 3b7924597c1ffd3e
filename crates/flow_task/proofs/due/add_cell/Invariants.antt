use Rattle.std.proofs.Common.{◌≤◌, take}
use Rattle.flow_task.proofs.DueLemmas.{ArePartly}
use Rattle.flow_task.proofs.due.add_cell.Given as goal

abbrev pub invariant-loop-k : goal.invariant-loop-k
invariant-loop-k l = record {
  due : ArePartly l.outbound.items l.unsent.items (take l.at l.queue.items) l.cell l.k l.due.places;
  room : l.fn.due.room ≤ l.due.room;
}
