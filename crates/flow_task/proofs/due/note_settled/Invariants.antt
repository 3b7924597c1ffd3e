use Rattle.std.proofs.Common.{◌≤◌, take}
use Rattle.flow_task.specs.inside.Due.{LinksAreDue}
use Rattle.flow_task.proofs.due.note_settled.Given as goal

abbrev pub invariant-loop-at : goal.invariant-loop-at
invariant-loop-at l = record {
  due : LinksAreDue l.outbound.items l.unsent.items (take l.at l.queue.items) l.due.places;
  room : l.fn.due.room ≤ l.due.room;
}
