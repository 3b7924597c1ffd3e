use Rattle.std.proofs.Common.{◌∙◌, ap, arith, slice_index_or}
use Rattle.std.specs.Prelude.{◌==◌}
use Rattle.std.proofs.lemmas.Bool.{eq-eqb}
use Rattle.flow_task.proofs.Within.{filter_off, filter_on, not_zero}
use Rattle.flow_task.proofs.begin.first_queue.Goals as goal
use Rattle.flow_task.proofs.begin.first_queue.Goals.{then-missing-cell-eq0+in_ok-push, else-missing-cell-eq0}

pub loop-cell-preserved : goal.loop-cell-preserved
loop-cell-preserved c = elim c.if-missing-cell-eq0.branch [
  | then-missing-cell-eq0+in_ok-push w ↦ record {
    items = filter_on (λ i. slice_index_or c.args.missing.now i 0 == 0) c.loop-cell.cell c.loop-cell.queue.items c.if-missing-cell-eq0.queue.items c.loop-cell.invariant.items (eq-eqb (slice_index_or c.args.missing.now c.loop-cell.cell 0) 0 w.if-missing-cell-eq0.true) (ap (λ q. q.items) w.queue-is ∙ w.in_ok-push.ensures.items);
    room = rw w.queue-is (omega (arith, c.loop-cell.invariant.room, w.in_ok-push.ensures.capacity));
  }
  | else-missing-cell-eq0 w ↦ record {
    items = filter_off (λ i. slice_index_or c.args.missing.now i 0 == 0) c.loop-cell.cell c.loop-cell.queue.items c.if-missing-cell-eq0.queue.items c.loop-cell.invariant.items (not_zero (slice_index_or c.args.missing.now c.loop-cell.cell 0) w.if-missing-cell-eq0.false) (ap (λ q. q.items) w.queue-is);
    room = rw w.queue-is c.loop-cell.invariant.room;
  }
]
