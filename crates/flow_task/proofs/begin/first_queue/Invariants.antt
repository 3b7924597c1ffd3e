use Rattle.std.proofs.Common.{◌≡◌, ◌≤◌, length, slice_index_or, vec_capacity}
use Rattle.std.specs.Prelude.{◌==◌}
use Rattle.std.specs.List.{filter, range_with_len}
use Rattle.flow_task.proofs.begin.first_queue.Given as goal

-- the first cells to which nothing is to come
abbrev pub invariant-loop-cell : goal.invariant-loop-cell
invariant-loop-cell l = record {
  items : l.queue.items ≡ filter (λ i. slice_index_or l.missing i 0 == 0) (range_with_len 0 l.cell);
  room : length l.missing ≤ vec_capacity l.queue;
}
