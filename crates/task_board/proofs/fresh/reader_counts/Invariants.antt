use Rattle.std.proofs.Common.{◌≡◌, ℕ, ◌<◌, length, get_or}
use Rattle.plan_graph.specs.PlanGraphs.{list_at}
use Rattle.task_board.proofs.fresh.reader_counts.Given as goal

abbrev pub invariant-loop-task : goal.invariant-loop-task
invariant-loop-task l = record {
  all : length l.counts.items ≡ l.task;
  counts : (t : ℕ) → t < l.task → get_or l.counts.items t 0 ≡ length (list_at l.plan.readers t);
}
