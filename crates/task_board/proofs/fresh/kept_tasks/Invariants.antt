use Rattle.std.proofs.Common.{◌≡◌, ℕ, ◌<◌, length, get_or, false}
use Rattle.task_board.specs.Tiles.{hands_out_at}
use Rattle.task_board.proofs.fresh.kept_tasks.Given as goal

abbrev pub invariant-loop-task : goal.invariant-loop-task
invariant-loop-task l = record {
  all : length l.kept.items ≡ l.task;
  kept : (t : ℕ) → t < l.task → get_or l.kept.items t false ≡ hands_out_at l.plan.plan l.program l.plan.span t;
}
