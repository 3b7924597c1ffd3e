use Rattle.std.proofs.Common.{ℕ, ◌<◌, length, ap, arith, w32, Fits}
use Rattle.task_board.proofs.fresh.reader_counts.Goals as goal

pub overflow_cast-readers : goal.overflow_cast-readers
overflow_cast-readers c =
    let p = c.tasks-tasks.ensures.plan in
    let few = p.few_readers c.loop-task.task (let v = c.tasks-tasks.ensures.value in omega arith) in
    let e = ap length c.readers.ensures in
    fits (length c.readers.result.now) (omega arith)
  where
    fits : (n : ℕ) → n < 4294967296 → Fits w32 n
    fits n lt = grind arith
