use Rattle.std.proofs.Common.{◌≡◌, ℕ, ◌<◌, None}
use Rattle.task_states.specs.States.{held_by}
use Rattle.task_states.proofs.states.TaskStates.holder.Given as goal

abbrev pub invariant-loop-worker : goal.invariant-loop-worker
invariant-loop-worker l = (w : ℕ) → w < l.worker → held_by l.self.holding.items w ≡ None
