use Rattle.std.proofs.Common.{◌≡◌, ℕ, length, get_or}
use Rattle.task_states.proofs.fresh.filled.Given as goal

abbrev pub invariant-loop : goal.invariant-loop
invariant-loop g l = record { all : length l.list.items ≡ l.counter; each : (k : ℕ) → get_or l.list.items k l.value ≡ l.value }
