use Rattle.std.proofs.Common.{◌≡◌, ℕ, length, get_or, None}
use Rattle.task_board.proofs.fresh.empties.Given as goal

abbrev pub invariant-loop : goal.invariant-loop
invariant-loop g l = record { all : length l.list.items ≡ l.counter; none' : (k : ℕ) → get_or l.list.items k None ≡ None }
