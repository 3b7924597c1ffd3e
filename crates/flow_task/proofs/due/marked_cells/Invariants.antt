use Rattle.std.proofs.Common.{◌≡◌, ◌<◌, ℕ, length, get_or, true, false}
use Rattle.flow_task.specs.inside.Kept.{link_at}
use Rattle.flow_task.proofs.due.marked_cells.Given as goal

abbrev pub invariant-loop-k : goal.invariant-loop-k
invariant-loop-k l = record {
  many : length l.marks.items ≡ l.count;
  marked : (j : ℕ) → j < l.k → get_or l.marks.items (link_at l.links.items j).cell false ≡ true;
}
