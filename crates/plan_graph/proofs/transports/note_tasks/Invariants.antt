use Rattle.std.proofs.Common.{◌≡◌, ℕ, ◌+◌, ◌<◌, ◌≤◌, get_or, length}
use Rattle.std.specs.Prelude.{◌⊎◌}
use Rattle.plan_graph.proofs.transports.note_tasks.Given as goal

abbrev pub invariant-loop-tile : goal.invariant-loop-tile
invariant-loop-tile l = record {
  many : length l.told.items ≡ length l.initial.told.items;
  own : (k : ℕ) → k < l.tile → get_or l.told.items (l.first + k) 0 ≡ l.transport;
  others : (t : ℕ) → (t < l.first) ⊎ (l.first + l.tiles ≤ t) → get_or l.told.items t 0 ≡ get_or l.initial.told.items t 0;
}
