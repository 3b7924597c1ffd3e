use Rattle.std.proofs.Common.{◌≡◌, ℕ, ◌<◌, [], length, get_or}
use Rattle.plan_graph.proofs.places.empty_places.Given as goal

abbrev pub invariant-loop-n : goal.invariant-loop-n
invariant-loop-n l = record { count : length l.lists.items ≡ l._n; each : (k : ℕ) → k < l._n → get_or l.lists.items k [] ≡ [] }
