use Rattle.std.proofs.Common.{◌≡◌, ◌<◌, ◌≤◌, ◌-◌, ℕ, length}
use Rattle.flow_task.specs.inside.Kept.{link_at}
use Rattle.flow_task.proofs.work.link_place.Given as goal

abbrev pub invariant-loop-high : goal.invariant-loop-high
invariant-loop-high l = record {
  some : l.low < l.high;
  within : l.high ≤ length l.links;
  between : (k : ℕ) → k < length l.links → (link_at l.links k).edge ≡ l.edge → (l.low ≤ k) × (k < l.high);
}

abbrev pub decreases-loop-high : goal.decreases-loop-high
decreases-loop-high l = l.high - l.low
