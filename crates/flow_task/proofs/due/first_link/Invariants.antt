use Rattle.std.proofs.Common.{◌<◌, ◌≤◌, ◌-◌, ℕ, length}
use Rattle.flow_task.specs.inside.Kept.{link_at}
use Rattle.flow_task.proofs.due.first_link.Given as goal

abbrev pub invariant-loop-low : goal.invariant-loop-low
invariant-loop-low l = record {
  order : l.low ≤ l.high;
  within : l.high ≤ length l.links.items;
  below : (k : ℕ) → k < l.low → (link_at l.links.items k).cell < l.cell;
  above : (k : ℕ) → l.high ≤ k → k < length l.links.items → l.cell ≤ (link_at l.links.items k).cell;
}

abbrev pub decreases-loop-low : goal.decreases-loop-low
decreases-loop-low l = l.high - l.low
