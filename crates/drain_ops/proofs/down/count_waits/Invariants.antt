use Rattle.drain_ops.proofs.FirstWaits.{FirstWaits}
use Rattle.drain_ops.proofs.down.count_waits.Given as goal

-- the cells before this one are counted
abbrev pub invariant-loop-place : goal.invariant-loop-place
invariant-loop-place l = FirstWaits l.drain l.place l.waits
