use Rattle.std.proofs.Common.{length}
use Rattle.drain_meaning.specs.Paths.{path_of}
use Rattle.drain_ops.proofs.TrailLemmas.{LeadsTo}
use Rattle.drain_ops.proofs.up.go_down.Given as goal

-- the cells that were noted lead to this one
abbrev pub invariant-loop-at : goal.invariant-loop-at
invariant-loop-at l = LeadsTo l.drain l.place l.trail.items l.at

abbrev pub decreases-loop-at : goal.decreases-loop-at
decreases-loop-at l = length (path_of l.drain l.at)
