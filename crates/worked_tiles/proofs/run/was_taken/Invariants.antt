use Rattle.std.proofs.Common.{◌≢◌, ◌<◌, ℕ, slice_index}
use Rattle.worked_tiles.proofs.run.was_taken.Given as goal

-- none of the first ones is the edge
abbrev pub invariant-loop-other : goal.invariant-loop-other
invariant-loop-other l = (k : ℕ) → k < l.other-index → slice_index l.taken k ≢ l.edge
