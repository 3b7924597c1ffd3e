use Rattle.std.proofs.Common.{◌≡◌, pos}
use Rattle.window_ops.proofs.ClassLemmas.{first_from, rank}
use Rattle.window_ops.proofs.counts.leader.Given as goal

-- with the entries that are left, the best is that of all
abbrev pub invariant-loop-value : goal.invariant-loop-value
invariant-loop-value l = first_from l.best l.value-iterator ≡ first_from (rank (pos 0) 0) l.counts.entries
