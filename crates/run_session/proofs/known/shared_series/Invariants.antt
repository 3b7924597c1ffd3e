use Rattle.std.proofs.Common.{◌≡◌, take}
use Rattle.run_session.proofs.known.shared_series.Given as goal

-- those so far
abbrev pub invariant-loop-one : goal.invariant-loop-one
invariant-loop-one l = l.all ≡ take l.one-index l.series
