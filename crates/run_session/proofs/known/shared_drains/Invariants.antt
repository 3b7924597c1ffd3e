use Rattle.std.proofs.Common.{◌≡◌, take}
use Rattle.run_session.proofs.known.shared_drains.Given as goal

-- those so far
abbrev pub invariant-loop-drain : goal.invariant-loop-drain
invariant-loop-drain l = l.all ≡ take l.drain-index l.drains
