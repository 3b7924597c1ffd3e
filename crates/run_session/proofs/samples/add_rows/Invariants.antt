use Rattle.std.proofs.Common.{◌≡◌, ◌++◌, drop, map, take}
use Rattle.run_session.specs.inside.Standings.{with_held_row}
use Rattle.run_session.proofs.samples.add_rows.Given as goal

-- the time series before this one have the row
abbrev pub invariant-loop-i : goal.invariant-loop-i
invariant-loop-i l = l.samples ≡ map (with_held_row l.known l.now l.step) (take l.i l.initial.samples) ++ drop l.i l.initial.samples
