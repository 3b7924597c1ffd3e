use Rattle.std.proofs.Common.{◌≡◌, map, take}
use Rattle.run_session.specs.inside.Standings.{held_cell}
use Rattle.run_session.proofs.samples.sampled.Given as goal

-- the cells at the places so far
abbrev pub invariant-loop-place : goal.invariant-loop-place
invariant-loop-place l = l.cells.items ≡ map (held_cell l.known l.now l.step l.sample.input l.sample.value) (take l.place-index l.sample.places)
