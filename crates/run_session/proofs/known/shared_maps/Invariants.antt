use Rattle.std.proofs.Common.{◌≡◌, take}
use Rattle.run_session.proofs.known.shared_maps.Given as goal

-- those so far
abbrev pub invariant-loop-map : goal.invariant-loop-map
invariant-loop-map l = l.all ≡ take l.map-index l.maps
