use Rattle.std.proofs.Common.{◌≡◌, take}
use Rattle.plan_graph.proofs.places.places_by_number.Given as goal

abbrev pub invariant-loop-places : goal.invariant-loop-places
invariant-loop-places l = l.lists ≡ take l.places-index l.places-items
