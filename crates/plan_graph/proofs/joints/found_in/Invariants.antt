use Rattle.std.proofs.Common.{◌≡◌, map, take}
use Rattle.plan_graph.specs.inside.Joined.{number_place}
use Rattle.plan_graph.proofs.joints.found_in.Given as goal

abbrev pub invariant-loop-number : goal.invariant-loop-number
invariant-loop-number l = l.places.items ≡ map (number_place l.list) (take l.number-index l.numbers)
