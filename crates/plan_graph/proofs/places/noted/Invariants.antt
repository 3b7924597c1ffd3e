use Rattle.plan_graph.specs.inside.Places.{AreNotedUpTo}
use Rattle.plan_graph.proofs.places.noted.Given as goal

abbrev pub invariant-loop-i : goal.invariant-loop-i
invariant-loop-i l = AreNotedUpTo l.numbers l.count l.i l.lists.items
