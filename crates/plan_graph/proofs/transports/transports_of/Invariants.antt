use Rattle.plan_graph.specs.inside.Numbers.{AreTold}
use Rattle.plan_graph.proofs.transports.transports_of.Given as goal

abbrev pub invariant-loop-f : goal.invariant-loop-f
invariant-loop-f l = AreTold l.plan l.f l.told.items
