use Rattle.plan_graph.specs.inside.Joined.{AreCounted}
use Rattle.plan_graph.proofs.joints.number_counts.Given as goal

abbrev pub invariant-loop-number : goal.invariant-loop-number
invariant-loop-number l = AreCounted l.numbers l.count l.number-index l.counts.items
