use Rattle.std.proofs.Common.{arith}
use Rattle.plan_graph.proofs.SumLemmas.{one_of_all}
use Rattle.plan_graph.proofs.build.with_graph.Goals as goal

pub made_joints-requires-clause-few : goal.made_joints-requires-clause-few
made_joints-requires-clause-few c = λ f below. let one = one_of_all c.in_ok-borders.borders f in let few = c.in_ok-borders.ensures.few in omega arith
