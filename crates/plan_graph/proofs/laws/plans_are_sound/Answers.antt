use Rattle.plan_graph.proofs.PlanLemmas.{plans_are_sound}
use Rattle.plan_graph.proofs.laws.plans_are_sound.Goals as goal

pub returns : goal.returns
returns c = plans_are_sound
