use Rattle.plan_graph.proofs.DrainLemmas.{are_known_drains}
use Rattle.plan_graph.proofs.laws.transports_have_their_drains.Goals as goal

pub returns : goal.returns
returns c = are_known_drains
