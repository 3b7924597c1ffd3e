use Rattle.std.proofs.Common.{arith}
use Rattle.task_graph.proofs.HeldLemmas.{few_read}
use Rattle.task_graph.proofs.plan.Plan.need_count.Goals as goal

pub overflow_cast-result : goal.overflow_cast-result
overflow_cast-result c = let few = few_read c.self.inside.needs c.args.t c.list.result.now c.self.invariant.few_needs c.list.ensures in omega arith
