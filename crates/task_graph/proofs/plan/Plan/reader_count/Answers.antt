use Rattle.std.proofs.Common.{arith, ap, length}
use Rattle.task_graph.specs.Plans.{PlanValue}
use Rattle.task_graph.proofs.HeldLemmas.{all_readers, few_readers}
use Rattle.task_graph.proofs.plan.Plan.reader_count.Goals as goal

pub list-requires : goal.list-requires
list-requires c =
    let all = all_readers c.self.inside.tasks c.self.inside.needs c.self.inside.readers c.self.invariant in
    let same = ap (λ (p : PlanValue). length p.tasks) c.self.view_is in
    omega (arith, c.requires)

pub overflow_cast-result : goal.overflow_cast-result
overflow_cast-result c =
    let same = ap (λ (p : PlanValue). length p.tasks) c.self.view_is in
    let few = few_readers c.self.inside.tasks c.self.inside.needs c.self.inside.readers c.args.t c.list.result.now c.self.invariant (omega (arith, c.requires)) c.list.ensures in
    omega arith
