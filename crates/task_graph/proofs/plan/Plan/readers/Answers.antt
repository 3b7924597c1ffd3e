use Rattle.std.proofs.Common.{arith, ap, length}
use Rattle.task_graph.specs.Plans.{PlanValue}
use Rattle.task_graph.proofs.HeldLemmas.{all_readers}
use Rattle.task_graph.proofs.plan.Plan.readers.Goals as goal

pub list-requires : goal.list-requires
list-requires c =
    let all = all_readers c.self.inside.tasks c.self.inside.needs c.self.inside.readers c.self.invariant in
    let same = ap (λ (p : PlanValue). length p.tasks) c.self.view_is in
    omega (arith, c.requires)
