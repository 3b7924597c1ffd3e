use Rattle.std.proofs.Common.{◌≡◌}
use Rattle.flow_task.specs.inside.Begins.{over_cells}
use Rattle.flow_task.proofs.begin.no_inflows.Given as goal

-- nothing has come to the first cells
abbrev pub invariant-loop : goal.invariant-loop
invariant-loop g l = l.inflows.items ≡ over_cells (λ i. (g.R.FlowRule.rule l.rule).none) l.counter
