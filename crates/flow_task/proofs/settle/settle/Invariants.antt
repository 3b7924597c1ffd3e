use Rattle.std.proofs.Common.{◌≤◌, ◌-◌, vec_capacity}
use Rattle.flow_task.specs.inside.Abouts.{flow_of}
use Rattle.flow_task.specs.inside.States.{Grows, state}
use Rattle.flow_task.specs.inside.Underway.{IsUnderway, tile_size}
use Rattle.flow_task.proofs.settle.settle.Given as goal

abbrev pub invariant-loop-head : goal.invariant-loop-head
invariant-loop-head g l = record {
  underway : IsUnderway (g.R.FlowRule.transport l.rule) (g.R.FlowRule.rule l.rule) (flow_of (g.R.FlowRule.transport l.rule).orient l.about l.a l.b) (state l.inflows.items l.missing.items l.queue.items) l.head;
  grows : Grows l.fn.queue.items l.queue.items;
  room : tile_size (flow_of (g.R.FlowRule.transport l.rule).orient l.about l.a l.b) ≤ vec_capacity l.queue;
  kept : vec_capacity l.fn.queue ≤ vec_capacity l.queue;
}

abbrev pub decreases-loop-head : goal.decreases-loop-head
decreases-loop-head g l = tile_size (flow_of (g.R.FlowRule.transport l.rule).orient l.about l.a l.b) - l.head
