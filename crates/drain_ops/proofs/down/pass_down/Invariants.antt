use Rattle.std.proofs.Common.{◌≢◌, ℕ, ◌<◌, ◌≤◌, length, get_or}
use Rattle.drain_ops.specs.Operands.{flow_operand}
use Rattle.drain_ops.proofs.Chains.{Descended, steps_left}
use Rattle.drain_ops.proofs.down.pass_down.Given as goal

-- no cell before this one waits for none
abbrev pub invariant-loop-place : goal.invariant-loop-place
invariant-loop-place g l = record {
  descended : Descended (g.R.FlowRule.transport l.rule) (g.R.FlowRule.rule l.rule) l.kind l.drain (flow_operand l.a) (flow_operand l.b) l.waits l.inflows l.results l.over;
  past : (u : ℕ) → u < l.place → get_or l.waits u 0 ≢ 0;
}

-- nor does one up to this one, but where the chain is
abbrev pub invariant-loop-waits : goal.invariant-loop-waits
invariant-loop-waits g l = record {
  descended : Descended (g.R.FlowRule.transport l.rule) (g.R.FlowRule.rule l.rule) l.kind l.drain (flow_operand l.a) (flow_operand l.b) l.waits l.inflows l.results l.over;
  within : l.at < length l.drain.codes;
  past : (u : ℕ) → u ≤ l.place → u ≢ l.at → get_or l.waits u 0 ≢ 0;
}

abbrev pub decreases-loop-waits : goal.decreases-loop-waits
decreases-loop-waits g l = steps_left l.drain l.waits l.at
