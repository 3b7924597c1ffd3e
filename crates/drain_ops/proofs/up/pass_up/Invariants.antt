use Rattle.std.proofs.Common.{◌≡◌, ℕ, ◌<◌, length}
use Rattle.drain_meaning.specs.Paths.{IsDirected}
use Rattle.drain_ops.specs.Operands.{flow_operand}
use Rattle.drain_ops.specs.inside.Trails.{IsEnded, IsEndedOrOnTrail, LeadsDown}
use Rattle.drain_ops.proofs.Rising.{Ascended}
use Rattle.drain_ops.proofs.up.pass_up.Given as goal

-- the cells before this one have their ends
abbrev pub invariant-loop-place : goal.invariant-loop-place
invariant-loop-place g l = record {
  ascended : Ascended (g.R.FlowRule.transport l.rule) l.kind l.drain (flow_operand l.a) (flow_operand l.b) l.ended l.outs l.results l.over;
  empty : length l.trail.items ≡ 0;
  past : (u : ℕ) → u < l.place → IsDirected l.drain u → IsEnded l.ended u;
}

-- and so has this one, or it is on the trail
abbrev pub invariant-loop-at : goal.invariant-loop-at
invariant-loop-at g l = record {
  ascended : Ascended (g.R.FlowRule.transport l.rule) l.kind l.drain (flow_operand l.a) (flow_operand l.b) l.ended l.outs l.results l.over;
  leads : LeadsDown l.drain l.ended l.trail.items;
  found : IsEndedOrOnTrail l.drain l.ended l.trail.items l.place;
  past : (u : ℕ) → u < l.place → IsDirected l.drain u → IsEnded l.ended u;
}

abbrev pub decreases-loop-at : goal.decreases-loop-at
decreases-loop-at g l = length l.trail.items
