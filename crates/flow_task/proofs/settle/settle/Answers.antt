use Rattle.std.proofs.Common.{◌<◌, length, arith, ◌+◌, ◌-◌, vec_capacity}
use Rattle.flow_task.specs.inside.Abouts.{flow_of}
use Rattle.flow_task.specs.inside.States.{end_here, fed_cells, state}
use Rattle.flow_task.specs.inside.Underway.{tile_size}
use Rattle.flow_task.proofs.Turns.{grows_on, grows_to, next_of, next_turn, queue_few, underway_moved}
use Rattle.flow_task.proofs.settle.settle.Goals as goal

pub end_cell-requires : goal.end_cell-requires
end_cell-requires g c =
    let less : c.loop-head.head < length c.loop-head.queue.items = omega arith in
    (next_turn (g.R.FlowRule.transport c.args.rule.now) (g.R.FlowRule.rule c.args.rule.now) (g.R.FlowRule.laws c.args.rule.now) (flow_of (g.R.FlowRule.transport c.args.rule.now).orient c.args.about.now c.args.a.now c.args.b.now)
    c.args.fed.now c.args.a.now c.args.b.now c.requires.begun (state c.loop-head.inflows.items c.loop-head.missing.items c.loop-head.queue.items)
    c.loop-head.head c.index-cell.result.now (vec_capacity c.loop-head.queue) c.loop-head.invariant.underway less
    (next_of c.loop-head.queue.items c.loop-head.head c.index-cell.result.now less c.index-cell.ensures) c.loop-head.invariant.room).can

pub loop-head-smaller : goal.loop-head-smaller
loop-head-smaller g c =
    let few = queue_few (g.R.FlowRule.transport c.args.rule.now) (g.R.FlowRule.rule c.args.rule.now) (flow_of (g.R.FlowRule.transport c.args.rule.now).orient c.args.about.now c.args.a.now c.args.b.now) (state c.loop-head.inflows.items c.loop-head.missing.items c.loop-head.queue.items) c.loop-head.head c.loop-head.invariant.underway in
    let less : c.loop-head.head < length c.loop-head.queue.items = omega arith in
    let smaller : tile_size (flow_of (g.R.FlowRule.transport c.args.rule.now).orient c.args.about.now c.args.a.now c.args.b.now) - (c.loop-head.head + 1) < tile_size (flow_of (g.R.FlowRule.transport c.args.rule.now).orient c.args.about.now c.args.a.now c.args.b.now) - c.loop-head.head = omega (arith, few, less) in
    smaller

pub loop-head-preserved : goal.loop-head-preserved
loop-head-preserved g c =
    let less : c.loop-head.head < length c.loop-head.queue.items = omega arith in
    let turn = next_turn (g.R.FlowRule.transport c.args.rule.now) (g.R.FlowRule.rule c.args.rule.now) (g.R.FlowRule.laws c.args.rule.now) (flow_of (g.R.FlowRule.transport c.args.rule.now).orient c.args.about.now c.args.a.now c.args.b.now)
    c.args.fed.now c.args.a.now c.args.b.now c.requires.begun (state c.loop-head.inflows.items c.loop-head.missing.items c.loop-head.queue.items)
    c.loop-head.head c.index-cell.result.now (vec_capacity c.loop-head.queue) c.loop-head.invariant.underway less
    (next_of c.loop-head.queue.items c.loop-head.head c.index-cell.result.now less c.index-cell.ensures) c.loop-head.invariant.room in
    record {
      underway = underway_moved (g.R.FlowRule.transport c.args.rule.now) (g.R.FlowRule.rule c.args.rule.now) (flow_of (g.R.FlowRule.transport c.args.rule.now).orient c.args.about.now c.args.a.now c.args.b.now) _ _ (c.loop-head.head + 1) c.end_cell.ensures.state turn.underway;
      grows = grows_on c.args.queue.now.items c.loop-head.queue.items c.end_cell.new.queue.items c.loop-head.invariant.grows
          (grows_to (g.R.FlowRule.rule c.args.rule.now) (fed_cells c.args.fed.now c.index-cell.result.now) (end_here (g.R.FlowRule.rule c.args.rule.now) (state c.loop-head.inflows.items c.loop-head.missing.items c.loop-head.queue.items) c.args.a.now c.args.b.now c.index-cell.result.now).out (state c.loop-head.inflows.items c.loop-head.missing.items c.loop-head.queue.items) (state c.end_cell.new.inflows.items c.end_cell.new.missing.items c.end_cell.new.queue.items) c.end_cell.ensures.state);
      room = omega (arith, c.loop-head.invariant.room, c.end_cell.ensures.capacity);
      kept = omega (arith, c.loop-head.invariant.kept, c.end_cell.ensures.capacity);
    }
