use Rattle.std.proofs.Common.{◌≡◌, ◌∙◌, ◌<◌, ap, arith, length}
use Rattle.drain_meaning.specs.Flows.{flow_outcome}
use Rattle.tile_map.specs.Parts.{or_missing}
use Rattle.tile_map.proofs.Callers.{length-tabulate}
use Rattle.border_channel.specs.Locals.{local_outcome, local_part}
use Rattle.border_channel.specs.Settled.{all_settled}
use Rattle.flow_task.specs.Works.{TileWork}
use Rattle.flow_task.specs.inside.Abouts.{flow_of}
use Rattle.flow_task.specs.inside.Begins.{coded_first}
use Rattle.flow_task.specs.inside.States.{state}
use Rattle.flow_task.specs.inside.Underway.{cell_place, tile_size}
use Rattle.flow_task.proofs.Beginning.{over_many}
use Rattle.flow_task.proofs.Ending.{all_results, end_turn, one_more, result_is, tile_few, true_moved}
use Rattle.flow_task.proofs.work.FlowWork.finish.Goals as goal

pub index-requires : goal.index-requires
index-requires g c =
    let t = g.R.FlowRule.transport c.self.inside.rule in
    let w = flow_of t.orient c.self.inside.about c.self.inside.a c.self.inside.b in
    let last : c.len-count.result ≡ length c.self.inside.missing.items = omega arith in
    let many : length c.self.inside.missing.items ≡ tile_size w = c.self.invariant.0.underway.counted.missing_many in
    let low : c.loop-i.i < tile_size w = omega (arith, last, many) in
    let directed : length c.self.inside.directed.items ≡ tile_size w = ap length c.self.invariant.2 ∙ over_many (coded_first w.drain.codes w.tiling w.tile) (tile_size w) in
    omega (arith, directed, low)

pub overflow_cast-i : goal.overflow_cast-i
overflow_cast-i g c =
    let t = g.R.FlowRule.transport c.self.inside.rule in
    let w = flow_of t.orient c.self.inside.about c.self.inside.a c.self.inside.b in
    let last : c.len-count.result ≡ length c.self.inside.missing.items = omega arith in
    let many : length c.self.inside.missing.items ≡ tile_size w = c.self.invariant.0.underway.counted.missing_many in
    let low : c.loop-i.i < tile_size w = omega (arith, last, many) in
    let few = tile_few w c.self.invariant.0.begun.tile in
    omega (arith, few, low)

pub end_of-end-requires-clause-inflow : goal.end_of-end-requires-clause-inflow
end_of-end-requires-clause-inflow g c =
    let t = g.R.FlowRule.transport c.self.inside.rule in
    let w = flow_of t.orient c.self.inside.about c.self.inside.a c.self.inside.b in
    let last : c.len-count.result ≡ length c.self.inside.missing.items = omega arith in
    let many : length c.self.inside.missing.items ≡ tile_size w = c.self.invariant.0.underway.counted.missing_many in
    let low : c.loop-i.i < tile_size w = omega (arith, last, many) in
    omega (arith, c.self.invariant.0.underway.counted.inflows_many, low)

pub end_of-end-requires-clause-a : goal.end_of-end-requires-clause-a
end_of-end-requires-clause-a g c =
    let t = g.R.FlowRule.transport c.self.inside.rule in
    let w = flow_of t.orient c.self.inside.about c.self.inside.a c.self.inside.b in
    let last : c.len-count.result ≡ length c.self.inside.missing.items = omega arith in
    let many : length c.self.inside.missing.items ≡ tile_size w = c.self.invariant.0.underway.counted.missing_many in
    let low : c.loop-i.i < tile_size w = omega (arith, last, many) in
    omega (arith, c.self.invariant.0.begun.a_many, low)

pub end_of-end-requires-clause-b : goal.end_of-end-requires-clause-b
end_of-end-requires-clause-b g c =
    let t = g.R.FlowRule.transport c.self.inside.rule in
    let w = flow_of t.orient c.self.inside.about c.self.inside.a c.self.inside.b in
    let last : c.len-count.result ≡ length c.self.inside.missing.items = omega arith in
    let many : length c.self.inside.missing.items ≡ tile_size w = c.self.invariant.0.underway.counted.missing_many in
    let low : c.loop-i.i < tile_size w = omega (arith, last, many) in
    omega (arith, c.self.invariant.0.begun.b_many, low)

pub end_of-end-requires-clause-fits : goal.end_of-end-requires-clause-fits
end_of-end-requires-clause-fits g c =
    let t = g.R.FlowRule.transport c.self.inside.rule in
    let w = flow_of t.orient c.self.inside.about c.self.inside.a c.self.inside.b in
    let last : c.len-count.result ≡ length c.self.inside.missing.items = omega arith in
    let many : length c.self.inside.missing.items ≡ tile_size w = c.self.invariant.0.underway.counted.missing_many in
    let low : c.loop-i.i < tile_size w = omega (arith, last, many) in
    let settled = true_moved (λ (v : TileWork g.row.R.Denot). all_settled (g.R.FlowRule.transport v.which).orient v.of) _ _ c.self.view_is c.requires.settled in
    (end_turn t (g.R.FlowRule.rule c.self.inside.rule) (g.R.FlowRule.laws c.self.inside.rule) w c.self.inside.fed c.self.invariant.0.begun (state c.self.inside.inflows.items c.self.inside.missing.items c.self.inside.queue.items) c.self.invariant.0.underway settled c.loop-i.i low).fits

pub push_outcome-requires : goal.push_outcome-requires
push_outcome-requires g c =
    let t = g.R.FlowRule.transport c.self.inside.rule in
    let w = flow_of t.orient c.self.inside.about c.self.inside.a c.self.inside.b in
    let last : c.len-count.result ≡ length c.self.inside.missing.items = omega arith in
    let cells : length c.self.inside.missing.items ≡ tile_size w = c.self.invariant.0.underway.counted.missing_many in
    let low : c.loop-i.i < tile_size w = omega (arith, last, cells) in
    let few = tile_few w c.self.invariant.0.begun.tile in
    let many : length c.loop-i.cells.items ≡ c.loop-i.i = ap length c.loop-i.invariant.cells ∙ length-tabulate (λ k. or_missing (local_outcome t w (cell_place w k))) c.loop-i.i in
    omega (arith, few, many, low)

pub loop-i-preserved : goal.loop-i-preserved
loop-i-preserved g c =
    let t = g.R.FlowRule.transport c.self.inside.rule in
    let w = flow_of t.orient c.self.inside.about c.self.inside.a c.self.inside.b in
    let last : c.len-count.result ≡ length c.self.inside.missing.items = omega arith in
    let many : length c.self.inside.missing.items ≡ tile_size w = c.self.invariant.0.underway.counted.missing_many in
    let low : c.loop-i.i < tile_size w = omega (arith, last, many) in
    let settled = true_moved (λ (v : TileWork g.row.R.Denot). all_settled (g.R.FlowRule.transport v.which).orient v.of) _ _ c.self.view_is c.requires.settled in
    let result = result_is t (g.R.FlowRule.rule c.self.inside.rule) (g.R.FlowRule.laws c.self.inside.rule) w c.self.inside.fed c.self.invariant.0.begun (state c.self.inside.inflows.items c.self.inside.missing.items c.self.inside.queue.items) c.self.invariant.0.underway settled c.self.inside.directed.items c.self.invariant.2
    c.loop-i.i low c.index.result.now c.end_of-end.result c.index.ensures c.end_of-end.ensures in
    let more = one_more (λ i. local_outcome t w (cell_place w i)) c.loop-i.i (flow_outcome c.self.inside.about.kind c.result_of-result.result) c.loop-i.cells.items c.push_outcome.new.cells.items c.loop-i.over c.in_ok-over.over
    c.loop-i.invariant.cells c.loop-i.invariant.over (ap (flow_outcome c.self.inside.about.kind) (c.result_of-result.ensures ∙ result)) c.in_ok-over.ensures.cells c.in_ok-over.ensures.over in
    record { cells = more.0; over = more.1 }

pub returns : goal.returns
returns g c =
    let t = g.R.FlowRule.transport c.self.inside.rule in
    let w = flow_of t.orient c.self.inside.about c.self.inside.a c.self.inside.b in
    let last : c.len-count.result ≡ length c.self.inside.missing.items = omega arith in
    let many : length c.self.inside.missing.items ≡ tile_size w = c.self.invariant.0.underway.counted.missing_many in
    all_results (λ i. local_outcome t w (cell_place w i)) c.loop-i.i (tile_size w) c.loop-i.cells.items c.from_vec.result c.loop-i.over (omega (arith, last, many)) c.loop-i.invariant.cells c.loop-i.invariant.over c.from_vec.ensures
    ∙ ap (λ (v : TileWork g.row.R.Denot). local_part (g.R.FlowRule.transport v.which) v.of) c.self.view_is
