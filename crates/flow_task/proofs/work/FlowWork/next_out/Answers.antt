use Rattle.std.proofs.Common.{◌≡◌, ◌∙◌, ◌<◌, ℕ, ap, sym, subst, arith}
use Rattle.drain_meaning.specs.Rules.{FitsBefore}
use Rattle.border_channel.specs.Outbound.{next_message}
use Rattle.flow_task.specs.Works.{TileWork}
use Rattle.flow_task.specs.declared.link.Link.{Link}
use Rattle.flow_task.specs.inside.Abouts.{flow_of}
use Rattle.flow_task.specs.inside.Kept.{link_at}
use Rattle.flow_task.specs.inside.States.{end_here, inflow_at, state}
use Rattle.flow_task.specs.inside.Underway.{tile_size}
use Rattle.flow_task.proofs.Noting.{least_ready, none_ready}
use Rattle.flow_task.proofs.Sending.{link_read, message_same, next_none, next_some, ready_turn}
use Rattle.flow_task.proofs.work.FlowWork.next_out.Goals as goal

pub index-link-requires : goal.index-link-requires
index-link-requires g c =
    let t = g.R.FlowRule.transport c.self.inside.rule in
    let rule = g.R.FlowRule.rule c.self.inside.rule in
    let w = flow_of t.orient c.self.inside.about c.self.inside.a c.self.inside.b in
    let s = state c.self.inside.inflows.items c.self.inside.missing.items c.self.inside.queue.items in
    let first = least_ready t rule w c.self.inside.fed s _ _ _ _ c.self.invariant.0 c.self.inside.unsent.items c.self.inside.leaves.items c.self.inside.due c.self.invariant.1.many c.self.invariant.3 c.in-Some.at c.in-Some.ensures in
    omega (arith, first.within)

pub end_of-end-requires-clause-inflow : goal.end_of-end-requires-clause-inflow
end_of-end-requires-clause-inflow g c =
    let t = g.R.FlowRule.transport c.self.inside.rule in
    let rule = g.R.FlowRule.rule c.self.inside.rule in
    let w = flow_of t.orient c.self.inside.about c.self.inside.a c.self.inside.b in
    let s = state c.self.inside.inflows.items c.self.inside.missing.items c.self.inside.queue.items in
    let first = least_ready t rule w c.self.inside.fed s _ _ _ _ c.self.invariant.0 c.self.inside.unsent.items c.self.inside.leaves.items c.self.inside.due c.self.invariant.1.many c.self.invariant.3 c.in-Some.at c.in-Some.ensures in
    let link = link_read c.self.inside.outbound.items c.in-Some.at c.index-link.result.now first.within c.index-link.ensures in
    let cell : c.index-link.result.now.cell ≡ (link_at c.self.inside.outbound.items c.in-Some.at).cell = ap (λ (l : Link). l.cell) link in
    let inside : (link_at c.self.inside.outbound.items c.in-Some.at).cell < tile_size w = c.self.invariant.0.outbound_are.cell_in c.in-Some.at first.within in
    omega (arith, cell, inside, c.self.invariant.0.underway.counted.inflows_many)

pub end_of-end-requires-clause-a : goal.end_of-end-requires-clause-a
end_of-end-requires-clause-a g c =
    let t = g.R.FlowRule.transport c.self.inside.rule in
    let rule = g.R.FlowRule.rule c.self.inside.rule in
    let w = flow_of t.orient c.self.inside.about c.self.inside.a c.self.inside.b in
    let s = state c.self.inside.inflows.items c.self.inside.missing.items c.self.inside.queue.items in
    let first = least_ready t rule w c.self.inside.fed s _ _ _ _ c.self.invariant.0 c.self.inside.unsent.items c.self.inside.leaves.items c.self.inside.due c.self.invariant.1.many c.self.invariant.3 c.in-Some.at c.in-Some.ensures in
    let link = link_read c.self.inside.outbound.items c.in-Some.at c.index-link.result.now first.within c.index-link.ensures in
    let cell : c.index-link.result.now.cell ≡ (link_at c.self.inside.outbound.items c.in-Some.at).cell = ap (λ (l : Link). l.cell) link in
    let inside : (link_at c.self.inside.outbound.items c.in-Some.at).cell < tile_size w = c.self.invariant.0.outbound_are.cell_in c.in-Some.at first.within in
    omega (arith, cell, inside, c.self.invariant.0.begun.a_many)

pub end_of-end-requires-clause-b : goal.end_of-end-requires-clause-b
end_of-end-requires-clause-b g c =
    let t = g.R.FlowRule.transport c.self.inside.rule in
    let rule = g.R.FlowRule.rule c.self.inside.rule in
    let w = flow_of t.orient c.self.inside.about c.self.inside.a c.self.inside.b in
    let s = state c.self.inside.inflows.items c.self.inside.missing.items c.self.inside.queue.items in
    let first = least_ready t rule w c.self.inside.fed s _ _ _ _ c.self.invariant.0 c.self.inside.unsent.items c.self.inside.leaves.items c.self.inside.due c.self.invariant.1.many c.self.invariant.3 c.in-Some.at c.in-Some.ensures in
    let link = link_read c.self.inside.outbound.items c.in-Some.at c.index-link.result.now first.within c.index-link.ensures in
    let cell : c.index-link.result.now.cell ≡ (link_at c.self.inside.outbound.items c.in-Some.at).cell = ap (λ (l : Link). l.cell) link in
    let inside : (link_at c.self.inside.outbound.items c.in-Some.at).cell < tile_size w = c.self.invariant.0.outbound_are.cell_in c.in-Some.at first.within in
    omega (arith, cell, inside, c.self.invariant.0.begun.b_many)

pub end_of-end-requires-clause-fits : goal.end_of-end-requires-clause-fits
end_of-end-requires-clause-fits g c =
    let t = g.R.FlowRule.transport c.self.inside.rule in
    let rule = g.R.FlowRule.rule c.self.inside.rule in
    let w = flow_of t.orient c.self.inside.about c.self.inside.a c.self.inside.b in
    let s = state c.self.inside.inflows.items c.self.inside.missing.items c.self.inside.queue.items in
    let first = least_ready t rule w c.self.inside.fed s _ _ _ _ c.self.invariant.0 c.self.inside.unsent.items c.self.inside.leaves.items c.self.inside.due c.self.invariant.1.many c.self.invariant.3 c.in-Some.at c.in-Some.ensures in
    let link = link_read c.self.inside.outbound.items c.in-Some.at c.index-link.result.now first.within c.index-link.ensures in
    let cell : c.index-link.result.now.cell ≡ (link_at c.self.inside.outbound.items c.in-Some.at).cell = ap (λ (l : Link). l.cell) link in
    let inside : (link_at c.self.inside.outbound.items c.in-Some.at).cell < tile_size w = c.self.invariant.0.outbound_are.cell_in c.in-Some.at first.within in
    let turn = ready_turn t rule (g.R.FlowRule.laws c.self.inside.rule) w c.self.inside.fed s _ _ c.self.inside.unsent.items _ _ c.self.invariant.0 c.in-Some.at first.within first.on in
    subst (λ (i : ℕ). FitsBefore rule (inflow_at rule s i)) (sym cell) turn.fits

pub returns-in-Some : goal.returns-in-Some
returns-in-Some g c =
    let t = g.R.FlowRule.transport c.self.inside.rule in
    let rule = g.R.FlowRule.rule c.self.inside.rule in
    let w = flow_of t.orient c.self.inside.about c.self.inside.a c.self.inside.b in
    let s = state c.self.inside.inflows.items c.self.inside.missing.items c.self.inside.queue.items in
    let first = least_ready t rule w c.self.inside.fed s _ _ _ _ c.self.invariant.0 c.self.inside.unsent.items c.self.inside.leaves.items c.self.inside.due c.self.invariant.1.many c.self.invariant.3 c.in-Some.at c.in-Some.ensures in
    let link = link_read c.self.inside.outbound.items c.in-Some.at c.index-link.result.now first.within c.index-link.ensures in
    let end : c.end_of-end.result ≡ end_here rule s c.self.inside.a c.self.inside.b (link_at c.self.inside.outbound.items c.in-Some.at).cell = c.end_of-end.ensures ∙ ap (λ (l : Link). end_here rule s c.self.inside.a c.self.inside.b l.cell) link in
    message_same c.index-link.result.now (link_at c.self.inside.outbound.items c.in-Some.at) c.end_of-end.result (end_here rule s c.self.inside.a c.self.inside.b (link_at c.self.inside.outbound.items c.in-Some.at).cell) link end
    ∙ (next_some t rule (g.R.FlowRule.laws c.self.inside.rule) w _ _ _ _ _ _ _ _ _ c.self.invariant.0 c.self.invariant.1 c.in-Some.at first.within first.before first.on
    ∙ ap (λ (v : TileWork g.row.R.Denot). next_message (g.R.FlowRule.transport v.which) v.of v.sent) c.self.view_is)

pub returns-in-None : goal.returns-in-None
returns-in-None g c =
    let t = g.R.FlowRule.transport c.self.inside.rule in
    let rule = g.R.FlowRule.rule c.self.inside.rule in
    let w = flow_of t.orient c.self.inside.about c.self.inside.a c.self.inside.b in
    let s = state c.self.inside.inflows.items c.self.inside.missing.items c.self.inside.queue.items in
    next_none t rule w _ s _ _ _ _ _ _ _ c.self.invariant.0 c.self.invariant.1
    (none_ready t rule w c.self.inside.fed s _ _ _ _ c.self.invariant.0 c.self.inside.unsent.items c.self.inside.leaves.items c.self.inside.due c.self.invariant.3 c.in-None.ensures)
    ∙ ap (λ (v : TileWork g.row.R.Denot). next_message (g.R.FlowRule.transport v.which) v.of v.sent) c.self.view_is
