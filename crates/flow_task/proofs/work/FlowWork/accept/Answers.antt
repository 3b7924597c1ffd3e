use Rattle.std.proofs.Common.{◌≡◌, ◌∙◌, ℕ, List, refl, ◌++◌, ◌∷◌, [], sym, ap, subst, arith, length, vec_capacity, true}
use Rattle.std.specs.Result.{is_ok}
use Rattle.border_channel.specs.declared.edge.Message.{Message}
use Rattle.border_channel.specs.TileFlows.{with_taken}
use Rattle.flow_task.specs.declared.link.Link.{Link}
use Rattle.flow_task.specs.Works.{TileWork, accepted, tile_work}
use Rattle.flow_task.specs.inside.Abouts.{flow_of}
use Rattle.flow_task.specs.inside.Kept.{Ascend, HasLink, IsWorkKept, IsLinked}
use Rattle.flow_task.specs.inside.States.{Grows, state}
use Rattle.flow_task.specs.inside.Underway.{IsWorkBegun, IsUnderway}
use Rattle.flow_task.proofs.Accepting.{can_moved}
use Rattle.flow_task.proofs.Keeping.{state_same, step, underway_with}
use Rattle.flow_task.proofs.Noting.{can_add_more, noted_more}
use Rattle.flow_task.proofs.Turns.{grows_on, queued_grows}
use Rattle.flow_task.proofs.work.FlowWork.accept.Goals as goal

pub cell_at_edge-cell-requires-clause-ascend : goal.cell_at_edge-cell-requires-clause-ascend
cell_at_edge-cell-requires-clause-ascend g c = subst (λ (y : List Link). Ascend y) (sym c.deref.ensures.value) c.self.invariant.0.inbound_are.ascends

pub cell_at_edge-cell-requires-clause-has : goal.cell_at_edge-cell-requires-clause-has
cell_at_edge-cell-requires-clause-has g c =
    let can = can_moved (λ (r : g.row.R.Denot). (g.R.FlowRule.transport r).orient) _ _ c.args.message c.self.view_is c.requires in
    subst (λ (y : List Link). HasLink y c.args.message.edge) (sym c.deref.ensures.value) (c.self.invariant.0.inbound_are.each c.args.message.edge can.within can.into)

pub receive-requires : goal.receive-requires
receive-requires g c =
    let can = can_moved (λ (r : g.row.R.Denot). (g.R.FlowRule.transport r).orient) _ _ c.args.message c.self.view_is c.requires in
    let linked : IsLinked c.self.inside.inbound.items c.args.message.edge c.cell_at_edge-cell.result = subst (λ (y : List Link). IsLinked y c.args.message.edge c.cell_at_edge-cell.result) c.deref.ensures.value c.cell_at_edge-cell.ensures in
    (step (g.R.FlowRule.transport c.self.inside.rule) (g.R.FlowRule.rule c.self.inside.rule) (g.R.FlowRule.laws c.self.inside.rule) _ _ _ _ _ _ _ c.self.invariant.0 c.args.message c.cell_at_edge-cell.result can linked).can

pub settle-requires-clause-begun : goal.settle-requires-clause-begun
settle-requires-clause-begun g c =
    let can = can_moved (λ (r : g.row.R.Denot). (g.R.FlowRule.transport r).orient) _ _ c.args.message c.self.view_is c.requires in
    let linked : IsLinked c.self.inside.inbound.items c.args.message.edge c.cell_at_edge-cell.result = subst (λ (y : List Link). IsLinked y c.args.message.edge c.cell_at_edge-cell.result) c.deref.ensures.value c.cell_at_edge-cell.ensures in
    let s = step (g.R.FlowRule.transport c.self.inside.rule) (g.R.FlowRule.rule c.self.inside.rule) (g.R.FlowRule.laws c.self.inside.rule) _ _ _ _ _ _ _ c.self.invariant.0 c.args.message c.cell_at_edge-cell.result can linked in
    let ok : is_ok c.push.result ≡ true = c.push.ensures.succeeds (omega (arith, s.room_left)) in
    let items : c.push.new.self.items ≡ c.self.inside.about.taken.items ++ c.args.message ∷ [] = rw ok at c.push.ensures.items in
    subst (λ (m : List Message). IsWorkBegun (g.R.FlowRule.transport c.self.inside.rule) (with_taken (flow_of (g.R.FlowRule.transport c.self.inside.rule).orient c.self.inside.about c.self.inside.a c.self.inside.b) m) c.self.inside.fed c.self.inside.a c.self.inside.b)
    (sym items) s.begun

pub settle-requires-clause-underway : goal.settle-requires-clause-underway
settle-requires-clause-underway g c =
    let can = can_moved (λ (r : g.row.R.Denot). (g.R.FlowRule.transport r).orient) _ _ c.args.message c.self.view_is c.requires in
    let linked : IsLinked c.self.inside.inbound.items c.args.message.edge c.cell_at_edge-cell.result = subst (λ (y : List Link). IsLinked y c.args.message.edge c.cell_at_edge-cell.result) c.deref.ensures.value c.cell_at_edge-cell.ensures in
    let s = step (g.R.FlowRule.transport c.self.inside.rule) (g.R.FlowRule.rule c.self.inside.rule) (g.R.FlowRule.laws c.self.inside.rule) _ _ _ _ _ _ _ c.self.invariant.0 c.args.message c.cell_at_edge-cell.result can linked in
    let ok : is_ok c.push.result ≡ true = c.push.ensures.succeeds (omega (arith, s.room_left)) in
    let items : c.push.new.self.items ≡ c.self.inside.about.taken.items ++ c.args.message ∷ [] = rw ok at c.push.ensures.items in
    let from : c.len-from.result ≡ length c.self.inside.queue.items = omega arith in
    underway_with (g.R.FlowRule.transport c.self.inside.rule) (g.R.FlowRule.rule c.self.inside.rule) (flow_of (g.R.FlowRule.transport c.self.inside.rule).orient c.self.inside.about c.self.inside.a c.self.inside.b)
    (c.self.inside.about.taken.items ++ c.args.message ∷ []) c.push.new.self.items _ (state c.receive.new.inflows.items c.receive.new.missing.items c.receive.new.queue.items) (length c.self.inside.queue.items) c.len-from.result
    items (state_same _ _ _ _ _ _ c.receive.ensures.inflows c.receive.ensures.missing c.receive.ensures.queue) from s.underway

pub note_settled-requires : goal.note_settled-requires
note_settled-requires g c =
    let can = can_moved (λ (r : g.row.R.Denot). (g.R.FlowRule.transport r).orient) _ _ c.args.message c.self.view_is c.requires in
    let linked : IsLinked c.self.inside.inbound.items c.args.message.edge c.cell_at_edge-cell.result = subst (λ (y : List Link). IsLinked y c.args.message.edge c.cell_at_edge-cell.result) c.deref.ensures.value c.cell_at_edge-cell.ensures in
    let s = step (g.R.FlowRule.transport c.self.inside.rule) (g.R.FlowRule.rule c.self.inside.rule) (g.R.FlowRule.laws c.self.inside.rule) _ _ _ _ _ _ _ c.self.invariant.0 c.args.message c.cell_at_edge-cell.result can linked in
    let ok : is_ok c.push.result ≡ true = c.push.ensures.succeeds (omega (arith, s.room_left)) in
    let items : c.push.new.self.items ≡ c.self.inside.about.taken.items ++ c.args.message ∷ [] = rw ok at c.push.ensures.items in
    let w = flow_of (g.R.FlowRule.transport c.self.inside.rule).orient c.self.inside.about c.self.inside.a c.self.inside.b in
    let under : IsUnderway (g.R.FlowRule.transport c.self.inside.rule) (g.R.FlowRule.rule c.self.inside.rule) (with_taken w (c.self.inside.about.taken.items ++ c.args.message ∷ [])) (state c.settle.new.inflows.items c.settle.new.missing.items c.settle.new.queue.items) (length c.settle.new.queue.items) =
    subst (λ (m : List Message). IsUnderway (g.R.FlowRule.transport c.self.inside.rule) (g.R.FlowRule.rule c.self.inside.rule) (with_taken w m) (state c.settle.new.inflows.items c.settle.new.missing.items c.settle.new.queue.items) (length c.settle.new.queue.items)) items c.settle.ensures.underway in
    let kept = subst (λ (m : List Message). IsWorkKept (g.R.FlowRule.transport c.self.inside.rule) (g.R.FlowRule.rule c.self.inside.rule) (with_taken w m) c.self.inside.fed (state c.settle.new.inflows.items c.settle.new.missing.items c.settle.new.queue.items) c.self.inside.inbound.items c.self.inside.outbound.items (vec_capacity c.settle.new.queue) (vec_capacity c.push.new.self))
    (sym items)
    (s.kept (state c.settle.new.inflows.items c.settle.new.missing.items c.settle.new.queue.items) (vec_capacity c.settle.new.queue) (vec_capacity c.push.new.self) under (omega (arith, c.receive.ensures.capacity, c.settle.ensures.capacity)) c.push.ensures.capacity) in
    let first : Grows c.self.inside.queue.items c.receive.new.queue.items = subst (λ (q : List ℕ). Grows c.self.inside.queue.items q) (sym c.receive.ensures.queue) (queued_grows c.self.inside.queue.items _ _ _ refl) in
    let grows = grows_on c.self.inside.queue.items c.receive.new.queue.items c.settle.new.queue.items first c.settle.ensures.grows in
    let from : c.len-from.result ≡ length c.self.inside.queue.items = omega arith in
    can_add_more (g.R.FlowRule.transport c.self.inside.rule) (g.R.FlowRule.rule c.self.inside.rule) _ _ (state c.settle.new.inflows.items c.settle.new.missing.items c.settle.new.queue.items) _ _ _ _ kept c.self.inside.unsent.items c.self.inside.leaves.items c.self.inside.sent.items _ c.self.invariant.1
    c.self.inside.queue.items c.self.inside.missing.items c.self.inside.due c.self.invariant.3 c.self.invariant.0.underway.counted.missing_many grows c.len-from.result from

pub invariant_of-self : goal.invariant_of-self
invariant_of-self g c =
    let can = can_moved (λ (r : g.row.R.Denot). (g.R.FlowRule.transport r).orient) _ _ c.args.message c.self.view_is c.requires in
    let linked : IsLinked c.self.inside.inbound.items c.args.message.edge c.cell_at_edge-cell.result = subst (λ (y : List Link). IsLinked y c.args.message.edge c.cell_at_edge-cell.result) c.deref.ensures.value c.cell_at_edge-cell.ensures in
    let s = step (g.R.FlowRule.transport c.self.inside.rule) (g.R.FlowRule.rule c.self.inside.rule) (g.R.FlowRule.laws c.self.inside.rule) _ _ _ _ _ _ _ c.self.invariant.0 c.args.message c.cell_at_edge-cell.result can linked in
    let ok : is_ok c.push.result ≡ true = c.push.ensures.succeeds (omega (arith, s.room_left)) in
    let items : c.push.new.self.items ≡ c.self.inside.about.taken.items ++ c.args.message ∷ [] = rw ok at c.push.ensures.items in
    let w = flow_of (g.R.FlowRule.transport c.self.inside.rule).orient c.self.inside.about c.self.inside.a c.self.inside.b in
    let under : IsUnderway (g.R.FlowRule.transport c.self.inside.rule) (g.R.FlowRule.rule c.self.inside.rule) (with_taken w (c.self.inside.about.taken.items ++ c.args.message ∷ [])) (state c.settle.new.inflows.items c.settle.new.missing.items c.settle.new.queue.items) (length c.settle.new.queue.items) =
    subst (λ (m : List Message). IsUnderway (g.R.FlowRule.transport c.self.inside.rule) (g.R.FlowRule.rule c.self.inside.rule) (with_taken w m) (state c.settle.new.inflows.items c.settle.new.missing.items c.settle.new.queue.items) (length c.settle.new.queue.items)) items c.settle.ensures.underway in
    let kept = subst (λ (m : List Message). IsWorkKept (g.R.FlowRule.transport c.self.inside.rule) (g.R.FlowRule.rule c.self.inside.rule) (with_taken w m) c.self.inside.fed (state c.settle.new.inflows.items c.settle.new.missing.items c.settle.new.queue.items) c.self.inside.inbound.items c.self.inside.outbound.items (vec_capacity c.settle.new.queue) (vec_capacity c.push.new.self))
    (sym items)
    (s.kept (state c.settle.new.inflows.items c.settle.new.missing.items c.settle.new.queue.items) (vec_capacity c.settle.new.queue) (vec_capacity c.push.new.self) under (omega (arith, c.receive.ensures.capacity, c.settle.ensures.capacity)) c.push.ensures.capacity) in (
      kept,
      c.self.invariant.1,
      c.self.invariant.2,
      noted_more c.self.inside.outbound.items c.self.inside.unsent.items c.self.inside.leaves.items c.self.inside.queue.items c.self.inside.missing.items c.settle.new.queue.items c.settle.new.missing.items c.self.inside.due c.note_settled.new.due c.self.invariant.3 c.note_settled.ensures.due c.note_settled.ensures.room
          (kept.underway.counted.missing_many ∙ sym c.self.invariant.0.underway.counted.missing_many),
    )

pub returns : goal.returns
returns g c =
    let can = can_moved (λ (r : g.row.R.Denot). (g.R.FlowRule.transport r).orient) _ _ c.args.message c.self.view_is c.requires in
    let linked : IsLinked c.self.inside.inbound.items c.args.message.edge c.cell_at_edge-cell.result = subst (λ (y : List Link). IsLinked y c.args.message.edge c.cell_at_edge-cell.result) c.deref.ensures.value c.cell_at_edge-cell.ensures in
    let s = step (g.R.FlowRule.transport c.self.inside.rule) (g.R.FlowRule.rule c.self.inside.rule) (g.R.FlowRule.laws c.self.inside.rule) _ _ _ _ _ _ _ c.self.invariant.0 c.args.message c.cell_at_edge-cell.result can linked in
    let ok : is_ok c.push.result ≡ true = c.push.ensures.succeeds (omega (arith, s.room_left)) in
    let items : c.push.new.self.items ≡ c.self.inside.about.taken.items ++ c.args.message ∷ [] = rw ok at c.push.ensures.items in
    let w = flow_of (g.R.FlowRule.transport c.self.inside.rule).orient c.self.inside.about c.self.inside.a c.self.inside.b in
    ap (λ (m : List Message). tile_work c.self.inside.rule (with_taken w m) c.self.inside.sent.items) items ∙ ap (λ (v : TileWork g.row.R.Denot). accepted v c.args.message) c.self.view_is
