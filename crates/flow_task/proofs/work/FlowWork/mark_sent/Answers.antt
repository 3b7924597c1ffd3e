use Rattle.std.proofs.Common.{◌≡◌, ◌∙◌, ◌++◌, ◌∷◌, [], ℕ, List, ap, sym, subst, arith, true, false, slice_set, vec_capacity}
use Rattle.std.specs.Result.{is_ok}
use Rattle.border_channel.specs.Outbound.{next_due}
use Rattle.flow_task.specs.declared.link.Link.{Link}
use Rattle.flow_task.specs.Works.{TileWork, marked, tile_work}
use Rattle.flow_task.specs.inside.Abouts.{flow_of}
use Rattle.flow_task.specs.inside.Kept.{AreUnsent, HasLink, IsLinkAt}
use Rattle.flow_task.specs.inside.States.{state}
use Rattle.flow_task.proofs.Marking.{due_moved, marks, next_is}
use Rattle.flow_task.proofs.Noting.{least_is, noted_after}
use Rattle.flow_task.proofs.work.FlowWork.mark_sent.Goals as goal

pub link_place-at-requires-clause-has : goal.link_place-at-requires-clause-has
link_place-at-requires-clause-has g c =
    let due = due_moved (λ (v : TileWork g.row.R.Denot). next_due (g.R.FlowRule.transport v.which).orient v.of v.sent) _ _ c.args.edge c.self.view_is c.requires in
    let next = next_is (g.R.FlowRule.transport c.self.inside.rule) (g.R.FlowRule.rule c.self.inside.rule) _ _ _ _ _ _ _ c.self.invariant.0 c.self.inside.sent.items c.args.edge due in
    subst (λ (y : List Link). HasLink y c.args.edge) (sym c.deref.ensures.value) next.link

pub invariant_of-self : goal.invariant_of-self
invariant_of-self g c =
    let due = due_moved (λ (v : TileWork g.row.R.Denot). next_due (g.R.FlowRule.transport v.which).orient v.of v.sent) _ _ c.args.edge c.self.view_is c.requires in
    let next = next_is (g.R.FlowRule.transport c.self.inside.rule) (g.R.FlowRule.rule c.self.inside.rule) _ _ _ _ _ _ _ c.self.invariant.0 c.self.inside.sent.items c.args.edge due in
    let at : IsLinkAt c.self.inside.outbound.items c.args.edge c.link_place-at.result = subst (λ (y : List Link). IsLinkAt y c.args.edge c.link_place-at.result) c.deref.ensures.value c.link_place-at.ensures in
    let m = marks c.self.inside.outbound.items c.self.inside.unsent.items c.self.inside.sent.items (vec_capacity c.self.inside.sent) c.link_place-at.result c.args.edge c.self.invariant.0.outbound_are.ascends c.self.invariant.1 at next.unsent in
    let ok : is_ok c.push.result ≡ true = c.push.ensures.succeeds (omega (arith, m.room_left)) in
    let items : c.push.new.self.items ≡ c.self.inside.sent.items ++ c.args.edge ∷ [] = rw ok at c.push.ensures.items in (
      c.self.invariant.0,
      subst (λ (y : List ℕ). AreUnsent c.self.inside.outbound.items (slice_set c.self.inside.unsent.items c.link_place-at.result false) y (vec_capacity c.push.new.self)) (sym items) (m.after (vec_capacity c.push.new.self) c.push.ensures.capacity),
      c.self.invariant.2,
      noted_after c.self.inside.outbound.items c.self.inside.unsent.items c.self.inside.leaves.items c.self.inside.queue.items c.self.inside.missing.items c.self.inside.due c.take_least.new.self c.link_place-at.result c.take_least.result c.self.invariant.3
          (least_is (g.R.FlowRule.transport c.self.inside.rule) (g.R.FlowRule.rule c.self.inside.rule) _ _ (state c.self.inside.inflows.items c.self.inside.missing.items c.self.inside.queue.items) _ _ _ _ c.self.invariant.0 c.self.inside.unsent.items c.self.inside.leaves.items c.self.inside.sent.items _ c.self.invariant.1 c.self.inside.due c.self.invariant.3
          c.args.edge c.link_place-at.result due at c.take_least.result c.take_least.ensures.least)
          c.take_least.ensures.least c.take_least.ensures.times c.take_least.ensures.room,
    )

pub returns : goal.returns
returns g c =
    let due = due_moved (λ (v : TileWork g.row.R.Denot). next_due (g.R.FlowRule.transport v.which).orient v.of v.sent) _ _ c.args.edge c.self.view_is c.requires in
    let next = next_is (g.R.FlowRule.transport c.self.inside.rule) (g.R.FlowRule.rule c.self.inside.rule) _ _ _ _ _ _ _ c.self.invariant.0 c.self.inside.sent.items c.args.edge due in
    let at : IsLinkAt c.self.inside.outbound.items c.args.edge c.link_place-at.result = subst (λ (y : List Link). IsLinkAt y c.args.edge c.link_place-at.result) c.deref.ensures.value c.link_place-at.ensures in
    let m = marks c.self.inside.outbound.items c.self.inside.unsent.items c.self.inside.sent.items (vec_capacity c.self.inside.sent) c.link_place-at.result c.args.edge c.self.invariant.0.outbound_are.ascends c.self.invariant.1 at next.unsent in
    let ok : is_ok c.push.result ≡ true = c.push.ensures.succeeds (omega (arith, m.room_left)) in
    let items : c.push.new.self.items ≡ c.self.inside.sent.items ++ c.args.edge ∷ [] = rw ok at c.push.ensures.items in
    let w = flow_of (g.R.FlowRule.transport c.self.inside.rule).orient c.self.inside.about c.self.inside.a c.self.inside.b in
    ap (λ (y : List ℕ). tile_work c.self.inside.rule w y) items ∙ ap (λ (v : TileWork g.row.R.Denot). marked v c.args.edge) c.self.view_is
