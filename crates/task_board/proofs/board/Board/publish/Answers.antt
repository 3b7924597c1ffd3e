use Rattle.std.proofs.Common.{◌≡◌, ℕ, List, length, ap, sym, ◌∙◌, subst, arith, Option, vec_capacity, Global}
use Rattle.std.specs.Arc.{arc_value}
use Rattle.core_model.specs.declared.step.Step.{Step}
use Rattle.core_model.specs.declared.step.Step.TheVariants.{Publish}
use Rattle.core_model.specs.Runs.{after}
use Rattle.plan_graph.specs.PlanGraphs.{graph_of, PlanGraphValue, list_at}
use Rattle.task_states.specs.States.{ReadsIt}
use Rattle.std.specs.Option.{option_map}
use Rattle.task_board.specs.Boards.{BoardValue, IsTileFor}
use Rattle.task_board.specs.Tickets.{IsDone, IsGood}
use Rattle.task_board.proofs.FlowLemmas.{is_done}
use Rattle.task_board.proofs.BoardLemmas.{begun, board_by, core_task, more_room, needs_owed, needs_within, reads_it}
use Rattle.std.specs.declared.sync.Arc.{Arc}
use Rattle.task_tiles.specs.declared.tile.Tile.{Tile}
use Rattle.map_meaning.specs.declared.known.OverAt.{OverAt}
use Rattle.map_meaning.specs.declared.program.Program.{Program}
use Rattle.task_states.proofs.Callers.{items_back}
use Rattle.task_board.specs.inside.Noted.{IsEarlierOf, tile_note}
use Rattle.task_board.specs.inside.Held.{AreRead, IsPutAmong}
use Rattle.task_board.proofs.PublishLemmas.{published_board}
use Rattle.task_board.proofs.board.Board.publish.Goals as goal

pub publish-requires : goal.publish-requires
publish-requires g c =
    let i = c.self.inside in let b = c.self.invariant in
    let p : PlanGraphValue = arc_value i.plan in let xs : List Step = i.history.items in
    let w : ℕ = c.args.ticket.worker in let t : ℕ = c.args.ticket.task in
    let o = option_map g.K.FlowKit.work_of c.args.ticket.work in
    let good = subst (λ (v : BoardValue). IsGood v w t o) (sym c.self.view_is) c.requires.good in
    let holds = good.holds in
    let lt = core_task b t holds.task in
    let readers : c.readers.result.now ≡ list_at p.readers t = c.readers.ensures ∙ ap (λ (v : PlanGraphValue). list_at v.readers t) c.deref-5.ensures in
    let done = is_done b w t o good (subst (λ (v : BoardValue). IsDone v t o) (sym c.self.view_is) c.requires.done) in
    ((graph_of p), i.workers, after (graph_of p) xs, b.shows, begun b, holds.number, lt, holds.holds, subst (λ (l : List ℕ). ReadsIt (graph_of p) t l) (sym readers) (reads_it p t b.plan holds.task))

pub put_and_give_up-requires-clause-within : goal.put_and_give_up-requires-clause-within
put_and_give_up-requires-clause-within g c =
    let i = c.self.inside in let b = c.self.invariant in
    let p : PlanGraphValue = arc_value i.plan in let xs : List Step = i.history.items in
    let w : ℕ = c.args.ticket.worker in let t : ℕ = c.args.ticket.task in
    let o = option_map g.K.FlowKit.work_of c.args.ticket.work in
    let good = subst (λ (v : BoardValue). IsGood v w t o) (sym c.self.view_is) c.requires.good in
    let holds = good.holds in
    let lt = core_task b t holds.task in
    let readers : c.readers.result.now ≡ list_at p.readers t = c.readers.ensures ∙ ap (λ (v : PlanGraphValue). list_at v.readers t) c.deref-5.ensures in
    let done = is_done b w t o good (subst (λ (v : BoardValue). IsDone v t o) (sym c.self.view_is) c.requires.done) in
    let needs : c.needs.result.now ≡ list_at p.needs t = c.needs.ensures ∙ ap (λ (v : PlanGraphValue). list_at v.needs t) c.deref-6.ensures in
    rw (c.as_mut_slice-2.ensures.value, needs) (needs_within b w t holds.task holds.holds)

pub put_and_give_up-requires-clause-owed : goal.put_and_give_up-requires-clause-owed
put_and_give_up-requires-clause-owed g c =
    let i = c.self.inside in let b = c.self.invariant in
    let p : PlanGraphValue = arc_value i.plan in let xs : List Step = i.history.items in
    let w : ℕ = c.args.ticket.worker in let t : ℕ = c.args.ticket.task in
    let o = option_map g.K.FlowKit.work_of c.args.ticket.work in
    let good = subst (λ (v : BoardValue). IsGood v w t o) (sym c.self.view_is) c.requires.good in
    let holds = good.holds in
    let lt = core_task b t holds.task in
    let readers : c.readers.result.now ≡ list_at p.readers t = c.readers.ensures ∙ ap (λ (v : PlanGraphValue). list_at v.readers t) c.deref-5.ensures in
    let done = is_done b w t o good (subst (λ (v : BoardValue). IsDone v t o) (sym c.self.view_is) c.requires.done) in
    let needs : c.needs.result.now ≡ list_at p.needs t = c.needs.ensures ∙ ap (λ (v : PlanGraphValue). list_at v.needs t) c.deref-6.ensures in
    rw (c.as_mut_slice-2.ensures.value, needs) (needs_owed b w t holds.task holds.holds)

pub push_reserved-requires : goal.push_reserved-requires
push_reserved-requires g c =
    let i = c.self.inside in let b = c.self.invariant in
    let p : PlanGraphValue = arc_value i.plan in let xs : List Step = i.history.items in
    let w : ℕ = c.args.ticket.worker in let t : ℕ = c.args.ticket.task in
    let o = option_map g.K.FlowKit.work_of c.args.ticket.work in
    let good = subst (λ (v : BoardValue). IsGood v w t o) (sym c.self.view_is) c.requires.good in
    let holds = good.holds in
    let lt = core_task b t holds.task in
    let readers : c.readers.result.now ≡ list_at p.readers t = c.readers.ensures ∙ ap (λ (v : PlanGraphValue). list_at v.readers t) c.deref-5.ensures in
    let done = is_done b w t o good (subst (λ (v : BoardValue). IsDone v t o) (sym c.self.view_is) c.requires.done) in
    let l = more_room p i.workers xs (Publish w t) b.plan b.legal (holds.number, (lt, holds.holds, done)) in
    let k = i.history.ok.0 in let q = b.enough in omega arith

pub invariant_of-self : goal.invariant_of-self
invariant_of-self g c =
    let i = c.self.inside in let b = c.self.invariant in
    let p : PlanGraphValue = arc_value i.plan in let xs : List Step = i.history.items in
    let w : ℕ = c.args.ticket.worker in let t : ℕ = c.args.ticket.task in
    let o = option_map g.K.FlowKit.work_of c.args.ticket.work in
    let good = subst (λ (v : BoardValue). IsGood v w t o) (sym c.self.view_is) c.requires.good in
    let holds = good.holds in
    let lt = core_task b t holds.task in
    let readers : c.readers.result.now ≡ list_at p.readers t = c.readers.ensures ∙ ap (λ (v : PlanGraphValue). list_at v.readers t) c.deref-5.ensures in
    let done = is_done b w t o good (subst (λ (v : BoardValue). IsDone v t o) (sym c.self.view_is) c.requires.done) in
    let needs : c.needs.result.now ≡ list_at p.needs t = c.needs.ensures ∙ ap (λ (v : PlanGraphValue). list_at v.needs t) c.deref-6.ensures in
    let shows = subst (λ (v : BoardValue). IsTileFor v t (arc_value c.args.tile)) (sym c.self.view_is) c.requires.tile in
    let r = c.publish.ensures (graph_of p) i.workers (after (graph_of p) xs) b.shows (begun b) holds.number lt holds.holds (subst (λ (l : List ℕ). ReadsIt (graph_of p) t l) (sym readers) (reads_it p t b.plan holds.task)) in
    let new : List (Option (Arc Tile Global)) = c.put_and_give_up.new.tiles in
    let unread : List ℕ = c.put_and_give_up.new.unread in
    let many : length new ≡ length i.tiles.items = c.put_and_give_up.auto.tiles ∙ ap length c.as_mut_slice.ensures.value in
    let many_unread : length unread ≡ length i.unread.items = c.put_and_give_up.auto.unread ∙ ap length c.as_mut_slice-2.ensures.value in
    let e = c.put_and_give_up.ensures in
    let put : IsPutAmong i.tiles.items e.0 i.unread.items i.kept.items t c.args.tile = rw (sym c.as_mut_slice.ensures.value, sym c.as_mut_slice-2.ensures.value, sym c.as_slice.ensures.value) e.1 in
    let up : AreRead e.0 new i.unread.items unread i.kept.items (list_at p.needs t) = rw (sym c.as_mut_slice-2.ensures.value, sym c.as_slice.ensures.value, sym needs) e.2 in
    let note : c.noted-note.result ≡ tile_note p (arc_value i.program) t (arc_value c.args.tile) = c.noted-note.ensures ∙ ap (λ (q : PlanGraphValue). tile_note q c.deref-2.result.now t c.deref-4.result.now) c.deref.ensures
    ∙ ap (λ (q : Program). tile_note p q t c.deref-4.result.now) c.deref-2.ensures ∙ ap (tile_note p (arc_value i.program) t) c.deref-4.ensures in
    let over : Option OverAt = c.earlier-self-inside.result in
    let first : IsEarlierOf i.over (tile_note p (arc_value i.program) t (arc_value c.args.tile)) over = subst (λ (n : Option OverAt). IsEarlierOf i.over n over) note c.earlier-self-inside.ensures in
    let q = published_board b w t c.publish.new.self e.0 new unread holds.task holds.holds (holds.number, (lt, holds.holds, done)) r c.args.tile shows many many_unread put up over first in
    let s = board_by q c.push_reserved.new.self.items (vec_capacity c.push_reserved.new.self) c.push_reserved.ensures.items c.push_reserved.ensures.capacity in
    rw (items_back i.tiles new many, items_back i.unread unread many_unread) s

pub returns-clause-legal : goal.returns-clause-legal
returns-clause-legal g c = (invariant_of-self g c).legal
