use Rattle.std.proofs.Common.{◌≡◌, ℕ, List, ap, sym, ◌∙◌, subst, Option, Global}
use Rattle.std.specs.Arc.{arc_value}
use Rattle.core_model.specs.declared.step.Step.{Step}
use Rattle.plan_graph.specs.PlanGraphs.{PlanGraphValue, list_at}
use Rattle.task_board.specs.Boards.{BoardValue, HoldsTask}
use Rattle.task_board.proofs.BoardLemmas.{copies_are, tiles_there}
use Rattle.std.specs.List.{AllZip}
use Rattle.std.specs.declared.sync.Arc.{Arc}
use Rattle.task_tiles.specs.declared.tile.Tile.{Tile}
use Rattle.task_board.specs.Tiles.{AreTilesOf}
use Rattle.task_board.specs.inside.Held.{IsCopy}
use Rattle.task_board.proofs.board.Board.inputs_into.Goals as goal

pub copy_tiles-requires-clause-there : goal.copy_tiles-requires-clause-there
copy_tiles-requires-clause-there g c =
    let i = c.self.inside in let b = c.self.invariant in
    let p : PlanGraphValue = arc_value i.plan in let xs : List Step = i.history.items in
    let w : ℕ = c.args.ticket.now.worker in let t : ℕ = c.args.ticket.now.task in
    let holds = subst (λ (v : BoardValue). HoldsTask v w t) (sym c.self.view_is) c.requires.holds in
    let e : c.needs.result.now ≡ list_at p.needs t = c.needs.ensures ∙ ap (λ (v : PlanGraphValue). list_at v.needs t) c.deref.ensures in
    rw (c.as_slice.ensures.value, e) (tiles_there b w t holds.task holds.holds)

pub returns-in-Ok-clause-ok : goal.returns-in-Ok-clause-ok
returns-in-Ok-clause-ok g c =
    let i = c.self.inside in let b = c.self.invariant in
    let p : PlanGraphValue = arc_value i.plan in let xs : List Step = i.history.items in
    let w : ℕ = c.args.ticket.now.worker in let t : ℕ = c.args.ticket.now.task in
    let holds = subst (λ (v : BoardValue). HoldsTask v w t) (sym c.self.view_is) c.requires.holds in
    let e : c.needs.result.now ≡ list_at p.needs t = c.needs.ensures ∙ ap (λ (v : PlanGraphValue). list_at v.needs t) c.deref.ensures in
    let q = subst (λ (l : List (Option (Arc Tile Global))). AllZip (IsCopy l) c.copy_tiles.new.into.items c.needs.result.now) c.as_slice.ensures.value c.in-Ok.ensures in
    let r = subst (λ (l : List ℕ). AllZip (IsCopy i.tiles.items) c.copy_tiles.new.into.items l) e q in
    subst (λ (v : BoardValue). AreTilesOf v c.copy_tiles.new.into.items (list_at v.plan.needs t)) c.self.view_is
    (copies_are b w t holds.task holds.holds c.copy_tiles.new.into.items r)
