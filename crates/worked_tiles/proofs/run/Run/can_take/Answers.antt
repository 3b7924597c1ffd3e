use Rattle.std.proofs.Common.{◌≡◌, ◌∙◌, ◌<◌, ℕ, ap, sym, subst, arith, length, List, slice_index, ◌≢◌}
use Rattle.std.proofs.lemmas.List.{get_or_default}
use Rattle.drain_meaning.specs.declared.op.FlowOp.{FlowOp}
use Rattle.drain_meaning.specs.Equations.{orient_of}
use Rattle.border_channel.specs.declared.edge.Edge.{Edge}
use Rattle.border_channel.specs.Edges.{edge, edge_at}
use Rattle.tile_map.specs.Tiles.{tile_at}
use Rattle.flow_task.specs.BaseWorks.{base_work_of}
use Rattle.flow_task.specs.Works.{CanAccept, TileWork}
use Rattle.worked_tiles.proofs.RunLemmas.{can_accept}
use Rattle.worked_tiles.proofs.run.Run.can_take.Goals as goal

pub returns : goal.returns
returns c = λ small.
    let edges = c.self.inside.edges.items in
    let g = c.self.inside.tiling in
    let low : c.args.message.edge < length edges = omega (arith, c.len.ensures, c.if-number-len.false) in
    let ends : c.index.result.now ≡ edge_at edges c.args.message.edge = c.index.ensures ∙ get_or_default edges c.args.message.edge _ (edge 0 0) low in
    let here : tile_at g (edge_at edges c.args.message.edge).target ≡ c.self.inside.tile =
    ap (λ (e : Edge). tile_at g e.target) (sym ends) ∙ (sym c.tile_of.ensures.value ∙ c.if-tile_of-self.false) in
    let other = subst (λ (xs : List ℕ). (k : ℕ) → k < length xs → slice_index xs k ≢ c.args.message.edge) c.deref.ensures.value (c.was_taken.ensures c.if-was_taken.false) in
    let can = can_accept (base_work_of c.self.inside.work) edges g c.self.inside.tile c.self.inside.taken.items c.self.invariant c.args.message low here other (c.is_small.ensures small) in
    subst (λ (w : TileWork FlowOp). CanAccept (orient_of w.which) w.of c.args.message) c.self.view_is can
