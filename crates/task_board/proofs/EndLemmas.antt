-- A transport's task whose work is at its end.
use Rattle.std.proofs.Common.{◌≡◌, ◌∙◌, ℕ, ◌<◌, List, [], length, get_or, Bool, true, false, Option, Some, None, refl, ap, sym, subst, arith}
use Rattle.std.specs.Prelude.{MatchBool, not, ◌&&◌}
use Rattle.std.specs.List.{filter, range_with_len}
use Rattle.std.specs.Option.{IsSomeAnd}
use Rattle.std.proofs.lemmas.List.{get_or-map}
use Rattle.core_model.specs.Graphs.{In}
use Rattle.tile_map.specs.Rects.{places_of}
use Rattle.tile_map.specs.Tiles.{rect_of, tile_count}
use Rattle.tile_map.specs.declared.part.Part.{Part}
use Rattle.tile_map.proofs.Callers.{ascends_over_places, tile_in_map}
use Rattle.drain_meaning.specs.declared.op.FlowOp.{FlowOp}
use Rattle.drain_meaning.specs.Equations.{orient_of, transport_of}
use Rattle.drain_meaning.proofs.Callers.{kept_passes}
use Rattle.border_channel.specs.declared.edge.Edge.{Edge}
use Rattle.border_channel.specs.Edges.{edge_at}
use Rattle.border_channel.specs.Locals.{local_part}
use Rattle.border_channel.specs.Outbound.{all_sent, is_due, leaves, next_due, was_sent}
use Rattle.border_channel.specs.Settled.{all_settled, is_settled}
use Rattle.border_channel.specs.TileFlows.{TileFlow, with_taken}
use Rattle.border_channel.proofs.Callers.{each-list_all, held_in_tile, list_all-each}
use Rattle.flow_task.specs.Works.{TileWork, tile_work}
use Rattle.plan_graph.specs.Graphs.{is_flow_work}
use Rattle.plan_graph.specs.PlanGraphs.{IsPlan, graph_of}
use Rattle.plan_graph.specs.Transports.{task_edges}
use Rattle.task_graph.specs.declared.task.Task.{Task}
use Rattle.task_graph.specs.Plans.{no_task, task_at}
use Rattle.task_tiles.specs.TaskTiles.{IsTaskTile}
use Rattle.task_tiles.specs.declared.tile.Tile.{Tile}
use Rattle.task_tiles.specs.declared.tile.Tile.TheVariants as published
use Rattle.tile_tasks.specs.FlowLaws.{GiveTheirTiles}
use Rattle.task_board.specs.Boards.{BoardValue, IsOfItsSpan, IsTileFor}
use Rattle.task_board.specs.Messages.{HasToWait, IsAtItsEnd}
use Rattle.task_board.specs.Tickets.{IsGood, IsTaskWork}
use Rattle.task_board.proofs.OwnLemmas.{of_is, whole}
use Rattle.task_board.proofs.FoundLemmas.{contains_in, find_none, in_below}
use Rattle.task_board.proofs.TileLemmas.{source_low, tile_flow}

due_or_sent : (l s v : Bool) → l ≡ true → s ≡ true → (l && s && not v) ≡ false → v ≡ true
due_or_sent true true true a c d = refl
due_or_sent true true false a c d = absurd (cc)
due_or_sent true false v a c d = absurd (cc)
due_or_sent false s v a c d = absurd (cc)

module _ {x : BoardValue} (plan : IsPlan x.plan) (spans : IsOfItsSpan x) (t : ℕ) (lt : t < x.plan.tasks) (flow : (graph_of x.plan).is_flow t ≡ true) (w : TileWork FlowOp) (h : IsTaskWork x t w) where
  abbrev here : TileFlow
  here = tile_flow plan t lt flow w.of.kind w.of.a w.of.b w.of.taken

  -- where all cells are settled and nothing is to be sent, all is sent
  sent_all : all_settled (orient_of w.which) w.of ≡ true → next_due (orient_of w.which) w.of w.sent ≡ None → all_sent w.of w.sent ≡ true
  sent_all settled none =
      let o = orient_of w.which in
      let g = x.plan.plan.tiling in
      let tile = (task_at x.plan.plan t).tile in
      let es : List Edge = task_edges x.plan.plan x.plan.drains t in
      let same = of_is plan spans t lt flow w h in
      let all : all_settled o here ≡ true = sym (ap (all_settled o) same) ∙ settled in
      let idle : next_due o here w.sent ≡ None = sym (ap (λ (k : TileFlow). next_due o k w.sent) same) ∙ none in
      let tile_low : tile < tile_count g = (plan.transports.at_tile t lt flow).below in
      ap (λ (k : TileFlow). all_sent k w.sent) same
      ∙ each-list_all (was_sent w.sent) (filter (leaves here) (range_with_len 0 (length es))) (λ e has.
      let kept = kept_passes (leaves here) (range_with_len 0 (length es)) e has in
      let on : In e (range_with_len 0 (length es)) = contains_in (range_with_len 0 (length es)) e kept.1 in
      let low : e < length es = in_below (length es) e on in
      let c = (edge_at es e).source in
      let inside = source_low plan t lt flow w.of.kind w.of.a w.of.b w.of.taken e low in
      let listed = (ascends_over_places g.rows g.cols (rect_of g tile) (tile_in_map g tile tile_low).0).each c (inside, held_in_tile here c inside kept.0) in
      let cell : is_settled o here c ≡ true = list_all-each (is_settled o here) (places_of g.cols (rect_of g tile)) all c listed in
      due_or_sent (leaves here e) (is_settled o here c) (was_sent w.sent e) kept.0 cell (find_none (is_due o here w.sent) (range_with_len 0 (length es)) idle e on))

module _ {x : BoardValue} (plan : IsPlan x.plan) (spans : IsOfItsSpan x) where
  -- a work that has nothing to send is at its end where all cells are settled, and else has to wait
  pub ends_or_waits : (w t : ℕ) (o : Option (TileWork FlowOp)) (r : Bool) → IsGood x w t o → IsSomeAnd o (λ k. next_due (orient_of k.which) k.of k.sent ≡ None) → IsSomeAnd o (λ k. r ≡ all_settled (orient_of k.which) k.of) →
      MatchBool r (IsSomeAnd o IsAtItsEnd) (IsSomeAnd o HasToWait)
  ends_or_waits w t None r good none is = absurd none
  ends_or_waits w t (Some k) true good none is = (sym is, sent_all plan spans t good.holds.task good.has.flow k good.has (sym is) none)
  ends_or_waits w t (Some k) false good none is = (sym is, none)

  -- the part of a work that is at its end is the tile of the task
  pub gives_tile : GiveTheirTiles → (w t : ℕ) (o : Option (TileWork FlowOp)) (part : Part) (tile : Tile) → IsGood x w t o → IsSomeAnd o IsAtItsEnd → IsSomeAnd o (λ k. part ≡ local_part (transport_of k.which) k.of) →
      tile ≡ published.Part part → IsTileFor x t tile
  gives_tile law w t None part tile good end is same = absurd end
  gives_tile law w t (Some k) part tile good end is same =
      let lt = good.holds.task in
      let h = good.has in
      let inside : t < length x.plan.plan.tasks = (let n = plan.plan_tasks in omega arith) in
      let flows : is_flow_work (task_at x.plan.plan t).work ≡ true =
      sym (get_or-map (λ (z : Task). is_flow_work z.work) x.plan.plan.tasks t no_task false inside)
      ∙ (ap (λ (l : List Bool). get_or l t false) (sym plan.plan_flows) ∙ (sym (plan.flow t lt) ∙ h.flow)) in
      subst (λ (z : Tile). IsTaskTile x.plan.plan x.plan.span x.program x.known t z) (sym (same ∙ ap published.Part is))
      (law x.plan.plan x.plan.span x.program x.known t (tile_work k.which (with_taken k.of []) []) k.of.taken spans.planned inside flows h.underway.begun (whole plan spans t lt h.flow k h) end.0)
