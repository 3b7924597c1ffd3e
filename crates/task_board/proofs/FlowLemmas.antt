-- What a work over a tile says of the core's state.
use Rattle.std.proofs.Common.{◌≡◌, ℕ, ◌<◌, Bool, true, false, not, ◌&&◌, eq-eqb, eqb-true, inl, ⊎_elim, List, length, Option, Some, None, slice_get}
use Rattle.std.proofs.Common.{refl, ap, sym, ◌∙◌, subst, arith}
use Rattle.std.specs.Option.{IsSome, IsSomeAnd}
use Rattle.std.specs.List.{filter, list_all, range_with_len}
use Rattle.core_model.specs.Graphs.{Graph, In, edge_at as edge_number, from_task}
use Rattle.core_model.specs.declared.step.Step.TheVariants.{Park}
use Rattle.core_model.specs.Cores.{held, opening}
use Rattle.core_model.specs.inside.Settling.{is_settled as is_settled_point}
use Rattle.core_model.specs.Steps.{AllSent, AllSettled, CanSend, CanTake, Enabled, SettledSent, SomeUnsettled}
use Rattle.cell_values.specs.declared.cell.Cell.{Cell}
use Rattle.tile_map.specs.Rects.{places_of}
use Rattle.tile_map.specs.Laws.{IsHeldPlace}
use Rattle.tile_map.specs.Tiles.{rect_of, tile_at, tile_count}
use Rattle.tile_map.specs.declared.tiling.Tiling.{Tiling}
use Rattle.tile_map.proofs.Callers.{ascends_over_places, tile_in_map, tile_only}
use Rattle.drain_meaning.specs.declared.op.FlowOp.{FlowOp}
use Rattle.drain_meaning.specs.declared.op.Orient.{Orient}
use Rattle.drain_meaning.specs.Drains.{DrainMap}
use Rattle.drain_meaning.specs.Equations.{orient_of, transport_of}
use Rattle.drain_meaning.specs.Flows.{FlowFits}
use Rattle.drain_meaning.specs.Paths.{IsDirected}
use Rattle.border_channel.specs.Loads.{load_of}
use Rattle.drain_meaning.specs.Transports.{Transport, end_of}
use Rattle.drain_meaning.specs.declared.end.FlowEnd.{FlowEnd}
use Rattle.border_channel.specs.Laws.{IsTileOf}
use Rattle.border_channel.specs.declared.edge.Edge.{Edge}
use Rattle.border_channel.specs.declared.edge.Message.{Message}
use Rattle.border_channel.specs.Edges.{border_edges_of, edge_at}
use Rattle.border_channel.specs.Outbound.{all_sent, is_due, leaves, message_for, message_of, next_due, was_sent}
use Rattle.border_channel.specs.Settled.{all_settled, is_settled}
use Rattle.border_channel.specs.TileFlows.{TileFlow, in_tile}
use Rattle.border_channel.proofs.Callers.{held_in_tile, settled_right}
use Rattle.flow_task.specs.Works.{CanAccept, TileWork}
use Rattle.map_meaning.specs.Evaluation.{operand_cell}
use Rattle.map_meaning.specs.Spans.{scene_of}
use Rattle.map_meaning.specs.declared.program.Operand.{Operand}
use Rattle.task_graph.specs.Plans.{task_at}
use Rattle.plan_graph.specs.Borders.{orient_at}
use Rattle.plan_graph.specs.PlanGraphs.{graph_of}
use Rattle.plan_graph.specs.Transports.{cells_in_map, point_at, task_edges, task_transport}
use Rattle.plan_graph.proofs.Callers.{cell_of_point, edge_leaves, entering_edge, joins_alike, leaving_edge, point_of_cell}
use Rattle.task_tiles.specs.FlowTiles.{task_operand}
use Rattle.tile_tasks.specs.FlowLaws.{MessagesFit}
use Rattle.task_tiles.specs.TaskTiles.{onward_done, span_section}
use Rattle.task_states.proofs.Callers.{get_any}
use Rattle.task_board.specs.Claims.{NoMessageFor}
use Rattle.task_board.specs.Messages.{HasToWait, IsAtItsEnd, IsMessageOf, StandsOn}
use Rattle.task_board.specs.Tickets.{IsDone, IsGood, IsTaskWork}
use Rattle.task_board.specs.inside.Held.{IsBoard, Parts, board_of, state_in}
use Rattle.task_board.proofs.BoardLemmas.{core_task, keeps_run}
use Rattle.task_board.proofs.FoundLemmas.{all_pass, any_in, below_in, contains_in, find_none, find_passes, find_there, in_any, in_below, in_contains, in_mapped, kept_in, mapped_in, not_all}
use Rattle.task_board.proofs.OwnLemmas.{IsOwn, drain_is, edge_there, edges_are, flows_out, is_flow_task, of_is, own, same_by, whole}
use Rattle.task_board.proofs.HistoryLemmas.{listed_sent, listed_taken, sent_listed, taken_listed}
use Rattle.task_board.proofs.TileLemmas.{TakesAlike, is_tile, settled_cell, source_directed, source_low, settled_point, tile_flow}

-- ---- a flow task and its work

-- where a message that can be sent goes
pub record Goes (x : Parts) (w t : ℕ) (m : Message) : Type 0 where
  pub can : CanSend (graph_of x.plan) (state_in x) w t (edge_number (graph_of x.plan) t m.edge)
  pub inside : m.edge < length (task_edges x.plan.plan x.plan.drains t)
  pub stands : StandsOn (board_of x) t m

module _ {x : Parts} (b : IsBoard x) (t : ℕ) (lt : t < x.plan.tasks) (flow : (graph_of x.plan).is_flow t ≡ true) where
  abbrev g : Tiling
  g = x.plan.plan.tiling

  abbrev f : ℕ
  f = task_transport x.plan.plan t

  abbrev es : List Edge
  es = task_edges x.plan.plan x.plan.drains t

  abbrev tile : ℕ
  tile = (task_at x.plan.plan t).tile

  module _ (w : TileWork FlowOp) (h : IsTaskWork (board_of x) t w) where
    abbrev here : TileFlow
    here = tile_flow b.plan t lt flow w.of.kind w.of.a w.of.b w.of.taken

    owns : IsOwn b.plan b.of t lt flow w.which h.underway.begun.is.drain
    owns = own b.plan b.of t lt flow w h

    is_here : w.of ≡ here
    is_here = of_is b.plan b.of t lt flow w h

    -- the core and the work have taken the same
    takes_alike : TakesAlike b.plan t lt flow w.of.kind w.of.a w.of.b w.of.taken (state_in x).taken
    takes_alike = record {
      brings = λ e low into took. ⊎_elim (λ z. absurd (cc)) (λ i. in_mapped (λ (m : Message). m.edge) w.of.taken e (subst (λ (l : List ℕ). In e l) (sym h.taken) i))
          (taken_listed (graph_of x.plan) x.workers opening x.history t e b.legal into took);
      took_it = λ m has. (
        edge_there b.plan b.of t lt flow m (h.underway.stand m has),
        listed_taken (graph_of x.plan) opening x.history t m.edge (subst (λ (l : List ℕ). In m.edge l) h.taken (mapped_in (λ (y : Message). y.edge) w.of.taken m (contains_in w.of.taken m has))),
      );
    }

    abbrev G : Graph
    G = graph_of x.plan

    abbrev o : Orient
    o = orient_at x.plan.plan f

    abbrev took : ℕ → Bool
    took = (state_in x).taken

    abbrev point : ℕ → ℕ
    point c = point_at g f c

    settles : (c : ℕ) → c < cells_in_map g → tile_at g c ≡ tile → is_settled o here c ≡ true → is_settled_point G took (point c) ≡ true
    settles c low same h = settled_point b.plan t lt flow w.of.kind w.of.a w.of.b w.of.taken took takes_alike c low same h

    settles_back : (c : ℕ) → c < cells_in_map g → tile_at g c ≡ tile → is_settled_point G took (point c) ≡ true → is_settled o here c ≡ true
    settles_back c low same h = settled_cell b.plan t lt flow w.of.kind w.of.a w.of.b w.of.taken took takes_alike c low same h

    -- the cells of the tile
    tile_low : tile < tile_count g
    tile_low = (b.plan.transports.at_tile t lt flow).below

    tile_cells : List ℕ
    tile_cells = places_of g.cols (rect_of g tile)

    cell_of : (c : ℕ) → In c tile_cells → (c < cells_in_map g) × (tile_at g c ≡ tile)
    unfolding tile_cells
    cell_of c i =
        let k = in_contains tile_cells c i in
        let held = subst (λ (z : ℕ). IsHeldPlace g.rows g.cols (rect_of g tile) z) (get_any tile_cells k.0 0 c k.1 ∙ k.2) ((ascends_over_places g.rows g.cols (rect_of g tile) (tile_in_map g tile tile_low).0).only k.0 k.1) in
        (held.0, sym (tile_only g c tile held.1))

    of_cell : (c : ℕ) → c < cells_in_map g → tile_at g c ≡ tile → In c tile_cells
    unfolding tile_cells
    of_cell c low same = contains_in tile_cells c ((ascends_over_places g.rows g.cols (rect_of g tile) (tile_in_map g tile tile_low).0).each c (low, held_in_tile here c low (eq-eqb (tile_at g c) tile same)))

    -- all settled, by the work and by the core
    all_same : all_settled (orient_of w.which) w.of ≡ list_all (is_settled o here) tile_cells
    unfolding tile_cells
    all_same = ap (all_settled (orient_of w.which)) is_here ∙ ap (λ (q : Orient). all_settled q here) owns.orient

    next_same : next_due (orient_of w.which) w.of w.sent ≡ next_due o here w.sent
    next_same = ap (λ (k : TileFlow). next_due (orient_of w.which) k w.sent) is_here ∙ ap (λ (q : Orient). next_due q here w.sent) owns.orient

    not_true : (v : Bool) → (v ≡ true → ⊥) → v ≡ false
    not_true true h = absurd (h refl)
    not_true false h = refl

    -- what the work has sent was sent
    was_sent_of : (e : ℕ) → was_sent w.sent e ≡ true → (state_in x).sent (edge_number G t e) ≡ true
    was_sent_of e q = listed_sent G opening x.history t e (subst (λ (l : List ℕ). In e l) h.sent (any_in e w.sent q))

    sent_was : (e : ℕ) → from_task G (edge_number G t e) ≡ t → (state_in x).sent (edge_number G t e) ≡ true → was_sent w.sent e ≡ true
    sent_was e from is = in_any e w.sent (subst (λ (l : List ℕ). In e l) (sym h.sent) (⊎_elim (λ z. absurd (cc)) (λ i. i) (sent_listed G x.workers opening x.history t e b.legal from is)))

    source : ℕ → ℕ
    source e = (edge_at es e).source

    source_is : (e : ℕ) → e < length es → G.source (edge_number G t e) ≡ point (source e)
    unfolding source
    source_is e low = (b.plan.transports.edge t e lt low).source

    -- some cell is not settled, and each edge out of a settled one was sent
    pub waits_for : HasToWait w → SomeUnsettled G (state_in x) t × SettledSent G (state_in x) t
    unfolding source
    waits_for wait = (
      (let k = not_all (is_settled o here) tile_cells (sym all_same ∙ wait.0) in
          let c = k.0 in
          let at = cell_of c k.1 in
          let pt = point_of_cell b.plan t lt flow c at.0 at.1 in
          (point c, pt.0, pt.1, not_true (is_settled_point G took (point c)) (λ q. let z : true ≡ false = sym (settles_back c at.0 at.1 q) ∙ k.2 in cc))),
      λ n low from settled.
          let at = leaving_edge b.plan t lt flow n low from in
          let e = at.place in
          let settled' : is_settled_point G took (point (source e)) ≡ true = ap (is_settled_point G took) (sym (ap G.source at.number ∙ source_is e at.within)) ∙ settled in
          let inner = settles_back (source e) (source_low b.plan t lt flow w.of.kind w.of.a w.of.b w.of.taken e at.within) at.tile settled' in
          let idle = find_none (is_due o here w.sent) (range_with_len 0 (length es)) (sym next_same ∙ wait.1) e (below_in (length es) e at.within) in
          let sent : was_sent w.sent e ≡ true = due_or_sent (leaves here e) (is_settled o here (source e)) (was_sent w.sent e) (eq-eqb (tile_at g (source e)) tile at.tile) inner idle in
          ap (state_in x).sent at.number ∙ was_sent_of e sent,
    )
      where
        due_or_sent : (l s v : Bool) → l ≡ true → s ≡ true → (l && s && not v) ≡ false → v ≡ true
        due_or_sent true true true a c d = refl
        due_or_sent true true false a c d = absurd (cc)
        due_or_sent true false v a c d = absurd (cc)
        due_or_sent false s v a c d = absurd (cc)

    -- all cells are settled, and all edges are sent
    pub ends_by : IsAtItsEnd w → AllSettled G (state_in x) t × AllSent G (state_in x) t
    unfolding source
    ends_by end = (
      λ n low own'. let at = cell_of_point x.plan b.plan n t low own' in
          ap (is_settled_point G took) at.is ∙ settles at.cell at.within at.tile (all_pass (is_settled o here) tile_cells (sym all_same ∙ end.0) at.cell (of_cell at.cell at.within at.tile)),
      λ n low from.
          let at = leaving_edge b.plan t lt flow n low from in
          let e = at.place in
          let all : all_sent here w.sent ≡ true = ap (λ (k : TileFlow). all_sent k w.sent) (sym is_here) ∙ end.1 in
          let sent = all_pass (was_sent w.sent) (filter (leaves here) (range_with_len 0 (length es))) all e (kept_in (leaves here) (range_with_len 0 (length es)) e (below_in (length es) e at.within) (eq-eqb (tile_at g (source e)) tile at.tile)) in
          ap (state_in x).sent at.number ∙ was_sent_of e sent,
    )

    -- ---- messages

    abbrev tr : Transport
    tr = transport_of w.which

    abbrev a : ℕ → Cell
    a = task_operand x.plan.plan x.plan.span x.program x.known t h.underway.begun.operation.a

    abbrev b' : ℕ → Cell
    b' = task_operand x.plan.plan x.plan.span x.program x.known t h.underway.begun.operation.b

    abbrev drain : DrainMap
    drain = h.underway.begun.is.drain

    -- the message that the work has to send
    due_edge : (q : Option ℕ) (m : Message) → message_for tr w.of q ≡ Some m → (e : ℕ) × (q ≡ Some e) × (m ≡ message_of tr w.of e)
    due_edge None m e = absurd (cc)
    due_edge (Some k) m e = (k, refl, (let z : message_of tr w.of k ≡ m = cc in sym z))

    due_parts : (l s v : Bool) → (l && s && not v) ≡ true → (l ≡ true) × (s ≡ true) × (v ≡ false)
    due_parts true true true d = absurd (cc)
    due_parts true true false d = (refl, refl, refl)
    due_parts true false v d = absurd (cc)
    due_parts false s v d = absurd (cc)

    pub goes_by : (v : ℕ) → (state_in x).status t ≡ held v → (m : Message) → IsMessageOf w m → Goes x v t m
    unfolding source flows_out
    goes_by v is m next =
        let due = due_edge (next_due (orient_of w.which) w.of w.sent) m next in
        let e = due.0 in
        let first : next_due o here w.sent ≡ Some e = sym next_same ∙ due.1 in
        let low : e < length es = in_below (length es) e (find_there (is_due o here w.sent) (range_with_len 0 (length es)) e first) in
        let parts = due_parts (leaves here e) (is_settled o here (source e)) (was_sent w.sent e) (find_passes (is_due o here w.sent) (range_with_len 0 (length es)) e first) in
        let edge : m.edge ≡ e = ap (λ (k : Message). k.edge) due.2 in
        let own' : tile_at g (source e) ≡ tile = eqb-true (tile_at g (source e)) tile parts.0 in
        let leaves' = edge_leaves b.plan t lt flow e low own' in
        let settled : is_settled_point G took (G.source (edge_number G t e)) ≡ true = ap (is_settled_point G took) (source_is e low) ∙ settles (source e) (source_low b.plan t lt flow w.of.kind w.of.a w.of.b w.of.taken e low) own' parts.1 in
        let unsent : (state_in x).sent (edge_number G t e) ≡ false = not_true ((state_in x).sent (edge_number G t e)) (λ q. let z : true ≡ false = sym (sent_was e leaves'.1 q) ∙ parts.2 in cc) in
        let can : CanSend G (state_in x) v t (edge_number G t e) = (core_task b t lt, (is, flow), leaves'.0, leaves'.1, settled, unsent) in
        let u = h.underway.begun in
        let at : (edge_at w.of.edges e).source ≡ source e = ap (λ (k : TileFlow). (edge_at k.edges e).source) is_here in
        let inner : in_tile w.of (edge_at w.of.edges e).source ≡ true = ap (λ (k : TileFlow). in_tile k (edge_at k.edges e).source) is_here ∙ parts.0 in
        let directed : IsDirected w.of.drain (edge_at w.of.edges e).source = subst (λ (k : TileFlow). IsDirected k.drain (edge_at k.edges e).source) (sym is_here) (source_directed b.plan t lt flow w.of.kind w.of.a w.of.b w.of.taken e low) in
        let done : is_settled (orient_of w.which) w.of (edge_at w.of.edges e).source ≡ true = ap (λ (k : TileFlow). is_settled (orient_of w.which) k (edge_at k.edges e).source) is_here ∙ ap (λ (q : Orient). is_settled q here (source e)) owns.orient ∙ parts.1 in
        let right = settled_right tr w.of a b' (subst IsTileOf (sym is_here) (is_tile b.plan t lt flow w.of.kind w.of.a w.of.b w.of.taken)) (whole b.plan b.of t lt flow w h) (edge_at w.of.edges e).source inner directed done in
        let brings : m.flow ≡ flows_out b.plan b.of t lt flow w h u.operation w.which drain e =
        ap (λ (k : Message). k.flow) due.2 ∙ ap (λ (k : FlowEnd). k.out) right ∙ ap (λ (d : DrainMap). (end_of tr d a b' (edge_at w.of.edges e).source).out) (drain_is b.plan b.of t lt flow w h) ∙ ap (λ (l : List Edge). (end_of tr drain a b' (edge_at l e).source).out) (edges_are b.plan b.of t lt flow w h) in
        record {
          can = subst (λ (k : ℕ). CanSend G (state_in x) v t (edge_number G t k)) (sym edge) can;
          inside = subst (λ (k : ℕ). k < length es) (sym edge) low;
          stands = record {
            operation = u.operation;
            op = w.which;
            drain = drain;
            there = u.there;
            transport = u.transport;
            along = u.is.along;
            within = subst (λ (k : ℕ). k < length (border_edges_of drain g (orient_of w.which))) (sym edge) (subst (λ (l : List Edge). e < length l) (sym owns.edges) low);
            brings = brings ∙ ap (flows_out b.plan b.of t lt flow w h u.operation w.which drain) (sym edge);
          };
        }

    -- a message that comes in can be accepted
    pub accepts : MessagesFit → (v : ℕ) (m : Message) → CanTake G (state_in x) v t (edge_number G t m.edge) → StandsOn (board_of x) t m → CanAccept (orient_of w.which) w.of m
    unfolding flows_out
    accepts fit v m can s =
        let n = edge_number G t m.edge in
        let low = edge_there b.plan b.of t lt flow m s in
        let at = entering_edge b.plan t lt flow n can.2 can.3 in
        let place : at.place ≡ m.edge = (let k = at.number in omega arith) in
        let inside : t < length x.plan.plan.tasks = (let k = b.plan.plan_tasks in omega arith) in
        record {
          within = subst (λ (k : TileFlow). m.edge < length k.edges) (sym is_here) low;
          into = ap (λ (k : TileFlow). in_tile k (edge_at k.edges m.edge).target) is_here ∙ eq-eqb (tile_at g (edge_at es m.edge).target) tile (ap (λ (k : ℕ). tile_at g (edge_at es k).target) (sym place) ∙ at.tile);
          first = λ y has same.
              let took' : took n ≡ true = ap (λ (k : ℕ). took (edge_number G t k)) (sym same) ∙ (takes_alike.took_it y has).1 in
              let waits = (keeps_run b).waits (G.channel_of n) n (subst (λ (l : List ℕ). In n l) (sym can.4.1) (inl refl)) in
              let z : true ≡ false = sym took' ∙ waits.3 in cc;
          fits =
              let same = same_by b.plan b.of t lt flow w h m s in
              let given = fit x.plan.plan x.plan.span x.program x.known t m b.of.planned inside (is_flow_task b.plan b.of t lt flow) s in
              let here' = subst (λ (d : DrainMap). FlowFits m.flow (load_of (orient_of w.which) d (edge_at (border_edges_of d g (orient_of w.which)) m.edge).source)) same.1
              (subst (λ (q : FlowOp). FlowFits m.flow (load_of (orient_of q) s.drain (edge_at (border_edges_of s.drain g (orient_of q)) m.edge).source)) same.0 given) in
              subst (λ (l : List Edge). FlowFits m.flow (load_of (orient_of w.which) w.of.drain (edge_at l m.edge).source)) (sym (edges_are b.plan b.of t lt flow w h))
              (subst (λ (d : DrainMap). FlowFits m.flow (load_of (orient_of w.which) d (edge_at (border_edges_of drain g (orient_of w.which)) m.edge).source)) (sym (drain_is b.plan b.of t lt flow w h)) here');
        }

module _ {x : Parts} (b : IsBoard x) where
  pub flow_of : (w t : ℕ) (o : Option (TileWork FlowOp)) → IsGood (board_of x) w t o → IsSome o → (graph_of x.plan).is_flow t ≡ true
  flow_of w t None good has = absurd (cc)
  flow_of w t (Some k) good has = good.has.flow

  pub can_park : (w t : ℕ) (o : Option (TileWork FlowOp)) → IsGood (board_of x) w t o → IsSomeAnd o HasToWait → NoMessageFor (board_of x) t → Enabled (graph_of x.plan) (state_in x) x.workers (Park w t)
  can_park w t None good waits none' = absurd waits
  can_park w t (Some k) good waits none' =
      let r = waits_for b t good.holds.task good.has.flow k good.has waits in
      (good.holds.number, (core_task b t good.holds.task, (good.holds.holds, good.has.flow), r.0, r.1, none'))

  pub goes : (w t : ℕ) (o : Option (TileWork FlowOp)) (m : Message) → IsGood (board_of x) w t o → IsSomeAnd o (λ k. IsMessageOf k m) → Goes x w t m
  goes w t None m good next = absurd next
  goes w t (Some k) m good next = goes_by b t good.holds.task good.has.flow k good.has w good.holds.holds m next

  -- both tasks of a channel are of one transport
  pub alike_stands : (t c : ℕ) (m : Message) → t < (graph_of x.plan).tasks → (graph_of x.plan).is_flow t ≡ true → c < (graph_of x.plan).channels → (graph_of x.plan).from c ≡ t
      → StandsOn (board_of x) t m → StandsOn (board_of x) ((graph_of x.plan).into c) m
  alike_stands t c m lt flow c_lt from s =
      let plan = x.plan.plan in
      let u : ℕ = (graph_of x.plan).into c in
      let join = joins_alike x.plan b.plan c c_lt in
      let step : (task_at plan t).step ≡ (task_at plan u).step = subst (λ (k : ℕ). (task_at plan k).step ≡ (task_at plan u).step) from join.alike.0 in
      let number : (task_at plan t).operation ≡ (task_at plan u).operation = subst (λ (k : ℕ). (task_at plan k).operation ≡ (task_at plan u).operation) from join.alike.1 in
      let cell = λ (k : Operand) (st : ℕ). operand_cell (scene_of x.program.inputs x.known st) (onward_done x.program x.plan.span x.known st) k in
      record {
        operation = s.operation;
        op = s.op;
        drain = s.drain;
        there = ap (slice_get (span_section x.program x.plan.span)) (sym number) ∙ s.there;
        transport = s.transport;
        along = s.along;
        within = s.within;
        brings = s.brings ∙ ap (λ (st : ℕ). (end_of (transport_of s.op) s.drain (cell s.operation.a st) (cell s.operation.b st) (edge_at (border_edges_of s.drain plan.tiling (orient_of s.op)) m.edge).source).out) step;
      }

  pub is_done : (w t : ℕ) (o : Option (TileWork FlowOp)) → IsGood (board_of x) w t o → IsDone (board_of x) t o → (graph_of x.plan).is_flow t ≡ true → AllSettled (graph_of x.plan) (state_in x) t × AllSent (graph_of x.plan) (state_in x) t
  is_done w t None good done flow = absurd (done flow)
  is_done w t (Some k) good done flow = ends_by b t good.holds.task good.has.flow k good.has (done flow)

  pub can_accept : MessagesFit → (w t : ℕ) (o : Option (TileWork FlowOp)) (m : Message) → IsGood (board_of x) w t o → CanTake (graph_of x.plan) (state_in x) w t (edge_number (graph_of x.plan) t m.edge) → StandsOn (board_of x) t m → IsSome o
      → IsSomeAnd o (λ k. CanAccept (orient_of k.which) k.of m)
  can_accept fit w t None m good can stands has = absurd (cc)
  can_accept fit w t (Some k) m good can stands has = accepts b t good.holds.task good.has.flow k good.has fit w m can stands
