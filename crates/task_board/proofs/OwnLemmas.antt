-- The work of a transport's task, over the task's own tile, edges and drain map.
use Rattle.std.proofs.Common.{◌≡◌, ℕ, ◌<◌, Bool, true, false, List, [], length, get_or, map, Some, slice_get}
use Rattle.std.proofs.Common.{refl, ap, sym, ◌∙◌, subst, arith}
use Rattle.std.proofs.lemmas.List.{get_or-map}
use Rattle.std.proofs.lemmas.Option.{get_or_from_slice_get}
use Rattle.cell_values.specs.declared.cell.Cell.{Cell}
use Rattle.tile_map.specs.Rects.{places_of}
use Rattle.tile_map.specs.Tiles.{rect_of}
use Rattle.tile_map.specs.declared.tiling.Tiling.{Tiling}
use Rattle.drain_meaning.specs.declared.flow.Flow.{Flow}
use Rattle.drain_meaning.specs.declared.op.FlowOp.{FlowOp}
use Rattle.drain_meaning.specs.declared.op.Orient.{Orient}
use Rattle.drain_meaning.specs.Drains.{DrainMap}
use Rattle.drain_meaning.specs.Equations.{orient_of, transport_of}
use Rattle.drain_meaning.specs.Transports.{Transport, end_of}
use Rattle.border_channel.specs.Laws.{StandsForWhole}
use Rattle.border_channel.specs.declared.edge.Edge.{Edge}
use Rattle.border_channel.specs.declared.edge.Message.{Message}
use Rattle.border_channel.specs.Edges.{border_edges_of, edge_at}
use Rattle.border_channel.specs.TileFlows.{TileFlow, with_taken}
use Rattle.flow_task.specs.Works.{TileWork, flow_begun}
use Rattle.map_meaning.specs.declared.op.Op.TheVariants as op
use Rattle.map_meaning.specs.declared.program.Operation.{Operation}
use Rattle.task_graph.specs.declared.task.Task.{Task}
use Rattle.task_graph.specs.Plans.{no_task, task_at}
use Rattle.plan_graph.specs.Borders.{drain_at, no_drain_map, orient_at, transport_at}
use Rattle.plan_graph.specs.Graphs.{is_flow_work}
use Rattle.plan_graph.specs.Transports.{task_edges, task_transport}
use Rattle.plan_graph.proofs.Callers.{task_edges_are}
use Rattle.task_tiles.specs.FlowTiles.{task_operand}
use Rattle.task_tiles.specs.TaskTiles.{span_section}
use Rattle.tile_tasks.proofs.Callers.{transport_of_task}
use Rattle.task_board.specs.Messages.{StandsOn}
use Rattle.task_board.specs.Tickets.{IsTaskWork}
use Rattle.task_board.proofs.TileLemmas.{tile_flow}
use Rattle.plan_graph.specs.PlanGraphs.{IsPlan, graph_of}
use Rattle.task_board.specs.Boards.{BoardValue, IsOfItsSpan}

module _ {x : BoardValue} (plan : IsPlan x.plan) (spans : IsOfItsSpan x) (t : ℕ) (lt : t < x.plan.tasks) (flow : (graph_of x.plan).is_flow t ≡ true) where
  abbrev g : Tiling
  g = x.plan.plan.tiling

  abbrev f : ℕ
  f = task_transport x.plan.plan t

  abbrev es : List Edge
  es = task_edges x.plan.plan x.plan.drains t

  abbrev tile : ℕ
  tile = (task_at x.plan.plan t).tile

  pub is_flow_task : is_flow_work (task_at x.plan.plan t).work ≡ true
  is_flow_task =
      let inside : t < length x.plan.plan.tasks = (let k = plan.plan_tasks in omega arith) in
      sym (get_or-map (λ (k : Task). is_flow_work k.work) x.plan.plan.tasks t no_task false inside)
      ∙ (ap (λ (l : List Bool). get_or l t false) (sym plan.plan_flows) ∙ (sym (plan.flow t lt) ∙ flow))

  -- what the transport of its operation has, the task's transport has
  pub record IsOwn (q : FlowOp) (m : DrainMap) : Type 0 where
    pub orient : orient_of q ≡ orient_at x.plan.plan f
    pub drain : m ≡ drain_at x.plan.plan x.plan.drains f
    pub edges : border_edges_of m g (orient_of q) ≡ es

  pub is_own : (o : Operation) (q : FlowOp) (m : DrainMap) → slice_get (span_section x.program x.plan.span) (task_at x.plan.plan t).operation ≡ Some o → o.op ≡ op.Flow q → slice_get x.known.drains o.drain ≡ Some m → IsOwn q m
  is_own o q m there transport along =
      let at = plan.transports.at_tile t lt flow in
      let inside : t < length x.plan.plan.tasks = (let k = plan.plan_tasks in omega arith) in
      let of = transport_of_task x.plan.plan x.plan.span x.program x.known t f o q spans.planned inside is_flow_task at.there at.number there transport in
      let drain : m ≡ drain_at x.plan.plan x.plan.drains f =
      sym (get_or_from_slice_get x.known.drains o.drain m no_drain_map along) ∙ ap (λ (k : ℕ). get_or x.known.drains k no_drain_map) (sym of.1)
      ∙ ap (λ (ds : List DrainMap). get_or ds (transport_at x.plan.plan f).drain no_drain_map) (sym spans.drains) in
      let orient : orient_of q ≡ orient_at x.plan.plan f = ap orient_of (sym of.0) in
      record {
        orient = orient;
        drain = drain;
        edges = ap (λ (d : DrainMap). border_edges_of d g (orient_of q)) drain ∙ ap (λ (o' : Orient). border_edges_of (drain_at x.plan.plan x.plan.drains f) g o') orient ∙ sym (task_edges_are x.plan.plan x.plan.drains t at.there);
      }

  -- an edge that a message stands for is one of the task's
  pub edge_there : (m : Message) → StandsOn x t m → m.edge < length es
  edge_there m s = subst (λ (l : List Edge). m.edge < length l) (is_own s.operation s.op s.drain s.there s.transport s.along).edges s.within

  module _ (w : TileWork FlowOp) (h : IsTaskWork x t w) where
    abbrev here : TileFlow
    here = tile_flow plan t lt flow w.of.kind w.of.a w.of.b w.of.taken

    pub own : IsOwn w.which h.underway.begun.is.drain
    own = let u = h.underway.begun in is_own u.operation w.which u.is.drain u.there u.transport u.is.along

    begun_is : with_taken w.of [] ≡ flow_begun w.of.kind w.of.drain w.of.tiling w.of.tile w.of.edges w.of.a w.of.b
    begun_is = refl

    -- its work is over the task's tile
    pub of_is : w.of ≡ here
    of_is =
        let u = h.underway.begun.is in
        let e = ap (λ (k : TileWork FlowOp). k.of) u.is in
        let d : w.of.drain ≡ drain_at x.plan.plan x.plan.drains f = ap (λ (k : TileFlow). k.drain) e ∙ own.drain in
        let i : w.of.tiling ≡ g = ap (λ (k : TileFlow). k.tiling) e in
        let n : w.of.tile ≡ tile = ap (λ (k : TileFlow). k.tile) e in
        let l : w.of.edges ≡ es = ap (λ (k : TileFlow). k.edges) e ∙ own.edges in
        let make = λ (dm : DrainMap) (ti : Tiling) (tn : ℕ) (ed : List Edge). let z : TileFlow = record { kind = w.of.kind; drain = dm; tiling = ti; tile = tn; edges = ed; a = w.of.a; b = w.of.b; taken = w.of.taken } in z in
        ap (λ (k : DrainMap). make k w.of.tiling w.of.tile w.of.edges) d ∙ ap (λ (k : Tiling). make (drain_at x.plan.plan x.plan.drains f) k w.of.tile w.of.edges) i
        ∙ ap (λ (k : ℕ). make (drain_at x.plan.plan x.plan.drains f) g k w.of.edges) n ∙ ap (λ (k : List Edge). make (drain_at x.plan.plan x.plan.drains f) g tile k) l

    abbrev tr : Transport
    tr = transport_of w.which

    abbrev a : ℕ → Cell
    a = task_operand x.plan.plan x.plan.span x.program x.known t h.underway.begun.operation.a

    abbrev b' : ℕ → Cell
    b' = task_operand x.plan.plan x.plan.span x.program x.known t h.underway.begun.operation.b

    abbrev drain : DrainMap
    drain = h.underway.begun.is.drain

    -- what flows out of a cell over the whole map
    unfoldable pub flows_out : (k : Operation) (q : FlowOp) (m : DrainMap) (e : ℕ) → Flow
    flows_out k q m e = (end_of (transport_of q) m (task_operand x.plan.plan x.plan.span x.program x.known t k.a) (task_operand x.plan.plan x.plan.span x.program x.known t k.b) (edge_at (border_edges_of m g (orient_of q)) e).source).out

    -- a message stands for its edge by the operation, the transport and the drain map of the work
    stands_by : (m : Message) → StandsOn x t m → m.flow ≡ flows_out h.underway.begun.operation w.which drain m.edge
    unfolding flows_out
    stands_by m s =
        let u = h.underway.begun in
        let ops : s.operation ≡ u.operation = (let z : Some s.operation ≡ Some u.operation = sym s.there ∙ u.there in cc) in
        let flows : op.Flow s.op ≡ op.Flow w.which = sym s.transport ∙ (ap (λ (k : Operation). k.op) ops ∙ u.transport) in
        let which : s.op ≡ w.which = cc in
        let maps : s.drain ≡ drain = (let z : Some s.drain ≡ Some drain = sym s.along ∙ (ap (λ (k : Operation). slice_get x.known.drains k.drain) ops ∙ u.is.along) in cc) in
        s.brings ∙ ap (λ (k : Operation). flows_out k s.op s.drain m.edge) ops ∙ ap (λ (q : FlowOp). flows_out u.operation q s.drain m.edge) which ∙ ap (λ (d : DrainMap). flows_out u.operation w.which d m.edge) maps

    pub same_by : (m : Message) (s : StandsOn x t m) → (s.op ≡ w.which) × (s.drain ≡ drain)
    same_by m s =
        let u = h.underway.begun in
        let ops : s.operation ≡ u.operation = (let z : Some s.operation ≡ Some u.operation = sym s.there ∙ u.there in cc) in
        let flows : op.Flow s.op ≡ op.Flow w.which = sym s.transport ∙ (ap (λ (k : Operation). k.op) ops ∙ u.transport) in
        (cc, (let z : Some s.drain ≡ Some drain = sym s.along ∙ (ap (λ (k : Operation). slice_get x.known.drains k.drain) ops ∙ u.is.along) in cc))

    tiling_is : w.of.tiling ≡ g
    tiling_is = ap (λ (k : TileWork FlowOp). k.of.tiling) h.underway.begun.is.is

    tile_is : w.of.tile ≡ tile
    tile_is = ap (λ (k : TileWork FlowOp). k.of.tile) h.underway.begun.is.is

    pub edges_are : w.of.edges ≡ border_edges_of drain g (orient_of w.which)
    edges_are = ap (λ (k : TileWork FlowOp). k.of.edges) h.underway.begun.is.is

    pub drain_is : w.of.drain ≡ drain
    drain_is = ap (λ (k : TileWork FlowOp). k.of.drain) h.underway.begun.is.is

    -- the places of the tile are those of the work
    places_are : places_of w.of.tiling.cols (rect_of w.of.tiling w.of.tile) ≡ places_of g.cols (rect_of g tile)
    places_are = ap (λ (k : Tiling). places_of k.cols (rect_of k w.of.tile)) tiling_is ∙ ap (λ (k : ℕ). places_of g.cols (rect_of g k)) tile_is

    -- the work stands for the whole map's operands
    pub whole : StandsForWhole tr w.of a b'
    unfolding flows_out
    whole = record {
      a_cut = ap (λ (k : TileWork FlowOp). k.of.a) h.underway.begun.is.is ∙ ap (map a) (sym places_are);
      b_cut = ap (λ (k : TileWork FlowOp). k.of.b) h.underway.begun.is.is ∙ ap (map b') (sym places_are);
      messages = λ m has. stands_by m (h.underway.stand m has) ∙ ap (λ (d : DrainMap). (end_of tr d a b' (edge_at (border_edges_of drain g (orient_of w.which)) m.edge).source).out) (sym drain_is)
          ∙ ap (λ (l : List Edge). (end_of tr w.of.drain a b' (edge_at l m.edge).source).out) (sym edges_are);
    }
