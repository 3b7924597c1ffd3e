-- The flow tasks of a plan with its graph: their points, their border edges and their channels.
use Rattle.std.proofs.Common.{◌≡◌, ◌∙◌, ℕ, ◌+◌, ◌-◌, ◌*◌, ◌/◌, ◌%◌, ◌<◌, ◌≤◌, List, [], length, map, refl, sym, ap, subst, arith, inl, inr, true}
use Rattle.std.specs.Prelude.{◌==◌, if◌then◌else◌}
use Rattle.std.specs.List.{position_or_len}
use Rattle.std.proofs.Math.Nat.{div-add-mod', div-lt_iff_lt-mul, mod-lt}
use Rattle.std.proofs.lemmas.Bool.{eq-eqb}
use Rattle.std.proofs.lemmas.List.{get_or-map}
use Rattle.core_model.specs.Counts.{flag}
use Rattle.core_model.specs.Graphs.{edge_at as edge_number, from_task, inside, into_task, over_edge}
use Rattle.core_model.proofs.Callers.{sum_at}
use Rattle.tile_map.specs.Tiles.{tile_at}
use Rattle.tile_map.proofs.TileLemmas.{tile_below}
use Rattle.drain_meaning.specs.Drains.{DrainMap}
use Rattle.drain_meaning.specs.Transports.{feeders}
use Rattle.border_channel.specs.Edges.{edge_at}
use Rattle.border_channel.specs.TileFlows.{joins}
use Rattle.task_graph.specs.Plans.{AreOfOne, PlanValue, task_at}
use Rattle.plan_graph.specs.Borders.{borders_of, drain_at, edges_for, no_flow, orient_at, transport_at}
use Rattle.plan_graph.specs.Graphs.{core_graph, owner_of}
use Rattle.plan_graph.specs.Numbered.{count_before}
use Rattle.plan_graph.specs.PlanGraphs.{IsOfTransport, IsPlan, PlanGraphValue, edges_of, graph_of}
use Rattle.plan_graph.specs.Transports.{cells_in_map, point_at, task_edges, task_transport}
use Rattle.plan_graph.proofs.JointLemmas.{pair_below}
use Rattle.plan_graph.proofs.PointLemmas.{some_places}

-- ---- what the graph of a plan says outright

-- the edges of a task's transport are numbered behind those of the transports before
pub first_edge_is : (p : PlanGraphValue) (t : ℕ) → (graph_of p).first_edge t ≡ count_before (borders_of p.plan p.drains) (task_transport p.plan t)
unfolding graph_of core_graph
first_edge_is p t = refl

-- what feeds a cell of a task's transport: cells of its tile, and border edges by their places
pub feeds_at : (p : PlanGraphValue) → IsPlan p → (t c : ℕ) → c < cells_in_map p.plan.tiling →
    (graph_of p).feeds (point_at p.plan.tiling (task_transport p.plan t) c)
    ≡ map
    (λ u. if tile_at p.plan.tiling u == tile_at p.plan.tiling c then inside (point_at p.plan.tiling (task_transport p.plan t) u) else over_edge (edge_number (graph_of p) t (position_or_len (joins u c) (task_edges p.plan p.drains t))))
    (feeders (orient_at p.plan (task_transport p.plan t)) (drain_at p.plan p.drains (task_transport p.plan t)) c)
unfolding graph_of core_graph
feeds_at p plan t c below = plan.transports.fed (task_transport p.plan t) c below

-- the border edges of a transport's task
pub task_edges_are : (plan : PlanValue) (drains : List DrainMap) (t : ℕ) → task_transport plan t < length plan.flows → task_edges plan drains t ≡ edges_for plan.tiling drains (transport_at plan (task_transport plan t))
task_edges_are plan drains t below = get_or-map (edges_for plan.tiling drains) plan.flows (task_transport plan t) no_flow [] below

-- ---- edges

-- the edge with this number is at this place among those of the task's transport; the cell at its one end lies in the task's tile
pub record IsAtPlace (p : PlanGraphValue) (t n : ℕ) (end : ℕ → ℕ) : Type 0 where
  pub place : ℕ
  pub within : place < length (task_edges p.plan p.drains t)
  pub number : n ≡ edge_number (graph_of p) t place
  pub tile : tile_at p.plan.tiling (end place) ≡ (task_at p.plan t).tile

-- the source of the edge at a place, and its target
abbrev pub source_at : PlanGraphValue → ℕ → ℕ → ℕ
source_at p t e = (edge_at (task_edges p.plan p.drains t) e).source

abbrev pub target_at : PlanGraphValue → ℕ → ℕ → ℕ
target_at p t e = (edge_at (task_edges p.plan p.drains t) e).target

module _ {p : PlanGraphValue} (plan : IsPlan p) (t : ℕ) (below : t < p.tasks) (flow : (graph_of p).is_flow t ≡ true) where
  -- the task of a cell of its transport, by the cell's tile
  own_cell : (c : ℕ) → tile_at p.plan.tiling c ≡ (task_at p.plan t).tile → owner_of p.plan (task_transport p.plan t) c ≡ t
  own_cell c same = ap (λ (n : ℕ). (transport_at p.plan (task_transport p.plan t)).first + n) same ∙ sym (plan.transports.at_tile t below flow).number

  cell_own : (c : ℕ) → owner_of p.plan (task_transport p.plan t) c ≡ t → tile_at p.plan.tiling c ≡ (task_at p.plan t).tile
  cell_own c same = let number = (plan.transports.at_tile t below flow).number in omega arith

  -- a border edge out of the task's tile leaves the task
  pub edge_leaves : (e : ℕ) → e < length (task_edges p.plan p.drains t) → tile_at p.plan.tiling (source_at p t e) ≡ (task_at p.plan t).tile →
      (edge_number (graph_of p) t e < (graph_of p).edges) × (from_task (graph_of p) (edge_number (graph_of p) t e) ≡ t)
  edge_leaves e within same = let is = plan.transports.edge t e below within in (is.within, is.from ∙ own_cell (source_at p t e) same)

  -- one into it leads into the task
  pub edge_enters : (e : ℕ) → e < length (task_edges p.plan p.drains t) → tile_at p.plan.tiling (target_at p t e) ≡ (task_at p.plan t).tile →
      (edge_number (graph_of p) t e < (graph_of p).edges) × (into_task (graph_of p) (edge_number (graph_of p) t e) ≡ t)
  edge_enters e within same = let is = plan.transports.edge t e below within in (is.within, is.into ∙ own_cell (target_at p t e) same)

  -- and no others do
  pub leaving_edge : (n : ℕ) → n < (graph_of p).edges → from_task (graph_of p) n ≡ t → IsAtPlace p t n (source_at p t)
  leaving_edge n in_graph out =
      let first : (graph_of p).first_edge t ≤ n = subst (λ (u : ℕ). (graph_of p).first_edge u ≤ n) out (plan.sound.edges_join n in_graph).from_first in
      let e = n - (graph_of p).first_edge t in
      let number : n ≡ edge_number (graph_of p) t e = omega arith in
      let out' : from_task (graph_of p) (edge_number (graph_of p) t e) ≡ t = ap (from_task (graph_of p)) (sym number) ∙ out in
      let within = plan.transports.numbered t e (subst (λ (k : ℕ). k < (graph_of p).edges) number in_graph) (inl out') in
      record { place = e; within = within; number = number; tile = cell_own (source_at p t e) (sym (plan.transports.edge t e below within).from ∙ out') }

  pub entering_edge : (n : ℕ) → n < (graph_of p).edges → into_task (graph_of p) n ≡ t → IsAtPlace p t n (target_at p t)
  entering_edge n in_graph in' =
      let first : (graph_of p).first_edge t ≤ n = subst (λ (u : ℕ). (graph_of p).first_edge u ≤ n) in' (plan.sound.edges_join n in_graph).into_first in
      let e = n - (graph_of p).first_edge t in
      let number : n ≡ edge_number (graph_of p) t e = omega arith in
      let in'' : into_task (graph_of p) (edge_number (graph_of p) t e) ≡ t = ap (into_task (graph_of p)) (sym number) ∙ in' in
      let within = plan.transports.numbered t e (subst (λ (k : ℕ). k < (graph_of p).edges) number in_graph) (inr in'') in
      record { place = e; within = within; number = number; tile = cell_own (target_at p t e) (sym (plan.transports.edge t e below within).into ∙ in'') }

  -- ---- points

  -- a cell of the task's tile is a point of the task
  pub point_of_cell : (c : ℕ) → c < cells_in_map p.plan.tiling → tile_at p.plan.tiling c ≡ (task_at p.plan t).tile →
      (point_at p.plan.tiling (task_transport p.plan t) c < (graph_of p).points) × ((graph_of p).owner (point_at p.plan.tiling (task_transport p.plan t) c) ≡ t)
  point_of_cell c within same =
      let there = (plan.transports.at_tile t below flow).there in (
        subst (λ (n : ℕ). point_at p.plan.tiling (task_transport p.plan t) c < n) (sym plan.transports.all_points)
            (pair_below (task_transport p.plan t) c (length p.plan.flows) (cells_in_map p.plan.tiling) there within),
        plan.transports.owned (task_transport p.plan t) c within ∙ own_cell c same,
      )

-- the point is that of a cell of the task's tile
pub record IsPointOf (p : PlanGraphValue) (t x : ℕ) : Type 0 where
  pub cell : ℕ
  pub within : cell < cells_in_map p.plan.tiling
  pub is : x ≡ point_at p.plan.tiling (task_transport p.plan t) cell
  pub tile : tile_at p.plan.tiling cell ≡ (task_at p.plan t).tile

-- and each point of a task is one
pub cell_of_point : (p : PlanGraphValue) → IsPlan p → (x t : ℕ) → x < (graph_of p).points → (graph_of p).owner x ≡ t → IsPointOf p t x
cell_of_point p plan x t below own =
    let g = p.plan.tiling in
    let cells = cells_in_map g in
    let f = x / cells in
    let c = x % cells in
    let low : x < length p.plan.flows * cells = subst (λ (n : ℕ). x < n) plan.transports.all_points below in
    let within : f < length p.plan.flows = (div-lt_iff_lt-mul (some_places g)).1 low in
    let cell : c < cells = mod-lt x (some_places g) in
    let at : x ≡ point_at g f c = sym (div-add-mod' x cells) in
    let task : owner_of p.plan f c ≡ t = sym (ap (graph_of p).owner at ∙ plan.transports.owned f c cell) ∙ own in
    let of : IsOfTransport p.plan t f (tile_at g c) = subst (λ (u : ℕ). IsOfTransport p.plan u f (tile_at g c)) task (plan.transports.stands f (tile_at g c) within (tile_below g c cell)).2 in
    record {
      cell = c;
      within = cell;
      is = at ∙ ap (λ (n : ℕ). point_at g n c) (sym of.transport);
      tile = sym of.tile_is;
    }

-- ---- channels

-- the two tasks of a channel are of one transport, so of one operation at one step
pub record JoinsAlike (p : PlanGraphValue) (c : ℕ) : Type 0 where
  pub transport : task_transport p.plan ((graph_of p).from c) ≡ task_transport p.plan ((graph_of p).into c)
  pub alike : AreOfOne (task_at p.plan ((graph_of p).from c)) (task_at p.plan ((graph_of p).into c))

pub joins_alike : (p : PlanGraphValue) → IsPlan p → (c : ℕ) → c < (graph_of p).channels → JoinsAlike p c
joins_alike p plan c below =
    let d = plan.transports.channel c below in
    let one = plan.transports.stands d.transport d.from_tile d.there d.from_below in
    let two = plan.transports.stands d.transport d.into_tile d.there d.into_below in
    let same = one.2.transport ∙ sym two.2.transport in
    record {
      transport = ap (task_transport p.plan) d.from ∙ (same ∙ ap (task_transport p.plan) (sym d.into));
      alike =
          subst (λ (t : ℕ). AreOfOne (task_at p.plan t) (task_at p.plan ((graph_of p).into c))) (sym d.from)
          (subst (λ (u : ℕ). AreOfOne (task_at p.plan ((transport_at p.plan d.transport).first + d.from_tile)) (task_at p.plan u)) (sym d.into)
          (plan.transports.alike ((transport_at p.plan d.transport).first + d.from_tile) ((transport_at p.plan d.transport).first + d.into_tile) one.0 two.0 one.1 two.1 same));
    }

-- a channel has room for an edge at least
pub some_room : (p : PlanGraphValue) → IsPlan p → (c : ℕ) → c < (graph_of p).channels → 1 ≤ edges_of (graph_of p) c
some_room p plan c below =
    let has = plan.transports.dense c below in
    let counted : flag ((graph_of p).channel_of has.0 == c) ≡ 1 = ap flag (eq-eqb ((graph_of p).channel_of has.0) c has.2) in
    let most = sum_at (graph_of p).edges has.0 (λ e. flag ((graph_of p).channel_of e == c)) has.1 in
    omega arith
