-- What is kept of a plan's transports.
use Rattle.std.proofs.Common.{◌≡◌, ◌∙◌, ℕ, ◌+◌, ◌<◌, List, [], length, get_or, refl, sym, ap, subst, arith, inl, inr, true}
use Rattle.std.specs.Prelude.{◌⊎◌}
use Rattle.std.proofs.lemmas.Bool.{cases_lt}
use Rattle.std.proofs.lemmas.List.{get_or_past}
use Rattle.core_model.specs.Graphs.{edge_at as edge_number, from_task, into_task}
use Rattle.drain_meaning.specs.Drains.{DrainMap}
use Rattle.border_channel.specs.declared.edge.Edge.{Edge}
use Rattle.border_channel.specs.Edges.{HasSizeOf, edge_at}
use Rattle.map_meaning.specs.declared.known.Span.{Span}
use Rattle.task_graph.specs.declared.task.Task.{Task}
use Rattle.task_graph.specs.Plans.{AreOfOne, PlanValue, task_at}
use Rattle.plan_graph.specs.Borders.{AreDrained, HasDrainsOf, borders_of, drain_of, no_drain_map, transport_at}
use Rattle.plan_graph.specs.Graphs.{core_graph, feeds_of, is_flow_work, owner_of}
use Rattle.plan_graph.specs.Numbered.{count_before}
use Rattle.plan_graph.specs.PlanGraphs.{HasTransports, IsChannelOf, IsEdgeOf, IsOfTransport, graph_of, with_drains}
use Rattle.plan_graph.specs.Transports.{task_edges, task_transport}
use Rattle.plan_graph.proofs.EdgeLemmas.{goes_within, many_borders}
use Rattle.plan_graph.proofs.PointLemmas.{ChannelIs, EdgeIs, at_point, channel_is, edge_number_is, edge_of_number}
use Rattle.plan_graph.proofs.SoundLemmas.{channel_in, is_joining, owner_transport}
use Rattle.plan_graph.proofs.TaskNumbers.{Fits, are_alike, at_tile, flow_work, of_transport}

-- a list with an item is there
list_there : (xss : List (List Edge)) (f k : ℕ) → k < length (get_or xss f []) → f < length xss
list_there xss f k below = elim (cases_lt f (length xss)) as (λ _. f < length xss) [
  | inl low ↦ low
  | inr past ↦ absurd (let none = ap length (get_or_past xss f [] past) in omega arith)
]

module _ {plan : PlanValue} {drains : List DrainMap} (fits : Fits plan drains) (s : Span) where
  -- a task's transport that has an edge is there
  pub transport_there : (t e : ℕ) → e < length (task_edges plan drains t) → task_transport plan t < length plan.flows
  transport_there t e below = let there = list_there (borders_of plan drains) (task_transport plan t) e below in let many = many_borders fits in omega arith

  is_edge_of : (t e : ℕ) → e < length (task_edges plan drains t) → IsEdgeOf (with_drains s plan drains) t e
  unfolding graph_of core_graph
  is_edge_of t e below =
      let f = task_transport plan t in
      let within = transport_there t e below in
      let ends = is_joining fits f e within below in
      record {
        within = (edge_number_is fits f e within below).below;
        source = ends.source;
        target = ends.target;
        from = ends.from;
        into = ends.into;
      }

  -- the number of an edge that leaves a task, or leads into it, is behind those of the transports before
  numbered : (t e : ℕ) → edge_number (core_graph plan drains) t e < (core_graph plan drains).edges →
      (from_task (core_graph plan drains) (edge_number (core_graph plan drains) t e) ≡ t) ⊎ (into_task (core_graph plan drains) (edge_number (core_graph plan drains) t e) ≡ t) →
      e < length (task_edges plan drains t)
  unfolding core_graph
  numbered t e below either =
      let borders = borders_of plan drains in
      let g = core_graph plan drains in
      let own = task_transport plan t in
      let d : EdgeIs plan drains (count_before borders own + e) = edge_of_number fits (count_before borders own + e) below in
      let b = edge_at (get_or borders d.f []) d.k in
      let goes = goes_within fits d.f d.within d.k d.below in
      let ends = is_joining fits d.f d.k d.within d.below in
      let same : own ≡ d.f = elim either as (λ _. own ≡ d.f) [
        | inl out ↦ ap (task_transport plan) (sym out ∙ (ap (from_task g) d.number ∙ ends.from)) ∙ owner_transport fits d.f b.source d.within goes.source_tile
        | inr in' ↦ ap (task_transport plan) (sym in' ∙ (ap (into_task g) d.number ∙ ends.into)) ∙ owner_transport fits d.f b.target d.within goes.target_tile
      ] in
      let before = ap (count_before borders) same in
      let number = d.number in
      let place : e ≡ d.k = omega arith in
      subst (λ (f : ℕ). e < length (get_or borders f [])) (sym same) (subst (λ (k : ℕ). k < length (get_or borders d.f [])) (sym place) d.below)

  channel_of : (c : ℕ) → c < (core_graph plan drains).channels → IsChannelOf (with_drains s plan drains) c
  unfolding graph_of
  channel_of c below =
      let d = channel_in fits c below in
      record {
        transport = d.f;
        there = d.within;
        from_tile = d.a;
        from_below = d.from_below;
        from = d.from;
        into_tile = d.b;
        into_below = d.into_below;
        into = d.into;
      }

  dense : (c : ℕ) → c < (core_graph plan drains).channels → (e : ℕ) × (e < (core_graph plan drains).edges) × ((core_graph plan drains).channel_of e ≡ c)
  unfolding core_graph
  dense c below =
      let d : ChannelIs fits c = channel_is fits c below in
      (count_before (borders_of plan drains) d.f + d.k, (edge_number_is fits d.f d.k d.within d.below).below, d.is)

  alike : (t u : ℕ) → t < length plan.tasks → u < length plan.tasks → is_flow_work (task_at plan t).work ≡ true → is_flow_work (task_at plan u).work ≡ true →
      task_transport plan t ≡ task_transport plan u → AreOfOne (task_at plan t) (task_at plan u)
  alike t u t_in u_in t_flow u_flow same =
      let one = at_tile fits t t_in (flow_work (task_at plan t).work t_flow) in
      let two = at_tile fits u u_in (flow_work (task_at plan u).work u_flow) in
      are_alike fits t u (task_transport plan t) (task_at plan t).tile (task_at plan u).tile one
      (subst (λ (f : ℕ). IsOfTransport plan u f (task_at plan u).tile) (sym same) two)

  pub has_transports : HasTransports (with_drains s plan drains)
  unfolding graph_of core_graph
  has_transports = record {
    drains = fits.drains;
    at_tile = λ t below is. at_tile fits t below (flow_work (task_at plan t).work is);
    stands = λ f tile within below. (
      (fits.stands f within).within tile below,
      ap (λ (t : Task). is_flow_work t.work) ((fits.stands f within).stands tile below),
      of_transport fits f tile within below,
    );
    alike = alike;
    all_points = refl;
    owned = λ f c below. at_point plan.tiling (owner_of plan) f c below;
    fed = λ f c below. at_point plan.tiling (feeds_of plan drains) f c below;
    edge = λ t e task below. is_edge_of t e below;
    numbered = numbered;
    channel = channel_of;
    dense = dense;
  }

-- ---- drain maps

-- the drain maps of a plan's transports are there, since none has no rows
pub are_drained : (plan : PlanValue) (drains : List DrainMap) → HasDrainsOf plan drains → AreDrained plan.tiling drains plan.flows
are_drained plan drains has f below =
    let size : HasSizeOf (drain_of drains (transport_at plan f)) plan.tiling = (has f below).1 in
    let n = (transport_at plan f).drain in
    record {
      there = elim (cases_lt n (length drains)) as (λ _. n < length drains) [
        | inl low ↦ low
        | inr past ↦ absurd (
            let none = ap (λ (m : DrainMap). m.rows) (get_or_past drains n no_drain_map past) in
            let rows = size.rows in
            let some = plan.tiling.sides.some_rows in
            omega arith)
      ];
      size = size;
    }
