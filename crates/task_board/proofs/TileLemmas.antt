-- The cells of a transport's tile, as a work sees them, and the points of its task, as the core sees them.
use Rattle.std.proofs.Common.{◌≡◌, ◌≢◌, ℕ, zero, suc, ◌*◌, ◌<◌, Bool, true, false, ◌==◌, eq-eqb, eqb-true, ne_eqb, ◌⊎◌, inl, inr, ⊎_elim, List, [], ◌∷◌, length, map, Option, Some, None, is_some, IsSome}
use Rattle.std.proofs.Common.{refl, ap, sym, ◌∙◌, subst, arith}
use Rattle.std.specs.Prelude.{if◌then◌else◌}
use Rattle.std.specs.List.{Contains, position_or_len}
use mathlib.Core.Logic.{dite}
use native.Mathlib.Decide.{ℕ_discrete}
use Rattle.core_model.specs.Graphs.{Each, Feed, FeedsWell, edge_at as edge_number, inside, into_task, over_edge}
use Rattle.core_model.specs.inside.Settling.{all_fed, feed_has_come, is_settled as is_settled_point}
use Rattle.core_model.proofs.Callers.{settled_is, settled_least}
use Rattle.core_model.proofs.Settled.{all_fed_each, each_all_fed}
use Rattle.std.proofs.lemmas.Bool.{and_from, and_parts}
use Rattle.cell_values.specs.declared.cell.Cell.{Cell}
use Rattle.cell_values.specs.declared.kind.Kind.{Kind}
use Rattle.tile_map.specs.Tiles.{tile_at}
use Rattle.tile_map.specs.declared.tiling.Tiling.{Tiling}
use Rattle.drain_meaning.specs.declared.op.Orient.{Orient}
use Rattle.drain_meaning.specs.Drains.{DrainMap}
use Rattle.drain_meaning.specs.Sound.{IsDrain}
use Rattle.drain_meaning.specs.Transports.{feeders}
use Rattle.drain_meaning.proofs.Callers.{cases_directed, feeder_feeds, feeder_within}
use Rattle.drain_meaning.specs.Paths.{IsDirected}
use Rattle.border_channel.specs.declared.edge.Edge.{Edge}
use Rattle.border_channel.specs.declared.edge.Message.{Message}
use Rattle.border_channel.specs.Edges.{AreBorderEdges, HasSizeOf, edge_at}
use Rattle.border_channel.specs.Laws.{IsTileOf}
use Rattle.border_channel.specs.Settled.{is_settled, settled_after}
use Rattle.border_channel.specs.TileFlows.{TileFlow, brought, came_over, in_tile, joins}
use Rattle.border_channel.proofs.Callers.{brought_by, choice_first, choice_other, edges_listed, has_fed, has_first, has_later, list_all-each, no_feeders, settled_is_least}
use Rattle.task_graph.specs.Plans.{task_at}
use Rattle.plan_graph.specs.Borders.{drain_at, orient_at}
use Rattle.plan_graph.specs.PlanGraphs.{IsPlan, PlanGraphValue, graph_of}
use Rattle.plan_graph.specs.Transports.{cells_in_map, point_at, task_edges, task_transport}
use Rattle.plan_graph.proofs.Callers.{edge_enters, feeds_at, point_of_cell, task_edges_are}
use Rattle.plan_graph.proofs.EdgeLemmas.{IsPlaced, edge_place, is_placed}

-- an element of a list is the first or one of the others
contains_split : {A : Type 0} (x : A) (xs : List A) (y : A) → Contains (x ∷ xs) y → (y ≡ x) ⊎ Contains xs y
contains_split x xs y (zero, lt, is) = inl (sym is)
contains_split x xs y (suc k, lt, is) = inr (k, omega arith, is)

-- each of a list that was mapped
each_mapped : {A B : Type 0} (P : B → Type 0) (h : A → B) (us : List A) (u : A) → Each P (map h us) → Contains us u → P (h u)
each_mapped P h [] u e has = absurd (let l = has.1 in omega arith)
each_mapped P h (v ∷ us) u e has = ⊎_elim (λ q. subst (λ z. P (h z)) (sym q) e.0) (λ k. each_mapped P h us u e.1 k) (contains_split v us u has)

mapped_each : {A B : Type 0} (P : B → Type 0) (h : A → B) (us : List A) → ((u : A) → Contains us u → P (h u)) → Each P (map h us)
mapped_each P h [] e = tt
mapped_each P h (v ∷ us) e = (e v (has_first v us), mapped_each P h us (λ u k. e u (has_later v us u k)))

-- something was brought, where a message was taken
some_by : {A : Type 0} (b : Bool) (x : A) (rest : Option A) → IsSome rest → IsSome (if b then Some x else rest)
some_by true x rest h = refl
some_by false x rest h = h

brought_some : (edges : List Edge) (taken : List Message) (u c : ℕ) (x : Message) → Contains taken x → joins u c (edge_at edges x.edge) ≡ true → IsSome (brought edges taken u c)
brought_some edges [] u c x has joined = absurd (let l = has.1 in omega arith)
brought_some edges (y ∷ taken) u c x has joined = ⊎_elim
    (λ q. let now : joins u c (edge_at edges y.edge) ≡ true = ap (λ (z : Message). joins u c (edge_at edges z.edge)) (sym q) ∙ joined in
    ap (λ (b : Bool). is_some (if b then Some y.flow else brought edges taken u c)) now)
    (λ k. some_by (joins u c (edge_at edges y.edge)) y.flow (brought edges taken u c) (brought_some edges taken u c x k joined))
    (contains_split y taken x has)

some_value : {A : Type 0} (q : Option A) → IsSome q → (x : A) × (q ≡ Some x)
some_value None h = absurd (cc)
some_value (Some x) h = (x, refl)

joins_ends : (u c : ℕ) (e : Edge) → joins u c e ≡ true → (e.source ≡ u) × (e.target ≡ c)
joins_ends u c e h = let both = and_parts (e.source == u) (e.target == c) h in (eqb-true e.source u both.0, eqb-true e.target c both.1)

joins_by : (u c : ℕ) (e : Edge) → e.source ≡ u → e.target ≡ c → joins u c e ≡ true
joins_by u c e a b = and_from (e.source == u) (e.target == c) (eq-eqb e.source u a) (eq-eqb e.target c b)

module _ {p : PlanGraphValue} (plan : IsPlan p) (t : ℕ) (lt : t < p.tasks) (flow : (graph_of p).is_flow t ≡ true) (kind : Kind) (xs ys : List Cell) (taken : List Message) where
  abbrev g : Tiling
  g = p.plan.tiling

  abbrev f : ℕ
  f = task_transport p.plan t

  abbrev o : Orient
  o = orient_at p.plan f

  abbrev m : DrainMap
  m = drain_at p.plan p.drains f

  abbrev es : List Edge
  es = task_edges p.plan p.drains t

  -- the work over the task's tile, as far as its settled cells go
  abbrev pub tile_flow : TileFlow
  tile_flow = record { kind = kind; drain = m; tiling = g; tile = (task_at p.plan t).tile; edges = es; a = xs; b = ys; taken = taken }

  drain : IsDrain m × HasSizeOf m g
  drain = plan.transports.drains f (plan.transports.at_tile t lt flow).there

  cells : length m.codes ≡ cells_in_map g
  cells = drain.0.map.size ∙ (ap (λ (k : ℕ). k * m.cols) drain.1.rows ∙ ap (λ (k : ℕ). g.rows * k) drain.1.cols)

  pub is_tile : IsTileOf tile_flow
  is_tile = record { drain = drain.0; size = drain.1; tile = (plan.transports.at_tile t lt flow).below }

  listed : AreBorderEdges m g o es
  listed = subst (λ (l : List Edge). AreBorderEdges m g o l) (sym (task_edges_are p.plan p.drains t (plan.transports.at_tile t lt flow).there)) (edges_listed m g o drain.0 drain.1)

  -- the source of a border edge is a cell of the map, with a direction
  pub source_low : (e : ℕ) → e < length es → (edge_at es e).source < cells_in_map g
  source_low e low = subst (λ (k : ℕ). (edge_at es e).source < k) cells (feeder_within o m drain.0.map (edge_at es e).target (edge_at es e).source (listed.only e low).feeds)

  pub source_directed : (e : ℕ) → e < length es → IsDirected m (edge_at es e).source
  source_directed e low =
      let feeds = (listed.only e low).feeds in
      ⊎_elim (λ d. (feeder_feeds o m drain.0.sound (edge_at es e).target (edge_at es e).source d feeds).directed)
      (λ missing. absurd (no_feeders o m drain.0.sound (edge_at es e).target (edge_at es e).source missing feeds)) (cases_directed m (edge_at es e).target)

  -- which messages were taken, by the core and by the work
  pub record TakesAlike (took : ℕ → Bool) : Type 0 where
    pub brings : (e : ℕ) → e < length es → into_task (graph_of p) (edge_number (graph_of p) t e) ≡ t → took (edge_number (graph_of p) t e) ≡ true → (x : Message) × Contains taken x × (x.edge ≡ e)
    pub took_it : (x : Message) → Contains taken x → (x.edge < length es) × (took (edge_number (graph_of p) t x.edge) ≡ true)

  -- a cell of the tile
  abbrev tile : ℕ
  tile = (task_at p.plan t).tile

  abbrev point : ℕ → ℕ
  point c = point_at g f c

  inside_tile : (c : ℕ) → tile_at g c ≡ tile → in_tile tile_flow c ≡ true
  inside_tile c same = eq-eqb (tile_at g c) tile same

  -- what feeds a point of the task
  feed : ℕ → ℕ → Feed
  feed c u = if tile_at g u == tile_at g c then inside (point u) else over_edge (edge_number (graph_of p) t (position_or_len (joins u c) es))

  fed_inside : (c u : ℕ) → tile_at g u ≡ tile_at g c → feed c u ≡ inside (point u)
  unfolding feed
  fed_inside c u same = ap (λ (b : Bool). if b then inside (point u) else over_edge (edge_number (graph_of p) t (position_or_len (joins u c) es))) (eq-eqb (tile_at g u) (tile_at g c) same)

  fed_over : (c u : ℕ) → tile_at g u ≢ tile_at g c → feed c u ≡ over_edge (edge_number (graph_of p) t (position_or_len (joins u c) es))
  unfolding feed
  fed_over c u other = ap (λ (b : Bool). if b then inside (point u) else over_edge (edge_number (graph_of p) t (position_or_len (joins u c) es))) (ne_eqb (tile_at g u) (tile_at g c) other)

  feeds_are : (c : ℕ) → c < cells_in_map g → (graph_of p).feeds (point c) ≡ map (feed c) (feeders o m c)
  unfolding feed
  feeds_are c low = feeds_at p plan t c low

  feeder_low : (c u : ℕ) → Contains (feeders o m c) u → u < cells_in_map g
  feeder_low c u h = subst (λ (k : ℕ). u < k) cells (feeder_within o m drain.0.map c u h)

  module _ (took : ℕ → Bool) (alike : TakesAlike took) where
    abbrev settles : ℕ → Bool
    settles x = is_settled_point (graph_of p) took x

    -- where a cell's feeds have come by the core, they have by the work
    fed_here : (c : ℕ) → c < cells_in_map g → tile_at g c ≡ tile → (among : ℕ → Bool) → Each (λ z. feed_has_come took among z ≡ true) ((graph_of p).feeds (point c))
        → (u : ℕ) → Contains (feeders o m c) u → (in_tile tile_flow u ≡ true → among (point u) ≡ true) × (in_tile tile_flow u ≡ false → IsSome (came_over tile_flow u c))
    fed_here c low same among each u h =
        let has : feed_has_come took among (feed c u) ≡ true = each_mapped (λ z. feed_has_come took among z ≡ true) (feed c) (feeders o m c) u (subst (λ (l : List Feed). Each (λ z. feed_has_come took among z ≡ true) l) (feeds_are c low) each) h in (
          (λ inner. subst (λ (z : Feed). feed_has_come took among z ≡ true) (fed_inside c u (eqb-true (tile_at g u) tile inner ∙ sym same)) has),
          (λ out.
              let apart : tile_at g u ≢ tile_at g c = λ q. let z : true ≡ false = sym (inside_tile u (q ∙ same)) ∙ out in cc in
              let n = position_or_len (joins u c) es in
              let at : IsPlaced listed u c = is_placed listed u c h apart in
              let came : took (edge_number (graph_of p) t n) ≡ true = subst (λ (z : Feed). feed_has_come took among z ≡ true) (fed_over c u apart) has in
              let x = alike.brings n at.below (edge_enters plan t lt flow n at.below (ap (tile_at g) at.target ∙ same)).1 came in
              brought_some es taken u c x.0 x.1 (ap (λ (k : ℕ). joins u c (edge_at es k)) x.2 ∙ joins_by u c (edge_at es n) at.source at.target)),
        )

    -- and the other way round
    here_fed : (c : ℕ) → c < cells_in_map g → tile_at g c ≡ tile → ((u : ℕ) → Contains (feeders o m c) u → (in_tile tile_flow u ≡ true → settles (point u) ≡ true) × (in_tile tile_flow u ≡ false → IsSome (came_over tile_flow u c)))
        → all_fed (feed_has_come took settles) ((graph_of p).feeds (point c)) ≡ true
    here_fed c low same fed = each_all_fed (feed_has_come took settles) ((graph_of p).feeds (point c))
        (subst (λ (l : List Feed). Each (λ z. feed_has_come took settles z ≡ true) l) (sym (feeds_are c low)) (mapped_each (λ z. feed_has_come took settles z ≡ true) (feed c) (feeders o m c) (λ u h.
        dite (ℕ_discrete (tile_at g u) (tile_at g c))
        (λ q. subst (λ (z : Feed). feed_has_come took settles z ≡ true) (sym (fed_inside c u q)) ((fed u h).0 (inside_tile u (q ∙ same))))
        (λ ne.
        let out : in_tile tile_flow u ≡ false = ne_eqb (tile_at g u) tile (λ q. ne (q ∙ sym same)) in
        let some = some_value (came_over tile_flow u c) ((fed u h).1 out) in
        let by = brought_by es taken u c some.0 some.1 in
        let ends = joins_ends u c (edge_at es by.message.edge) by.joined in
        let it = alike.took_it by.message by.taken_in in
        let place : position_or_len (joins u c) es ≡ by.message.edge =
        ap (λ (k : ℕ). position_or_len (joins k c) es) (sym ends.0) ∙ ap (λ (k : ℕ). position_or_len (joins (edge_at es by.message.edge).source k) es) (sym ends.1) ∙ edge_place listed by.message.edge it.0 in
        subst (λ (z : Feed). feed_has_come took settles z ≡ true) (sym (fed_over c u ne)) (ap (λ (k : ℕ). took (edge_number (graph_of p) t k)) place ∙ it.1)))))

    settled_by : (n c : ℕ) → (graph_of p).load (point c) < n → c < cells_in_map g → tile_at g c ≡ tile → settles (point c) ≡ true → is_settled o tile_flow c ≡ true
    settled_by zero c few low same h = absurd (omega arith)
    settled_by (suc n) c few low same h =
        let at = point_of_cell plan t lt flow c low same in
        let each = all_fed_each (feed_has_come took settles) ((graph_of p).feeds (point c)) (sym (settled_is (graph_of p) plan.sound took (point c) at.0) ∙ h) in
        let well = subst (λ (l : List Feed). Each (FeedsWell (graph_of p) (point c)) l) (feeds_are c low) (plan.sound.fed (point c) at.0) in
        (settled_is_least o tile_flow is_tile).closed c (inside_tile c same) (λ u has. let fed = fed_here c low same settles each u has in (
          (λ inner.
              let own : tile_at g u ≡ tile = eqb-true (tile_at g u) tile inner in
              let less = subst (λ (z : Feed). FeedsWell (graph_of p) (point c) z) (fed_inside c u (own ∙ sym same)) (each_mapped (FeedsWell (graph_of p) (point c)) (feed c) (feeders o m c) u well has) in
              settled_by n u (let l = less.2 in omega arith) (feeder_low c u has) own (fed.0 inner)),
          fed.1,
        ))

    -- a cell whose point is settled is settled in the tile
    pub settled_cell : (c : ℕ) → c < cells_in_map g → tile_at g c ≡ tile → settles (point c) ≡ true → is_settled o tile_flow c ≡ true
    settled_cell c low same h = settled_by (suc ((graph_of p).load (point c))) c (omega arith) low same h

    point_after : (k c : ℕ) → c < cells_in_map g → tile_at g c ≡ tile → settled_after o tile_flow k c ≡ true → settles (point c) ≡ true
    point_after zero c low same h = absurd (cc)
    point_after (suc k) c low same h =
        let each = list_all-each (has_fed tile_flow (settled_after o tile_flow k) c) (feeders o m c) h in
        (settled_least (graph_of p) took plan.sound).0 (point c) (point_of_cell plan t lt flow c low same).0 (here_fed c low same (λ u has. (
          (λ inner. point_after k u (feeder_low c u has) (eqb-true (tile_at g u) tile inner) (choice_first (in_tile tile_flow u) (settled_after o tile_flow k u) (is_some (came_over tile_flow u c)) true (each u has) inner)),
          (λ out. choice_other (in_tile tile_flow u) (settled_after o tile_flow k u) (is_some (came_over tile_flow u c)) true (each u has) out),
        )))

    -- and the other way round
    pub settled_point : (c : ℕ) → c < cells_in_map g → tile_at g c ≡ tile → is_settled o tile_flow c ≡ true → settles (point c) ≡ true
    unfolding is_settled
    settled_point c low same h = point_after (length m.codes) c low same h
