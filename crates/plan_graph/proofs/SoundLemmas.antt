-- The graph of a plan is sound.
use Rattle.std.proofs.Common.{◌≡◌, ◌≢◌, ◌∙◌, ℕ, zero, suc, ◌+◌, ◌*◌, ◌/◌, ◌%◌, ◌<◌, ◌≤◌, List, [], ◌∷◌, length, get_or, map, sym, ap, subst, arith, inl, inr}
use Rattle.std.specs.Prelude.{◌==◌}
use Rattle.std.specs.List.{Contains, position_or_len}
use Rattle.std.proofs.Math.Nat.{div-add-mod', div-lt_iff_lt-mul, mod-lt}
use Rattle.std.proofs.lemmas.Bool.Decides.{eqb_tells}
use Rattle.core_model.specs.Graphs.{Each, Feed, FeedsWell, In, IsSoundGraph, JoinsPoints, JoinsTasks, NeedsWell, from_task, inside, into_task, over_edge}
use Rattle.tile_map.specs.Tiles.{tile_at, tile_count}
use Rattle.tile_map.proofs.TileLemmas.{tile_below}
use Rattle.drain_meaning.specs.Drains.{DrainMap}
use Rattle.drain_meaning.specs.Transports.{feeders}
use Rattle.drain_meaning.proofs.Callers.{contains_first, contains_later}
use Rattle.border_channel.specs.declared.edge.Edge.{Edge}
use Rattle.border_channel.specs.Edges.{edge_at}
use Rattle.border_channel.specs.Loads.{load_of}
use Rattle.border_channel.specs.TileFlows.{joins}
use Rattle.task_graph.specs.declared.task.Task.{Task}
use Rattle.task_graph.specs.Plans.{PlanValue, needs_at, operation_code, task_at}
use Rattle.plan_graph.specs.Borders.{borders_of, drain_at, orient_at, transport_at}
use Rattle.plan_graph.specs.Graphs.{border_at, core_graph, feed_from, feeds_of, is_flow_work, owner_of}
use Rattle.plan_graph.specs.Numbered.{count_all, count_before, list_of_number}
use Rattle.plan_graph.specs.Transports.{cells_in_map, point_at, task_transport}
use Rattle.plan_graph.proofs.EdgeLemmas.{FeedsWithin, bordered, edge_place, feeds_within, goes_within, is_placed}
use Rattle.plan_graph.proofs.JointLemmas.{ne_of, pair_below}
use Rattle.plan_graph.proofs.NeedLemmas.{codes_ascend, each_index, need_codes}
use Rattle.plan_graph.proofs.NumberedLemmas.{choice_no, choice_yes}
use Rattle.plan_graph.proofs.PointLemmas.{ChannelIs, EdgeIs, at_point, channel_is, channel_of_edge, edge_number_is, edge_of_number, some_places}
use Rattle.plan_graph.proofs.TaskNumbers.{Fits, of_transport}

-- ---- what feeds a point

each_fed : (P : Feed → Type 0) (f : ℕ → Feed) (xs : List ℕ) → ((u : ℕ) → Contains xs u → P (f u)) → Each P (map f xs)
each_fed P f [] h = tt
each_fed P f (x ∷ xs) h = (h x (contains_first x xs), each_fed P f xs (λ u has. h u (contains_later x xs u has)))

-- the load of a cell of a transport
abbrev load_at : PlanValue → List DrainMap → ℕ → ℕ → ℕ
load_at plan drains f c = load_of (orient_at plan f) (drain_at plan drains f) c

module _ {plan : PlanValue} {drains : List DrainMap} (fits : Fits plan drains) where
  -- a cell of the same tile
  feed_inside : (x u : ℕ) → x / cells_in_map plan.tiling < length plan.flows → u < cells_in_map plan.tiling → tile_at plan.tiling u ≡ tile_at plan.tiling (x % cells_in_map plan.tiling) →
      load_at plan drains (x / cells_in_map plan.tiling) u < load_at plan drains (x / cells_in_map plan.tiling) (x % cells_in_map plan.tiling) →
      FeedsWell (core_graph plan drains) x (inside (point_at plan.tiling (x / cells_in_map plan.tiling) u))
  unfolding core_graph
  feed_inside x u within below same less =
      let g = plan.tiling in
      let places = cells_in_map g in
      let f = x / places in (
        pair_below f u (length plan.flows) places within below,
        at_point g (owner_of plan) f u below ∙ ap (λ (t : ℕ). (transport_at plan f).first + t) same,
        subst (λ (n : ℕ). n < load_at plan drains f (x % places)) (sym (at_point g (load_at plan drains) f u below)) less,
      )

  -- a border edge
  feed_over : (x u : ℕ) → x / cells_in_map plan.tiling < length plan.flows → u < cells_in_map plan.tiling → tile_at plan.tiling u ≢ tile_at plan.tiling (x % cells_in_map plan.tiling) →
      Contains (feeders (orient_at plan (x / cells_in_map plan.tiling)) (drain_at plan drains (x / cells_in_map plan.tiling)) (x % cells_in_map plan.tiling)) u →
      load_at plan drains (x / cells_in_map plan.tiling) u < load_at plan drains (x / cells_in_map plan.tiling) (x % cells_in_map plan.tiling) →
      FeedsWell (core_graph plan drains) x (over_edge (count_before (borders_of plan drains) (x / cells_in_map plan.tiling)
      + position_or_len (joins u (x % cells_in_map plan.tiling)) (get_or (borders_of plan drains) (x / cells_in_map plan.tiling) [])))
  unfolding core_graph
  feed_over x u within below apart feeds less =
      let g = plan.tiling in
      let places = cells_in_map g in
      let f = x / places in
      let c = x % places in
      let borders = borders_of plan drains in
      let own = get_or borders f [] in
      let k = position_or_len (joins u c) own in
      let e = count_before borders f + k in
      let placed = is_placed (bordered fits f within).are u c feeds apart in
      let number = edge_number_is fits f k within placed.below in
      let source : point_at g (list_of_number borders e) (border_at borders e).source ≡ point_at g f u =
      ap (λ (h : ℕ). point_at g h (border_at borders e).source) number.list ∙ ap (point_at g f) (ap (λ (b : Edge). b.source) number.is ∙ placed.source) in (
        number.below,
        ap (λ (h : ℕ). point_at g h (border_at borders e).target) number.list
            ∙ (ap (point_at g f) (ap (λ (b : Edge). b.target) number.is ∙ placed.target) ∙ div-add-mod' x places),
        subst (λ (n : ℕ). load_at plan drains (n / places) (n % places) < load_at plan drains f c) (sym source)
            (subst (λ (n : ℕ). n < load_at plan drains f c) (sym (at_point g (load_at plan drains) f u below)) less),
      )

  feed_well : (x u : ℕ) → x / cells_in_map plan.tiling < length plan.flows →
      Contains (feeders (orient_at plan (x / cells_in_map plan.tiling)) (drain_at plan drains (x / cells_in_map plan.tiling)) (x % cells_in_map plan.tiling)) u →
      FeedsWell (core_graph plan drains) x (feed_from plan.tiling (borders_of plan drains) (x / cells_in_map plan.tiling) (x % cells_in_map plan.tiling) u)
  feed_well x u within feeds =
      let g = plan.tiling in
      let places = cells_in_map g in
      let f = x / places in
      let c = x % places in
      let b = bordered fits f within in
      let cells : FeedsWithin (orient_at plan f) (drain_at plan drains f) u c = feeds_within (orient_at plan f) (drain_at plan drains f) b.drain c u feeds in
      let size = b.size in
      let source = cells.source in
      let less : load_at plan drains f u < load_at plan drains f c = cells.less in
      let low : u < places = omega arith in
      let d = inside (point_at g f u) in
      let e = over_edge (count_before (borders_of plan drains) f + position_or_len (joins u c) (get_or (borders_of plan drains) f [])) in
      elim (eqb_tells (tile_at g u) (tile_at g c)) as (λ _. FeedsWell (core_graph plan drains) x (feed_from g (borders_of plan drains) f c u)) [
        | inl same ↦ subst (FeedsWell (core_graph plan drains) x) (sym (choice_yes (tile_at g u == tile_at g c) d e same.0)) (feed_inside x u within low same.1 less)
        | inr other ↦ subst (FeedsWell (core_graph plan drains) x) (sym (choice_no (tile_at g u == tile_at g c) d e other.0)) (feed_over x u within low other.1 feeds less)
      ]

  fed : (x : ℕ) → x < length plan.flows * cells_in_map plan.tiling → Each (FeedsWell (core_graph plan drains) x) (feeds_of plan drains (x / cells_in_map plan.tiling) (x % cells_in_map plan.tiling))
  fed x below =
      let places = cells_in_map plan.tiling in
      let within : x / places < length plan.flows = (div-lt_iff_lt-mul (some_places plan.tiling)).1 below in
      each_fed (FeedsWell (core_graph plan drains) x) (feed_from plan.tiling (borders_of plan drains) (x / places) (x % places))
      (feeders (orient_at plan (x / places)) (drain_at plan drains (x / places)) (x % places)) (λ u has. feed_well x u within has)

  owned : (x : ℕ) → x < length plan.flows * cells_in_map plan.tiling → owner_of plan (x / cells_in_map plan.tiling) (x % cells_in_map plan.tiling) < length plan.tasks
  owned x below =
      let g = plan.tiling in
      let places = cells_in_map g in
      let within : x / places < length plan.flows = (div-lt_iff_lt-mul (some_places g)).1 below in
      (fits.stands (x / places) within).within (tile_at g (x % places)) (tile_below g (x % places) (mod-lt x (some_places g)))

-- ---- edges

in_at : {A : Type 0} (xs : List A) (a d : A) (k : ℕ) → k < length xs → get_or xs k d ≡ a → In a xs
in_at [] a d k below e = absurd (omega arith)
in_at (x ∷ xs) a d zero below e = inl (sym e)
in_at (x ∷ xs) a d (suc k) below e = inr (in_at xs a d k (omega arith) e)

in_map : (f : ℕ → Feed) (xs : List ℕ) (u : ℕ) → Contains xs u → In (f u) (map f xs)
in_map f xs u (k, below, e) = mapped f xs k u below e
  where
    mapped : (f : ℕ → Feed) (xs : List ℕ) (k u : ℕ) → k < length xs → get_or xs k u ≡ u → In (f u) (map f xs)
    mapped f [] k u below e = absurd (omega arith)
    mapped f (x ∷ xs) zero u below e = inl (ap f (sym e))
    mapped f (x ∷ xs) (suc k) u below e = inr (mapped f xs k u (omega arith) e)

module _ {plan : PlanValue} {drains : List DrainMap} (fits : Fits plan drains) where
  -- the task of a cell is of the transport
  pub owner_transport : (f c : ℕ) → f < length plan.flows → tile_at plan.tiling c < tile_count plan.tiling → task_transport plan (owner_of plan f c) ≡ f
  owner_transport f c within below = (of_transport fits f (tile_at plan.tiling c) within below).transport

  -- the edge of a transport feeds the point of its target
  edge_feeds : (f k : ℕ) → f < length plan.flows → k < length (get_or (borders_of plan drains) f []) →
      In (over_edge (count_before (borders_of plan drains) f + k)) (feeds_of plan drains f (edge_at (get_or (borders_of plan drains) f []) k).target)
  edge_feeds f k within below =
      let g = plan.tiling in
      let borders = borders_of plan drains in
      let own = get_or borders f [] in
      let b = edge_at own k in
      let goes = goes_within fits f within k below in
      let place : position_or_len (joins b.source b.target) own ≡ k = edge_place (bordered fits f within).are k below in
      let feed : feed_from g borders f b.target b.source ≡ over_edge (count_before borders f + k) =
      choice_no (tile_at g b.source == tile_at g b.target) (inside (point_at g f b.source)) (over_edge (count_before borders f + position_or_len (joins b.source b.target) own)) (ne_of (tile_at g b.source) (tile_at g b.target) goes.apart)
      ∙ ap (λ (n : ℕ). over_edge (count_before borders f + n)) place in
      subst (λ (d : Feed). In d (feeds_of plan drains f b.target)) feed
      (in_map (feed_from g borders f b.target) (feeders (orient_at plan f) (drain_at plan drains f) b.target) b.source goes.feeds)

  -- where an edge goes
  pub record IsJoining (f k : ℕ) : Type 0 where
    pub source : (core_graph plan drains).source (count_before (borders_of plan drains) f + k) ≡ point_at plan.tiling f (edge_at (get_or (borders_of plan drains) f []) k).source
    pub target : (core_graph plan drains).target (count_before (borders_of plan drains) f + k) ≡ point_at plan.tiling f (edge_at (get_or (borders_of plan drains) f []) k).target
    pub from : from_task (core_graph plan drains) (count_before (borders_of plan drains) f + k) ≡ owner_of plan f (edge_at (get_or (borders_of plan drains) f []) k).source
    pub into : into_task (core_graph plan drains) (count_before (borders_of plan drains) f + k) ≡ owner_of plan f (edge_at (get_or (borders_of plan drains) f []) k).target

  pub is_joining : (f k : ℕ) → f < length plan.flows → k < length (get_or (borders_of plan drains) f []) → IsJoining f k
  unfolding core_graph
  is_joining f k within below =
      let g = plan.tiling in
      let borders = borders_of plan drains in
      let e = count_before borders f + k in
      let number = edge_number_is fits f k within below in
      let channel = channel_of_edge fits f k within below in
      record {
        source = ap (λ (h : ℕ). point_at g h (border_at borders e).source) number.list ∙ ap (λ (b : Edge). point_at g f b.source) number.is;
        target = ap (λ (h : ℕ). point_at g h (border_at borders e).target) number.list ∙ ap (λ (b : Edge). point_at g f b.target) number.is;
        from = channel.from ∙ ap (λ (b : Edge). owner_of plan f b.source) number.is;
        into = channel.into ∙ ap (λ (b : Edge). owner_of plan f b.target) number.is;
      }

  joins_points : (f k : ℕ) → f < length plan.flows → k < length (get_or (borders_of plan drains) f []) → JoinsPoints (core_graph plan drains) (count_before (borders_of plan drains) f + k)
  unfolding core_graph
  joins_points f k within below =
      let g = plan.tiling in
      let places = cells_in_map g in
      let borders = borders_of plan drains in
      let b = edge_at (get_or borders f []) k in
      let e = count_before borders f + k in
      let goes = goes_within fits f within k below in
      let ends = is_joining f k within below in
      let channel = channel_of_edge fits f k within below in
      record {
        source_in = subst (λ (n : ℕ). n < length plan.flows * places) (sym ends.source) (pair_below f b.source (length plan.flows) places within goes.source);
        source_owner = ap (core_graph plan drains).owner ends.source ∙ (at_point g (owner_of plan) f b.source goes.source ∙ sym ends.from);
        target_in = subst (λ (n : ℕ). n < length plan.flows * places) (sym ends.target) (pair_below f b.target (length plan.flows) places within goes.target);
        target_owner = ap (core_graph plan drains).owner ends.target ∙ (at_point g (owner_of plan) f b.target goes.target ∙ sym ends.into);
        feeds = subst (λ (n : ℕ). In (over_edge e) ((core_graph plan drains).feeds n)) (sym ends.target)
            (subst (In (over_edge e)) (sym (at_point g (feeds_of plan drains) f b.target goes.target)) (edge_feeds f k within below));
        channel_in = channel.below;
        from_first =
            let at : (core_graph plan drains).first_edge (from_task (core_graph plan drains) e) ≡ count_before borders f =
            ap (λ (t : ℕ). count_before borders (task_transport plan t)) ends.from ∙ ap (count_before borders) (owner_transport f b.source within goes.source_tile) in
            subst (λ (n : ℕ). n ≤ e) (sym at) (omega arith);
        into_first =
            let at : (core_graph plan drains).first_edge (into_task (core_graph plan drains) e) ≡ count_before borders f =
            ap (λ (t : ℕ). count_before borders (task_transport plan t)) ends.into ∙ ap (count_before borders) (owner_transport f b.target within goes.target_tile) in
            subst (λ (n : ℕ). n ≤ e) (sym at) (omega arith);
      }

  edges_join : (e : ℕ) → e < count_all (borders_of plan drains) → JoinsPoints (core_graph plan drains) e
  edges_join e below =
      let d : EdgeIs plan drains e = edge_of_number fits e below in
      subst (JoinsPoints (core_graph plan drains)) (sym d.number) (joins_points d.f d.k d.within d.below)

-- ---- channels

-- the two tasks of a channel
pub record IsChannelIn (plan : PlanValue) (drains : List DrainMap) (c : ℕ) : Type 0 where
  pub f : ℕ
  pub within : f < length plan.flows
  pub a : ℕ
  pub b : ℕ
  pub from_below : a < tile_count plan.tiling
  pub into_below : b < tile_count plan.tiling
  pub from : (core_graph plan drains).from c ≡ (transport_at plan f).first + a
  pub into : (core_graph plan drains).into c ≡ (transport_at plan f).first + b

module _ {plan : PlanValue} {drains : List DrainMap} (fits : Fits plan drains) where
  pub channel_in : (c : ℕ) → c < (core_graph plan drains).channels → IsChannelIn plan drains c
  channel_in c below =
      let d : ChannelIs fits c = channel_is fits c below in
      let b = edge_at (get_or (borders_of plan drains) d.f []) d.k in
      let goes = goes_within fits d.f d.within d.k d.below in
      let ends = is_joining fits d.f d.k d.within d.below in
      record {
        f = d.f;
        within = d.within;
        a = tile_at plan.tiling b.source;
        b = tile_at plan.tiling b.target;
        from_below = goes.source_tile;
        into_below = goes.target_tile;
        from = ap (core_graph plan drains).from (sym d.is) ∙ ends.from;
        into = ap (core_graph plan drains).into (sym d.is) ∙ ends.into;
      }

  channels_join : (c : ℕ) → c < (core_graph plan drains).channels → JoinsTasks (core_graph plan drains) c
  unfolding core_graph
  channels_join c below =
      let d = channel_in c below in
      let g = core_graph plan drains in
      let stands = fits.stands d.f d.within in
      let first = (transport_at plan d.f).first in
      let from = stands.stands d.a d.from_below in
      let into = stands.stands d.b d.into_below in
      let from_in : first + d.a < length plan.tasks = stands.within d.a d.from_below in
      let into_in : first + d.b < length plan.tasks = stands.within d.b d.into_below in
      let one = (of_transport fits d.f d.a d.within d.from_below).transport in
      let two = (of_transport fits d.f d.b d.within d.into_below).transport in
      let code = λ (t : Task). operation_code t.step t.operation in
      record {
        from_in = subst (λ (n : ℕ). n < length plan.tasks) (sym d.from) from_in;
        into_in = subst (λ (n : ℕ). n < length plan.tasks) (sym d.into) into_in;
        from_flow = ap (λ (t : ℕ). is_flow_work (task_at plan t).work) d.from ∙ ap (λ (t : Task). is_flow_work t.work) from;
        into_flow = ap (λ (t : ℕ). is_flow_work (task_at plan t).work) d.into ∙ ap (λ (t : Task). is_flow_work t.work) into;
        same = ap (λ (t : ℕ). code (task_at plan t)) d.from ∙ (ap code from ∙ sym (ap (λ (t : ℕ). code (task_at plan t)) d.into ∙ ap code into));
        same_edges = ap g.first_edge d.from ∙ (ap (count_before (borders_of plan drains)) (one ∙ sym two) ∙ sym (ap g.first_edge d.into));
      }

  needed : (t : ℕ) → t < length plan.tasks → Each (NeedsWell (core_graph plan drains) t) (needs_at plan t)
  unfolding core_graph
  needed t below = each_index (NeedsWell (core_graph plan drains) t) (needs_at plan t) 0 (λ i less. need_codes plan fits.ordered t below i less)

  -- The graph of a plan is sound.
  pub graph_is_sound : IsSoundGraph (core_graph plan drains)
  unfolding core_graph
  graph_is_sound = record {
    fed = fed fits;
    needed = needed;
    owned = owned fits;
    ascending = λ t u less below. codes_ascend plan fits.ordered t u less below;
    edges_join = edges_join fits;
    channels_join = channels_join;
  }
