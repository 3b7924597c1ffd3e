-- The border edges of a plan's transports.
use Rattle.std.proofs.Common.{◌≡◌, ◌≢◌, ◌∙◌, ℕ, ◌*◌, ◌<◌, List, [], length, get_or, refl, sym, ap, subst, arith, inl, inr, Bool, true, false}
use Rattle.std.specs.Prelude.{◌==◌}
use Rattle.std.specs.List.{Contains, position_or_len}
use Rattle.std.proofs.lemmas.Bool.{and_from, and_parts, eq-eqb}
use Rattle.std.proofs.lemmas.List.{get_or-map, get_or_default, length-map}
use Rattle.std.proofs.lemmas.List.Sums.{passes_at_first, position_or_len_is}
use Rattle.tile_map.specs.declared.tiling.Tiling.{Tiling}
use Rattle.tile_map.specs.Tiles.{tile_at, tile_count}
use Rattle.tile_map.proofs.TileLemmas.{tile_below}
use Rattle.drain_meaning.specs.declared.next.Next.{Next}
use Rattle.drain_meaning.specs.declared.next.Next.TheVariants as next
use Rattle.drain_meaning.specs.declared.op.Orient.{Orient}
use Rattle.drain_meaning.specs.declared.op.Orient.TheVariants.{Down, Up}
use Rattle.drain_meaning.specs.Drains.{DrainMap, next_at}
use Rattle.drain_meaning.specs.Paths.{IsSound}
use Rattle.drain_meaning.specs.Sound.{IsDrain}
use Rattle.drain_meaning.specs.Transports.{feeders, outlet}
use Rattle.drain_meaning.proofs.Callers.{cases_directed, directed_within, feeder_feeds, next_directed, tributary_drains}
use Rattle.border_channel.specs.declared.edge.Edge.{Edge}
use Rattle.border_channel.specs.Edges.{AreBorderEdges, EdgeComesBefore, IsBorderEdge, edge, edge_at}
use Rattle.border_channel.specs.Loads.{load_of}
use Rattle.border_channel.specs.TileFlows.{joins}
use Rattle.border_channel.proofs.Callers.{edges_listed, load_within, loads_add_up}
use Rattle.task_graph.specs.Plans.{PlanValue}
use Rattle.plan_graph.specs.Borders.{borders_of, drain_at, edges_for, no_flow, orient_at, transport_at}
use Rattle.plan_graph.specs.Transports.{cells_in_map}
use Rattle.plan_graph.proofs.JointLemmas.{AreInTiles, eq_of, first_place}
use Rattle.plan_graph.proofs.TaskNumbers.{Fits}

-- ---- feeding cells

-- a cell without a direction is fed by none
missing_fed : (o : Orient) (m : DrainMap) → IsSound m → (c u : ℕ) → next_at m c ≡ next.Missing → Contains (feeders o m c) u → ⊥
unfolding feeders
missing_fed Down m sound c u missing h =
    let e = tributary_drains m c u h in
    next_directed m u c (sound u (λ k. cc (k, e))) e missing
missing_fed Up m sound c u missing h = none (next_at m c) missing h
  where
    none : (n : Next) → n ≡ next.Missing → Contains (outlet n) u → ⊥
    none next.Missing e k = omega (arith, k.1)
    none next.Pit e k = omega (arith, k.1)
    none next.Outside e k = omega (arith, k.1)
    none (next.Cell d) e k = cc

-- a cell that feeds another is in the map, and so is the other, which has more load
pub record FeedsWithin (o : Orient) (m : DrainMap) (u c : ℕ) : Type 0 where
  pub source : u < length m.codes
  pub target : c < length m.codes
  pub less : load_of o m u < load_of o m c

pub feeds_within : (o : Orient) (m : DrainMap) → IsDrain m → (c u : ℕ) → Contains (feeders o m c) u → FeedsWithin o m u c
feeds_within o m drain c u h = elim (cases_directed m c) as (λ _. FeedsWithin o m u c) [
  | inl directed ↦
      let f = feeder_feeds o m drain.sound c u directed h in
      let sum = loads_add_up o m c drain directed in
      let whole = sum.0 in
      let low = load_within o m (feeders o m c) u h in
      record { source = directed_within m u f.directed; target = directed_within m c directed; less = omega arith }
  | inr missing ↦ absurd (missing_fed o m drain.sound c u missing h)
]

-- ---- an edge by its cells

edge_is : (e : Edge) (u c : ℕ) → joins u c e ≡ true → (e.source ≡ u) × (e.target ≡ c)
edge_is e u c h = let both = and_parts (e.source == u) (e.target == c) h in (eq_of e.source u both.0, eq_of e.target c both.1)

joins_itself : (e : Edge) (u c : ℕ) → e.source ≡ u → e.target ≡ c → joins u c e ≡ true
joins_itself e u c a b = and_from (e.source == u) (e.target == c) (eq-eqb e.source u a) (eq-eqb e.target c b)

-- an edge comes before no edge between the same cells
not_before : (e f : Edge) (u c : ℕ) → joins u c e ≡ true → f.source ≡ u → f.target ≡ c → EdgeComesBefore e f → ⊥
not_before e f u c h a b (inl less) = let same = (edge_is e u c h).0 in omega (arith, same)
not_before e f u c h a b (inr later) = let same = (edge_is e u c h).1 in let less = later.1 in omega (arith, same)

not_true : (o : Bool) → (o ≡ true → ⊥) → o ≡ false
not_true true h = absurd (h refl)
not_true false h = refl

module _ {m : DrainMap} {g : Tiling} {o : Orient} {edges : List Edge} (are : AreBorderEdges m g o edges) where
  -- the place of an edge in the list
  pub edge_place : (k : ℕ) → k < length edges → position_or_len (joins (edge_at edges k).source (edge_at edges k).target) edges ≡ k
  edge_place k below =
      let e = edge_at edges k in
      position_or_len_is (joins e.source e.target) edges k (edge 0 0) (omega arith)
      (λ i less. not_true (joins e.source e.target (edge_at edges i)) (λ h. not_before (edge_at edges i) e e.source e.target h refl refl (are.ascends i k less below)))
      (λ _. joins_itself e e.source e.target refl refl)

  -- the edge from a feeding cell in another tile
  pub record IsPlaced (u c : ℕ) : Type 0 where
    pub below : position_or_len (joins u c) edges < length edges
    pub source : (edge_at edges (position_or_len (joins u c) edges)).source ≡ u
    pub target : (edge_at edges (position_or_len (joins u c) edges)).target ≡ c

  pub is_placed : (u c : ℕ) → Contains (feeders o m c) u → tile_at g u ≢ tile_at g c → IsPlaced u c
  is_placed u c feeds apart =
      let has = are.each (edge u c) (record { feeds = feeds; apart = apart }) in
      let k = has.0 in
      let below : k < length edges = has.1 in
      let at : edge_at edges k ≡ edge u c = get_or_default edges k (edge 0 0) (edge u c) below ∙ has.2 in
      let most = first_place (joins u c) edges k (edge 0 0) below (joins_itself (edge_at edges k) u c (ap (λ (e : Edge). e.source) at) (ap (λ (e : Edge). e.target) at)) in
      let less : position_or_len (joins u c) edges < length edges = omega arith in
      let is = edge_is (edge_at edges (position_or_len (joins u c) edges)) u c (passes_at_first (joins u c) edges (edge 0 0) less) in
      record { below = less; source = is.0; target = is.1 }

-- ---- the edges of a transport

-- the border edges of a transport with a sound drain map
pub record IsBordered (plan : PlanValue) (drains : List DrainMap) (f : ℕ) (edges : List Edge) : Type 0 where
  pub drain : IsDrain (drain_at plan drains f)
  pub size : length (drain_at plan drains f).codes ≡ cells_in_map plan.tiling
  pub are : AreBorderEdges (drain_at plan drains f) plan.tiling (orient_at plan f) edges

module _ {plan : PlanValue} {drains : List DrainMap} (fits : Fits plan drains) where
  pub border_is : (f : ℕ) → f < length plan.flows → get_or (borders_of plan drains) f [] ≡ edges_for plan.tiling drains (transport_at plan f)
  border_is f below = get_or-map (edges_for plan.tiling drains) plan.flows f no_flow [] below

  pub bordered : (f : ℕ) → f < length plan.flows → IsBordered plan drains f (get_or (borders_of plan drains) f [])
  bordered f below =
      let has = fits.drains f below in
      record {
        drain = has.0;
        size = has.0.map.size ∙ (ap (λ (n : ℕ). n * (drain_at plan drains f).cols) has.1.rows ∙ ap (λ (n : ℕ). plan.tiling.rows * n) has.1.cols);
        are = subst (AreBorderEdges (drain_at plan drains f) plan.tiling (orient_at plan f)) (sym (border_is f below))
            (edges_listed (drain_at plan drains f) plan.tiling (orient_at plan f) has.0 has.1);
      }

  pub many_borders : length (borders_of plan drains) ≡ length plan.flows
  many_borders = length-map plan.flows (edges_for plan.tiling drains)

-- an edge goes between cells of the map
pub record GoesWithin (plan : PlanValue) (drains : List DrainMap) (f : ℕ) (e : Edge) : Type 0 where
  pub feeds : Contains (feeders (orient_at plan f) (drain_at plan drains f) e.target) e.source
  pub apart : tile_at plan.tiling e.source ≢ tile_at plan.tiling e.target
  pub source : e.source < cells_in_map plan.tiling
  pub target : e.target < cells_in_map plan.tiling
  pub source_tile : tile_at plan.tiling e.source < tile_count plan.tiling
  pub target_tile : tile_at plan.tiling e.target < tile_count plan.tiling

module _ {plan : PlanValue} {drains : List DrainMap} (fits : Fits plan drains) where
  pub goes_within : (f : ℕ) → f < length plan.flows → (k : ℕ) → k < length (get_or (borders_of plan drains) f []) → GoesWithin plan drains f (edge_at (get_or (borders_of plan drains) f []) k)
  goes_within f within k below =
      let b = bordered fits f within in
      let e = edge_at (get_or (borders_of plan drains) f []) k in
      let is : IsBorderEdge (drain_at plan drains f) plan.tiling (orient_at plan f) e = b.are.only k below in
      let cells = feeds_within (orient_at plan f) (drain_at plan drains f) b.drain e.target e.source is.feeds in
      let size = b.size in
      let low = cells.source in
      let high = cells.target in
      let source : e.source < cells_in_map plan.tiling = omega arith in
      let target : e.target < cells_in_map plan.tiling = omega arith in
      record {
        feeds = is.feeds;
        apart = is.apart;
        source = source;
        target = target;
        source_tile = tile_below plan.tiling e.source source;
        target_tile = tile_below plan.tiling e.target target;
      }

  pub in_tiles : (f : ℕ) → f < length plan.flows → AreInTiles plan.tiling (get_or (borders_of plan drains) f [])
  in_tiles f within k below = let e = goes_within f within k below in (e.source_tile, e.target_tile)
