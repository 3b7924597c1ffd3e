-- What a transport over one tile can take.
use Rattle.std.proofs.Common.{◌≡◌, ◌≢◌, ◌∙◌, ℕ, ◌<◌, ◌≤◌, List, [], length, map, sym, ap, subst, arith, slice_index, slice_index_or, ◌∷◌, suc, zero}
use Rattle.std.proofs.lemmas.List.{length-map}
use Rattle.std.specs.List.{Contains}
use Rattle.std.proofs.lemmas.Bool.{eq-eqb}
use Rattle.tile_map.specs.Tiles.{tile_at}
use Rattle.tile_map.specs.declared.tiling.Tiling.{Tiling}
use Rattle.drain_meaning.specs.declared.next.Next.{Next}
use Rattle.drain_meaning.specs.declared.next.Next.TheVariants as next
use Rattle.drain_meaning.specs.declared.op.FlowOp.{FlowOp}
use Rattle.drain_meaning.specs.declared.op.Orient.{Orient}
use Rattle.drain_meaning.specs.declared.op.Orient.TheVariants.{Down, Up}
use Rattle.drain_meaning.specs.Drains.{DrainMap, next_at}
use Rattle.drain_meaning.specs.Equations.{orient_of}
use Rattle.drain_meaning.specs.Flows.{FlowFits}
use Rattle.drain_meaning.specs.Paths.{IsDirected}
use Rattle.drain_meaning.specs.Sound.{IsDrain}
use Rattle.drain_meaning.specs.Transports.{feeders, outlet}
use Rattle.drain_meaning.proofs.Callers.{feeder_feeds}
use Rattle.border_channel.specs.declared.edge.Edge.{Edge}
use Rattle.border_channel.specs.declared.edge.Message.{Message}
use Rattle.border_channel.specs.Edges.{HasSizeOf, border_edges_of, edge_at, fed_by}
use Rattle.border_channel.specs.Loads.{load_of}
use Rattle.border_channel.proofs.Callers.{edges_listed, feeds_fed, loads_add_up}
use Rattle.flow_task.specs.Works.{CanAccept, TileWork}
use Rattle.worked_tiles.specs.Runs.{IsTileRun}

-- a cell that leads somewhere has a direction
leads_directed : (n : Next) (c : ℕ) → Contains (outlet n) c → n ≢ next.Missing
leads_directed n c h e = let none = subst (λ (y : Next). Contains (outlet y) c) e h in absurd (omega (arith, none.1))

-- a cell that feeds another has one
feeding_directed : (o : Orient) (m : DrainMap) → IsDrain m → (u c : ℕ) → Contains (feeders o m c) u → IsDirected m u
unfolding feeders fed_by
feeding_directed Down m drain u c h = leads_directed (next_at m u) c (feeds_fed Down m u c h)
feeding_directed Up m drain u c h = (feeder_feeds Up m drain.sound c u (leads_directed (next_at m c) u h) h).directed

-- the source of an edge has a load
edge_loaded : (m : DrainMap) (g : Tiling) (o : Orient) (edges : List Edge) → IsDrain m → HasSizeOf m g → edges ≡ border_edges_of m g o → (e : ℕ) → e < length edges → 1 ≤ load_of o m (edge_at edges e).source
edge_loaded m g o edges drain size are e low =
    let listed = edges_listed m g o drain size in
    let feeds = (listed.only e (subst (λ (y : List Edge). e < length y) are low)).feeds in
    let u : ℕ = (edge_at (border_edges_of m g o) e).source in
    let loads = loads_add_up o m u drain (feeding_directed o m drain u _ feeds) in
    subst (λ (y : List Edge). 1 ≤ load_of o m (edge_at y e).source) (sym are) (omega (arith, loads.0))

-- a message that was taken has its edge among those
taken_at : (taken : List Message) (y : Message) (k : ℕ) → k < length taken → slice_index_or taken k y ≡ y → slice_index (map (λ (x : Message). x.edge) taken) k ≡ y.edge
taken_at [] y k low at = absurd (omega (arith, low))
taken_at (x ∷ taken) y zero low at = ap (λ (z : Message). z.edge) at
taken_at (x ∷ taken) y (suc k) low at = taken_at taken y k (omega (arith, low)) at

taken_edge : (taken : List Message) (y : Message) → Contains taken y → (edges : List ℕ) → edges ≡ map (λ (x : Message). x.edge) taken → (e : ℕ) → ((k : ℕ) → k < length edges → slice_index edges k ≢ e) → y.edge ≢ e
taken_edge taken y h edges are e other same =
    let many : length edges ≡ length taken = ap length are ∙ length-map taken (λ (x : Message). x.edge) in
    other h.0 (omega (arith, many, h.1)) (ap (λ (xs : List ℕ). slice_index xs h.0) are ∙ (taken_at taken y h.0 h.1 h.2 ∙ same))

-- such a message can be accepted
pub can_accept : (w : TileWork FlowOp) (edges : List Edge) (g : Tiling) (tile : ℕ) (taken : List ℕ) → IsTileRun w edges g tile taken → (x : Message) → x.edge < length edges → tile_at g (edge_at edges x.edge).target ≡ tile →
    ((k : ℕ) → k < length taken → slice_index taken k ≢ x.edge) → ((load : ℕ) → 1 ≤ load → FlowFits x.flow load) → CanAccept (orient_of w.which) w.of x
can_accept w edges g tile taken run x low into other small =
    let of_all : w.of.edges ≡ border_edges_of w.of.drain g (orient_of w.which) = run.edges_are ∙ run.all_edges in
    let here : x.edge < length w.of.edges = subst (λ (y : List Edge). x.edge < length y) (sym run.edges_are) low in
    let target : tile_at w.of.tiling (edge_at w.of.edges x.edge).target ≡ w.of.tile =
    ap (λ (h : Tiling). tile_at h (edge_at w.of.edges x.edge).target) run.tiling_is
    ∙ (ap (λ (y : List Edge). tile_at g (edge_at y x.edge).target) run.edges_are ∙ (into ∙ sym run.tile_is)) in
    record {
      within = here;
      into = eq-eqb (tile_at w.of.tiling (edge_at w.of.edges x.edge).target) w.of.tile target;
      first = λ y h. taken_edge w.of.taken y h taken run.taken_are x.edge other;
      fits = small (load_of (orient_of w.which) w.of.drain (edge_at w.of.edges x.edge).source) (edge_loaded w.of.drain g (orient_of w.which) w.of.edges run.drain run.size of_all x.edge here);
    }
