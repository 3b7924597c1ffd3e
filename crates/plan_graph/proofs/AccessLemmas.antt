-- What is read of the lists that are kept.
use Rattle.std.proofs.Common.{◌≡◌, ◌∙◌, ℕ, ◌+◌, ◌<◌, List, [], length, get_or, map, refl, sym, ap, arith}
use Rattle.std.proofs.lemmas.List.{get_or-map, length-map}
use Rattle.std.proofs.lemmas.List.FromFn.{get_or-map-range_with_len, length-map-range_with_len}
use Rattle.core_model.specs.Graphs.{edge_at as edge_number}
use Rattle.tile_map.specs.declared.tiling.Tiling.{Tiling}
use Rattle.tile_map.specs.Tiles.{tile_count}
use Rattle.border_channel.specs.declared.edge.Edge.{Edge}
use Rattle.border_channel.specs.Edges.{edge, edge_at}
use Rattle.border_channel.specs.Own.{edges_into, edges_out_of}
use Rattle.plan_graph.specs.Borders.{borders_of, transport_at}
use Rattle.plan_graph.specs.Graphs.{core_graph}
use Rattle.plan_graph.specs.Joints.{joint_of, pair_of}
use Rattle.plan_graph.specs.Numbered.{count_before}
use Rattle.plan_graph.specs.PlanGraphs.{IsOfTransport, PlanGraphValue, channels_into, graph_of}
use Rattle.plan_graph.specs.Transports.{task_edges, task_edges_into, task_edges_out_of, task_transport}
use Rattle.plan_graph.specs.declared.joints.Joints.{Joints}
use Rattle.plan_graph.specs.inside.Joined.{AreJoints, joint_tiles}
use Rattle.plan_graph.specs.inside.Kept.{IsFirstChannel, border_of, joint_at}
use Rattle.plan_graph.specs.inside.Places.{places_with}

zero_plus : (n : ℕ) → 0 + n ≡ n
zero_plus n = omega arith

-- there is a list for each tile
pub tiles_there : (g : Tiling) (edges : List Edge) (j : Joints) → AreJoints g edges j → (length j.outbound ≡ tile_count g) × (length j.inbound ≡ tile_count g) × (length j.into ≡ tile_count g)
tiles_there g edges j are = (
  ap length are.outbound ∙ length-map-range_with_len (λ (tile : ℕ). edges_out_of g tile edges) 0 (tile_count g),
  ap length are.inbound ∙ length-map-range_with_len (λ (tile : ℕ). edges_into g tile edges) 0 (tile_count g),
  ap length are.into ∙ length-map-range_with_len (places_with (joint_tiles g edges)) 0 (tile_count g),
)

-- the joint of an edge
pub joint_read : (g : Tiling) (edges : List Edge) (j : Joints) (k : ℕ) → AreJoints g edges j → k < length edges → (k < length j.joints) × (get_or j.joints k 0 ≡ joint_of g edges (pair_of g (edge_at edges k)))
joint_read g edges j k are low =
    let of : Edge → ℕ = λ e. joint_of g edges (pair_of g e) in
    let size = ap length are.joints ∙ length-map edges of in
    (omega arith, ap (λ (js : List ℕ). get_or js k 0) are.joints ∙ get_or-map of edges k (edge 0 0) 0 low)

module _ (p : PlanGraphValue) (j : Joints) (f t tile : ℕ) (are : AreJoints p.plan.tiling (border_of p f) j) (at : f ≡ task_transport p.plan t) (is : IsOfTransport p.plan t (task_transport p.plan t) tile) where
  -- the edges into a task's tile, and those out of it
  pub edges_into_tile : (list : List ℕ) → list ≡ get_or j.inbound tile [] → list ≡ task_edges_into p.plan p.drains t
  edges_into_tile list e =
      e
      ∙ (ap (λ (ls : List (List ℕ)). get_or ls tile []) are.inbound
      ∙ (get_or-map-range_with_len (λ (k : ℕ). edges_into p.plan.tiling k (border_of p f)) 0 (tile_count p.plan.tiling) tile tile [] is.below (zero_plus tile)
      ∙ (ap (λ (n : ℕ). edges_into p.plan.tiling tile (border_of p n)) at ∙ ap (λ (k : ℕ). edges_into p.plan.tiling k (task_edges p.plan p.drains t)) (sym is.tile_is))))

  pub edges_out_of_tile : (list : List ℕ) → list ≡ get_or j.outbound tile [] → list ≡ task_edges_out_of p.plan p.drains t
  edges_out_of_tile list e =
      e
      ∙ (ap (λ (ls : List (List ℕ)). get_or ls tile []) are.outbound
      ∙ (get_or-map-range_with_len (λ (k : ℕ). edges_out_of p.plan.tiling k (border_of p f)) 0 (tile_count p.plan.tiling) tile tile [] is.below (zero_plus tile)
      ∙ (ap (λ (n : ℕ). edges_out_of p.plan.tiling tile (border_of p n)) at ∙ ap (λ (k : ℕ). edges_out_of p.plan.tiling k (task_edges p.plan p.drains t)) (sym is.tile_is))))

  -- the channels into a task
  pub channels_into_tile : (first : ℕ) (list : List ℕ) → IsFirstChannel p f first → list ≡ get_or j.into tile [] → map (λ k. first + k) list ≡ channels_into (graph_of p) t
  channels_into_tile first list own e =
      let here : list ≡ places_with (joint_tiles p.plan.tiling (border_of p f)) tile =
      e ∙ (ap (λ (ls : List (List ℕ)). get_or ls tile []) are.into ∙ get_or-map-range_with_len (places_with (joint_tiles p.plan.tiling (border_of p f))) 0 (tile_count p.plan.tiling) tile tile [] is.below (zero_plus tile)) in
      let number : (transport_at p.plan f).first + tile ≡ t = ap (λ (n : ℕ). (transport_at p.plan n).first + tile) at ∙ sym is.number in
      ap (map (λ k. first + k)) here ∙ (own.inbound tile is.below ∙ ap (channels_into (graph_of p)) number)

-- the number of a task's edge
pub edge_number_of : (p : PlanGraphValue) (t e : ℕ) → edge_number (graph_of p) t e ≡ count_before (borders_of p.plan p.drains) (task_transport p.plan t) + e
unfolding graph_of core_graph
edge_number_of p t e = refl

-- the channel of a task's edge
pub channel_of_task : (p : PlanGraphValue) (f t e first : ℕ) → IsFirstChannel p f first → f ≡ task_transport p.plan t → e < length (border_of p f) →
    first + joint_at p f e ≡ (graph_of p).channel_of (edge_number (graph_of p) t e)
channel_of_task p f t e first own at low =
    sym (own.channel e low) ∙ ap (graph_of p).channel_of (ap (λ (n : ℕ). count_before (borders_of p.plan p.drains) n + e) at ∙ sym (edge_number_of p t e))
