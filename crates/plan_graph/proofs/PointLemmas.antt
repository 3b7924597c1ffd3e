-- Points, border edges and channels of the graph of a plan by their numbers.
use Rattle.std.proofs.Common.{◌≡◌, ◌∙◌, ℕ, ◌+◌, ◌*◌, ◌/◌, ◌%◌, ◌<◌, List, [], length, get_or, sym, ap, subst, arith}
use Rattle.std.proofs.lemmas.List.{get_or-map, length-map}
use Rattle.std.proofs.lemmas.Nat.{div-mul-add, mod-mul-add}
use Rattle.core_model.specs.Graphs.{from_task, into_task}
use Rattle.tile_map.specs.declared.tiling.Tiling.{Tiling}
use Rattle.drain_meaning.specs.Drains.{DrainMap}
use Rattle.border_channel.specs.declared.edge.Edge.{Edge}
use Rattle.border_channel.specs.Edges.{edge_at}
use Rattle.task_graph.specs.Plans.{PlanValue}
use Rattle.plan_graph.specs.Borders.{borders_of, transport_at}
use Rattle.plan_graph.specs.Graphs.{border_at, core_graph, joints_in, owner_of}
use Rattle.plan_graph.specs.Joints.{joint_from, joint_into, joint_of, joints_of, pair_of}
use Rattle.plan_graph.specs.Numbered.{count_all, count_before, list_of_number, place_of_number}
use Rattle.plan_graph.specs.Transports.{cells_in_map, point_at}
use Rattle.plan_graph.proofs.EdgeLemmas.{in_tiles, many_borders}
use Rattle.plan_graph.proofs.JointLemmas.{has_edge, is_joint}
use Rattle.plan_graph.proofs.NumberedLemmas.{is_numbered, stands_in}
use Rattle.plan_graph.proofs.TaskNumbers.{Fits}

-- ---- points

pub some_places : (g : Tiling) → 0 < cells_in_map g
some_places g = positive g.rows g.cols g.sides.some_rows g.sides.some_cols
  where
    positive : (m n : ℕ) → 0 < m → 0 < n → 0 < m * n
    positive m n a b = grind arith

-- what is told of a point by its transport and cell
pub at_point : {A : Type 0} (g : Tiling) (of : ℕ → ℕ → A) (f c : ℕ) → c < cells_in_map g → of (point_at g f c / cells_in_map g) (point_at g f c % cells_in_map g) ≡ of f c
at_point g of f c below =
    ap (λ (n : ℕ). of n (point_at g f c % cells_in_map g)) (div-mul-add f (cells_in_map g) c below) ∙ ap (of f) (mod-mul-add f (cells_in_map g) c below)

-- ---- border edges

-- the edge with a number, by its transport and its place
pub record EdgeIs (plan : PlanValue) (drains : List DrainMap) (e : ℕ) : Type 0 where
  pub f : ℕ
  pub k : ℕ
  pub within : f < length plan.flows
  pub below : k < length (get_or (borders_of plan drains) f [])
  pub number : e ≡ count_before (borders_of plan drains) f + k

-- what the number of an edge tells
pub record IsEdgeNumber (plan : PlanValue) (drains : List DrainMap) (f k e : ℕ) : Type 0 where
  pub below : e < count_all (borders_of plan drains)
  pub list : list_of_number (borders_of plan drains) e ≡ f
  pub is : border_at (borders_of plan drains) e ≡ edge_at (get_or (borders_of plan drains) f []) k

-- the channel of an edge, by its transport and its joint
pub record IsChannelNumber (plan : PlanValue) (drains : List DrainMap) (f j : ℕ) : Type 0 where
  pub below : count_before (joints_in plan.tiling (borders_of plan drains)) f + j < (core_graph plan drains).channels
  pub from : (core_graph plan drains).from (count_before (joints_in plan.tiling (borders_of plan drains)) f + j)
      ≡ (transport_at plan f).first + joint_from plan.tiling (joints_of plan.tiling (get_or (borders_of plan drains) f [])) j
  pub into : (core_graph plan drains).into (count_before (joints_in plan.tiling (borders_of plan drains)) f + j)
      ≡ (transport_at plan f).first + joint_into plan.tiling (joints_of plan.tiling (get_or (borders_of plan drains) f [])) j

module _ {plan : PlanValue} {drains : List DrainMap} (fits : Fits plan drains) where
  pub edge_of_number : (e : ℕ) → e < count_all (borders_of plan drains) → EdgeIs plan drains e
  edge_of_number e below =
      let borders = borders_of plan drains in
      let at = stands_in borders e below in
      let many = many_borders fits in
      let list = at.list in
      record { f = list_of_number borders e; k = place_of_number borders e; within = omega arith; below = at.place; number = sym at.number }

  pub edge_number_is : (f k : ℕ) → f < length plan.flows → k < length (get_or (borders_of plan drains) f []) → IsEdgeNumber plan drains f k (count_before (borders_of plan drains) f + k)
  edge_number_is f k within below =
      let borders = borders_of plan drains in
      let e = count_before borders f + k in
      let many = many_borders fits in
      let at = is_numbered borders f k (omega arith) below in
      record {
        below = at.below;
        list = at.list;
        is = ap (λ (n : ℕ). edge_at (get_or borders n []) (place_of_number borders e)) at.list ∙ ap (edge_at (get_or borders f [])) at.place;
      }

  -- ---- channels

  pub joints_at : (f : ℕ) → f < length plan.flows → get_or (joints_in plan.tiling (borders_of plan drains)) f [] ≡ joints_of plan.tiling (get_or (borders_of plan drains) f [])
  joints_at f within = let many = many_borders fits in get_or-map (joints_of plan.tiling) (borders_of plan drains) f [] [] (omega arith)

  many_joints : length (joints_in plan.tiling (borders_of plan drains)) ≡ length plan.flows
  many_joints = length-map (borders_of plan drains) (joints_of plan.tiling) ∙ many_borders fits

  pub channel_number_is : (f j : ℕ) → f < length plan.flows → j < length (joints_of plan.tiling (get_or (borders_of plan drains) f [])) → IsChannelNumber plan drains f j
  unfolding core_graph
  channel_number_is f j within below =
      let g = plan.tiling in
      let joints = joints_in g (borders_of plan drains) in
      let n = count_before joints f + j in
      let many = many_joints in
      let own = joints_at f within in
      let size = ap length own in
      let at = is_numbered joints f j (omega arith) (omega arith) in
      record {
        below = at.below;
        from = ap (λ (h : ℕ). (transport_at plan h).first + joint_from g (get_or joints h []) (place_of_number joints n)) at.list
            ∙ (ap (λ (k : ℕ). (transport_at plan f).first + joint_from g (get_or joints f []) k) at.place
            ∙ ap (λ (js : List ℕ). (transport_at plan f).first + joint_from g js j) own);
        into = ap (λ (h : ℕ). (transport_at plan h).first + joint_into g (get_or joints h []) (place_of_number joints n)) at.list
            ∙ (ap (λ (k : ℕ). (transport_at plan f).first + joint_into g (get_or joints f []) k) at.place
            ∙ ap (λ (js : List ℕ). (transport_at plan f).first + joint_into g js j) own);
      }

-- the channel of an edge joins the tasks of its tiles
pub record IsChannelOfEdge (plan : PlanValue) (drains : List DrainMap) (f e : ℕ) : Type 0 where
  pub below : (core_graph plan drains).channel_of e < (core_graph plan drains).channels
  pub from : from_task (core_graph plan drains) e ≡ owner_of plan f (border_at (borders_of plan drains) e).source
  pub into : into_task (core_graph plan drains) e ≡ owner_of plan f (border_at (borders_of plan drains) e).target

module _ {plan : PlanValue} {drains : List DrainMap} (fits : Fits plan drains) where
  -- the number of an edge's channel
  pub channel_of_is : (f k : ℕ) → f < length plan.flows → k < length (get_or (borders_of plan drains) f []) →
      (core_graph plan drains).channel_of (count_before (borders_of plan drains) f + k)
      ≡ count_before (joints_in plan.tiling (borders_of plan drains)) f + joint_of plan.tiling (get_or (borders_of plan drains) f []) (pair_of plan.tiling (edge_at (get_or (borders_of plan drains) f []) k))
  unfolding core_graph
  channel_of_is f k within below =
      let g = plan.tiling in
      let borders = borders_of plan drains in
      let joints = joints_in g borders in
      let e = count_before borders f + k in
      let number = edge_number_is fits f k within below in
      ap (λ (h : ℕ). count_before joints h + joint_of g (get_or borders h []) (pair_of g (border_at borders e))) number.list
      ∙ ap (λ (b : Edge). count_before joints f + joint_of g (get_or borders f []) (pair_of g b)) number.is

  pub channel_of_edge : (f k : ℕ) → f < length plan.flows → k < length (get_or (borders_of plan drains) f []) → IsChannelOfEdge plan drains f (count_before (borders_of plan drains) f + k)
  channel_of_edge f k within below =
      let g = plan.tiling in
      let borders = borders_of plan drains in
      let own = get_or borders f [] in
      let e = count_before borders f + k in
      let c = channel_of_is f k within below in
      let number = edge_number_is fits f k within below in
      let joint = is_joint g own (in_tiles fits f within) k below in
      let channel = channel_number_is fits f (joint_of g own (pair_of g (edge_at own k))) within joint.below in
      record {
        below = subst (λ (n : ℕ). n < (core_graph plan drains).channels) (sym c) channel.below;
        from = ap (core_graph plan drains).from c ∙ (channel.from ∙ (ap (λ (n : ℕ). (transport_at plan f).first + n) joint.from ∙ ap (λ (b : Edge). owner_of plan f b.source) (sym number.is)));
        into = ap (core_graph plan drains).into c ∙ (channel.into ∙ (ap (λ (n : ℕ). (transport_at plan f).first + n) joint.into ∙ ap (λ (b : Edge). owner_of plan f b.target) (sym number.is)));
      }

  -- each channel has an edge
  pub record ChannelIs (c : ℕ) : Type 0 where
    pub f : ℕ
    pub k : ℕ
    pub within : f < length plan.flows
    pub below : k < length (get_or (borders_of plan drains) f [])
    pub is : (core_graph plan drains).channel_of (count_before (borders_of plan drains) f + k) ≡ c

  pub channel_is : (c : ℕ) → c < (core_graph plan drains).channels → ChannelIs c
  unfolding core_graph
  channel_is c below =
      let g = plan.tiling in
      let borders = borders_of plan drains in
      let joints = joints_in g borders in
      let at = stands_in joints c below in
      let f = list_of_number joints c in
      let many = length-map borders (joints_of g) in
      let flows = many_borders fits in
      let list = at.list in
      let within : f < length plan.flows = omega arith in
      let own = joints_at fits f within in
      let size = ap length own in
      let place = at.place in
      let has = has_edge g (get_or borders f []) (place_of_number joints c) (omega arith) in
      record {
        f = f;
        k = has.edge;
        within = within;
        below = has.within;
        is = channel_of_is f has.edge within has.within ∙ (ap (λ (n : ℕ). count_before joints f + n) has.is ∙ at.number);
      }
