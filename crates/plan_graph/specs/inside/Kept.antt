-- What a plan with its graph keeps beside its value. Words of private contracts.
use Rattle.std.specs.Prelude.{◌≡◌, ℕ, ◌+◌, ◌<◌, ◌^◌, List, [], get_or, length, map}
use Rattle.std.specs.List.{range_with_len}
use Rattle.tile_map.specs.Tiles.{tile_count}
use Rattle.drain_meaning.specs.Drains.{DrainMap}
use Rattle.border_channel.specs.declared.edge.Edge.{Edge}
use Rattle.border_channel.specs.Edges.{edge_at}
use Rattle.map_meaning.specs.declared.known.Span.{Span}
use Rattle.task_graph.specs.Plans.{PlanValue}
use Rattle.plan_graph.specs.Borders.{AreDrained, borders_of, no_flow, transport_at}
use Rattle.plan_graph.specs.Joints.{joint_of, pair_of}
use Rattle.plan_graph.specs.Numbered.{count_all, count_before}
use Rattle.plan_graph.specs.PlanGraphs.{IsPlan, PlanGraphValue, channels_into, graph_of, rooms_of, with_drains}
use Rattle.plan_graph.specs.declared.channels.Channels.{Channels}
use Rattle.plan_graph.specs.declared.joints.Joints.{Joints}
use Rattle.plan_graph.specs.inside.Channels.{AreChannels}
use Rattle.plan_graph.specs.inside.Joined.{EdgesAreWithin, joint_tiles}
use Rattle.plan_graph.specs.inside.Numbers.{AreTold, HaveTasks}
use Rattle.plan_graph.specs.inside.Places.{places_with}
use Rattle.plan_graph.specs.inside.Slots.{HaveJoints, joints_for}

-- the border edges of the transport with this number
abbrev pub border_of : PlanGraphValue → ℕ → List Edge
border_of p f = get_or (borders_of p.plan p.drains) f []

-- the joint of a border edge of a transport
abbrev pub joint_at : PlanGraphValue → ℕ → ℕ → ℕ
joint_at p f k = joint_of p.plan.tiling (border_of p f) (pair_of p.plan.tiling (edge_at (border_of p f) k))

-- The number is that of a transport's first channel: the channels of its edges, and those into its tasks, follow by their joints.
pub record IsFirstChannel (p : PlanGraphValue) (f first : ℕ) : Type 0 where
  pub channel : (k : ℕ) → k < length (border_of p f)
      → (graph_of p).channel_of (count_before (borders_of p.plan p.drains) f + k) ≡ first + joint_at p f k
  pub fits : (k : ℕ) → k < length (border_of p f) → first + joint_at p f k < 2 ^ 32
  pub inbound : (tile : ℕ) → tile < tile_count p.plan.tiling →
      map (λ j. first + j) (places_with (joint_tiles p.plan.tiling (border_of p f)) tile)
      ≡ channels_into (graph_of p) ((transport_at p.plan f).first + tile)

-- The lists that are kept are those of the plan and its graph.
pub record KeepsLists (p : PlanGraphValue) (borders : List (List Edge)) (joints : List Joints) (channels : Channels)
    (told : List ℕ) : Type 0 where
  pub borders_are : borders ≡ borders_of p.plan p.drains
  pub joints_are : HaveJoints p.plan.tiling p.drains p.plan.flows joints
  pub all_firsts : length channels.firsts ≡ length p.plan.flows
  pub firsts : (f : ℕ) → f < length p.plan.flows → IsFirstChannel p f (get_or channels.firsts f 0)
  pub receivers : channels.receivers ≡ map (graph_of p).into (range_with_len 0 (graph_of p).channels)
  pub rooms : channels.rooms ≡ rooms_of (graph_of p)
  pub transports : AreTold p.plan (length p.plan.flows) told

-- What is kept of a plan with its graph.
pub record KeepsPlan (s : Span) (plan : PlanValue) (drains : List DrainMap) (borders : List (List Edge)) (joints : List Joints)
    (channels : Channels) (told : List ℕ) : Type 0 where
  pub plan_is : IsPlan (with_drains s plan drains)
  pub lists : KeepsLists (with_drains s plan drains) borders joints channels told

-- each task that a transport's channels lead into has a number
abbrev pub HaveNumbers : PlanValue → List Joints → Type 0
HaveNumbers plan joints =
    (f j : ℕ) → f < length plan.flows → j < length (joints_for joints (get_or plan.flows f no_flow)).tiles →
    (get_or plan.flows f no_flow).first + get_or (joints_for joints (get_or plan.flows f no_flow)).tiles j 0 < 2 ^ 32

-- The graph of a plan can be kept: its transports have their drain maps and their tasks, and where they have few border edges the
-- lists that are made are to be kept.
pub record CanKeep (s : Span) (plan : PlanValue) (drains : List DrainMap) : Type 0 where
  pub drained : AreDrained plan.tiling drains plan.flows
  pub within : (f : ℕ) → f < length plan.flows → EdgesAreWithin plan.tiling (get_or (borders_of plan drains) f [])
  pub tasks : HaveTasks plan
  pub numbers : (joints : List Joints) → HaveJoints plan.tiling drains plan.flows joints → HaveNumbers plan joints
  pub keeps : (joints : List Joints) (channels : Channels) (told : List ℕ) → count_all (borders_of plan drains) < 2 ^ 32 →
      HaveJoints plan.tiling drains plan.flows joints → AreChannels joints plan.flows channels → AreTold plan (length plan.flows) told →
      KeepsPlan s plan drains (borders_of plan drains) joints channels told
