-- The channels of transports, by their joints.
use Rattle.std.specs.Prelude.{◌≡◌, ℕ, ◌+◌, ◌<◌, ◌^◌, List, get_or, length, map, take}
use Rattle.std.specs.List.{flat_map}
use Rattle.task_graph.specs.declared.flows.FlowTasks.{FlowTasks}
use Rattle.plan_graph.specs.declared.channels.Channels.{Channels}
use Rattle.plan_graph.specs.declared.joints.Joints.{Joints}
use Rattle.plan_graph.specs.inside.Slots.{joints_for}

-- the tasks that a transport's channels lead into
abbrev pub receivers_for : List Joints → FlowTasks → List ℕ
receivers_for lists flow = map (λ tile. flow.first + tile) (joints_for lists flow).tiles

-- how many edges a transport's channels have
abbrev pub rooms_for : List Joints → FlowTasks → List ℕ
rooms_for lists flow = (joints_for lists flow).rooms

-- how many channels the first transports have
abbrev pub channels_before : List Joints → List FlowTasks → ℕ → ℕ
channels_before lists flows f = length (flat_map (receivers_for lists) (take f flows))

-- The channels are those of the transports, one after another.
pub record AreChannels (lists : List Joints) (flows : List FlowTasks) (c : Channels) : Type 0 where
  pub all_firsts : length c.firsts ≡ length flows
  pub firsts : (f : ℕ) → f < length flows → get_or c.firsts f 0 ≡ channels_before lists flows f
  pub receivers : c.receivers ≡ flat_map (receivers_for lists) flows
  pub rooms : c.rooms ≡ flat_map (rooms_for lists) flows
  pub few : length c.receivers < 2 ^ 32
