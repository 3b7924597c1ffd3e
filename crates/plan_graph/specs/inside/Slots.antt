-- Joints that are made once for each drain map and orientation.
use Rattle.std.specs.Prelude.{◌≡◌, ℕ, ◌*◌, ◌<◌, ◌⊎◌, Bool, true, false, List, [], get_or, length, slice_set}
use Rattle.tile_map.specs.declared.tiling.Tiling.{Tiling}
use Rattle.drain_meaning.specs.Drains.{DrainMap}
use Rattle.border_channel.specs.declared.edge.Edge.{Edge}
use Rattle.task_graph.specs.declared.flows.FlowTasks.{FlowTasks}
use Rattle.plan_graph.specs.Borders.{edges_for, no_flow}
use Rattle.plan_graph.specs.declared.joints.Joints.{Joints}
use Rattle.plan_graph.specs.inside.Joined.{AreJoints}
use Rattle.plan_graph.specs.inside.Made.{slot_of}

-- in the place of joints where there are none
abbrev pub no_joints : Joints
no_joints = record { outbound = []; inbound = []; joints = []; tiles = []; rooms = []; into = [] }

-- the joints of a transport, which are kept by drain map and orientation
abbrev pub joints_for : List Joints → FlowTasks → Joints
joints_for lists flow = get_or lists (slot_of flow) no_joints

-- The joints that were made are those of the transports that are kept there.
pub record AreJoined (g : Tiling) (drains : List DrainMap) (lists : List Joints) (made : List Bool) : Type 0 where
  pub all_lists : length lists ≡ 2 * length drains
  pub all_made : length made ≡ 2 * length drains
  pub right : (flow : FlowTasks) → get_or made (slot_of flow) false ≡ true → AreJoints g (edges_for g drains flow) (joints_for lists flow)

-- the joints of these edges were made at a place, or are made now
abbrev pub IsOneMade : Tiling → List Edge → ℕ → List Joints → List Joints → List Bool → List Bool → Type 0
IsOneMade g edges slot lists new made done =
    ((get_or made slot false ≡ true) × (new ≡ lists) × (done ≡ made))
    ⊎ ((joints : Joints) × AreJoints g edges joints × (new ≡ slice_set lists slot joints) × (done ≡ slice_set made slot true))

-- the joints of a transport are there
pub record IsJoinedAt (g : Tiling) (drains : List DrainMap) (lists : List Joints) (flow : FlowTasks) : Type 0 where
  pub there : slot_of flow < length lists
  pub are : AreJoints g (edges_for g drains flow) (joints_for lists flow)

-- so are those of each of these transports
abbrev pub HaveJoints : Tiling → List DrainMap → List FlowTasks → List Joints → Type 0
HaveJoints g drains flows lists = (f : ℕ) → f < length flows → IsJoinedAt g drains lists (get_or flows f no_flow)
