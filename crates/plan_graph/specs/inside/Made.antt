-- Border edges that are made once for each drain map and orientation.
use Rattle.std.specs.Prelude.{◌≡◌, ℕ, ◌+◌, ◌*◌, ◌<◌, Bool, true, false, List, [], get_or, length, map}
use Rattle.tile_map.specs.declared.tiling.Tiling.{Tiling}
use Rattle.drain_meaning.specs.declared.op.Orient.{Orient}
use Rattle.drain_meaning.specs.declared.op.Orient.TheVariants.{Down, Up}
use Rattle.drain_meaning.specs.Drains.{DrainMap}
use Rattle.drain_meaning.specs.Equations.{orient_of}
use Rattle.border_channel.specs.declared.edge.Edge.{Edge}
use Rattle.task_graph.specs.declared.flows.FlowTasks.{FlowTasks}
use Rattle.plan_graph.specs.Borders.{edges_for, no_flow}
use Rattle.plan_graph.specs.Numbered.{count_all}

-- 0 for flow that comes from above, 1 for flow that comes from below
abbrev pub orient_bit : Orient → ℕ
orient_bit Down = 0
orient_bit Up = 1

-- where the edges of a transport are kept
abbrev pub slot_of : FlowTasks → ℕ
slot_of flow = 2 * flow.drain + orient_bit (orient_of flow.op)

-- the edges of transports, which are kept by drain map and orientation
abbrev pub kept_borders : List (List Edge) → List FlowTasks → List (List Edge)
kept_borders lists flows = map (λ flow. get_or lists (slot_of flow) []) flows

-- The transports' edges are among the lists, and they are so many together.
pub record KeepsBorders (lists : List (List Edge)) (flows : List FlowTasks) (total : ℕ) : Type 0 where
  pub kept : (f : ℕ) → f < length flows → slot_of (get_or flows f no_flow) < length lists
  pub all : total ≡ count_all (kept_borders lists flows)

-- The lists that were made have the edges of the transports that are kept there.
pub record AreMade (g : Tiling) (drains : List DrainMap) (lists : List (List Edge)) (made : List Bool) : Type 0 where
  pub all_lists : length lists ≡ 2 * length drains
  pub all_made : length made ≡ 2 * length drains
  pub right : (flow : FlowTasks) → get_or made (slot_of flow) false ≡ true → get_or lists (slot_of flow) [] ≡ edges_for g drains flow
