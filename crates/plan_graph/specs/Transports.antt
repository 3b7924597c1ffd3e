-- The transports of a plan by their tasks, and their cells as points.
use Rattle.std.specs.Prelude.{ℕ, ◌+◌, ◌*◌, nat_le, nat_lt, ◌&&◌, Bool, List, [], get_or}
use Rattle.std.specs.List.{position_or_len}
use Rattle.tile_map.specs.declared.tiling.Tiling.{Tiling}
use Rattle.tile_map.specs.Tiles.{tile_count}
use Rattle.drain_meaning.specs.Drains.{DrainMap}
use Rattle.border_channel.specs.declared.edge.Edge.{Edge}
use Rattle.border_channel.specs.Own.{edges_into, edges_out_of}
use Rattle.task_graph.specs.declared.flows.FlowTasks.{FlowTasks}
use Rattle.task_graph.specs.Plans.{PlanValue, task_at}
use Rattle.plan_graph.specs.Borders.{borders_of}

-- the task is one of the transport's, which has one for each tile
abbrev pub own_flow : Tiling → ℕ → FlowTasks → Bool
own_flow g t flow = nat_le flow.first t && nat_lt t (flow.first + tile_count g)

-- the number of the transport that a task is of; how many there are where it is of none
abbrev pub task_transport : PlanValue → ℕ → ℕ
task_transport plan t = position_or_len (own_flow plan.tiling t) plan.flows

-- the border edges of the transport that a task is of; none where it is of none
abbrev pub task_edges : PlanValue → List DrainMap → ℕ → List Edge
task_edges plan drains t = get_or (borders_of plan drains) (task_transport plan t) []

-- the numbers of those of them that lead into the task's tile
abbrev pub task_edges_into : PlanValue → List DrainMap → ℕ → List ℕ
task_edges_into plan drains t = edges_into plan.tiling (task_at plan t).tile (task_edges plan drains t)

-- the numbers of those that lead out of it
abbrev pub task_edges_out_of : PlanValue → List DrainMap → ℕ → List ℕ
task_edges_out_of plan drains t = edges_out_of plan.tiling (task_at plan t).tile (task_edges plan drains t)

-- how many cells a map has
abbrev pub cells_in_map : Tiling → ℕ
cells_in_map g = g.rows * g.cols

-- the point of a cell of the transport with this number
abbrev pub point_at : Tiling → ℕ → ℕ → ℕ
point_at g f c = f * cells_in_map g + c
