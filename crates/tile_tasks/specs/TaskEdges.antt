-- The border edges of a transport's task.
use Rattle.std.specs.Prelude.{◌≡◌, ℕ, ◌+◌, ◌<◌, List, length}
use Rattle.drain_meaning.specs.Drains.{DrainMap}
use Rattle.border_channel.specs.declared.edge.Edge.{Edge}
use Rattle.border_channel.specs.Own.{edges_into, edges_out_of}
use Rattle.plan_graph.specs.Borders.{edges_for, transport_at}
use Rattle.task_graph.specs.Plans.{PlanValue, task_at}

-- The edges are those of the transport of a plan that a task is of, along one of these drain maps, and the numbers are those of the
-- edges into the task's tile, and of those out of it.
pub record AreTaskEdges (plan : PlanValue) (drains : List DrainMap) (t : ℕ) (edges : List Edge) (into out : List ℕ) : Type 0 where
  pub transport : ℕ
  pub there : transport < length plan.flows
  pub first : t ≡ (transport_at plan transport).first + (task_at plan t).tile
  pub edges_are : edges ≡ edges_for plan.tiling drains (transport_at plan transport)
  pub into_are : into ≡ edges_into plan.tiling (task_at plan t).tile edges
  pub out_are : out ≡ edges_out_of plan.tiling (task_at plan t).tile edges
