-- The numbers of tasks' transports.
use Rattle.std.specs.Prelude.{◌≡◌, ℕ, ◌+◌, ◌<◌, List, get_or, length}
use Rattle.tile_map.specs.Tiles.{tile_count}
use Rattle.task_graph.specs.Plans.{PlanValue}
use Rattle.plan_graph.specs.Borders.{transport_at}
use Rattle.plan_graph.specs.Transports.{task_transport}

-- each transport has its tasks
abbrev pub HaveTasks : PlanValue → Type 0
HaveTasks plan =
    (f tile : ℕ) → f < length plan.flows → tile < tile_count plan.tiling →
    ((transport_at plan f).first + tile < length plan.tasks) × (task_transport plan ((transport_at plan f).first + tile) ≡ f)

-- The tasks of the first transports are told the number of theirs.
pub record AreTold (plan : PlanValue) (n : ℕ) (told : List ℕ) : Type 0 where
  pub many : length told ≡ length plan.tasks
  pub right : (f tile : ℕ) → f < n → tile < tile_count plan.tiling → get_or told ((transport_at plan f).first + tile) 0 ≡ f
