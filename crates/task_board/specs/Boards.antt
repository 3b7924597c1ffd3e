-- Boards: what contracts see of one.
use Rattle.std.specs.Prelude.{◌≡◌, ◌≢◌, ℕ, ◌<◌, ◌≤◌, false, true, List, [], ◌∷◌, ◌++◌}
use Rattle.core_model.specs.declared.step.Step.{Step}
use Rattle.core_model.specs.Cores.{held, published, Core}
use Rattle.core_model.specs.Runs.{after, Legal}
use Rattle.core_model.specs.Steps.{Claimable, HoldsNone}
use Rattle.map_meaning.specs.declared.known.Known.{Known}
use Rattle.map_meaning.specs.declared.program.Program.{Program}
use Rattle.plan_graph.specs.PlanGraphs.{graph_of, PlanGraphValue}
use Rattle.task_tiles.specs.TaskTiles.{IsPlanned, IsTaskTile}
use Rattle.task_tiles.specs.declared.tile.Tile.{Tile}

-- what a contract sees of a board: the plan of a span of a program over what is known, how many workers there are beside the
-- caller, and the history, which is the list of the steps that were made
pub record BoardValue : Type 0 where
  pub plan : PlanGraphValue
  pub program : Program
  pub known : Known
  pub workers : ℕ
  pub history : List Step

-- a board on which nothing was done
abbrev pub new_board : PlanGraphValue → Program → Known → ℕ → BoardValue
new_board plan program known workers =
    record { plan = plan; program = program; known = known; workers = workers; history = [] }

-- the plan is that of its span of the board's program, over what is known, along the drain maps that are known
pub record IsOfItsSpan (b : BoardValue) : Type 0 where
  pub planned : IsPlanned b.plan.plan b.plan.span b.program b.known
  pub drains : b.plan.drains ≡ b.known.drains

-- the state of the tasks after the board's history
abbrev pub state_of : BoardValue → Core
state_of b = after (graph_of b.plan) b.history

-- the history of the board is a run of its plan
abbrev pub IsLegal : BoardValue → Type 0
IsLegal b = Legal (graph_of b.plan) b.workers b.history

-- the board with one more step
abbrev pub board_with_step : BoardValue → Step → BoardValue
board_with_step b x = record b { history = b.history ++ x ∷ [] }

-- the second board is the first with some steps more
pub record Continues (b c : BoardValue) : Type 0 where
  pub more : List Step
  pub is : c ≡ record b { history = b.history ++ more }

-- the worker holds the task
pub record HoldsTask (b : BoardValue) (w t : ℕ) : Type 0 where
  pub number : w ≤ b.workers
  pub task : t < b.plan.tasks
  pub holds : (state_of b).status t ≡ held w

-- the worker holds no task
abbrev pub IsFree : BoardValue → ℕ → Type 0
IsFree b w = HoldsNone (graph_of b.plan) (state_of b) w

-- each worker that holds a transport's task has put none down
abbrev pub CanBePutDown : BoardValue → Type 0
CanBePutDown b =
    (w t : ℕ) → t < b.plan.tasks → (state_of b).status t ≡ held w → (graph_of b.plan).is_flow t ≡ true →
    (state_of b).has_put_down w ≡ false

-- no worker holds a task
abbrev pub NobodyHolds : BoardValue → Type 0
NobodyHolds b = (t w : ℕ) → t < b.plan.tasks → (state_of b).status t ≢ held w

-- no task can be claimed
abbrev pub NoneClaimable : BoardValue → Type 0
NoneClaimable b = (t : ℕ) → t < b.plan.tasks → Claimable (graph_of b.plan) (state_of b) t → ⊥

-- all tasks are published
abbrev pub IsFinished : BoardValue → Type 0
IsFinished b = (t : ℕ) → t < b.plan.tasks → (state_of b).status t ≡ published

-- the tile is the one that the task is to publish
abbrev pub IsTileFor : BoardValue → ℕ → Tile → Type 0
IsTileFor b t tile = IsTaskTile b.plan.plan b.plan.span b.program b.known t tile
