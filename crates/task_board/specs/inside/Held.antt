-- The parts of a board, and what they keep.
use Rattle.std.specs.Prelude.{◌≡◌, ◌≢◌, ◌⊎◌, ℕ, ◌+◌, ◌*◌, ◌<◌, ◌≤◌, Bool}
use Rattle.std.specs.Prelude.{false, true, List, length, slice_index, slice_index_or, Option, Some, None, ⊤}
use Rattle.std.specs.Option.{IsSomeAnd}
use Rattle.std.specs.Arc.{arc_value}
use Rattle.std.specs.declared.sync.Arc.{Arc}
use Rattle.std.specs.Global.{Global}
use Rattle.core_model.specs.declared.step.Step.{Step}
use Rattle.core_model.specs.Cores.{Core, Status, held, parked, published, ready}
use Rattle.core_model.specs.Runs.{after, Legal}
use Rattle.drain_meaning.specs.declared.op.FlowOp.{FlowOp}
use Rattle.border_channel.specs.Channels.{Queue}
use Rattle.flow_task.specs.Kits.{KnowsAll}
use Rattle.flow_task.specs.Works.{TileWork}
use Rattle.map_meaning.specs.Table.{is_transport}
use Rattle.map_meaning.specs.declared.known.Known.{Known}
use Rattle.map_meaning.specs.declared.known.OverAt.{OverAt}
use Rattle.map_meaning.specs.declared.program.Program.{Program}
use Rattle.number_lists.specs.Turned.{times}
use Rattle.plan_graph.specs.PlanGraphs.{graph_of, IsPlan, PlanGraphValue, list_at}
use Rattle.task_states.specs.States.{Reflects, unmet_of}
use Rattle.task_states.specs.declared.states.TaskStates.{TaskStates}
use Rattle.task_tiles.specs.TaskTiles.{IsTaskTile}
use Rattle.task_tiles.specs.declared.tile.Tile.{Tile}
use Rattle.task_board.specs.Boards.{BoardValue, IsOfItsSpan}
use Rattle.task_board.specs.Tickets.{HasItsWork}
use Rattle.task_board.specs.Tiles.{hands_out_at}
use Rattle.task_board.specs.inside.Channels.{Carries}
use Rattle.task_board.specs.inside.Noted.{IsFirstNoted}

-- the parts of a board
pub record Parts : Type 0 where
  pub plan : PlanGraphValue
  pub program : Program
  pub known : Known
  pub knows : FlowOp → Bool
  pub workers : ℕ
  pub states : TaskStates
  pub tiles : List (Option (Arc Tile Global))
  pub unread : List ℕ
  pub kept : List Bool
  pub works : List (Option (TileWork FlowOp))
  pub channels : List Queue
  pub history : List Step
  pub room : ℕ
  pub over : Option OverAt

-- the board that they are the parts of
abbrev pub board_of : Parts → BoardValue
board_of x = record {
  plan = x.plan;
  program = x.program;
  known = x.known;
  workers = x.workers;
  history = x.history;
}

-- how many steps a run has at most
abbrev pub steps_at_most : PlanGraphValue → ℕ → ℕ
steps_at_most plan workers = 2 * plan.tasks + 4 * plan.edges + 2 * (workers + 1)

-- the tile that there is for a task
abbrev pub tile_for : List (Option (Arc Tile Global)) → ℕ → Option (Arc Tile Global)
tile_for tiles t = slice_index_or tiles t None

-- the tile is one of those for this task
abbrev pub IsCopy : List (Option (Arc Tile Global)) → Arc Tile Global → ℕ → Type 0
IsCopy tiles a t = IsSomeAnd (tile_for tiles t) (λ b. arc_value a ≡ arc_value b)

-- a task's tile is put among the tiles exactly where it is needed: where it is still to be read, or is handed out
pub record IsPutAmong (tiles new : List (Option (Arc Tile Global))) (unread : List ℕ) (kept : List Bool) (t : ℕ)
    (tile : Arc Tile Global) : Type 0 where
  pub own : (1 ≤ slice_index unread t) ⊎ (slice_index_or kept t false ≡ true) → tile_for new t ≡ Some tile
  pub left : (slice_index unread t ≡ 0) × (slice_index_or kept t false ≡ false) → tile_for new t ≡ tile_for tiles t
  pub others : (u : ℕ) → u ≢ t → tile_for new u ≡ tile_for tiles u

-- each of these tasks was read once more, and the tile of one that nobody is to read any more is let go, where it isn't kept
pub record AreRead (tiles new : List (Option (Arc Tile Global))) (unread left : List ℕ) (kept : List Bool) (needs : List ℕ) : Type 0 where
  pub counts : (u : ℕ) → slice_index left u + times u needs ≡ slice_index unread u
  pub same : (u : ℕ) → (tile_for new u ≡ tile_for tiles u)
      ⊎ ((tile_for new u ≡ None) × (1 ≤ times u needs) × (slice_index left u ≡ 0) × (slice_index_or kept u false ≡ false))
  pub gone : (u : ℕ) → 1 ≤ times u needs → slice_index left u ≡ 0 → slice_index_or kept u false ≡ false → tile_for new u ≡ None

-- the state of the tasks
abbrev pub state_in : Parts → Core
state_in x = after (graph_of x.plan) x.history

-- the tile of a published task is needed: some task that reads it is not published, or it is handed out
abbrev pub IsNeeded : Parts → ℕ → Type 0
IsNeeded x t = (1 ≤ slice_index x.unread t) ⊎ (slice_index_or x.kept t false ≡ true)

-- it is not
abbrev pub IsNotNeeded : Parts → ℕ → Type 0
IsNotNeeded x t = (slice_index x.unread t ≡ 0) × (slice_index_or x.kept t false ≡ false)

-- nobody holds the task, and it is not published
abbrev pub IsLetGo : Status → Type 0
IsLetGo ready = ⊤
IsLetGo (held w) = ⊥
IsLetGo parked = ⊤
IsLetGo published = ⊥

-- the work that there is for a task
abbrev pub work_at : List (Option (TileWork FlowOp)) → ℕ → Option (TileWork FlowOp)
work_at works t = slice_index_or works t None

-- The parts of a board fit: the history is a run of the plan, the states are those after it, each published task that is needed
-- has its tile and no other task has one, each task that was let go has its work, the channels carry the messages that wait, and there
-- is room for every run.
pub record IsBoard (x : Parts) : Type 0 where
  pub plan : IsPlan x.plan
  pub of : IsOfItsSpan (board_of x)
  pub kit : KnowsAll is_transport x.knows
  pub few : x.workers ≤ 64
  pub legal : Legal (graph_of x.plan) x.workers x.history
  pub shows : Reflects (graph_of x.plan) x.workers (state_in x) x.states
  pub all_tiles : length x.tiles ≡ x.plan.tasks
  pub all_unread : length x.unread ≡ x.plan.tasks
  pub all_kept : length x.kept ≡ x.plan.tasks
  pub all_works : length x.works ≡ x.plan.tasks
  pub has_works : (t : ℕ) → t < x.plan.tasks → IsLetGo ((state_in x).status t) → HasItsWork (board_of x) t (work_at x.works t)
  pub carries : Carries (board_of x) x.channels
  pub reads : (t : ℕ) → t < x.plan.tasks → slice_index x.unread t ≡ unmet_of (state_in x).status (list_at x.plan.readers t)
  pub keeps : (t : ℕ) → t < x.plan.tasks → slice_index_or x.kept t false ≡ hands_out_at x.plan.plan x.program x.plan.span t
  pub has : (t : ℕ) → t < x.plan.tasks → (state_in x).status t ≡ published → IsNeeded x t
      → IsSomeAnd (tile_for x.tiles t) (λ a. IsTaskTile x.plan.plan x.plan.span x.program x.known t (arc_value a))
  pub lacks : (t : ℕ) → t < x.plan.tasks → ((state_in x).status t ≢ published) ⊎ IsNotNeeded x t → tile_for x.tiles t ≡ None
  pub enough : steps_at_most x.plan x.workers ≤ x.room
  pub overs : IsFirstNoted x.plan x.program x.known (state_in x).status x.over
