-- Which tiles a board has.
use Rattle.std.specs.Prelude.{◌≡◌, ◌≢◌, ◌⊎◌, ℕ, Bool, false, List, Option, Some, None, slice_get}
use Rattle.std.specs.Arc.{arc_value}
use Rattle.std.specs.List.{AllZip}
use Rattle.std.specs.declared.sync.Arc.{Arc}
use Rattle.std.specs.Global.{Global}
use Rattle.core_model.specs.Cores.{published}
use Rattle.core_model.specs.Graphs.{Each}
use Rattle.map_meaning.specs.declared.known.Span.{Span}
use Rattle.task_tiles.specs.TaskTiles.{span_section}
use Rattle.map_meaning.specs.declared.program.Operation.{Operation}
use Rattle.map_meaning.specs.declared.program.Program.{Program}
use Rattle.task_graph.specs.Plans.{PlanValue, task_at}
use Rattle.task_graph.specs.declared.task.Work.{Work}
use Rattle.task_graph.specs.declared.task.Work.TheVariants.{Partial, Merge}
use Rattle.plan_graph.specs.PlanGraphs.{list_at}
use Rattle.task_tiles.specs.declared.tile.Tile.{Tile}
use Rattle.task_board.specs.Boards.{BoardValue, IsTileFor, state_of}

-- the tiles are those of these tasks, in their order
abbrev pub AreTilesOf : BoardValue → List (Arc Tile Global) → List ℕ → Type 0
AreTilesOf b tiles tasks = AllZip (λ a t. IsTileFor b t (arc_value a)) tiles tasks

-- the map of the operation is handed out
abbrev pub hands_out_map : Option Operation → Bool
hands_out_map None = false
hands_out_map (Some o) = o.kept

-- the task's tile is a part of a map that is handed out: it is no partial, and its operation's map is
abbrev pub hands_out : Program → Span → Work → ℕ → Bool
hands_out program s Partial n = false
hands_out program s Merge n = false
hands_out program s _ n = hands_out_map (slice_get (span_section program s) n)

-- the same of a task by its number
abbrev pub hands_out_at : PlanValue → Program → Span → ℕ → Bool
hands_out_at plan program s t = hands_out program s (task_at plan t).work (task_at plan t).operation

-- each task that reads the task's tile is published
abbrev pub IsReadByAll : BoardValue → ℕ → Type 0
IsReadByAll b t = Each (λ r. (state_of b).status r ≡ published) (list_at b.plan.readers t)

-- the board has no tile for the task: it is not published, or each task that reads it is, and its tile is not handed out
abbrev pub HasNoTile : BoardValue → ℕ → Type 0
HasNoTile b t = ((state_of b).status t ≢ published) ⊎ (IsReadByAll b t × (hands_out_at b.plan.plan b.program b.plan.span t ≡ false))
