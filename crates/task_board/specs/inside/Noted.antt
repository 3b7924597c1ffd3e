-- What the tiles of tasks note of results that are out of range, and the first of these notes.
use Rattle.std.specs.Prelude.{◌≡◌, ◌⊎◌, ℕ, ◌+◌, ◌/◌, ◌%◌, ◌<◌, Option, Some, None, slice_get, IfSome}
use Rattle.core_model.specs.Cores.{Status, published}
use Rattle.tile_map.specs.Rects.{place_in}
use Rattle.tile_map.specs.Tiles.{rect_of}
use Rattle.tile_map.specs.declared.tiling.Tiling.{Tiling}
use Rattle.map_meaning.specs.declared.known.Known.{Known}
use Rattle.map_meaning.specs.declared.known.OverAt.{OverAt}
use Rattle.map_meaning.specs.declared.program.Operation.{Operation}
use Rattle.map_meaning.specs.declared.program.Program.{Program}
use Rattle.task_graph.specs.declared.task.Task.{Task}
use Rattle.task_graph.specs.Plans.{task_at}
use Rattle.plan_graph.specs.PlanGraphs.{PlanGraphValue}
use Rattle.task_tiles.specs.TaskTiles.{IsTaskTile, span_section}
use Rattle.task_tiles.specs.declared.tile.Tile.{Tile}
use Rattle.task_tiles.specs.declared.tile.Tile.TheVariants as tile

-- the note of a place of the map, of an operation at a step
abbrev pub place_note : ℕ → ℕ → Operation → ℕ → OverAt
place_note cols step o place =
    record { step = step; statement = o.statement; operation = o.number; row = place / cols + 1; col = place % cols + 1 }

-- what a part of a tile's rectangle notes: the place of the map that it has first out of range
abbrev pub part_note : Tiling → ℕ → Operation → ℕ → Option ℕ → Option OverAt
part_note g step o tile None = None
part_note g step o tile (Some number) = Some (place_note g.cols step o (place_in g.cols (rect_of g tile) number))

-- what a tile of a task notes; a partial notes nothing
abbrev pub note_by : Tiling → Task → Option Operation → Tile → Option OverAt
note_by g task None _ = None
note_by g task (Some o) (tile.Part p) = part_note g task.step o task.tile p.over
note_by g task (Some o) (tile.Partial v) = None

-- what this tile of the task with this number notes
abbrev pub tile_note : PlanGraphValue → Program → ℕ → Tile → Option OverAt
tile_note p program t tile =
    note_by p.plan.tiling (task_at p.plan t) (slice_get (span_section program p.span) (task_at p.plan t).operation) tile

-- the tile that the task is to publish notes this
pub record Notes (p : PlanGraphValue) (program : Program) (known : Known) (t : ℕ) (note : OverAt) : Type 0 where
  pub tile : Tile
  pub own : IsTaskTile p.plan p.span program known t tile
  pub is : tile_note p program t tile ≡ Some note

-- the first is of an earlier step, statement, operation, or place of the map, in this order
abbrev pub IsBefore : OverAt → OverAt → Type 0
IsBefore x y =
    (x.step < y.step) ⊎ ((x.step ≡ y.step) × ((x.statement < y.statement) ⊎ ((x.statement ≡ y.statement) ×
    ((x.operation < y.operation) ⊎ ((x.operation ≡ y.operation) × ((x.row < y.row) ⊎ ((x.row ≡ y.row) × (x.col < y.col))))))))

-- the note does not come before the one that was taken
abbrev pub IsNotBefore : OverAt → Option OverAt → Type 0
IsNotBefore note None = ⊥
IsNotBefore note (Some at) = IsBefore note at → ⊥

-- of a note that was taken and another the earlier one
abbrev pub IsEarlierOf : Option OverAt → Option OverAt → Option OverAt → Type 0
IsEarlierOf over None r = r ≡ over
IsEarlierOf None (Some note) r = r ≡ Some note
IsEarlierOf (Some at) (Some note) r = (IsBefore note at × (r ≡ Some note)) ⊎ ((IsBefore note at → ⊥) × (r ≡ Some at))

-- it is the first of what the published tasks note
pub record IsFirstNoted (p : PlanGraphValue) (program : Program) (known : Known) (status : ℕ → Status) (over : Option OverAt) : Type 0 where
  pub noted : IfSome over (λ at. (t : ℕ) × (t < p.tasks) × (status t ≡ published) × Notes p program known t at)
  pub first : (t : ℕ) (note : OverAt) → t < p.tasks → status t ≡ published → Notes p program known t note → IsNotBefore note over
