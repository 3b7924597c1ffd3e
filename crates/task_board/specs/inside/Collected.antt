-- What a finished board hands out, step by step.
use Rattle.std.specs.Prelude.{◌≡◌, ℕ, zero, suc, ◌+◌, ◌-◌, ◌*◌, ◌<◌, List, [], ◌∷◌, ◌++◌, length, take}
use Rattle.std.specs.Prelude.{Option, Some, None, slice_get, if◌then◌else◌, true}
use Rattle.std.specs.Arc.{arc_value}
use Rattle.std.specs.declared.sync.Arc.{Arc}
use Rattle.std.specs.Global.{Global}
use Rattle.cell_values.specs.declared.cell.Cell.{Cell}
use Rattle.tile_map.specs.Cuts.{cut_of}
use Rattle.tile_map.specs.Tiles.{rect_of, tile_count}
use Rattle.tile_map.specs.declared.tiling.Tiling.{Tiling}
use Rattle.map_meaning.specs.declared.known.Known.{Known}
use Rattle.map_meaning.specs.declared.known.OverAt.{OverAt}
use Rattle.map_meaning.specs.declared.known.Span.{Span}
use Rattle.map_meaning.specs.declared.known.Span.TheVariants as span
use Rattle.map_meaning.specs.declared.known.StepMap.{StepMap}
use Rattle.map_meaning.specs.declared.program.Operation.{Operation}
use Rattle.map_meaning.specs.declared.program.Program.{Program}
use Rattle.map_meaning.specs.Evaluation.{section_maps}
use Rattle.map_meaning.specs.Maps.{WholeMap, nth}
use Rattle.map_meaning.specs.Spans.{first_operation, kept_maps, span_operations}
use Rattle.task_graph.specs.Classes.{before_value, op_class}
use Rattle.task_graph.specs.Counts.{tasks_of}
use Rattle.task_tiles.specs.TaskTiles.{onward_done}
use Rattle.task_tiles.specs.declared.tile.Tile.{Tile}
use Rattle.task_tiles.specs.declared.tile.Tile.TheVariants as tile
use Rattle.task_board.specs.inside.Held.{tile_for}

-- the first step of a span; 0 for `initial`
abbrev pub span_begin : Span → ℕ
span_begin (span.Initial first end) = 0
span_begin (span.Steps first last) = first

-- how many steps a span has
abbrev pub step_count : Span → ℕ
step_count (span.Initial first end) = 1
step_count (span.Steps first last) = last + 1 - first

-- how many of them come before the one of an Over; all, where there is none
abbrev pub steps_told : Span → Option OverAt → ℕ
steps_told s None = step_count s
steps_told s (Some at) = at.step - span_begin s

-- the kept maps of the first so many steps of a span
abbrev pub first_maps : Program → Span → Known → ℕ → List StepMap
first_maps program s known zero = []
first_maps program s known (suc n) =
    first_maps program s known n
    ++ kept_maps (span_begin s + n) (section_maps s (onward_done program s known (span_begin s + n))) (first_operation s)
    (span_operations program s)

-- the maps with that of an operation behind them, where it is kept
abbrev pub with_kept_map : ℕ → ℕ → Operation → WholeMap → List StepMap → List StepMap
with_kept_map step number o m maps = if o.kept then maps ++ record { step = step; operation = number; cells = m } ∷ [] else maps

-- ---- tiles

-- the cells of a tile; a partial has none
abbrev pub cells_by : Tile → List Cell
cells_by (tile.Part p) = p.cells
cells_by (tile.Partial v) = []

-- the cells of a tile, if it is there
abbrev pub held_cells : Option (Arc Tile Global) → List Cell
held_cells None = []
held_cells (Some a) = cells_by (arc_value a)

-- the tiles from this task on are those of the map
pub record AreTilesOfMap (g : Tiling) (tiles : List (Option (Arc Tile Global))) (first : ℕ) (m : WholeMap) : Type 0 where
  pub size : length m ≡ g.rows * g.cols
  pub within : first + tile_count g < 2305843009213693952
  pub there : (n : ℕ) → n < tile_count g →
      (first + n < length tiles) × (held_cells (tile_for tiles (first + n)) ≡ cut_of g.cols m (rect_of g n))

-- the tiles of each kept operation, whose tasks begin at start, are those of its map
abbrev pub HaveTiles : Tiling → List (Option (Arc Tile Global)) → ℕ → ℕ → List WholeMap → List Operation → Type 0
HaveTiles g tiles start number maps operations =
    (k : ℕ) (o : Operation) → slice_get operations k ≡ Some o → o.kept ≡ true →
    AreTilesOfMap g tiles (start + tasks_of (tile_count g) (take k operations) + before_value (tile_count g) (op_class o.op))
    (nth maps (number + k))
