-- Where and when a model is evaluated.
use Rattle.std.specs.Prelude.{ℕ, ◌*◌, ◌==◌, ◌&&◌, List, [], ◌∷◌, slice_index_or, if◌then◌else◌}
use Rattle.cell_values.specs.declared.kind.Kind.{Kind}
use Rattle.lookup_table.specs.Form.{TableValue}
use Rattle.time_series.specs.Form.{SeriesValue}
use Rattle.map_meaning.specs.declared.known.StepMap.{StepMap}
use Rattle.tile_map.specs.Cuts.{cell_at}
use Rattle.drain_meaning.specs.Drains.{DrainMap}
use Rattle.drain_meaning.specs.Masks.{lddmask_of}
use Rattle.map_meaning.specs.Maps.{WholeMap}
use Rattle.map_meaning.specs.Rules.{Setting, no_table, no_series}

-- The size of the maps, the step, and the inputs: by their numbers the maps, the tables and the series of those that are
-- such, and by their steps and numbers the grids of stacks.
pub record Scene : Type 0 where
  pub rows : ℕ
  pub cols : ℕ
  pub step : ℕ
  pub inputs : List WholeMap
  pub tables : List TableValue
  pub series : List SeriesValue
  pub stacks : List StepMap

-- how many places a map has
abbrev pub place_count : Scene → ℕ
place_count scene = scene.rows * scene.cols

-- the map of this number at a step; none counts as an empty one
abbrev pub map_at_step : List StepMap → ℕ → ℕ → WholeMap
map_at_step [] step n = []
map_at_step (m ∷ more) step n = if (m.step == step) && (m.operation == n) then m.cells else map_at_step more step n

-- the grid of the stack that is the input with this number
abbrev pub stack_map : Scene → ℕ → WholeMap
stack_map scene n = map_at_step scene.stacks scene.step n

-- What an operation on operands of these kinds is told there: it may look its results up in the input with this number, and
-- its window may have this length.
abbrev pub setting_at : Scene → ℕ → ℕ → List Kind → Setting
setting_at scene file window kinds = record {
  kinds = kinds;
  rows = scene.rows;
  cols = scene.cols;
  step = scene.step;
  table = slice_index_or scene.tables file no_table;
  series = slice_index_or scene.series file no_series;
  window = window;
}

-- what another operation is told; neither number counts there
abbrev pub setting_in : Scene → List Kind → Setting
setting_in scene kinds = setting_at scene 0 0 kinds

-- the drain map with these codes
abbrev pub drain_in : Scene → WholeMap → DrainMap
drain_in scene codes = record { rows = scene.rows; cols = scene.cols; codes = codes }

-- the codes of the part of a drain map that a mask keeps
abbrev pub masked_map : Scene → WholeMap → WholeMap → WholeMap
masked_map scene codes mask = (lddmask_of (drain_in scene codes) (cell_at mask)).codes
