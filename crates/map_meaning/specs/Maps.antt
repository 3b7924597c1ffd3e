-- Whole maps: the cells of a map in row-major order, and a map seen by its places.
use Rattle.std.specs.Prelude.{◌≡◌, ℕ, ◌*◌, pos, List, [], length, All, slice_index_or}
use Rattle.cell_values.specs.declared.kind.Kind.{Kind}
use Rattle.cell_values.specs.declared.cell.Cell.{Cell}
use Rattle.cell_values.specs.declared.cell.Cell.TheVariants.{Mv, Val}
use Rattle.cell_values.specs.Kinds.{IsCell}
use Rattle.cell_values.specs.Units.{million}
use Rattle.tile_map.specs.Parts.{tabulate}

-- a map: its cells in row-major order
abbrev pub WholeMap : Type 0
WholeMap = List Cell

-- a map by its places
abbrev pub CellAt : Type 0
CellAt = ℕ → Cell

-- no map: a missing value at each place
abbrev pub nowhere : CellAt
nowhere place = Mv

-- the map that has one cell at all of so many places
abbrev pub everywhere : ℕ → Cell → WholeMap
everywhere places cell = tabulate (λ place. cell) places

-- the number of a step, as a scalar
abbrev pub step_cell : ℕ → Cell
step_cell step = Val (pos (step * million))

-- the map with this number; none counts as an empty one
abbrev pub nth : List WholeMap → ℕ → WholeMap
nth maps n = slice_index_or maps n []

-- a map of so many cells that are cells of the kind
pub record IsMapOf (places : ℕ) (kind : Kind) (m : WholeMap) : Type 0 where
  pub count : length m ≡ places
  pub cells : All (IsCell kind) m
