-- A rectangle of a drain map, seen as a map of its own. Words of private contracts.
use Rattle.std.specs.Prelude.{ℕ, ◌+◌, ◌-◌, ◌*◌, ◌/◌, ◌%◌, ◌≡◌, ◌<◌, ◌≤◌, List, length, slice_index_or, if◌then◌else◌}
use Rattle.text_base.specs.Limits.{most_cells}
use Rattle.cell_values.specs.declared.cell.Cell.{Cell}
use Rattle.cell_values.specs.declared.kind.Kind.TheVariants.{Scalar}
use Rattle.cell_values.specs.Kinds.{IsCell}
use Rattle.tile_map.specs.Cuts.{cell_at}
use Rattle.tile_map.specs.Parts.{Outcome}
use Rattle.tile_map.specs.Rects.{cell_count}
use Rattle.tile_map.specs.declared.rect.Rect.{Rect}
use Rattle.drain_meaning.specs.declared.flow.Flow.{Flow}
use Rattle.drain_meaning.specs.Drains.{DrainMap, IsDrainMap, next_at}
use Rattle.drain_meaning.specs.Flows.{flow_outcome, material, nothing}
use Rattle.drain_meaning.specs.Transports.{drains_into, where_directed}

-- a map with the size of the rectangle
abbrev pub cutout : Rect → List Cell → DrainMap
cutout around codes = record { rows = around.rows; cols = around.cols; codes = codes }

-- it is a drain map, over which each cell has a scalar
pub record IsCutout (around : Rect) (codes cells : List Cell) : Type 0 where
  pub map : IsDrainMap (cutout around codes)
  pub many : length cells ≡ length codes
  pub scalars : (number : ℕ) → IsCell Scalar (cell_at cells number)

-- the number of a cell of the inner rectangle in the one around it
unfoldable pub number_around : Rect → Rect → ℕ → ℕ
number_around around inner i = (inner.top - around.top + i / inner.cols) * around.cols + (inner.left - around.left + i % inner.cols)

-- the i-th cell of the inner rectangle has a number in the one around it
pub record HasNumber (around inner : Rect) (count i : ℕ) : Type 0 where
  pub some_cols : 0 < inner.cols
  pub line : inner.top - around.top + i / inner.cols < most_cells
  pub below : number_around around inner i < count

-- each cell of the inner rectangle has one
pub record LiesWithin (around inner : Rect) (count : ℕ) : Type 0 where
  pub top : around.top ≤ inner.top
  pub left : around.left ≤ inner.left
  pub few : cell_count inner ≤ most_cells
  pub each : (i : ℕ) → i < cell_count inner → HasNumber around inner count i

-- what the cell u gives to d: its value where it drains into d
abbrev pub fed : DrainMap → (ℕ → Cell) → ℕ → ℕ → Flow
fed m values d u = if drains_into d (next_at m u) then material (values u) else nothing

-- a flow of a list
abbrev pub flow_or_nothing : List Flow → ℕ → Flow
flow_or_nothing flows number = slice_index_or flows number nothing

-- the outcome of a flow in the inner rectangle
abbrev pub flow_within : Rect → List Cell → List Flow → Rect → ℕ → Outcome
flow_within around codes flows inner i =
    let number = number_around around inner i in
    flow_outcome Scalar (where_directed (next_at (cutout around codes) number) (flow_or_nothing flows number))
