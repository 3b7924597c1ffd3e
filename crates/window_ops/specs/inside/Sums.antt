-- Sums with the number of their values.
use Rattle.std.specs.Prelude.{◌≡◌, ℕ, ◌+◌, ◌-◌, ◌*◌, ◌^◌, ◌<◌, ◌≤◌, ◌==◌, pos, ◌+ℤ◌, unsigned_abs}
use Rattle.std.specs.Prelude.{List, length, get_or, Ok, if◌then◌else◌}
use Rattle.text_base.specs.Limits.{most_cells}
use Rattle.cell_values.specs.declared.kind.Kind.TheVariants.{Scalar}
use Rattle.cell_values.specs.declared.cell.Cell.{Cell}
use Rattle.cell_values.specs.declared.cell.Cell.TheVariants.{Mv, Val}
use Rattle.cell_values.specs.Kinds.{cell_of_number}
use Rattle.cell_values.specs.Rounding.{nearest}
use Rattle.tile_map.specs.Cuts.{cell_at}
use Rattle.tile_map.specs.Parts.{Outcome}
use Rattle.region_meaning.specs.declared.window.WindowOp.{WindowOp}
use Rattle.region_meaning.specs.declared.window.WindowOp.TheVariants.{Total, Average}
use Rattle.window_ops.specs.declared.sum.Sum.{Sum}
use Rattle.window_ops.specs.declared.sum.Summed.{Summed}
use Rattle.window_ops.specs.declared.sum.Summed.TheVariants.{All, Mean}
use Rattle.window_ops.specs.inside.Outcomes.{longest_window, over}

-- the sum of no values
abbrev pub no_sum : Sum
no_sum = record { total = pos 0; count = 0 }

-- a cell as a sum
abbrev pub sum_of_cell : Cell → Sum
sum_of_cell Mv = no_sum
sum_of_cell (Val value) = record { total = value; count = 1 }

-- two sums as one
abbrev pub sum_join : Sum → Sum → Sum
sum_join a b = record { total = a.total +ℤ b.total; count = a.count + b.count }

-- the sum at a place of a list
abbrev pub sum_at : List Sum → ℕ → Sum
sum_at sums place = get_or sums place no_sum

-- the sum is one of so many values of 64 bits
pub record IsSmall (values : ℕ) (sum : Sum) : Type 0 where
  pub total : unsigned_abs sum.total ≤ values * 2 ^ 63
  pub count : sum.count ≤ values

-- how many values are summed at most: those of the rows of a window over all columns
abbrev pub most_summed : ℕ
most_summed = longest_window * most_cells

-- the sum of a column's cells from a row on to before another one, in a map of so many columns
abbrev pub column_sum : ℕ → List Cell → ℕ → ℕ → ℕ → Sum
column_sum cols cells col top bottom = over sum_join no_sum (λ row. sum_of_cell (cell_at cells (row * cols + col))) top (bottom - top)

-- these are the sums of the columns of a map over some rows, whose cells are values of 64 bits
pub record AreColumnSums (cells : List Cell) (cols top bottom : ℕ) (sums : List Sum) : Type 0 where
  pub size : length sums ≡ cols
  pub each : (col : ℕ) → col < cols → sum_at sums col ≡ column_sum cols cells col top bottom
  pub small : (row col : ℕ) → top ≤ row → row < bottom → col < cols → IsSmall 1 (sum_of_cell (cell_at cells (row * cols + col)))

-- what an operation gives of a sum with values
abbrev pub outcome_of_values_sum : Summed → Sum → Outcome
outcome_of_values_sum All sum = cell_of_number Scalar sum.total
outcome_of_values_sum Mean sum = cell_of_number Scalar (nearest sum.total sum.count)

-- what an operation gives of a sum
abbrev pub outcome_of_sum : Summed → Sum → Outcome
outcome_of_sum summed sum = if sum.count == 0 then Ok Mv else outcome_of_values_sum summed sum

-- the operation that gives a sum or a mean
abbrev pub sum_op_of : Summed → WindowOp
sum_op_of All = Total
sum_op_of Mean = Average
