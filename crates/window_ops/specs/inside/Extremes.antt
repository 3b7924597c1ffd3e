-- Least and greatest cells.
use Rattle.std.specs.Prelude.{ℤ}
use Rattle.std.specs.Int.{int_max, int_min}
use Rattle.cell_values.specs.declared.cell.Cell.{Cell}
use Rattle.cell_values.specs.declared.cell.Cell.TheVariants.{Mv, Val}
use Rattle.region_meaning.specs.declared.window.WindowOp.{WindowOp}
use Rattle.region_meaning.specs.declared.window.WindowOp.TheVariants.{Minimum, Maximum}
use Rattle.window_ops.specs.declared.extremes.Extreme.{Extreme}
use Rattle.window_ops.specs.declared.extremes.Extreme.TheVariants.{Least, Greatest}

-- the extreme one of two values
abbrev pub extreme_value : Extreme → ℤ → ℤ → ℤ
extreme_value Least a b = int_min a b
extreme_value Greatest a b = int_max a b

-- the extreme one of two cells, of which a missing one does not count
abbrev pub extreme_cell : Extreme → Cell → Cell → Cell
extreme_cell extreme Mv b = b
extreme_cell extreme (Val a) Mv = Val a
extreme_cell extreme (Val a) (Val b) = Val (extreme_value extreme a b)

-- the operation that gives an extreme
abbrev pub extreme_op : Extreme → WindowOp
extreme_op Least = Minimum
extreme_op Greatest = Maximum
