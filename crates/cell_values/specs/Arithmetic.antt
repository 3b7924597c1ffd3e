-- Arithmetic on scalar cells. Scalars count millionths.
use Rattle.std.specs.Prelude.{ℤ, pos, ◌+ℤ◌, ◌-ℤ◌, ◌*ℤ◌, Ok, Result, if◌then◌else◌}
use Rattle.std.specs.Ordering.{int_eq}
use Rattle.cell_values.specs.declared.kind.Kind.TheVariants.{Scalar}
use Rattle.cell_values.specs.declared.cell.Cell.{Cell}
use Rattle.cell_values.specs.declared.cell.Cell.TheVariants.{Mv, Val}
use Rattle.cell_values.specs.declared.cell.Over.{Over}
use Rattle.cell_values.specs.Units.{million}
use Rattle.cell_values.specs.Kinds.{cell_of_number}
use Rattle.cell_values.specs.Rounding.{cut_quotient, nearest, nearest_quotient}

-- what an operation on two numbers gives at two cells: a missing operand gives a missing value
abbrev pub at_cells : (ℤ → ℤ → Result Cell Over) → Cell → Cell → Result Cell Over
at_cells of_numbers Mv b = Ok Mv
at_cells of_numbers (Val a) Mv = Ok Mv
at_cells of_numbers (Val a) (Val b) = of_numbers a b

-- what a division of two numbers gives at two cells: a divisor of 0 too gives a missing value
abbrev pub divided_cells : (ℤ → ℤ → Result Cell Over) → Cell → Cell → Result Cell Over
divided_cells of_numbers = at_cells (λ a b. if int_eq b (pos 0) then Ok Mv else of_numbers a b)

-- the sum of two scalars
abbrev pub scalar_sum : Cell → Cell → Result Cell Over
scalar_sum = at_cells (λ a b. cell_of_number Scalar (a +ℤ b))

-- the difference of two scalars
abbrev pub scalar_difference : Cell → Cell → Result Cell Over
scalar_difference = at_cells (λ a b. cell_of_number Scalar (a -ℤ b))

-- the product of two scalars, rounded to millionths
abbrev pub scalar_product : Cell → Cell → Result Cell Over
scalar_product = at_cells (λ a b. cell_of_number Scalar (nearest (a *ℤ b) million))

-- the quotient of two scalars, rounded to millionths
abbrev pub scalar_quotient : Cell → Cell → Result Cell Over
scalar_quotient = divided_cells (λ a b. cell_of_number Scalar (nearest_quotient (a *ℤ pos million) b))

-- the quotient of two scalars, cut toward zero to a whole number
abbrev pub scalar_whole_quotient : Cell → Cell → Result Cell Over
scalar_whole_quotient = divided_cells (λ a b. cell_of_number Scalar (cut_quotient a b *ℤ pos million))

-- what is left of a scalar where the other one is taken away as often as their quotient, cut toward zero, says
abbrev pub scalar_remainder : Cell → Cell → Cell
scalar_remainder Mv b = Mv
scalar_remainder (Val a) Mv = Mv
scalar_remainder (Val a) (Val b) = if int_eq b (pos 0) then Mv else Val (a -ℤ (b *ℤ cut_quotient a b))
