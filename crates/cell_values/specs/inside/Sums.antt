-- Sums and differences of two cells by their numbers.
use Rattle.std.specs.Prelude.{ℤ, pos}
use Rattle.cell_values.specs.declared.cell.Cell.{Cell}
use Rattle.cell_values.specs.declared.cell.Cell.TheVariants.{Mv, Val}

-- the number of a cell, and 0 where it is missing
abbrev pub number_or_zero : Cell → ℤ
number_or_zero Mv = pos 0
number_or_zero (Val number) = number

-- the cell of a number, and a missing value where one of two cells is missing
abbrev pub where_both : Cell → Cell → ℤ → Cell
where_both Mv b number = Mv
where_both (Val x) Mv number = Mv
where_both (Val x) (Val y) number = Val number
