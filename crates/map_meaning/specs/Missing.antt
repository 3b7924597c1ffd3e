-- Missing values: what an operation makes of an operand that is missing.
use Rattle.std.specs.Prelude.{ℕ, ℤ, ◌==◌, Bool, true, false, Result, Ok}
use Rattle.cell_values.specs.declared.cell.Cell.{Cell}
use Rattle.cell_values.specs.declared.cell.Cell.TheVariants.{Mv, Val}
use Rattle.cell_values.specs.declared.cell.Over.{Over}
use Rattle.map_meaning.specs.declared.op.Op.{Op}
use Rattle.map_meaning.specs.declared.op.Op.TheVariants.{IfElse, Cover, Defined, WindowTotal, WindowAverage, WindowMinimum}
use Rattle.map_meaning.specs.declared.op.Op.TheVariants.{WindowMaximum, WindowDiversity, WindowMajority, AreaTotal, AreaAverage}
use Rattle.map_meaning.specs.declared.op.Op.TheVariants.{AreaMinimum, AreaMaximum, AreaDiversity, AreaMajority, MapTotal}
use Rattle.map_meaning.specs.declared.op.Op.TheVariants.{MapMinimum, MapMaximum, Near}

-- what an operation on one number gives at a cell: a missing operand gives a missing value
abbrev pub at_cell : (ℤ → Result Cell Over) → Cell → Result Cell Over
at_cell of_number Mv = Ok Mv
at_cell of_number (Val a) = of_number a

-- The operands, by their places from 0 on, of which one that is missing gives a missing value. An operation that looks at what
-- is missing has others: `if` with two branches looks at the one that is taken, a cover passes over what is missing, and a test
-- on what is defined never is. One over a window, an area or the map passes over the values that are missing, the place's own
-- too, and one that looks a step up or down stream over the place's own value; but a missing class, and a missing direction,
-- give a missing value.
abbrev pub spreads_missing : Op → ℕ → Bool
spreads_missing IfElse i = i == 0
spreads_missing Cover i = false
spreads_missing Defined i = false
spreads_missing WindowTotal i = false
spreads_missing WindowAverage i = false
spreads_missing WindowMinimum i = false
spreads_missing WindowMaximum i = false
spreads_missing WindowDiversity i = false
spreads_missing WindowMajority i = false
spreads_missing AreaTotal i = i == 1
spreads_missing AreaAverage i = i == 1
spreads_missing AreaMinimum i = i == 1
spreads_missing AreaMaximum i = i == 1
spreads_missing AreaDiversity i = i == 1
spreads_missing AreaMajority i = i == 1
spreads_missing MapTotal i = false
spreads_missing MapMinimum i = false
spreads_missing MapMaximum i = false
spreads_missing (Near o) i = i == 0
spreads_missing _ i = true
