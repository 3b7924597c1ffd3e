-- Operands of transports.
use Rattle.std.specs.Prelude.{ℕ, pos}
use Rattle.cell_values.specs.declared.cell.Cell.{Cell}
use Rattle.cell_values.specs.declared.cell.Cell.TheVariants.{Val}
use Rattle.cell_values.specs.declared.kind.Kind.TheVariants.{Scalar}
use Rattle.cell_values.specs.Kinds.{IsCell}
use Rattle.tile_map.specs.Cuts.{cell_at}
use Rattle.tile_map.specs.declared.arg.Arg.{Arg}
use Rattle.tile_map.specs.declared.arg.Arg.TheVariants.{Unused, One, Cells}

-- the operand's cell at each place; 0 where the operation has no such operand
abbrev pub flow_operand : Arg → ℕ → Cell
flow_operand Unused = λ place. Val (pos 0)
flow_operand (One cell) = λ place. cell
flow_operand (Cells cells) = cell_at cells.now

-- each cell is missing or within the range of scalars, as the cells of every kind are
abbrev pub AreInRange : (ℕ → Cell) → Type 0
AreInRange cells = (place : ℕ) → IsCell Scalar (cells place)
