-- Operands over some places.
use Rattle.std.specs.Prelude.{◌≡◌, ℕ, ◌<◌, length, ⊤}
use Rattle.cell_values.specs.declared.cell.Cell.{Cell}
use Rattle.cell_values.specs.declared.cell.Cell.TheVariants.{Mv}
use Rattle.tile_map.specs.Cuts.{cell_at}
use Rattle.tile_map.specs.declared.arg.Arg.{Arg}
use Rattle.tile_map.specs.declared.arg.Arg.TheVariants.{Unused, One, Cells}

-- the operand's cell at each place
abbrev pub arg_cell : Arg → ℕ → Cell
arg_cell Unused = λ place. Mv
arg_cell (One cell) = λ place. cell
arg_cell (Cells cells) = cell_at cells.now

-- the operand has a cell at this place
abbrev pub HasPlace : Arg → ℕ → Type 0
HasPlace Unused place = ⊤
HasPlace (One cell) place = ⊤
HasPlace (Cells cells) place = place < length cells.now

-- the operand is one over so many places
abbrev pub SpansPlaces : Arg → ℕ → Type 0
SpansPlaces Unused places = ⊤
SpansPlaces (One cell) places = ⊤
SpansPlaces (Cells cells) places = length cells.now ≡ places
