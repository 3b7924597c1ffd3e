-- The numbers of an area: what an operation takes from the places of one class.
use Rattle.std.specs.Prelude.{ℕ, ℤ, pos, List, Option, Some, None, if◌then◌else◌}
use Rattle.std.specs.List.{filter_map}
use Rattle.std.specs.Ordering.{int_eq}
use Rattle.cell_values.specs.declared.cell.Cell.{Cell}
use Rattle.cell_values.specs.declared.cell.Cell.TheVariants.{Mv, Val}
use Rattle.tile_map.specs.declared.arg.Arg.{Arg}
use Rattle.tile_map.specs.Args.{arg_cell}
use Rattle.tile_map.specs.Parts.{tabulate}
use Rattle.region_meaning.specs.declared.area.AreaOp.{AreaOp}
use Rattle.region_meaning.specs.declared.area.AreaOp.TheVariants.{Area}

-- a place as an area operation sees it: the cell of its value, and that of its class
pub record AreaPlace : Type 0 where
  pub value : Cell
  pub area : Cell

-- the places of two operands over so many places
abbrev pub area_places : Arg → Arg → ℕ → List AreaPlace
area_places values classes places = tabulate (λ place. record { value = arg_cell values place; area = arg_cell classes place }) places

-- What an operation takes from a value: its number, and nothing where it is missing. The number of cells takes each, as 0.
abbrev pub taken : AreaOp → Cell → Option ℤ
taken Area cell = Some (pos 0)
taken op Mv = None
taken op (Val number) = Some number

-- what an operation takes from a value for a class, by the cell of the value's own class
abbrev pub taken_by_class : AreaOp → ℤ → Cell → Cell → Option ℤ
taken_by_class op class value Mv = None
taken_by_class op class value (Val own) = if int_eq own class then taken op value else None

-- the numbers of a class: what the operation takes from its places, in their order
abbrev pub numbers_of : AreaOp → List AreaPlace → ℤ → List ℤ
numbers_of op places class = filter_map (λ p. taken_by_class op class p.value p.area) places
