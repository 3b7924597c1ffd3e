-- What holds of all areas.
use Rattle.std.specs.Prelude.{◌≡◌, ℕ, ℤ, List}
use Rattle.std.specs.List.{filter_map}
use Rattle.std.specs.List.Sorted.{IsPermutation}
use Rattle.cell_values.specs.declared.cell.Cell.{Cell}
use Rattle.cell_values.specs.declared.cell.Cell.TheVariants.{Val}
use Rattle.tile_map.specs.declared.arg.Arg.{Arg}
use Rattle.tile_map.specs.declared.arg.Arg.TheVariants.{One}
use Rattle.tile_map.specs.Args.{arg_cell}
use Rattle.tile_map.specs.Parts.{tabulate}
use Rattle.region_meaning.specs.declared.area.AreaOp.{AreaOp}
use Rattle.region_meaning.specs.Areas.{AreaPlace, area_places, numbers_of, taken}
use Rattle.area_ops.specs.Partials.{PartialValue, StandsFor}
use Rattle.region_meaning.specs.AreaResults.{area_outcome}

-- the same places in another order give each class the same outcome, and a partial that stands for them stands for them so
abbrev pub OrderDoesNotMatter : Type 0
OrderDoesNotMatter =
    (xs ys : List AreaPlace) → IsPermutation xs ys →
    ((op : AreaOp) (class : Cell) → area_outcome op xs class ≡ area_outcome op ys class)
    × ((partial : PartialValue) → StandsFor partial xs → StandsFor partial ys)

-- where each place has the same class, its numbers are what the operation takes from all cells: a map is one area
abbrev pub MapIsOneArea : Type 0
MapIsOneArea =
    (op : AreaOp) (values : Arg) (class : ℤ) (places : ℕ) →
    numbers_of op (area_places values (One (Val class)) places) class ≡ filter_map (taken op) (tabulate (arg_cell values) places)
