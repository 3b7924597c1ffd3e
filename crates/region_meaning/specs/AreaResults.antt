-- The results of area operations. Scalars count millionths.
use Rattle.std.specs.Prelude.{ℤ, pos, ◌*ℤ◌, ◌*◌, List, [], ◌∷◌, length, Ok}
use Rattle.cell_values.specs.declared.kind.Kind.TheVariants.{Scalar}
use Rattle.cell_values.specs.declared.cell.Cell.{Cell}
use Rattle.cell_values.specs.declared.cell.Cell.TheVariants.{Mv, Val}
use Rattle.cell_values.specs.Kinds.{cell_of_number}
use Rattle.cell_values.specs.Units.{million}
use Rattle.tile_map.specs.Parts.{Outcome}
use Rattle.region_meaning.specs.declared.area.AreaOp.{AreaOp}
use Rattle.region_meaning.specs.declared.area.AreaOp.TheVariants.{Total, Average, Minimum, Maximum, Diversity, Majority, Area}
use Rattle.region_meaning.specs.Areas.{AreaPlace, numbers_of}
use Rattle.region_meaning.specs.Numbers.{average_of, diversity_of, greatest_of, least_of, total_of}
use Rattle.region_meaning.specs.inside.MostFrequent.{most_frequent}

-- what an operation gives of the numbers of an area: a missing value where there is none
unfoldable pub area_result : AreaOp → List ℤ → Outcome
area_result op [] = Ok Mv
area_result Total (x ∷ xs) = cell_of_number Scalar (total_of (x ∷ xs))
area_result Average (x ∷ xs) = cell_of_number Scalar (average_of (x ∷ xs))
area_result Minimum (x ∷ xs) = Ok (Val (least_of x xs))
area_result Maximum (x ∷ xs) = Ok (Val (greatest_of x xs))
area_result Diversity (x ∷ xs) = cell_of_number Scalar (pos (diversity_of (x ∷ xs) * million))
area_result Majority (x ∷ xs) = Ok (Val (most_frequent (x ∷ xs) x))
area_result Area (x ∷ xs) = Ok (Val (pos (length (x ∷ xs)) *ℤ pos million))

-- the outcome at a place of a class, by the places that the areas are made of: a missing value where the class is missing
abbrev pub area_outcome : AreaOp → List AreaPlace → Cell → Outcome
area_outcome op places Mv = Ok Mv
area_outcome op places (Val class) = area_result op (numbers_of op places class)
