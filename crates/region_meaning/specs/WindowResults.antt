-- What an operation gives of the values of a window. Scalars count millionths.
use Rattle.std.specs.Prelude.{◌*◌, ℤ, pos, List, [], ◌∷◌, Ok}
use Rattle.cell_values.specs.declared.kind.Kind.TheVariants.{Scalar}
use Rattle.cell_values.specs.declared.cell.Cell.TheVariants.{Mv, Val}
use Rattle.cell_values.specs.Kinds.{cell_of_number}
use Rattle.cell_values.specs.Units.{million}
use Rattle.tile_map.specs.Parts.{Outcome}
use Rattle.region_meaning.specs.declared.window.WindowOp.{WindowOp}
use Rattle.region_meaning.specs.declared.window.WindowOp.TheVariants.{Total, Average, Minimum, Maximum, Diversity, Majority}
use Rattle.region_meaning.specs.Numbers.{average_of, diversity_of, greatest_of, least_of, total_of}
use Rattle.region_meaning.specs.inside.MostFrequent.{most_frequent}

-- what an operation gives of the values of a window: a missing value where there is none
abbrev pub window_result : WindowOp → List ℤ → Outcome
window_result op [] = Ok Mv
window_result Total (x ∷ xs) = cell_of_number Scalar (total_of (x ∷ xs))
window_result Average (x ∷ xs) = cell_of_number Scalar (average_of (x ∷ xs))
window_result Minimum (x ∷ xs) = Ok (Val (least_of x xs))
window_result Maximum (x ∷ xs) = Ok (Val (greatest_of x xs))
window_result Diversity (x ∷ xs) = cell_of_number Scalar (pos (diversity_of (x ∷ xs) * million))
window_result Majority (x ∷ xs) = Ok (Val (most_frequent (x ∷ xs) x))
