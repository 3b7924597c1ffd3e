-- The points along a path.
use Rattle.std.specs.Prelude.{◌≡◌, ℕ, ℤ, pos, Bool, true, false, not, List, [], ◌∷◌, map, if◌then◌else◌, Some, None}
use Rattle.std.specs.List.{filter, filter_map, list_any}
use Rattle.std.specs.Ordering.{int_eq}
use Rattle.std.specs.declared.option.Option.{Option}
use Rattle.cell_values.specs.declared.cell.Cell.{Cell}
use Rattle.cell_values.specs.declared.cell.Cell.TheVariants.{Mv, Val}
use Rattle.drain_meaning.specs.declared.flow.Flow.{Flow}
use Rattle.drain_meaning.specs.declared.flow.Flow.TheVariants as flow
use Rattle.drain_meaning.specs.Accumulation.{catchment_of}
use Rattle.drain_meaning.specs.Drains.{DrainMap}
use Rattle.drain_meaning.specs.Paths.{path_of}

-- a missing point
abbrev pub is_missing_point : Cell → Bool
is_missing_point Mv = true
is_missing_point (Val z) = false

-- the number of a point, where it has one
abbrev pub point_number : Cell → Option ℤ
point_number Mv = None
point_number (Val z) = Some z

-- the last of some numbers, 0 without any
abbrev pub last_or_zero : List ℤ → ℤ
last_or_zero [] = pos 0
last_or_zero (z ∷ []) = z
last_or_zero (z ∷ next ∷ more) = last_or_zero (next ∷ more)

-- the points that are not 0
abbrev pub nonzero : List Cell → List ℤ
nonzero points = filter (λ z. not (int_eq z (pos 0))) (filter_map point_number points)

-- the last of some points that is not 0, 0 without any, and missing where one is missing
abbrev pub last_nonzero : List Cell → Flow
last_nonzero points = if list_any is_missing_point points then flow.Mv else flow.Num (last_or_zero (nonzero points))

-- `catchment` is the last point of the path that is not 0
abbrev pub AreLastPoints : Type 0
AreLastPoints = (m : DrainMap) (points : ℕ → Cell) (c : ℕ) → catchment_of m points c ≡ last_nonzero (map points (path_of m c))
