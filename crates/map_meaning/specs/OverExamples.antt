-- Worked examples: each operation that may leave the range of its kind does so of some operands.
use Rattle.std.specs.Prelude.{◌≡◌, ℕ, List, [], ◌∷◌, pos, neg_ℤ, map, Option, Some, None}
use Rattle.cell_values.specs.declared.kind.Kind.{Kind}
use Rattle.cell_values.specs.declared.kind.Kind.TheVariants.{Nominal, Scalar, Ldd}
use Rattle.cell_values.specs.declared.cell.Cell.{Cell}
use Rattle.cell_values.specs.declared.cell.Cell.TheVariants.{Val}
use Rattle.tile_map.specs.Cuts.{cell_at}
use Rattle.tile_map.specs.Parts.{part_of}
use Rattle.drain_meaning.specs.declared.op.FlowOp.TheVariants as flow
use Rattle.drain_meaning.specs.declared.op.NearOp.TheVariants as near
use Rattle.drain_meaning.specs.Examples.{cells_of_numbers, whole_scalars}
use Rattle.map_meaning.specs.declared.op.Op.{Op}
use Rattle.map_meaning.specs.declared.op.Op.TheVariants as op
use Rattle.map_meaning.specs.Examples.{too_much}
use Rattle.map_meaning.specs.PlaceExamples.{told_in_a_row}
use Rattle.map_meaning.specs.Rules.{outcome_of}

-- the first place that is Over, over maps of one row of three columns
abbrev pub first_over_in_a_row : Op → List Kind → List (List Cell) → Option ℕ
first_over_in_a_row o kinds maps = (part_of (outcome_of o (told_in_a_row kinds 3 3) (map cell_at maps)) 3).over

-- the least scalar
abbrev pub least_scalar : Cell
least_scalar = Val (neg_ℤ (pos 9000000000000000000))

-- the greatest scalar three times
abbrev pub three_greatest : List Cell
three_greatest = too_much ∷ too_much ∷ too_much ∷ []

-- the least scalar three times
abbrev pub three_least : List Cell
three_least = least_scalar ∷ least_scalar ∷ least_scalar ∷ []

-- 1, the greatest scalar and the least one, which together are 1
abbrev pub coming_back : List Cell
coming_back = Val (pos 1000000) ∷ too_much ∷ least_scalar ∷ []

-- a half three times
abbrev pub three_halves : List Cell
three_halves = Val (pos 500000) ∷ Val (pos 500000) ∷ Val (pos 500000) ∷ []

-- one class
abbrev pub one_class : List Cell
one_class = cells_of_numbers (1 ∷ 1 ∷ 1 ∷ [])

-- to the east, over three cells
abbrev pub three_eastward : List Cell
three_eastward = cells_of_numbers (6 ∷ 6 ∷ 5 ∷ [])

-- where operations are Over
pub record OverExamples : Type 0 where
  pub sum : first_over_in_a_row op.Add (Scalar ∷ Scalar ∷ []) (three_greatest ∷ whole_scalars (0 ∷ 1 ∷ 1 ∷ []) ∷ []) ≡ Some 1
  pub difference : first_over_in_a_row op.Sub (Scalar ∷ Scalar ∷ []) (whole_scalars (0 ∷ 1 ∷ 1 ∷ []) ∷ three_least ∷ []) ≡ Some 1
  pub product : first_over_in_a_row op.Mul (Scalar ∷ Scalar ∷ []) (three_greatest ∷ whole_scalars (1 ∷ 1 ∷ 2 ∷ []) ∷ []) ≡ Some 2
  pub quotient : first_over_in_a_row op.Div (Scalar ∷ Scalar ∷ []) (three_greatest ∷ three_halves ∷ []) ≡ Some 0
  pub whole_quotient : first_over_in_a_row op.IntDiv (Scalar ∷ Scalar ∷ []) (three_greatest ∷ three_halves ∷ []) ≡ Some 0
  pub nominal : first_over_in_a_row op.ToNominal (Scalar ∷ []) (whole_scalars (0 ∷ 2147483647 ∷ 2147483648 ∷ []) ∷ []) ≡ Some 2
  pub ordinal : first_over_in_a_row op.ToOrdinal (Scalar ∷ []) (whole_scalars (0 ∷ 2147483647 ∷ 2147483648 ∷ []) ∷ []) ≡ Some 2
  -- sums are judged when they are whole
  pub window_total : first_over_in_a_row op.WindowTotal (Scalar ∷ []) (coming_back ∷ []) ≡ Some 0
  pub area_total : first_over_in_a_row op.AreaTotal (Scalar ∷ Nominal ∷ []) (three_greatest ∷ one_class ∷ []) ≡ Some 0
  pub area_back : first_over_in_a_row op.AreaTotal (Scalar ∷ Nominal ∷ []) (coming_back ∷ one_class ∷ []) ≡ None
  pub map_total : first_over_in_a_row op.MapTotal (Scalar ∷ []) (three_greatest ∷ []) ≡ Some 0
  pub map_back : first_over_in_a_row op.MapTotal (Scalar ∷ []) (coming_back ∷ []) ≡ None
  pub upstream : first_over_in_a_row (op.Near near.Upstream) (Ldd ∷ Scalar ∷ []) (cells_of_numbers (6 ∷ 5 ∷ 4 ∷ []) ∷ three_greatest ∷ [])
      ≡ Some 1
  -- a sum that comes back into the range further down is Over where it is out
  pub accuflux : first_over_in_a_row (op.Flow flow.Accuflux) (Ldd ∷ Scalar ∷ []) (three_eastward ∷ coming_back ∷ []) ≡ Some 1
  -- below a threshold that is negative more flows out than is there
  pub flux : first_over_in_a_row (op.Flow flow.ThresholdFlux) (Ldd ∷ Scalar ∷ Scalar ∷ [])
      (three_eastward ∷ three_greatest ∷ three_least ∷ [])
      ≡ Some 0
