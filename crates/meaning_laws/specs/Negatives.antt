-- Worked examples of transports with numbers below 0.
use Rattle.std.specs.Prelude.{◌≡◌, List, [], ◌∷◌, ℤ, pos, neg_ℤ, ◌*ℤ◌, map}
use Rattle.cell_values.specs.declared.kind.Kind.TheVariants.{Nominal, Scalar}
use Rattle.cell_values.specs.declared.cell.Cell.{Cell}
use Rattle.cell_values.specs.declared.cell.Cell.TheVariants.{Val}
use Rattle.drain_meaning.specs.declared.op.FlowOp.TheVariants as op
use Rattle.drain_meaning.specs.Examples.{carried, eastward}

-- the cells of these numbers
abbrev pub cells : List ℤ → List Cell
cells numbers = map Val numbers

-- so many whole scalars
abbrev pub scalars : List ℤ → List Cell
scalars numbers = map (λ z. Val (z *ℤ pos 1000000)) numbers

-- a threshold below 0, and three of one
abbrev pub low_thresholds : List ℤ
low_thresholds = neg_ℤ (pos 1) ∷ pos 1 ∷ pos 1 ∷ pos 1 ∷ []

-- Over four cells that drain to the east: a point, a material and a threshold below 0.
pub record TransportsBelowZero : Type 0 where
  pub point : (carried op.Catchment Nominal eastward 4 (cells (pos 5 ∷ neg_ℤ (pos 2) ∷ pos 0 ∷ pos 0 ∷ [])) []).cells
      ≡ cells (neg_ℤ (pos 2) ∷ neg_ℤ (pos 2) ∷ pos 0 ∷ pos 0 ∷ [])
  pub material : (carried op.Accuflux Scalar eastward 4 (scalars (pos 1 ∷ neg_ℤ (pos 3) ∷ pos 1 ∷ pos 1 ∷ [])) []).cells
      ≡ scalars (pos 1 ∷ neg_ℤ (pos 2) ∷ neg_ℤ (pos 1) ∷ pos 0 ∷ [])
  pub flux : (carried op.ThresholdFlux Scalar eastward 4 (scalars (pos 3 ∷ pos 0 ∷ pos 0 ∷ pos 0 ∷ [])) (scalars low_thresholds)).cells
      ≡ scalars (pos 4 ∷ pos 3 ∷ pos 2 ∷ pos 1 ∷ [])
  pub state : (carried op.ThresholdState Scalar eastward 4 (scalars (pos 3 ∷ pos 0 ∷ pos 0 ∷ pos 0 ∷ [])) (scalars low_thresholds)).cells
      ≡ scalars (neg_ℤ (pos 1) ∷ pos 1 ∷ pos 1 ∷ pos 1 ∷ [])
