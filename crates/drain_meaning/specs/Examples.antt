-- Worked examples: what the definitions give on small maps that were worked out by hand.
use Rattle.std.specs.Prelude.{◌≡◌, ℕ, ◌*◌, List, [], ◌∷◌, ℤ, pos, neg_ℤ, Some, map}
use Rattle.std.specs.List.{range_with_len}
use Rattle.cell_values.specs.declared.kind.Kind.{Kind}
use Rattle.cell_values.specs.declared.kind.Kind.TheVariants.{Nominal, Scalar}
use Rattle.cell_values.specs.declared.cell.Cell.{Cell}
use Rattle.cell_values.specs.declared.cell.Cell.TheVariants.{Mv, Val}
use Rattle.tile_map.specs.Cuts.{cell_at}
use Rattle.tile_map.specs.Parts.{part_of}
use Rattle.tile_map.specs.declared.part.Part.{Part}
use Rattle.drain_meaning.specs.declared.flow.Flow.{Flow}
use Rattle.drain_meaning.specs.declared.flow.Flow.TheVariants as flow
use Rattle.drain_meaning.specs.declared.next.Next.TheVariants as next
use Rattle.drain_meaning.specs.declared.op.FlowOp.{FlowOp}
use Rattle.drain_meaning.specs.declared.op.FlowOp.TheVariants as op
use Rattle.drain_meaning.specs.declared.op.NearOp.{NearOp}
use Rattle.drain_meaning.specs.declared.op.NearOp.TheVariants.{Upstream, Downstream}
use Rattle.drain_meaning.specs.Drains.{DrainMap, next_at}
use Rattle.drain_meaning.specs.Equations.{transport_of}
use Rattle.drain_meaning.specs.Accumulation.{accuflux_of, catchment_of}
use Rattle.drain_meaning.specs.Masks.{lddmask_of}
use Rattle.drain_meaning.specs.Near.{near_outcome}
use Rattle.drain_meaning.specs.Paths.{path_of}
use Rattle.drain_meaning.specs.Transports.{transport_outcome}

-- the cells of these numbers
abbrev pub cells_of_numbers : List ℕ → List Cell
cells_of_numbers numbers = map (λ n. Val (pos n)) numbers

-- so many whole scalars
abbrev pub whole_scalars : List ℕ → List Cell
whole_scalars numbers = map (λ n. Val (pos (n * 1000000))) numbers

-- a drain map of one row with these codes
abbrev pub in_a_row : ℕ → List Cell → DrainMap
in_a_row cols codes = record { rows = 1; cols = cols; codes = codes }

-- a map of one row that drains to the east, over four cells
abbrev pub eastward : DrainMap
eastward = in_a_row 4 (cells_of_numbers (6 ∷ 6 ∷ 6 ∷ 5 ∷ []))

-- a scalar of one at each cell
abbrev pub ones : List Cell
ones = whole_scalars (1 ∷ 1 ∷ 1 ∷ 1 ∷ 1 ∷ 1 ∷ 1 ∷ 1 ∷ [])

-- a map of one row that drains to the east, over three cells
abbrev pub short_eastward : DrainMap
short_eastward = in_a_row 3 (cells_of_numbers (6 ∷ 6 ∷ 5 ∷ []))

-- a map of nine cells with this code in its middle
abbrev pub around : ℕ → DrainMap
around code = record { rows = 3; cols = 3; codes = cells_of_numbers (5 ∷ 5 ∷ 5 ∷ 5 ∷ code ∷ []) }

-- the mask of all of four cells but the third
abbrev pub without_third : List Cell
without_third = cells_of_numbers (1 ∷ 1 ∷ 0 ∷ 1 ∷ [])

-- ones, and a missing value at the second of four cells
abbrev pub missing_second : List Cell
missing_second = Val (pos 1) ∷ Mv ∷ Val (pos 1) ∷ Val (pos 1) ∷ []

-- two points, and two cells without one
abbrev pub points : List Cell
points = cells_of_numbers (1 ∷ 3 ∷ 0 ∷ 0 ∷ [])

-- the greatest scalar
abbrev pub most : ℤ
most = pos 9000000000000000000

-- what the soils of three cells take up
abbrev pub soils : List Cell
soils = Val (pos 500000) ∷ Val (pos 2000000) ∷ Val (pos 500000) ∷ []

-- a map of two rows
abbrev pub winding : DrainMap
winding = record { rows = 2; cols = 4; codes = cells_of_numbers (6 ∷ 6 ∷ 2 ∷ 4 ∷ 5 ∷ 4 ∷ 4 ∷ 4 ∷ []) }

-- what a transport gives on a drain map of so many cells
abbrev pub carried : FlowOp → Kind → DrainMap → ℕ → List Cell → List Cell → Part
carried o kind m places a b = part_of (transport_outcome (transport_of o) kind m (cell_at a) (cell_at b)) places

-- what a step up or down stream gives
abbrev pub stepped : NearOp → DrainMap → ℕ → List Cell → List Cell
stepped o m places values = (part_of (near_outcome o m (cell_at values)) places).cells

-- a flow of so much
abbrev pub flow_of_number : ℕ → Flow
flow_of_number n = flow.Num (pos n)

-- where the cells drain to, and their paths, on these maps
pub record MapExamples : Type 0 where
  -- the eight neighbours of the cell in the middle of nine, and a pit
  pub keypad : map (λ code. next_at (around code) 4) (range_with_len 1 9)
      ≡ next.Cell 6 ∷ next.Cell 7 ∷ next.Cell 8 ∷ next.Cell 3 ∷ next.Pit ∷ next.Cell 5 ∷ next.Cell 0 ∷ next.Cell 1 ∷ next.Cell 2 ∷ []
  -- directions out of a map of one cell
  pub outside : map (λ code. next_at (in_a_row 1 (cells_of_numbers (code ∷ []))) 0) (range_with_len 1 4)
      ≡ next.Outside ∷ next.Outside ∷ next.Outside ∷ next.Outside ∷ []
  -- the west of the second row is not the east of the first
  pub border : next_at winding 4 ≡ next.Pit
  pub path : path_of winding 0 ≡ 0 ∷ 1 ∷ 2 ∷ 6 ∷ 5 ∷ 4 ∷ []
  -- a direction is kept, one into a cell that is not kept ends in a pit
  pub mask : (lddmask_of eastward (cell_at without_third)).codes ≡ Val (pos 6) ∷ Val (pos 5) ∷ Mv ∷ Val (pos 5) ∷ []
  -- a missing mask keeps nothing
  pub mask_missing : (lddmask_of eastward (cell_at missing_second)).codes ≡ Val (pos 5) ∷ Mv ∷ Val (pos 6) ∷ Val (pos 5) ∷ []

-- what transports, and steps up and down stream, give
pub record TransportExamples : Type 0 where
  pub accuflux : (carried op.Accuflux Scalar eastward 4 ones []).cells ≡ whole_scalars (1 ∷ 2 ∷ 3 ∷ 4 ∷ [])
  pub joined : (carried op.Accuflux Scalar winding 8 ones []).cells
      ≡ whole_scalars (1 ∷ 2 ∷ 4 ∷ 1 ∷ 8 ∷ 7 ∷ 6 ∷ 1 ∷ [])
  -- the same by the paths that hold a cell
  pub by_paths : map (accuflux_of winding (λ q. Val (pos 1))) (range_with_len 0 8)
      ≡ map flow_of_number (1 ∷ 2 ∷ 4 ∷ 1 ∷ 8 ∷ 7 ∷ 6 ∷ 1 ∷ [])
  -- a missing material makes all cells down the path missing
  pub missing : (carried op.Accuflux Scalar eastward 4 missing_second []).cells
      ≡ Val (pos 1) ∷ Mv ∷ Mv ∷ Mv ∷ []
  -- the sum is judged at each cell: the second is out of range, and the third is not
  pub over : carried op.Accuflux Scalar short_eastward 3
      (Val most ∷ Val most ∷ Val (neg_ℤ most) ∷ []) []
      ≡ record { cells = Val most ∷ Mv ∷ Val most ∷ []; over = Some 1 }
  pub flux : (carried op.ThresholdFlux Scalar eastward 4 (whole_scalars (3 ∷ 0 ∷ 0 ∷ 0 ∷ [])) ones).cells
      ≡ whole_scalars (2 ∷ 1 ∷ 0 ∷ 0 ∷ [])
  pub state : (carried op.ThresholdState Scalar eastward 4 (whole_scalars (3 ∷ 0 ∷ 0 ∷ 0 ∷ [])) ones).cells
      ≡ whole_scalars (1 ∷ 1 ∷ 1 ∷ 0 ∷ [])
  -- a missing threshold makes the cell and all cells down the path missing
  pub flux_missing : (carried op.ThresholdFlux Scalar eastward 4 (whole_scalars (3 ∷ 0 ∷ 0 ∷ 0 ∷ [])) missing_second).cells
      ≡ Val (pos 2999999) ∷ Mv ∷ Mv ∷ Mv ∷ []
  pub state_missing : (carried op.ThresholdState Scalar eastward 4 (whole_scalars (3 ∷ 0 ∷ 0 ∷ 0 ∷ [])) missing_second).cells
      ≡ Val (pos 1) ∷ Mv ∷ Mv ∷ Mv ∷ []
  -- runoff of rain over soils of two infiltrations
  pub runoff : (carried op.ThresholdFlux Scalar short_eastward 3 (whole_scalars (2 ∷ 2 ∷ 2 ∷ []))
      soils).cells ≡ Val (pos 1500000) ∷ Val (pos 1500000) ∷ Val (pos 3000000) ∷ []
  pub less_runoff : (carried op.ThresholdFlux Scalar short_eastward 3 (whole_scalars (1 ∷ 1 ∷ 1 ∷ []))
      soils).cells ≡ Val (pos 500000) ∷ Val (pos 0) ∷ Val (pos 500000) ∷ []
  pub catchment : (carried op.Catchment Nominal eastward 4 points []).cells ≡ cells_of_numbers (3 ∷ 3 ∷ 0 ∷ 0 ∷ [])
  pub farthest : map (catchment_of eastward (cell_at points)) (range_with_len 0 4) ≡ map flow_of_number (3 ∷ 3 ∷ 0 ∷ 0 ∷ [])
  pub upstream : stepped Upstream eastward 4 (whole_scalars (1 ∷ 2 ∷ 3 ∷ 4 ∷ [])) ≡ whole_scalars (0 ∷ 1 ∷ 2 ∷ 3 ∷ [])
  pub downstream : stepped Downstream eastward 4 (whole_scalars (1 ∷ 2 ∷ 3 ∷ 4 ∷ [])) ≡ whole_scalars (2 ∷ 3 ∷ 4 ∷ 4 ∷ [])
  -- over the masked map
  pub masked : (carried op.Accuflux Scalar (lddmask_of eastward (cell_at without_third)) 4 ones []).cells
      ≡ Val (pos 1000000) ∷ Val (pos 2000000) ∷ Mv ∷ Val (pos 1000000) ∷ []
