-- Flows: numbers of any size, or missing.
use Rattle.std.specs.Prelude.{ℕ, ℤ, pos, ◌+ℤ◌, ◌≤ℤ◌, neg_ℤ, ◌*◌, ⊤, List, [], ◌∷◌, Ok}
use Rattle.cell_values.specs.declared.cell.Cell.{Cell}
use Rattle.cell_values.specs.declared.cell.Cell.TheVariants as cell
use Rattle.cell_values.specs.declared.kind.Kind.{Kind}
use Rattle.cell_values.specs.Kinds.{cell_of_number}
use Rattle.tile_map.specs.Parts.{Outcome}
use Rattle.drain_meaning.specs.declared.flow.Flow.{Flow}
use Rattle.drain_meaning.specs.declared.flow.Flow.TheVariants as flow

-- what a function of two numbers makes of two flows: missing where one is missing
abbrev pub at_flows : (ℤ → ℤ → ℤ) → Flow → Flow → Flow
at_flows of_numbers flow.Mv b = flow.Mv
at_flows of_numbers (flow.Num a) flow.Mv = flow.Mv
at_flows of_numbers (flow.Num a) (flow.Num b) = flow.Num (of_numbers a b)

-- two flows together
abbrev pub together : Flow → Flow → Flow
together = at_flows (λ a b. a +ℤ b)

-- no flow
abbrev pub nothing : Flow
nothing = flow.Num (pos 0)

-- all of these flows together
abbrev pub total_flow : List Flow → Flow
total_flow [] = nothing
total_flow (f ∷ flows) = together f (total_flow flows)

-- the number of a cell as a flow: its material, its threshold or its point
abbrev pub material : Cell → Flow
material cell.Mv = flow.Mv
material (cell.Val number) = flow.Num number

-- the cell of a kind that holds a flow, or Over where its number is out of the kind's range
abbrev pub flow_outcome : Kind → Flow → Outcome
flow_outcome kind flow.Mv = Ok cell.Mv
flow_outcome kind (flow.Num number) = cell_of_number kind number

-- a number is at most that of a load of so many cells, each of which adds twice the greatest scalar at most
abbrev pub FitsCells : ℤ → ℕ → Type 0
FitsCells number cells = (number ≤ℤ pos (cells * 18000000000000000000)) × (neg_ℤ number ≤ℤ pos (cells * 18000000000000000000))

-- a flow fits a load of so many cells
abbrev pub FlowFits : Flow → ℕ → Type 0
FlowFits flow.Mv cells = ⊤
FlowFits (flow.Num number) cells = FitsCells number cells
