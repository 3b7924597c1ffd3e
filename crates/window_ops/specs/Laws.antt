-- What holds of all windows.
use Rattle.std.specs.Prelude.{◌≡◌, ℕ, ◌+◌, ◌*◌, ◌/◌, ◌%◌, ◌<◌, ◌≤◌, ◌↔◌, pos, List, Ok}
use Rattle.cell_values.specs.declared.kind.Kind.TheVariants.{Scalar}
use Rattle.cell_values.specs.declared.cell.Cell.{Cell}
use Rattle.cell_values.specs.declared.cell.Cell.TheVariants.{Mv, Val}
use Rattle.cell_values.specs.Kinds.{IsCell}
use Rattle.cell_values.specs.Units.{million}
use Rattle.tile_map.specs.Cuts.{cell_at}
use Rattle.tile_map.specs.Parts.{Outcome}
use Rattle.tile_map.specs.Rects.{HoldsPlace}
use Rattle.region_meaning.specs.declared.window.WindowOp.{WindowOp}
use Rattle.region_meaning.specs.declared.window.WindowOp.TheVariants.{Diversity}
use Rattle.region_meaning.specs.Windows.{window_of, window_outcome}

-- two numbers are at most k apart
abbrev pub AreWithin : ℕ → ℕ → ℕ → Type 0
AreWithin k a b = (a ≤ b + k) × (b ≤ a + k)

-- a window holds just the places of the map whose row and column are at most k away
abbrev pub WindowsHoldWhatIsNear : Type 0
WindowsHoldWhatIsNear =
    (rows cols k place other : ℕ) → place < rows * cols → other < rows * cols →
    HoldsPlace cols (window_of rows cols k place) other
    ↔ (AreWithin k (place / cols) (other / cols) × AreWithin k (place % cols) (other % cols))

-- what an operation gives of one cell: 1 for the diversity of a value, and else the cell
abbrev pub outcome_of_one : WindowOp → Cell → Outcome
outcome_of_one op Mv = Ok Mv
outcome_of_one Diversity (Val value) = Ok (Val (pos million))
outcome_of_one op (Val value) = Ok (Val value)

-- an operation gives of a window of one cell, that of a scalar's range, what it gives of one cell
abbrev pub OneCellIsItself : Type 0
OneCellIsItself =
    (op : WindowOp) (rows cols : ℕ) (cells : List Cell) (place : ℕ) → place < rows * cols → IsCell Scalar (cell_at cells place) →
    window_outcome op rows cols 0 cells place ≡ outcome_of_one op (cell_at cells place)
