-- The windows of a map, and their values.
use Rattle.std.specs.Prelude.{ℕ, ◌/◌, ◌%◌, ℤ, List, [], ◌∷◌}
use Rattle.cell_values.specs.declared.cell.Cell.{Cell}
use Rattle.cell_values.specs.declared.cell.Cell.TheVariants.{Mv, Val}
use Rattle.tile_map.specs.declared.rect.Rect.{Rect}
use Rattle.tile_map.specs.Cuts.{cut_of}
use Rattle.tile_map.specs.Parts.{Outcome}
use Rattle.tile_map.specs.Rects.{grown}
use Rattle.region_meaning.specs.declared.window.WindowOp.{WindowOp}
use Rattle.region_meaning.specs.WindowResults.{window_result}

-- how far a window reaches at most, in rows and in columns
abbrev pub longest_reach : ℕ
longest_reach = 15

-- the rectangle of one cell
abbrev pub single : ℕ → ℕ → Rect
single row col = record { top = row; left = col; rows = 1; cols = 1 }

-- the window of a place: the cells that are at most k rows and k columns away, as far as the map goes
unfoldable pub window_of : ℕ → ℕ → ℕ → ℕ → Rect
window_of rows cols k place = grown rows cols k (single (place / cols) (place % cols))

-- the values of cells, without the missing ones
abbrev pub present_values : List Cell → List ℤ
present_values [] = []
present_values (Mv ∷ cells) = present_values cells
present_values (Val value ∷ cells) = value ∷ present_values cells

-- what an operation gives of the window of a place
unfoldable pub window_outcome : WindowOp → ℕ → ℕ → ℕ → List Cell → ℕ → Outcome
window_outcome op rows cols k cells place = window_result op (present_values (cut_of cols cells (window_of rows cols k place)))
