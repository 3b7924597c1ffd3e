-- A rectangle of a map, and the cells around it.
use Rattle.std.specs.Prelude.{◌≡◌, ℕ, ◌+◌, ◌≤◌, List}
use Rattle.cell_values.specs.declared.cell.Cell.{Cell}
use Rattle.tile_map.specs.declared.rect.Rect.{Rect}
use Rattle.tile_map.specs.Cuts.{cut_of}
use Rattle.tile_map.specs.Rects.{IsInMap, grown}

-- the first rectangle lies in the second one
pub record IsInside (inner around : Rect) : Type 0 where
  pub top : around.top ≤ inner.top
  pub bottom : inner.top + inner.rows ≤ around.top + around.rows
  pub left : around.left ≤ inner.left
  pub right : inner.left + inner.cols ≤ around.left + around.cols

-- These are a map's cells around a rectangle: those of a rectangle of the map that contains the first one, grown by k on each
-- side and cut at the map's border.
pub record AreAround (rows cols k : ℕ) (map cells : List Cell) (inner around : Rect) : Type 0 where
  pub inner_in : IsInMap rows cols inner
  pub around_in : IsInMap rows cols around
  pub reach : IsInside (grown rows cols k inner) around
  pub cells_are : cells ≡ cut_of cols map around
