-- Cells of tiles that are pasted over a map.
use Rattle.std.specs.Prelude.{◌≡◌, ℕ, List, [], ◌∷◌, length}
use Rattle.cell_values.specs.declared.cell.Cell.{Cell}
use Rattle.tile_map.specs.Cuts.{cell_at, cut_of}
use Rattle.tile_map.specs.Rects.{HoldsPlace}
use Rattle.tile_map.specs.Tiles.{rect_of}
use Rattle.tile_map.specs.declared.rect.Rect.{Rect}
use Rattle.tile_map.specs.declared.tiling.Tiling.{Tiling}

-- every place that the rectangle does not hold has the cell that it had
abbrev pub SameOutside : ℕ → Rect → List Cell → List Cell → Type 0
SameOutside cols r before after = (place : ℕ) → ¬ HoldsPlace cols r place → cell_at after place ≡ cell_at before place

-- the second map is the first one with these cells pasted over a rectangle
pub record IsPasted (cols : ℕ) (r : Rect) (part before after : List Cell) : Type 0 where
  pub inside : cut_of cols after r ≡ part
  pub outside : SameOutside cols r before after
  pub same_size : length after ≡ length before

-- the last map is the first one with a map's cuts for these tiles pasted over it, one after the other
abbrev pub IsPastedOver : Tiling → List Cell → List ℕ → List Cell → List Cell → Type 0
IsPastedOver g cells [] first last = last ≡ first
IsPastedOver g cells (tile ∷ tiles) first last =
    let r = rect_of g tile in
    (next : List Cell) × IsPasted g.cols r (cut_of g.cols cells r) first next × IsPastedOver g cells tiles next last
