-- What holds of all rectangles, tiles, cuts and parts.
use Rattle.std.specs.Prelude.{◌≡◌, ℕ, ◌<◌, ◌*◌, List, length, get_or, ◌↔◌}
use Rattle.std.specs.List.{Contains}
use Rattle.cell_values.specs.declared.cell.Cell.{Cell}
use Rattle.tile_map.specs.Cuts.{cut_of, gathered}
use Rattle.tile_map.specs.Parts.{IsPart, Outcome, part_of}
use Rattle.tile_map.specs.Pastes.{IsPastedOver}
use Rattle.tile_map.specs.Rects.{HasCells, Holds, HoldsPlace, IsInMap, IsNear, cell_count, grown, number_in, places_of}
use Rattle.tile_map.specs.Tiles.{EachMet, Intersects, rect_of, tile_count}
use Rattle.tile_map.specs.inside.Met.{tiles_of}
use Rattle.tile_map.specs.declared.part.Part.{Part}
use Rattle.tile_map.specs.declared.rect.Rect.{Rect}
use Rattle.tile_map.specs.declared.tiling.Tiling.{Tiling}

-- the list has these items, and ascends
pub record AscendsOver (items : List ℕ) (IsItem : ℕ → Type 0) : Type 0 where
  pub ascends : (i j : ℕ) → i < j → j < length items → get_or items i 0 < get_or items j 0
  pub only : (i : ℕ) → i < length items → IsItem (get_or items i 0)
  pub each : (item : ℕ) → IsItem item → Contains items item

-- a place of the map that the rectangle holds
abbrev pub IsHeldPlace : ℕ → ℕ → Rect → ℕ → Type 0
IsHeldPlace rows cols r place = (place < rows * cols) × HoldsPlace cols r place

-- a place stands in the list of a rectangle's places under its number
pub record StandsAt (cols : ℕ) (r : Rect) (place number : ℕ) : Type 0 where
  pub below : number < cell_count r
  pub there : get_or (places_of cols r) number 0 ≡ place

-- a rectangle of a map lists just the places that it holds, in ascending order, each under its number
abbrev pub ListTheirPlaces : Type 0
ListTheirPlaces =
    (rows cols : ℕ) (r : Rect) → IsInMap rows cols r →
    (length (places_of cols r) ≡ cell_count r)
    × AscendsOver (places_of cols r) (IsHeldPlace rows cols r)
    × ((place : ℕ) → HoldsPlace cols r place → StandsAt cols r place (number_in cols r place))

-- a grown rectangle holds just the cells of the map that are near to it
abbrev pub HoldWhatIsNear : Type 0
HoldWhatIsNear =
    (rows cols k : ℕ) (r : Rect) → IsInMap rows cols r → HasCells r →
    (row col : ℕ) → Holds (grown rows cols k r) row col ↔ ((row < rows) × (col < cols) × IsNear k r row col)

-- a tile that has a place in common with the rectangle
abbrev pub IsMet : Tiling → Rect → ℕ → Type 0
IsMet g r tile = (tile < tile_count g) × Intersects g r tile

-- just the tiles that have a place in common with a rectangle are listed for it, in ascending order
abbrev pub ListTilesMet : Type 0
ListTilesMet = (g : Tiling) (r : Rect) → IsInMap g.rows g.cols r → HasCells r → AscendsOver (tiles_of g r) (IsMet g r)

-- what is gathered from the tiles' cuts of a map is the map's cut
abbrev pub GatherTheCut : Type 0
GatherTheCut =
    (g : Tiling) (tiles : ℕ → List Cell) (r : Rect) (cells : List Cell) → IsInMap g.rows g.cols r →
    EachMet g r (λ tile. tiles tile ≡ cut_of g.cols cells (rect_of g tile)) → gathered g tiles r ≡ cut_of g.cols cells r

-- where a map's cuts for all tiles were pasted over a map, in whatever order, it is that map
abbrev pub PasteTheMap : Type 0
PasteTheMap =
    (g : Tiling) (cells first last : List Cell) (tiles : List ℕ) →
    length cells ≡ g.rows * g.cols → length first ≡ g.rows * g.cols →
    ((tile : ℕ) → tile < tile_count g → Contains tiles tile) → IsPastedOver g cells tiles first last → last ≡ cells

-- the part of some outcomes is what it is said to be, and there is no other
abbrev pub MarkTheirOvers : Type 0
MarkTheirOvers = (outcome : ℕ → Outcome) (places : ℕ) (part : Part) → IsPart outcome places part ↔ (part ≡ part_of outcome places)
