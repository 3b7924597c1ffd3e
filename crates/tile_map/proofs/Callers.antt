-- What the crates above cite: rectangles and their places, tiles, cuts, pastes, operands and parts.
use Rattle.std.proofs.Common.{◌≡◌, ℕ, ◌+◌, ◌*◌, ◌/◌, ◌%◌, ◌<◌, ◌≤◌, List, [], ◌∷◌, ◌++◌, length, get_or, ap, sym, subst, ◌∙◌, inl, inr, arith}
use Rattle.std.specs.Prelude.{◌⊎◌}
use Rattle.std.proofs.lemmas.Bool.{cases_eq}
use Rattle.std.proofs.lemmas.List.{get_or_append_left, get_or_push, same_lists}
use Rattle.cell_values.specs.declared.cell.Cell.{Cell}
use Rattle.tile_map.specs.declared.arg.Arg.{Arg}
use Rattle.tile_map.specs.declared.arg.Arg.TheVariants.{Unused, One, Cells}
use Rattle.tile_map.specs.declared.rect.Rect.{Rect}
use Rattle.tile_map.specs.declared.tiling.Tiling.{Tiling}
use Rattle.tile_map.specs.Args.{HasPlace, SpansPlaces}
use Rattle.tile_map.specs.Cuts.{cell_at, cut_of}
use Rattle.tile_map.specs.Parts.{IsPart, Outcome, or_missing, part_of, tabulate}
use Rattle.tile_map.specs.Pastes.{IsPasted}
use Rattle.tile_map.specs.Rects.{HasCells, Holds, HoldsPlace, IsInMap, cell_count, grown, number_in, place_in}
use Rattle.tile_map.specs.Tiles.{rect_of, tile_at, tile_count}
use Rattle.tile_map.proofs.CutLemmas as cuts
use Rattle.tile_map.proofs.PartLemmas as parts
use Rattle.tile_map.proofs.PasteLemmas as pastes
use Rattle.tile_map.proofs.RectLemmas as rects
use Rattle.tile_map.proofs.TileLemmas as tiles
-- rows and columns of a rectangle's cells, and of the numbers of held places
pub use Rattle.tile_map.proofs.RectLemmas.{cell_col, cell_row, number_col, number_row, some_cols}
-- a rectangle lists just its places
pub use Rattle.tile_map.proofs.RectLemmas.{ascends_over_places}
-- a part that marks the Overs of some outcomes is theirs; outcomes that agree have one part; tables by place
pub use Rattle.tile_map.proofs.PartLemmas.{first_over-same, get_or-tabulate, length-tabulate, marks_its_overs, part_of-same, tabulate-same}
-- values over the cells of a rectangle, row by row, and by number
pub use Rattle.tile_map.proofs.CutLemmas.{between-map_range, cut_more, front_rows, front_rows_all, front_rows_more, get_or-over, length-over, over_same, range-append}

-- ---- rectangles

-- a rectangle holds the place of each of its cells, and this is a place of the map
pub holds_cell : (rows cols : ℕ) (r : Rect) (i : ℕ) → IsInMap rows cols r → i < cell_count r → HoldsPlace cols r (place_in cols r i) × (place_in cols r i < rows * cols)
holds_cell rows cols r i in_map below = (rects.holds_cell cols r i in_map.right below, rects.place_below rows cols r i in_map below)

-- the number of a held place is that of a cell, whose place is that place
pub number_of_held : (cols : ℕ) (r : Rect) (place : ℕ) → HoldsPlace cols r place → (number_in cols r place < cell_count r) × (place_in cols r (number_in cols r place) ≡ place)
number_of_held cols r place holds = (rects.number_below cols r place holds, rects.place_of_number cols r place holds)

-- the number of a cell's place is the cell's
pub number_in-place_in : (rows cols : ℕ) (r : Rect) (i : ℕ) → IsInMap rows cols r → i < cell_count r → number_in cols r (place_in cols r i) ≡ i
number_in-place_in rows cols r i in_map below = rects.number_of_place cols r i in_map.right below

-- a place near to a held one is held by the grown rectangle
pub grown_holds : (rows cols k : ℕ) (r : Rect) (place row col : ℕ) → IsInMap rows cols r → HasCells r → HoldsPlace cols r place → row < rows → col < cols →
    row ≤ place / cols + k → place / cols ≤ row + k → col ≤ place % cols + k → place % cols ≤ col + k → Holds (grown rows cols k r) row col
grown_holds rows cols k r place row col in_map some holds row_in col_in above below left right =
    (rects.holds_what_is_near rows cols k r in_map some row col).1
    (row_in, col_in, record { near_row = place / cols; near_col = place % cols; holds = holds; above = above; below = below; left = left; right = right })

-- ---- tiles

-- a tile lies in the map and has cells
pub tile_in_map : (g : Tiling) (tile : ℕ) → tile < tile_count g → IsInMap g.rows g.cols (rect_of g tile) × HasCells (rect_of g tile)
tile_in_map g tile below = (tiles.rect_inside g tile below, tiles.rect_some g tile below)

-- a place lies in its tile
pub tile_of_place : (g : Tiling) (place : ℕ) → place < g.rows * g.cols → (tile_at g place < tile_count g) × HoldsPlace g.cols (rect_of g (tile_at g place)) place
tile_of_place g place below = (tiles.tile_below g place below, tiles.tile_holds g place below)

-- and in no other
pub tile_only : (g : Tiling) (place tile : ℕ) → HoldsPlace g.cols (rect_of g tile) place → tile ≡ tile_at g place
tile_only g place tile holds = tiles.tile_only g place tile holds

-- a list that has for each of the first tiles as many cells as the tile, with those of the next tile behind it
pub tile_behind : (g : Tiling) (listed : List (List Cell)) (cells : List Cell) (n : ℕ) → length listed ≡ n →
    ((tile : ℕ) → tile < n → length (get_or listed tile []) ≡ cell_count (rect_of g tile)) → length cells ≡ cell_count (rect_of g n) →
    (tile : ℕ) → tile < n + 1 → length (get_or (listed ++ cells ∷ []) tile []) ≡ cell_count (rect_of g tile)
tile_behind g listed cells n size whole last tile below = elim (cases_eq tile n) as (λ x. length (get_or (listed ++ cells ∷ []) tile []) ≡ cell_count (rect_of g tile)) [
  | inl e ↦ ap length (get_or_push listed cells [] tile (size ∙ sym e)) ∙ (last ∙ ap (λ (k : ℕ). cell_count (rect_of g k)) (sym e))
  | inr other ↦ ap length (get_or_append_left listed (cells ∷ []) [] tile (omega arith)) ∙ whole tile (omega arith)
]

-- ---- cuts and pastes

pub length-cut_of : (cols : ℕ) (cells : List Cell) (r : Rect) → length (cut_of cols cells r) ≡ cell_count r
length-cut_of cols cells r = cuts.length-over cols r (cell_at cells)

pub get_or-cut_of : (cols : ℕ) (cells : List Cell) (r : Rect) (i : ℕ) (d : Cell) → i < cell_count r → get_or (cut_of cols cells r) i d ≡ cell_at cells (place_in cols r i)
get_or-cut_of cols cells r i d below = cuts.get_or-over cols r (cell_at cells) i d below

pub cell_at-cut_of : (cols : ℕ) (cells : List Cell) (r : Rect) (place : ℕ) → HoldsPlace cols r place → cell_at (cut_of cols cells r) (number_in cols r place) ≡ cell_at cells place
cell_at-cut_of cols cells r place holds = cuts.cell_at-cut_of cols cells r place holds

-- after a map's cut for a tile was pasted the places of the tile have the map's cells, and the others have theirs
pub pasted_cell : (g : Tiling) (cells before after : List Cell) (tile place : ℕ) → place < g.rows * g.cols →
    IsPasted g.cols (rect_of g tile) (cut_of g.cols cells (rect_of g tile)) before after →
    ((tile_at g place ≡ tile) × (cell_at after place ≡ cell_at cells place)) ⊎ ((tile_at g place ≡ tile → ⊥) × (cell_at after place ≡ cell_at before place))
pasted_cell g cells before after tile place below pasted = pastes.pasted_cell g cells before after tile place below pasted

-- ---- operands and parts

-- an operand over so many places has a cell at each
pub has_place : (arg : Arg) (places place : ℕ) → SpansPlaces arg places → place < places → HasPlace arg place
has_place Unused places place spans below = tt
has_place (One cell) places place spans below = tt
has_place (Cells cells) places place spans below = omega arith

-- the part of the outcomes is what it is said to be
pub is_part-part_of : (outcome : ℕ → Outcome) (places : ℕ) → IsPart outcome places (part_of outcome places)
is_part-part_of outcome places = parts.is_part-part_of outcome places

-- the part of a rectangle's outcomes has the cut of the cells of the whole map's part
pub cells-part_of-cut : (rows cols : ℕ) (r : Rect) (outcome : ℕ → Outcome) → IsInMap rows cols r → (part_of (λ i. outcome (place_in cols r i)) (cell_count r)).cells ≡ cut_of cols (part_of outcome (rows * cols)).cells r
cells-part_of-cut rows cols r outcome in_map =
    let whole = parts.is_part-part_of outcome (rows * cols) in
    let f = λ (i : ℕ). or_missing (outcome (place_in cols r i)) in
    let cells = (part_of outcome (rows * cols)).cells in
    same_lists (tabulate f (cell_count r)) (cut_of cols cells r) (parts.length-tabulate f (cell_count r) ∙ sym (length-cut_of cols cells r))
    (λ k d less.
    let below : k < cell_count r = subst (λ (n : ℕ). k < n) (parts.length-tabulate f (cell_count r)) less in
    parts.get_or-tabulate f (cell_count r) k d below
    ∙ (sym (whole.cells (place_in cols r k) (rects.place_below rows cols r k in_map below))
    ∙ sym (get_or-cut_of cols cells r k d below)))
