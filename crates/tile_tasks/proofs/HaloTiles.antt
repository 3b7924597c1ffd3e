-- Tiles that a halo meets, and the cells of a halo.
use Rattle.std.proofs.Common.{◌≡◌, ℕ, ◌+◌, ◌*◌, ◌<◌, List, length, get_or, sym, ap, subst, ◌∙◌, arith}
use Rattle.std.proofs.lemmas.List.{same_lists}
use Rattle.cell_values.specs.declared.cell.Cell.{Cell}
use Rattle.cell_values.specs.declared.cell.Cell.TheVariants.{Mv}
use Rattle.tile_map.specs.declared.rect.Rect.{Rect}
use Rattle.tile_map.specs.declared.tiling.Tiling.{Tiling}
use Rattle.tile_map.specs.Cuts.{cell_at, cut_of, gathered}
use Rattle.tile_map.specs.Parts.{tabulate}
use Rattle.tile_map.specs.Rects.{HasCells, HoldsPlace, IsInMap, cell_count, number_in, place_in}
use Rattle.tile_map.specs.Tiles.{Intersects, across, down, rect_of, tile_count}
use Rattle.tile_map.specs.inside.Met.{tiles_met, tiles_of}
use Rattle.tile_map.proofs.Callers.{holds_cell, number_in-place_in, tile_in_map}
use Rattle.tile_map.proofs.CutLemmas.{gathers_the_cut, get_or-over, length-over, over_same}
use Rattle.tile_map.proofs.MetLemmas.{lists_tiles_met, met_inside}
use Rattle.tile_map.proofs.PartLemmas.{get_or-tabulate, length-tabulate}
use Rattle.tile_map.proofs.RectLemmas.{get_or-places_of, length-places_of, place_below}
use Rattle.tile_map.proofs.TileLemmas.{some_across}
use Rattle.tile_map.specs.Args.{SpansPlaces}
use Rattle.tile_map.specs.declared.arg.Arg.{Arg}
use Rattle.map_meaning.specs.declared.known.Known.{Known}
use Rattle.map_meaning.specs.Maps.{CellAt}
use Rattle.task_tiles.specs.declared.tile.Tile.{Tile}
use Rattle.tile_tasks.specs.inside.Tiles.{StandFrom, cells_in, part_cells, tile_handed}

-- ---- tiles that are met

-- a tile that a rectangle meets stands in the list of those that it meets, under its number in the rectangle of tiles
pub record IsListed (g : Tiling) (r : Rect) (tile : ℕ) : Type 0 where
  pub holds : HoldsPlace (across g) (tiles_met g r) tile
  pub below : number_in (across g) (tiles_met g r) tile < length (tiles_of g r)
  pub there : get_or (tiles_of g r) (number_in (across g) (tiles_met g r) tile) 0 ≡ tile

pub is_listed : (g : Tiling) (r : Rect) (tile : ℕ) → IsInMap g.rows g.cols r → HasCells r → tile < tile_count g → Intersects g r tile → IsListed g r tile
is_listed g r tile in_map some below meets =
    let met = tiles_met g r in
    let grid = met_inside g r in_map some in
    let found = (lists_tiles_met g r in_map some).each tile (below, meets) in
    let k : ℕ = found.0 in
    let size : length (tiles_of g r) ≡ cell_count met = length-places_of (across g) met in
    let inside : k < cell_count met = omega (arith, found.1, size) in
    let is : place_in (across g) met k ≡ tile = sym (get_or-places_of (across g) met k tile inside) ∙ found.2 in
    let number : number_in (across g) met tile ≡ k = ap (number_in (across g) met) (sym is) ∙ number_in-place_in (down g) (across g) met k grid inside in
    record {
      holds = subst (λ (t : ℕ). HoldsPlace (across g) met t) is (holds_cell (down g) (across g) met k grid inside).0;
      below = omega (arith, number, found.1);
      there = ap (λ (n : ℕ). get_or (tiles_of g r) n 0) number ∙ (get_or-places_of (across g) met k 0 inside ∙ is);
    }

-- ---- cells of rectangles

-- the cut of a map that is told place by place
pub cut_tabulated : (rows cols : ℕ) (r : Rect) (f : CellAt) → IsInMap rows cols r → cut_of cols (tabulate f (rows * cols)) r ≡ cells_in cols r f
cut_tabulated rows cols r f in_map =
    over_same cols r (cell_at (tabulate f (rows * cols))) f (λ i below. get_or-tabulate f (rows * cols) (place_in cols r i) Mv (place_below rows cols r i in_map below))

-- the tiles that are handed in have the cells of the rectangle
pub gathered_cells : (g : Tiling) (r : Rect) (f : CellAt) (ts : List Tile) → IsInMap g.rows g.cols r → HasCells r → StandFrom g f (tiles_of g r) 0 ts →
    gathered g (λ tile. part_cells (tile_handed ts (number_in (across g) (tiles_met g r) tile))) r ≡ cells_in g.cols r f
gathered_cells g r f ts in_map some stand =
    let tiles = λ (tile : ℕ). part_cells (tile_handed ts (number_in (across g) (tiles_met g r) tile)) in
    let m = tabulate f (g.rows * g.cols) in
    gathers_the_cut g tiles r m in_map (λ tile below meets. handed_cut tile below meets) ∙ cut_tabulated g.rows g.cols r f in_map
  where
    handed_cut : (tile : ℕ) → tile < tile_count g → Intersects g r tile → part_cells (tile_handed ts (number_in (across g) (tiles_met g r) tile)) ≡ cut_of g.cols (tabulate f (g.rows * g.cols)) (rect_of g tile)
    handed_cut tile below meets =
        let n : ℕ = number_in (across g) (tiles_met g r) tile in
        let listed = is_listed g r tile in_map some below meets in
        let same : 0 + n ≡ n = omega arith in
        let cut = stand.each n listed.below in
        ap (λ (k : ℕ). part_cells (tile_handed ts k)) (sym same)
        ∙ (cut.cells
        ∙ (ap (λ (t : ℕ). cells_in g.cols (rect_of g t) f) listed.there
        ∙ sym (cut_tabulated g.rows g.cols (rect_of g tile) f (tile_in_map g tile below).0)))

-- a tile that is met is there
pub handed_there : (g : Tiling) (r : Rect) (f : CellAt) (ts : List Tile) (tile : ℕ) → IsInMap g.rows g.cols r → HasCells r → StandFrom g f (tiles_of g r) 0 ts → tile < tile_count g → Intersects g r tile →
    number_in (across g) (tiles_met g r) tile < length ts
handed_there g r f ts tile in_map some stand below meets =
    let listed = is_listed g r tile in_map some below meets in
    let b = listed.below in
    let w = stand.within in
    omega (arith, b, w)

-- and has its cells
pub handed_count : (g : Tiling) (r : Rect) (f : CellAt) (ts : List Tile) (tile : ℕ) → IsInMap g.rows g.cols r → HasCells r → StandFrom g f (tiles_of g r) 0 ts → tile < tile_count g → Intersects g r tile →
    length (part_cells (tile_handed ts (number_in (across g) (tiles_met g r) tile))) ≡ cell_count (rect_of g tile)
handed_count g r f ts tile in_map some stand below meets =
    let n : ℕ = number_in (across g) (tiles_met g r) tile in
    let listed = is_listed g r tile in_map some below meets in
    let same : 0 + n ≡ n = omega arith in
    let cut = stand.each n listed.below in
    ap (λ (k : ℕ). length (part_cells (tile_handed ts k))) (sym same)
    ∙ (ap length cut.cells
    ∙ (ap (λ (t : ℕ). length (cells_in g.cols (rect_of g t) f)) listed.there
    ∙ length-over g.cols (rect_of g tile) f))

-- the cells of a rectangle that has one cell everywhere
pub cells_everywhere : (cols : ℕ) (r : Rect) (f : CellAt) (cell : Cell) → ((place : ℕ) → f place ≡ cell) → (size : ℕ) → size ≡ cell_count r → tabulate (λ i. cell) size ≡ cells_in cols r f
cells_everywhere cols r f cell same size is =
    let g : ℕ → Cell = λ i. cell in
    let long : length (tabulate g size) ≡ cell_count r = length-tabulate g size ∙ is in
    same_lists (tabulate g size) (cells_in cols r f) (long ∙ sym (length-over cols r f)) (λ k d less.
    let below : k < cell_count r = subst (λ (n : ℕ). k < n) long less in
    get_or-tabulate g size k d (omega (arith, is, below)) ∙ (sym (same (place_in cols r k)) ∙ sym (get_or_over cols r f k d below)))
  where
    get_or_over : (cols : ℕ) (r : Rect) (f : CellAt) (k : ℕ) (d : Cell) → k < cell_count r → get_or (cells_in cols r f) k d ≡ f (place_in cols r k)
    get_or_over cols r f k d below = get_or-over cols r f k d below

-- all that is asked of a tile that is met
pub handed_has : (g : Tiling) (r : Rect) (f : CellAt) (ts : List Tile) (tile count : ℕ) → length ts ≡ count → IsInMap g.rows g.cols r → HasCells r → StandFrom g f (tiles_of g r) 0 ts → tile < tile_count g → Intersects g r tile →
    (0 < across g) × HoldsPlace (across g) (tiles_met g r) tile × (number_in (across g) (tiles_met g r) tile < count)
handed_has g r f ts tile count same in_map some stand below meets =
    let listed = is_listed g r tile in_map some below meets in
    let there = handed_there g r f ts tile in_map some stand below meets in
    (some_across g, listed.holds, omega arith)

-- an operand over the places of a map is one over those of its tiling
pub same_spans : (arg : Arg) (g : Tiling) (known : Known) → g.rows ≡ known.rows → g.cols ≡ known.cols → SpansPlaces arg (known.rows * known.cols) → SpansPlaces arg (g.rows * g.cols)
same_spans arg g known rows cols spans =
    let same : g.rows * g.cols ≡ known.rows * known.cols = ap (λ (n : ℕ). n * g.cols) rows ∙ ap (λ (n : ℕ). known.rows * n) cols in
    subst (λ (n : ℕ). SpansPlaces arg n) (sym same) spans
