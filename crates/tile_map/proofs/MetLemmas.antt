-- The tiles that a rectangle meets.
use Rattle.std.proofs.Common.{◌≡◌, ℕ, ◌+◌, ◌*◌, ◌/◌, ◌%◌, ◌<◌, ◌≤◌, get_or, ap, subst, ◌∙◌, arith}
use Rattle.std.specs.Int.{div_ceil}
use Rattle.std.proofs.lemmas.Nat.{div-mul-add, mod-mul-add, div-add-mod', div_below, mul-le}
use Rattle.text_base.specs.Limits.{most_cells}
use Rattle.tile_map.specs.declared.rect.Rect.{Rect}
use Rattle.tile_map.specs.declared.tiling.Tiling.{Tiling}
use Rattle.tile_map.specs.Rects.{HasCells, HoldsPlace, IsInMap, cell_count, place_in}
use Rattle.tile_map.specs.Tiles.{Intersects, across, down, rect_of, tile_at, tile_count}
use Rattle.tile_map.specs.inside.Met.{tiles_met, tiles_of}
use Rattle.tile_map.specs.Laws.{IsMet, ListTilesMet}
use Rattle.tile_map.proofs.SideLemmas.{part_below, part_of_stretch, parts_few, parts_grow, place_of_part}
use Rattle.tile_map.proofs.RectLemmas.{ascends_over_places, held_below, place_below, some_cols}
use Rattle.tile_map.proofs.TileLemmas.{count_few, sides_few, tile_below, tile_col, tile_holds, tile_only, tile_row}

-- the parts that a stretch meets are parts of the side
parts_met : (n p start size : ℕ) → 0 < p → 0 < size → start + size ≤ n → (start / p < div_ceil (start + size) p) × (div_ceil (start + size) p ≤ div_ceil n p)
parts_met n p start size some s fits = (part_below (start + size) p start some (omega arith), parts_grow (start + size) n p some fits)

-- the tiles that are met lie in the grid of tiles
pub met_inside : (g : Tiling) (r : Rect) → IsInMap g.rows g.cols r → HasCells r → IsInMap (down g) (across g) (tiles_met g r)
unfolding tiles_met across down
met_inside g r in_map has =
    let rows = parts_met g.rows g.tile_rows r.top r.rows g.sides.some_tile_rows has.some_rows in_map.below in
    let cols = parts_met g.cols g.tile_cols r.left r.cols g.sides.some_tile_cols has.some_cols in_map.right in
    record { below = omega arith; right = omega arith }

-- a tile that is met is held by the rectangle of tiles
met_held : (g : Tiling) (r : Rect) (tile : ℕ) → IsInMap g.rows g.cols r → Intersects g r tile → HoldsPlace (across g) (tiles_met g r) tile
unfolding tiles_met
met_held g r tile in_map meets =
    let place = meets.place in
    let e : tile ≡ tile_at g place = tile_only g place tile meets.in_tile in
    let rows = part_of_stretch g.tile_rows r.top r.rows (place / g.cols) g.sides.some_tile_rows meets.in_rect.from_top meets.in_rect.above_bottom in
    let cols = part_of_stretch g.tile_cols r.left r.cols (place % g.cols) g.sides.some_tile_cols meets.in_rect.from_left meets.in_rect.before_right in
    let row : tile / across g ≡ place / g.cols / g.tile_rows = ap (λ (t : ℕ). t / across g) e ∙ tile_row g place in
    let col : tile % across g ≡ place % g.cols / g.tile_cols = ap (λ (t : ℕ). t % across g) e ∙ tile_col g place in
    record { from_top = omega arith; above_bottom = omega arith; from_left = omega arith; before_right = omega arith }

-- a tile by its row and column of tiles
tile_by : (g : Tiling) (place tile row col : ℕ) → place / g.cols ≡ row → place % g.cols ≡ col → row / g.tile_rows ≡ tile / across g → col / g.tile_cols ≡ tile % across g → tile_at g place ≡ tile
unfolding tile_at
tile_by g place tile row col r c t l =
    ap (λ (x : ℕ). x / g.tile_rows * across g + place % g.cols / g.tile_cols) r
    ∙ (ap (λ (x : ℕ). row / g.tile_rows * across g + x / g.tile_cols) c
    ∙ (ap (λ (x : ℕ). x * across g + col / g.tile_cols) t
    ∙ (ap (λ (x : ℕ). tile / across g * across g + x) l ∙ div-add-mod' tile (across g))))

-- a tile of the rectangle of tiles is met
held_met : (g : Tiling) (r : Rect) (tile : ℕ) → IsInMap g.rows g.cols r → HasCells r → HoldsPlace (across g) (tiles_met g r) tile → IsMet g r tile
unfolding tiles_met
held_met g r tile in_map has holds =
    let met_rows = parts_met g.rows g.tile_rows r.top r.rows g.sides.some_tile_rows has.some_rows in_map.below in
    let met_cols = parts_met g.cols g.tile_cols r.left r.cols g.sides.some_tile_cols has.some_cols in_map.right in
    let top = holds.above_bottom in
    let left = holds.before_right in
    let row = place_of_part g.tile_rows r.top r.rows (tile / across g) g.sides.some_tile_rows has.some_rows holds.from_top (omega arith) in
    let col = place_of_part g.tile_cols r.left r.cols (tile % across g) g.sides.some_tile_cols has.some_cols holds.from_left (omega arith) in
    let under = in_map.below in
    let right = in_map.right in
    let a = row.1 in
    let b = row.2 in
    let c = col.1 in
    let d = col.2 in
    let place : ℕ = row.0 * g.cols + col.0 in
    let in_row : place / g.cols ≡ row.0 = div-mul-add row.0 g.cols col.0 (omega arith) in
    let in_col : place % g.cols ≡ col.0 = mod-mul-add row.0 g.cols col.0 (omega arith) in
    let in_rect : HoldsPlace g.cols r place = record { from_top = omega arith; above_bottom = omega arith; from_left = omega arith; before_right = omega arith } in
    let below : place < g.rows * g.cols = held_below g.rows g.cols r place in_map in_rect in
    let e : tile_at g place ≡ tile = tile_by g place tile row.0 col.0 in_row in_col row.3 col.3 in (
      subst (λ (t : ℕ). t < tile_count g) e (tile_below g place below),
      record { place = place; in_rect = in_rect; in_tile = subst (λ (t : ℕ). HoldsPlace g.cols (rect_of g t) place) e (tile_holds g place below) },
    )

pub lists_tiles_met : ListTilesMet
lists_tiles_met g r in_map has =
    let inside = met_inside g r in_map has in
    let all = ascends_over_places (down g) (across g) (tiles_met g r) inside in
    record {
      ascends = all.ascends;
      only = λ i below. held_met g r (get_or (tiles_of g r) i 0) in_map has ((all.only i below).1);
      each = λ tile is. let held = met_held g r tile in_map is.1 in all.each tile (held_below (down g) (across g) (tiles_met g r) tile inside held, held);
    }

-- there are no more of them than tiles
pub few_in_grid : (g : Tiling) (met : Rect) → IsInMap (down g) (across g) met → cell_count met ≤ most_cells
few_in_grid g met inside =
    let under = inside.below in
    let right = inside.right in
    let less : met.rows * met.cols ≤ down g * across g = mul-le met.rows met.cols (down g) (across g) (omega arith) (omega arith) in
    let few = count_few g in
    omega arith

-- a tile of the grid, its row and its number
pub in_grid : (g : Tiling) (met : Rect) (number : ℕ) → IsInMap (down g) (across g) met → number < cell_count met → (met.top + number / met.cols ≤ most_cells) × (place_in (across g) met number < most_cells)
unfolding down
in_grid g met number inside below =
    let row : number / met.cols < met.rows = div_below number met.cols met.rows (some_cols met number below) below in
    let under = inside.below in
    let few = parts_few g.rows g.tile_rows g.sides.some_tile_rows in
    let sides = sides_few g in
    let tile : place_in (across g) met number < tile_count g = place_below (down g) (across g) met number inside below in
    let tiles = count_few g in
    (omega arith, omega arith)
