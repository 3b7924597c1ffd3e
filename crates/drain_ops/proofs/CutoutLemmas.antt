-- A rectangle of a drain map, seen as a map of its own: where its codes lead.
use Rattle.std.proofs.Common.{◌≡◌, ℕ, ◌+◌, ◌-◌, ◌*◌, ◌/◌, ◌%◌, List, sym, ap, ◌∙◌, arith}
use Rattle.cell_values.specs.declared.cell.Cell.{Cell}
use Rattle.tile_map.specs.declared.rect.Rect.{Rect}
use Rattle.tile_map.specs.Cuts.{cell_at, cut_of}
use Rattle.tile_map.specs.Rects.{HoldsPlace, IsInMap, number_in, place_in}
use Rattle.tile_map.proofs.Callers.{cell_at-cut_of, number_col, number_row}
use Rattle.drain_meaning.specs.declared.next.Next.TheVariants as next
use Rattle.drain_meaning.specs.Drains.{DrainMap, col_on, next_at, row_on}
use Rattle.drain_meaning.proofs.Callers.{col_there, directed, directs, row_there}
use Rattle.drain_ops.specs.inside.Cutout.{cutout}

-- ---- a rectangle's codes

-- the cell of a place that it holds
pub cell_there : (cols : ℕ) (cells : List Cell) (r : Rect) (cut : List Cell) (x : ℕ) → cut ≡ cut_of cols cells r → HoldsPlace cols r x → cell_at cut (number_in cols r x) ≡ cell_at cells x
cell_there cols cells r cut x e held = ap (λ (y : List Cell). cell_at y (number_in cols r x)) e ∙ cell_at-cut_of cols cells r x held

-- a cell of the rectangle that drains into another one of it does so in the rectangle's map
pub next_inward : (m : DrainMap) (around : Rect) (codes : List Cell) (x y : ℕ) → codes ≡ cut_of m.cols m.codes around → HoldsPlace m.cols around x → HoldsPlace m.cols around y → next_at m x ≡ next.Cell y → next_at (cutout around codes) (number_in m.cols around x) ≡ next.Cell (number_in m.cols around y)
unfolding next_at number_in
next_inward m around codes x y cut hx hy e =
    let w = directs m.rows m.cols x (cell_at m.codes x) y e in
    let l = w.leads in
    let u : ℕ = number_in m.cols around x in
    let r : y / m.cols ≡ x / m.cols + row_on w.number - 1 = row_there _ _ _ _ _ l in
    let c : y % m.cols ≡ x % m.cols + col_on w.number - 1 = col_there _ _ _ _ _ l in
    let ur : u / around.cols ≡ x / m.cols - around.top = number_row m.cols around x hx in
    let uc : u % around.cols ≡ x % m.cols - around.left = number_col m.cols around x hx in
    let row : u / around.cols + row_on w.number - 1 ≡ y / m.cols - around.top = omega (arith, r, ur, hx.from_top, hy.from_top, l.from_row) in
    let col : u % around.cols + col_on w.number - 1 ≡ y % m.cols - around.left = omega (arith, c, uc, hx.from_left, hy.from_left, l.from_col) in
    directed around.rows around.cols u w.number (cell_at codes u) (number_in m.cols around y) (cell_there m.cols m.codes around codes x cut hx ∙ w.coded) w.no_pit
    (record {
      from_row = omega (arith, r, ur, hx.from_top, hy.from_top, l.from_row);
      to_row = omega (arith, r, ur, hx.from_top, hy.from_top, hy.above_bottom, l.from_row);
      from_col = omega (arith, c, uc, hx.from_left, hy.from_left, l.from_col);
      to_col = omega (arith, c, uc, hx.from_left, hy.from_left, hy.before_right, l.from_col);
      there = ap (λ (z : ℕ). z * around.cols + (u % around.cols + col_on w.number - 1)) row ∙ ap (λ (z : ℕ). (y / m.cols - around.top) * around.cols + z) col;
    })

-- a cell that drains into another one in the rectangle's map does so in the whole map
pub next_outward : (m : DrainMap) (around : Rect) (codes : List Cell) (x v : ℕ) → IsInMap m.rows m.cols around → codes ≡ cut_of m.cols m.codes around → HoldsPlace m.cols around x → next_at (cutout around codes) (number_in m.cols around x) ≡ next.Cell v → next_at m x ≡ next.Cell (place_in m.cols around v)
unfolding next_at place_in
next_outward m around codes x v is cut hx e =
    let u : ℕ = number_in m.cols around x in
    let w = directs around.rows around.cols u (cell_at codes u) v e in
    let l = w.leads in
    let r : v / around.cols ≡ u / around.cols + row_on w.number - 1 = row_there _ _ _ _ _ l in
    let c : v % around.cols ≡ u % around.cols + col_on w.number - 1 = col_there _ _ _ _ _ l in
    let ur : u / around.cols ≡ x / m.cols - around.top = number_row m.cols around x hx in
    let uc : u % around.cols ≡ x % m.cols - around.left = number_col m.cols around x hx in
    let row : x / m.cols + row_on w.number - 1 ≡ around.top + v / around.cols = omega (arith, r, ur, hx.from_top, l.from_row) in
    let col : x % m.cols + col_on w.number - 1 ≡ around.left + v % around.cols = omega (arith, c, uc, hx.from_left, l.from_col) in
    directed m.rows m.cols x w.number (cell_at m.codes x) (place_in m.cols around v) (sym (cell_there m.cols m.codes around codes x cut hx) ∙ w.coded) w.no_pit
    (record {
      from_row = omega (arith, ur, hx.from_top, l.from_row);
      to_row = omega (arith, ur, hx.from_top, l.to_row, is.below);
      from_col = omega (arith, uc, hx.from_left, l.from_col);
      to_col = omega (arith, uc, hx.from_left, l.to_col, is.right);
      there = ap (λ (z : ℕ). z * m.cols + (x % m.cols + col_on w.number - 1)) row ∙ ap (λ (z : ℕ). (around.top + v / around.cols) * m.cols + z) col;
    })
