-- What holds of the cells around a rectangle of a drain map.
use Rattle.std.proofs.Common.{◌≡◌, ℕ, ◌+◌, ◌-◌, ◌*◌, ◌/◌, ◌%◌, ◌<◌, ◌≤◌, List, length, sym, ap, subst, ◌∙◌, arith, inl, inr}
use Rattle.std.proofs.lemmas.Bool.{cases_lt}
use Rattle.std.proofs.lemmas.List.{get_or_past}
use Rattle.std.proofs.lemmas.Nat.{div_below, mod_below, mul-le}
use Rattle.text_base.specs.Limits.{most_cells}
use Rattle.cell_values.specs.declared.cell.Cell.{Cell}
use Rattle.cell_values.specs.declared.cell.Cell.TheVariants as cell
use Rattle.cell_values.specs.declared.kind.Kind.{Kind}
use Rattle.cell_values.specs.declared.kind.Kind.TheVariants.{Ldd, Scalar}
use Rattle.cell_values.specs.Kinds.{IsCell}
use Rattle.tile_map.specs.declared.rect.Rect.{Rect}
use Rattle.tile_map.specs.Cuts.{cell_at, cut_of}
use Rattle.tile_map.specs.Rects.{HasCells, Holds, HoldsPlace, IsInMap, cell_count, grown, number_in, place_in}
use Rattle.tile_map.proofs.Callers.{cell_col, cell_row, get_or-cut_of, grown_holds, holds_cell, length-cut_of, number_of_held, some_cols}
use Rattle.drain_meaning.specs.declared.next.Next.TheVariants as next
use Rattle.drain_meaning.specs.Drains.{DrainMap, next_at}
use Rattle.drain_meaning.proofs.Callers.{directed_within, neighbours}
use Rattle.drain_ops.specs.Surroundings.{AreSurroundings}
use Rattle.drain_ops.specs.inside.Cutout.{IsCutout, LiesWithin, number_around}

-- ---- the rectangle around

-- it lies in the map
grown_in_map : (rows cols : ℕ) (r : Rect) → IsInMap rows cols r → IsInMap rows cols (grown rows cols 1 r)
unfolding grown
grown_in_map rows cols r is = let a = is.below in let b = is.right in record { below = omega arith; right = omega arith }

pub around_in_map : (m : DrainMap) (values codes cells : List Cell) (around inner : Rect) → AreSurroundings m values codes cells around inner → IsInMap m.rows m.cols around
around_in_map m values codes cells around inner a = subst (λ (r : Rect). IsInMap m.rows m.cols r) (sym a.grown_by_one) (grown_in_map m.rows m.cols inner a.inner_in_map)

-- it begins at the inner rectangle or before it
around_first : (rows cols : ℕ) (around inner : Rect) → around ≡ grown rows cols 1 inner → (around.top ≤ inner.top) × (around.left ≤ inner.left)
unfolding grown
around_first rows cols around inner e =
    let top : around.top ≡ inner.top - 1 = ap (λ (r : Rect). r.top) e in
    let left : around.left ≡ inner.left - 1 = ap (λ (r : Rect). r.left) e in
    (omega arith, omega arith)

-- ---- its codes and cells

-- a rectangle of a map has no more cells than the map
few_cells : (rows cols : ℕ) (r : Rect) → IsInMap rows cols r → rows * cols ≤ most_cells → cell_count r ≤ most_cells
few_cells rows cols r is few =
    let a = is.below in
    let b = is.right in
    let low : r.rows * r.cols ≤ rows * cols = mul-le r.rows r.cols rows cols (omega arith) (omega arith) in
    omega (arith, low, few)

-- how many cells are cut, and which one has a number
pub length-cut : (cols : ℕ) (cells cut : List Cell) (r : Rect) → cut ≡ cut_of cols cells r → length cut ≡ cell_count r
length-cut cols cells cut r e = ap length e ∙ length-cut_of cols cells r

pub cell_at-cut : (cols : ℕ) (cells cut : List Cell) (r : Rect) (number : ℕ) → cut ≡ cut_of cols cells r → number < cell_count r → cell_at cut number ≡ cell_at cells (place_in cols r number)
cell_at-cut cols cells cut r number e low = ap (λ (y : List Cell). cell_at y number) e ∙ get_or-cut_of cols cells r number cell.Mv low

-- the cells of a rectangle are of the map's kind
cut_cells : (kind : Kind) (cols : ℕ) (cells cut : List Cell) (r : Rect) → cut ≡ cut_of cols cells r → ((place : ℕ) → IsCell kind (cell_at cells place)) → (number : ℕ) → IsCell kind (cell_at cut number)
cut_cells kind cols cells cut r e each number = elim (cases_lt number (cell_count r)) as (λ _. IsCell kind (cell_at cut number)) [
  | inl low ↦ subst (λ (x : Cell). IsCell kind x) (sym (cell_at-cut cols cells cut r number e low)) (each (place_in cols r number))
  | inr past ↦
      let out : length cut ≤ number = omega (arith, past, length-cut cols cells cut r e) in
      subst (λ (x : Cell). IsCell kind x) (sym (get_or_past cut number cell.Mv out)) tt
]

-- the codes are those of a drain map of the rectangle's size
pub around_cutout : (m : DrainMap) (values codes cells : List Cell) (around inner : Rect) → AreSurroundings m values codes cells around inner → IsCutout around codes cells
around_cutout m values codes cells around inner a =
    let many = length-cut m.cols m.codes codes around a.codes_cut in
    record {
      map = record {
        few = few_cells m.rows m.cols around (around_in_map m values codes cells around inner a) a.map.few;
        size = many;
        each = cut_cells Ldd m.cols m.codes codes around a.codes_cut a.map.each;
      };
      many = length-cut m.cols values cells around a.cells_cut ∙ sym many;
      scalars = cut_cells Scalar m.cols values cells around a.cells_cut a.scalars;
    }

-- ---- what it holds

-- a rectangle that has a cell has rows and columns
has_cells : (r : Rect) (i : ℕ) → i < cell_count r → HasCells r
has_cells r i low =
    let cols = some_cols r i low in
    let row : i / r.cols < r.rows = div_below i r.cols r.rows cols low in
    record { some_rows = omega arith; some_cols = cols }

-- it holds what is near to a cell of the inner rectangle
near_held : (m : DrainMap) (values codes cells : List Cell) (around inner : Rect) → AreSurroundings m values codes cells around inner → (i row col : ℕ) → i < cell_count inner → row < m.rows → col < m.cols →
    row ≤ place_in m.cols inner i / m.cols + 1 → place_in m.cols inner i / m.cols ≤ row + 1 → col ≤ place_in m.cols inner i % m.cols + 1 → place_in m.cols inner i % m.cols ≤ col + 1 → Holds around row col
near_held m values codes cells around inner a i row col low row_in col_in above below left right =
    let held = holds_cell m.rows m.cols inner i a.inner_in_map low in
    subst (λ (r : Rect). Holds r row col) (sym a.grown_by_one)
    (grown_holds m.rows m.cols 1 inner (place_in m.cols inner i) row col a.inner_in_map (has_cells inner i low) held.0 row_in col_in above below left right)

-- it holds the cells of the inner rectangle
pub inner_held : (m : DrainMap) (values codes cells : List Cell) (around inner : Rect) → AreSurroundings m values codes cells around inner → (i : ℕ) → i < cell_count inner → HoldsPlace m.cols around (place_in m.cols inner i)
inner_held m values codes cells around inner a i low =
    let is = a.inner_in_map in
    let held = (holds_cell m.rows m.cols inner i is low).0 in
    let under = is.below in
    let right = is.right in
    let row : place_in m.cols inner i / m.cols < m.rows = omega (arith, held.above_bottom) in
    let col : place_in m.cols inner i % m.cols < m.cols = omega (arith, held.before_right) in
    near_held m values codes cells around inner a i (place_in m.cols inner i / m.cols) (place_in m.cols inner i % m.cols) low row col (omega arith) (omega arith) (omega arith) (omega arith)

-- it holds the cells that drain into one of these
pub feeder_held : (m : DrainMap) (values codes cells : List Cell) (around inner : Rect) → AreSurroundings m values codes cells around inner → (i u : ℕ) → i < cell_count inner → next_at m u ≡ next.Cell (place_in m.cols inner i) → HoldsPlace m.cols around u
feeder_held m values codes cells around inner a i u low e =
    let n = neighbours m u (place_in m.cols inner i) e in
    let within : u < m.rows * m.cols = omega (arith, directed_within m u (λ k. cc (k, e)), a.map.size) in
    let some : 0 < m.cols = omega (arith, n.col) in
    near_held m values codes cells around inner a i (u / m.cols) (u % m.cols) low (div_below u m.cols m.rows some within) (mod_below u m.cols some) n.above n.below n.left n.right

-- and the cells that these drain into
pub drained_held : (m : DrainMap) (values codes cells : List Cell) (around inner : Rect) → AreSurroundings m values codes cells around inner → (i d : ℕ) → i < cell_count inner → next_at m (place_in m.cols inner i) ≡ next.Cell d → HoldsPlace m.cols around d
drained_held m values codes cells around inner a i d low e =
    let n = neighbours m (place_in m.cols inner i) d e in
    near_held m values codes cells around inner a i (d / m.cols) (d % m.cols) low n.row n.col n.below n.above n.right n.left

-- ---- numbers in it

-- the number of a cell of the inner rectangle is that of its place
pub number_of_inner : (m : DrainMap) (values codes cells : List Cell) (around inner : Rect) → AreSurroundings m values codes cells around inner → (i : ℕ) → i < cell_count inner → number_around around inner i ≡ number_in m.cols around (place_in m.cols inner i)
unfolding number_around number_in
number_of_inner m values codes cells around inner a i low =
    let first = around_first m.rows m.cols around inner a.grown_by_one in
    let top = first.0 in
    let left = first.1 in
    let at = place_in m.cols inner i in
    let r : at / m.cols ≡ inner.top + i / inner.cols = cell_row m.cols inner i a.inner_in_map.right low in
    let c : at % m.cols ≡ inner.left + i % inner.cols = cell_col m.cols inner i a.inner_in_map.right low in
    let row : inner.top - around.top + i / inner.cols ≡ at / m.cols - around.top = omega (arith, r, top) in
    let col : inner.left - around.left + i % inner.cols ≡ at % m.cols - around.left = omega (arith, c, left) in
    ap (λ (z : ℕ). z * around.cols + (inner.left - around.left + i % inner.cols)) row ∙ ap (λ (z : ℕ). (at / m.cols - around.top) * around.cols + z) col

-- each cell of the inner rectangle has a number
pub inner_within : (m : DrainMap) (values codes cells : List Cell) (around inner : Rect) → AreSurroundings m values codes cells around inner → LiesWithin around inner (length codes)
inner_within m values codes cells around inner a =
    let first = around_first m.rows m.cols around inner a.grown_by_one in
    record {
      top = first.0;
      left = first.1;
      few = few_cells m.rows m.cols inner a.inner_in_map a.map.few;
      each = λ i low.
          let cols = some_cols inner i low in
          let row : i / inner.cols < inner.rows = div_below i inner.cols inner.rows cols low in
          let in_map = a.inner_in_map in
          let under = in_map.below in
          let right = in_map.right in
          let rows : m.rows * 1 ≤ m.rows * m.cols = mul-le m.rows 1 m.rows m.cols (omega arith) (omega arith) in
          let few = a.map.few in
          let top = first.0 in
          let below = (number_of_held m.cols around (place_in m.cols inner i) (inner_held m values codes cells around inner a i low)).0 in
          record {
            some_cols = cols;
            line = omega (arith, row, under, rows, few, top);
            below = omega (arith, number_of_inner m values codes cells around inner a i low, below, length-cut m.cols m.codes codes around a.codes_cut);
          };
    }
