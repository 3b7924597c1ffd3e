-- The whole map as one rectangle.
use Rattle.std.proofs.Common.{◌≡◌, ℕ, ◌+◌, ◌-◌, ◌*◌, ◌/◌, ◌%◌, ◌<◌, min, length, sym, ap, subst, ◌∙◌, arith}
use Rattle.std.proofs.lemmas.List.{get_or_default, same_lists}
use Rattle.std.proofs.lemmas.Nat.{div-add-mod'}
use Rattle.cell_values.specs.declared.cell.Cell.TheVariants.{Mv}
use Rattle.cell_values.specs.declared.kind.Kind.TheVariants.{Scalar}
use Rattle.cell_values.specs.Kinds.{IsCell}
use Rattle.drain_meaning.specs.Drains.{DrainMap}
use Rattle.drain_meaning.specs.Sound.{IsDrain}
use Rattle.drain_ops.specs.Surroundings.{AreSurroundings}
use Rattle.tile_map.specs.declared.rect.Rect.{Rect}
use Rattle.tile_map.specs.Cuts.{cell_at, cut_of}
use Rattle.tile_map.specs.Rects.{IsInMap, grown, place_in}
use Rattle.tile_map.proofs.Callers.{get_or-cut_of, length-cut_of}
use Rattle.map_meaning.specs.Maps.{WholeMap}
use Rattle.window_ops.specs.Surroundings.{AreAround, IsInside}

-- the rectangle of a map of so many rows and columns
abbrev pub whole_rect : ℕ → ℕ → Rect
whole_rect rows cols = record { top = 0; left = 0; rows = rows; cols = cols }

-- a cell's number in it is its place
pub place_in-whole : (rows cols i : ℕ) → place_in cols (whole_rect rows cols) i ≡ i
unfolding place_in
place_in-whole rows cols i = let parts : i / cols * cols + i % cols ≡ i = div-add-mod' i cols in omega (arith, parts)

-- its cut is the map
pub cut_of-whole : (rows cols : ℕ) (m : WholeMap) → length m ≡ rows * cols → cut_of cols m (whole_rect rows cols) ≡ m
cut_of-whole rows cols m size =
    let count = length-cut_of cols m (whole_rect rows cols) in
    same_lists (cut_of cols m (whole_rect rows cols)) m (count ∙ sym size) (λ k d less.
    let below : k < rows * cols = subst (λ (n : ℕ). k < n) count less in
    get_or-cut_of cols m (whole_rect rows cols) k d below
    ∙ (ap (cell_at m) (place_in-whole rows cols k)
    ∙ get_or_default m k Mv d (subst (λ (n : ℕ). k < n) (sym size) below)))

-- it lies in the map
whole_in : (rows cols : ℕ) → IsInMap rows cols (whole_rect rows cols)
whole_in rows cols = record { below = omega arith; right = omega arith }

-- and holds what is near to it
grown_inside : (rows cols k : ℕ) → IsInside (grown rows cols k (whole_rect rows cols)) (whole_rect rows cols)
unfolding grown
grown_inside rows cols k = record { top = omega arith; bottom = omega arith; left = omega arith; right = omega arith }

-- a map's cells are those around it
pub around_whole : (rows cols k : ℕ) (m : WholeMap) → length m ≡ rows * cols → AreAround rows cols k m m (whole_rect rows cols) (whole_rect rows cols)
around_whole rows cols k m size = record {
  inner_in = whole_in rows cols;
  around_in = whole_in rows cols;
  reach = grown_inside rows cols k;
  cells_are = sym (cut_of-whole rows cols m size);
}

-- grown by 1 it is itself
grown_whole : (rows cols : ℕ) → whole_rect rows cols ≡ grown rows cols 1 (whole_rect rows cols)
unfolding grown
grown_whole rows cols =
    let high : rows ≡ min rows (0 + rows + 1) - (0 - 1) = omega arith in
    let wide : cols ≡ min cols (0 + cols + 1) - (0 - 1) = omega arith in
    ap (λ (r : ℕ). whole_rect r cols) high ∙ ap (λ (c : ℕ). whole_rect (min rows (0 + rows + 1) - (0 - 1)) c) wide

-- scalars over a drain map, as the cells around it
pub surrounded : (m : DrainMap) (values codes : WholeMap) (rows cols : ℕ) → IsDrain m → rows ≡ m.rows → cols ≡ m.cols → codes ≡ m.codes → length values ≡ m.rows * m.cols →
    ((place : ℕ) → IsCell Scalar (cell_at values place)) → AreSurroundings m values codes values (whole_rect rows cols) (whole_rect rows cols)
surrounded m values codes rows cols is high wide same size scalars =
    subst (λ (r : ℕ). AreSurroundings m values codes values (whole_rect r cols) (whole_rect r cols)) (sym high)
    (subst (λ (c : ℕ). AreSurroundings m values codes values (whole_rect m.rows c) (whole_rect m.rows c)) (sym wide)
    (record {
      map = is.map;
      scalars = scalars;
      inner_in_map = whole_in m.rows m.cols;
      grown_by_one = grown_whole m.rows m.cols;
      codes_cut = same ∙ sym (cut_of-whole m.rows m.cols m.codes is.map.size);
      cells_cut = sym (cut_of-whole m.rows m.cols values size);
    }))
