-- The cells around a rectangle of a drain map, from which one step up and down stream is taken.
use Rattle.std.specs.Prelude.{◌≡◌, ℕ, List}
use Rattle.cell_values.specs.declared.cell.Cell.{Cell}
use Rattle.cell_values.specs.declared.kind.Kind.TheVariants.{Scalar}
use Rattle.cell_values.specs.Kinds.{IsCell}
use Rattle.tile_map.specs.Cuts.{cell_at, cut_of}
use Rattle.tile_map.specs.Parts.{part_of}
use Rattle.tile_map.specs.Rects.{IsInMap, cell_count, grown, place_in}
use Rattle.tile_map.specs.declared.part.Part.{Part}
use Rattle.tile_map.specs.declared.rect.Rect.{Rect}
use Rattle.drain_meaning.specs.declared.op.NearOp.{NearOp}
use Rattle.drain_meaning.specs.Drains.{DrainMap, IsDrainMap}
use Rattle.drain_meaning.specs.Near.{near_outcome}

-- the codes and the cells are those of a drain map, and of scalars over it, in the rectangle that is another one grown by 1
pub record AreSurroundings (m : DrainMap) (values : List Cell) (codes cells : List Cell) (around inner : Rect) : Type 0 where
  pub map : IsDrainMap m
  pub scalars : (place : ℕ) → IsCell Scalar (cell_at values place)
  pub inner_in_map : IsInMap m.rows m.cols inner
  pub grown_by_one : around ≡ grown m.rows m.cols 1 inner
  pub codes_cut : codes ≡ cut_of m.cols m.codes around
  pub cells_cut : cells ≡ cut_of m.cols values around

-- there is such a map
pub record AreSomeSurroundings (codes cells : List Cell) (around inner : Rect) : Type 0 where
  pub drains : DrainMap
  pub values : List Cell
  pub around_it : AreSurroundings drains values codes cells around inner

-- the part is that of the inner rectangle in every map from which these can be
abbrev pub IsNearPart : NearOp → List Cell → List Cell → Rect → Rect → Part → Type 0
IsNearPart o codes cells around inner part =
    (m : DrainMap) (values : List Cell) → AreSurroundings m values codes cells around inner →
    part ≡ part_of (λ i. near_outcome o m (cell_at values) (place_in m.cols inner i)) (cell_count inner)
