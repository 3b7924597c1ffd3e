-- What holds of all rectangles, tilings and outcomes.
use Rattle.std.specs.Prelude.{◌≡◌, ◌<◌, ◌*◌, ℕ, Option, Some, None, IsOk, IsErr}
use Rattle.std.specs.List.{range_with_len}
use Rattle.std.specs.List.Sorted.{IsPermutation}
use Rattle.tile_map.specs.Cuts.{cut_of}
use Rattle.tile_map.specs.Parts.{Outcome, part_of}
use Rattle.tile_map.specs.Rects.{HoldsPlace, IsInMap}
use Rattle.tile_map.specs.Tiles.{rect_of, tile_count}
use Rattle.tile_map.specs.declared.rect.Rect.{Rect}
use Rattle.tile_map.specs.declared.tiling.Tiling.{Tiling}
use Rattle.tile_cuts.specs.TileParts.{least_told, part_in, tile_places, told_place}

-- it is the first place of the map that the rectangle holds and whose outcome is Over, or none where no such outcome is
abbrev pub TellsFirstHeld : ℕ → Rect → (ℕ → Outcome) → Option ℕ → Type 0
TellsFirstHeld cols r outcome None = (place : ℕ) → HoldsPlace cols r place → IsOk (outcome place)
TellsFirstHeld cols r outcome (Some first) =
    HoldsPlace cols r first × IsErr (outcome first) × ((place : ℕ) → HoldsPlace cols r place → place < first → IsOk (outcome place))

-- a part of a rectangle's outcomes is the cut of the part of the whole map
pub record IsCutOfPart (rows cols : ℕ) (r : Rect) (outcome : ℕ → Outcome) : Type 0 where
  pub cells : (part_in cols r outcome).cells ≡ cut_of cols (part_of outcome (rows * cols)).cells r
  pub over : TellsFirstHeld cols r outcome (told_place cols r (part_in cols r outcome).over)

-- the part of the outcomes at a rectangle's places is the cut of the part of the whole map
abbrev pub AreCuts : Type 0
AreCuts = (rows cols : ℕ) (r : Rect) (outcome : ℕ → Outcome) → IsInMap rows cols r → IsCutOfPart rows cols r outcome

-- the least place that all tiles tell is the first Over of the whole map
abbrev pub TellTheFirstOver : Type 0
TellTheFirstOver =
    (g : Tiling) (outcome : ℕ → Outcome) →
    least_told g (λ tile. (part_in g.cols (rect_of g tile) outcome).over) (tile_count g) ≡ (part_of outcome (g.rows * g.cols)).over

-- the places of all tiles are those of the map
abbrev pub HoldEachPlaceOnce : Type 0
HoldEachPlaceOnce = (g : Tiling) → IsPermutation (range_with_len 0 (g.rows * g.cols)) (tile_places g (tile_count g))
