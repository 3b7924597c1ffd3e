-- What holds of all lists of numbers, of all windows and of all areas.
use Rattle.std.specs.Prelude.{◌≡◌, ◌≢◌, ◌<◌, ◌*◌, ◌↔◌, ◌⊎◌, ℕ, ℤ, List, ◌∷◌, All, Ok}
use Rattle.cell_values.specs.declared.cell.Cell.{Cell}
use Rattle.cell_values.specs.declared.cell.Cell.TheVariants.{Mv}
use Rattle.tile_map.specs.Cuts.{cell_at}
use Rattle.tile_map.specs.Rects.{HoldsPlace}
use Rattle.region_meaning.specs.declared.area.AreaOp.{AreaOp}
use Rattle.region_meaning.specs.declared.area.AreaOp.TheVariants.{Area}
use Rattle.region_meaning.specs.declared.window.WindowOp.{WindowOp}
use Rattle.region_meaning.specs.AreaResults.{area_outcome}
use Rattle.region_meaning.specs.Areas.{AreaPlace}
use Rattle.region_meaning.specs.Numbers.{IsMostFrequent}
use Rattle.region_meaning.specs.Windows.{window_of, window_outcome}
use Rattle.region_meaning.specs.inside.MostFrequent.{most_frequent}

-- the majority of numbers is their most frequent one, the least of several, and no other number is
abbrev pub MajorityIsMostFrequent : Type 0
MajorityIsMostFrequent =
    (first : ℤ) (rest : List ℤ) (number : ℤ) → IsMostFrequent (first ∷ rest) number ↔ (number ≡ most_frequent (first ∷ rest) first)

-- a window gives a missing value exactly where no cell in it has a value
abbrev pub WindowsAreMissing : Type 0
WindowsAreMissing =
    (op : WindowOp) (rows cols k : ℕ) (cells : List Cell) (place : ℕ) → place < rows * cols →
    (window_outcome op rows cols k cells place ≡ Ok Mv)
    ↔ ((other : ℕ) → HoldsPlace cols (window_of rows cols k place) other → cell_at cells other ≡ Mv)

-- a place counts in the area of a class: it is of the class, and has a value, or the operation counts all cells of the class
abbrev pub CountsIn : AreaOp → Cell → AreaPlace → Type 0
CountsIn op class p = (p.area ≡ class) × ((op ≡ Area) ⊎ (p.value ≢ Mv))

-- an area gives a missing value exactly where the class is missing, or no place counts in it
abbrev pub AreasAreMissing : Type 0
AreasAreMissing =
    (op : AreaOp) (places : List AreaPlace) (class : Cell) →
    (area_outcome op places class ≡ Ok Mv) ↔ ((class ≡ Mv) ⊎ All (λ p. CountsIn op class p → ⊥) places)
