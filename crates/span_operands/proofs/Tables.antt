-- Maps by their places.
use Rattle.std.proofs.Common.{◌≡◌, ℕ, ◌<◌, length, sym, subst, ◌∙◌, inl, inr, arith}
use Rattle.std.proofs.lemmas.Bool.{cases_lt}
use Rattle.std.proofs.lemmas.List.{get_or_default, get_or_past, same_lists}
use Rattle.cell_values.specs.declared.cell.Cell.{Cell}
use Rattle.cell_values.specs.declared.cell.Cell.TheVariants.{Mv}
use Rattle.cell_values.specs.declared.kind.Kind.TheVariants.{Scalar}
use Rattle.cell_values.specs.Kinds.{IsCell}
use Rattle.tile_map.specs.Cuts.{cell_at}
use Rattle.tile_map.specs.Parts.{tabulate}
use Rattle.tile_map.proofs.PartLemmas.{get_or-tabulate, length-tabulate}
use Rattle.map_meaning.specs.Maps.{WholeMap}

-- a map is that of its cells
pub tabulate-cell_at : (m : WholeMap) (places : ℕ) → length m ≡ places → tabulate (cell_at m) places ≡ m
tabulate-cell_at m places size =
    let count = length-tabulate (cell_at m) places in
    same_lists (tabulate (cell_at m) places) m (count ∙ sym size) (λ k d less.
    let below : k < places = subst (λ (n : ℕ). k < n) count less in
    get_or-tabulate (cell_at m) places k d below ∙ get_or_default m k Mv d (subst (λ (n : ℕ). k < n) (sym size) below))

-- the cell of a tabulated map is that of the function
pub cell_at-tabulate : (f : ℕ → Cell) (places place : ℕ) → place < places → cell_at (tabulate f places) place ≡ f place
cell_at-tabulate f places place below = get_or-tabulate f places place Mv below

-- where all cells of a tabulated map are scalars, each of its cells is one or missing
pub tabulate-scalars : (f : ℕ → Cell) (places : ℕ) → ((place : ℕ) → place < places → IsCell Scalar (f place)) → (place : ℕ) → IsCell Scalar (cell_at (tabulate f places) place)
tabulate-scalars f places scalars place = elim (cases_lt place places) as (λ x. IsCell Scalar (cell_at (tabulate f places) place)) [
  | inl below ↦ subst (IsCell Scalar) (sym (cell_at-tabulate f places place below)) (scalars place below)
  | inr past ↦ subst (IsCell Scalar) (sym (get_or_past (tabulate f places) place Mv (let count = length-tabulate f places in omega arith))) tt
]
