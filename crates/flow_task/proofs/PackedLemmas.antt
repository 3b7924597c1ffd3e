-- Cells by their numbers.
use Rattle.std.proofs.Common.{◌≡◌, ℕ, ◌<◌, List, [], ◌∷◌, length, map, refl, ap, ◌∙◌, subst, arith, suc, zero, Bool, true, false, get_or}
use Rattle.std.specs.Prelude.{ℤ, ◌≤ℤ◌, if◌then◌else◌}
use Rattle.std.specs.Ordering.{int_eq}
use Rattle.std.proofs.lemmas.Bool.Decides.{Decides-int_eq}
use Rattle.std.proofs.lemmas.Int.{ints}
use Rattle.cell_values.specs.declared.cell.Cell.{Cell}
use Rattle.cell_values.specs.declared.cell.Cell.TheVariants.{Mv, Val}
use Rattle.cell_values.specs.declared.kind.Kind.TheVariants.{Scalar}
use Rattle.cell_values.specs.Kinds.{IsCell, IsValue, least}
use Rattle.tile_map.specs.Cuts.{cell_at}
use Rattle.flow_task.specs.inside.Packed.{kept_missing, packed_number, unpacked_cell}

-- a scalar is not the number that is kept of a missing cell
number_back : (n : ℤ) → IsValue Scalar n → (o : Bool) → int_eq n kept_missing ≡ o → (if o then Mv else Val n) ≡ Val n
number_back n h false is = refl
number_back n h true is =
    let low : least Scalar ≤ℤ kept_missing = subst (λ (z : ℤ). least Scalar ≤ℤ z) ((Decides-int_eq n kept_missing).0 is) h.least in
    absurd (omega (arith, ints, low))

-- a cell of its number
cell_back : (cell : Cell) → IsCell Scalar cell → unpacked_cell (packed_number cell) ≡ cell
cell_back Mv h = ap (λ (o : Bool). if o then Mv else Val kept_missing) ((Decides-int_eq kept_missing kept_missing).1 refl)
cell_back (Val n) h = number_back n h (int_eq n kept_missing) refl

-- the cells of their numbers
cells_back : (cells : List Cell) → ((i : ℕ) → IsCell Scalar (cell_at cells i)) → map unpacked_cell (map packed_number cells) ≡ cells
cells_back [] h = refl
cells_back (x ∷ cells) h =
    ap (λ (y : Cell). y ∷ map unpacked_cell (map packed_number cells)) (cell_back x (h zero)) ∙ ap (λ (y : List Cell). x ∷ y) (cells_back cells (λ i. h (suc i)))

-- what was packed is there
pub packed_all : (cells : List Cell) (numbers : List ℤ) → ((i : ℕ) → IsCell Scalar (cell_at cells i)) → numbers ≡ map packed_number cells → map unpacked_cell numbers ≡ cells
packed_all cells numbers h is = ap (map unpacked_cell) is ∙ cells_back cells h

-- the cell at a place
pub packed_at : (numbers : List ℤ) (i : ℕ) (n z : ℤ) → i < length numbers → n ≡ get_or numbers i z → unpacked_cell n ≡ cell_at (map unpacked_cell numbers) i
packed_at [] i n z low at = absurd (omega (arith, low))
packed_at (m ∷ numbers) zero n z low at = ap unpacked_cell at
packed_at (m ∷ numbers) (suc i) n z low at = packed_at numbers i n z (omega (arith, low)) at
