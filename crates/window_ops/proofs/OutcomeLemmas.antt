-- Outcomes, one behind another.
use Rattle.std.proofs.Common.{◌≡◌, ℕ, ◌+◌, List, [], ◌∷◌, ◌++◌, length, refl, sym, ap, ◌∙◌, add-one}
use Rattle.std.specs.Prelude.{Option, Some, None, Ok, Err}
use Rattle.cell_values.specs.declared.cell.Cell.{Cell}
use Rattle.cell_values.specs.declared.cell.Cell.TheVariants.{Mv}
use Rattle.cell_values.specs.declared.cell.Over.{Over}
use Rattle.tile_map.specs.Parts.{Outcome, first_over, or_missing, or_over_at, tabulate}
use Rattle.tile_map.proofs.PartLemmas.{length-tabulate}
use Rattle.window_ops.specs.inside.Outcomes.{AreOutcomes}

-- one more cell leaves what was Over
kept_over : (place : ℕ) (cell : Cell) (found : Option ℕ) → or_over_at place (Ok cell) found ≡ found
kept_over place cell (Some first) = refl
kept_over place cell None = refl

-- one more outcome
pub push_outcome : (f : ℕ → Outcome) (places : ℕ) (cells : List Cell) (over : Option ℕ) (o : Outcome) → AreOutcomes f places cells over → f places ≡ o →
    AreOutcomes f (places + 1) (cells ++ or_missing o ∷ []) (or_over_at places o over)
push_outcome f places cells over o are e = record {
  cells_are =
      ap (λ (xs : List Cell). xs ++ or_missing o ∷ []) are.cells_are
      ∙ (ap (λ (x : Outcome). tabulate (λ place. or_missing (f place)) places ++ or_missing x ∷ []) (sym e)
      ∙ (rw (add-one places) refl));
  over_is =
      ap (or_over_at places o) are.over_is
      ∙ (ap (λ (x : Outcome). or_over_at places x (first_over f places)) (sym e)
      ∙ (rw (add-one places) refl));
}

-- a cell behind the others
pub push_cell : (f : ℕ → Outcome) (places : ℕ) (cells : List Cell) (over : Option ℕ) (cell : Cell) → AreOutcomes f places cells over → f places ≡ Ok cell →
    AreOutcomes f (places + 1) (cells ++ cell ∷ []) over
push_cell f places cells over cell are e =
    let more : AreOutcomes f (places + 1) (cells ++ cell ∷ []) (or_over_at places (Ok cell) over) = push_outcome f places cells over (Ok cell) are e in
    record { cells_are = more.cells_are; over_is = sym (kept_over places cell over) ∙ more.over_is }

-- so many outcomes have so many cells
pub length-outcomes : (f : ℕ → Outcome) (places : ℕ) (cells : List Cell) (over : Option ℕ) → AreOutcomes f places cells over → length cells ≡ places
length-outcomes f places cells over are = ap length are.cells_are ∙ length-tabulate (λ place. or_missing (f place)) places

-- one that is Over behind the others
pub push_over : (f : ℕ → Outcome) (places : ℕ) (cells : List Cell) (over : Option ℕ) (o : Over) → AreOutcomes f places cells over → f places ≡ Err o →
    AreOutcomes f (places + 1) (cells ++ Mv ∷ []) (or_over_at (length cells) (Err o) over)
push_over f places cells over o are e =
    let more : AreOutcomes f (places + 1) (cells ++ Mv ∷ []) (or_over_at places (Err o) over) = push_outcome f places cells over (Err o) are e in
    record { cells_are = more.cells_are; over_is = ap (λ (n : ℕ). or_over_at n (Err o) over) (length-outcomes f places cells over are) ∙ more.over_is }
