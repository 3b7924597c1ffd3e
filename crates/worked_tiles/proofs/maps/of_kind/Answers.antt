use Rattle.std.proofs.Common.{◌++◌, ◌∷◌, ℕ, List, [], length, sym, subst, arith, inl, inr}
use Rattle.std.proofs.lemmas.Bool.{cases_eq, cases_lt}
use Rattle.std.proofs.lemmas.List.{get_or_append_left, get_or_past, get_or_push, length_push}
use Rattle.cell_values.specs.declared.cell.Cell.{Cell}
use Rattle.cell_values.specs.declared.cell.Cell.TheVariants.{Mv}
use Rattle.cell_values.specs.declared.kind.Kind.{Kind}
use Rattle.cell_values.specs.Kinds.{IsCell}
use Rattle.tile_map.specs.Cuts.{cell_at}
use Rattle.worked_tiles.proofs.maps.of_kind.Goals as goal

one_more : (kind : Kind) (cells : List Cell) (cell : Cell) → ((place : ℕ) → IsCell kind (cell_at cells place)) → IsCell kind cell → (place : ℕ) → IsCell kind (cell_at (cells ++ cell ∷ []) place)
one_more kind cells cell before here place = elim (cases_lt place (length cells)) as (λ _. IsCell kind (cell_at (cells ++ cell ∷ []) place)) [
  | inl low ↦ subst (λ (y : Cell). IsCell kind y) (sym (get_or_append_left cells (cell ∷ []) Mv place low)) (before place)
  | inr high ↦ elim (cases_eq (length cells) place) as (λ _. IsCell kind (cell_at (cells ++ cell ∷ []) place)) [
    | inl same ↦ subst (λ (y : Cell). IsCell kind y) (sym (get_or_push cells cell Mv place same)) here
    | inr other ↦ subst (λ (y : Cell). IsCell kind y) (sym (get_or_past (cells ++ cell ∷ []) place Mv (omega (arith, length_push cells cell)))) tt
  ]
]

pub loop-cell-preserved : goal.loop-cell-preserved
loop-cell-preserved c = rw c.in_ok-push.ensures.items (one_more _ _ _ c.loop-cell.invariant c.fitted.ensures)
