use Rattle.std.proofs.Common.{◌++◌, ◌∷◌, ℕ, List, [], length, sym, subst, arith, inl, inr}
use Rattle.std.proofs.lemmas.Bool.{cases_eq, cases_lt}
use Rattle.std.proofs.lemmas.List.{get_or_append_left, get_or_past, get_or_push, length_push}
use Rattle.cell_values.specs.declared.cell.Cell.{Cell}
use Rattle.cell_values.specs.declared.cell.Cell.TheVariants.{Mv}
use Rattle.cell_values.specs.Kinds.{IsCell}
use Rattle.cell_values.specs.declared.kind.Kind.TheVariants.{Ldd}
use Rattle.tile_map.specs.Cuts.{cell_at}
use Rattle.timed_calls.proofs.drains.codes.Goals as goal

one_more : (cells : List Cell) (code : Cell) → ((place : ℕ) → IsCell Ldd (cell_at cells place)) → IsCell Ldd code → (place : ℕ) → IsCell Ldd (cell_at (cells ++ code ∷ []) place)
one_more cells code before here place = elim (cases_lt place (length cells)) as (λ _. IsCell Ldd (cell_at (cells ++ code ∷ []) place)) [
  | inl low ↦ subst (λ (y : Cell). IsCell Ldd y) (sym (get_or_append_left cells (code ∷ []) Mv place low)) (before place)
  | inr high ↦ elim (cases_eq (length cells) place) as (λ _. IsCell Ldd (cell_at (cells ++ code ∷ []) place)) [
    | inl same ↦ subst (λ (y : Cell). IsCell Ldd y) (sym (get_or_push cells code Mv place same)) here
    | inr other ↦ subst (λ (y : Cell). IsCell Ldd y) (sym (get_or_past (cells ++ code ∷ []) place Mv (omega (arith, length_push cells code)))) tt
  ]
]

pub loop-place-preserved : goal.loop-place-preserved
loop-place-preserved c =
    rw c.in_ok-push.ensures.items (record {
      many = omega (arith, length_push c.loop-place.cells.items c.code_at.result, c.loop-place.invariant.many);
      codes = one_more _ _ c.loop-place.invariant.codes c.code_at.ensures;
    })
