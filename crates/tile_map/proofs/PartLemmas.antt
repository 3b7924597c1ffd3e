-- Parts of an operation.
use Rattle.std.proofs.Common.{◌≡◌, ℕ, zero, suc, ◌<◌, List, [], ◌∷◌, ◌++◌, length, get_or, refl, sym, ap, subst, ◌∙◌, arith, inl, inr}
use Rattle.std.specs.Prelude.{Option, Some, None, Ok, Err, IsOk, IsErr}
use Rattle.std.proofs.lemmas.Bool.{cases_eq, cases_order}
use Rattle.std.proofs.lemmas.List.{same_lists, get_or_append_left, get_or_default, get_or_push, length_push}
use Rattle.cell_values.specs.declared.cell.Cell.{Cell}
use Rattle.cell_values.specs.declared.cell.Cell.TheVariants.{Mv}
use Rattle.tile_map.specs.declared.part.Part.{Part}
use Rattle.tile_map.specs.Parts.{IsPart, Outcome, TellsFirstOver, first_over, or_missing, or_over_at, part_of, tabulate}
use Rattle.tile_map.specs.Laws.{MarkTheirOvers}

-- an outcome is a cell or Over, and not both
not_both : (o : Outcome) → IsOk o → IsErr o → ⊥
not_both (Ok cell) ok err = cc
not_both (Err over) ok err = cc

-- one more place
more : (outcome : ℕ → Outcome) (n : ℕ) (o : Outcome) (found : Option ℕ) → outcome n ≡ o → TellsFirstOver outcome n found → TellsFirstOver outcome (suc n) (or_over_at n o found)
more outcome n o (Some first) e (below, over, before) = (omega arith, over, before)
more outcome n (Ok cell) None e none = λ place less. elim (cases_eq place n) as (λ x. IsOk (outcome place)) [
  | inl same ↦ subst (λ (p : ℕ). IsOk (outcome p)) (sym same) (subst IsOk (sym e) refl)
  | inr other ↦ none place (omega arith)
]
more outcome n (Err over) None e none = (omega arith, subst IsErr (sym e) refl, none)

pub tells-first_over : (outcome : ℕ → Outcome) (n : ℕ) → TellsFirstOver outcome n (first_over outcome n)
tells-first_over outcome zero = λ place less. absurd (omega arith)
tells-first_over outcome (suc n) = more outcome n (outcome n) (first_over outcome n) refl (tells-first_over outcome n)

-- there is one first Over
one_first : (outcome : ℕ → Outcome) (n : ℕ) (a b : Option ℕ) → TellsFirstOver outcome n a → TellsFirstOver outcome n b → a ≡ b
one_first outcome n None None f h = refl
one_first outcome n None (Some q) f h = absurd (not_both (outcome q) (f q h.0) h.1)
one_first outcome n (Some p) None f h = absurd (not_both (outcome p) (h p f.0) f.1)
one_first outcome n (Some p) (Some q) f h = elim (cases_order p q) as (λ x. Some p ≡ Some q) [
  | inl e ↦ ap Some e
  | inr (inl less) ↦ absurd (not_both (outcome p) (h.2 p less) f.1)
  | inr (inr less) ↦ absurd (not_both (outcome q) (f.2 q less) h.1)
]

-- a table has a value for each place
pub length-tabulate : {A : Type 0} (f : ℕ → A) (places : ℕ) → length (tabulate f places) ≡ places
length-tabulate f zero = refl
length-tabulate f (suc places) = length_push (tabulate f places) (f places) ∙ (let e = length-tabulate f places in omega arith)

pub get_or-tabulate : {A : Type 0} (f : ℕ → A) (places place : ℕ) (d : A) → place < places → get_or (tabulate f places) place d ≡ f place
get_or-tabulate f zero place d below = absurd (omega arith)
get_or-tabulate f (suc places) place d below = elim (cases_eq place places) as (λ x. get_or (tabulate f (suc places)) place d ≡ f place) [
  | inl e ↦ get_or_push (tabulate f places) (f places) d place (length-tabulate f places ∙ sym e) ∙ ap f (sym e)
  | inr other ↦
      get_or_append_left (tabulate f places) (f places ∷ []) d place (let e = length-tabulate f places in omega arith)
      ∙ get_or-tabulate f places place d (omega arith)
]

-- tables of functions that agree at each place are the same
pub tabulate-same : {A : Type 0} (f g : ℕ → A) (n : ℕ) → ((place : ℕ) → place < n → f place ≡ g place) → tabulate f n ≡ tabulate g n
tabulate-same f g zero same = refl
tabulate-same {A} f g (suc n) same =
    ap (λ (xs : List A). xs ++ f n ∷ []) (tabulate-same f g n (λ place below. same place (omega arith)))
    ∙ ap (λ (x : A). tabulate g n ++ x ∷ []) (same n (omega arith))

-- outcomes that agree at each place have one first Over
pub first_over-same : (f g : ℕ → Outcome) (n : ℕ) → ((place : ℕ) → place < n → f place ≡ g place) → first_over f n ≡ first_over g n
first_over-same f g zero same = refl
first_over-same f g (suc n) same =
    ap (or_over_at n (f n)) (first_over-same f g n (λ place below. same place (omega arith)))
    ∙ ap (λ (o : Outcome). or_over_at n o (first_over g n)) (same n (omega arith))

-- outcomes that agree at each place have one part
pub part_of-same : (f g : ℕ → Outcome) (n : ℕ) → ((place : ℕ) → place < n → f place ≡ g place) → part_of f n ≡ part_of g n
part_of-same f g n same =
    ap (λ (xs : List Cell). let p : Part = record { cells = xs; over = first_over f n } in p)
    (tabulate-same (λ place. or_missing (f place)) (λ place. or_missing (g place)) n (λ place below. ap or_missing (same place below)))
    ∙ ap (λ (o : Option ℕ). let p : Part = record { cells = tabulate (λ place. or_missing (g place)) n; over = o } in p) (first_over-same f g n same)

-- the part of the outcomes is what it is said to be
pub is_part-part_of : (outcome : ℕ → Outcome) (places : ℕ) → IsPart outcome places (part_of outcome places)
is_part-part_of outcome places = record {
  size = length-tabulate (λ place. or_missing (outcome place)) places;
  cells = λ place below. get_or-tabulate (λ n. or_missing (outcome n)) places place Mv below;
  over = tells-first_over outcome places;
}

pub marks_its_overs : MarkTheirOvers
marks_its_overs outcome places part = (
  (λ is.
      let value = part_of outcome places in
      let made = is_part-part_of outcome places in
      let cells : part.cells ≡ value.cells =
      same_lists part.cells value.cells (is.size ∙ sym made.size)
      (λ k d below.
      let b : k < places = subst (λ (n : ℕ). k < n) is.size below in
      get_or_default part.cells k d Mv below ∙ (is.cells k b ∙ (sym (made.cells k b) ∙ get_or_default value.cells k Mv d (subst (λ (n : ℕ). k < n) (sym made.size) b)))) in
      ap (λ (xs : List Cell). let p : Part = record { cells = xs; over = part.over } in p) cells
      ∙ ap (λ (o : Option ℕ). let p : Part = record { cells = value.cells; over = o } in p) (one_first outcome places part.over value.over is.over made.over)),
  (λ e. subst (IsPart outcome places) (sym e) (is_part-part_of outcome places)),
)
