-- The first place out of range of a map, and what the tiles tell of it.
use Rattle.std.proofs.Common.{◌≡◌, ℕ, ◌+◌, ◌*◌, ◌/◌, ◌%◌, ◌<◌, ◌≤◌, ◌⊎◌, inl, inr, refl, ap, subst, ◌∙◌, arith, mul-le-mul_left, Option, Some, None, Ok, Err}
use Rattle.std.specs.Prelude.{IsOk, IsErr}
use Rattle.std.proofs.lemmas.Bool.{cases_eq, cases_order}
use Rattle.tile_map.specs.declared.rect.Rect.{Rect}
use Rattle.tile_map.specs.declared.tiling.Tiling.{Tiling}
use Rattle.tile_map.specs.Parts.{Outcome, TellsFirstOver}
use Rattle.tile_map.specs.Rects.{HoldsPlace, cell_count, place_in}
use Rattle.tile_map.specs.Tiles.{rect_of, tile_at, tile_count}
use Rattle.tile_map.proofs.Callers.{holds_cell, tile_in_map, tile_of_place}
use Rattle.tile_cuts.specs.Laws.{TellsFirstHeld}
use Rattle.tile_cuts.specs.TileParts.{part_in, told_place}
use Rattle.tile_cuts.proofs.OverLemmas.{are_cuts}
use Rattle.map_meaning.specs.declared.program.Operation.{Operation}
use Rattle.task_board.specs.inside.Noted.{IsBefore, place_note}

-- an outcome is a cell or Over, and not both
not_both : (o : Outcome) → IsOk o → IsErr o → ⊥
not_both (Ok cell) ok err = cc
not_both (Err over) ok err = cc

-- where the first place of the map lies, the tile tells it
held_is_first : (cols places place : ℕ) (r : Rect) (outcome : ℕ → Outcome) (over : Option ℕ) → HoldsPlace cols r place → TellsFirstOver outcome places (Some place) → TellsFirstHeld cols r outcome (told_place cols r over) →
    (number : ℕ) × (over ≡ Some number) × (place_in cols r number ≡ place)
held_is_first cols places place r outcome None holds first held = absurd (not_both (outcome place) (held place holds) first.1)
held_is_first cols places place r outcome (Some number) holds first held = (
  number,
  refl,
  elim (cases_order (place_in cols r number) place) as (λ _. place_in cols r number ≡ place) [
    | inl e ↦ e
    | inr (inl less) ↦ absurd (not_both (outcome (place_in cols r number)) (first.2 (place_in cols r number) less) held.1)
    | inr (inr more) ↦ absurd (not_both (outcome place) (held.2 place holds more) first.1)
  ],
)

pub tile_tells : (g : Tiling) (outcome : ℕ → Outcome) (place : ℕ) → TellsFirstOver outcome (g.rows * g.cols) (Some place) →
    (number : ℕ) × ((part_in g.cols (rect_of g (tile_at g place)) outcome).over ≡ Some number) × (place_in g.cols (rect_of g (tile_at g place)) number ≡ place)
tile_tells g outcome place first =
    let own = tile_of_place g place first.0 in
    let r = rect_of g (tile_at g place) in
    held_is_first g.cols (g.rows * g.cols) place r outcome (part_in g.cols r outcome).over own.1 first (are_cuts g.rows g.cols r outcome (tile_in_map g (tile_at g place) own.0).0).over

-- where a tile tells a place, the map has its first one there or before
err_place : (cols : ℕ) (r : Rect) (outcome : ℕ → Outcome) (over : Option ℕ) (number : ℕ) → over ≡ Some number → TellsFirstHeld cols r outcome (told_place cols r over) → IsErr (outcome (place_in cols r number))
err_place cols r outcome None number is held = absurd (cc)
err_place cols r outcome (Some k) number is held = let e : k ≡ number = cc in subst (λ (n : ℕ). IsErr (outcome (place_in cols r n))) e held.1

first_is_lower : (outcome : ℕ → Outcome) (places p : ℕ) (over : Option ℕ) → p < places → IsErr (outcome p) → TellsFirstOver outcome places over → (place : ℕ) × (over ≡ Some place) × (place ≤ p)
first_is_lower outcome places p None lt err first = absurd (not_both (outcome p) (first p lt) err)
first_is_lower outcome places p (Some place) lt err first = (
  place,
  refl,
  elim (cases_order p place) as (λ _. place ≤ p) [
    | inl e ↦ omega arith
    | inr (inl less) ↦ absurd (not_both (outcome p) (first.2 p less) err)
    | inr (inr more) ↦ omega arith
  ],
)

pub map_tells : (g : Tiling) (outcome : ℕ → Outcome) (tile number : ℕ) (over : Option ℕ) → tile < tile_count g → number < cell_count (rect_of g tile) → (part_in g.cols (rect_of g tile) outcome).over ≡ Some number →
    TellsFirstOver outcome (g.rows * g.cols) over → (place : ℕ) × (over ≡ Some place) × (place ≤ place_in g.cols (rect_of g tile) number)
map_tells g outcome tile number over below few is first =
    let r = rect_of g tile in
    let in_map = (tile_in_map g tile below).0 in
    let err = err_place g.cols r outcome (part_in g.cols r outcome).over number is (are_cuts g.rows g.cols r outcome in_map).over in
    first_is_lower outcome (g.rows * g.cols) (place_in g.cols r number) over (holds_cell g.rows g.cols r number in_map few).1 err first

-- ---- the order of places

-- of two places of one operation the first one comes before, or they are one
pub places_in_order : (cols step : ℕ) (o : Operation) (a b : ℕ) → 0 < cols → a ≤ b → (place_note cols step o a ≡ place_note cols step o b) ⊎ IsBefore (place_note cols step o a) (place_note cols step o b)
places_in_order cols step o a b some le =
    let ea : cols * (a / cols) + a % cols ≡ a = omega arith in
    let eb : cols * (b / cols) + b % cols ≡ b = omega arith in
    let ra : a % cols < cols = omega arith in
    let rb : b % cols < cols = omega arith in
    elim (cases_order (a / cols) (b / cols)) as (λ _. (place_note cols step o a ≡ place_note cols step o b) ⊎ IsBefore (place_note cols step o a) (place_note cols step o b)) [
      | inl e ↦ elim (cases_eq (a % cols) (b % cols)) as (λ _. (place_note cols step o a ≡ place_note cols step o b) ⊎ IsBefore (place_note cols step o a) (place_note cols step o b)) [
        | inl f ↦ inl (ap (λ (n : ℕ). record { step = step; statement = o.statement; operation = o.number; row = n + 1; col = a % cols + 1 }) e ∙ ap (λ (n : ℕ). record { step = step; statement = o.statement; operation = o.number; row = b / cols + 1; col = n + 1 }) f)
        | inr ne ↦
            let same : cols * (a / cols) ≡ cols * (b / cols) = ap (λ (n : ℕ). cols * n) e in
            inr (inr (refl, inr (refl, inr (refl, inr (ap (λ (n : ℕ). n + 1) e, omega arith)))))
      ]
      | inr (inl less) ↦ inr (inr (refl, inr (refl, inr (refl, inl (omega arith)))))
      | inr (inr more) ↦ absurd (lower cols (a / cols) (b / cols) (a % cols) (b % cols) a b more ea eb rb le)
    ]
  where
    lower : (c q p r s a b : ℕ) → p < q → c * q + r ≡ a → c * p + s ≡ b → s < c → a ≤ b → ⊥
    lower c q p r s a b less ea eb few le =
        let k : c * (p + 1) ≤ c * q = mul-le-mul_left c (omega arith) in
        let e : c * (p + 1) ≡ c * p + c = omega arith in
        omega arith
