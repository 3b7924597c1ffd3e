-- First Overs of rectangles and tiles.
use Rattle.std.proofs.Common.{◌≡◌, ℕ, zero, suc, ◌<◌, ◌≤◌, ◌*◌, refl, ap, subst, inl, inr, arith}
use Rattle.std.specs.Prelude.{Option, Some, None, Ok, Err, IsOk, IsErr, min}
use Rattle.std.proofs.lemmas.Bool.{cases_eq, cases_lt, cases_order}
use Rattle.tile_map.specs.declared.rect.Rect.{Rect}
use Rattle.tile_map.specs.declared.tiling.Tiling.{Tiling}
use Rattle.tile_map.specs.Parts.{Outcome, TellsFirstOver, first_over}
use Rattle.tile_map.specs.Rects.{HoldsPlace, IsInMap, cell_count, number_in, place_in}
use Rattle.tile_map.specs.Tiles.{rect_of, tile_at, tile_count}
use Rattle.tile_map.proofs.Callers.{cells-part_of-cut, holds_cell, is_part-part_of, number_of_held, tile_in_map, tile_of_place}
use Rattle.tile_map.proofs.RectLemmas.{places_ascend}
use Rattle.tile_cuts.specs.Laws.{AreCuts, TellTheFirstOver, TellsFirstHeld}
use Rattle.tile_cuts.specs.TileParts.{least_told, lesser, part_in, told_place}

-- ---- a rectangle

-- a place before another of a rectangle has a lower number
number_before : (rows cols : ℕ) (r : Rect) (place i : ℕ) → IsInMap rows cols r → HoldsPlace cols r place → i < cell_count r → place < place_in cols r i → number_in cols r place < i
number_before rows cols r place i in_map holds below before =
    let own = number_of_held cols r place holds in
    elim (cases_order (number_in cols r place) i) as (λ x. number_in cols r place < i) [
      | inl same ↦ absurd (let e : place_in cols r (number_in cols r place) ≡ place_in cols r i = ap (place_in cols r) same in omega (arith, e, own.1))
      | inr (inl less) ↦ less
      | inr (inr more) ↦ absurd (let e = places_ascend cols r i (number_in cols r place) in_map.right more own.0 in omega (arith, e, own.1))
    ]

-- what is first by number is first by place
first_held : (rows cols : ℕ) (r : Rect) (outcome : ℕ → Outcome) (over : Option ℕ) → IsInMap rows cols r → TellsFirstOver (λ i. outcome (place_in cols r i)) (cell_count r) over → TellsFirstHeld cols r outcome (told_place cols r over)
first_held rows cols r outcome None in_map none = λ place holds.
    let own = number_of_held cols r place holds in
    subst (λ (p : ℕ). IsOk (outcome p)) own.1 (none (number_in cols r place) own.0)
first_held rows cols r outcome (Some first) in_map (below, err, before) = (
  (holds_cell rows cols r first in_map below).0,
  err,
  λ place holds less.
      let own = number_of_held cols r place holds in
      subst (λ (p : ℕ). IsOk (outcome p)) own.1 (before (number_in cols r place) (number_before rows cols r place first in_map holds below less)),
)

-- the part of a rectangle is a cut
pub are_cuts : AreCuts
unfolding part_in
are_cuts rows cols r outcome in_map = record {
  cells = cells-part_of-cut rows cols r outcome in_map;
  over = first_held rows cols r outcome (first_over (λ i. outcome (place_in cols r i)) (cell_count r)) in_map (is_part-part_of (λ i. outcome (place_in cols r i)) (cell_count r)).over;
}

-- ---- tiles

-- it is the first Over of the places of the first so many tiles
abbrev TellsFirstAmong : Tiling → (ℕ → Outcome) → ℕ → Option ℕ → Type 0
TellsFirstAmong g outcome tiles None = (place : ℕ) → place < g.rows * g.cols → tile_at g place < tiles → IsOk (outcome place)
TellsFirstAmong g outcome tiles (Some first) =
    (first < g.rows * g.cols) × IsErr (outcome first) × ((place : ℕ) → place < g.rows * g.cols → tile_at g place < tiles → place < first → IsOk (outcome place))

-- a place of a tile that is the last of some
of_last : (g : Tiling) (place tile : ℕ) → place < g.rows * g.cols → tile_at g place ≡ tile → HoldsPlace g.cols (rect_of g tile) place
of_last g place tile below is = subst (λ (t : ℕ). HoldsPlace g.cols (rect_of g t) place) is (tile_of_place g place below).1

-- a place that a tile holds is one of the map
in_map_of : (g : Tiling) (tile place : ℕ) → tile < tile_count g → HoldsPlace g.cols (rect_of g tile) place → place < g.rows * g.cols
in_map_of g tile place below holds =
    let r = rect_of g tile in
    let own = number_of_held g.cols r place holds in
    let cell = holds_cell g.rows g.cols r (number_in g.cols r place) (tile_in_map g tile below).0 own.0 in
    subst (λ (p : ℕ). p < g.rows * g.cols) own.1 cell.1

-- one more tile
one_more : (g : Tiling) (outcome : ℕ → Outcome) (tile : ℕ) (a b : Option ℕ) → tile < tile_count g → TellsFirstAmong g outcome tile a → TellsFirstHeld g.cols (rect_of g tile) outcome b → TellsFirstAmong g outcome (suc tile) (lesser a b)
one_more g outcome tile None None below among held = λ place in_map less.
    elim (cases_eq (tile_at g place) tile) as (λ x. IsOk (outcome place)) [
      | inl same ↦ held place (of_last g place tile in_map same)
      | inr other ↦ among place in_map (omega arith)
    ]
one_more g outcome tile None (Some q) below among (holds, err, before) = (
  in_map_of g tile q below holds,
  err,
  λ place in_map less first.
      elim (cases_eq (tile_at g place) tile) as (λ x. IsOk (outcome place)) [
        | inl same ↦ before place (of_last g place tile in_map same) first
        | inr other ↦ among place in_map (omega arith)
      ],
)
one_more g outcome tile (Some p) None below (inside, err, before) held = (
  inside,
  err,
  λ place in_map less first.
      elim (cases_eq (tile_at g place) tile) as (λ x. IsOk (outcome place)) [
        | inl same ↦ held place (of_last g place tile in_map same)
        | inr other ↦ before place in_map (omega arith) first
      ],
)
one_more g outcome tile (Some p) (Some q) below (inside, err, before) (holds, err', before') = (
  omega arith,
  elim (cases_lt p q) as (λ x. IsErr (outcome (min p q))) [
    | inl less ↦ let e : p ≡ min p q = omega arith in subst (λ (k : ℕ). IsErr (outcome k)) e err
    | inr more ↦ let e : q ≡ min p q = omega arith in subst (λ (k : ℕ). IsErr (outcome k)) e err'
  ],
  λ place in_map less first.
      elim (cases_eq (tile_at g place) tile) as (λ x. IsOk (outcome place)) [
        | inl same ↦ before' place (of_last g place tile in_map same) (omega arith)
        | inr other ↦ before place in_map (omega arith) (omega arith)
      ],
)

among_all : (g : Tiling) (outcome : ℕ → Outcome) (tiles : ℕ) → tiles ≤ tile_count g → TellsFirstAmong g outcome tiles (least_told g (λ tile. (part_in g.cols (rect_of g tile) outcome).over) tiles)
among_all g outcome zero below = λ place in_map less. absurd (omega arith)
among_all g outcome (suc tile) below =
    let overs = λ (t : ℕ). (part_in g.cols (rect_of g t) outcome).over in
    let r = rect_of g tile in
    let in_map = (tile_in_map g tile (omega arith)).0 in
    one_more g outcome tile (least_told g overs tile) (told_place g.cols r (overs tile)) (omega arith) (among_all g outcome tile (omega arith)) (are_cuts g.rows g.cols r outcome in_map).over

-- the first of all tiles is the first of the map
first_of_all : (g : Tiling) (outcome : ℕ → Outcome) (over : Option ℕ) → TellsFirstAmong g outcome (tile_count g) over → TellsFirstOver outcome (g.rows * g.cols) over
first_of_all g outcome None among = λ place in_map. among place in_map (tile_of_place g place in_map).0
first_of_all g outcome (Some first) (inside, err, before) = (inside, err, λ place less. before place (omega arith) (tile_of_place g place (let h : place < g.rows * g.cols = omega arith in h)).0 less)

-- an outcome is a cell or Over, and not both
not_both : (o : Outcome) → IsOk o → IsErr o → ⊥
not_both (Ok cell) ok err = cc
not_both (Err over) ok err = cc

one_first : (outcome : ℕ → Outcome) (n : ℕ) (a b : Option ℕ) → TellsFirstOver outcome n a → TellsFirstOver outcome n b → a ≡ b
one_first outcome n None None f h = refl
one_first outcome n None (Some q) f h = absurd (not_both (outcome q) (f q h.0) h.1)
one_first outcome n (Some p) None f h = absurd (not_both (outcome p) (h p f.0) f.1)
one_first outcome n (Some p) (Some q) f h = elim (cases_order p q) as (λ x. Some p ≡ Some q) [
  | inl e ↦ ap Some e
  | inr (inl less) ↦ absurd (not_both (outcome p) (h.2 p less) f.1)
  | inr (inr less) ↦ absurd (not_both (outcome q) (f.2 q less) h.1)
]

pub tell_the_first : TellTheFirstOver
tell_the_first g outcome =
    let n : ℕ = g.rows * g.cols in
    let told = least_told g (λ tile. (part_in g.cols (rect_of g tile) outcome).over) (tile_count g) in
    one_first outcome n told (first_over outcome n) (first_of_all g outcome told (among_all g outcome (tile_count g) (omega arith))) (is_part-part_of outcome n).over
