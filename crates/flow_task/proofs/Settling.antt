-- When all cells of a tile are settled.
use Rattle.std.proofs.Common.{◌≡◌, ℕ, ◌+◌, ◌*◌, ◌<◌, ◌≤◌, List, [], ◌∷◌, length, map, refl, sym, ap, subst, ◌∙◌, arith, inl, inr, suc, zero, true, false, get_or}
use Rattle.std.specs.Prelude.{◌==◌, if◌then◌else◌}
use Rattle.std.specs.List.{Contains, range_with_len}
use Rattle.std.proofs.lemmas.Bool.{cases_Bool, eq-eqb}
use Rattle.std.proofs.lemmas.Bool.Decides.{eqb_tells}
use Rattle.std.proofs.lemmas.List.FromFn.{get_or-range_with_len, length-range_with_len}
use Rattle.drain_meaning.specs.Rules.{Accumulator}
use Rattle.drain_meaning.specs.Transports.{Transport}
use Rattle.drain_meaning.proofs.Callers.{contains_cases, contains_first, contains_later}
use Rattle.tile_map.specs.Rects.{HoldsPlace, places_of}
use Rattle.std.proofs.lemmas.List.{get_or_default, length-map}
use Rattle.tile_map.proofs.Callers.{ascends_over_places, number_of_held, tile_in_map}
use Rattle.border_channel.specs.Laws.{IsTileOf}
use Rattle.border_channel.specs.Settled.{all_settled, is_settled}
use Rattle.border_channel.specs.TileFlows.{TileFlow, in_tile, tile_rect}
use Rattle.border_channel.proofs.Callers.{each-list_all, list_all-each}
use Rattle.border_channel.proofs.Callers.{tile_place}
use Rattle.flow_task.specs.inside.States.{State}
use Rattle.flow_task.specs.inside.Underway.{Distinct, IsUnderway, cell_number, cell_place, tile_size}
use Rattle.flow_task.proofs.Accepting.{agree, any_on, back_to_map, is_queued, number_back, queued_settled}
use Rattle.flow_task.proofs.Counting.{distinct_few}
use Rattle.flow_task.proofs.Receiving.{eqb_same}
use Rattle.flow_task.proofs.Turns.{any_has, map_from, queue_few}

-- ---- a list without repetition in another one

-- where a number stands in a list
abbrev pos_of : List ℕ → ℕ → ℕ
pos_of [] x = 0
pos_of (y ∷ ys) x = if y == x then 0 else suc (pos_of ys x)

pos_at : (xs : List ℕ) (x : ℕ) → Contains xs x → (pos_of xs x < length xs) × (get_or xs (pos_of xs x) 0 ≡ x)
pos_at [] x h = absurd (omega (arith, h.1))
pos_at (y ∷ ys) x h = elim (eqb_tells y x) as (λ _. (pos_of (y ∷ ys) x < length (y ∷ ys)) × (get_or (y ∷ ys) (pos_of (y ∷ ys) x) 0 ≡ x)) [
  | inl t ↦ (let test : (y == x) ≡ true = eq-eqb y x t.1 in rw test (omega arith, t.1))
  | inr f ↦ (let test : (y == x) ≡ false = f.0 in
      let later : Contains ys x = elim (contains_cases y ys x h) as (λ _. Contains ys x) [ inl same ↦ absurd (let one : (y == x) ≡ true = eq-eqb y x (sym same) in cc (one, test)) | inr k ↦ k ] in
      let rest = pos_at ys x later in
      let low = rest.0 in
      rw test (omega (arith, low), rest.1))
]

positions_distinct : (queue xs : List ℕ) → Distinct xs → ((x : ℕ) → Contains xs x → Contains queue x) → Distinct (map (pos_of queue) xs)
positions_distinct queue [] d on = tt
positions_distinct queue (x ∷ xs) d on = (
  (λ h.
      let from = map_from (pos_of queue) xs (pos_of queue x) h in
      let one = (pos_at queue from.at (on from.at (contains_later x xs from.at from.on))).1 in
      let two = (pos_at queue x (on x (contains_first x xs))).1 in
      let same : from.at ≡ x = sym one ∙ (ap (λ (k : ℕ). get_or queue k 0) from.is ∙ two) in
      d.0 (subst (λ (z : ℕ). Contains xs z) same from.on)),
  positions_distinct queue xs d.1 (λ y h. on y (contains_later x xs y h)),
)

no_longer : (queue xs : List ℕ) → Distinct xs → ((x : ℕ) → Contains xs x → Contains queue x) → length xs ≤ length queue
no_longer queue xs d on =
    let few = distinct_few (map (pos_of queue) xs) (length queue) (positions_distinct queue xs d on)
    (λ k h. let from = map_from (pos_of queue) xs k h in subst (λ (z : ℕ). z < length queue) from.is (pos_at queue from.at (on from.at from.on)).0) in
    omega (arith, few, length-map xs (pos_of queue))

range_low : (from n y : ℕ) → Contains (range_with_len from n) y → from ≤ y
range_low from zero y h = absurd (omega (arith, h.1))
range_low from (suc n) y h = elim (contains_cases from (range_with_len (from + 1) n) y h) as (λ _. from ≤ y) [ inl same ↦ omega (arith, same) | inr later ↦ let low = range_low (from + 1) n y later in omega (arith, low) ]

pub range_distinct : (from n : ℕ) → Distinct (range_with_len from n)
range_distinct from zero = tt
range_distinct from (suc n) = ((λ h. let low = range_low (from + 1) n from h in omega (arith, low)), range_distinct (from + 1) n)

pub in_range : (n x : ℕ) → Contains (range_with_len 0 n) x → x < n
in_range n x h =
    let low : h.0 < n = omega (arith, h.1, length-range_with_len 0 n) in
    omega (arith, low, get_or-range_with_len 0 n h.0 x low, h.2)

-- ---- the tile

-- all cells are queued where as many are as the tile has
all_queued : {A : Type 0} (t : Transport) (rule : Accumulator A) (w : TileFlow) (s : State A) → IsUnderway t rule w s (length s.queue) → length s.queue ≡ tile_size w → (i : ℕ) → i < tile_size w → (Contains s.queue i → ⊥) → ⊥
all_queued t rule w s under many i low out =
    let few = distinct_few (i ∷ s.queue) (tile_size w) (out, under.counted.apart) (λ x h. elim (contains_cases i s.queue x h) as (λ _. x < tile_size w) [ inl same ↦ omega (arith, same, low) | inr on ↦ (under.counted.waits x on).0 ]) in
    omega (arith, few, many)

-- All cells are settled exactly where as many are queued as the tile has.
pub settled_count : {A : Type 0} (t : Transport) (rule : Accumulator A) (w : TileFlow) → IsTileOf w → (s : State A) → IsUnderway t rule w s (length s.queue) → (length s.queue == tile_size w) ≡ all_settled t.orient w
settled_count t rule w is s under = agree (length s.queue == tile_size w) (all_settled t.orient w)
    (λ e.
    let many : length s.queue ≡ tile_size w = eqb_same (length s.queue) (tile_size w) e in
    each-list_all (is_settled t.orient w) (places_of w.tiling.cols (tile_rect w)) (λ c h.
    let places = ascends_over_places w.tiling.rows w.tiling.cols (tile_rect w) (tile_in_map w.tiling w.tile is.tile).0 in
    let held : HoldsPlace w.tiling.cols (tile_rect w) c = subst (λ (z : ℕ). HoldsPlace w.tiling.cols (tile_rect w) z) (get_or_default (places_of w.tiling.cols (tile_rect w)) h.0 0 c h.1 ∙ h.2) (places.only h.0 h.1).1 in
    let number = number_of_held w.tiling.cols (tile_rect w) c held in
    let at = tile_place w is (cell_number w c) number.0 in
    let inside : in_tile w c ≡ true = subst (λ (z : ℕ). in_tile w z ≡ true) number.1 at.inside in
    let low : c < length w.drain.codes = back_to_map w is c (subst (λ (z : ℕ). z < w.tiling.rows * w.tiling.cols) number.1 at.below) in
    sym (queued_settled t rule w is s under c inside low)
    ∙ (elim (cases_Bool (is_queued w s.queue c)) as (λ _. is_queued w s.queue c ≡ true) [
      | inl on ↦ on
      | inr off ↦ absurd (all_queued t rule w s under many (cell_number w c) number.0 (λ k. (let found : is_queued w s.queue c ≡ true = any_has (λ j. j == cell_number w c) s.queue (cell_number w c) k (eq-eqb (cell_number w c) (cell_number w c) refl) in cc (found, off))))
    ])))
    (λ e.
    let all = list_all-each (is_settled t.orient w) (places_of w.tiling.cols (tile_rect w)) e in
    let places = ascends_over_places w.tiling.rows w.tiling.cols (tile_rect w) (tile_in_map w.tiling w.tile is.tile).0 in
    let long = no_longer s.queue (range_with_len 0 (tile_size w)) (range_distinct 0 (tile_size w)) (λ i h.
    let low : i < tile_size w = in_range (tile_size w) i h in
    let at = tile_place w is i low in
    let settled = all (cell_place w i) (places.each (cell_place w i) (at.below, at.held)) in
    let queued : is_queued w s.queue (cell_place w i) ≡ true = queued_settled t rule w is s under (cell_place w i) at.inside (back_to_map w is (cell_place w i) at.below) ∙ settled in
    let on = any_on (λ j. j == cell_number w (cell_place w i)) s.queue queued in
    subst (λ (z : ℕ). Contains s.queue z) (eqb_same on.0 (cell_number w (cell_place w i)) on.2 ∙ number_back w is i low) on.1) in
    let few = queue_few t rule w s (length s.queue) under in
    eq-eqb (length s.queue) (tile_size w) (omega (arith, long, few, length-range_with_len 0 (tile_size w))))
