-- Places of a tile, their numbers, and lists over its cells.
use Rattle.std.proofs.Common.{◌≡◌, ℕ, ◌+◌, ◌-◌, ◌*◌, ◌/◌, ◌%◌, ◌<◌, ◌≤◌, List, [], ◌∷◌, ◌++◌, append_assoc, length, length-append, map, min, take, refl, sym, ap, subst, ◌∙◌, arith, suc, zero, inl, inr, Bool, true, false, get_or}
use Rattle.std.specs.Prelude.{◌==◌}
use Rattle.std.specs.List.{filter, range_with_len}
use Rattle.std.proofs.Math.Seq.{take-suc}
use Rattle.std.proofs.lemmas.Bool.{eq-eqb}
use Rattle.std.proofs.lemmas.Bool.Decides.{eqb_tells}
use Rattle.std.proofs.lemmas.List.{append-nil, length-map, map-append}
use Rattle.std.proofs.lemmas.List.Elements.{filter-append}
use Rattle.std.proofs.lemmas.List.FromFn.{length-range_with_len, map-range_with_len_more}
use Rattle.std.proofs.lemmas.List.Sums.{count_by-le-length, length-filter}
use Rattle.std.proofs.lemmas.Nat.{mod_below, mul-le}
use Rattle.tile_map.specs.Rects.{HoldsPlace}
use Rattle.tile_map.specs.Tiles.{rect_of, tile_at}
use Rattle.tile_map.specs.declared.tiling.Tiling.{Tiling}
use Rattle.tile_map.proofs.Callers.{range-append, tile_of_place, tile_only}
use Rattle.drain_meaning.specs.declared.next.Next.{Next}
use Rattle.drain_meaning.specs.declared.next.Next.TheVariants as next
use Rattle.drain_meaning.specs.declared.op.Orient.{Orient}
use Rattle.drain_meaning.specs.declared.op.Orient.TheVariants.{Down, Up}
use Rattle.drain_meaning.specs.Drains.{DrainMap, next_at}
use Rattle.drain_meaning.specs.Sound.{IsDrain}
use Rattle.drain_meaning.specs.Transports.{drains_into, outlet}
use Rattle.border_channel.specs.Edges.{fed_by}
use Rattle.border_channel.specs.inside.Draining.{draining}
use Rattle.border_channel.proofs.DrainingLemmas.{draining_split, row_more, rows_above, rows_below}
use Rattle.flow_task.specs.inside.Begins.{fed_in_tile, lies_in_tile, over_cells, tile_number, tile_numbers, tile_place_of}
use Rattle.flow_task.proofs.Receiving.{eqb_same}

-- ---- places of a tile

-- a place that the tile's rectangle does not hold
pub lies_out : (g : Tiling) (tile place : ℕ) → place < g.rows * g.cols → (HoldsPlace g.cols (rect_of g tile) place → ⊥) → false ≡ lies_in_tile g tile place
lies_out g tile place low out = elim (eqb_tells (tile_at g place) tile) as (λ _. false ≡ lies_in_tile g tile place) [
  | inl same ↦ absurd (out (subst (λ (t : ℕ). HoldsPlace g.cols (rect_of g t) place) same.1 (tile_of_place g place low).1))
  | inr other ↦ sym other.0
]

-- one that it holds
pub lies_there : (g : Tiling) (tile place : ℕ) → HoldsPlace g.cols (rect_of g tile) place → true ≡ lies_in_tile g tile place
lies_there g tile place held = sym (eq-eqb (tile_at g place) tile (sym (tile_only g place tile held)))

-- and the other way round
pub held_where : (g : Tiling) (tile place : ℕ) → place < g.rows * g.cols → lies_in_tile g tile place ≡ true → HoldsPlace g.cols (rect_of g tile) place
held_where g tile place low e = subst (λ (t : ℕ). HoldsPlace g.cols (rect_of g t) place) (eqb_same (tile_at g place) tile e) (tile_of_place g place low).1

-- ---- lists that grow

-- a number other than 0
pub not_zero : (x : ℕ) → (x ≡ 0 → ⊥) → (x == 0) ≡ false
not_zero x ne = elim (eqb_tells x 0) as (λ _. (x == 0) ≡ false) [ inl t ↦ absurd (ne t.1) | inr t ↦ t.0 ]

-- one more of the first numbers passes a test, or does not
filter_more : (p : ℕ → Bool) (n : ℕ) → filter p (range_with_len 0 (n + 1)) ≡ filter p (range_with_len 0 n) ++ filter p (n ∷ [])
filter_more p n =
    let from : 0 + n ≡ n = omega arith in
    ap (filter p) (range-append 0 n 1 ∙ ap (λ (k : ℕ). range_with_len 0 n ++ range_with_len k 1) from)
    ∙ filter-append p (range_with_len 0 n) (n ∷ [])

pub filter_on : (p : ℕ → Bool) (n : ℕ) (old new : List ℕ) → old ≡ filter p (range_with_len 0 n) → p n ≡ true → new ≡ old ++ n ∷ [] → new ≡ filter p (range_with_len 0 (n + 1))
filter_on p n old new is on e =
    let one : filter p (n ∷ []) ≡ n ∷ [] = rw on refl in
    e ∙ (ap (λ (y : List ℕ). y ++ n ∷ []) is ∙ (ap (λ (y : List ℕ). filter p (range_with_len 0 n) ++ y) (sym one) ∙ sym (filter_more p n)))

pub filter_off : (p : ℕ → Bool) (n : ℕ) (old new : List ℕ) → old ≡ filter p (range_with_len 0 n) → p n ≡ false → new ≡ old → new ≡ filter p (range_with_len 0 (n + 1))
filter_off p n old new is off e =
    let none : filter p (n ∷ []) ≡ [] = rw off refl in
    e ∙ (is ∙ (sym (append-nil (filter p (range_with_len 0 n))) ∙ (ap (λ (y : List ℕ). filter p (range_with_len 0 n) ++ y) (sym none) ∙ sym (filter_more p n))))

-- one more of some places lies in the tile, or does not
numbers_more : (g : Tiling) (tile : ℕ) (places : List ℕ) (k : ℕ) → k < length places → tile_numbers g tile (take (k + 1) places) ≡ tile_numbers g tile (take k places) ++ tile_numbers g tile (get_or places k 0 ∷ [])
numbers_more g tile places k low =
    let more : take (k + 1) places ≡ take k places ++ get_or places k 0 ∷ [] = ap (λ (n : ℕ). take n places) (let s : k + 1 ≡ suc k = omega arith in s) ∙ take-suc places k 0 low in
    ap (tile_numbers g tile) more
    ∙ (ap (map (tile_number g tile)) (filter-append (lies_in_tile g tile) (take k places) (get_or places k 0 ∷ []))
    ∙ map-append (tile_number g tile) (filter (lies_in_tile g tile) (take k places)) (filter (lies_in_tile g tile) (get_or places k 0 ∷ [])))

pub numbers_on : (g : Tiling) (tile : ℕ) (places : List ℕ) (k x : ℕ) (old now new : List ℕ) → k < length places → x ≡ get_or places k 0 → now ≡ old ++ tile_numbers g tile (take k places) → lies_in_tile g tile x ≡ true → new ≡ now ++ tile_number g tile x ∷ [] → new ≡ old ++ tile_numbers g tile (take (k + 1) places)
numbers_on g tile places k x old now new low at is on e =
    let there : lies_in_tile g tile (get_or places k 0) ≡ true = ap (lies_in_tile g tile) (sym at) ∙ on in
    let one : tile_numbers g tile (get_or places k 0 ∷ []) ≡ tile_number g tile (get_or places k 0) ∷ [] = rw there refl in
    let same : tile_number g tile x ∷ [] ≡ tile_numbers g tile (get_or places k 0 ∷ []) = ap (λ (z : ℕ). tile_number g tile z ∷ []) at ∙ sym one in
    e ∙ (ap (λ (y : List ℕ). now ++ y) same
    ∙ (ap (λ (y : List ℕ). y ++ tile_numbers g tile (get_or places k 0 ∷ [])) is
    ∙ (append_assoc old (tile_numbers g tile (take k places)) (tile_numbers g tile (get_or places k 0 ∷ []))
    ∙ ap (λ (y : List ℕ). old ++ y) (sym (numbers_more g tile places k low)))))

pub numbers_off : (g : Tiling) (tile : ℕ) (places : List ℕ) (k x : ℕ) (old now new : List ℕ) → k < length places → x ≡ get_or places k 0 → now ≡ old ++ tile_numbers g tile (take k places) → lies_in_tile g tile x ≡ false → new ≡ now → new ≡ old ++ tile_numbers g tile (take (k + 1) places)
numbers_off g tile places k x old now new low at is off e =
    let there : lies_in_tile g tile (get_or places k 0) ≡ false = ap (lies_in_tile g tile) (sym at) ∙ off in
    let none : tile_numbers g tile (get_or places k 0 ∷ []) ≡ [] = rw there refl in
    e ∙ (is ∙ ap (λ (y : List ℕ). old ++ y) (sym (numbers_more g tile places k low ∙ (ap (λ (y : List ℕ). tile_numbers g tile (take k places) ++ y) none ∙ append-nil (tile_numbers g tile (take k places))))))

-- something over one more cell
pub over_more : {A : Type 0} (f : ℕ → A) (n : ℕ) (x : A) (old new : List A) → old ≡ over_cells f n → x ≡ f n → new ≡ old ++ x ∷ [] → new ≡ over_cells f (n + 1)
over_more {A = A} f n x old new is at e =
    e ∙ (ap (λ (y : List A). y ++ x ∷ []) is ∙ (ap (λ (y : A). over_cells f n ++ y ∷ []) at ∙ sym (map-range_with_len_more f 0 n n (omega arith))))

-- ---- a cell feeds few others

-- no more pass a test than there are
filter_few : (p : ℕ → Bool) (xs : List ℕ) → length (filter p xs) ≤ length xs
filter_few p xs = let same = length-filter p xs in let few = count_by-le-length p xs in omega (arith, same, few)

-- fewer of the first places drain into a cell than of more
first_few : (m : DrainMap) (u a b : ℕ) → a ≤ b → length (draining m u 0 a) ≤ length (draining m u 0 b)
first_few m u a b low =
    let sum : a + (b - a) ≡ b = omega (arith, low) in
    let split : draining m u 0 b ≡ draining m u 0 a ++ draining m u (0 + a) (b - a) = ap (draining m u 0) (sym sum) ∙ draining_split m u 0 a (b - a) in
    let many : length (draining m u 0 b) ≡ length (draining m u 0 a) + length (draining m u (0 + a) (b - a)) = ap length split ∙ length-append (draining m u 0 a) (draining m u (0 + a) (b - a)) in
    omega (arith, many)

-- the rows next to a cell's have three each that drain into it
rows_few : (m : DrainMap) (u top many : ℕ) → top ≡ u / m.cols - 1 → 0 < m.cols → length (draining m u 0 ((top + many) * m.cols)) ≤ 3 * many
rows_few m u top zero is some =
    let same : (top + 0) * m.cols ≡ top * m.cols = omega arith in
    subst (λ (xs : List ℕ). length xs ≤ 0) (sym (ap (draining m u 0) same ∙ rows_above m u top is some)) (omega arith)
rows_few m u top (suc many) is some =
    let line : ℕ = top + many in
    let left : ℕ = u % m.cols - 1 in
    let right : ℕ = min m.cols (u % m.cols + 2) in
    let col = mod_below u m.cols some in
    let before = draining m u 0 (line * m.cols) in
    let row = draining m u (line * m.cols + left) ((line * m.cols + right) - (line * m.cols + left)) in
    let next : top + suc many ≡ line + 1 = omega arith in
    let both : draining m u 0 ((top + suc many) * m.cols) ≡ before ++ row = ap (λ (k : ℕ). draining m u 0 (k * m.cols)) next ∙ row_more m u line left right refl refl col in
    let sum : length (draining m u 0 ((top + suc many) * m.cols)) ≡ length before + length row = ap length both ∙ length-append before row in
    let few = filter_few (λ v. drains_into u (next_at m v)) (range_with_len (line * m.cols + left) ((line * m.cols + right) - (line * m.cols + left))) in
    let wide = length-range_with_len (line * m.cols + left) ((line * m.cols + right) - (line * m.cols + left)) in
    let rest = rows_few m u top many is some in
    omega (arith, sum, few, wide, rest)

-- a cell feeds its neighbours at most
pub fed_few : (o : Orient) (m : DrainMap) → IsDrain m → (u : ℕ) → length (fed_by o m u) ≤ 9
unfolding fed_by
fed_few Down m drain u = outlet_few (next_at m u)
  where
    outlet_few : (n : Next) → length (outlet n) ≤ 9
    outlet_few (next.Cell c) = omega arith
    outlet_few next.Pit = omega arith
    outlet_few next.Outside = omega arith
    outlet_few next.Missing = omega arith
fed_few Up m drain u = drained_few (m.cols) refl
  where
    drained_few : (cols : ℕ) → m.cols ≡ cols → length (draining m u 0 (length m.codes)) ≤ 9
    drained_few zero e =
        let none : m.rows * m.cols ≡ 0 = ap (λ (k : ℕ). m.rows * k) e ∙ omega arith in
        let few = filter_few (λ v. drains_into u (next_at m v)) (range_with_len 0 (length m.codes)) in
        let wide = length-range_with_len 0 (length m.codes) in
        omega (arith, few, wide, none, drain.map.size)
    drained_few (suc k) e =
        let some : 0 < m.cols = omega (arith, e) in
        let top : ℕ = u / m.cols - 1 in
        let bottom : ℕ = min m.rows (u / m.cols + 2) in
        let all = rows_below m u bottom refl some drain.map.size in
        let rows = rows_few m u top 3 refl some in
        let within : bottom * m.cols ≤ (top + 3) * m.cols = mul-le bottom m.cols (top + 3) m.cols (omega arith) (omega arith) in
        let fewer = first_few m u (bottom * m.cols) ((top + 3) * m.cols) within in
        subst (λ (xs : List ℕ). length xs ≤ 9) all (omega (arith, fewer, rows))

-- and so the cells of the tile that one feeds
pub fed_in_few : (o : Orient) (m : DrainMap) (g : Tiling) (tile i : ℕ) → IsDrain m → length (fed_in_tile o m g tile i) ≤ 9
fed_in_few o m g tile i drain =
    let cells : List ℕ = fed_by o m (tile_place_of g tile i) in
    let same = length-map (filter (lies_in_tile g tile) cells) (tile_number g tile) in
    let few = filter_few (lies_in_tile g tile) cells in
    let all = fed_few o m drain (tile_place_of g tile i) in
    omega (arith, same, few, all)
