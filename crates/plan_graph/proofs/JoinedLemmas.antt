-- The joints of border edges.
use Rattle.std.proofs.Common.{◌≡◌, ◌∙◌, ℕ, ◌+◌, ◌*◌, ◌%◌, ◌<◌, ◌≤◌, List, [], ◌∷◌, length, get_or, map, take, refl, sym, ap, arith, inl, inr, Bool, true, false, set}
use Rattle.std.specs.Prelude.{◌==◌, ◌||◌, slice_index}
use Rattle.std.specs.List.{Contains, filter, range_with_len}
use Rattle.std.specs.List.Sorted.{IsStrictlyIncreasing}
use Rattle.std.proofs.lemmas.Bool.{eq-eqb}
use Rattle.std.proofs.lemmas.Bool.Decides.{eqb_tells}
use Rattle.std.proofs.lemmas.Nat.{mul-add-lt}
use Rattle.std.proofs.Math.Nat.{mod-lt}
use Rattle.std.proofs.lemmas.List.{get_or-map, get_or-set_other, get_or-set_same, get_or_default, length-map, length-set}
use Rattle.std.proofs.lemmas.List.{length-take-le}
use Rattle.std.proofs.lemmas.List.Sums.{count_by-le-length, count_by_more_no, count_by_more_yes}
use Rattle.std.proofs.lemmas.List.FromFn.{fill_by_all}
use Rattle.number_lists.specs.Turned.{times}
use Rattle.tile_map.specs.declared.tiling.Tiling.{Tiling}
use Rattle.tile_map.specs.Tiles.{tile_at, tile_count}
use Rattle.tile_map.proofs.Callers.{tile_of_place}
use Rattle.drain_meaning.proofs.Callers.{contains_cases, contains_later, kept_passes}
use Rattle.border_channel.specs.declared.edge.Edge.{Edge}
use Rattle.border_channel.specs.Edges.{edge, edge_at}
use Rattle.border_channel.specs.Own.{edges_into, edges_out_of}
use Rattle.border_channel.proofs.Callers.{filter-keeps, filter_rises, range_rises}
use Rattle.plan_graph.specs.Joints.{is_joined, joints_of, pair_of}
use Rattle.plan_graph.specs.inside.Distinct.{IsSortedSet}
use Rattle.plan_graph.specs.inside.Joined.{AreCounted, EdgesAreWithin, number_counts, edge_joints, number_place, source_tiles, target_tiles}
use Rattle.plan_graph.specs.inside.Places.{places_by_number, places_with}
use Rattle.plan_graph.proofs.RiseLemmas.{filter_from_agree, place_found, range_has, rises_from, rises_same, test_false}

-- ---- tiles of edges

pub sources_below : (g : Tiling) (edges : List Edge) → EdgesAreWithin g edges → (i : ℕ) → i < length (source_tiles g edges) → slice_index (source_tiles g edges) i < tile_count g
sources_below g edges w i below =
    let low : i < length edges = let many = length-map edges (λ (e : Edge). tile_at g e.source) in omega arith in
    let at = get_or-map (λ (e : Edge). tile_at g e.source) edges i (edge 0 0) 0 low in
    let t = (tile_of_place g (edge_at edges i).source (w.sources i low)).0 in
    omega arith

pub targets_below : (g : Tiling) (edges : List Edge) → EdgesAreWithin g edges → (i : ℕ) → i < length (target_tiles g edges) → slice_index (target_tiles g edges) i < tile_count g
targets_below g edges w i below =
    let low : i < length edges = let many = length-map edges (λ (e : Edge). tile_at g e.target) in omega arith in
    let at = get_or-map (λ (e : Edge). tile_at g e.target) edges i (edge 0 0) 0 low in
    let t = (tile_of_place g (edge_at edges i).target (w.targets i low)).0 in
    omega arith

map_every : {A : Type 0} (f h : ℕ → A) (xs : List ℕ) → ((x : ℕ) → f x ≡ h x) → map f xs ≡ map h xs
map_every f h [] e = refl
map_every f h (x ∷ xs) e = let rest = map_every f h xs e in let here = e x in cc

-- the edges with a number by the tiles of their ends
pub by_tile : (f : Edge → ℕ) (edges : List Edge) (k : ℕ) → places_with (map f edges) k ≡ filter (λ e. f (edge_at edges e) == k) (range_with_len 0 (length edges))
by_tile f edges k =
    ap (λ (n : ℕ). filter (λ i. slice_index (map f edges) i == k) (range_with_len 0 n)) (length-map edges f)
    ∙ filter_from_agree (λ i. slice_index (map f edges) i == k) (λ i. f (edge_at edges i) == k) 0 (length edges)
    (λ i low high. ap (λ (t : ℕ). t == k) (get_or-map f edges i (edge 0 0) 0 (omega arith)))

pub out_by_tile : (g : Tiling) (edges : List Edge) (count : ℕ) → places_by_number (source_tiles g edges) count ≡ map (λ tile. edges_out_of g tile edges) (range_with_len 0 count)
out_by_tile g edges count = map_every (places_with (source_tiles g edges)) (λ tile. edges_out_of g tile edges) (range_with_len 0 count) (by_tile (λ (e : Edge). tile_at g e.source) edges)

pub in_by_tile : (g : Tiling) (edges : List Edge) (count : ℕ) → places_by_number (target_tiles g edges) count ≡ map (λ tile. edges_into g tile edges) (range_with_len 0 count)
in_by_tile g edges count = map_every (places_with (target_tiles g edges)) (λ tile. edges_into g tile edges) (range_with_len 0 count) (by_tile (λ (e : Edge). tile_at g e.target) edges)

-- ---- pairs of tiles

pub pair_below : (g : Tiling) (e : Edge) → e.source < g.rows * g.cols → e.target < g.rows * g.cols → pair_of g e < tile_count g * tile_count g
pair_below g e source target = mul-add-lt (tile_at g e.source) (tile_count g) (tile_at g e.target) (tile_count g) (tile_of_place g e.source source).0 (tile_of_place g e.target target).0

or_later : (a b : Bool) → b ≡ true → (a || b) ≡ true
or_later true b e = refl
or_later false b e = e

or_first : (a b : Bool) → a ≡ true → (a || b) ≡ true
or_first true b e = refl
or_first false b e = cc

not_first : (a b : Bool) → a ≡ false → (a || b) ≡ true → b ≡ true
not_first true b e h = cc
not_first false b e h = h

-- a pair is joined where an edge joins it
pub joined_has : (g : Tiling) (edges : List Edge) (u : ℕ) → is_joined g edges u ≡ true → Contains (map (pair_of g) edges) u
joined_has g [] u h = cc
joined_has g (e ∷ edges) u h = elim (eqb_tells (pair_of g e) u) as (λ _. Contains (map (pair_of g) (e ∷ edges)) u) [
  | inl t ↦ (0, omega arith, t.1)
  | inr t ↦ contains_later (pair_of g e) (map (pair_of g) edges) u (joined_has g edges u (not_first (pair_of g e == u) (is_joined g edges u) t.0 h))
]

pub has_joined : (g : Tiling) (edges : List Edge) (u : ℕ) → Contains (map (pair_of g) edges) u → is_joined g edges u ≡ true
has_joined g [] u h = absurd (omega (arith, h.1))
has_joined g (e ∷ edges) u h = elim (contains_cases (pair_of g e) (map (pair_of g) edges) u h) as (λ _. is_joined g (e ∷ edges) u ≡ true) [
  | inl same ↦ or_first (pair_of g e == u) (is_joined g edges u) (eq-eqb (pair_of g e) u (sym same))
  | inr later ↦ or_later (pair_of g e == u) (is_joined g edges u) (has_joined g edges u later)
]

pairs_below : (g : Tiling) (edges : List Edge) (u : ℕ) → EdgesAreWithin g edges → Contains (map (pair_of g) edges) u → u < tile_count g * tile_count g
pairs_below g edges u w h =
    let low : h.0 < length edges = let many = length-map edges (pair_of g) in let l = h.1 in omega arith in
    let at = get_or-map (pair_of g) edges h.0 (edge 0 0) u low in
    let is : get_or (map (pair_of g) edges) h.0 u ≡ u = h.2 in
    let below = pair_below g (edge_at edges h.0) (w.sources h.0 low) (w.targets h.0 low) in
    omega arith

-- the pairs that edges join, in ascending order, are the joints
pub set_of_joints : (g : Tiling) (edges : List Edge) (found : List ℕ) → EdgesAreWithin g edges → IsSortedSet (map (pair_of g) edges) found → found ≡ joints_of g edges
set_of_joints g edges found w is =
    let many = tile_count g * tile_count g in
    rises_same found (joints_of g edges) (rises_from found is.rises) (filter_rises (is_joined g edges) (range_with_len 0 many) (range_rises 0 many))
    (λ u h. filter-keeps (is_joined g edges) (range_with_len 0 many) u (range_has many u (pairs_below g edges u w (is.only u h))) (has_joined g edges u (is.only u h)))
    (λ u h. is.all u (joined_has g edges u (kept_passes (is_joined g edges) (range_with_len 0 many) u h).0))

-- each of some numbers is in the list that has them
pub in_set : (numbers found : List ℕ) → IsSortedSet numbers found → (i : ℕ) → i < length numbers → Contains found (slice_index numbers i)
in_set numbers found is i below = is.all (slice_index numbers i) (i, below, get_or_default numbers i (get_or numbers i 0) 0 below)

-- the place of a number that a list has is one of the list's
pub place_within : (found : List ℕ) (n : ℕ) → IsStrictlyIncreasing found → Contains found n → number_place found n < length found
place_within found n rises h =
    let is : get_or found h.0 n ≡ n = h.2 in
    let e : number_place found n ≡ h.0 = place_found found n h.0 rises h.1 (get_or_default found h.0 0 n h.1 ∙ is) in
    let low = h.1 in
    omega arith

pub map_twice : {A B C : Type 0} (f : B → C) (h : A → B) (xs : List A) → map f (map h xs) ≡ map (λ x. f (h x)) xs
map_twice f h [] = refl
map_twice f h (x ∷ xs) = ap (λ ys. f (h x) ∷ ys) (map_twice f h xs)

-- by edge its joint
pub joints_by_edge : (g : Tiling) (edges : List Edge) (found : List ℕ) → found ≡ joints_of g edges → map (number_place found) (map (pair_of g) edges) ≡ edge_joints g edges
joints_by_edge g edges found is =
    map_twice (number_place found) (pair_of g) edges ∙ ap (λ (js : List ℕ). map (λ (e : Edge). number_place js (pair_of g e)) edges) is

pub joints_below : (numbers found : List ℕ) → IsSortedSet numbers found → (i : ℕ) → i < length (map (number_place found) numbers) → slice_index (map (number_place found) numbers) i < length found
joints_below numbers found is i below =
    let low : i < length numbers = let many = length-map numbers (number_place found) in omega arith in
    let at = get_or-map (number_place found) numbers i 0 0 low in
    let h = place_within found (get_or numbers i 0) is.rises (in_set numbers found is i low) in
    omega arith

pub tiles_below : (joints : List ℕ) (tiles : ℕ) → 0 < tiles → (i : ℕ) → i < length (map (λ p. p % tiles) joints) → slice_index (map (λ p. p % tiles) joints) i < tiles
tiles_below joints tiles some i below =
    let low : i < length joints = let many = length-map joints (λ (p : ℕ). p % tiles) in omega arith in
    let at = get_or-map (λ (p : ℕ). p % tiles) joints i 0 0 low in
    let h = mod-lt (get_or joints i 0) some in
    omega arith

-- ---- counts

-- one number more is counted
pub counted_more : (numbers : List ℕ) (count n m old : ℕ) (counts : List ℕ) → AreCounted numbers count n counts → n < length numbers → m ≡ get_or numbers n 0 → m < count → old ≡ get_or counts m 0 →
    AreCounted numbers count (n + 1) (set counts m (old + 1))
counted_more numbers count n m old counts are low is below was = record {
  many = length-set counts m (old + 1) ∙ are.many;
  each = λ k less. elim (eqb_tells k m) as (λ _. get_or (set counts m (old + 1)) k 0 ≡ times k (take (n + 1) numbers)) [
    | inl t ↦
        let more = count_by_more_yes (λ x. x == k) numbers n 0 low (eq-eqb (get_or numbers n 0) k (sym is ∙ sym t.1)) in
        let before = are.each k less in
        let here = get_or-set_same counts m (old + 1) 0 (let many = are.many in omega arith) in
        let there = ap (λ (j : ℕ). get_or (set counts m (old + 1)) j 0) t.1 in
        let read = ap (λ (j : ℕ). get_or counts j 0) t.1 in
        omega arith
    | inr t ↦
        let more = count_by_more_no (λ x. x == k) numbers n 0 low (test_false (get_or numbers n 0) k (λ e. t.1 (sym e ∙ sym is))) in
        get_or-set_other counts m k (old + 1) 0 t.1 ∙ (are.each k less ∙ sym more)
  ];
}

-- a count of the first numbers is no more than these are
pub counted_few : (numbers : List ℕ) (count n m : ℕ) (counts : List ℕ) → AreCounted numbers count n counts → n ≤ length numbers → m < count → get_or counts m 0 ≤ n
counted_few numbers count n m counts are low below =
    let e = are.each m below in
    let few = count_by-le-length (λ x. x == m) (take n numbers) in
    let size = length-take-le n numbers low in
    omega arith

pub counted_all : (numbers : List ℕ) (count : ℕ) (counts : List ℕ) → AreCounted numbers count (length numbers) counts → counts ≡ number_counts numbers count
counted_all numbers count counts are =
    fill_by_all (λ k. times k numbers) counts count 0 are.many
    (λ k less. are.each k less ∙ ap (λ (xs : List ℕ). times k xs) (take_whole numbers))
  where
    take_whole : (xs : List ℕ) → take (length xs) xs ≡ xs
    take_whole [] = refl
    take_whole (x ∷ xs) = ap (λ (ys : List ℕ). x ∷ ys) (take_whole xs)
