-- The list of border edges.
use Rattle.std.proofs.Common.{◌≡◌, ◌≢◌, ◌⊎◌, ℕ, ◌+◌, ◌*◌, ◌<◌, ◌≤◌, List, [], ◌∷◌, ◌++◌, length, map, refl, sym, ap, subst, ◌∙◌, arith, inl, inr, suc, zero, Bool, true, false, cond, get_or}
use Rattle.std.specs.Prelude.{not, ◌==◌}
use Rattle.std.specs.List.{Contains, filter, range_with_len}
use Rattle.std.proofs.lemmas.Bool.{cases_lt, eq-eqb}
use Rattle.std.proofs.lemmas.Bool.Decides.{eqb_tells}
use Rattle.std.proofs.lemmas.List.{get_or_default}
use Rattle.std.proofs.lemmas.List.FromFn.{get_or-range_with_len, length-range_with_len}
use Rattle.std.proofs.lemmas.List.Elements.{Contains-append_cases, Contains-append_left, Contains-append_right}
use Rattle.tile_map.specs.Tiles.{tile_at}
use Rattle.tile_map.specs.declared.tiling.Tiling.{Tiling}
use Rattle.drain_meaning.specs.declared.next.Next.{Next}
use Rattle.drain_meaning.specs.declared.next.Next.TheVariants as next
use Rattle.drain_meaning.specs.declared.op.Orient.{Orient}
use Rattle.drain_meaning.specs.declared.op.Orient.TheVariants.{Down, Up}
use Rattle.drain_meaning.specs.Drains.{DrainMap, next_at}
use Rattle.drain_meaning.specs.Sound.{IsDrain}
use Rattle.drain_meaning.specs.Transports.{drains_into, feeders, outlet, tributaries}
use Rattle.drain_meaning.proofs.Callers.{contains_cases, contains_first, contains_later, directed_within, feeder_within, kept_passes, next_inside, outlet_is, tributary_drains}
use Rattle.border_channel.specs.declared.edge.Edge.{Edge}
use Rattle.border_channel.specs.Edges.{AreBorderEdges, EdgeComesBefore, HasSizeOf, IsBorderEdge, border_edges_of, crosses, crossing, edge, edge_at, edges_below, edges_from, fed_by}
use Rattle.border_channel.proofs.DrainingLemmas.{place_within}
use Rattle.border_channel.proofs.Lists.{Apart, filter-keeps, has_first, has_later}

-- ---- who feeds and who is fed

drains_true : (n : Next) (c : ℕ) → n ≡ next.Cell c → drains_into c n ≡ true
drains_true n c e = subst (λ (y : Next). drains_into c y ≡ true) (sym e) (eq-eqb c c refl)

outlet_has : (n : Next) (d : ℕ) → n ≡ next.Cell d → Contains (outlet n) d
outlet_has n d e = subst (λ (y : Next). Contains (outlet y) d) (sym e) (contains_first d [])

in_range : (n u : ℕ) → u < n → Contains (range_with_len 0 n) u
in_range n u h = (u, omega (arith, length-range_with_len 0 n), get_or-range_with_len 0 n u u h ∙ omega arith)

-- a cell that drains into another is one of its tributaries
pub drains_tributary : (m : DrainMap) (u c : ℕ) → next_at m u ≡ next.Cell c → Contains (tributaries m c) u
drains_tributary m u c e =
    filter-keeps (λ v. drains_into c (next_at m v)) (range_with_len 0 (length m.codes)) u
    (in_range (length m.codes) u (directed_within m u (λ k. cc (k, e)))) (drains_true (next_at m u) c e)

-- a fed cell is fed by the feeding one
pub fed_feeds : (o : Orient) (m : DrainMap) (u c : ℕ) → Contains (fed_by o m u) c → Contains (feeders o m c) u
unfolding fed_by feeders
fed_feeds Down m u c h = drains_tributary m u c (outlet_is (next_at m u) c h)
fed_feeds Up m u c h = outlet_has (next_at m c) u (tributary_drains m u c h)

-- and the other way round
pub feeds_fed : (o : Orient) (m : DrainMap) (u c : ℕ) → Contains (feeders o m c) u → Contains (fed_by o m u) c
unfolding fed_by feeders
feeds_fed Down m u c h = outlet_has (next_at m u) c (tributary_drains m c u h)
feeds_fed Up m u c h = drains_tributary m c u (outlet_is (next_at m c) u h)

-- ---- the edges from one cell

-- what an edge from u to some cells is
pub record IsCrossing (g : Tiling) (u : ℕ) (cells : List ℕ) (e : Edge) : Type 0 where
  pub from : e.source ≡ u
  pub to : Contains cells e.target
  pub crossed : crosses g u e.target ≡ true

has_cases : (x : Edge) (xs : List Edge) (y : Edge) → Contains (x ∷ xs) y → (x ≡ y) ⊎ Contains xs y
has_cases x xs y (zero, w, e) = inl e
has_cases x xs y (suc k, w, e) = inr (k, omega arith, e)

crossing_by : (g : Tiling) (u c : ℕ) (cells : List ℕ) (e : Edge) (o : Bool) → crosses g u c ≡ o → (Contains (crossing g u cells) e → IsCrossing g u cells e) →
    Contains (map (edge u) (cond o (c ∷ filter (crosses g u) cells) (filter (crosses g u) cells))) e → IsCrossing g u (c ∷ cells) e
crossing_by g u c cells e true is rest h = elim (has_cases (edge u c) (crossing g u cells) e h) as (λ _. IsCrossing g u (c ∷ cells) e) [
  | inl same ↦ record {
    from = ap (λ (x : Edge). x.source) (sym same);
    to = subst (λ (x : Edge). Contains (c ∷ cells) x.target) same (contains_first c cells);
    crossed = subst (λ (x : Edge). crosses g u x.target ≡ true) same is;
  }
  | inr later ↦ let r = rest later in record { from = r.from; to = contains_later c cells e.target r.to; crossed = r.crossed }
]
crossing_by g u c cells e false is rest h = let r = rest h in record { from = r.from; to = contains_later c cells e.target r.to; crossed = r.crossed }

pub crossing_is : (g : Tiling) (u : ℕ) (cells : List ℕ) (e : Edge) → Contains (crossing g u cells) e → IsCrossing g u cells e
crossing_is g u [] e h = absurd (omega (arith, h.1))
crossing_is g u (c ∷ cells) e h = crossing_by g u c cells e (crosses g u c) refl (crossing_is g u cells e) h

map_has : (u : ℕ) (cells : List ℕ) (c : ℕ) → Contains cells c → Contains (map (edge u) cells) (edge u c)
map_has u [] c h = absurd (omega (arith, h.1))
map_has u (d ∷ cells) c h = elim (contains_cases d cells c h) as (λ _. Contains (map (edge u) (d ∷ cells)) (edge u c)) [
  | inl same ↦ subst (λ (y : ℕ). Contains (map (edge u) (d ∷ cells)) (edge u y)) (sym same) (has_first (edge u d) (map (edge u) cells))
  | inr later ↦ has_later (edge u d) (map (edge u) cells) (edge u c) (map_has u cells c later)
]

pub crossing_has : (g : Tiling) (u : ℕ) (cells : List ℕ) (c : ℕ) → Contains cells c → crosses g u c ≡ true → Contains (crossing g u cells) (edge u c)
crossing_has g u cells c h e = map_has u (filter (crosses g u) cells) c (filter-keeps (crosses g u) cells c h e)

-- ---- the order

-- each edge comes before all behind it
abbrev Ascends : List Edge → Type 0
Ascends [] = Unit {0}
Ascends (e ∷ es) = ((f : Edge) → Contains es f → EdgeComesBefore e f) × Ascends es

append_ascends : (xs ys : List Edge) → Ascends xs → Ascends ys → ((e f : Edge) → Contains xs e → Contains ys f → EdgeComesBefore e f) → Ascends (xs ++ ys)
append_ascends [] ys one two between = two
append_ascends (x ∷ xs) ys one two between = (
  (λ f h. elim (Contains-append_cases xs ys f h) as (λ _. EdgeComesBefore x f) [ inl l ↦ one.0 f l | inr r ↦ between x f (has_first x xs) r ]),
  append_ascends xs ys one.1 two (λ e f h k. between e f (has_later x xs e h) k),
)

-- numbers that ascend
abbrev pub Rises : List ℕ → Type 0
Rises [] = Unit {0}
Rises (x ∷ xs) = ((y : ℕ) → Contains xs y → x < y) × Rises xs

range_from : (from n y : ℕ) → Contains (range_with_len from n) y → from ≤ y
range_from from zero y h = absurd (omega (arith, h.1))
range_from from (suc n) y h = elim (contains_cases from (range_with_len (from + 1) n) y h) as (λ _. from ≤ y) [ inl same ↦ omega (arith, same) | inr later ↦ let low = range_from (from + 1) n y later in omega (arith, low) ]

-- places in a row rise
pub range_rises : (from n : ℕ) → Rises (range_with_len from n)
range_rises from zero = tt
range_rises from (suc n) = ((λ y h. let low = range_from (from + 1) n y h in omega (arith, low)), range_rises (from + 1) n)

filter_rises_by : (p : ℕ → Bool) (x : ℕ) (xs : List ℕ) (o : Bool) → ((y : ℕ) → Contains xs y → x < y) → Rises (filter p xs) → Rises (cond o (x ∷ filter p xs) (filter p xs))
filter_rises_by p x xs true low rest = ((λ y h. low y (kept_passes p xs y h).1), rest)
filter_rises_by p x xs false low rest = rest

-- what is left of a list that rises does so
pub filter_rises : (p : ℕ → Bool) (xs : List ℕ) → Rises xs → Rises (filter p xs)
filter_rises p [] r = tt
filter_rises p (x ∷ xs) r = filter_rises_by p x xs (p x) r.0 (filter_rises p xs r.1)

-- of two places in a list that rises the later has the greater number
pub rises_index : (xs : List ℕ) → Rises xs → (i j : ℕ) → i < j → j < length xs → get_or xs i 0 < get_or xs j 0
rises_index [] r i j less low = absurd (omega arith)
rises_index (x ∷ xs) r i zero less low = absurd (omega arith)
rises_index (x ∷ xs) r zero (suc j) less low = r.0 (get_or xs j 0) (j, omega arith, get_or_default xs j (get_or xs j 0) 0 (omega arith))
rises_index (x ∷ xs) r (suc i) (suc j) less low = rises_index xs r.1 i j (omega arith) (omega arith)

outlet_rises : (n : Next) → Rises (outlet n)
outlet_rises (next.Cell d) = ((λ y h. absurd (omega (arith, h.1))), tt)
outlet_rises next.Pit = tt
outlet_rises next.Outside = tt
outlet_rises next.Missing = tt

fed_rises : (o : Orient) (m : DrainMap) (u : ℕ) → Rises (fed_by o m u)
unfolding fed_by
fed_rises Down m u = outlet_rises (next_at m u)
fed_rises Up m u = filter_rises (λ v. drains_into u (next_at m v)) (range_with_len 0 (length m.codes)) (range_rises 0 (length m.codes))

map_in : (u : ℕ) (xs : List ℕ) (f : Edge) → Contains (map (edge u) xs) f → (f.source ≡ u) × Contains xs f.target
map_in u [] f h = absurd (omega (arith, h.1))
map_in u (x ∷ xs) f h = elim (has_cases (edge u x) (map (edge u) xs) f h) as (λ _. (f.source ≡ u) × Contains (x ∷ xs) f.target) [
  | inl same ↦ (ap (λ (y : Edge). y.source) (sym same), subst (λ (y : Edge). Contains (x ∷ xs) y.target) same (contains_first x xs))
  | inr later ↦ let r = map_in u xs f later in (r.0, contains_later x xs f.target r.1)
]

map_ascends : (u : ℕ) (xs : List ℕ) → Rises xs → Ascends (map (edge u) xs)
map_ascends u [] r = tt
map_ascends u (x ∷ xs) r = ((λ f h. let at = map_in u xs f h in inr (sym at.0, r.0 f.target at.1)), map_ascends u xs r.1)

from_ascends : (m : DrainMap) (g : Tiling) (o : Orient) (u : ℕ) → Ascends (edges_from m g o u)
from_ascends m g o u = map_ascends u (filter (crosses g u) (fed_by o m u)) (filter_rises (crosses g u) (fed_by o m u) (fed_rises o m u))

-- ---- the edges from the first cells

pub record IsBelow (m : DrainMap) (g : Tiling) (o : Orient) (n : ℕ) (e : Edge) : Type 0 where
  pub low : e.source < n
  pub is : IsCrossing g e.source (fed_by o m e.source) e

below_is : (m : DrainMap) (g : Tiling) (o : Orient) (n : ℕ) (e : Edge) → Contains (edges_below m g o n) e → IsBelow m g o n e
below_is m g o zero e h = absurd (omega (arith, h.1))
below_is m g o (suc u) e h = elim (Contains-append_cases (edges_below m g o u) (edges_from m g o u) e h) as (λ _. IsBelow m g o (suc u) e) [
  | inl l ↦ let r = below_is m g o u e l in record { low = omega (arith, r.low); is = r.is }
  | inr l ↦
      let r = crossing_is g u (fed_by o m u) e l in
      record { low = omega (arith, r.from); is = subst (λ (y : ℕ). IsCrossing g y (fed_by o m y) e) (sym r.from) r }
]

below_has : (m : DrainMap) (g : Tiling) (o : Orient) (n u c : ℕ) → u < n → Contains (fed_by o m u) c → crosses g u c ≡ true → Contains (edges_below m g o n) (edge u c)
below_has m g o zero u c low h e = absurd (omega arith)
below_has m g o (suc n) u c low h e = elim (cases_lt u n) as (λ _. Contains (edges_below m g o n ++ edges_from m g o n) (edge u c)) [
  | inl less ↦ Contains-append_left (edges_below m g o n) (edges_from m g o n) (edge u c) (below_has m g o n u c less h e)
  | inr last ↦
      let same : u ≡ n = omega arith in
      Contains-append_right (edges_below m g o n) (edges_from m g o n) (edge u c) (subst (λ (y : ℕ). Contains (edges_from m g o y) (edge u c)) same (crossing_has g u (fed_by o m u) c h e))
]

below_ascends : (m : DrainMap) (g : Tiling) (o : Orient) (n : ℕ) → Ascends (edges_below m g o n)
below_ascends m g o zero = tt
below_ascends m g o (suc u) = append_ascends (edges_below m g o u) (edges_from m g o u) (below_ascends m g o u) (from_ascends m g o u) (λ e f h k.
    let one = below_is m g o u e h in
    let two = crossing_is g u (fed_by o m u) f k in
    inl (omega (arith, one.low, two.from)))

-- ---- the list

listed_at : (es : List Edge) (i : ℕ) → i < length es → Contains es (edge_at es i)
listed_at es i low = (i, low, get_or_default es i (edge_at es i) (edge 0 0) low)

index_ascends : (es : List Edge) → Ascends es → (i j : ℕ) → i < j → j < length es → EdgeComesBefore (edge_at es i) (edge_at es j)
index_ascends [] a i j less low = absurd (omega arith)
index_ascends (e ∷ es) a i zero less low = absurd (omega arith)
index_ascends (e ∷ es) a zero (suc j) less low = a.0 (edge_at es j) (listed_at es j (omega arith))
index_ascends (e ∷ es) a (suc i) (suc j) less low = index_ascends es a.1 i j (omega arith) (omega arith)

apart_of : (x y : ℕ) (o : Bool) → (x == y) ≡ o → not o ≡ true → x ≢ y
apart_of x y true e h same = cc h
apart_of x y false e h same = let t : (x == y) ≡ true = eq-eqb x y same in cc (t, e)

crossed_of : (x y : ℕ) → x ≢ y → not (x == y) ≡ true
crossed_of x y ne = elim (eqb_tells x y) as (λ _. not (x == y) ≡ true) [ inl t ↦ absurd (ne t.1) | inr t ↦ ap not t.0 ]

pub border_edge_of : (m : DrainMap) (g : Tiling) (o : Orient) (n : ℕ) (e : Edge) → IsBelow m g o n e → IsBorderEdge m g o e
border_edge_of m g o n e b = record {
  feeds = fed_feeds o m e.source e.target b.is.to;
  apart = apart_of (tile_at g e.source) (tile_at g e.target) (tile_at g e.source == tile_at g e.target) refl b.is.crossed;
}

-- Just the border edges are listed, each once and in their order.
pub edges_listed : (m : DrainMap) (g : Tiling) (o : Orient) → IsDrain m → HasSizeOf m g → AreBorderEdges m g o (border_edges_of m g o)
unfolding border_edges_of
edges_listed m g o drain size = record {
  only = λ i low. border_edge_of m g o (length m.codes) (edge_at (edges_below m g o (length m.codes)) i) (below_is m g o (length m.codes) (edge_at (edges_below m g o (length m.codes)) i) (listed_at (edges_below m g o (length m.codes)) i low));
  each = λ e is. below_has m g o (length m.codes) e.source e.target (feeder_within o m drain.map e.target e.source is.feeds) (feeds_fed o m e.source e.target is.feeds) (crossed_of (tile_at g e.source) (tile_at g e.target) is.apart);
  ascends = λ i j less low. index_ascends (edges_below m g o (length m.codes)) (below_ascends m g o (length m.codes)) i j less low;
}

-- ---- no cell feeds another twice

rises_apart : (xs : List ℕ) → Rises xs → Apart xs
rises_apart [] r = tt
rises_apart (x ∷ xs) r = ((λ h. let low = r.0 x h in omega (arith, low)), rises_apart xs r.1)

pub feeders_apart : (o : Orient) (m : DrainMap) (c : ℕ) → Apart (feeders o m c)
unfolding feeders
feeders_apart Down m c = rises_apart (tributaries m c) (filter_rises (λ v. drains_into c (next_at m v)) (range_with_len 0 (length m.codes)) (range_rises 0 (length m.codes)))
feeders_apart Up m c = rises_apart (outlet (next_at m c)) (outlet_rises (next_at m c))

-- nor is one fed twice
pub fed_apart : (o : Orient) (m : DrainMap) (u : ℕ) → Apart (fed_by o m u)
fed_apart o m u = rises_apart (fed_by o m u) (fed_rises o m u)

-- a fed cell is in the map
pub fed_within : (o : Orient) (m : DrainMap) → IsDrain m → (u c : ℕ) → Contains (fed_by o m u) c → c < length m.codes
unfolding fed_by
fed_within Down m drain u c h = next_inside m drain.map u c (outlet_is (next_at m u) c h)
fed_within Up m drain u c h = directed_within m c (let e = tributary_drains m u c h in λ k. cc (k, e))

-- each of a list that is the fed cells is a place of the tiling's map
pub all_within : (o : Orient) (m : DrainMap) (g : Tiling) (u : ℕ) (cells : List ℕ) → IsDrain m → HasSizeOf m g → cells ≡ fed_by o m u → (i : ℕ) → i < length cells → get_or cells i 0 < g.rows * g.cols
all_within o m g u cells drain size is i low =
    let on : Contains cells (get_or cells i 0) = (i, low, get_or_default cells i (get_or cells i 0) 0 low) in
    place_within m g (get_or cells i 0) size drain (fed_within o m drain u (get_or cells i 0) (subst (λ (y : List ℕ). Contains y (get_or cells i 0)) is on))
