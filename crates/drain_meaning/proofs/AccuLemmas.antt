-- The values of accuflux and catchment, by paths.
use Rattle.std.proofs.Common.{◌≡◌, ◌≢◌, inl, inr, ℕ, ◌+◌, ◌<◌, ◌≤◌, List, [], ◌∷◌, length, map, refl, sym, ap, subst, ◌∙◌, arith, suc, zero, Bool, true, false}
use Rattle.std.specs.Prelude.{◌||◌, ◌==◌}
use Rattle.std.specs.List.{Contains, filter, range_with_len}
use Rattle.std.proofs.lemmas.Bool.{eqb-true, eq-eqb}
use Rattle.std.proofs.lemmas.Bool.Decides.{eqb_tells}
use Rattle.std.proofs.lemmas.List.FromFn.{length-range_with_len, get_or-range_with_len}
use Rattle.cell_values.specs.declared.cell.Cell.{Cell}
use Rattle.drain_meaning.specs.declared.flow.Flow.{Flow}
use Rattle.drain_meaning.specs.declared.next.Next.{Next}
use Rattle.drain_meaning.specs.declared.next.Next.TheVariants as next
use Rattle.drain_meaning.specs.declared.op.FlowOp.TheVariants as op
use Rattle.drain_meaning.specs.Accumulation.{accuflux_of, catchment_of, holds_place, is_pit, last_point}
use Rattle.drain_meaning.specs.Drains.{DrainMap, next_at}
use Rattle.drain_meaning.specs.Equations.{equation_of, farthest, passing, transport_of}
use Rattle.drain_meaning.specs.Flows.{material, nothing, together, total_flow}
use Rattle.drain_meaning.specs.Masks.{leads_on}
use Rattle.drain_meaning.specs.Paths.{IsDirected, IsFollowedBy, IsSound, behind_next, first_of_path, path_of}
use Rattle.drain_meaning.specs.Transports.{drains_into, end_of, feeders, outlet, tributaries}
use Rattle.drain_meaning.specs.inside.SumLaws.{together_swap, together_unit}
use Rattle.drain_meaning.proofs.EndLemmas.{ends_unique}
use Rattle.drain_meaning.proofs.MapLemmas.{cases_directed, directed_within}
use Rattle.drain_meaning.proofs.PathLemmas.{not_follower, path_of-is}
use Rattle.drain_meaning.proofs.SumLemmas.{contains_first, contains_later, if_so, if_so-either, if_so-together, if_so-total, map_alike, total-filter, total-nothing, total-swap, total-together}

-- ---- the farthest point of a path

catchment_step : (m : DrainMap) (points : ℕ → Cell) (c : ℕ) (behind : List ℕ) → IsFollowedBy m c behind → catchment_of m points c ≡ farthest (total_flow (map (catchment_of m points) (outlet (next_at m c)))) (material (points c))
catchment_step m points c [] f =
    ap (λ (y : List ℕ). last_point (map points y)) (path_of-is m c [] f)
    ∙ ap (λ (y : Next). farthest (total_flow (map (catchment_of m points) (outlet y))) (material (points c))) (sym f)
catchment_step m points c (d ∷ behind) f =
    let here = path_of-is m c (d ∷ behind) f in
    let there : last_point (map points (d ∷ behind)) ≡ catchment_of m points d = ap (λ (y : List ℕ). last_point (map points y)) (sym (path_of-is m d behind f.1)) in
    ap (λ (y : List ℕ). last_point (map points y)) here
    ∙ (ap (λ (y : Flow). farthest y (material (points c))) (there ∙ sym (together_unit (catchment_of m points d)))
    ∙ ap (λ (y : Next). farthest (total_flow (map (catchment_of m points) (outlet y))) (material (points c))) (sym f.0))

-- catchment is the point farthest down the path
pub catchment_by_path : (m : DrainMap) (a b : ℕ → Cell) → IsSound m → (c : ℕ) → IsDirected m c → end_of (transport_of op.Catchment) m a b c ≡ passing (catchment_of m a c)
unfolding equation_of feeders
catchment_by_path m a b sound c directed =
    ends_unique (transport_of op.Catchment) m a b (λ d. passing (catchment_of m a d)) sound
    (λ d h. let p = sound d h in ap passing (catchment_step m a d p.behind p.followed)) c directed

-- ---- the material of all cells whose path holds a cell

holds_contains : (c : ℕ) (places : List ℕ) → holds_place c places ≡ true → Contains places c
holds_contains c [] e = cc e
holds_contains c (p ∷ places) e = elim (eqb_tells p c) as (λ _. Contains (p ∷ places) c) [
  | inl same ↦ subst (λ (y : ℕ). Contains (p ∷ places) y) same.1 (contains_first p places)
  | inr other ↦ contains_later p places c (holds_contains c places (rw other.0 at e))
]

-- a cell that others follow on has a direction
followed_directed : (m : DrainMap) (q : ℕ) (behind : List ℕ) → IsFollowedBy m q behind → IsDirected m q
followed_directed m q [] f h = cc (f, h)
followed_directed m q (d ∷ behind) f h = cc (f.0, h)

-- a cell with a direction leads on
pub leads_of : (m : DrainMap) (q : ℕ) (n : Next) → next_at m q ≡ n → IsDirected m q → leads_on n ≡ true
leads_of m q next.Pit e d = refl
leads_of m q (next.Cell x) e d = refl
leads_of m q next.Outside e d = refl
leads_of m q next.Missing e d = absurd (d e)

-- a test of nothing
pub if_so-nothing : (o : Bool) → if_so o nothing ≡ nothing
if_so-nothing true = refl
if_so-nothing false = refl

if_so-or_false : (o : Bool) (x : Flow) → if_so (o || false) x ≡ if_so o x
if_so-or_false true x = refl
if_so-or_false false x = refl

-- a place of the map is below its number of cells
place_below : (m : DrainMap) (q : ℕ) → Contains (range_with_len 0 (length m.codes)) q → q < length m.codes
place_below m q h =
    let low : h.0 < length m.codes = omega (arith, h.1, length-range_with_len 0 (length m.codes)) in
    let at = get_or-range_with_len 0 (length m.codes) h.0 q low in
    omega (arith, low, at, h.2)

own_place : (f : ℕ → Flow) (q c : ℕ) → if_so (q == c) (f q) ≡ if_so (c == q) (f c)
own_place f q c = elim (eqb_tells q c) as (λ _. if_so (q == c) (f q) ≡ if_so (c == q) (f c)) [
  | inl same ↦ subst (λ (y : ℕ). if_so (q == y) (f q) ≡ if_so (y == q) (f y)) same.1 refl
  | inr other ↦ elim (eqb_tells c q) as (λ _. if_so (q == c) (f q) ≡ if_so (c == q) (f c)) [
    | inl same ↦ absurd (cc (other.0, eq-eqb q c (sym same.1)))
    | inr apart ↦ rw (other.0, apart.0) refl
  ]
]

-- a test that no place of a range passes
no_place : (q : ℕ) (x : Flow) (from count : ℕ) → q < from → total_flow (map (λ u. if_so (q == u) x) (range_with_len from count)) ≡ nothing
no_place q x from zero low = refl
no_place q x from (suc count) low =
    let rest = no_place q x (from + 1) count (omega arith) in
    elim (eqb_tells q from) as (λ _. total_flow (map (λ u. if_so (q == u) x) (range_with_len from (suc count))) ≡ nothing) [
      | inl same ↦ absurd (omega (arith, same.1))
      | inr other ↦ rw (other.0, rest) refl
    ]

-- what one place of a range adds, where the others add nothing
one_place : (q : ℕ) (x : Flow) (from count : ℕ) → from ≤ q → q < from + count → total_flow (map (λ u. if_so (q == u) x) (range_with_len from count)) ≡ x
one_place q x from zero low high = absurd (omega arith)
one_place q x from (suc count) low high = elim (eqb_tells q from) as (λ _. total_flow (map (λ u. if_so (q == u) x) (range_with_len from (suc count))) ≡ x) [
  | inl same ↦
      let rest = no_place q x (from + 1) count (omega (arith, same.1)) in
      rw (same.0, rest) (together_unit x)
  | inr other ↦
      let ne : q ≢ from = λ k. cc (other.0, eq-eqb q from k) in
      let rest = one_place q x (from + 1) count (omega arith) (omega arith) in
      rw (other.0, rest) (together_swap nothing x ∙ together_unit x)
]

-- all places of the map
abbrev pub all_places : DrainMap → List ℕ
all_places m = range_with_len 0 (length m.codes)

-- what one place of the map adds to a sum over those that pass a test
pub from_one : (m : DrainMap) (test : ℕ → Bool) (q : ℕ) (x : Flow) → q < length m.codes → total_flow (map (λ u. if_so (test u) (if_so (q == u) x)) (all_places m)) ≡ if_so (test q) x
from_one m test q x low =
    let pointwise : (u : ℕ) → if_so (test u) (if_so (q == u) x) ≡ if_so (q == u) (if_so (test q) x) = λ u. elim (eqb_tells q u) as (λ _. if_so (test u) (if_so (q == u) x) ≡ if_so (q == u) (if_so (test q) x)) [
      | inl same ↦ rw same.0 (ap (λ (y : ℕ). if_so (test y) x) (sym same.1))
      | inr other ↦ rw other.0 (if_so-nothing (test u))
    ] in
    ap total_flow (map_alike (λ u. if_so (test u) (if_so (q == u) x)) (λ u. if_so (q == u) (if_so (test q) x)) (all_places m) (λ u h. pointwise u))
    ∙ one_place q (if_so (test q) x) 0 (length m.codes) (omega arith) (omega arith)

path_missing : (m : DrainMap) (q most : ℕ) → next_at m q ≡ next.Missing → q < most → first_of_path m most q ≡ q ∷ []
path_missing m q zero e low = absurd (omega arith)
path_missing m q (suc most) e low = ap (λ (y : Next). q ∷ behind_next (first_of_path m most) y) e

-- the path of a cell without a direction is the cell alone
path_of-missing : (m : DrainMap) (q : ℕ) → next_at m q ≡ next.Missing → q < length m.codes → path_of m q ≡ q ∷ []
unfolding path_of
path_of-missing m q e low = path_missing m q (length m.codes) e low

-- what such a cell passes on
alone : (m : DrainMap) (c : ℕ) (x : Flow) (q : ℕ) → next_at m q ≡ next.Missing → q < length m.codes →
    total_flow (map (λ u. if_so (drains_into c (next_at m u)) (if_so (holds_place u (q ∷ [])) x)) (all_places m)) ≡ nothing
alone m c x q e low =
    ap total_flow (map_alike (λ u. if_so (drains_into c (next_at m u)) (if_so (holds_place u (q ∷ [])) x)) (λ u. if_so (drains_into c (next_at m u)) (if_so (q == u) x)) (all_places m) (λ u h. ap (λ (y : Flow). if_so (drains_into c (next_at m u)) y) (if_so-or_false (q == u) x)))
    ∙ (from_one m (λ u. drains_into c (next_at m u)) q x low ∙ ap (λ (y : Next). if_so (drains_into c y) x) e)

-- a sum over the cells of a path that pass a test: the first cell, and those behind it
in_front : (m : DrainMap) (test : ℕ → Bool) (x : Flow) (q : ℕ) (behind : List ℕ) → IsFollowedBy m q behind →
    total_flow (map (λ u. if_so (test u) (if_so (holds_place u (q ∷ behind)) x)) (all_places m))
    ≡ together (if_so (test q) x) (total_flow (map (λ u. if_so (test u) (if_so (holds_place u behind) x)) (all_places m)))
in_front m test x q behind f =
    let low = directed_within m q (followed_directed m q behind f) in
    let each : (u : ℕ) → if_so (test u) (if_so (holds_place u (q ∷ behind)) x) ≡ together (if_so (test u) (if_so (q == u) x)) (if_so (test u) (if_so (holds_place u behind) x)) = λ u.
    ap (λ (y : Flow). if_so (test u) y) (if_so-either (q == u) (holds_place u behind) x (λ e h. not_follower m q behind f (subst (λ (y : ℕ). Contains behind y) (sym (eqb-true q u e)) (holds_contains u behind h))))
    ∙ if_so-together (test u) (if_so (q == u) x) (if_so (holds_place u behind) x) in
    ap total_flow (map_alike (λ u. if_so (test u) (if_so (holds_place u (q ∷ behind)) x)) (λ u. together (if_so (test u) (if_so (q == u) x)) (if_so (test u) (if_so (holds_place u behind) x))) (all_places m) (λ u h. each u))
    ∙ (total-together (λ u. if_so (test u) (if_so (q == u) x)) (λ u. if_so (test u) (if_so (holds_place u behind) x)) (all_places m)
    ∙ ap (λ (y : Flow). together y (total_flow (map (λ u. if_so (test u) (if_so (holds_place u behind) x)) (all_places m)))) (from_one m test q x low))

-- What comes to c from the cells of a path: x where c follows on the first of them.
from_path : (m : DrainMap) (c : ℕ) (x : Flow) (q : ℕ) (behind : List ℕ) → IsFollowedBy m q behind →
    total_flow (map (λ u. if_so (drains_into c (next_at m u)) (if_so (holds_place u (q ∷ behind)) x)) (all_places m)) ≡ if_so (holds_place c behind) x
from_path m c x q [] f =
    in_front m (λ u. drains_into c (next_at m u)) x q [] f
    ∙ (ap (λ (y : Next). together (if_so (drains_into c y) x) (total_flow (map (λ u. if_so (drains_into c (next_at m u)) nothing) (all_places m)))) f
    ∙ ap (λ (y : Flow). together nothing y) (ap total_flow (map_alike (λ u. if_so (drains_into c (next_at m u)) nothing) (λ u. nothing) (all_places m) (λ u h. if_so-nothing (drains_into c (next_at m u)))) ∙ total-nothing (all_places m)))
from_path m c x q (d ∷ behind) f =
    in_front m (λ u. drains_into c (next_at m u)) x q (d ∷ behind) f
    ∙ (ap (λ (y : Next). together (if_so (drains_into c y) x) (total_flow (map (λ u. if_so (drains_into c (next_at m u)) (if_so (holds_place u (d ∷ behind)) x)) (all_places m)))) f.0
    ∙ (ap (λ (y : Flow). together (if_so (d == c) x) y) (from_path m c x d behind f.1)
    ∙ sym (if_so-either (d == c) (holds_place c behind) x (λ e h. not_follower m d behind f.1 (subst (λ (y : ℕ). Contains behind y) (sym (eqb-true d c e)) (holds_contains c behind h))))))

-- What the material of one cell comes to at c: its own where it is c, and what the tributaries of c pass on.
one_material : (m : DrainMap) (c : ℕ) (x : Flow) (q : ℕ) → IsSound m → q < length m.codes →
    if_so (holds_place c (path_of m q)) x
    ≡ together (if_so (q == c) x) (total_flow (map (λ u. if_so (drains_into c (next_at m u)) (if_so (holds_place u (path_of m q)) x)) (all_places m)))
one_material m c x q sound low = elim (cases_directed m q) as (λ _. if_so (holds_place c (path_of m q)) x ≡ together (if_so (q == c) x) (total_flow (map (λ u. if_so (drains_into c (next_at m u)) (if_so (holds_place u (path_of m q)) x)) (all_places m)))) [
  | inl directed ↦
      let p = sound q directed in
      subst (λ (y : List ℕ). if_so (holds_place c y) x ≡ together (if_so (q == c) x) (total_flow (map (λ u. if_so (drains_into c (next_at m u)) (if_so (holds_place u y) x)) (all_places m)))) (sym (path_of-is m q p.behind p.followed))
      (if_so-either (q == c) (holds_place c p.behind) x (λ e h. not_follower m q p.behind p.followed (subst (λ (y : ℕ). Contains p.behind y) (sym (eqb-true q c e)) (holds_contains c p.behind h)))
      ∙ ap (λ (y : Flow). together (if_so (q == c) x) y) (sym (from_path m c x q p.behind p.followed)))
  | inr missing ↦
      subst (λ (y : List ℕ). if_so (holds_place c y) x ≡ together (if_so (q == c) x) (total_flow (map (λ u. if_so (drains_into c (next_at m u)) (if_so (holds_place u y) x)) (all_places m)))) (sym (path_of-missing m q missing low))
      (if_so-or_false (q == c) x
      ∙ sym (ap (λ (y : Flow). together (if_so (q == c) x) y) (alone m c x q missing low) ∙ together_unit (if_so (q == c) x)))
]

-- accuflux by paths meets the equation
accuflux_step : (m : DrainMap) (a : ℕ → Cell) (c : ℕ) → IsSound m → c < length m.codes → accuflux_of m a c ≡ together (total_flow (map (accuflux_of m a) (tributaries m c))) (material (a c))
accuflux_step m a c sound low =
    let mat : (ℕ → Flow) = λ q. material (a q) in
    let held : (ℕ → ℕ → Flow) = λ d q. if_so (holds_place d (path_of m q)) (mat q) in
    let sums : (d : ℕ) → accuflux_of m a d ≡ total_flow (map (held d) (all_places m)) = λ d. total-filter (λ q. holds_place d (path_of m q)) mat (all_places m) in
    let split = ap total_flow (map_alike (held c) (λ q. together (if_so (q == c) (mat q)) (total_flow (map (λ u. if_so (drains_into c (next_at m u)) (held u q)) (all_places m)))) (all_places m) (λ q h. one_material m c (mat q) q sound (place_below m q h))) in
    let apart = total-together (λ q. if_so (q == c) (mat q)) (λ q. total_flow (map (λ u. if_so (drains_into c (next_at m u)) (held u q)) (all_places m))) (all_places m) in
    let own : total_flow (map (λ q. if_so (q == c) (mat q)) (all_places m)) ≡ mat c =
    ap total_flow (map_alike (λ q. if_so (q == c) (mat q)) (λ q. if_so (c == q) (mat c)) (all_places m) (λ q h. own_place mat q c)) ∙ one_place c (mat c) 0 (length m.codes) (omega arith) (omega arith) in
    let passed : total_flow (map (accuflux_of m a) (tributaries m c)) ≡ total_flow (map (λ q. total_flow (map (λ u. if_so (drains_into c (next_at m u)) (held u q)) (all_places m))) (all_places m)) =
    total-filter (λ u. drains_into c (next_at m u)) (accuflux_of m a) (all_places m)
    ∙ (ap total_flow (map_alike (λ u. if_so (drains_into c (next_at m u)) (accuflux_of m a u)) (λ u. total_flow (map (λ q. if_so (drains_into c (next_at m u)) (held u q)) (all_places m))) (all_places m) (λ u h.
    ap (λ (y : Flow). if_so (drains_into c (next_at m u)) y) (sums u) ∙ if_so-total (drains_into c (next_at m u)) (held u) (all_places m)))
    ∙ total-swap (λ u q. if_so (drains_into c (next_at m u)) (held u q)) (all_places m) (all_places m)) in
    sums c ∙ (split ∙ (apart
    ∙ (ap (λ (y : Flow). together y (total_flow (map (λ q. total_flow (map (λ u. if_so (drains_into c (next_at m u)) (held u q)) (all_places m))) (all_places m)))) own
    ∙ (ap (λ (y : Flow). together (mat c) y) (sym passed) ∙ together_swap (mat c) (total_flow (map (accuflux_of m a) (tributaries m c)))))))

-- ---- masses

nothing_held : (m : DrainMap) (test : ℕ → Bool) (x : Flow) → total_flow (map (λ u. if_so (test u) (if_so (holds_place u []) x)) (all_places m)) ≡ nothing
nothing_held m test x = ap total_flow (map_alike (λ u. if_so (test u) nothing) (λ u. nothing) (all_places m) (λ u h. if_so-nothing (test u))) ∙ total-nothing (all_places m)

-- a path has one pit
at_pit : (m : DrainMap) (x : Flow) (q : ℕ) (behind : List ℕ) → IsFollowedBy m q behind →
    total_flow (map (λ u. if_so (is_pit (next_at m u)) (if_so (holds_place u (q ∷ behind)) x)) (all_places m)) ≡ x
at_pit m x q [] f =
    in_front m (λ u. is_pit (next_at m u)) x q [] f
    ∙ (ap (λ (y : Next). together (if_so (is_pit y) x) (total_flow (map (λ u. if_so (is_pit (next_at m u)) nothing) (all_places m)))) f
    ∙ (ap (λ (y : Flow). together x y) (nothing_held m (λ u. is_pit (next_at m u)) x) ∙ together_unit x))
at_pit m x q (d ∷ behind) f =
    in_front m (λ u. is_pit (next_at m u)) x q (d ∷ behind) f
    ∙ (ap (λ (y : Next). together (if_so (is_pit y) x) (total_flow (map (λ u. if_so (is_pit (next_at m u)) (if_so (holds_place u (d ∷ behind)) x)) (all_places m)))) f.0
    ∙ (ap (λ (y : Flow). together nothing y) (at_pit m x d behind f.1) ∙ (together_swap nothing x ∙ together_unit x)))

-- the material of a cell with a direction comes to one pit, that of another cell to none
one_pit : (m : DrainMap) (x : Flow) (q : ℕ) → IsSound m → q < length m.codes →
    total_flow (map (λ u. if_so (is_pit (next_at m u)) (if_so (holds_place u (path_of m q)) x)) (all_places m)) ≡ if_so (leads_on (next_at m q)) x
one_pit m x q sound low = elim (cases_directed m q) as (λ _. total_flow (map (λ u. if_so (is_pit (next_at m u)) (if_so (holds_place u (path_of m q)) x)) (all_places m)) ≡ if_so (leads_on (next_at m q)) x) [
  | inl directed ↦
      let p = sound q directed in
      subst (λ (y : List ℕ). total_flow (map (λ u. if_so (is_pit (next_at m u)) (if_so (holds_place u y) x)) (all_places m)) ≡ if_so (leads_on (next_at m q)) x) (sym (path_of-is m q p.behind p.followed))
      (at_pit m x q p.behind p.followed ∙ sym (ap (λ (o : Bool). if_so o x) (leads_of m q (next_at m q) refl directed)))
  | inr missing ↦
      subst (λ (y : List ℕ). total_flow (map (λ u. if_so (is_pit (next_at m u)) (if_so (holds_place u y) x)) (all_places m)) ≡ if_so (leads_on (next_at m q)) x) (sym (path_of-missing m q missing low))
      (ap total_flow (map_alike (λ u. if_so (is_pit (next_at m u)) (if_so (holds_place u (q ∷ [])) x)) (λ u. if_so (is_pit (next_at m u)) (if_so (q == u) x)) (all_places m) (λ u h. ap (λ (y : Flow). if_so (is_pit (next_at m u)) y) (if_so-or_false (q == u) x)))
      ∙ (from_one m (λ u. is_pit (next_at m u)) q x low ∙ (ap (λ (y : Next). if_so (is_pit y) x) missing ∙ sym (ap (λ (y : Next). if_so (leads_on y) x) missing))))
]

-- what comes to the pits is the material of all cells with a direction
pub mass_kept : (m : DrainMap) (a : ℕ → Cell) → IsSound m →
    total_flow (map (accuflux_of m a) (filter (λ p. is_pit (next_at m p)) (all_places m))) ≡ total_flow (map (λ q. material (a q)) (filter (λ q. leads_on (next_at m q)) (all_places m)))
mass_kept m a sound =
    let mat : (ℕ → Flow) = λ q. material (a q) in
    let held : (ℕ → ℕ → Flow) = λ d q. if_so (holds_place d (path_of m q)) (mat q) in
    total-filter (λ p. is_pit (next_at m p)) (accuflux_of m a) (all_places m)
    ∙ (ap total_flow (map_alike (λ u. if_so (is_pit (next_at m u)) (accuflux_of m a u)) (λ u. total_flow (map (λ q. if_so (is_pit (next_at m u)) (held u q)) (all_places m))) (all_places m) (λ u h.
    ap (λ (y : Flow). if_so (is_pit (next_at m u)) y) (total-filter (λ q. holds_place u (path_of m q)) mat (all_places m)) ∙ if_so-total (is_pit (next_at m u)) (held u) (all_places m)))
    ∙ (total-swap (λ u q. if_so (is_pit (next_at m u)) (held u q)) (all_places m) (all_places m)
    ∙ (ap total_flow (map_alike (λ q. total_flow (map (λ u. if_so (is_pit (next_at m u)) (held u q)) (all_places m))) (λ q. if_so (leads_on (next_at m q)) (mat q)) (all_places m) (λ q h. one_pit m (mat q) q sound (place_below m q h)))
    ∙ sym (total-filter (λ q. leads_on (next_at m q)) mat (all_places m)))))

-- accuflux is the material of all cells whose path holds the cell
pub accuflux_by_paths : (m : DrainMap) (a b : ℕ → Cell) → IsSound m → (c : ℕ) → IsDirected m c → end_of (transport_of op.Accuflux) m a b c ≡ passing (accuflux_of m a c)
unfolding equation_of feeders
accuflux_by_paths m a b sound c directed =
    ends_unique (transport_of op.Accuflux) m a b (λ d. passing (accuflux_of m a d)) sound
    (λ d h. ap passing (accuflux_step m a d sound (directed_within m d h))) c directed
