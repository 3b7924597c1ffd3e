-- The first unsound place, by following the directions from each place.
use Rattle.std.proofs.Common.{◌≡◌, ◌⊎◌, inl, inr, ℕ, ◌+◌, ◌<◌, ◌≤◌, List, [], ◌∷◌, length, refl, ap, subst, ◌∙◌, arith, suc, zero, Bool, true, false, cond}
use Rattle.std.specs.Prelude.{not, ◌&&◌, Option, Some, None}
use Rattle.std.specs.List.{find, range_with_len}
use Rattle.std.proofs.lemmas.Bool.{and_parts, cases_lt}
use Rattle.drain_meaning.specs.declared.next.Next.{Next}
use Rattle.drain_meaning.specs.declared.next.Next.TheVariants as next
use Rattle.drain_meaning.specs.Drains.{DrainMap, next_at}
use Rattle.drain_meaning.specs.Laws.{HasFirstUnsound}
use Rattle.drain_meaning.specs.Masks.{leads_on}
use Rattle.drain_meaning.specs.Paths.{HasPath, IsDirected, IsFollowedBy}
use Rattle.drain_meaning.specs.inside.FirstUnsound.{comes_to_pit, fails_at, first_unsound, is_pit_or}
use Rattle.drain_meaning.proofs.MapLemmas.{directed_within}
use Rattle.drain_meaning.proofs.PathLemmas.{path_short}

-- a cell that comes to a pit has a path
comes-path : (m : DrainMap) (most c : ℕ) → comes_to_pit m most c ≡ true → HasPath m c
comes-path m zero c h = absurd (cc)
comes-path m (suc most) c h = by_next (next_at m c) (comes-path m most) refl h
  where
    by_next : (n : Next) → ((d : ℕ) → comes_to_pit m most d ≡ true → HasPath m d) → next_at m c ≡ n → is_pit_or (comes_to_pit m most) n ≡ true → HasPath m c
    by_next next.Pit later is h = record { behind = []; followed = is }
    by_next (next.Cell d) later is h = let p = later d h in record { behind = d ∷ p.behind; followed = (is, p.followed) }
    by_next next.Outside later is h = absurd (cc)
    by_next next.Missing later is h = absurd (cc)

-- a cell with a path comes to a pit
path-comes : (m : DrainMap) (most c : ℕ) (behind : List ℕ) → IsFollowedBy m c behind → length behind < most → comes_to_pit m most c ≡ true
path-comes m zero c behind f h = absurd (omega arith)
path-comes m (suc most) c [] f h = ap (is_pit_or (comes_to_pit m most)) f
path-comes m (suc most) c (d ∷ behind) f h = ap (is_pit_or (comes_to_pit m most)) f.0 ∙ path-comes m most d behind f.1 (omega arith)

-- a direction that leads on is none that is missing
leads-directed : (n : Next) → leads_on n ≡ true → n ≡ next.Missing → ⊥
leads-directed n h is = cc (ap leads_on is, h)

directed-leads : (n : Next) → (n ≡ next.Missing → ⊥) → leads_on n ≡ true
directed-leads next.Pit h = refl
directed-leads (next.Cell d) h = refl
directed-leads next.Outside h = refl
directed-leads next.Missing h = absurd (h refl)

-- where a place fails it has a direction and no path
fails-directed : (m : DrainMap) (c : ℕ) → fails_at m c ≡ true → IsDirected m c
fails-directed m c h = leads-directed (next_at m c) (and_parts (leads_on (next_at m c)) (not (comes_to_pit m (length m.codes) c)) h).0

not-true : (b : Bool) → not b ≡ true → b ≡ true → ⊥
not-true true h t = cc
not-true false h t = cc

fails-pathless : (m : DrainMap) (c : ℕ) → fails_at m c ≡ true → HasPath m c → ⊥
fails-pathless m c h p =
    not-true (comes_to_pit m (length m.codes) c) (and_parts (leads_on (next_at m c)) (not (comes_to_pit m (length m.codes) c)) h).1
    (path-comes m (length m.codes) c p.behind p.followed (path_short m c p.behind p.followed))

-- where a place with a direction does not fail it has a path
comes_or : (a b : Bool) → (a && not b) ≡ false → a ≡ true → b ≡ true
comes_or true true h t = refl
comes_or true false h t = absurd (cc)
comes_or false b h t = absurd (cc)

passes-path : (m : DrainMap) (c : ℕ) → fails_at m c ≡ false → IsDirected m c → HasPath m c
passes-path m c h directed =
    comes-path m (length m.codes) c (comes_or (leads_on (next_at m c)) (comes_to_pit m (length m.codes) c) h (directed-leads (next_at m c) directed))

-- what a search among places from k on has found
record Found (test : ℕ → Bool) (k n : ℕ) (p : ℕ) : Type 0 where
  least : k ≤ p
  within : p < k + n
  holds : test p ≡ true
  before : (q : ℕ) → k ≤ q → q < p → test q ≡ false

abbrev IsFound : (ℕ → Bool) → ℕ → ℕ → Option ℕ → Type 0
IsFound test k n None = (q : ℕ) → k ≤ q → q < k + n → test q ≡ false
IsFound test k n (Some p) = Found test k n p

same_or_later : (k q : ℕ) → k ≤ q → (k ≡ q) ⊎ (k + 1 ≤ q)
same_or_later k q h = elim (cases_lt k q) as (λ _. (k ≡ q) ⊎ (k + 1 ≤ q)) [ inl w ↦ inr (omega (arith, w)) | inr w ↦ inl (omega (arith, h, w)) ]

later_found : (test : ℕ → Bool) (k n : ℕ) → test k ≡ false → (o : Option ℕ) → IsFound test (k + 1) n o → IsFound test k (suc n) o
later_found test k n misses None h = λ q low high. elim (same_or_later k q low) as (λ _. test q ≡ false) [
  | inl same ↦ subst (λ x. test x ≡ false) same misses
  | inr more ↦ h q more (omega (arith, high))
]
later_found test k n misses (Some p) h = record {
  least = omega (arith, h.least);
  within = omega (arith, h.within);
  holds = h.holds;
  before = λ q low high. elim (same_or_later k q low) as (λ _. test q ≡ false) [
    | inl same ↦ subst (λ x. test x ≡ false) same misses
    | inr more ↦ h.before q more high
  ];
}

searched : (test : ℕ → Bool) (k n : ℕ) → IsFound test k n (find test (range_with_len k n))
searched test k zero = λ q low high. absurd (omega (arith, low, high))
searched test k (suc n) = by_test (test k) (searched test (k + 1) n) refl
  where
    by_test : (b : Bool) → IsFound test (k + 1) n (find test (range_with_len (k + 1) n)) → test k ≡ b → IsFound test k (suc n) (cond b (Some k) (find test (range_with_len (k + 1) n)))
    by_test true later is = record { least = omega arith; within = omega arith; holds = is; before = λ q low high. absurd (omega (arith, low, high)) }
    by_test false later is = later_found test k n is (find test (range_with_len (k + 1) n)) later

-- the first unsound place that is found is the first unsound place
found-unsound : (m : DrainMap) (o : Option ℕ) → IsFound (fails_at m) 0 (length m.codes) o → HasFirstUnsound m o
found-unsound m None h = λ c directed. passes-path m c (h c (omega arith) (omega (arith, directed_within m c directed))) directed
found-unsound m (Some p) h = record {
  within = omega (arith, h.within);
  directed = fails-directed m p h.holds;
  fails = fails-pathless m p h.holds;
  before = λ c low directed. passes-path m c (h.before c (omega arith) low) directed;
}

pub first_unsound-found : (m : DrainMap) → HasFirstUnsound m (first_unsound m)
unfolding first_unsound
first_unsound-found m = found-unsound m (find (fails_at m) (range_with_len 0 (length m.codes))) (searched (fails_at m) 0 (length m.codes))
