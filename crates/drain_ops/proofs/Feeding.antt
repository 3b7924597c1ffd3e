-- How many cells drain into a cell.
use Rattle.std.proofs.Common.{◌≡◌, ◌⊎◌, inl, inr, ℕ, ◌+◌, ◌<◌, ◌≤◌, List, [], ◌∷◌, length, refl, sym, ap, subst, arith, suc, zero, false}
use Rattle.std.specs.Prelude.{if◌then◌else◌}
use Rattle.std.specs.List.{Contains}
use Rattle.std.proofs.lemmas.Bool.{cases_eq}
use Rattle.drain_meaning.specs.declared.end.FlowEnd.{FlowEnd}
use Rattle.drain_meaning.specs.declared.flow.Flow.TheVariants as flow
use Rattle.drain_meaning.specs.declared.next.Next.TheVariants as next
use Rattle.drain_meaning.specs.declared.op.Orient.TheVariants.{Down}
use Rattle.drain_meaning.specs.Drains.{DrainMap, next_at}
use Rattle.drain_meaning.specs.Rules.{Accumulator, RuleLaws}
use Rattle.drain_meaning.specs.Transports.{Transport, drains_into}
use Rattle.drain_meaning.proofs.Callers.{contains_cases, contains_first, contains_later, drains_tells}
use Rattle.drain_ops.specs.inside.Waits.{feeding, places_before}
use Rattle.drain_ops.proofs.Gathered.{IsApart, gathered, gathered_alike, gathered_same, gathered_split, without, without_other}
use Rattle.drain_ops.proofs.Loads.{drains_true}

-- a rule that counts inflows
abbrev no_end : FlowEnd
no_end = record { out = flow.Mv; result = flow.Mv }

abbrev counted : Transport
counted = record { orient = Down; equation = λ flows a b. no_end }

abbrev counting : Accumulator ℕ
counting = record { none = 0; lifted = λ f. 1; joined = λ x y. x + y; ended = λ x a b. no_end; FitsLoad = λ x n. Unit {0} }

counting_laws : RuleLaws counted counting
counting_laws = record {
  unit = λ x. omega arith;
  swap = λ x y. omega arith;
  regroup = λ x y z. omega arith;
  means = λ flows a b. refl;
  none_fits = tt;
  lifted_fits = λ f n h. tt;
  joined_fits = λ x y m n f g h. tt;
  out_fits = λ x a b n f h g k. tt;
  result_fits = λ x a b n f h g k. tt;
}

-- whether u drains into d, as a number
abbrev feeds : DrainMap → ℕ → ℕ → ℕ
feeds m d u = if drains_into d (next_at m u) then 1 else 0

feeding_counts : (m : DrainMap) (d : ℕ) (us : List ℕ) → feeding m d us ≡ gathered counting (feeds m d) us
feeding_counts m d [] = refl
feeding_counts m d (u ∷ us) = ap (λ (x : ℕ). x + feeds m d u) (feeding_counts m d us)

-- What a list counts is no more than what one counts that has all its places.
counts_no_more : (f : ℕ → ℕ) (xs ys : List ℕ) → IsApart xs → IsApart ys → ((u : ℕ) → Contains xs u → Contains ys u) → gathered counting f xs ≤ gathered counting f ys
counts_no_more f [] ys one two on = omega arith
counts_no_more f (x ∷ xs) ys one two on =
    let split : gathered counting f ys ≡ gathered counting (without counting x f) ys + f x = gathered_split counted counting counting_laws x f ys two (on x (contains_first x xs)) in
    let rest : gathered counting (without counting x f) xs ≤ gathered counting (without counting x f) ys = counts_no_more (without counting x f) xs ys one.1 two (λ u h. on u (contains_later x xs u h)) in
    let same : gathered counting f xs ≡ gathered counting (without counting x f) xs =
    gathered_alike counting f (without counting x f) xs (λ u h. sym (without_other counting x f u (λ e. one.0 (subst (λ (z : ℕ). Contains xs z) e h)))) in
    omega (arith, split, rest, same)

-- a list has a place or not
pub cases_contains : (xs : List ℕ) (u : ℕ) → Contains xs u ⊎ (Contains xs u → ⊥)
cases_contains [] u = inr (λ h. omega (arith, h.1))
cases_contains (x ∷ xs) u = elim (cases_eq u x) as (λ _. Contains (x ∷ xs) u ⊎ (Contains (x ∷ xs) u → ⊥)) [
  | inl same ↦ inl (subst (λ (y : ℕ). Contains (x ∷ xs) y) (sym same) (contains_first x xs))
  | inr other ↦ elim (cases_contains xs u) as (λ _. Contains (x ∷ xs) u ⊎ (Contains (x ∷ xs) u → ⊥)) [
    | inl later ↦ inl (contains_later x xs u later)
    | inr out ↦ inr (λ h. elim (contains_cases x xs u h) as (λ _. ⊥) [ inl b ↦ other b | inr b ↦ out b ])
  ]
]

pub feeding_one : (m : DrainMap) (d c : ℕ) (us : List ℕ) → next_at m c ≡ next.Cell d → feeding m d (c ∷ us) ≡ feeding m d us + 1
feeding_one m d c us e = rw (drains_true (next_at m c) d e)

pub feeding_none : (m : DrainMap) (d c : ℕ) (us : List ℕ) → drains_into d (next_at m c) ≡ false → feeding m d (c ∷ us) ≡ feeding m d us
feeding_none m d c us e = rw e (omega arith)

-- no more cells drain into a cell than there are
pub feeding_few : (m : DrainMap) (d : ℕ) (us : List ℕ) → feeding m d us ≤ length us
feeding_few m d [] = omega arith
feeding_few m d (u ∷ us) =
    let rest = feeding_few m d us in
    elim (drains_tells (next_at m u) d) as (λ _. feeding m d (u ∷ us) ≤ length (u ∷ us)) [
      | inl e ↦ let one = feeding_one m d u us e in omega (arith, one, rest)
      | inr e ↦ let none = feeding_none m d u us e in omega (arith, none, rest)
    ]

-- one place more
pub before_more : (n : ℕ) → places_before (n + 1) ≡ n ∷ places_before n
before_more n = let e : n + 1 ≡ suc n = omega arith in ap places_before e

-- the places before one
pub many_before : (n : ℕ) → length (places_before n) ≡ n
many_before zero = refl
many_before (suc n) = ap suc (many_before n)

pub of_before : (n u : ℕ) → Contains (places_before n) u → u < n
of_before zero u h = absurd (omega (arith, h.1))
of_before (suc n) u h = elim (contains_cases n (places_before n) u h) as (λ _. u < suc n) [
  | inl same ↦ omega arith
  | inr later ↦ let low = of_before n u later in omega (arith, low)
]

pub in_before : (n u : ℕ) → u < n → Contains (places_before n) u
in_before zero u h = absurd (omega arith)
in_before (suc n) u h = elim (cases_eq u n) as (λ _. Contains (places_before (suc n)) u) [
  | inl same ↦ subst (λ (y : ℕ). Contains (places_before (suc n)) y) (sym same) (contains_first n (places_before n))
  | inr other ↦ contains_later n (places_before n) u (in_before n u (omega arith))
]

pub apart_before : (n : ℕ) → IsApart (places_before n)
apart_before zero = tt
apart_before (suc n) = ((λ h. let low = of_before n n h in omega (arith, low)), apart_before n)

-- A cell that drains into d and is not among these places adds to what they count.
pub feeding_room : (m : DrainMap) (d c n : ℕ) (done : List ℕ) → IsApart done → ((u : ℕ) → Contains done u → u < n) → c < n → (Contains done c → ⊥) → next_at m c ≡ next.Cell d → feeding m d done + 1 ≤ feeding m d (places_before n)
feeding_room m d c n done apart low w out e =
    let more = counts_no_more (feeds m d) (c ∷ done) (places_before n) (out, apart) (apart_before n)
    (λ u h. in_before n u (elim (contains_cases c done u h) as (λ _. u < n) [ inl same ↦ subst (λ (y : ℕ). y < n) (sym same) w | inr k ↦ low u k ])) in
    let one = feeding_one m d c done e in
    let left = feeding_counts m d (c ∷ done) in
    let right = feeding_counts m d (places_before n) in
    omega (arith, more, one, left, right)

-- Where a cell waits for none, all cells that drain into it are done.
pub all_fed : (m : DrainMap) (d c n : ℕ) (done : List ℕ) → IsApart done → ((u : ℕ) → Contains done u → u < n) → feeding m d done ≡ feeding m d (places_before n) → c < n → next_at m c ≡ next.Cell d → Contains done c
all_fed m d c n done apart low same w e = elim (cases_contains done c) as (λ _. Contains done c) [
  | inl k ↦ k
  | inr out ↦ let more = feeding_room m d c n done apart low w out e in absurd (omega (arith, more, same))
]

-- and where all of them are done, it waits for none
pub none_left : (m : DrainMap) (d n : ℕ) (done : List ℕ) → IsApart done → ((u : ℕ) → Contains done u → u < n) → ((u : ℕ) → next_at m u ≡ next.Cell d → Contains done u) → feeding m d done ≡ feeding m d (places_before n)
none_left m d n done apart low fed =
    let same = gathered_same counted counting counting_laws (feeds m d) (places_before n) done (apart_before n) apart (λ u h. in_before n u (low u h))
    (λ u h out. elim (drains_tells (next_at m u) d) as (λ _. feeds m d u ≡ 0) [ inl e ↦ absurd (out (fed u e)) | inr e ↦ rw e ]) in
    let left = feeding_counts m d done in
    let right = feeding_counts m d (places_before n) in
    omega (arith, same, left, right)
