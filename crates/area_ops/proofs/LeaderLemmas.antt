-- The leaders of classes, by the entries of a map of counts.
use Rattle.std.proofs.Common.{◌≡◌, ℕ, ◌+◌, ◌<◌, ◌≤◌, ℤ, pos, ◌*◌, Bool, true, false, cond, ◌⊎◌, inl, inr, List, [], ◌∷◌, length, refl, sym, subst, ap, ◌∙◌, arith}
use Rattle.std.specs.Prelude.{◌≤ℤ◌, Option, Some, None, Ok, if◌then◌else◌, ◌&&◌, nat_lt, option_map}
use Rattle.std.specs.Option.{is_some, unwrap_or}
use Rattle.std.specs.Ordering.{int_cmp, int_eq}
use Rattle.std.specs.Cmp.{int_eq_equiv, tied_then}
use Rattle.std.specs.BTreeMap.{BTreeMap, get, is_at}
use Rattle.std.specs.List.{AllByRecursion, IsDistinct}
use Rattle.std.specs.List.Sorted.{IsStrictlySortedBy}
use Rattle.std.specs.Map.{keys_of, lookup}
use Rattle.std.specs.Set.{distinct_count}
use Rattle.std.proofs.lemmas.Bool.Decides.{nat_tests}
use Rattle.std.proofs.lemmas.Int.{ints}
use Rattle.std.proofs.lemmas.Map.{lookup-none}
use Rattle.std.proofs.lemmas.Map.Entries.{length-keys_of, none_past_head}
use Rattle.std.proofs.lemmas.Map.Keys.{IsDistinct-cons, IsDistinct-from_sorted, IsDistinct-tail}
use Rattle.std.proofs.lemmas.Map.Made.{is_some-lookup}
use Rattle.cell_values.specs.declared.kind.Kind.TheVariants.{Scalar}
use Rattle.cell_values.specs.declared.cell.Cell.TheVariants.{Mv, Val}
use Rattle.cell_values.specs.Kinds.{cell_of_number}
use Rattle.cell_values.specs.Units.{million}
use Rattle.tile_map.specs.Parts.{Outcome}
use Rattle.region_meaning.specs.declared.area.AreaOp.{AreaOp}
use Rattle.region_meaning.specs.declared.area.AreaOp.TheVariants.{Total, Average, Minimum, Maximum, Diversity, Majority, Area}
use Rattle.area_ops.specs.declared.leader.Leader.{Leader}
use Rattle.region_meaning.specs.Numbers.{occurrences}
use Rattle.region_meaning.specs.AreaResults.{area_result}
use Rattle.area_ops.specs.inside.Counts.{Member, count_in, counts_numbers, member_cmp}
use Rattle.area_ops.specs.inside.Leaders.{different_of, leader_with, led_by_entries, led_result, next_leader, takes_lead}
use Rattle.region_meaning.specs.inside.MostFrequent.{most_frequent}
use Rattle.area_ops.proofs.CountLemmas.{is_same}
use Rattle.region_meaning.proofs.Callers.{IsFirst, IsNotBehind, distinct-same, distinct_from_list, equal_numbers, first-most_frequent, first-same, int_eq-flip, int_eq-same, is_most_frequent, occurs_at_front}

-- ---- the entries of a class

-- the numbers of a class with their counts
abbrev pub group : ℤ → List (Member × ℕ) → List (ℤ × ℕ)
group class [] = []
group class (e ∷ es) = cond (int_eq e.0.0 class) ((e.0.1, e.1) ∷ group class es) (group class es)

-- a leader when further numbers are known
abbrev pub lead_from : Leader → List (ℤ × ℕ) → Leader
lead_from leader [] = leader
lead_from leader (g ∷ gs) = lead_from (next_leader leader g.0 g.1) gs

abbrev pub lead : Option Leader → List (ℤ × ℕ) → Option Leader
lead leader [] = leader
lead leader (g ∷ gs) = Some (lead_from (leader_with leader g.0 g.1) gs)

lead_some : (leader : Leader) (gs : List (ℤ × ℕ)) → lead (Some leader) gs ≡ Some (lead_from leader gs)
lead_some leader [] = refl
lead_some leader (g ∷ gs) = refl

led_by : (class : ℤ) (leader : Option Leader) (e : Member × ℕ) (es : List (Member × ℕ)) (b : Bool) →
    ((t : Option Leader) → led_by_entries class t es ≡ lead t (group class es)) →
    led_by_entries class (if b then Some (leader_with leader e.0.1 e.1) else leader) es ≡ lead leader (cond b ((e.0.1, e.1) ∷ group class es) (group class es))
led_by class leader e es true rest = rest (Some (leader_with leader e.0.1 e.1)) ∙ lead_some (leader_with leader e.0.1 e.1) (group class es)
led_by class leader e es false rest = rest leader

led_by_group : (class : ℤ) (leader : Option Leader) (es : List (Member × ℕ)) → led_by_entries class leader es ≡ lead leader (group class es)
led_by_group class leader [] = refl
led_by_group class leader (e ∷ es) = led_by class leader e es (int_eq e.0.0 class) (λ t. led_by_group class t es)

-- what a search finds among them
found_by : (class w : ℤ) (e : Member × ℕ) (es : List (Member × ℕ)) (b : Bool) → int_eq class e.0.0 ≡ b →
    lookup (int_eq w) (group class es) ≡ lookup (is_at (member_cmp (class, w))) es →
    lookup (int_eq w) (cond b ((e.0.1, e.1) ∷ group class es) (group class es))
    ≡ cond (b && int_eq w e.0.1) (Some e.1) (lookup (is_at (member_cmp (class, w))) es)
found_by class w e es true same rest = ap (cond (int_eq w e.0.1) (Some e.1)) rest
found_by class w e es false same rest = rest

found_in_group : (class w : ℤ) (es : List (Member × ℕ)) → lookup (int_eq w) (group class es) ≡ lookup (is_at (member_cmp (class, w))) es
found_in_group class w [] = refl
found_in_group class w (e ∷ es) =
    ap (λ (b : Bool). lookup (int_eq w) (cond b ((e.0.1, e.1) ∷ group class es) (group class es))) (int_eq-flip e.0.0 class)
    ∙ (found_by class w e es (int_eq class e.0.0) refl (found_in_group class w es)
    ∙ ap (λ (b : Bool). cond b (Some e.1) (lookup (is_at (member_cmp (class, w))) es)) (tied_then (int_cmp class e.0.0) (int_cmp w e.0.1)))

-- their numbers are different ones
apart_by : (class v : ℤ) (k : Member) (ks : List ℤ) (b : Bool) → int_eq class k.0 ≡ b → (b && int_eq v k.1) ≡ false →
    AllByRecursion (λ w. int_eq v w ≡ false) ks → AllByRecursion (λ w. int_eq v w ≡ false) (cond b (k.1 ∷ ks) ks)
apart_by class v k ks true same apart rest = (apart, rest)
apart_by class v k ks false same apart rest = rest

keys_by : (e : Member × ℕ) (gs : List (ℤ × ℕ)) (b : Bool) → cond b (e.0.1 ∷ keys_of gs) (keys_of gs) ≡ keys_of (cond b ((e.0.1, e.1) ∷ gs) gs)
keys_by e gs true = refl
keys_by e gs false = refl

apart_in_group : (class v : ℤ) (es : List (Member × ℕ)) → AllByRecursion (λ k. is_same (class, v) k ≡ false) (keys_of es) →
    AllByRecursion (λ w. int_eq v w ≡ false) (keys_of (group class es))
apart_in_group class v [] h = tt
apart_in_group class v (e ∷ es) h =
    let P : List ℤ → Type 0 = AllByRecursion (λ w. int_eq v w ≡ false) in
    subst P (keys_by e (group class es) (int_eq e.0.0 class))
    (subst (λ (b : Bool). P (cond b (e.0.1 ∷ keys_of (group class es)) (keys_of (group class es)))) (int_eq-flip class e.0.0)
    (apart_by class v e.0 (keys_of (group class es)) (int_eq class e.0.0) refl (tied_then (int_cmp class e.0.0) (int_cmp v e.0.1) ∙ h.0) (apart_in_group class v es h.1)))

distinct_by : (class : ℤ) (e : Member × ℕ) (es : List (Member × ℕ)) (b : Bool) → int_eq e.0.0 class ≡ b → AllByRecursion (λ k. is_same e.0 k ≡ false) (keys_of es) →
    IsDistinct int_eq (keys_of (group class es)) → IsDistinct int_eq (keys_of (cond b ((e.0.1, e.1) ∷ group class es) (group class es)))
distinct_by class e es true same apart rest =
    IsDistinct-cons int_eq e.0.1 (keys_of (group class es))
    (apart_in_group class e.0.1 es (subst (λ (z : ℤ). AllByRecursion (λ k. is_same (z, e.0.1) k ≡ false) (keys_of es)) (equal_numbers e.0.0 class same) apart)) rest
distinct_by class e es false same apart rest = rest

distinct_group : (class : ℤ) (es : List (Member × ℕ)) → IsDistinct is_same (keys_of es) → IsDistinct int_eq (keys_of (group class es))
unfolding IsDistinct
distinct_group class [] h = tt
distinct_group class (e ∷ es) h = distinct_by class e es (int_eq e.0.0 class) refl h.0 (distinct_group class es h.1)

-- ---- the leader of some numbers

-- a leader goes before a number that stands so many times, or is it
record IsOver (leader : Leader) (n : ℤ) (count : ℕ) : Type 0 where
  most : count ≤ leader.count
  least : count ≡ leader.count → leader.number ≤ℤ n

-- a number is that of the leader that there may be
abbrev IsThat : Option Leader → ℤ → ℕ → Type 0
IsThat None n count = ⊥
IsThat (Some leader) n count = (n ≡ leader.number) × (count ≡ leader.count)

-- it is the leader of what is known and of further numbers
record IsLed (known : Option Leader) (gs : List (ℤ × ℕ)) (leader : Leader) : Type 0 where
  given : (n : ℤ) (count : ℕ) → IsThat known n count → IsOver leader n count
  others : (n : ℤ) (count : ℕ) → lookup (int_eq n) gs ≡ Some count → IsOver leader n count
  one : IsThat known leader.number leader.count ⊎ (lookup (int_eq leader.number) gs ≡ Some leader.count)
  different : leader.different ≡ different_of known + length gs

-- one more number
record IsNext (known : Option Leader) (n : ℤ) (count : ℕ) (leader : Leader) : Type 0 where
  over : IsOver leader n count
  given : (m : ℤ) (times : ℕ) → IsThat known m times → IsOver leader m times
  one : IsThat known leader.number leader.count ⊎ ((leader.number ≡ n) × (leader.count ≡ count))
  different : leader.different ≡ different_of known + 1

itself : (leader : Leader) → IsOver leader leader.number leader.count
itself leader = record { most = omega arith; least = λ e. omega (arith, ints) }

yes_lead : (l : Leader) (n : ℤ) (count : ℕ) → takes_lead l n count ≡ true → (l.count ≤ count) × (l.count ≡ count → n ≤ℤ l.number)
yes_lead l n count e = grind (arith, ints, nat_tests)

no_lead : (l : Leader) (n : ℤ) (count : ℕ) → takes_lead l n count ≡ false → (count ≤ l.count) × (count ≡ l.count → l.number ≤ℤ n)
no_lead l n count e = grind (arith, ints, nat_tests)

next_by : (l : Leader) (n : ℤ) (count : ℕ) (b : Bool) → takes_lead l n count ≡ b →
    IsNext (Some l) n count (if b then record { different = l.different + 1; number = n; count = count } else record { different = l.different + 1; number = l.number; count = l.count })
next_by l n count true e =
    let r : Leader = record { different = l.different + 1; number = n; count = count } in
    let t = yes_lead l n count e in
    record {
      over = itself r;
      given = λ m times is. record {
        most = let s = t.0 in let q = is.1 in omega (arith, s, q);
        least = λ f. let q = is.1 in let p = is.0 in let g : l.count ≡ count = omega (arith, f, q) in let s = t.1 g in omega (arith, ints, s, p);
      };
      one = inr (refl, refl);
      different = refl;
    }
next_by l n count false e =
    let t = no_lead l n count e in
    record {
      over = record { most = t.0; least = t.1 };
      given = λ m times is. record {
        most = let q = is.1 in omega (arith, q);
        least = λ f. let p = is.0 in omega (arith, ints, p);
      };
      one = inl (refl, refl);
      different = refl;
    }

next : (known : Option Leader) (n : ℤ) (count : ℕ) → IsNext known n count (leader_with known n count)
next None n count = record {
  over = record { most = omega arith; least = λ e. omega (arith, ints) };
  given = λ m times is. absurd is;
  one = inr (refl, refl);
  different = refl;
}
next (Some l) n count = next_by l n count (takes_lead l n count) refl

-- a leader's further numbers, with the first of them
over_by : (n : ℤ) (count : ℕ) (g : ℤ × ℕ) (gs : List (ℤ × ℕ)) (leader : Leader) (b : Bool) → int_eq n g.0 ≡ b → IsOver leader g.0 g.1 →
    (lookup (int_eq n) gs ≡ Some count → IsOver leader n count) → cond b (Some g.1) (lookup (int_eq n) gs) ≡ Some count → IsOver leader n count
over_by n count g gs leader true e over rest found =
    let same : g.1 ≡ count = cc in
    subst (λ (z : ℤ). IsOver leader z count) (sym (equal_numbers n g.0 e)) (subst (IsOver leader g.0) same over)
over_by n count g gs leader false e over rest found = rest found

kept_by : (n : ℤ) (count : ℕ) (g : ℤ × ℕ) (gs : List (ℤ × ℕ)) (b : Bool) → (b ≡ true → lookup (int_eq n) gs ≡ None) → lookup (int_eq n) gs ≡ Some count →
    cond b (Some g.1) (lookup (int_eq n) gs) ≡ Some count
kept_by n count g gs true none found = let no = sym (none refl) ∙ found in absurd cc
kept_by n count g gs false none found = found

at_front : (n : ℤ) (count : ℕ) (g : ℤ × ℕ) (gs : List (ℤ × ℕ)) → n ≡ g.0 → count ≡ g.1 → lookup (int_eq n) (g ∷ gs) ≡ Some count
at_front n count g gs p q =
    ap (λ (z : ℤ). lookup (int_eq z) (g ∷ gs)) p
    ∙ (ap (λ (b : Bool). cond b (Some g.1) (lookup (int_eq g.0) gs)) (int_eq-same g.0) ∙ ap (λ (z : ℕ). let o : Option ℕ = Some z in o) (sym q))

over_over : (l leader : Leader) (n : ℤ) (count : ℕ) → IsOver leader l.number l.count → IsOver l n count → IsOver leader n count
over_over l leader n count p q = record {
  most = let a = p.most in let b = q.most in omega (arith, a, b);
  least = λ e.
      let a = p.most in let b = q.most in
      let here : l.count ≡ leader.count = omega (arith, a, b, e) in
      let there : count ≡ l.count = omega (arith, here, e) in
      let s = p.least here in let t = q.least there in
      omega (arith, ints, s, t);
}

led_with : (known : Option Leader) (g : ℤ × ℕ) (gs : List (ℤ × ℕ)) (l leader : Leader) → IsDistinct int_eq (keys_of (g ∷ gs)) → IsNext known g.0 g.1 l →
    IsLed (Some l) gs leader → IsLed known (g ∷ gs) leader
led_with known g gs l leader apart step rest = record {
  given = λ n count is. over_over l leader n count (rest.given l.number l.count (refl, refl)) (step.given n count is);
  others = λ n count found. over_by n count g gs leader (int_eq n g.0) refl (over_over l leader g.0 g.1 (rest.given l.number l.count (refl, refl)) step.over) (rest.others n count) found;
  one = elim rest.one [
    | inr behind ↦ inr (kept_by leader.number leader.count g gs (int_eq leader.number g.0)
        (λ same. lookup-none (int_eq leader.number) gs (none_past_head int_eq_equiv leader.number g gs apart same)) behind)
    | inl that ↦ elim step.one [
      | inl known_is ↦ inl (subst (λ (z : ℤ). IsThat known z leader.count) (sym that.0) (subst (IsThat known l.number) (sym that.1) known_is))
      | inr front ↦ inr (at_front leader.number leader.count g gs (that.0 ∙ front.0) (that.1 ∙ front.1))
    ]
  ];
  different = let a = rest.different in let b = step.different in omega (arith, a, b);
}

led : (l : Leader) (gs : List (ℤ × ℕ)) → IsDistinct int_eq (keys_of gs) → IsLed (Some l) gs (lead_from l gs)
led l [] apart = record {
  given = λ n count is. record {
    most = let q = is.1 in omega (arith, q);
    least = λ f. let p = is.0 in omega (arith, ints, p);
  };
  others = λ n count found. absurd cc;
  one = inl (refl, refl);
  different = let e : l.different ≡ l.different + 0 = omega arith in e;
}
led l (g ∷ gs) apart =
    led_with (Some l) g gs (next_leader l g.0 g.1) (lead_from (next_leader l g.0 g.1) gs) apart (next (Some l) g.0 g.1)
    (led (next_leader l g.0 g.1) gs (IsDistinct-tail int_eq g.0 (keys_of gs) apart))

-- ---- the leader of a class gives what the operation does

-- what is known of a class: how often each number stands there
record AreGroup (numbers : List ℤ) (gs : List (ℤ × ℕ)) : Type 0 where
  apart : IsDistinct int_eq (keys_of gs)
  counts : (w : ℤ) → unwrap_or (lookup (int_eq w) gs) 0 ≡ occurrences numbers w
  some : (w : ℤ) (n : ℕ) → lookup (int_eq w) gs ≡ Some n → 0 < n

-- a number that occurs is found
found_of : (o : Option ℕ) (n : ℕ) → unwrap_or o 0 ≡ n → 0 < n → o ≡ Some n
found_of None n e some = absurd (omega (arith, e, some))
found_of (Some m) n e some = ap (λ (z : ℕ). let o : Option ℕ = Some z in o) e

not_behind : (numbers : List ℤ) (leader : Leader) (w : ℤ) → occurrences numbers leader.number ≡ leader.count → IsOver leader w (occurrences numbers w) → IsNotBehind numbers leader.number w
not_behind numbers leader w e over = record {
  most = let m = over.most in omega (arith, m, e);
  least = λ f. over.least (f ∙ e);
}

first_of_group : (numbers : List ℤ) (g : ℤ × ℕ) (gs : List (ℤ × ℕ)) (leader : Leader) → AreGroup numbers (g ∷ gs) → IsLed None (g ∷ gs) leader → IsFirst numbers leader.number
first_of_group numbers g gs leader are is = elim is.one [
  | inl that ↦ absurd that
  | inr found ↦
      let there = sym (are.counts leader.number) ∙ ap (λ (o : Option ℕ). unwrap_or o 0) found in
      let some = are.some leader.number leader.count found in
      record {
        occurs = omega (arith, there, some);
        first = λ w more. not_behind numbers leader w there (is.others w (occurrences numbers w) (found_of (lookup (int_eq w) (g ∷ gs)) (occurrences numbers w) (are.counts w) more));
      }
]

-- how many different numbers there are
some_test : (o : Option ℕ) → ((n : ℕ) → o ≡ Some n → 0 < n) → is_some o ≡ nat_lt 0 (unwrap_or o 0)
some_test None some = refl
some_test (Some n) some = let p = some n refl in grind (arith, nat_tests)

different_of_group : (numbers : List ℤ) (gs : List (ℤ × ℕ)) → AreGroup numbers gs → length gs ≡ distinct_count int_eq numbers
different_of_group numbers gs are =
    sym (length-keys_of gs)
    ∙ distinct_from_list (keys_of gs) numbers are.apart
    (λ q. sym (is_some-lookup (int_eq q) gs) ∙ (some_test (lookup (int_eq q) gs) (are.some q) ∙ ap (nat_lt 0) (are.counts q)))

outcome_of : (op : AreaOp) (first : ℤ) (rest : List ℤ) (leader : Leader) → counts_numbers op ≡ true → IsFirst (first ∷ rest) leader.number →
    leader.different ≡ distinct_count int_eq (first ∷ rest) → led_result op leader ≡ area_result op (first ∷ rest)
unfolding area_result
outcome_of Diversity first rest leader counted is e = ap (λ (n : ℕ). cell_of_number Scalar (pos (n * million))) e
outcome_of Majority first rest leader counted is e = ap (λ (n : ℤ). let o : Outcome = Ok (Val n) in o) (is_most_frequent first rest leader.number is)
outcome_of Total first rest leader counted is e = absurd cc
outcome_of Average first rest leader counted is e = absurd cc
outcome_of Minimum first rest leader counted is e = absurd cc
outcome_of Maximum first rest leader counted is e = absurd cc
outcome_of Area first rest leader counted is e = absurd cc

-- an outcome that there may be, or a missing value
abbrev pub or_mv : Option Outcome → Outcome
or_mv o = unwrap_or o (Ok Mv)

nothing_gives : (op : AreaOp) → or_mv None ≡ area_result op []
unfolding area_result
nothing_gives Total = refl
nothing_gives Average = refl
nothing_gives Minimum = refl
nothing_gives Maximum = refl
nothing_gives Diversity = refl
nothing_gives Majority = refl
nothing_gives Area = refl

of_group : (op : AreaOp) (numbers : List ℤ) (gs : List (ℤ × ℕ)) → counts_numbers op ≡ true → AreGroup numbers gs → or_mv (option_map (led_result op) (lead None gs)) ≡ area_result op numbers
of_group op [] [] counted are = nothing_gives op
of_group op (first ∷ rest) [] counted are = let e = are.counts first in let some = occurs_at_front first rest in absurd (omega (arith, e, some))
of_group op [] (g ∷ gs) counted are =
    let found = at_front g.0 g.1 g gs refl refl in
    let e = are.counts g.0 in let f = ap (λ (o : Option ℕ). unwrap_or o 0) found in let some = are.some g.0 g.1 found in
    absurd (omega (arith, e, f, some))
of_group op (first ∷ rest) (g ∷ gs) counted are =
    let start = leader_with None g.0 g.1 in
    let leader = lead_from start gs in
    let is = led_with None g gs start leader are.apart (next None g.0 g.1) (led start gs (IsDistinct-tail int_eq g.0 (keys_of gs) are.apart)) in
    outcome_of op first rest leader counted (first_of_group (first ∷ rest) g gs leader are is)
    (let d = is.different in let e = different_of_group (first ∷ rest) (g ∷ gs) are in omega (arith, d, e))

pub led-result : (op : AreaOp) (class : ℤ) (numbers : List ℤ) (es : List (Member × ℕ)) → counts_numbers op ≡ true → IsStrictlySortedBy member_cmp (keys_of es) →
    ((w : ℤ) → count_in es (class, w) ≡ occurrences numbers w) → ((q : Member) (n : ℕ) → lookup (is_at (member_cmp q)) es ≡ Some n → 0 < n) →
    or_mv (option_map (led_result op) (led_by_entries class None es)) ≡ area_result op numbers
unfolding count_in
led-result op class numbers es counted sorted counts some =
    ap (λ (o : Option Leader). or_mv (option_map (led_result op) o)) (led_by_group class None es)
    ∙ of_group op numbers (group class es) counted (record {
      apart = distinct_group class es (IsDistinct-from_sorted member_cmp (keys_of es) sorted);
      counts = λ w. ap (λ (o : Option ℕ). unwrap_or o 0) (found_in_group class w es) ∙ counts w;
      some = λ w n found. some (class, w) n (sym (found_in_group class w es) ∙ found);
    })

-- numbers in another order give the same
pub same_result : (op : AreaOp) (xs ys : List ℤ) → counts_numbers op ≡ true → ((w : ℤ) → occurrences xs w ≡ occurrences ys w) → area_result op xs ≡ area_result op ys
same_result op [] [] counted same = refl
same_result op [] (y ∷ ys) counted same = let e = same y in let some = occurs_at_front y ys in absurd (omega (arith, e, some))
same_result op (x ∷ xs) [] counted same = let e = same x in let some = occurs_at_front x xs in absurd (omega (arith, e, some))
same_result op (x ∷ xs) (y ∷ ys) counted same =
    let a = most_frequent (x ∷ xs) x in
    let is = first-most_frequent x xs in
    let l : Leader = record { different = distinct_count int_eq (x ∷ xs); number = a; count = 0 } in
    sym (outcome_of op x xs l counted is refl)
    ∙ outcome_of op y ys l counted (first-same (x ∷ xs) (y ∷ ys) a same is) (distinct-same (x ∷ xs) (y ∷ ys) same)

-- how many different numbers a leader knows of
next_different : (known : Option Leader) (n : ℤ) (count : ℕ) → different_of (Some (leader_with known n count)) ≡ different_of known + 1
next_different known n count = (next known n count).different

grows_by : (class : ℤ) (leader : Option Leader) (e : Member × ℕ) (b : Bool) → different_of leader ≤ different_of (if b then Some (leader_with leader e.0.1 e.1) else leader)
grows_by class leader e true = let d = next_different leader e.0.1 e.1 in omega (arith, d)
grows_by class leader e false = omega arith

grows : (class : ℤ) (leader : Option Leader) (es : List (Member × ℕ)) → different_of leader ≤ different_of (led_by_entries class leader es)
grows class leader [] = omega arith
grows class leader (e ∷ es) =
    let one = grows_by class leader e (int_eq e.0.0 class) in
    let rest = grows class (if int_eq e.0.0 class then Some (leader_with leader e.0.1 e.1) else leader) es in
    omega (arith, one, rest)

few_by : (class : ℤ) (leader : Option Leader) (e : Member × ℕ) (b : Bool) → different_of (if b then Some (leader_with leader e.0.1 e.1) else leader) ≤ different_of leader + 1
few_by class leader e true = let d = next_different leader e.0.1 e.1 in omega (arith, d)
few_by class leader e false = omega arith

few : (class : ℤ) (leader : Option Leader) (es : List (Member × ℕ)) → different_of (led_by_entries class leader es) ≤ different_of leader + length es
few class leader [] = omega arith
few class leader (e ∷ es) =
    let one = few_by class leader e (int_eq e.0.0 class) in
    let rest = few class (if int_eq e.0.0 class then Some (leader_with leader e.0.1 e.1) else leader) es in
    omega (arith, one, rest)

-- there is room for the next number
pub room : (class : ℤ) (leader : Option Leader) (rest es : List (Member × ℕ)) → led_by_entries class leader rest ≡ led_by_entries class None es → different_of leader ≤ length es
room class leader rest es e =
    let g = grows class leader rest in let f = few class None es in
    let same = ap different_of e in
    omega (arith, g, f, same)

-- leaders with one more number
with_by : (old : BTreeMap ℤ Leader) (class q number : ℤ) (count : ℕ) (b : Bool) → int_eq class q ≡ b →
    cond b (Some (leader_with (get int_cmp old class) number count)) (get int_cmp old q) ≡ (if b then Some (leader_with (get int_cmp old q) number count) else get int_cmp old q)
with_by old class q number count true e = ap (λ (z : ℤ). let o : Option Leader = Some (leader_with (get int_cmp old z) number count) in o) (equal_numbers class q e)
with_by old class q number count false e = refl

pub led_step : (old new : BTreeMap ℤ Leader) (class l number : ℤ) (count : ℕ) (leader : Leader) (all rest es : List (Member × ℕ)) → l ≡ class →
    leader ≡ leader_with (get int_cmp old class) number count → ((q : ℤ) → get int_cmp new q ≡ cond (int_eq l q) (Some leader) (get int_cmp old q)) →
    all ≡ ((class, number), count) ∷ rest → ((q : ℤ) → led_by_entries q (get int_cmp old q) all ≡ led_by_entries q None es) →
    (q : ℤ) → led_by_entries q (get int_cmp new q) rest ≡ led_by_entries q None es
led_step old new class l number count leader all rest es same is put first left q =
    ap (λ (o : Option Leader). led_by_entries q o rest)
    (put q ∙ (ap (λ (z : ℤ). cond (int_eq z q) (Some leader) (get int_cmp old q)) same
    ∙ (ap (λ (o : Leader). cond (int_eq class q) (Some o) (get int_cmp old q)) is ∙ with_by old class q number count (int_eq class q) refl)))
    ∙ (ap (led_by_entries q (get int_cmp old q)) (sym first) ∙ left q)
