-- What is asked of classes, by how often each stands there.
use Rattle.std.proofs.Common.{◌≡◌, ℕ, zero, suc, cond, ◌*◌, ◌<◌, ◌≤◌, ℤ, pos, Bool, true, false, ◌⊎◌, inl, inr, List, [], ◌∷◌, length, refl, sym, subst, ap, ◌∙◌, arith}
use Rattle.std.specs.Prelude.{◌≤ℤ◌, Option, Some, None, Ok, ◌==◌, ◌&&◌, ◌||◌, nat_lt, int_lt, if◌then◌else◌}
use Rattle.std.specs.Cmp.{int_eq_equiv}
use Rattle.std.specs.HashMap.{HashMap, IsUnique, get, keys}
use Rattle.std.specs.List.{All, Contains}
use Rattle.std.specs.Map.{lookup}
use Rattle.std.specs.Option.{is_some, unwrap_or}
use Rattle.std.specs.Ordering.{int_eq}
use Rattle.std.proofs.lemmas.Bool.Decides.{nat_tests}
use Rattle.std.proofs.lemmas.Int.{ints}
use Rattle.std.proofs.lemmas.List.Elements.{All-cons, All-contains, All-nil, Contains-append_left, Contains-append_right, Contains-push}
use Rattle.std.proofs.lemmas.Map.Entries.{length-keys_of}
use Rattle.std.proofs.lemmas.Map.Made.{is_some-lookup}
use Rattle.std.proofs.lemmas.Map.Views.{Contains-from_lookup, lookup-from_Contains}
use Rattle.cell_values.specs.declared.kind.Kind.TheVariants.{Scalar}
use Rattle.cell_values.specs.declared.cell.Cell.TheVariants.{Mv, Val}
use Rattle.cell_values.specs.Kinds.{cell_of_number}
use Rattle.cell_values.specs.Units.{million}
use Rattle.tile_map.specs.Parts.{Outcome}
use Rattle.region_meaning.specs.declared.window.WindowOp.{WindowOp}
use Rattle.region_meaning.specs.declared.window.WindowOp.TheVariants.{Diversity, Majority}
use Rattle.region_meaning.specs.Numbers.{diversity_of, occurrences}
use Rattle.region_meaning.specs.WindowResults.{window_result}
use Rattle.region_meaning.specs.inside.MostFrequent.{most_frequent}
use Rattle.region_meaning.proofs.Callers.{distinct_from_list, equal_numbers, int_eq-same, is_most_frequent, occurs_at_front}
use Rattle.window_ops.specs.declared.counts.Ranked.{Ranked}
use Rattle.window_ops.specs.inside.Classes.{AreSome, class_count, first_ranked}

-- ---- the first of ranked classes

-- a class with its count
abbrev pub rank : ℤ → ℕ → Ranked
rank value count = record { value = value; count = count }

-- the first of a ranked class and of further ones
abbrev pub first_from : Ranked → List (ℤ × ℕ) → Ranked
first_from best [] = best
first_from best (e ∷ es) = first_from (first_ranked best (rank e.0 e.1)) es

-- a class is not behind another one that stands so many times
record IsAhead (a : Ranked) (value : ℤ) (count : ℕ) : Type 0 where
  most : count ≤ a.count
  least : count ≡ a.count → a.value ≤ℤ value

-- the best of a class and further ones
record IsBest (given : Ranked) (es : List (ℤ × ℕ)) (best : Ranked) : Type 0 where
  over : IsAhead best given.value given.count
  others : All (λ d. IsAhead best d.0 d.1) es
  one : (best ≡ given) ⊎ Contains es (best.value, best.count)

-- by the test
tests_say : (a b : Ranked) → (nat_lt a.count b.count || ((b.count == a.count) && int_lt b.value a.value)) ≡ true → (a.count ≤ b.count) × (a.count ≡ b.count → b.value ≤ℤ a.value)
tests_say a b e = grind (arith, ints, nat_tests)

tests_deny : (a b : Ranked) → (nat_lt a.count b.count || ((b.count == a.count) && int_lt b.value a.value)) ≡ false → (b.count ≤ a.count) × (b.count ≡ a.count → a.value ≤ℤ b.value)
tests_deny a b e = grind (arith, ints, nat_tests)

itself : (a : Ranked) → IsAhead a a.value a.count
itself a = record { most = omega arith; least = λ e. omega (arith, ints) }

ahead_ahead : (a b : Ranked) (value : ℤ) (count : ℕ) → IsAhead a b.value b.count → IsAhead b value count → IsAhead a value count
ahead_ahead a b value count p q = record {
  most = let m = p.most in let n = q.most in omega (arith, m, n);
  least = λ e.
      let m = p.most in let n = q.most in
      let here : b.count ≡ a.count = omega (arith, m, n, e) in
      let there : count ≡ b.count = omega (arith, here, e) in
      let s = p.least here in let t = q.least there in
      omega (arith, ints, s, t);
}

-- one more class
record IsNext (given : Ranked) (value : ℤ) (count : ℕ) (best : Ranked) : Type 0 where
  over : IsAhead best given.value given.count
  here : IsAhead best value count
  one : (best ≡ given) ⊎ (best ≡ rank value count)

next_by : (given : Ranked) (value : ℤ) (count : ℕ) (b : Bool) → (nat_lt given.count count || ((count == given.count) && int_lt value given.value)) ≡ b →
    IsNext given value count (if b then rank value count else given)
next_by given value count true e =
    let t = tests_say given (rank value count) e in
    record { over = record { most = t.0; least = t.1 }; here = itself (rank value count); one = inr refl }
next_by given value count false e =
    let t = tests_deny given (rank value count) e in
    record { over = itself given; here = record { most = t.0; least = t.1 }; one = inl refl }

-- the best of a class and further ones, with the first of these
best_with : (given next best : Ranked) (e : ℤ × ℕ) (es : List (ℤ × ℕ)) → IsNext given e.0 e.1 next → IsBest next es best → IsBest given (e ∷ es) best
best_with given next best e es step is = record {
  over = ahead_ahead best next given.value given.count is.over step.over;
  others = All-cons (λ d. IsAhead best d.0 d.1) e es (ahead_ahead best next e.0 e.1 is.over step.here) is.others;
  one = elim is.one [
    | inr behind ↦ inr (Contains-append_right (e ∷ []) es (best.value, best.count) behind)
    | inl same ↦ elim step.one [
      | inl given_is ↦ inl (same ∙ given_is)
      | inr front ↦ inr (Contains-append_left (e ∷ []) es (best.value, best.count)
          (subst (λ (r : Ranked). Contains (e ∷ []) (r.value, r.count)) (sym (same ∙ front)) (Contains-push [] e)))
    ]
  ];
}

best : (given : Ranked) (es : List (ℤ × ℕ)) → IsBest given es (first_from given es)
best given [] = record { over = itself given; others = All-nil (λ d. IsAhead given d.0 d.1); one = inl refl }
best given (e ∷ es) =
    let next : Ranked = first_ranked given (rank e.0 e.1) in
    best_with given next (first_from next es) e es (next_by given e.0 e.1 (nat_lt given.count e.1 || ((e.1 == given.count) && int_lt e.0 given.value)) refl) (best next es)

-- ---- what the counts of values give

-- a class that stands there has its count
found_of : (o : Option ℕ) (n : ℕ) → unwrap_or o 0 ≡ n → 0 < n → o ≡ Some n
found_of None n e some = absurd (omega (arith, e, some))
found_of (Some m) n e some = ap (λ (z : ℕ). let o : Option ℕ = Some z in o) e

found_by : (o : Option ℕ) → ((count : ℕ) → o ≡ Some count → 0 < count) → is_some o ≡ nat_lt 0 (unwrap_or o 0)
found_by None some = refl
found_by (Some n) some = let more = some n refl in grind (arith, nat_tests)

module _ {S : Type 0} (counts : HashMap ℤ ℕ S) (unique : IsUnique int_eq counts) (some : AreSome counts) where
  -- a class that stands there is among the entries
  entered : (class : ℤ) (n : ℕ) → class_count counts class ≡ n → 0 < n → Contains counts.entries (class, n)
  entered class n e more = Contains-from_lookup equal_numbers class n counts.entries (found_of (get int_eq counts class) n e more)

  -- the first of the entries is the most frequent one of the values
  pub first_is_most_frequent : (first : ℤ) (rest : List ℤ) → ((class : ℤ) → class_count counts class ≡ occurrences (first ∷ rest) class) →
      (first_from (rank (pos 0) 0) counts.entries).value ≡ most_frequent (first ∷ rest) first
  first_is_most_frequent first rest same =
      let r : Ranked = first_from (rank (pos 0) 0) counts.entries in
      let is = best (rank (pos 0) 0) counts.entries in
      let ahead : (class : ℤ) → 0 < occurrences (first ∷ rest) class → IsAhead r class (occurrences (first ∷ rest) class) =
      λ class more. All-contains (λ d. IsAhead r d.0 d.1) counts.entries (class, occurrences (first ∷ rest) class) is.others (entered class (occurrences (first ∷ rest) class) (same class) more) in
      let there : (occurrences (first ∷ rest) r.value ≡ r.count) × (0 < r.count) = elim is.one [
        | inr has ↦
            let found : get int_eq counts r.value ≡ Some r.count = lookup-from_Contains int_eq_equiv r.value r.count counts.entries unique has in
            (sym (same r.value) ∙ ap (λ (o : Option ℕ). unwrap_or o 0) found, some r.value r.count found)
        | inl none ↦
            let zero_count : r.count ≡ 0 = ap (λ (q : Ranked). q.count) none in
            let front = occurs_at_front first rest in
            let over = (ahead first front).most in
            absurd (omega (arith, zero_count, front, over))
      ] in
      is_most_frequent first rest r.value (record {
        occurs = let a = there.0 in let b = there.1 in omega (arith, a, b);
        first = λ other more.
            let a = ahead other more in
            let e = there.0 in
            record {
              most = let m = a.most in omega (arith, m, e);
              least = λ d. a.least (d ∙ e);
            };
      })

  -- so many classes are there
  pub different_is : (values : List ℤ) → ((class : ℤ) → class_count counts class ≡ occurrences values class) → length counts.entries ≡ diversity_of values
  different_is values same =
      sym (length-keys_of counts.entries)
      ∙ distinct_from_list (keys counts) values unique
      (λ q. sym (is_some-lookup (int_eq q) counts.entries) ∙ (found_by (get int_eq counts q) (some q) ∙ ap (nat_lt 0) (same q)))

-- values of which none stands there
pub no_values : {S : Type 0} (counts : HashMap ℤ ℕ S) (values : List ℤ) → counts.entries ≡ [] → ((class : ℤ) → class_count counts class ≡ occurrences values class) → values ≡ []
no_values counts [] none same = refl
no_values counts (x ∷ xs) none same =
    let front = occurs_at_front x xs in
    let e : 0 ≡ occurrences (x ∷ xs) x = sym (ap (λ (es : List (ℤ × ℕ)). unwrap_or (lookup (int_eq x) es) 0) none) ∙ same x in
    absurd (omega (arith, front, e))

-- ---- what is asked of them

empty_of : (es : List (ℤ × ℕ)) → length es ≡ 0 → es ≡ []
empty_of [] none = refl
empty_of (e ∷ es) none = absurd (omega (arith, none))

-- where no class is there
pub result_none : {S : Type 0} (op : WindowOp) (counts : HashMap ℤ ℕ S) (values : List ℤ) → length counts.entries ≡ 0 → ((class : ℤ) → class_count counts class ≡ occurrences values class) →
    (let o : Outcome = Ok Mv in o) ≡ window_result op values
result_none op counts values none same = ap (window_result op) (sym (no_values counts values (empty_of counts.entries none) same))

-- where a class is there, a value is
entry_of : (es : List (ℤ × ℕ)) → 0 < length es → (class : ℤ) × (count : ℕ) × (lookup (int_eq class) es ≡ Some count)
entry_of [] more = absurd (omega (arith, more))
entry_of (e ∷ es) more = (e.0, e.1, ap (λ (b : Bool). cond b (Some e.1) (lookup (int_eq e.0) es)) (int_eq-same e.0))

value_of : {S : Type 0} (counts : HashMap ℤ ℕ S) → AreSome counts → 0 < length counts.entries → (values : List ℤ) → ((class : ℤ) → class_count counts class ≡ occurrences values class) → 0 < length values
value_of counts some more [] same =
    let e = entry_of counts.entries more in
    let positive = some e.0 e.1 e.2 in
    let count : e.1 ≡ 0 = ap (λ (o : Option ℕ). unwrap_or o 0) (sym e.2) ∙ same e.0 in
    absurd (omega (arith, positive, count))
value_of counts some more (x ∷ xs) same = omega arith

-- how many there are
different_by : (n : ℕ) (values : List ℤ) → 0 < length values → n ≡ diversity_of values → cell_of_number Scalar (pos (n * million)) ≡ window_result Diversity values
different_by n [] some e = absurd (omega (arith, some))
different_by n (x ∷ xs) some e = ap (λ (k : ℕ). cell_of_number Scalar (pos (k * million))) e

pub result_different : {S : Type 0} (counts : HashMap ℤ ℕ S) → IsUnique int_eq counts → AreSome counts → 0 < length counts.entries → (values : List ℤ) → ((class : ℤ) → class_count counts class ≡ occurrences values class) →
    cell_of_number Scalar (pos (length counts.entries * million)) ≡ window_result Diversity values
result_different counts unique some more values same = different_by (length counts.entries) values (value_of counts some more values same) (different_is counts unique some values same)

-- the most frequent one
majority_by : (n : ℤ) (values : List ℤ) → 0 < length values → ((first : ℤ) (rest : List ℤ) → values ≡ first ∷ rest → n ≡ most_frequent (first ∷ rest) first) →
    (let o : Outcome = Ok (Val n) in o) ≡ window_result Majority values
majority_by n [] some is = absurd (omega (arith, some))
majority_by n (x ∷ xs) some is = ap (λ (k : ℤ). let o : Outcome = Ok (Val k) in o) (is x xs refl)

pub result_majority : {S : Type 0} (counts : HashMap ℤ ℕ S) → AreSome counts → 0 < length counts.entries → (values : List ℤ) → ((class : ℤ) → class_count counts class ≡ occurrences values class) →
    (n : ℤ) → ((first : ℤ) (rest : List ℤ) → ((class : ℤ) → class_count counts class ≡ occurrences (first ∷ rest) class) → n ≡ most_frequent (first ∷ rest) first) →
    (let o : Outcome = Ok (Val n) in o) ≡ window_result Majority values
result_majority counts some more values same n is =
    majority_by n values (value_of counts some more values same)
    (λ first rest e. is first rest (λ class. same class ∙ ap (λ (xs : List ℤ). occurrences xs class) e))

-- some are there where it is not so that none is
pub some_from : (n : ℕ) → (n ≡ 0 → false ≡ true) → 0 < n
some_from zero none = let no = none refl in absurd cc
some_from (suc n) none = omega arith
