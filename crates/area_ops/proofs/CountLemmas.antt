-- How often numbers stand in classes, place by place and map by map.
use Rattle.std.proofs.Common.{◌≡◌, ℕ, ◌+◌, ◌<◌, ◌≤◌, ℤ, Bool, true, false, cond, List, [], ◌∷◌, ◌++◌, refl, sym, subst, ap, ◌∙◌, arith, Less, Equal, Greater}
use Rattle.std.specs.declared.cmp.Ordering.{Ordering}
use Rattle.std.specs.Prelude.{Option, Some, None, if◌then◌else◌, ◌&&◌}
use Rattle.std.specs.Option.{unwrap_or}
use Rattle.std.specs.Ordering.{int_cmp, int_eq, is_eq}
use Rattle.std.specs.Cmp.{IsEquivalence, IsTotalOrder, int_cmp_total, on_total, then_total, tied_then}
use Rattle.std.specs.BTreeMap.{is_at}
use Rattle.std.specs.List.{filter_map}
use Rattle.std.specs.List.Sorted.{IsStrictlySortedBy}
use Rattle.std.specs.Map.{keys_of, lookup}
use Rattle.std.proofs.lemmas.Cmp.{eq_by_cmp_equiv}
use Rattle.std.proofs.lemmas.List.Elements.{filter_map-append}
use Rattle.std.proofs.lemmas.Map.{lookup-none}
use Rattle.std.proofs.lemmas.Map.Entries.{none_past_head}
use Rattle.std.proofs.lemmas.Map.Keys.{IsDistinct-from_sorted}
use Rattle.std.proofs.lemmas.Map.Lookups.{exact_pairs, exact_signed}
use Rattle.cell_values.specs.declared.cell.Cell.{Cell}
use Rattle.cell_values.specs.declared.cell.Cell.TheVariants.{Mv, Val}
use Rattle.region_meaning.specs.declared.area.AreaOp.{AreaOp}
use Rattle.region_meaning.specs.Areas.{AreaPlace, numbers_of, taken, taken_by_class}
use Rattle.region_meaning.specs.Numbers.{occurrences}
use Rattle.area_ops.specs.inside.Counts.{AreCounts, Member, count_in, count_of_option, count_seen, member_cmp, times_given}
use Rattle.region_meaning.proofs.Callers.{occurrences-append, occurrences-cons}

-- the order of numbers of classes
pub member_total : IsTotalOrder member_cmp
member_total = then_total (on_total (λ (m : Member). m.0) int_cmp_total) (on_total (λ (m : Member). m.1) int_cmp_total)

abbrev pub is_same : Member → Member → Bool
is_same a b = is_eq (member_cmp a b)

is_same_laws : IsEquivalence is_same
is_same_laws = eq_by_cmp_equiv member_total

from_test : (o : Ordering) → is_eq o ≡ true → o ≡ Equal
from_test Less e = absurd cc
from_test Equal e = refl
from_test Greater e = absurd cc

ordering_equal : (a b : Member) → is_same a b ≡ true → a ≡ b
ordering_equal a b e = exact_pairs int_cmp int_cmp exact_signed exact_signed a b (from_test (member_cmp a b) e)

count_is : (es : List (Member × ℕ)) (q : Member) → unwrap_or (lookup (is_at (member_cmp q)) es) 0 ≡ count_in es q
unfolding count_in
count_is es q = refl

-- what a map has where a count was put
put_by : (old : List (Member × ℕ)) (k q : Member) (more : ℕ) (b : Bool) → is_same k q ≡ b →
    unwrap_or (cond b (Some (count_in old k + more)) (lookup (is_at (member_cmp q)) old)) 0 ≡ count_in old q + (if b then more else 0)
put_by old k q more true e = ap (λ (m : Member). count_in old m + more) (ordering_equal k q e)
put_by old k q more false e = count_is old q ∙ (let z : count_in old q ≡ count_in old q + 0 = omega arith in z)

pub put : (old new : List (Member × ℕ)) (k : Member) (t more : ℕ) → t ≡ count_in old k + more →
    ((q : Member) → lookup (is_at (member_cmp q)) new ≡ cond (is_same k q) (Some t) (lookup (is_at (member_cmp q)) old)) →
    (q : Member) → count_in new q ≡ count_in old q + count_seen q k more
put old new k t more e h q =
    sym (count_is new q)
    ∙ (ap (λ (o : Option ℕ). unwrap_or o 0) (h q ∙ ap (λ (n : ℕ). cond (is_same k q) (Some n) (lookup (is_at (member_cmp q)) old)) e)
    ∙ put_by old k q more (is_same k q) refl)

-- the counts stay sound
few_by : (most : ℕ) (old : List (Member × ℕ)) (k q : Member) (more : ℕ) (b : Bool) → is_same k q ≡ b →
    count_in old q ≤ most → count_in old k + more ≤ most → count_in old q + (if b then more else 0) ≤ most
few_by most old k q more true e p few = subst (λ (m : Member). count_in old m + more ≤ most) (ordering_equal k q e) few
few_by most old k q more false e p few = omega (arith, p)

some_by : (t n : ℕ) (o : Option ℕ) (b : Bool) → 0 < t → (o ≡ Some n → 0 < n) → cond b (Some t) o ≡ Some n → 0 < n
some_by t n o true some old e = let same : t ≡ n = cc in omega (arith, same, some)
some_by t n o false some old e = old e

pub put-sound : (most : ℕ) (old new : List (Member × ℕ)) (k : Member) (t more : ℕ) → t ≡ count_in old k + more → 0 < more → count_in old k + more ≤ most →
    ((q : Member) → lookup (is_at (member_cmp q)) new ≡ cond (is_same k q) (Some t) (lookup (is_at (member_cmp q)) old)) →
    AreCounts most old → AreCounts most new
put-sound most old new k t more e some few h are = record {
  few = λ q. subst (λ (n : ℕ). n ≤ most) (sym (put old new k t more e h q)) (few_by most old k q more (is_same k q) refl (are.few q) few);
  some = λ q n found. some_by t n (lookup (is_at (member_cmp q)) old) (is_same k q) (omega (arith, e, some)) (are.some q n) (sym (h q) ∙ found);
}

-- what a place gives to a number of a class
given_by : (op : AreaOp) (value : Cell) (x n : ℤ) (b : Bool) → taken op value ≡ Some x → count_of_option (if b then taken op value else None) n ≡ (if b && int_eq x n then 1 else 0)
given_by op value x n true e = ap (λ (o : Option ℤ). count_of_option o n) e
given_by op value x n false e = refl

pub count-some : (op : AreaOp) (q : Member) (value : Cell) (own x : ℤ) → taken op value ≡ Some x → times_given op q value (Val own) ≡ count_seen q (own, x) 1
unfolding times_given
count-some op q value own x e =
    given_by op value x q.1 (int_eq own q.0) e
    ∙ ap (λ (b : Bool). if b then 1 else 0) (tied_then (int_cmp own q.0) (int_cmp x q.1))

none_by : (op : AreaOp) (value : Cell) (n : ℤ) (b : Bool) → taken op value ≡ None → count_of_option (if b then taken op value else None) n ≡ 0
none_by op value n true e = ap (λ (o : Option ℤ). count_of_option o n) e
none_by op value n false e = refl

pub count-none : (op : AreaOp) (q : Member) (value area : Cell) → taken op value ≡ None → times_given op q value area ≡ 0
unfolding times_given
count-none op q value Mv e = refl
count-none op q value (Val own) e = none_by op value q.1 (int_eq own q.0) e

pub count-missing : (op : AreaOp) (q : Member) (value : Cell) → times_given op q value Mv ≡ 0
unfolding times_given
count-missing op q value = refl

-- a place gives a number at most once
few_option : (o : Option ℤ) (n : ℤ) (b : Bool) → (if b then 1 else 0) ≤ 1
few_option o n true = omega arith
few_option o n false = omega arith

few_count_of : (o : Option ℤ) (n : ℤ) → count_of_option o n ≤ 1
few_count_of None n = omega arith
few_count_of (Some x) n = few_option None n (int_eq x n)

pub few-count : (op : AreaOp) (q : Member) (value area : Cell) → times_given op q value area ≤ 1
unfolding times_given
few-count op q value area = few_count_of (taken_by_class op q.0 value area) q.1

-- how often a number stands among those of one place
once_by : (b : Bool) → cond b 1 0 + 0 ≡ (if b then 1 else 0)
once_by true = omega arith
once_by false = omega arith

one_place : (o : Option ℤ) (n : ℤ) → occurrences (filter_map (λ (x : Option ℤ). x) (o ∷ [])) n ≡ count_of_option o n
one_place None n = refl
one_place (Some x) n = occurrences-cons x [] n ∙ once_by (int_eq x n)

-- how often a number stands in a class over some places and one more
pub one_more_count : (op : AreaOp) (places : List AreaPlace) (p : AreaPlace) (class number : ℤ) →
    occurrences (numbers_of op (places ++ p ∷ []) class) number
    ≡ occurrences (numbers_of op places class) number + times_given op (class, number) p.value p.area
unfolding times_given
one_more_count op places p class number =
    ap (λ (ns : List ℤ). occurrences ns number) (filter_map-append (λ (q : AreaPlace). taken_by_class op class q.value q.area) places (p ∷ []))
    ∙ (occurrences-append (numbers_of op places class) (numbers_of op (p ∷ []) class) number
    ∙ ap (λ (n : ℕ). occurrences (numbers_of op places class) number + n) (one_place (taken_by_class op class p.value p.area) number))

-- and over the places of two parts
pub merged_count : (op : AreaOp) (xs ys : List AreaPlace) (class number : ℤ) →
    occurrences (numbers_of op (xs ++ ys) class) number ≡ occurrences (numbers_of op xs class) number + occurrences (numbers_of op ys class) number
merged_count op xs ys class number =
    ap (λ (ns : List ℤ). occurrences ns number) (filter_map-append (λ (q : AreaPlace). taken_by_class op class q.value q.area) xs ys)
    ∙ occurrences-append (numbers_of op xs class) (numbers_of op ys class) number

-- the entries that are left, when the first of them was taken
taken_by : (q : Member) (old : ℕ) (e : Member × ℕ) (es : List (Member × ℕ)) (b : Bool) → is_same q e.0 ≡ b → (b ≡ true → lookup (is_at (member_cmp q)) es ≡ None) →
    old + unwrap_or (cond b (Some e.1) (lookup (is_at (member_cmp q)) es)) 0 ≡ (old + (if b then e.1 else 0)) + unwrap_or (lookup (is_at (member_cmp q)) es) 0
taken_by q old e es true same behind =
    let none = ap (λ (o : Option ℕ). unwrap_or o 0) (behind refl) in
    omega (arith, none)
taken_by q old e es false same behind = omega arith

pub first_taken : (q : Member) (old : ℕ) (e : Member × ℕ) (es : List (Member × ℕ)) → IsStrictlySortedBy member_cmp (keys_of (e ∷ es)) →
    old + count_in (e ∷ es) q ≡ (old + count_seen q e.0 e.1) + count_in es q
unfolding count_in
first_taken q old e es sorted =
    taken_by q old e es (is_same q e.0) refl
    (λ same. lookup-none (is_at (member_cmp q)) es (none_past_head is_same_laws q e es (IsDistinct-from_sorted member_cmp (keys_of (e ∷ es)) sorted) same))
    ∙ ap (λ (b : Bool). (old + (if b then e.1 else 0)) + unwrap_or (lookup (is_at (member_cmp q)) es) 0) (is_same_laws.symm q e.0)

-- a number of a class sees its own count
pub seen-own : (q : Member) (n : ℕ) → count_seen q q n ≡ n
seen-own q n = ap (λ (b : Bool). if b then n else 0) (is_same_laws.refl q)

-- counts without entries
pub count-nothing : (es : List (Member × ℕ)) (q : Member) → es ≡ [] → count_in es q ≡ 0
unfolding count_in
count-nothing es q e = ap (λ (xs : List (Member × ℕ)). unwrap_or (lookup (is_at (member_cmp q)) xs) 0) e

nothing_found : (es : List (Member × ℕ)) (q : Member) (n : ℕ) → es ≡ [] → lookup (is_at (member_cmp q)) es ≡ Some n → 0 < n
nothing_found es q n e found =
    let none = sym (ap (λ (xs : List (Member × ℕ)). lookup (is_at (member_cmp q)) xs) e) ∙ found in absurd cc

pub nothing_counted : (most : ℕ) (es : List (Member × ℕ)) → es ≡ [] → AreCounts most es
nothing_counted most es e = record {
  few = λ q. let z = count-nothing es q e in omega (arith, z);
  some = λ q n found. nothing_found es q n e found;
}

-- counts with another bound
pub bounded : (most less : ℕ) (es : List (Member × ℕ)) → ((q : Member) → count_in es q ≤ less) → AreCounts most es → AreCounts less es
bounded most less es few are = record { few = few; some = are.some }

-- there is room for the first of the entries that are left
pub room_left : (k : Member) (n old a b most : ℕ) (rest : List (Member × ℕ)) → IsStrictlySortedBy member_cmp (keys_of ((k, n) ∷ rest)) →
    old + count_in ((k, n) ∷ rest) k ≡ a + b → a + b ≤ most → old + n ≤ most
room_left k n old a b most rest sorted e few =
    let f = first_taken k old (k, n) rest sorted in
    let s = seen-own k n in
    omega (arith, e, few, f, s)
