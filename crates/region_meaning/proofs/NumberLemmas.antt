-- The most frequent of numbers, and how many different ones there are.
use Rattle.std.proofs.Common.{◌≡◌, ℕ, ◌+◌, ◌<◌, ◌≤◌, ℤ, Bool, true, false, cond, ◌⊎◌, inl, inr, List, [], ◌∷◌, ◌++◌, length, refl, sym, subst, ap, ◌∙◌, arith}
use Rattle.std.specs.Prelude.{◌≤ℤ◌, ◌==◌, ◌&&◌, ◌||◌, nat_lt, int_lt}
use Rattle.std.specs.Cmp.{int_eq_equiv}
use Rattle.std.specs.List.{Contains, IsDistinct, fold}
use Rattle.std.specs.Ordering.{int_eq}
use Rattle.std.specs.Set.{distinct_count, is_member}
use Rattle.std.proofs.lemmas.Bool.Decides.{Decides-int_eq, nat_tests, same_from_decides}
use Rattle.std.proofs.lemmas.Int.{ints}
use Rattle.std.proofs.lemmas.List.Sums.{sum_by-append, sum_by-cons}
use Rattle.std.proofs.lemmas.List.Folds.{list_any-append}
use Rattle.std.proofs.lemmas.Map.Keys.{IsDistinct-push}
use Rattle.std.proofs.lemmas.Map.Made.{length-from_keys}
use Rattle.std.proofs.lemmas.Map.Views.{Contains-from_any, list_any-from_Contains}
use Rattle.region_meaning.specs.Laws.{MajorityIsMostFrequent}
use Rattle.region_meaning.specs.Numbers.{IsMostFrequent, occurrences}
use Rattle.region_meaning.specs.inside.MostFrequent.{first_of_two, is_ahead, most_frequent}

-- two numbers that are equal by the test, in either order
pub equal_numbers : (x y : ℤ) → int_eq x y ≡ true → x ≡ y
equal_numbers x y e = (Decides-int_eq x y).0 e

pub int_eq-flip : (x y : ℤ) → int_eq x y ≡ int_eq y x
int_eq-flip x y =
    same_from_decides (int_eq x y) (int_eq y x) (Decides-int_eq x y)
    ((λ e. sym ((Decides-int_eq y x).0 e)), (λ e. (Decides-int_eq y x).1 (sym e)))

pub int_eq-same : (x : ℤ) → int_eq x x ≡ true
int_eq-same x = (Decides-int_eq x x).1 refl

-- how often a number stands in two lists
pub occurrences-append : (xs ys : List ℤ) (number : ℤ) → occurrences (xs ++ ys) number ≡ occurrences xs number + occurrences ys number
occurrences-append xs ys number = sum_by-append (λ (x : ℤ). cond (int_eq x number) 1 0) xs ys

pub occurrences-cons : (x : ℤ) (xs : List ℤ) (number : ℤ) → occurrences (x ∷ xs) number ≡ cond (int_eq x number) 1 0 + occurrences xs number
occurrences-cons x xs number = sum_by-cons (λ (y : ℤ). cond (int_eq y number) 1 0) x xs

-- a number stands in a list where it occurs there
some_more : (b c : Bool) (n : ℕ) → c ≡ nat_lt 0 n → (b || c) ≡ nat_lt 0 (cond b 1 0 + n)
some_more true c n e = grind (arith, nat_tests)
some_more false c n e = e ∙ ap (nat_lt 0) (let same : n ≡ 0 + n = omega arith in same)

pub member_occurs : (xs : List ℤ) (q : ℤ) → is_member int_eq xs q ≡ nat_lt 0 (occurrences xs q)
member_occurs [] q = refl
member_occurs (x ∷ xs) q =
    ap (λ (b : Bool). b || is_member int_eq xs q) (int_eq-flip q x)
    ∙ (some_more (int_eq x q) (is_member int_eq xs q) (occurrences xs q) (member_occurs xs q) ∙ ap (nat_lt 0) (sym (occurrences-cons x xs q)))

pub occurs-contained : (xs : List ℤ) (q : ℤ) → 0 < occurrences xs q → Contains xs q
occurs-contained xs q some = Contains-from_any equal_numbers q xs (member_occurs xs q ∙ (let t : nat_lt 0 (occurrences xs q) ≡ true = grind (arith, nat_tests) in t))

pub contained-occurs : (xs : List ℤ) (q : ℤ) → Contains xs q → 0 < occurrences xs q
contained-occurs xs q there =
    let t : nat_lt 0 (occurrences xs q) ≡ true = sym (member_occurs xs q) ∙ list_any-from_Contains int_eq_equiv q xs there in
    grind (arith, nat_tests)

-- a number is as frequent as another one, and not greater where it is no more frequent
pub record IsNotBehind (numbers : List ℤ) (a b : ℤ) : Type 0 where
  pub most : occurrences numbers b ≤ occurrences numbers a
  pub least : occurrences numbers b ≡ occurrences numbers a → a ≤ℤ b

-- by the test
tests_say : (m n : ℕ) (a b : ℤ) → (nat_lt n m || ((m == n) && int_lt a b)) ≡ true → (n ≤ m) × (n ≡ m → a ≤ℤ b)
tests_say m n a b e = grind (arith, ints, nat_tests)

tests_deny : (m n : ℕ) (a b : ℤ) → (nat_lt n m || ((m == n) && int_lt a b)) ≡ false → (m ≤ n) × (m ≡ n → b ≤ℤ a)
tests_deny m n a b e = grind (arith, ints, nat_tests)

ahead : (xs : List ℤ) (a b : ℤ) → is_ahead xs a b ≡ true → IsNotBehind xs a b
ahead xs a b e = let t = tests_say (occurrences xs a) (occurrences xs b) a b e in record { most = t.0; least = t.1 }

not_ahead : (xs : List ℤ) (a b : ℤ) → is_ahead xs a b ≡ false → IsNotBehind xs b a
not_ahead xs a b e = let t = tests_deny (occurrences xs a) (occurrences xs b) a b e in record { most = t.0; least = t.1 }

before_before : (xs : List ℤ) (a b c : ℤ) → IsNotBehind xs a b → IsNotBehind xs b c → IsNotBehind xs a c
before_before xs a b c p q = record {
  most = let m = p.most in let n = q.most in omega (arith, m, n);
  least = λ e.
      let m = p.most in let n = q.most in
      let same : occurrences xs b ≡ occurrences xs a = omega (arith, m, n, e) in
      let next : occurrences xs c ≡ occurrences xs b = omega (arith, same, e) in
      let s = p.least same in let t = q.least next in
      omega (arith, ints, s, t);
}

before_itself : (xs : List ℤ) (a : ℤ) → IsNotBehind xs a a
before_itself xs a = record { most = omega arith; least = λ e. omega (arith, ints) }

-- a number of a list is not behind any of it
pub record IsFirst (numbers : List ℤ) (number : ℤ) : Type 0 where
  pub occurs : 0 < occurrences numbers number
  pub first : (other : ℤ) → 0 < occurrences numbers other → IsNotBehind numbers number other

-- the best of a number and a list
record IsBest (xs : List ℤ) (a : ℤ) (ys : List ℤ) (best : ℤ) : Type 0 where
  given : IsNotBehind xs best a
  others : (w : ℤ) → 0 < occurrences ys w → IsNotBehind xs best w
  one : (best ≡ a) ⊎ (0 < occurrences ys best)

-- one more at the front
behind_by : (x w : ℤ) (n : ℕ) (b : Bool) → int_eq x w ≡ b → 0 < cond b 1 0 + n → (x ≡ w) ⊎ (0 < n)
behind_by x w n true e some = inl (equal_numbers x w e)
behind_by x w n false e some = inr (omega (arith, some))

pub occurs_behind : (x w : ℤ) (ys : List ℤ) → 0 < occurrences (x ∷ ys) w → (x ≡ w) ⊎ (0 < occurrences ys w)
occurs_behind x w ys some = behind_by x w (occurrences ys w) (int_eq x w) refl (subst (λ (n : ℕ). 0 < n) (occurrences-cons x ys w) some)

pub occurs_at_front : (x : ℤ) (ys : List ℤ) → 0 < occurrences (x ∷ ys) x
occurs_at_front x ys =
    let e = occurrences-cons x ys x ∙ ap (λ (b : Bool). cond b 1 0 + occurrences ys x) (int_eq-same x) in
    omega (arith, e)

pub occurs_more : (x w : ℤ) (ys : List ℤ) → 0 < occurrences ys w → 0 < occurrences (x ∷ ys) w
occurs_more x w ys some = let e = occurrences-cons x ys w in omega (arith, some, e)

best_with : (xs : List ℤ) (a y : ℤ) (ys : List ℤ) (next best : ℤ) → IsNotBehind xs next a → IsNotBehind xs next y → (next ≡ a) ⊎ (next ≡ y) →
    IsBest xs next ys best → IsBest xs a (y ∷ ys) best
best_with xs a y ys next best p q which is = record {
  given = before_before xs best next a is.given p;
  others = λ w some.
      elim (occurs_behind y w ys some) [
        | inl same ↦ subst (λ (z : ℤ). IsNotBehind xs best z) same (before_before xs best next y is.given q)
        | inr behind ↦ is.others w behind
      ];
  one = elim is.one [
    | inr behind ↦ inr (occurs_more y best ys behind)
    | inl same ↦ elim which [
      | inl a_is ↦ inl (same ∙ a_is)
      | inr y_is ↦ inr (subst (λ (z : ℤ). 0 < occurrences (y ∷ ys) z) (sym (same ∙ y_is)) (occurs_at_front y ys))
    ]
  ];
}

best_by : (xs : List ℤ) (a y : ℤ) (ys : List ℤ) (b : Bool) → is_ahead xs y a ≡ b → IsBest xs (cond b y a) ys (fold (first_of_two xs) (cond b y a) ys) →
    IsBest xs a (y ∷ ys) (fold (first_of_two xs) (cond b y a) ys)
best_by xs a y ys true e is = best_with xs a y ys y (fold (first_of_two xs) y ys) (ahead xs y a e) (before_itself xs y) (inr refl) is
best_by xs a y ys false e is = best_with xs a y ys a (fold (first_of_two xs) a ys) (before_itself xs a) (not_ahead xs y a e) (inl refl) is

best : (xs : List ℤ) (a : ℤ) (ys : List ℤ) → IsBest xs a ys (fold (first_of_two xs) a ys)
best xs a [] = record { given = before_itself xs a; others = λ w some. absurd (omega (arith, some)); one = inl refl }
best xs a (y ∷ ys) = best_by xs a y ys (is_ahead xs y a) refl (best xs (cond (is_ahead xs y a) y a) ys)

pub first-most_frequent : (first : ℤ) (rest : List ℤ) → IsFirst (first ∷ rest) (most_frequent (first ∷ rest) first)
unfolding most_frequent
first-most_frequent first rest =
    let xs : List ℤ = first ∷ rest in
    let is = best xs first xs in
    let r = fold (first_of_two xs) first xs in
    record {
      occurs = elim is.one [
        | inl same ↦ subst (λ (z : ℤ). 0 < occurrences xs z) (sym same) (occurs_at_front first rest)
        | inr there ↦ there
      ];
      first = is.others;
    }

-- in a list with the same numbers
pub first-same : (xs ys : List ℤ) (a : ℤ) → ((w : ℤ) → occurrences xs w ≡ occurrences ys w) → IsFirst xs a → IsFirst ys a
first-same xs ys a same is = record {
  occurs = let e = same a in let some = is.occurs in omega (arith, e, some);
  first = λ other some.
      let e = same other in let f = same a in
      let b = is.first other (omega (arith, e, some)) in
      record {
        most = let m = b.most in omega (arith, e, f, m);
        least = λ g. b.least (e ∙ (g ∙ sym f));
      };
}

-- there is one such number
pub one_first : (xs : List ℤ) (a b : ℤ) → IsFirst xs a → IsFirst xs b → a ≡ b
one_first xs a b p q =
    let f = p.first b q.occurs in let g = q.first a p.occurs in
    let m = f.most in let n = g.most in
    let same : occurrences xs b ≡ occurrences xs a = omega (arith, m, n) in
    let s = f.least same in let t = g.least (sym same) in
    omega (arith, ints, s, t)

pub is_most_frequent : (first : ℤ) (rest : List ℤ) (a : ℤ) → IsFirst (first ∷ rest) a → a ≡ most_frequent (first ∷ rest) first
is_most_frequent first rest a is = one_first (first ∷ rest) a (most_frequent (first ∷ rest) first) is (first-most_frequent first rest)

-- the first number, as the law says it
pub said-first : (xs : List ℤ) (a : ℤ) → IsMostFrequent xs a → IsFirst xs a
said-first xs a is = record {
  occurs = contained-occurs xs a is.stands;
  first = λ other some. record { most = is.most other; least = is.least other };
}

occurs_or_not : (n : ℕ) → (0 < n) ⊎ (n ≡ 0)
occurs_or_not n = grind arith

pub first-said : (xs : List ℤ) (a : ℤ) → IsFirst xs a → IsMostFrequent xs a
first-said xs a is = record {
  stands = occurs-contained xs a is.occurs;
  most = λ other. elim (occurs_or_not (occurrences xs other)) [
    | inl some ↦ (is.first other some).most
    | inr none ↦ omega (arith, none)
  ];
  least = λ other same. let some = is.occurs in (is.first other (omega (arith, some, same))).least same;
}

-- the most frequent of some numbers is one of them
pub most_frequent-stands : (first : ℤ) (rest : List ℤ) → Contains (first ∷ rest) (most_frequent (first ∷ rest) first)
most_frequent-stands first rest = (first-said (first ∷ rest) (most_frequent (first ∷ rest) first) (first-most_frequent first rest)).stands

-- the majority is the most frequent number, and no other number is
pub law : MajorityIsMostFrequent
law first rest a = (
  (λ is. is_most_frequent first rest a (said-first (first ∷ rest) a is)),
  (λ e. subst (IsMostFrequent (first ∷ rest)) (sym e) (first-said (first ∷ rest) (most_frequent (first ∷ rest) first) (first-most_frequent first rest))),
)

-- how many different numbers there are, by a list of them
pub distinct_from_list : (ns xs : List ℤ) → IsDistinct int_eq ns → ((q : ℤ) → is_member int_eq ns q ≡ nat_lt 0 (occurrences xs q)) →
    length ns ≡ distinct_count int_eq xs
distinct_from_list ns xs apart same = length-from_keys int_eq_equiv ns xs apart (λ q. same q ∙ sym (member_occurs xs q))

-- the different numbers of a list
record AreDifferent (xs ns : List ℤ) : Type 0 where
  apart : IsDistinct int_eq ns
  same : (q : ℤ) → is_member int_eq ns q ≡ is_member int_eq xs q

other_way : (b c : Bool) → (b || (c || false)) ≡ (c || b)
other_way true true = refl
other_way true false = refl
other_way false true = refl
other_way false false = refl

known_by : (x : ℤ) (xs ns : List ℤ) (q : ℤ) (c : Bool) → int_eq q x ≡ c → is_member int_eq ns x ≡ true → is_member int_eq ns q ≡ is_member int_eq xs q →
    is_member int_eq ns q ≡ (c || is_member int_eq xs q)
known_by x xs ns q true f e same = ap (is_member int_eq ns) (equal_numbers q x f) ∙ e
known_by x xs ns q false f e same = same

one_different : (x : ℤ) (xs ns : List ℤ) (b : Bool) → is_member int_eq ns x ≡ b → AreDifferent xs ns → (ms : List ℤ) × AreDifferent (x ∷ xs) ms
one_different x xs ns true e are = (
  ns,
  record {
    apart = are.apart;
    same = λ q. known_by x xs ns q (int_eq q x) refl e (are.same q);
  },
)
one_different x xs ns false e are = (
  ns ++ x ∷ [],
  record {
    apart = IsDistinct-push int_eq_equiv ns x are.apart e;
    same = λ q. list_any-append (int_eq q) ns (x ∷ []) ∙ (ap (λ (b : Bool). b || (int_eq q x || false)) (are.same q) ∙ other_way (is_member int_eq xs q) (int_eq q x));
  },
)

different : (xs : List ℤ) → (ns : List ℤ) × AreDifferent xs ns
unfolding IsDistinct
different [] = ([], record { apart = tt; same = λ q. refl })
different (x ∷ xs) = let rest = different xs in one_different x xs rest.0 (is_member int_eq rest.0 x) refl rest.1

-- lists of the same numbers have as many different ones
pub distinct-same : (xs ys : List ℤ) → ((q : ℤ) → occurrences xs q ≡ occurrences ys q) → distinct_count int_eq xs ≡ distinct_count int_eq ys
distinct-same xs ys same =
    let some = different xs in
    sym (length-from_keys int_eq_equiv some.0 xs some.1.apart some.1.same)
    ∙ distinct_from_list some.0 ys some.1.apart (λ q. some.1.same q ∙ (member_occurs xs q ∙ ap (nat_lt 0) (same q)))
