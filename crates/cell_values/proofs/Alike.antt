-- Two rows of digits with one value, where their first digits stand apart.
use Rattle.std.proofs.Common.{◌≡◌, ℕ, zero, suc, ◌+◌, ◌-◌, ◌*◌, ◌^◌, ◌<◌, ◌≤◌, ◌⊎◌, Bool, true, false, ◌&&◌, ◌||◌, List, [], ◌∷◌, ◌++◌, length, get_or, replicate, ◌==◌, pos, neg_ℤ, ◌*ℤ◌, unsigned_abs, Some, refl, sym, ap, ◌∙◌, inl, inr, arith, length-append}
use Rattle.std.specs.List.{list_all}
use Rattle.std.specs.Ordering.{int_eq}
use Rattle.std.proofs.Math.Bool.{beq}
use Rattle.std.proofs.lemmas.Bool.Decides.{Decides-int_eq}
use Rattle.std.specs.Char.{digit_value, is_ascii_digit}
use Rattle.std.specs.Str.Parse.{digits_value}
use Rattle.std.proofs.lemmas.Nat.{pow-add, same_from_place}
use Rattle.std.proofs.lemmas.Bool.{cases_lt, lt-ltb, le-ltb, eqb-true, eq-eqb}
use Rattle.std.proofs.lemmas.List.{ext_get_or, get_or_past, length-replicate}
use Rattle.cell_values.specs.Decimal.{Decimal, IsDecimal, are_digits, denominator, numerator, rise_of, size_of, with_sign}
use Rattle.cell_values.specs.inside.Reading.{decimal_of}
use Rattle.cell_values.specs.Reading.{HasSameValue}
use Rattle.cell_values.specs.inside.Reading.{same_value}
use Rattle.cell_values.specs.inside.Parts.{IsRowWithin, digit_behind, is_zero}
use Rattle.cell_values.proofs.Digits.{both, digit_byte, are_digits-append}
use Rattle.cell_values.proofs.Cuts.{below_power, power_pos, value-append, value-cons, same_test, zero_is}
use Rattle.cell_values.proofs.DecimalLaws.{decimal-from_text}
use Rattle.cell_values.proofs.Readings.{abs_signed, signed_product, denominator_pos}

-- ---- zeros
abbrev zeros : ℕ → List ℕ
zeros n = replicate n 48

zeros_digits : (n : ℕ) → are_digits (zeros n) ≡ true
zeros_digits zero = refl
zeros_digits (suc n) = zeros_digits n

zeros_value : (n : ℕ) → digits_value 10 (zeros n) ≡ 0
zeros_value zero = refl
zeros_value (suc n) = zeros_value n

zeros_at : (n i : ℕ) → get_or (zeros n) i 48 ≡ 48
zeros_at zero i = refl
zeros_at (suc n) zero = refl
zeros_at (suc n) (suc i) = zeros_at n i

-- digits with zeros before and behind them
abbrev padded : ℕ → List ℕ → ℕ → List ℕ
padded before ds behind = zeros before ++ (ds ++ zeros behind)

padded_value : (before : ℕ) (ds : List ℕ) (behind : ℕ) → digits_value 10 (padded before ds behind) ≡ digits_value 10 ds * 10 ^ behind
padded_value before ds behind =
    let inner = value-append ds (zeros behind) in
    let outer = value-append (zeros before) (ds ++ zeros behind) in
    let long = length-replicate {A = ℕ} behind 48 in
    let none = zeros_value behind in
    let first = ap (λ n. n * 10 ^ length (ds ++ zeros behind)) (zeros_value before) in
    let power = ap (λ n. digits_value 10 ds * 10 ^ n) long in
    omega (arith, inner, outer, none, first, power)

padded_length : (before : ℕ) (ds : List ℕ) (behind : ℕ) → length (padded before ds behind) ≡ before + length ds + behind
padded_length before ds behind = omega (arith, length-append (zeros before) (ds ++ zeros behind), length-append ds (zeros behind), length-replicate {A = ℕ} before 48, length-replicate {A = ℕ} behind 48)

padded_digits : (before : ℕ) (ds : List ℕ) (behind : ℕ) → are_digits ds ≡ true → are_digits (padded before ds behind) ≡ true
padded_digits before ds behind p = are_digits-append (zeros before) (ds ++ zeros behind) (zeros_digits before) (are_digits-append ds (zeros behind) p (zeros_digits behind))

behind_at : (ds : List ℕ) (behind i : ℕ) → get_or (ds ++ zeros behind) i 48 ≡ get_or ds i 48
behind_at [] behind i = zeros_at behind i
behind_at (d ∷ ds) behind zero = refl
behind_at (d ∷ ds) behind (suc i) = behind_at ds behind i

padded_at : (before : ℕ) (ds : List ℕ) (behind i : ℕ) → get_or (padded before ds behind) i 48 ≡ digit_behind ds before i
padded_at zero ds behind i =
    let not_before = le-ltb i 0 (omega arith) in
    let whole : i - 0 ≡ i = omega arith in
    behind_at ds behind i ∙ rw (not_before, whole) refl
padded_at (suc before) ds behind zero =
    let first = lt-ltb 0 (suc before) (omega arith) in
    rw first refl
padded_at (suc before) ds behind (suc i) = padded_at before ds behind i ∙ next (cases_lt i before)
  where
    next : (i < before) ⊎ (before ≤ i) → digit_behind ds before i ≡ digit_behind ds (suc before) (suc i)
    next (inl low) = rw (lt-ltb i before low, lt-ltb (suc i) (suc before) (omega arith)) refl
    next (inr high) =
        let same : suc i - suc before ≡ i - before = omega arith in
        rw (le-ltb i before high, le-ltb (suc i) (suc before) (omega arith), same) refl

-- ---- digits of one length are one list where their numbers are one
same_first : (d e : ℕ) → is_ascii_digit d ≡ true → is_ascii_digit e ≡ true → digit_value d ≡ digit_value e → d ≡ e
same_first d e p q h = omega (arith, digit_byte d p, digit_byte e q)

pub same_digits : (xs ys : List ℕ) → are_digits xs ≡ true → are_digits ys ≡ true → length xs ≡ length ys → digits_value 10 xs ≡ digits_value 10 ys → xs ≡ ys
same_digits [] [] p q long h = refl
same_digits [] (y ∷ ys) p q long h = absurd (omega arith)
same_digits (x ∷ xs) [] p q long h = absurd (omega arith)
same_digits (x ∷ xs) (y ∷ ys) p q long h =
    let left = both (is_ascii_digit x) (are_digits xs) p in
    let right = both (is_ascii_digit y) (are_digits ys) q in
    let rest : length xs ≡ length ys = omega arith in
    let width = ap (λ n. 10 ^ n) rest in
    let below = below_power xs left.1 in
    let below' = below_power ys right.1 in
    let value : digit_value x * 10 ^ length xs + digits_value 10 xs ≡ digit_value y * 10 ^ length xs + digits_value 10 ys =
    sym (value-cons x xs) ∙ h ∙ value-cons y ys ∙ ap (λ w. digit_value y * w + digits_value 10 ys) (sym width) in
    let parts = same_from_place (digit_value x) (digits_value 10 xs) (digit_value y) (digits_value 10 ys) (10 ^ length xs) below (omega (arith, below', width)) value in
    let first = same_first x y left.0 right.0 parts.0 in
    let others = same_digits xs ys left.1 right.1 rest parts.1 in
    ap (λ d. d ∷ xs) first ∙ ap (λ t. y ∷ t) others

-- ---- rows that stand in one another
behind_past : (ds : List ℕ) (start k : ℕ) → start + length ds ≤ k → digit_behind ds start k ≡ 48
behind_past ds start k past = rw (le-ltb k start (omega arith)) (get_or_past ds (k - start) 48 (omega arith))

behind_before : (ds : List ℕ) (start k : ℕ) → k < start → digit_behind ds start k ≡ 48
behind_before ds start k low = rw (lt-ltb k start low) refl

behind_inside : (ds : List ℕ) (start i : ℕ) → digit_behind ds start (i + start) ≡ get_or ds i 48
behind_inside ds start i =
    let same : i + start - start ≡ i = omega arith in
    rw (le-ltb (i + start) start (omega arith), same) refl

-- a digit of a row that stands in another is that one's
covered : (xs : List ℕ) (start : ℕ) (ys : List ℕ) (other k : ℕ) → IsRowWithin xs start ys other → start ≤ k → k < start + length xs → digit_behind xs start k ≡ digit_behind ys other k
covered xs start ys other k within low high =
    let same : k - start + start ≡ k = omega arith in
    let inside = behind_inside xs start (k - start) in
    let there = within (k - start) (omega arith) in
    rw same at (inside ∙ there)

one_digit : (xs : List ℕ) (start : ℕ) (ys : List ℕ) (other k : ℕ) → IsRowWithin xs start ys other → IsRowWithin ys other xs start → digit_behind xs start k ≡ digit_behind ys other k
one_digit xs start ys other k within back = first (cases_lt k start) (cases_lt k (start + length xs)) (cases_lt k other) (cases_lt k (other + length ys))
  where
    second : digit_behind xs start k ≡ 48 → (k < other) ⊎ (other ≤ k) → (k < other + length ys) ⊎ (other + length ys ≤ k) → digit_behind xs start k ≡ digit_behind ys other k
    second none (inl low) b = none ∙ sym (behind_before ys other k low)
    second none (inr high) (inl inside) = sym (covered ys other xs start k back high inside)
    second none (inr high) (inr past) = none ∙ sym (behind_past ys other k past)

    first : (k < start) ⊎ (start ≤ k) → (k < start + length xs) ⊎ (start + length xs ≤ k) → (k < other) ⊎ (other ≤ k) → (k < other + length ys) ⊎ (other + length ys ≤ k) → digit_behind xs start k ≡ digit_behind ys other k
    first (inl low) b c d = second (behind_before xs start k low) c d
    first (inr high) (inl inside) c d = covered xs start ys other k within high inside
    first (inr high) (inr past) c d = second (behind_past xs start k past) c d

-- rows that stand in one another are one row, with zeros before and behind them
one_row : (xs : List ℕ) (start behind : ℕ) (ys : List ℕ) (other rest : ℕ) → start + length xs + behind ≡ other + length ys + rest → IsRowWithin xs start ys other → IsRowWithin ys other xs start → padded start xs behind ≡ padded other ys rest
one_row xs start behind ys other rest long within back =
    ext_get_or 48 (padded start xs behind) (padded other ys rest) (padded_length start xs behind ∙ long ∙ sym (padded_length other ys rest))
    (λ k _. padded_at start xs behind k ∙ one_digit xs start ys other k within back ∙ sym (padded_at other ys rest k))

from_row : (xs : List ℕ) (start behind : ℕ) (ys : List ℕ) (other rest : ℕ) → padded start xs behind ≡ padded other ys rest → IsRowWithin xs start ys other
from_row xs start behind ys other rest same i inside =
    sym (behind_inside xs start i) ∙ sym (padded_at start xs behind (i + start)) ∙ ap (λ t. get_or t (i + start) 48) same ∙ padded_at other ys rest (i + start)

pub alike-value : (xs : List ℕ) (start behind : ℕ) (ys : List ℕ) (other rest : ℕ) → start + length xs + behind ≡ other + length ys + rest → IsRowWithin xs start ys other → IsRowWithin ys other xs start → digits_value 10 xs * 10 ^ behind ≡ digits_value 10 ys * 10 ^ rest
alike-value xs start behind ys other rest long within back =
    sym (padded_value start xs behind) ∙ ap (digits_value 10) (one_row xs start behind ys other rest long within back) ∙ padded_value other ys rest

pub value-alike : (xs : List ℕ) (start behind : ℕ) (ys : List ℕ) (other rest : ℕ) → are_digits xs ≡ true → are_digits ys ≡ true → start + length xs + behind ≡ other + length ys + rest → digits_value 10 xs * 10 ^ behind ≡ digits_value 10 ys * 10 ^ rest → IsRowWithin xs start ys other × IsRowWithin ys other xs start
value-alike xs start behind ys other rest p q long h =
    let same = same_digits (padded start xs behind) (padded other ys rest) (padded_digits start xs behind p) (padded_digits other ys rest q) (padded_length start xs behind ∙ long ∙ sym (padded_length other ys rest)) (padded_value start xs behind ∙ h ∙ sym (padded_value other ys rest)) in
    (from_row xs start behind ys other rest same, from_row ys other rest xs start behind (sym same))

-- ---- the sizes of two decimals
crossed : (x raised other fallen : ℕ) → x * 10 ^ raised * 10 ^ (other + fallen) ≡ x * 10 ^ (raised + (other + fallen))
crossed x raised other fallen = rw (pow-add 10 raised (other + fallen)) (omega arith)

long_enough : (wa fa wb fb : List ℕ) (ra na rb nb sa sb : ℕ) → sa ≡ length wb + rb + na → sb ≡ length wa + ra + nb → sa + length (wa ++ fa) + (ra + (length fb + nb)) ≡ sb + length (wb ++ fb) + (rb + (length fa + na))
long_enough wa fa wb fb ra na rb nb sa sb a b = omega (arith, length-append wa fa, length-append wb fb, a, b)

-- rows that stand in one another have one size, where their decimals have these exponents
pub sizes-from_rows : (wa fa wb fb : List ℕ) (ra na rb nb sa sb : ℕ) → sa ≡ length wb + rb + na → sb ≡ length wa + ra + nb → IsRowWithin (wa ++ fa) sa (wb ++ fb) sb → IsRowWithin (wb ++ fb) sb (wa ++ fa) sa → digits_value 10 (wa ++ fa) * 10 ^ ra * 10 ^ (length fb + nb) ≡ digits_value 10 (wb ++ fb) * 10 ^ rb * 10 ^ (length fa + na)
sizes-from_rows wa fa wb fb ra na rb nb sa sb a b within back =
    crossed (digits_value 10 (wa ++ fa)) ra (length fb) nb ∙ alike-value (wa ++ fa) sa (ra + (length fb + nb)) (wb ++ fb) sb (rb + (length fa + na)) (long_enough wa fa wb fb ra na rb nb sa sb a b) within back ∙ sym (crossed (digits_value 10 (wb ++ fb)) rb (length fa) na)

pub rows-from_sizes : (wa fa wb fb : List ℕ) (ra na rb nb sa sb : ℕ) → are_digits (wa ++ fa) ≡ true → are_digits (wb ++ fb) ≡ true → sa ≡ length wb + rb + na → sb ≡ length wa + ra + nb → digits_value 10 (wa ++ fa) * 10 ^ ra * 10 ^ (length fb + nb) ≡ digits_value 10 (wb ++ fb) * 10 ^ rb * 10 ^ (length fa + na) → IsRowWithin (wa ++ fa) sa (wb ++ fb) sb × IsRowWithin (wb ++ fb) sb (wa ++ fa) sa
rows-from_sizes wa fa wb fb ra na rb nb sa sb p q a b h =
    value-alike (wa ++ fa) sa (ra + (length fb + nb)) (wb ++ fb) sb (rb + (length fa + na)) p q (long_enough wa fa wb fb ra na rb nb sa sb a b) (sym (crossed (digits_value 10 (wa ++ fa)) ra (length fb) nb) ∙ h ∙ crossed (digits_value 10 (wb ++ fb)) rb (length fa) na)

-- ---- signs
signed_same : (m n : Bool) (a b : ℕ) → with_sign m a ≡ with_sign n b → (a ≡ b) × ((beq m n || (a == 0)) ≡ true)
signed_same false false a b h = (cc, refl)
signed_same true true a b h = (sym (abs_signed true a) ∙ ap unsigned_abs h ∙ abs_signed true b, refl)
signed_same false true a zero h =
    let none : a ≡ 0 = cc in
    (none, eq-eqb a 0 none)
signed_same false true a (suc b) h = absurd (cc)
signed_same true false zero b h = (cc, refl)
signed_same true false (suc a) b h = absurd (cc)

signed_again : (m n : Bool) (a b : ℕ) → a ≡ b → (beq m n || (a == 0)) ≡ true → with_sign m a ≡ with_sign n b
signed_again false false a b same h = ap (λ k. pos k) same
signed_again true true a b same h = ap (λ k. neg_ℤ (pos k)) same
signed_again false true a b same h =
    let none = eqb-true a 0 h in
    ap (λ k. pos k) none ∙ sym (ap (λ k. neg_ℤ (pos k)) (sym same ∙ none))
signed_again true false a b same h =
    let none = eqb-true a 0 h in
    ap (λ k. neg_ℤ (pos k)) none ∙ sym (ap (λ k. pos k) (sym same ∙ none))

sign_product : (m : Bool) (s e : ℕ) → with_sign m s *ℤ pos e ≡ with_sign m (s * e)
sign_product false s e = refl
sign_product true s e = signed_product s e

zero_product : (s e : ℕ) → 0 < e → (s * e == 0) ≡ (s == 0)
zero_product zero e some =
    let none : 0 * e ≡ 0 = omega arith in
    ap (λ k. k == 0) none
zero_product (suc s) e some = same_test (suc s * e == 0) (suc s == 0) (λ h. let none = eqb-true (suc s * e) 0 h in absurd (omega (arith, none))) (λ h. absurd (omega (arith, eqb-true (suc s) 0 h)))

pub same_value-is : (x y : Decimal) → same_value x y ≡ ((size_of x * denominator y == size_of y * denominator x) && (beq x.negative y.negative || (size_of x == 0)))
unfolding same_value numerator
same_value-is x y =
    let s = size_of x * denominator y in
    let t = size_of y * denominator x in
    let left = sign_product x.negative (size_of x) (denominator y) in
    let right = sign_product y.negative (size_of y) (denominator x) in
    let zero_test = zero_product (size_of x) (denominator y) (denominator_pos y) in
    let decides = Decides-int_eq (with_sign x.negative (size_of x) *ℤ pos (denominator y)) (with_sign y.negative (size_of y) *ℤ pos (denominator x)) in
    same_test (int_eq (with_sign x.negative (size_of x) *ℤ pos (denominator y)) (with_sign y.negative (size_of y) *ℤ pos (denominator x))) ((s == t) && (beq x.negative y.negative || (size_of x == 0)))
    (λ h. let same = signed_same x.negative y.negative s t (sym left ∙ decides.0 h ∙ right) in
    rw (eq-eqb s t same.0, ← zero_test) same.1)
    (λ h. let parts = both (s == t) (beq x.negative y.negative || (size_of x == 0)) h in
    decides.1 (left ∙ signed_again x.negative y.negative s t (eqb-true s t parts.0) (rw zero_test parts.1) ∙ sym right))

pub same_value-means : (x y : Decimal) → (same_value x y ≡ true → HasSameValue x y) × (HasSameValue x y → same_value x y ≡ true)
unfolding same_value
same_value-means x y = Decides-int_eq (numerator x *ℤ pos (denominator y)) (numerator y *ℤ pos (denominator x))

-- a decimal is 0 where each of its digits is
pub zero_size : (d : Decimal) → are_digits (d.whole ++ d.fraction) ≡ true → (size_of d == 0) ≡ list_all is_zero (d.whole ++ d.fraction)
unfolding size_of
zero_size d p = zero_product (digits_value 10 (d.whole ++ d.fraction)) (10 ^ rise_of d.exponent) (power_pos (rise_of d.exponent)) ∙ zero_is (d.whole ++ d.fraction) p

-- ---- the three ways to an answer
pub by_sign : (s n z : Bool) → s ≡ true → n ≡ true → n ≡ (s && (n || z))
by_sign s n z p q = rw (p, q) refl

pub by_zero : (s n z r : Bool) → s ≡ true → n ≡ false → r ≡ z → r ≡ (s && (n || z))
by_zero s n z r p q h = rw (p, q) h

pub by_size : (s n z : Bool) → s ≡ false → s ≡ (s && (n || z))
by_size s n z p = rw p refl

one_decimal_of : (text : List ℕ) (d x : Decimal) → Some d ≡ decimal_of text → decimal_of text ≡ Some x → d ≡ x
one_decimal_of text d x h is = cc

pub same-exact : (a b : List ℕ) (d e x y : Decimal) (r : Bool) → r ≡ same_value d e → Some d ≡ decimal_of a → Some e ≡ decimal_of b → IsDecimal a x → IsDecimal b y → (r ≡ true → HasSameValue x y) × (HasSameValue x y → r ≡ true)
same-exact a b d e x y r h found_a found_b is_x is_y =
    let left = one_decimal_of a d x found_a (decimal-from_text a x is_x) in
    let right = one_decimal_of b e y found_b (decimal-from_text b y is_y) in
    let whole : r ≡ same_value x y = h ∙ ap (λ d. same_value d e) left ∙ ap (λ e. same_value x e) right in
    let means = same_value-means x y in
    (λ yes. means.0 (sym whole ∙ yes), λ same. whole ∙ means.1 same)
