-- Digits and the numbers that they write.
use Rattle.std.proofs.Common.{◌≡◌, ℕ, zero, suc, ◌+◌, ◌-◌, ◌*◌, ◌^◌, ◌<◌, ◌≤◌, Bool, true, false, cond, List, [], ◌∷◌, ◌++◌, ◌&&◌, length, get_or, take, drop, refl, ap, ◌∙◌, arith, add-one, drop-cons, nat_lt, nat_le, MatchOption, Some, None, Option, unwrap_or}
use Rattle.std.specs.Char.{digit_value, is_ascii_digit}
use Rattle.std.specs.List.{prefix_len}
use Rattle.std.specs.Str.Parse.{digits_value, digits_value_after, AllDigits}
use Rattle.std.proofs.lemmas.Grind.{common_steps}
use Rattle.std.proofs.lemmas.Bool.{leb-true}
use Rattle.std.proofs.lemmas.Int.Digits.{digits_value-lt}
use Rattle.std.proofs.Math.Nat.{pow-le-pow_right}
use Rattle.cell_values.specs.Decimal.{are_digits}
use Rattle.cell_values.specs.inside.Reading.{is_short_numeral}

-- further digits make no number smaller
pub value_after-ge : (n : ℕ) (ds : List ℕ) → n ≤ digits_value_after 10 n ds
value_after-ge n [] = omega arith
value_after-ge n (d ∷ ds) = omega (arith, value_after-ge (n * 10 + digit_value d) ds)

-- one digit more leaves the others
pub value_after-drop : (n : ℕ) (ds : List ℕ) (i : ℕ) → i < length ds → digits_value_after 10 n (drop i ds) ≡ digits_value_after 10 (n * 10 + digit_value (get_or ds i 0)) (drop (i + 1) ds)
value_after-drop n ds i below =
    let e : drop i ds ≡ get_or ds i 0 ∷ drop (i + 1) ds = rw (add-one, drop-cons ds i 0) refl in
    ap (digits_value_after 10 n) e

-- where one digit more is too much, so are all
pub too_many : (m n i : ℕ) (ds : List ℕ) → i < length ds → ((n * 10 + digit_value (get_or ds i 0) < m) → ⊥) → m ≤ digits_value_after 10 n (drop i ds)
too_many m n i ds below over =
    let more = value_after-ge (n * 10 + digit_value (get_or ds i 0)) (drop (i + 1) ds) in
    let step = value_after-drop n ds i below in
    omega (arith, step, more, over)

pub digit_byte : (c : ℕ) → is_ascii_digit c ≡ true → (48 ≤ c) × (c ≤ 57) × (digit_value c ≡ c - 48)
digit_byte c h = grind (arith, common_steps)

digit_below : (c : ℕ) → is_ascii_digit c ≡ true → digit_value c < 10
digit_below c h = grind (arith, common_steps)

pub both : (a b : Bool) → (a && b) ≡ true → (a ≡ true) × (b ≡ true)
both true b h = (refl, h)
both false b h = absurd (cc)

-- std's word for digits
pub all_digits : (ds : List ℕ) → are_digits ds ≡ true → AllDigits 10 ds
all_digits [] h = tt
all_digits (d ∷ ds) h =
    let parts = both (is_ascii_digit d) (are_digits ds) h in
    (digit_below d parts.0, all_digits ds parts.1)

-- a short numeral is below a million
pub short_below : (ds : List ℕ) → is_short_numeral ds ≡ true → digits_value 10 ds < 1000000
short_below ds h =
    let parts = both (are_digits ds && nat_lt 0 (length ds)) (nat_le (length ds) 6) h in
    let few = leb-true (length ds) 6 parts.1 in
    let below = digits_value-lt 10 ds (all_digits ds (both (are_digits ds) (nat_lt 0 (length ds)) parts.0).0) in
    let most : 10 ^ length ds ≤ 10 ^ 6 = pow-le-pow_right {n = 10} (omega arith) {i = length ds} {j = 6} few in
    omega (arith, below, most)

-- the digits at the front
front_case : (b : Bool) (n c : ℕ) (cs : List ℕ) → is_ascii_digit c ≡ b → are_digits (take n cs) ≡ true → are_digits (take (cond b (1 + n) 0) (c ∷ cs)) ≡ true
front_case true n c cs test rest =
    let more : 1 + n ≡ suc n = omega arith in
    let whole : (is_ascii_digit c && are_digits (take n cs)) ≡ true = rw (test, rest) refl in
    ap (λ k. are_digits (take k (c ∷ cs))) more ∙ whole
front_case false n c cs test rest = refl

pub digits_at_front : (text : List ℕ) → are_digits (take (prefix_len is_ascii_digit text) text) ≡ true
digits_at_front [] = refl
digits_at_front (c ∷ cs) = front_case (is_ascii_digit c) (prefix_len is_ascii_digit cs) c cs refl (digits_at_front cs)

-- an option that is `None` only above a bound gives the value below it
pub some_below : (o : Option ℕ) (v m : ℕ) → MatchOption o (m ≤ v) (λ n. n ≡ v) → v < m → unwrap_or o 0 ≡ v
some_below None v m h small = absurd (omega arith)
some_below (Some n) v m h small = h

-- the number of digits and of those behind them
pub value_after-append : (n : ℕ) (xs ys : List ℕ) → digits_value_after 10 n (xs ++ ys) ≡ digits_value_after 10 (digits_value_after 10 n xs) ys
value_after-append n [] ys = refl
value_after-append n (x ∷ xs) ys = value_after-append (n * 10 + digit_value x) xs ys

-- digits are digits in two pieces
pub are_digits-append : (xs ys : List ℕ) → are_digits xs ≡ true → are_digits ys ≡ true → are_digits (xs ++ ys) ≡ true
are_digits-append [] ys p q = q
are_digits-append (x ∷ xs) ys p q =
    let parts = both (is_ascii_digit x) (are_digits xs) p in
    rw (parts.0, are_digits-append xs ys parts.1 q) refl

pub are_digits-take : (n : ℕ) (xs : List ℕ) → are_digits xs ≡ true → are_digits (take n xs) ≡ true
are_digits-take zero xs p = refl
are_digits-take (suc n) [] p = refl
are_digits-take (suc n) (x ∷ xs) p =
    let parts = both (is_ascii_digit x) (are_digits xs) p in
    rw (parts.0, are_digits-take n xs parts.1) refl

pub are_digits-drop : (n : ℕ) (xs : List ℕ) → are_digits xs ≡ true → are_digits (drop n xs) ≡ true
are_digits-drop zero xs p = p
are_digits-drop (suc n) [] p = refl
are_digits-drop (suc n) (x ∷ xs) p = are_digits-drop n xs (both (is_ascii_digit x) (are_digits xs) p).1

-- what is taken and dropped of two pieces
pub take-append : (n : ℕ) (xs ys : List ℕ) → take n (xs ++ ys) ≡ take n xs ++ take (n - length xs) ys
take-append zero [] ys = refl
take-append (suc n) [] ys =
    let e : suc n ≡ suc n - 0 = omega arith in
    ap (λ k. take k ys) e
take-append zero (x ∷ xs) ys =
    let e : 0 ≡ 0 - suc (length xs) = omega arith in
    ap (λ k. take k ys) e
take-append (suc n) (x ∷ xs) ys =
    let e : n - length xs ≡ suc n - suc (length xs) = omega arith in
    ap (λ t. x ∷ t) (take-append n xs ys) ∙ ap (λ k. x ∷ (take n xs ++ take k ys)) e

pub drop-append : (n : ℕ) (xs ys : List ℕ) → drop n (xs ++ ys) ≡ drop n xs ++ drop (n - length xs) ys
drop-append zero [] ys = refl
drop-append (suc n) [] ys =
    let e : suc n ≡ suc n - 0 = omega arith in
    ap (λ k. drop k ys) e
drop-append zero (x ∷ xs) ys =
    let e : 0 ≡ 0 - suc (length xs) = omega arith in
    ap (λ k. x ∷ (xs ++ drop k ys)) e
drop-append (suc n) (x ∷ xs) ys =
    let e : n - length xs ≡ suc n - suc (length xs) = omega arith in
    drop-append n xs ys ∙ ap (λ k. drop n xs ++ drop k ys) e
