-- Fractions whose lower part is a power of ten, cut to whole numbers.
use Rattle.std.proofs.Common.{◌≡◌, ℕ, zero, suc, ◌+◌, ◌-◌, ◌*◌, ◌/◌, ◌%◌, ◌^◌, ◌<◌, ◌≤◌, ◌⊎◌, Bool, true, false, ◌&&◌, List, [], ◌∷◌, ◌++◌, length, get_or, take, drop, nat_le, ◌==◌, refl, sym, ap, ◌∙◌, inl, inr, arith, length-drop, length-append, lit<}
use Rattle.std.specs.Char.{digit_value, is_ascii_digit}
use Rattle.std.specs.List.{list_all}
use Rattle.std.specs.Str.Parse.{digits_value, digits_value_after}
use Rattle.std.proofs.Math.Nat.{mul-le-mul_left, mul-div-mul_left, div-eq_of_lt, mod-eq_of_lt, pow-suc, one-le-pow, pow-le-pow_right, le_of_mul-le-mul_left}
use Rattle.std.proofs.lemmas.Nat.{pow-add, div-mul-add, mod-mul-add}
use Rattle.std.proofs.lemmas.Bool.{cases_lt, leb-true, le-leb, lt-leb, eqb-true, eq-eqb}
use Rattle.std.proofs.lemmas.List.{take-append-drop}
use Rattle.std.proofs.lemmas.Int.Digits.{digits_value-lt}
use Rattle.cell_values.specs.declared.read.Cut.{Cut}
use Rattle.cell_values.specs.Decimal.{are_digits}
use Rattle.cell_values.specs.inside.Parts.{IsCut, is_zero}
use Rattle.cell_values.proofs.Digits.{all_digits, both, digit_byte, value_after-append, are_digits-drop}

-- ---- tests that agree
pub same_test : (a b : Bool) → (a ≡ true → b ≡ true) → (b ≡ true → a ≡ true) → a ≡ b
same_test true b to from = sym (to refl)
same_test false true to from = from refl
same_test false false to from = refl

le_same : (a b c d : ℕ) → (a ≤ b → c ≤ d) → (c ≤ d → a ≤ b) → nat_le a b ≡ nat_le c d
le_same a b c d to from = same_test (nat_le a b) (nat_le c d) (λ h. le-leb c d (to (leb-true a b h))) (λ h. le-leb a b (from (leb-true c d h)))

eq_same : (a b c d : ℕ) → (a ≡ b → c ≡ d) → (c ≡ d → a ≡ b) → (a == b) ≡ (c == d)
eq_same a b c d to from = same_test (a == b) (c == d) (λ h. eq-eqb c d (to (eqb-true a b h))) (λ h. eq-eqb a b (from (eqb-true c d h)))

-- ---- the number of some digits
pub power_pos : (k : ℕ) → 0 < 10 ^ k
power_pos k = one-le-pow k 10 (omega arith)

pub below_power : (ds : List ℕ) → are_digits ds ≡ true → digits_value 10 ds < 10 ^ length ds
below_power ds p = digits_value-lt 10 ds (all_digits ds p)

step : (n y P w : ℕ) → (n * 10 + y) * P + w ≡ n * (P * 10) + ((0 * 10 + y) * P + w)
step n y P w = omega arith

pub value_after-split : (n : ℕ) (ds : List ℕ) → digits_value_after 10 n ds ≡ n * 10 ^ length ds + digits_value 10 ds
value_after-split n [] = omega arith
value_after-split n (d ∷ ds) =
    let y = digit_value d in
    let first = value_after-split (n * 10 + y) ds in
    let second = value_after-split (0 * 10 + y) ds in
    first ∙ step n y (10 ^ length ds) (digits_value 10 ds) ∙ rw (← second, ← pow-suc 10 (length ds)) refl

pub value-append : (xs ys : List ℕ) → digits_value 10 (xs ++ ys) ≡ digits_value 10 xs * 10 ^ length ys + digits_value 10 ys
value-append xs ys = value_after-append 0 xs ys ∙ value_after-split (digits_value 10 xs) ys

-- the first digit and the others
pub value-cons : (d : ℕ) (ds : List ℕ) → digits_value 10 (d ∷ ds) ≡ digit_value d * 10 ^ length ds + digits_value 10 ds
value-cons d ds = value_after-split (0 * 10 + digit_value d) ds ∙ ap (λ k. k * 10 ^ length ds + digits_value 10 ds) (omega arith)

-- ---- the first digit decides whether digits are a half or more
at_least_half : (k P w : ℕ) → 0 < P → w < P → (P * 10 ≤ 2 * (k * P + w) → 5 ≤ k) × (5 ≤ k → P * 10 ≤ 2 * (k * P + w))
at_least_half k P w some below = (down (cases_lt k 5), up)
  where
    down : (k < 5) ⊎ (5 ≤ k) → P * 10 ≤ 2 * (k * P + w) → 5 ≤ k
    down (inl less) h =
        let most = mul-le-mul_left {m = k} {n = 4} P (omega arith) in
        absurd (omega (arith, most, h))
    down (inr more) h = more

    up : 5 ≤ k → P * 10 ≤ 2 * (k * P + w)
    up h = omega (arith, mul-le-mul_left {m = 5} {n = k} P h)

pub half_is : (ds : List ℕ) → are_digits ds ≡ true → nat_le (10 ^ length ds) (2 * digits_value 10 ds) ≡ nat_le 53 (get_or ds 0 48)
half_is [] p = refl
half_is (d ∷ ds) p =
    let parts = both (is_ascii_digit d) (are_digits ds) p in
    let byte = digit_byte d parts.0 in
    let k = digit_value d in
    let sides = at_least_half k (10 ^ length ds) (digits_value 10 ds) (power_pos (length ds)) (below_power ds parts.1) in
    rw (value-cons d ds, pow-suc 10 (length ds)) (le_same (10 ^ length ds * 10) (2 * (k * 10 ^ length ds + digits_value 10 ds)) 53 d (λ h. let five = sides.0 h in omega (arith, byte, five)) (λ h. sides.1 (omega (arith, byte, h))))

-- ---- digits are 0 where each is
zero_sum : (k P w : ℕ) → 0 < P → k * P + w ≡ 0 → (k ≡ 0) × (w ≡ 0)
zero_sum zero P w some h = (refl, omega arith)
zero_sum (suc k) P w some h = absurd (omega arith)

zero_case : (d : ℕ) (ds : List ℕ) → is_ascii_digit d ≡ true → (digits_value 10 ds == 0) ≡ list_all is_zero ds → (digit_value d * 10 ^ length ds + digits_value 10 ds == 0) ≡ ((d == 48) && list_all is_zero ds)
zero_case d ds p rest =
    let byte = digit_byte d p in
    same_test (digit_value d * 10 ^ length ds + digits_value 10 ds == 0) ((d == 48) && list_all is_zero ds)
    (λ h. let z = zero_sum (digit_value d) (10 ^ length ds) (digits_value 10 ds) (power_pos (length ds)) (eqb-true (digit_value d * 10 ^ length ds + digits_value 10 ds) 0 h) in
    let first : (d == 48) ≡ true = eq-eqb d 48 (omega (arith, byte, z)) in
    rw (first, ← rest) (eq-eqb (digits_value 10 ds) 0 z.1))
    (λ h. let z = both (d == 48) (list_all is_zero ds) h in
    let w = eqb-true (digits_value 10 ds) 0 (rest ∙ z.1) in
    let k : digit_value d ≡ 0 = omega (arith, byte, eqb-true d 48 z.0) in
    eq-eqb (digit_value d * 10 ^ length ds + digits_value 10 ds) 0 (rw (k, w) (omega arith)))

pub zero_is : (ds : List ℕ) → are_digits ds ≡ true → (digits_value 10 ds == 0) ≡ list_all is_zero ds
zero_is [] p = refl
zero_is (d ∷ ds) p =
    let parts = both (is_ascii_digit d) (are_digits ds) p in
    rw (value-cons d ds) (zero_case d ds parts.0 (zero_is ds parts.1))

-- ---- cuts
mod_scaled : (c n d : ℕ) → 0 < c → 0 < d → (c * n) % (c * d) ≡ c * (n % d)
mod_scaled c n d some lower =
    let q = n / d in
    let r = n % d in
    let n_is : n ≡ q * d + r = omega arith in
    let below : c * (r + 1) ≤ c * d = mul-le-mul_left c (omega arith) in
    let whole : c * n ≡ q * (c * d) + c * r = ap (λ m. c * m) n_is ∙ omega arith in
    ap (λ m. m % (c * d)) whole ∙ mod-mul-add q (c * d) (c * r) (omega (arith, below))

-- a fraction may be made larger above and below
pub cut_scaled : (c n d : ℕ) (cut : Cut) → 0 < c → 0 < d → IsCut n d cut → IsCut (c * n) (c * d) cut
cut_scaled c n d cut some lower is =
    let rest = mod_scaled c n d some lower in
    let twice : 2 * (c * (n % d)) ≡ c * (2 * (n % d)) = omega arith in
    record {
      size = is.size ∙ sym (mul-div-mul_left n d some);
      half = is.half ∙ rw (rest, twice) (le_same d (2 * (n % d)) (c * d) (c * (2 * (n % d))) (λ h. mul-le-mul_left c h) (λ h. le_of_mul-le-mul_left h some));
      exact = is.exact ∙ rw rest (eq_same (n % d) 0 (c * (n % d)) 0 (λ h. rw h (omega arith)) (λ h. (zero_sum' c (n % d) some h)));
    }
  where
    zero_sum' : (c r : ℕ) → 0 < c → c * r ≡ 0 → r ≡ 0
    zero_sum' c r some h = (zero_sum r c 0 some (omega (arith, h))).0

-- behind some of the digits
pub cut_inside : (front back : List ℕ) (cut : Cut) → are_digits back ≡ true → cut.size ≡ digits_value 10 front → cut.half ≡ nat_le 53 (get_or back 0 48) → cut.exact ≡ list_all is_zero back → IsCut (digits_value 10 (front ++ back)) (10 ^ length back) cut
cut_inside front back cut p size half exact =
    let n = value-append front back in
    let below = below_power back p in
    let whole = ap (λ m. m / 10 ^ length back) n ∙ div-mul-add (digits_value 10 front) (10 ^ length back) (digits_value 10 back) below in
    let rest = ap (λ m. m % 10 ^ length back) n ∙ mod-mul-add (digits_value 10 front) (10 ^ length back) (digits_value 10 back) below in
    record {
      size = size ∙ sym whole;
      half = half ∙ rw rest (sym (half_is back p));
      exact = exact ∙ rw rest (sym (zero_is back p));
    }

-- before all digits
cut_before : (ds : List ℕ) (k : ℕ) (cut : Cut) → are_digits ds ≡ true → length ds < k → cut.size ≡ 0 → cut.half ≡ false → cut.exact ≡ list_all is_zero ds → IsCut (digits_value 10 ds) (10 ^ k) cut
cut_before ds k cut p far size half exact =
    let below = below_power ds p in
    let more : 10 ^ suc (length ds) ≤ 10 ^ k = pow-le-pow_right {n = 10} (omega arith) {i = suc (length ds)} {j = k} (omega arith) in
    let ten = pow-suc 10 (length ds) in
    let small : digits_value 10 ds < 10 ^ k = omega (arith, below, more, ten) in
    record {
      size = size ∙ sym (div-eq_of_lt small);
      half = half ∙ rw (mod-eq_of_lt small) (sym (lt-leb (10 ^ k) (2 * digits_value 10 ds) (omega (arith, below, more, ten))));
      exact = exact ∙ rw (mod-eq_of_lt small) (sym (zero_is ds p));
    }

-- behind all digits and some zeros
pub cut_behind : (n z : ℕ) (cut : Cut) → cut.size ≡ n * 10 ^ z → cut.half ≡ false → cut.exact ≡ true → IsCut (n * 10 ^ z) 1 cut
cut_behind n z cut size half exact =
    let whole : n * 10 ^ z / 1 ≡ n * 10 ^ z = omega arith in
    let rest : n * 10 ^ z % 1 ≡ 0 = omega arith in
    record { size = size ∙ sym whole; half = half ∙ rw rest refl; exact = exact ∙ rw rest refl }

-- the two sides of the fraction, over what they have in common
above_is : (v raised places : ℕ) → 10 ^ places * (v * 10 ^ raised) ≡ 10 ^ (raised + places) * v
above_is v raised places = rw (pow-add 10 raised places) (product v (10 ^ raised) (10 ^ places))
  where
    product : (v R S : ℕ) → S * (v * R) ≡ R * S * v
    product v R S = omega arith

common : (c n d n' d' : ℕ) (cut : Cut) → 0 < c → 0 < d → n' ≡ c * n → d' ≡ c * d → IsCut n d cut → IsCut n' d' cut
common c n d n' d' cut some lower n_is d_is is = rw (n_is, d_is) (cut_scaled c n d cut some lower is)

pub take_past : (n : ℕ) (xs : List ℕ) → length xs ≤ n → (take n xs ≡ xs) × (drop n xs ≡ [])
take_past n [] h = (cases n, cases' n)
  where
    cases : (n : ℕ) → (let none : List ℕ = [] in take n none ≡ none)
    cases zero = refl
    cases (suc n) = refl

    cases' : (n : ℕ) → (let none : List ℕ = [] in drop n none ≡ none)
    cases' zero = refl
    cases' (suc n) = refl
take_past zero (x ∷ xs) h = absurd (omega arith)
take_past (suc n) (x ∷ xs) h = let more = take_past n xs (omega arith) in (ap (λ t. x ∷ t) more.0, more.1)

pub take_none : (xs : List ℕ) → (take 0 xs ≡ []) × (drop 0 xs ≡ xs)
take_none [] = (refl, refl)
take_none (x ∷ xs) = (refl, refl)

powers : (a b c : ℕ) → a ≡ b + c → 10 ^ a ≡ 10 ^ b * 10 ^ c
powers a b c e = ap (λ m. 10 ^ m) e ∙ pow-add 10 b c

-- the cut stands before all digits
cut_low : (ds : List ℕ) (raised places lower k : ℕ) (cut : Cut) → are_digits ds ≡ true → lower ≡ raised + places + k → length ds < k → cut.size ≡ 0 → cut.half ≡ false → cut.exact ≡ list_all is_zero ds → IsCut (10 ^ places * (digits_value 10 ds * 10 ^ raised)) (10 ^ lower) cut
cut_low ds raised places lower k cut p at far size half exact =
    common (10 ^ (raised + places)) (digits_value 10 ds) (10 ^ k) (10 ^ places * (digits_value 10 ds * 10 ^ raised)) (10 ^ lower) cut (power_pos (raised + places)) (power_pos k) (above_is (digits_value 10 ds) raised places) (powers lower (raised + places) k at) (cut_before ds k cut p far size half exact)

-- it stands behind some
cut_middle : (ds : List ℕ) (raised places lower count k : ℕ) (cut : Cut) → are_digits ds ≡ true → lower ≡ raised + places + k → length ds ≡ count + k → cut.size ≡ digits_value 10 (take count ds) → cut.half ≡ nat_le 53 (get_or (drop count ds) 0 48) → cut.exact ≡ list_all is_zero (drop count ds) → IsCut (10 ^ places * (digits_value 10 ds * 10 ^ raised)) (10 ^ lower) cut
cut_middle ds raised places lower count k cut p at parts size half exact =
    let inside = cut_inside (take count ds) (drop count ds) cut (are_digits-drop count ds p) size half exact in
    let long : length (drop count ds) ≡ k = omega (arith, length-drop count ds) in
    let is : IsCut (digits_value 10 ds) (10 ^ k) cut = rw (take-append-drop count ds, long) at inside in
    common (10 ^ (raised + places)) (digits_value 10 ds) (10 ^ k) (10 ^ places * (digits_value 10 ds * 10 ^ raised)) (10 ^ lower) cut (power_pos (raised + places)) (power_pos k) (above_is (digits_value 10 ds) raised places) (powers lower (raised + places) k at) is

-- it stands behind all digits and some zeros
cut_high : (ds : List ℕ) (raised places lower z : ℕ) (cut : Cut) → raised + places ≡ lower + z → cut.size ≡ digits_value 10 ds * 10 ^ z → cut.half ≡ false → cut.exact ≡ true → IsCut (10 ^ places * (digits_value 10 ds * 10 ^ raised)) (10 ^ lower) cut
cut_high ds raised places lower z cut at size half exact =
    let v = digits_value 10 ds in
    let above : 10 ^ places * (v * 10 ^ raised) ≡ 10 ^ lower * (v * 10 ^ z) = above_is v raised places ∙ ap (λ m. m * v) (powers (raised + places) lower z at) ∙ product (10 ^ lower) (10 ^ z) v in
    common (10 ^ lower) (v * 10 ^ z) 1 (10 ^ places * (v * 10 ^ raised)) (10 ^ lower) cut (power_pos lower) (lit< tt) above (omega arith) (cut_behind v z cut size half exact)
  where
    product : (L Z v : ℕ) → L * Z * v ≡ L * (v * Z)
    product L Z v = omega arith

-- The digits cut behind the first `count`, where the exponent, the places that are wanted and the digits behind the point
-- put the cut there: it is the fraction's.
pub cut_is : (whole fraction : List ℕ) (raised fallen places count : ℕ) (cut : Cut) → are_digits (whole ++ fraction) ≡ true → count ≡ length whole + raised + places - fallen → cut.size ≡ digits_value 10 (take count (whole ++ fraction)) * 10 ^ (count - length (whole ++ fraction)) → cut.half ≡ (nat_le fallen (length whole + raised + places) && nat_le 53 (get_or (drop count (whole ++ fraction)) 0 48)) → cut.exact ≡ list_all is_zero (drop count (whole ++ fraction)) → IsCut (10 ^ places * (digits_value 10 (whole ++ fraction) * 10 ^ raised)) (10 ^ (length fraction + fallen)) cut
cut_is whole fraction raised fallen places count cut p at size half exact = by_cases (cases_lt (length whole + raised + places) fallen) (cases_lt (length (whole ++ fraction)) count)
  where
    by_cases : (length whole + raised + places < fallen) ⊎ (fallen ≤ length whole + raised + places) → (length (whole ++ fraction) < count) ⊎ (count ≤ length (whole ++ fraction)) → IsCut (10 ^ places * (digits_value 10 (whole ++ fraction) * 10 ^ raised)) (10 ^ (length fraction + fallen)) cut
    by_cases (inl low) b =
        let ds = whole ++ fraction in
        let long = length-append whole fraction in
        let first : count ≡ 0 = omega arith in
        let none = take_none ds in
        let size_is : cut.size ≡ 0 = size ∙ ap (λ m. digits_value 10 (take m ds) * 10 ^ (count - length ds)) first ∙ ap (λ t. digits_value 10 t * 10 ^ (count - length ds)) none.0 ∙ omega arith in
        let half_is : cut.half ≡ false = half ∙ rw (lt-leb fallen (length whole + raised + places) low) refl in
        let exact_is : cut.exact ≡ list_all is_zero ds = exact ∙ ap (λ m. list_all is_zero (drop m ds)) first ∙ ap (list_all is_zero) none.1 in
        cut_low ds raised places (length fraction + fallen) (length fraction + fallen - (raised + places)) cut p (omega arith) (omega (arith, long)) size_is half_is exact_is
    by_cases (inr high) (inr inside) =
        let ds = whole ++ fraction in
        let long = length-append whole fraction in
        let none : count - length ds ≡ 0 = omega arith in
        let size_is : cut.size ≡ digits_value 10 (take count ds) = size ∙ ap (λ m. digits_value 10 (take count ds) * 10 ^ m) none ∙ omega arith in
        let half_is : cut.half ≡ nat_le 53 (get_or (drop count ds) 0 48) = half ∙ rw (le-leb fallen (length whole + raised + places) high) refl in
        cut_middle ds raised places (length fraction + fallen) count (length ds - count) cut p (omega (arith, long)) (omega arith) size_is half_is exact
    by_cases (inr high) (inl past) =
        let ds = whole ++ fraction in
        let long = length-append whole fraction in
        let all = take_past count ds (omega arith) in
        let size_is : cut.size ≡ digits_value 10 ds * 10 ^ (count - length ds) = size ∙ ap (λ t. digits_value 10 t * 10 ^ (count - length ds)) all.0 in
        let half_is : cut.half ≡ false = half ∙ rw (le-leb fallen (length whole + raised + places) high, all.1) refl in
        cut_high ds raised places (length fraction + fallen) (count - length ds) cut (omega (arith, long)) size_is half_is (exact ∙ ap (list_all is_zero) all.1)

-- the whole number of the fraction
pub quotient_is : (whole fraction : List ℕ) (raised fallen places count : ℕ) → are_digits (whole ++ fraction) ≡ true → count ≡ length whole + raised + places - fallen → digits_value 10 (take count (whole ++ fraction)) * 10 ^ (count - length (whole ++ fraction)) ≡ 10 ^ places * (digits_value 10 (whole ++ fraction) * 10 ^ raised) / 10 ^ (length fraction + fallen)
quotient_is whole fraction raised fallen places count p at =
    let cut : Cut = record {
      size = digits_value 10 (take count (whole ++ fraction)) * 10 ^ (count - length (whole ++ fraction));
      half = nat_le fallen (length whole + raised + places) && nat_le 53 (get_or (drop count (whole ++ fraction)) 0 48);
      exact = list_all is_zero (drop count (whole ++ fraction));
    } in
    let is = cut_is whole fraction raised fallen places count cut p at refl refl refl in
    is.size

-- zeros make no number smaller
pub zeros-ge : (n z : ℕ) → n ≤ n * 10 ^ z
zeros-ge n z = omega (arith, mul-le-mul_left {m = 1} {n = 10 ^ z} n (power_pos z))
