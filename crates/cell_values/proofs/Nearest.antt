-- The nearest whole number to a fraction: there is one, and only one.
use Rattle.std.proofs.Common.{◌≡◌, ℕ, zero, suc, ◌+◌, ◌*◌, ◌/◌, ◌%◌, ◌<◌, ◌≤◌, ◌⊎◌, true, false, ℤ, pos, negsuc, neg_ℤ, unsigned_abs, int_lt, ◌≤ℤ◌, refl, sym, ap, ◌∙◌, inl, inr, arith}
use Rattle.std.proofs.Math.Nat.{mul-le-mul_left}
use Rattle.std.proofs.lemmas.Bool.{cases_lt}
use Rattle.std.proofs.lemmas.Int.{ints}
use Rattle.cell_values.specs.Rounding.{IsNearestSize, IsNearest, nearest_size, nearest}

-- a quotient is above what it is above
size_unique : (s d p q : ℕ) → IsNearestSize s d p → IsNearestSize s d q → p ≤ q
size_unique s d p q a b = unless (cases_lt q p)
  where
    unless : (q < p) ⊎ (p ≤ q) → p ≤ q
    unless (inl more) =
        let step : d * (q + 1) ≤ d * p = mul-le-mul_left d (omega arith) in
        absurd (omega (arith, step, a.above, a.below, b.above, b.below))
    unless (inr less) = less

pub nearest_size-unique : (s d p q : ℕ) → IsNearestSize s d p → IsNearestSize s d q → p ≡ q
nearest_size-unique s d p q a b = omega (arith, size_unique s d p q a b, size_unique s d q p b a)

pub nearest_size-IsNearestSize : (s d : ℕ) → 0 < d → IsNearestSize s d (nearest_size s d)
unfolding nearest_size
nearest_size-IsNearestSize s d some =
    let q = (2 * s + d) / (2 * d) in
    let twice : q * (2 * d) ≡ 2 * (q * d) = omega arith in
    let parts : 2 * s + d ≡ 2 * (q * d) + (2 * s + d) % (2 * d) = omega arith in
    let rest : (2 * s + d) % (2 * d) < 2 * d = omega arith in
    record { above = omega (arith, parts, rest); below = omega (arith, parts, rest) }

-- ---- with signs
below_zero : (n : ℕ) → int_lt (negsuc n) (pos 0) ≡ true
below_zero n = refl

not_below : (n : ℕ) → int_lt (pos n) (pos 0) ≡ false
not_below n = grind (arith, ints)

pub nearest-pos : (n d : ℕ) → nearest (pos n) d ≡ pos (nearest_size n d)
unfolding nearest
nearest-pos n d = rw (not_below n) refl

pub nearest-negsuc : (n d : ℕ) → nearest (negsuc n) d ≡ neg_ℤ (pos (nearest_size (suc n) d))
unfolding nearest
nearest-negsuc n d = refl

abs_neg : (n : ℕ) → unsigned_abs (neg_ℤ (pos n)) ≡ n
abs_neg zero = refl
abs_neg (suc n) = refl

neg_not_above : (n : ℕ) → neg_ℤ (pos n) ≤ℤ pos 0
neg_not_above zero = omega (arith, ints)
neg_not_above (suc n) = omega (arith, ints)

pub nearest-IsNearest : (n : ℤ) (d : ℕ) → 0 < d → IsNearest n (pos d) (nearest n d)
nearest-IsNearest (pos n) d some =
    let is : IsNearest (pos n) (pos d) (pos (nearest_size n d)) = record {
      size = nearest_size-IsNearestSize n d some;
      positive = λ _. omega (arith, ints);
      negative = λ h. absurd (omega (arith, ints, h));
    } in
    rw (nearest-pos n d) is
nearest-IsNearest (negsuc n) d some =
    let size = nearest_size-IsNearestSize (suc n) d some in
    let is : IsNearest (negsuc n) (pos d) (neg_ℤ (pos (nearest_size (suc n) d))) = record {
      size = rw (abs_neg (nearest_size (suc n) d)) size;
      positive = λ h. absurd (omega (arith, ints, h));
      negative = λ _. neg_not_above (nearest_size (suc n) d);
    } in
    rw (nearest-negsuc n d) is

-- a number is its size with a sign
pos_from_abs : (z : ℤ) → pos 0 ≤ℤ z → z ≡ pos (unsigned_abs z)
pos_from_abs (pos n) h = refl
pos_from_abs (negsuc n) h = absurd (omega (arith, ints, h))

neg_from_abs : (z : ℤ) → z ≤ℤ pos 0 → z ≡ neg_ℤ (pos (unsigned_abs z))
neg_from_abs (pos zero) h = refl
neg_from_abs (pos (suc n)) h = absurd (omega (arith, ints, h))
neg_from_abs (negsuc n) h = refl

pub nearest-unique : (n : ℤ) (d : ℕ) (q : ℤ) → 0 < d → IsNearest n (pos d) q → q ≡ nearest n d
nearest-unique (pos n) d q some is =
    let same = nearest_size-unique n d (unsigned_abs q) (nearest_size n d) is.size (nearest_size-IsNearestSize n d some) in
    pos_from_abs q (is.positive (omega (arith, ints))) ∙ ap (λ m. pos m) same ∙ sym (nearest-pos n d)
nearest-unique (negsuc n) d q some is =
    let same = nearest_size-unique (suc n) d (unsigned_abs q) (nearest_size (suc n) d) is.size (nearest_size-IsNearestSize (suc n) d some) in
    neg_from_abs q (is.negative (omega (arith, ints))) ∙ ap (λ m. neg_ℤ (pos m)) same ∙ sym (nearest-negsuc n d)
