-- What is printed is a decimal, and reads back.
use Rattle.std.proofs.Common.{◌≡◌, ℕ, suc, ◌+◌, ◌*◌, ◌/◌, ◌%◌, ◌^◌, ◌<◌, ◌≤◌, Bool, true, false, cond, List, [], ◌∷◌, ◌++◌, length, codes, decimal, ◌==◌, ℤ, pos, negsuc, ◌*ℤ◌, int_lt, Ok, refl, sym, ap, ◌∙◌, subst, inl, inr, arith, length-append, append-nil, append_assoc, add-zero}
use Rattle.std.specs.Char.{digit_value, is_ascii_digit}
use Rattle.std.specs.Fmt.{signed_decimal}
use Rattle.std.specs.Str.Parse.{digits_value}
use Rattle.std.proofs.Math.Nat.{pow-suc}
use Rattle.std.proofs.lemmas.Grind.{common_steps}
use Rattle.std.proofs.lemmas.Bool.{eqb-true}
use Rattle.std.proofs.lemmas.Int.{ints}
use Rattle.std.proofs.lemmas.Fmt.{digits_decimal, digits_value-decimal, decimal_nonempty, length-decimal-le}
use Rattle.std.proofs.lemmas.Str.Parse.{IsDigitsTest, IsNumeralModel, numerals_by_value}
use Rattle.cell_values.specs.declared.kind.Kind.{Kind}
use Rattle.cell_values.specs.declared.kind.Kind.TheVariants.{Boolean, Nominal, Ordinal, Scalar, Directional, Ldd}
use Rattle.cell_values.specs.declared.cell.Cell.TheVariants.{Val}
use Rattle.cell_values.specs.Kinds.{IsValue}
use Rattle.cell_values.specs.Rounding.{IsNearest, IsNearestSize, nearest_size}
use Rattle.cell_values.specs.Decimal.{Decimal, IsDecimal, IsSign, IsPointed, are_digits, numerator, denominator, size_of, with_sign}
use Rattle.cell_values.specs.inside.Printed.{six_digits, before_trimmed, trimmed, fraction_text, size_text, millionths_text, printed_value, printed_cell}
use Rattle.cell_values.specs.Reading.{IsTaken, IsQuotient}
use Rattle.cell_values.specs.inside.Reading.{cell_read}
use Rattle.cell_values.proofs.Digits.{both, digit_byte}
use Rattle.cell_values.proofs.Nearest.{nearest_size-unique, nearest_size-IsNearestSize, nearest-IsNearest}
use Rattle.cell_values.proofs.Cuts.{value-append, value-cons}
use Rattle.cell_values.proofs.Readings.{nearest-signed, small_value, cell-from_value, signed_product, denominator_pos}

-- ---- std's digits
tells_digits : IsDigitsTest (λ ds. are_digits ds ≡ true)
tells_digits = record {
  empty = refl;
  parts = λ c cs h. let parts = both (is_ascii_digit c) (are_digits cs) h in let byte = digit_byte c parts.0 in ((byte.0, byte.1), parts.1);
  more = λ c cs range rest. rw (in_range c range.0 range.1, rest) refl;
}
  where
    in_range : (c : ℕ) → 48 ≤ c → c ≤ 57 → is_ascii_digit c ≡ true
    in_range c low high = grind (arith, common_steps)

pub own : IsNumeralModel (λ ds. are_digits ds ≡ true) (digits_value 10)
own = numerals_by_value (λ ds. are_digits ds ≡ true) tells_digits

-- ---- the fraction
digit_in_range : (n : ℕ) → n < 10 → is_ascii_digit (48 + n) ≡ true
digit_in_range n small = grind (arith, common_steps)

digit_of : (n : ℕ) → n < 10 → digit_value (48 + n) ≡ n
digit_of n small = omega (arith, digit_byte (48 + n) (digit_in_range n small))

pub six_are_digits : (n : ℕ) → n < 1000000 → are_digits (six_digits n) ≡ true
six_are_digits n small =
    rw (digit_in_range (n / 100000) (omega arith), digit_in_range (n / 10000 % 10) (omega arith), digit_in_range (n / 1000 % 10) (omega arith), digit_in_range (n / 100 % 10) (omega arith), digit_in_range (n / 10 % 10) (omega arith), digit_in_range (n % 10) (omega arith)) refl

six_sum : (n : ℕ) → (((((0 * 10 + n / 100000) * 10 + n / 10000 % 10) * 10 + n / 1000 % 10) * 10 + n / 100 % 10) * 10 + n / 10 % 10) * 10 + n % 10 ≡ n
six_sum n = omega arith

pub six_value : (n : ℕ) → n < 1000000 → digits_value 10 (six_digits n) ≡ n
six_value n small =
    rw (digit_of (n / 100000) (omega arith), digit_of (n / 10000 % 10) (omega arith), digit_of (n / 1000 % 10) (omega arith), digit_of (n / 100 % 10) (omega arith), digit_of (n / 10 % 10) (omega arith), digit_of (n % 10) (omega arith)) (six_sum n)

-- ---- without the zeros at the end
first_digits : (b : Bool) (d : ℕ) → is_ascii_digit d ≡ true → are_digits (cond b [] (d ∷ [])) ≡ true
first_digits true d p = refl
first_digits false d p = rw p refl

before_digits : (d : ℕ) (ds : List ℕ) → is_ascii_digit d ≡ true → are_digits ds ≡ true → are_digits (before_trimmed d ds) ≡ true
before_digits d [] p q = first_digits (d == 48) d p
before_digits d (e ∷ ds) p q = rw p q

pub trimmed_digits : (ds : List ℕ) → are_digits ds ≡ true → are_digits (trimmed ds) ≡ true
trimmed_digits [] p = refl
trimmed_digits (d ∷ ds) p =
    let parts = both (is_ascii_digit d) (are_digits ds) p in
    before_digits d (trimmed ds) parts.0 (trimmed_digits ds parts.1)

first_length : (b : Bool) (d : ℕ) → length (cond b [] (d ∷ [])) ≤ 1
first_length true d = omega arith
first_length false d = omega arith

before_length : (d : ℕ) (ds : List ℕ) → length (before_trimmed d ds) ≤ suc (length ds)
before_length d [] = first_length (d == 48) d
before_length d (e ∷ ds) = omega arith

trimmed_length : (ds : List ℕ) → length (trimmed ds) ≤ length ds
trimmed_length [] = omega arith
trimmed_length (d ∷ ds) = omega (arith, before_length d (trimmed ds), trimmed_length ds)

scale : (k t v T L : ℕ) → v * L ≡ t * T → (k * T + v) * (L * 10) ≡ (k * L + t) * (T * 10)
scale k t v T L h = omega (arith, h)

first_value : (b : Bool) (d w L : ℕ) → (b ≡ true → digit_value d ≡ 0) → w ≡ 0 → digits_value 10 (cond b [] (d ∷ [])) * (L * 10) ≡ (digit_value d * L + w) * 10 ^ length (cond b [] (d ∷ []))
first_value true d w L zero_digit none =
    let k = zero_digit refl in
    rw (k, none) (omega arith)
first_value false d w L zero_digit none = rw none (omega arith)

before_value : (d : ℕ) (t : List ℕ) (w L : ℕ) → is_ascii_digit d ≡ true → digits_value 10 t * L ≡ w * 10 ^ length t → digits_value 10 (before_trimmed d t) * (L * 10) ≡ (digit_value d * L + w) * 10 ^ length (before_trimmed d t)
before_value d [] w L p h =
    let byte = digit_byte d p in
    first_value (d == 48) d w L (λ e. omega (arith, byte, eqb-true d 48 e)) (omega (arith, h))
before_value d (e ∷ ds) w L p h =
    rw (value-cons d (e ∷ ds), pow-suc 10 (length (e ∷ ds))) (scale (digit_value d) w (digits_value 10 (e ∷ ds)) (10 ^ length (e ∷ ds)) L h)

-- a fraction is what it was
pub trimmed_value : (ds : List ℕ) → are_digits ds ≡ true → digits_value 10 (trimmed ds) * 10 ^ length ds ≡ digits_value 10 ds * 10 ^ length (trimmed ds)
trimmed_value [] p = refl
trimmed_value (d ∷ ds) p =
    let parts = both (is_ascii_digit d) (are_digits ds) p in
    let rest = trimmed_value ds parts.1 in
    rw (pow-suc 10 (length ds), value-cons d ds) (before_value d (trimmed ds) (digits_value 10 ds) (10 ^ length ds) parts.0 rest)

-- ---- the decimal that is printed
-- so many millionths
abbrev pub printed_millionths : Bool → ℕ → Decimal
printed_millionths negative n = record { negative = negative; whole = decimal (n / 1000000); fraction = trimmed (six_digits (n % 1000000)); exponent = pos 0 }

-- a whole number
abbrev printed_whole : Bool → ℕ → Decimal
printed_whole negative n = record { negative = negative; whole = decimal n; fraction = []; exponent = pos 0 }

pointed_case : (b : Bool) (n : ℕ) → (b ≡ true → n ≡ 0) → IsPointed (cond b [] (46 ∷ trimmed (six_digits n))) (trimmed (six_digits n))
pointed_case true n none = inr (refl, ap (λ k. trimmed (six_digits k)) (none refl))
pointed_case false n none = inl refl

pointed_length : (b : Bool) (ds : List ℕ) → length ds ≤ 6 → length (cond b [] (46 ∷ ds)) ≤ 7
pointed_length true ds small = omega arith
pointed_length false ds small = omega arith

pub sign_length : (negative : Bool) (sign : List ℕ) → IsSign sign negative → length sign ≤ 1
sign_length true sign is = omega (arith, ap length is)
sign_length false sign (inl none) = omega (arith, ap length none)
sign_length false sign (inr plus) = omega (arith, ap length plus)

millionths_text_is : (negative : Bool) (sign : List ℕ) (n : ℕ) → IsSign sign negative → n < 2 ^ 64 → IsDecimal (sign ++ size_text n) (printed_millionths negative n)
millionths_text_is negative sign n is small =
    let whole = n / 1000000 in
    let part = n % 1000000 in
    let low : part < 1000000 = omega arith in
    let fits : whole < 2 ^ 64 = omega arith in
    let long = length-decimal-le 20 whole (omega arith) (omega arith) fits in
    let front = length-append sign (size_text n) in
    let size = length-append (decimal whole) (fraction_text part) in
    let fraction = pointed_length (part == 0) (trimmed (six_digits part)) (trimmed_length (six_digits part)) in
    record {
      sign = sign;
      pointed = fraction_text part;
      power = [];
      parts = grouped sign (decimal whole) (fraction_text part);
      short = omega (arith, front, size, long, fraction, sign_length negative sign is);
      signed = is;
      whole = digits_decimal own whole fits;
      fraction = trimmed_digits (six_digits part) (six_are_digits part low);
      some = omega (arith, decimal_nonempty whole fits);
      behind = pointed_case (part == 0) part (eqb-true part 0);
      raised = inr (refl, refl);
    }
  where
    grouped : (a b c : List ℕ) → a ++ (b ++ c) ≡ a ++ b ++ c ++ []
    grouped a b c = sym (append-nil (a ++ b ++ c) ∙ append_assoc a b c)

whole_text_is : (negative : Bool) (sign : List ℕ) (n : ℕ) → IsSign sign negative → n < 2 ^ 64 → IsDecimal (sign ++ decimal n) (printed_whole negative n)
whole_text_is negative sign n is small =
    let long = length-decimal-le 20 n (omega arith) (omega arith) small in
    record {
      sign = sign;
      pointed = [];
      power = [];
      parts = sym (append-nil (sign ++ decimal n ++ []) ∙ append-nil (sign ++ decimal n));
      short = omega (arith, length-append sign (decimal n), long, sign_length negative sign is);
      signed = is;
      whole = digits_decimal own n small;
      fraction = refl;
      some = omega (arith, decimal_nonempty n small);
      behind = inr (refl, refl);
      raised = inr (refl, refl);
    }

-- ---- its value
pub millionths_size : (negative : Bool) (n : ℕ) → n < 2 ^ 64 → 1000000 * size_of (printed_millionths negative n) ≡ n * denominator (printed_millionths negative n)
unfolding size_of denominator
millionths_size negative n small =
    let whole = n / 1000000 in
    let part = n % 1000000 in
    let digits = trimmed (six_digits part) in
    let low : part < 1000000 = omega arith in
    let fits : whole < 2 ^ 64 = omega arith in
    let value = value-append (decimal whole) digits in
    let first = ap (λ v. v * 10 ^ length digits) (digits_value-decimal own whole fits) in
    let second = trimmed_value (six_digits part) (six_are_digits part low) ∙ ap (λ v. v * 10 ^ length digits) (six_value part low) in
    let parts : n ≡ 1000000 * whole + part = omega arith in
    joined (digits_value 10 (decimal whole ++ digits)) whole part (digits_value 10 digits) (10 ^ length digits) n (value ∙ ap (λ v. v + digits_value 10 digits) first) second parts
    ∙ ap (λ k. n * 10 ^ k) (sym (add-zero (length digits)))
  where
    joined : (v whole part f P n : ℕ) → v ≡ whole * P + f → f * 1000000 ≡ part * P → n ≡ 1000000 * whole + part → 1000000 * (v * 1) ≡ n * P
    joined v whole part f P n value second parts = rw (value, parts) (omega (arith, second))

pub nearest_multiple : (n d : ℕ) → 0 < d → nearest_size (n * d) d ≡ n
nearest_multiple n d some =
    let is : IsNearestSize (n * d) d n = record { above = omega arith; below = omega arith } in
    nearest_size-unique (n * d) d (nearest_size (n * d) d) n (nearest_size-IsNearestSize (n * d) d some) is

millionths_nearest : (negative : Bool) (n : ℕ) → n < 2 ^ 64 → let d = printed_millionths negative n in IsNearest (pos 1000000 *ℤ numerator d) (pos (denominator d)) (with_sign negative n)
unfolding numerator
millionths_nearest negative n small =
    let d = printed_millionths negative n in
    let some = denominator_pos d in
    let value = nearest-signed negative (size_of d) (denominator d) some ∙ ap (λ m. with_sign negative (nearest_size m (denominator d))) (millionths_size negative n small) ∙ ap (with_sign negative) (nearest_multiple n (denominator d) some) in
    subst (λ q. IsNearest (pos 1000000 *ℤ with_sign negative (size_of d)) (pos (denominator d)) q) value (nearest-IsNearest (pos 1000000 *ℤ with_sign negative (size_of d)) (denominator d) some)

whole_quotient : (negative : Bool) (n : ℕ) → n < 2 ^ 64 → let d = printed_whole negative n in IsQuotient (numerator d) (denominator d) (with_sign negative n)
unfolding numerator denominator size_of
whole_quotient negative n small =
    let value : digits_value 10 (decimal n ++ []) ≡ n = ap (digits_value 10) (append-nil (decimal n)) ∙ digits_value-decimal own n small in
    product negative n ∙ ap (with_sign negative) (once n ∙ ap (λ v. v * 1) (sym value))
  where
    once : (n : ℕ) → n * 1 ≡ n * 1
    once n = refl

    product : (negative : Bool) (n : ℕ) → with_sign negative n *ℤ pos 1 ≡ with_sign negative (n * 1)
    product false n = refl
    product true n = signed_product n 1

-- ---- printed values by their size and their sign
millionths_pos : (n : ℕ) → millionths_text (pos n) ≡ size_text n
millionths_pos n =
    let test : int_lt (pos n) (pos 0) ≡ false = grind (arith, ints) in
    rw test refl

back_as : (kind : Kind) (z : ℤ) (d : Decimal) (text : List ℕ) → IsValue kind z → printed_value kind z ≡ text → IsDecimal text d → IsTaken kind (numerator d) (denominator d) z → cell_read kind (printed_value kind z) ≡ Ok (Val z)
back_as kind z d text value same is taken = ap (cell_read kind) same ∙ cell-from_value kind text d z is (record { taken = taken; value = value })

scalar_back : (kind : Kind) (z : ℤ) → printed_value kind z ≡ millionths_text z → ((d : Decimal) (y : ℤ) → IsNearest (pos 1000000 *ℤ numerator d) (pos (denominator d)) y → IsTaken kind (numerator d) (denominator d) y) → IsValue kind z → cell_read kind (printed_value kind z) ≡ Ok (Val z)
scalar_back kind (pos n) text near value =
    let small = small_value kind (pos n) value in
    back_as kind (pos n) (printed_millionths false n) (size_text n) value (text ∙ millionths_pos n) (millionths_text_is false [] n (inl refl) small) (near (printed_millionths false n) (pos n) (millionths_nearest false n small))
scalar_back kind (negsuc n) text near value =
    let small = small_value kind (negsuc n) value in
    back_as kind (negsuc n) (printed_millionths true (suc n)) (45 ∷ size_text (suc n)) value text (millionths_text_is true (codes "-") (suc n) refl small) (near (printed_millionths true (suc n)) (negsuc n) (millionths_nearest true (suc n) small))

whole_back : (kind : Kind) (z : ℤ) → printed_value kind z ≡ signed_decimal z → ((d : Decimal) (y : ℤ) → IsQuotient (numerator d) (denominator d) y → IsTaken kind (numerator d) (denominator d) y) → IsValue kind z → cell_read kind (printed_value kind z) ≡ Ok (Val z)
whole_back kind (pos n) text exact value =
    let small = small_value kind (pos n) value in
    back_as kind (pos n) (printed_whole false n) (decimal n) value text (whole_text_is false [] n (inl refl) small) (exact (printed_whole false n) (pos n) (whole_quotient false n small))
whole_back kind (negsuc n) text exact value =
    let small = small_value kind (negsuc n) value in
    back_as kind (negsuc n) (printed_whole true (suc n)) (45 ∷ decimal (suc n)) value text (whole_text_is true (codes "-") (suc n) refl small) (exact (printed_whole true (suc n)) (negsuc n) (whole_quotient true (suc n) small))

-- what is printed reads back
pub printed-back : (kind : Kind) (z : ℤ) → IsValue kind z → cell_read kind (printed_cell kind (Val z)) ≡ Ok (Val z)
printed-back Boolean z value = whole_back Boolean z refl (λ d y is. is) value
printed-back Nominal z value = whole_back Nominal z refl (λ d y is. is) value
printed-back Ordinal z value = whole_back Ordinal z refl (λ d y is. is) value
printed-back Scalar z value = scalar_back Scalar z refl (λ d y is. is) value
printed-back Directional z value = scalar_back Directional z refl (λ d y is. is) value
printed-back Ldd z value = whole_back Ldd z refl (λ d y is. is) value
