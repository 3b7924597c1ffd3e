-- A value of a kind has one written text.
use Rattle.std.proofs.Common.{◌≡◌, ◌≢◌, ℕ, zero, suc, ◌+◌, ◌-◌, ◌*◌, ◌/◌, ◌%◌, ◌^◌, ◌<◌, ◌≤◌, Bool, true, false, cond, List, [], ◌∷◌, ◌++◌, length, get_or, take, decimal, ◌==◌, ℤ, pos, negsuc, int_lt, unsigned_abs, refl, sym, ap, ◌∙◌, subst, inl, inr, lit<, arith, append-nil, append_assoc, add-zero}
use Rattle.std.specs.Char.{digit_value, is_ascii_digit}
use Rattle.std.specs.Fmt.{signed_decimal}
use Rattle.std.specs.Str.Parse.{digits_value}
use Rattle.std.proofs.Math.Nat.{eq_of_mul-eq-mul_right, le_of_mul-le-mul_right}
use Rattle.std.proofs.lemmas.Bool.{cases_lt, eqb-true, eqb-false}
use Rattle.std.proofs.lemmas.Fmt.{decimal_digit, decimal_nonempty, decimal-digits_value, digits_decimal, digits_value-decimal, first_decimal}
use Rattle.std.proofs.lemmas.Int.{ints}
use Rattle.std.proofs.lemmas.List.{take_more, take_all}
use Rattle.std.proofs.lemmas.Nat.{pow-add, same_from_place}
use Rattle.text_base.proofs.Callers.{bool_cases}
use Rattle.cell_values.specs.declared.kind.Kind.{Kind}
use Rattle.cell_values.specs.declared.kind.Kind.TheVariants.{Boolean, Nominal, Ordinal, Scalar, Directional, Ldd}
use Rattle.cell_values.specs.declared.cell.Cell.TheVariants.{Mv, Val}
use Rattle.cell_values.specs.Units.{million}
use Rattle.cell_values.specs.Kinds.{IsValue}
use Rattle.cell_values.specs.Decimal.{are_digits, denominator, size_of}
use Rattle.cell_values.specs.Written.{IsWritten, WrittenTextsAreUnique, pointed, sign_of, units_of}
use Rattle.cell_values.specs.inside.Printed.{before_trimmed, fraction_text, millionths_text, printed_cell, six_digits, size_text, trimmed}
use Rattle.cell_values.proofs.Alike.{same_digits}
use Rattle.cell_values.proofs.Cuts.{below_power, power_pos, value-append}
use Rattle.cell_values.proofs.Digits.{both, digit_byte}
use Rattle.cell_values.proofs.PrintedBack.{millionths_size, own, six_are_digits, six_value, trimmed_digits, trimmed_value}
use Rattle.cell_values.proofs.Readings.{small_value}

-- ---- there is one

-- a list is its front and its last element
last_parts : (ds : List ℕ) → 0 < length ds → ds ≡ take (length ds - 1) ds ++ get_or ds (length ds - 1) 0 ∷ []
last_parts ds some =
    let one : length ds - 1 + 1 ≡ length ds = omega (arith, some) in
    sym (take_all (length ds) ds (omega arith)) ∙ ap (λ n. take n ds) (sym one) ∙ take_more ds (length ds - 1) 0 (omega (arith, some))

-- the last digit is one
last_digit : (ds front : List ℕ) (d : ℕ) → are_digits ds ≡ true → ds ≡ front ++ d ∷ [] → is_ascii_digit d ≡ true
last_digit ds [] d digits parts = (both (is_ascii_digit d) true (ap are_digits (sym parts) ∙ digits)).0
last_digit [] (x ∷ front) d digits parts = absurd (cc)
last_digit (y ∷ ds) (x ∷ front) d digits parts = last_digit ds front d (both (is_ascii_digit y) (are_digits ds) digits).1 (cc)

-- digits that write a multiple of ten end with a zero
ends_zero : (ws fs : List ℕ) (m : ℕ) → are_digits fs ≡ true → 0 < length fs → digits_value 10 (ws ++ fs) ≡ m * 10 → get_or fs (length fs - 1) 0 ≡ 48
ends_zero ws fs m digits some value =
    let front = take (length fs - 1) fs in
    let d = get_or fs (length fs - 1) 0 in
    let parts = last_parts fs some in
    let byte = digit_byte d (last_digit fs front d digits parts) in
    let whole : digits_value 10 (ws ++ fs) ≡ digits_value 10 (ws ++ front) * 10 + digits_value 10 (d ∷ []) =
    ap (λ ds. digits_value 10 (ws ++ ds)) parts ∙ ap (digits_value 10) (sym (append_assoc ws front (d ∷ []))) ∙ value-append (ws ++ front) (d ∷ []) in
    let one : digits_value 10 (d ∷ []) ≡ digit_value d = omega arith in
    omega (arith, byte, whole, one, value)

power_split : (f g : ℕ) → f < g → 10 ^ g ≡ 10 ^ (g - f - 1) * 10 * 10 ^ f
power_split f g lt =
    let e : g ≡ g - f - 1 + 1 + f = omega (arith, lt) in
    ap (λ n. 10 ^ n) e ∙ pow-add 10 (g - f - 1 + 1) f ∙ ap (λ p. p * 10 ^ f) (pow-add 10 (g - f - 1) 1)

-- two such texts of one number: the sizes over what they have in common
crossed : (kind : Kind) (z : ℤ) (a b : List ℕ) (w : IsWritten kind z a) (v : IsWritten kind z b) → digits_value 10 (w.whole ++ w.fraction) * 10 ^ length v.fraction ≡ digits_value 10 (v.whole ++ v.fraction) * 10 ^ length w.fraction
crossed kind z a b w v =
    let N = digits_value 10 (w.whole ++ w.fraction) in
    let M = digits_value 10 (v.whole ++ v.fraction) in
    let P = 10 ^ length w.fraction in
    let Q = 10 ^ length v.fraction in
    let left : N * Q * units_of kind ≡ unsigned_abs z * P * Q = swap N Q (units_of kind) ∙ ap (λ m. m * Q) w.value in
    let right : M * P * units_of kind ≡ unsigned_abs z * P * Q = swap M P (units_of kind) ∙ ap (λ m. m * P) v.value ∙ swap (unsigned_abs z) Q P in
    eq_of_mul-eq-mul_right (units_of kind) (units kind) (N * Q) (M * P) (left ∙ sym right)
  where
    swap : (x y u : ℕ) → x * y * u ≡ x * u * y
    swap x y u = omega arith

    units : (kind : Kind) → 0 < units_of kind
    units Boolean = lit< tt
    units Nominal = lit< tt
    units Ordinal = lit< tt
    units Scalar = lit< tt
    units Directional = lit< tt
    units Ldd = lit< tt

-- the second has no more places than the first
no_longer : (kind : Kind) (z : ℤ) (a b : List ℕ) (w : IsWritten kind z a) (v : IsWritten kind z b) → length v.fraction ≤ length w.fraction
no_longer kind z a b w v =
    elim (cases_lt (length w.fraction) (length v.fraction)) [
      | inr le ↦ le
      | inl lt ↦ absurd (
          let N = digits_value 10 (w.whole ++ w.fraction) in
          let M = digits_value 10 (v.whole ++ v.fraction) in
          let P = 10 ^ length w.fraction in
          let R = 10 ^ (length v.fraction - length w.fraction - 1) in
          let e : N * R * 10 * P ≡ M * P = regroup N R P ∙ ap (λ q. N * q) (sym (power_split (length w.fraction) (length v.fraction) lt)) ∙ crossed kind z a b w v in
          let tens = eq_of_mul-eq-mul_right P (power_pos (length w.fraction)) (N * R * 10) M e in
          let some : 0 < length v.fraction = omega (arith, lt) in
          v.last some (ends_zero v.whole v.fraction (N * R) v.fraction_digits some (sym tens)))
    ]
  where
    regroup : (N R P : ℕ) → N * R * 10 * P ≡ N * (R * 10 * P)
    regroup N R P = omega arith

-- a whole part is the decimal text of its number, which is no greater than the size
whole_small : (kind : Kind) (z : ℤ) (a : List ℕ) (w : IsWritten kind z a) → unsigned_abs z < 2 ^ 64 → digits_value 10 w.whole < 2 ^ 64
whole_small kind z a w small =
    let P = 10 ^ length w.fraction in
    let parts = value-append w.whole w.fraction in
    let once = units kind (digits_value 10 (w.whole ++ w.fraction)) in
    let below : digits_value 10 w.whole * P ≤ unsigned_abs z * P = omega (arith, parts, once, w.value) in
    let le = le_of_mul-le-mul_right {m = digits_value 10 w.whole} {n = unsigned_abs z} {k = P} below (power_pos (length w.fraction)) in
    omega (arith, le, small)
  where
    units : (kind : Kind) (n : ℕ) → n ≤ n * units_of kind
    units Boolean n = omega arith
    units Nominal n = omega arith
    units Ordinal n = omega arith
    units Scalar n = omega arith
    units Directional n = omega arith
    units Ldd n = omega arith

whole_is : (kind : Kind) (z : ℤ) (a : List ℕ) (w : IsWritten kind z a) → unsigned_abs z < 2 ^ 64 → decimal (digits_value 10 w.whole) ≡ w.whole
whole_is kind z a w small =
    decimal-digits_value own w.whole w.whole_digits w.some
    (λ zero_first. elim (cases_lt 1 (length w.whole)) [ inl more ↦ absurd (w.first more zero_first) | inr le ↦ (let some = w.some in omega (arith, le, some)) ])
    (whole_small kind z a w small)

unique : (kind : Kind) (z : ℤ) (a b : List ℕ) → unsigned_abs z < 2 ^ 64 → IsWritten kind z a → IsWritten kind z b → a ≡ b
unique kind z a b small w v =
    let long : length w.fraction ≡ length v.fraction = omega (arith, no_longer kind z a b w v, no_longer kind z b a v w) in
    let P = 10 ^ length w.fraction in
    let N = digits_value 10 (w.whole ++ w.fraction) in
    let M = digits_value 10 (v.whole ++ v.fraction) in
    let cross : N * P ≡ M * P = ap (λ n. N * 10 ^ n) long ∙ crossed kind z a b w v in
    let same : N ≡ M = eq_of_mul-eq-mul_right P (power_pos (length w.fraction)) N M cross in
    let sums : digits_value 10 w.whole * P + digits_value 10 w.fraction ≡ digits_value 10 v.whole * P + digits_value 10 v.fraction =
    sym (value-append w.whole w.fraction) ∙ same ∙ value-append v.whole v.fraction ∙ ap (λ n. digits_value 10 v.whole * 10 ^ n + digits_value 10 v.fraction) (sym long) in
    let below = below_power w.fraction w.fraction_digits in
    let below' : digits_value 10 v.fraction < P = subst (λ n. digits_value 10 v.fraction < 10 ^ n) (sym long) (below_power v.fraction v.fraction_digits) in
    let parts = same_from_place (digits_value 10 w.whole) (digits_value 10 w.fraction) (digits_value 10 v.whole) (digits_value 10 v.fraction) P below below' sums in
    let whole : w.whole ≡ v.whole = sym (whole_is kind z a w small) ∙ ap decimal parts.0 ∙ whole_is kind z b v small in
    let fraction : w.fraction ≡ v.fraction = same_digits w.fraction v.fraction w.fraction_digits v.fraction_digits long parts.1 in
    w.parts ∙ ap (λ ds. sign_of z ++ (ds ++ pointed w.fraction)) whole ∙ ap (λ ds. sign_of z ++ (v.whole ++ pointed ds)) fraction ∙ sym v.parts

-- ---- what is printed is one

-- a number's text begins with a zero only where it is 0
decimal_first : (n : ℕ) → n < 2 ^ 64 → 1 < length (decimal n) → get_or (decimal n) 0 0 ≢ 48
decimal_first zero small more = let one = ap (λ (ds : List ℕ). length ds) (decimal_digit 0 (omega arith)) in absurd (omega (arith, more, one))
decimal_first (suc n) small more = λ is. let first = first_decimal (suc n) (omega arith) small in omega (arith, first, is)

-- digits without the zeros at their end do not end with one
trimmed_last : (ds : List ℕ) → 0 < length (trimmed ds) → get_or (trimmed ds) (length (trimmed ds) - 1) 0 ≢ 48
trimmed_last [] some = absurd (omega (arith, some))
trimmed_last (d ∷ ds) some = before d (trimmed ds) (trimmed_last ds) some
  where
    alone : (b : Bool) (d : ℕ) → (b ≡ false → d ≢ 48) → 0 < length (cond b [] (d ∷ [])) → get_or (cond b [] (d ∷ [])) (length (cond b [] (d ∷ [])) - 1) 0 ≢ 48
    alone true d other some = absurd (omega (arith, some))
    alone false d other some = other refl

    before : (d : ℕ) (t : List ℕ) → (0 < length t → get_or t (length t - 1) 0 ≢ 48) → 0 < length (before_trimmed d t) → get_or (before_trimmed d t) (length (before_trimmed d t) - 1) 0 ≢ 48
    before d [] rest some = alone (d == 48) d (eqb-false d 48) some
    before d (e ∷ t) rest some = λ is. rest (omega arith) (let same : length (d ∷ e ∷ t) - 1 ≡ suc (length (e ∷ t) - 1) = omega arith in ap (λ i. get_or (d ∷ e ∷ t) i 0) (sym same) ∙ is)

-- the digits of a fraction behind its point
pointed_is : (part : ℕ) → part < million → pointed (trimmed (six_digits part)) ≡ fraction_text part
pointed_is part low = bool_cases (part == 0)
    (λ none. let is = eqb-true part 0 none in rw (is) refl)
    (λ some. rw some (filled (trimmed (six_digits part)) (λ empty.
    let value = trimmed_value (six_digits part) (six_are_digits part low) in
    let none : 0 ≡ digits_value 10 (six_digits part) * 1 = ap (λ ds. digits_value 10 ds * 10 ^ 6) (sym empty) ∙ value ∙ ap (λ ds. digits_value 10 (six_digits part) * 10 ^ length ds) empty in
    eqb-false part 0 some (omega (arith, none, six_value part low)))))
  where
    filled : (ds : List ℕ) → (ds ≡ [] → ⊥) → pointed ds ≡ 46 ∷ ds
    filled [] h = absurd (h refl)
    filled (d ∷ ds) h = refl

sign_pos : (n : ℕ) → sign_of (pos n) ≡ []
sign_pos n =
    let test : int_lt (pos n) (pos 0) ≡ false = grind (arith, ints) in
    rw test refl

-- whole numbers
whole_written : (kind : Kind) (z : ℤ) (n : ℕ) (text : List ℕ) → units_of kind ≡ 1 → unsigned_abs z ≡ n → n < 2 ^ 64 → text ≡ sign_of z ++ decimal n → IsWritten kind z text
whole_written kind z n text unit size small is = record {
  whole = decimal n;
  fraction = [];
  parts = is ∙ ap (λ ds. sign_of z ++ ds) (sym (append-nil (decimal n)));
  whole_digits = digits_decimal own n small;
  fraction_digits = refl;
  value = rw (unit, size) (let v : digits_value 10 (decimal n ++ []) ≡ n = ap (digits_value 10) (append-nil (decimal n)) ∙ digits_value-decimal own n small in omega (arith, v));
  some = decimal_nonempty n small;
  first = decimal_first n small;
  last = λ some. absurd (omega (arith, some));
}

-- numbers of millionths
millionths_written : (kind : Kind) (z : ℤ) (n : ℕ) (text : List ℕ) → units_of kind ≡ million → unsigned_abs z ≡ n → n < 2 ^ 64 → text ≡ sign_of z ++ size_text n → IsWritten kind z text
unfolding size_of denominator
millionths_written kind z n text unit size small is =
    let whole = n / million in
    let part = n % million in
    let digits = trimmed (six_digits part) in
    let fits : whole < 2 ^ 64 = omega (arith, small) in
    let low : part < million = omega arith in
    record {
      whole = decimal whole;
      fraction = digits;
      parts = is ∙ ap (λ ds. sign_of z ++ (decimal whole ++ ds)) (sym (pointed_is part low));
      whole_digits = digits_decimal own whole fits;
      fraction_digits = trimmed_digits (six_digits part) (six_are_digits part low);
      value = rw (unit, size) (turned (digits_value 10 (decimal whole ++ digits)) ∙ millionths_size false n small ∙ ap (λ k. n * 10 ^ k) (add-zero (length digits)));
      some = decimal_nonempty whole fits;
      first = decimal_first whole fits;
      last = trimmed_last (six_digits part);
    }
  where
    turned : (v : ℕ) → v * million ≡ million * (v * 1)
    turned v = omega arith

whole_case : (kind : Kind) (z : ℤ) → units_of kind ≡ 1 → IsValue kind z → IsWritten kind z (signed_decimal z)
whole_case kind (pos n) unit value = whole_written kind (pos n) n (decimal n) unit refl (small_value kind (pos n) value) (ap (λ s. s ++ decimal n) (sym (sign_pos n)))
whole_case kind (negsuc n) unit value = whole_written kind (negsuc n) (suc n) (signed_decimal (negsuc n)) unit refl (small_value kind (negsuc n) value) refl

millionths_case : (kind : Kind) (z : ℤ) → units_of kind ≡ million → IsValue kind z → IsWritten kind z (millionths_text z)
millionths_case kind (pos n) unit value =
    let test : int_lt (pos n) (pos 0) ≡ false = grind (arith, ints) in
    millionths_written kind (pos n) n (millionths_text (pos n)) unit refl (small_value kind (pos n) value) (ap (λ b. cond b (45 ∷ size_text n) (size_text n)) test ∙ ap (λ s. s ++ size_text n) (sym (sign_pos n)))
millionths_case kind (negsuc n) unit value = millionths_written kind (negsuc n) (suc n) (millionths_text (negsuc n)) unit refl (small_value kind (negsuc n) value) refl

printed_written : (kind : Kind) (z : ℤ) → IsValue kind z → IsWritten kind z (printed_cell kind (Val z))
printed_written Boolean z value = whole_case Boolean z refl value
printed_written Nominal z value = whole_case Nominal z refl value
printed_written Ordinal z value = whole_case Ordinal z refl value
printed_written Scalar z value = millionths_case Scalar z refl value
printed_written Directional z value = millionths_case Directional z refl value
printed_written Ldd z value = whole_case Ldd z refl value

-- a cell of a kind has one such text
pub written_unique : WrittenTextsAreUnique
written_unique kind Mv text any = (λ written. written, λ same. same)
written_unique kind (Val z) text value = (
  λ written. unique kind z text (printed_cell kind (Val z)) (small_value kind z value) written (printed_written kind z value),
  λ same. subst (IsWritten kind z) (sym same) (printed_written kind z value),
)
