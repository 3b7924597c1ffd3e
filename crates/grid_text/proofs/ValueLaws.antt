-- Decimals as values of a head and as cells.
use Rattle.std.proofs.Common.{◌≡◌, ℕ, zero, suc, ◌+◌, ◌*◌, ◌<◌, ◌/◌, ◌%◌, ◌⊎◌, inl, inr, Bool, true, false, ◌&&◌, ◌||◌, not, cond, eqb, List, [], ◌∷◌, length, Some, None, ℤ, pos, Result, Ok, Err, refl, sym, ap, ◌∙◌, le_antisymm, le_of_mul-le-mul_right, le_of_eq, mul-div_cancel, mul_comm, mul_right_comm, zero-mul, lit<, arith}
use Rattle.std.specs.Prelude.{is_some, nat_lt, nat_le, int_lt, ◌*ℤ◌, unsigned_abs, ◌==◌, codes}
use Rattle.std.specs.declared.option.Option.{Option}
use Rattle.std.specs.Option.{option_map}
use Rattle.std.specs.Ordering.{int_eq}
use Rattle.std.specs.Char.{to_ascii_lowercase, is_ascii_digit}
use Rattle.std.specs.Str.{str_to_ascii_lowercase}
use Rattle.std.specs.Str.Parse.{starts_with_minus, without_leading_sign}
use Rattle.std.proofs.Math.Bool.{beq}
use Rattle.std.proofs.Math.Nat.{div-div-eq-div-mul, div-eq_of_lt, mul-mod_left}
use Rattle.std.proofs.lemmas.Bool.{eqb-true, eq-eqb, ne_eqb, and_parts, and_right, false_from_ne_true, or_cases, ltb-true, ltb-false, lt-leb}
use Rattle.std.proofs.lemmas.Bool.Decides.{Decides-int_eq}
use Rattle.std.proofs.lemmas.Int.{ints}
use Rattle.std.proofs.lemmas.Slice.Eq.{bytes_eq-Decides}
use Rattle.cell_values.specs.declared.kind.Kind.{Kind}
use Rattle.cell_values.specs.declared.kind.Kind.TheVariants.{Boolean, Nominal, Ordinal, Scalar, Directional, Ldd}
use Rattle.cell_values.specs.declared.cell.Cell.{Cell}
use Rattle.cell_values.specs.declared.cell.Cell.TheVariants.{Mv, Val}
use Rattle.cell_values.specs.declared.cell.NumberFault.{NumberFault}
use Rattle.cell_values.specs.Rounding.{nearest, nearest_size}
use Rattle.cell_values.specs.Decimal.{Decimal, numerator, denominator, size_of, with_sign}
use Rattle.cell_values.specs.inside.Reading.{decimal_of, decimal_of_parts, has_digits, exponent_of, front_digits, behind_digits, fraction_digits, behind_fraction}
use Rattle.cell_values.specs.inside.Reading.{quotient, number_taken, cell_taken, cell_of_decimal, cell_read, same_value}
use Rattle.cell_values.proofs.Callers.{denominator_pos, nearest-signed, no_digits, quotient-exact, quotient-part, same_test, same_value-is, same_value-means}
use Rattle.grid_text.specs.Key.{is_word, is_nan, is_nodata, is_positive, is_coordinate, is_cell_size}
use Rattle.grid_text.specs.Form.{both_decimals, is_missing, cell_of_token}
use Rattle.grid_text.specs.inside.Steps.{number_of_cell, is_maybe_missing}
use Rattle.text_base.proofs.Callers.{bool_cases, option_cases, some_is, head_is}

-- ---- ratios

cancel : (m n k : ℕ) → m * k ≡ n * k → 0 < k → m ≡ n
cancel m n k e some = le_antisymm (le_of_mul-le-mul_right {k = k} (le_of_eq e) some) (le_of_mul-le-mul_right {k = k} (le_of_eq (sym e)) some)

-- a ratio stays where both are multiplied
div_scaled : (n d e : ℕ) → 0 < e → n * e / (e * d) ≡ n / d
div_scaled n d e some = sym (div-div-eq-div-mul (n * e) e d) ∙ ap (λ k. k / d) (mul-div_cancel n some)

same_ratio : (s d t e : ℕ) → 0 < d → 0 < e → s * e ≡ t * d → s / d ≡ t / e
same_ratio s d t e some_d some_e h =
    sym (div_scaled s d e some_e) ∙ ap (λ k. k / (e * d)) h ∙ ap (λ k. t * d / k) (mul_comm e d) ∙ div_scaled t e d some_d

-- a whole ratio
whole_ratio : (s d t e : ℕ) → 0 < d → 0 < e → s * e ≡ t * d → s % d ≡ 0 → t % e ≡ 0
whole_ratio s d t e some_d some_e h whole =
    let s_is : s ≡ s / d * d = omega arith in
    let again : t * d ≡ s / d * e * d = sym h ∙ ap (λ k. k * e) s_is ∙ mul_right_comm (s / d) d e in
    let t_is : t ≡ s / d * e = cancel t (s / d * e) d again some_d in
    ap (λ k. k % e) t_is ∙ mul-mod_left (s / d) e

same_whole : (s d t e : ℕ) → 0 < d → 0 < e → s * e ≡ t * d → (s % d == 0) ≡ (t % e == 0)
same_whole s d t e some_d some_e h = same_test (s % d == 0) (t % e == 0)
    (λ w. eq-eqb _ 0 (whole_ratio s d t e some_d some_e h (eqb-true _ 0 w)))
    (λ w. eq-eqb _ 0 (whole_ratio t e s d some_e some_d (sym h) (eqb-true _ 0 w)))

same_nearest : (s d t e : ℕ) → 0 < d → 0 < e → s * e ≡ t * d → nearest_size (1000000 * s) d ≡ nearest_size (1000000 * t) e
unfolding nearest_size
same_nearest s d t e some_d some_e h =
    let c : ℕ = 1000000 in
    let left : (2 * (c * s) + d) * (2 * e) ≡ 2 * c * 2 * (s * e) + 2 * (d * e) = grind arith in
    let right : (2 * (c * t) + e) * (2 * d) ≡ 2 * c * 2 * (t * d) + 2 * (d * e) = grind arith in
    same_ratio (2 * (c * s) + d) (2 * d) (2 * (c * t) + e) (2 * e) (omega (arith, some_d)) (omega (arith, some_e)) (left ∙ ap (λ k. 2 * c * 2 * k + 2 * (d * e)) h ∙ sym right)

-- ---- decimals of one value are read as one

sign_same : (m n : Bool) (q r : ℕ) → q ≡ r → (m ≡ n) ⊎ (q ≡ 0) → with_sign m q ≡ with_sign n r
sign_same m n q r e (inl same) = ap (λ b. with_sign b q) same ∙ ap (with_sign n) e
sign_same true true q r e (inr none) = ap (with_sign true) e
sign_same true false q r e (inr none) = ap (with_sign true) none ∙ ap (with_sign false) (sym none ∙ e)
sign_same false true q r e (inr none) = ap (with_sign false) none ∙ ap (with_sign true) (sym none ∙ e)
sign_same false false q r e (inr none) = ap (with_sign false) e

nearest_none : (n d : ℕ) → 0 < d → n ≡ 0 → nearest_size (1000000 * n) d ≡ 0
unfolding nearest_size
nearest_none n d some none = ap (λ k. (2 * (1000000 * k) + d) / (2 * d)) none ∙ div-eq_of_lt (omega (arith, some))

over_none : (n d : ℕ) → n ≡ 0 → n / d ≡ 0
over_none n d none = rw none (omega arith)

module _ (m n : Bool) (s d t e : ℕ) (some_d : 0 < d) (some_e : 0 < e) (ratio : s * e ≡ t * d) (signs : (m ≡ n) ⊎ (s ≡ 0)) where
  same_scaled : nearest (pos 1000000 *ℤ with_sign m s) d ≡ nearest (pos 1000000 *ℤ with_sign n t) e
  same_scaled =
      nearest-signed m s d some_d
      ∙ sign_same m n (nearest_size (1000000 * s) d) (nearest_size (1000000 * t) e) (same_nearest s d t e some_d some_e ratio) (elim signs [ inl same ↦ inl same | inr none ↦ inr (nearest_none s d some_d none) ])
      ∙ sym (nearest-signed n t e some_e)

  same_quotient : quotient (with_sign m s) d ≡ quotient (with_sign n t) e
  same_quotient = bool_cases (s % d == 0)
      (λ whole. quotient-exact m s d some_d whole
      ∙ ap (λ (z : ℤ). Some z) (sign_same m n (s / d) (t / e) (same_ratio s d t e some_d some_e ratio) (elim signs [ inl same ↦ inl same | inr none ↦ inr (over_none s d none) ]))
      ∙ sym (quotient-exact n t e some_e (sym (same_whole s d t e some_d some_e ratio) ∙ whole)))
      (λ part. quotient-part m s d part ∙ sym (quotient-part n t e (sym (same_whole s d t e some_d some_e ratio) ∙ part)))

  same_taken : (kind : Kind) → number_taken kind (with_sign m s) d ≡ number_taken kind (with_sign n t) e
  same_taken Boolean = same_quotient
  same_taken Nominal = same_quotient
  same_taken Ordinal = same_quotient
  same_taken Scalar = ap (λ (z : ℤ). Some z) same_scaled
  same_taken Directional = ap (λ (z : ℤ). Some z) same_scaled
  same_taken Ldd = same_quotient

beq_same : (m n : Bool) → beq m n ≡ true → m ≡ n
beq_same true true e = refl
beq_same true false e = absurd (cc)
beq_same false true e = absurd (cc)
beq_same false false e = refl

same_read : (kind : Kind) (x y : Decimal) → same_value x y ≡ true → cell_of_decimal kind (Some x) ≡ cell_of_decimal kind (Some y)
unfolding numerator
same_read kind x y h =
    let parts = and_parts (size_of x * denominator y == size_of y * denominator x) (beq x.negative y.negative || (size_of x == 0)) (sym (same_value-is x y) ∙ h) in
    let signs : (x.negative ≡ y.negative) ⊎ (size_of x ≡ 0) = elim (or_cases (beq x.negative y.negative) (size_of x == 0) parts.1) [ inl same ↦ inl (beq_same _ _ same) | inr none ↦ inr (eqb-true _ 0 none) ] in
    ap (cell_taken kind) (same_taken x.negative y.negative (size_of x) (denominator x) (size_of y) (denominator y) (denominator_pos x) (denominator_pos y) (eqb-true _ _ parts.0) signs kind)

-- ---- nan is no decimal

-- a byte that is a letter in lower case is one
lower_letter : (b k : ℕ) → to_ascii_lowercase b ≡ k → 64 < k → 64 < b
lower_letter b k e above = bool_cases (nat_lt b 65)
    (λ low. let is : b ≡ k = sym (ap (λ t. cond t b (cond (nat_lt b 91) (b + 32) b)) low) ∙ e in absurd (omega (arith, is, above, ltb-true b 65 low)))
    (λ high. omega (arith, ltb-false b 65 high))

digit_below : (b : ℕ) → 64 < b → is_ascii_digit b ≡ false
digit_below b above = and_right (nat_le 48 b) (nat_le b 57) (lt-leb b 57 (omega (arith, above)))

-- a text that begins with a letter is no decimal
pub letter_none : (b : ℕ) (rest : List ℕ) → 64 < b → decimal_of (b ∷ rest) ≡ None
unfolding decimal_of
letter_none b rest above =
    let minus : eqb b 45 ≡ false = ne_eqb b 45 (λ e. omega (arith, e, above)) in
    let plus : eqb b 43 ≡ false = ne_eqb b 43 (λ e. omega (arith, e, above)) in
    let point : eqb b 46 ≡ false = ne_eqb b 46 (λ e. omega (arith, e, above)) in
    rw (minus, plus, digit_below b above, point) (sym (no_digits (b ∷ rest) [] [] (b ∷ rest) false (and_right (nat_le (length (b ∷ rest)) 128) false refl)))

-- nor is a text that is a word in any case of its letters
pub word_none : (c : ℕ) (cs text : List ℕ) → 64 < to_ascii_lowercase c → is_word (c ∷ cs) text ≡ true → decimal_of text ≡ None
word_none c cs [] letter e = absurd (cc)
word_none c cs (b ∷ rest) letter e =
    let same : to_ascii_lowercase b ∷ str_to_ascii_lowercase rest ≡ to_ascii_lowercase c ∷ str_to_ascii_lowercase cs = (bytes_eq-Decides (str_to_ascii_lowercase (b ∷ rest)) (str_to_ascii_lowercase (c ∷ cs))).0 e in
    letter_none b rest (lower_letter b (to_ascii_lowercase c) (head_is _ _ _ _ same) letter)

pub nan_none : (text : List ℕ) → is_nan text ≡ true → decimal_of text ≡ None
nan_none text e = word_none 110 (97 ∷ 110 ∷ []) text (lit< tt) e

-- ---- missing cells

pub missing_reads : (kind : Kind) (nodata token : List ℕ) → is_missing nodata token ≡ true → cell_read kind token ≡ cell_read kind nodata
unfolding cell_read
missing_reads kind nodata token h =
    elim (or_cases (both_decimals (decimal_of nodata) (decimal_of token)) (is_nan nodata && is_nan token) h) [
      | inl both ↦ decimals_read (decimal_of nodata) (decimal_of token) both
      | inr nans ↦
          let parts = and_parts (is_nan nodata) (is_nan token) nans in
          ap (cell_of_decimal kind) (nan_none token parts.1 ∙ sym (nan_none nodata parts.0))
    ]
  where
    decimals_read : (a b : Option Decimal) → both_decimals a b ≡ true → cell_of_decimal kind b ≡ cell_of_decimal kind a
    decimals_read (Some x) (Some y) e = sym (same_read kind x y e)
    decimals_read (Some x) None e = absurd (cc)
    decimals_read None b e = absurd (cc)

pub value_is_itself : (d : Decimal) → same_value d d ≡ true
value_is_itself d = (same_value-means d d).1 refl

pub nodata_missing : (nodata : List ℕ) → is_nodata nodata ≡ true → is_missing nodata nodata ≡ true
nodata_missing nodata h =
    option_cases (decimal_of nodata)
    (λ none. let nan : is_nan nodata ≡ true = sym (ap (λ o. is_some o || is_nan nodata) none) ∙ h in
    ap (λ o. both_decimals o o || (is_nan nodata && is_nan nodata)) none ∙ ap (λ b. b && b) nan)
    (λ d is. ap (λ o. both_decimals o o || (is_nan nodata && is_nan nodata)) is ∙ ap (λ b. b || (is_nan nodata && is_nan nodata)) (value_is_itself d))

pub may_be_itself : (r : Result Cell NumberFault) → is_maybe_missing (number_of_cell r) r ≡ true
may_be_itself (Ok Mv) = refl
may_be_itself (Ok (Val n)) = (Decides-int_eq n n).1 refl
may_be_itself (Err e) = refl

pub cell_missing : (kind : Kind) (nodata token : List ℕ) → is_missing nodata token ≡ true → Ok Mv ≡ cell_of_token kind nodata token
unfolding cell_of_token
cell_missing kind nodata token h = sym (ap (λ b. cond b (Ok Mv) (cell_read kind token)) h)

pub cell_there : (kind : Kind) (nodata token : List ℕ) → is_missing nodata token ≡ false → cell_read kind token ≡ cell_of_token kind nodata token
unfolding cell_of_token
cell_there kind nodata token h = sym (ap (λ b. cond b (Ok Mv) (cell_read kind token)) h)

pub not_missing : (kind : Kind) (nodata token : List ℕ) (number : Option ℤ) (read : Result Cell NumberFault) → number ≡ number_of_cell (cell_read kind nodata) → read ≡ cell_read kind token → is_maybe_missing number read ≡ false → is_missing nodata token ≡ false
not_missing kind nodata token number read prepared is other = bool_cases (is_missing nodata token)
    (λ missing. let same : read ≡ cell_read kind nodata = is ∙ missing_reads kind nodata token missing in
    let bad : is_maybe_missing number read ≡ true = ap (λ o. is_maybe_missing o read) (prepared ∙ ap number_of_cell (sym same)) ∙ may_be_itself read in
    absurd (cc))
    (λ there. there)

-- ---- the size of a cell

parts_sign : (text : List ℕ) (negative : Bool) (whole fraction power : List ℕ) (d : Decimal) → decimal_of_parts text negative whole fraction power ≡ Some d → d.negative ≡ negative
parts_sign text negative whole fraction power d e =
    bool_cases (has_digits text whole fraction)
    (λ some. let then : option_map (λ (x : ℤ). let r : Decimal = record { negative = negative; whole = whole; fraction = fraction; exponent = x } in r) (exponent_of power) ≡ Some d = sym (ap (λ b. cond b (option_map (λ (x : ℤ). let r : Decimal = record { negative = negative; whole = whole; fraction = fraction; exponent = x } in r) (exponent_of power)) None) some) ∙ e in
    power_sign (exponent_of power) then)
    (λ none. let bad : None ≡ Some d = sym (ap (λ b. cond b (option_map (λ (x : ℤ). let r : Decimal = record { negative = negative; whole = whole; fraction = fraction; exponent = x } in r) (exponent_of power)) None) none) ∙ e in absurd (cc))
  where
    power_sign : (o : Option ℤ) → option_map (λ (x : ℤ). let r : Decimal = record { negative = negative; whole = whole; fraction = fraction; exponent = x } in r) o ≡ Some d → d.negative ≡ negative
    power_sign None bad = absurd (cc)
    power_sign (Some x) is = sym (ap (λ (r : Decimal). r.negative) (some_is _ _ is))

decimal_sign : (text : List ℕ) (d : Decimal) → decimal_of text ≡ Some d → d.negative ≡ starts_with_minus text
unfolding decimal_of
decimal_sign text d e = parts_sign text (starts_with_minus text) (front_digits (without_leading_sign text)) (fraction_digits (behind_digits (without_leading_sign text))) (behind_fraction (behind_digits (without_leading_sign text))) d e

-- a number with a minus is not above 0
signed_not_positive : (negative : Bool) (n : ℕ) → negative ≡ true → int_lt (pos 0) (with_sign negative n) ≡ false
signed_not_positive true zero e = refl
signed_not_positive true (suc n) e = refl
signed_not_positive false n e = absurd (cc)

pub minus_no_size : (value : List ℕ) → starts_with_minus value ≡ true → is_cell_size value ≡ false
unfolding numerator
minus_no_size value minus =
    and_right (nat_le (length value) 64) (is_positive (decimal_of value))
    (option_cases (decimal_of value)
    (λ none. ap is_positive none)
    (λ d is. ap is_positive is ∙ signed_not_positive d.negative (size_of d) (decimal_sign value d is ∙ minus)))

-- the number that the word 0 stands for
abbrev pub zero_decimal : Decimal
zero_decimal = record { negative = false; whole = codes "0"; fraction = []; exponent = pos 0 }

pub zero_read : decimal_of (codes "0") ≡ Some zero_decimal
unfolding decimal_of
zero_read = refl

zero_test : (n d : ℕ) → not (int_eq (pos n *ℤ pos 1) (pos 0 *ℤ pos d)) ≡ int_lt (pos 0) (pos n)
zero_test zero d = ap (λ k. not (int_eq (pos (0 * 1)) (pos k))) (zero-mul d)
zero_test (suc n) d =
    let above : int_lt (pos 0) (pos (suc n)) ≡ true = grind (arith, ints) in
    let apart : int_eq (pos (suc n * 1)) (pos (0 * d)) ≡ false = false_from_ne_true _ (λ e. let same : suc n * 1 ≡ 0 * d = ap unsigned_abs ((Decides-int_eq (pos (suc n * 1)) (pos (0 * d))).0 e) in absurd (omega arith)) in
    ap not apart ∙ sym above

signed_test : (negative : Bool) (n d : ℕ) → negative ≡ false → not (int_eq (with_sign negative n *ℤ pos 1) (pos 0 *ℤ pos d)) ≡ int_lt (pos 0) (with_sign negative n)
signed_test false n d e = zero_test n d
signed_test true n d e = absurd (cc)

not_zero : (d : Decimal) → d.negative ≡ false → not (same_value d zero_decimal) ≡ int_lt (pos 0) (numerator d)
unfolding numerator denominator size_of same_value
not_zero d plain = signed_test d.negative _ _ plain

pub size_tested : (value : List ℕ) (r : Bool) → is_coordinate value ≡ true → starts_with_minus value ≡ false → ((x y : Decimal) → decimal_of value ≡ Some x → decimal_of (codes "0") ≡ Some y → r ≡ same_value x y) → not r ≡ is_cell_size value
size_tested value r coordinate plain reading =
    let parts = and_parts (nat_le (length value) 64) (is_some (decimal_of value)) coordinate in
    option_cases (decimal_of value)
    (λ none. let nothing : Option Decimal = None in let bad : is_some nothing ≡ true = sym (ap (λ (o : Option Decimal). is_some o) none) ∙ parts.1 in absurd (cc))
    (λ d is.
    ap not (reading d zero_decimal is zero_read)
    ∙ not_zero d (decimal_sign value d is ∙ plain)
    ∙ sym (ap (λ b. b && is_positive (decimal_of value)) parts.0 ∙ ap is_positive is))
