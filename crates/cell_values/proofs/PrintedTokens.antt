-- A printed cell is a token, and no value's token is that of a missing value.
use Rattle.std.proofs.Common.{◌≡◌, ℕ, suc, ◌+◌, ◌*◌, ◌^◌, ◌<◌, ◌⊎◌, Bool, true, false, List, [], ◌∷◌, ◌++◌, length, codes, ℤ, pos, negsuc, neg_ℤ, ◌*ℤ◌, unsigned_abs, Option, Some, lit<, refl, sym, ap, ◌∙◌, subst, inl, inr, arith, length-append}
use Rattle.std.specs.Char.{is_ascii_digit}
use Rattle.std.specs.List.{list_all}
use Rattle.std.proofs.Math.Nat.{mul-le-mul_left}
use Rattle.std.proofs.lemmas.Int.{unsigned_abs-mul}
use Rattle.std.proofs.lemmas.List.Folds.{list_all-append}
use Rattle.cell_values.specs.declared.kind.Kind.{Kind}
use Rattle.cell_values.specs.declared.kind.Kind.TheVariants.{Boolean, Nominal, Ordinal, Scalar, Directional, Ldd}
use Rattle.cell_values.specs.declared.cell.Cell.{Cell}
use Rattle.cell_values.specs.declared.cell.Cell.TheVariants.{Mv, Val}
use Rattle.cell_values.specs.Kinds.{IsValue, IsCell}
use Rattle.cell_values.specs.Rounding.{IsNearest}
use Rattle.cell_values.specs.Decimal.{Decimal, IsDecimalText, IsExponent, IsSign, IsPointed, are_digits, numerator, denominator, size_of}
use Rattle.cell_values.specs.inside.Reading.{decimal_of}
use Rattle.cell_values.specs.inside.Printed.{printed_cell}
use Rattle.cell_values.specs.Reading.{IsTaken, IsQuotient, HasValue}
use Rattle.cell_values.specs.inside.Reading.{same_value}
use Rattle.cell_values.proofs.Digits.{both, digit_byte}
use Rattle.cell_values.proofs.DecimalLaws.{decimal-from_text, text-from_decimal}
use Rattle.cell_values.proofs.Alike.{same_value-means}
use Rattle.cell_values.proofs.Readings.{small_value, value-from_cell, denominator_pos}
use Rattle.cell_values.proofs.PrintedBack.{printed-back}

-- ---- each byte of a decimal
visible_digit : (p : ℕ → Bool) → ((b : ℕ) → 32 < b → p b ≡ true) → (ds : List ℕ) → are_digits ds ≡ true → list_all p ds ≡ true
visible_digit p above [] digits = refl
visible_digit p above (d ∷ ds) digits =
    let parts = both (is_ascii_digit d) (are_digits ds) digits in
    let byte = digit_byte d parts.0 in
    rw (above d (omega (arith, byte)), visible_digit p above ds parts.1) refl

visible_sign : (p : ℕ → Bool) → ((b : ℕ) → 32 < b → p b ≡ true) → (negative : Bool) (sign : List ℕ) → IsSign sign negative → list_all p sign ≡ true
visible_sign p above true sign is = rw (is, above 45 (lit< tt)) refl
visible_sign p above false sign (inl none) = rw none refl
visible_sign p above false sign (inr plus) = rw (plus, above 43 (lit< tt)) refl

visible_point : (p : ℕ → Bool) → ((b : ℕ) → 32 < b → p b ≡ true) → (pointed fraction : List ℕ) → are_digits fraction ≡ true → IsPointed pointed fraction → list_all p pointed ≡ true
visible_point p above pointed fraction digits (inl point) = rw (point, above 46 (lit< tt), visible_digit p above fraction digits) refl
visible_point p above pointed fraction digits (inr none) = rw (none.0) refl

visible_letter : (p : ℕ → Bool) → ((b : ℕ) → 32 < b → p b ≡ true) → (letter : List ℕ) → (letter ≡ codes "e") ⊎ (letter ≡ codes "E") → list_all p letter ≡ true
visible_letter p above letter (inl small) = rw (small, above 101 (lit< tt)) refl
visible_letter p above letter (inr capital) = rw (capital, above 69 (lit< tt)) refl

visible_both : (p : ℕ → Bool) (xs ys : List ℕ) → list_all p xs ≡ true → list_all p ys ≡ true → list_all p (xs ++ ys) ≡ true
visible_both p xs ys a b = list_all-append p xs ys ∙ rw (a, b) refl

visible_power : (p : ℕ → Bool) → ((b : ℕ) → 32 < b → p b ≡ true) → (power : List ℕ) (e : ℤ) → IsExponent power e → list_all p power ≡ true
visible_power p above power e (inl is) =
    ap (list_all p) is.parts ∙ visible_both p (is.letter ++ is.sign) is.digits (visible_both p is.letter is.sign (visible_letter p above is.letter is.lettered) (visible_sign p above is.negative is.sign is.signed)) (visible_digit p above is.digits is.numeral)
visible_power p above power e (inr none) = rw (none.0) refl

-- each byte of a decimal is above the blank
pub decimal-visible : (p : ℕ → Bool) → ((b : ℕ) → 32 < b → p b ≡ true) → (text : List ℕ) → IsDecimalText text → list_all p text ≡ true
decimal-visible p above text (d, is) =
    ap (list_all p) is.parts ∙ visible_both p (is.sign ++ d.whole ++ is.pointed) is.power (visible_both p (is.sign ++ d.whole) is.pointed (visible_both p is.sign d.whole (visible_sign p above d.negative is.sign is.signed) (visible_digit p above d.whole is.whole)) (visible_point p above is.pointed d.fraction is.fraction is.behind)) (visible_power p above is.power d.exponent is.raised)

-- a decimal is no empty text
pub decimal-some : (text : List ℕ) → IsDecimalText text → 0 < length text
decimal-some text (d, is) = some_text (is.sign) d.whole is.pointed is.power d.fraction text is.parts is.some is.behind
  where
    some_text : (sign whole pointed power fraction text : List ℕ) → text ≡ sign ++ whole ++ pointed ++ power → 0 < length whole + length fraction → IsPointed pointed fraction → 0 < length text
    some_text sign whole pointed power fraction text parts some (inl point) =
        omega (arith, ap length parts, length-append (sign ++ whole ++ pointed) power, length-append (sign ++ whole) pointed, ap length point)
    some_text sign whole pointed power fraction text parts some (inr none) =
        omega (arith, ap length parts, length-append (sign ++ whole ++ pointed) power, length-append (sign ++ whole) pointed, length-append sign whole, ap length none.1)

-- the text of a missing value is a decimal
abbrev pub missing_decimal : Decimal
missing_decimal = record { negative = false; whole = codes "1"; fraction = []; exponent = pos 31 }

pub decimal-missing : decimal_of (codes "1e31") ≡ Some missing_decimal
unfolding decimal_of
decimal-missing = refl

-- a printed cell is a decimal
pub printed-decimal : (kind : Kind) (cell : Cell) → IsCell kind cell → IsDecimalText (printed_cell kind cell)
printed-decimal kind Mv is = (missing_decimal, text-from_decimal (codes "1e31") missing_decimal decimal-missing)
printed-decimal kind (Val z) is =
    let (d, text, value) = value-from_cell kind (printed_cell kind (Val z)) z (printed-back kind z is) in
    (d, text)

-- so it is some bytes, each above the blank
pub printed-some : (kind : Kind) (cell : Cell) → IsCell kind cell → 0 < length (printed_cell kind cell)
printed-some kind cell is = decimal-some (printed_cell kind cell) (printed-decimal kind cell is)

pub printed-visible : (p : ℕ → Bool) → ((b : ℕ) → 32 < b → p b ≡ true) → (kind : Kind) (cell : Cell) → IsCell kind cell → list_all p (printed_cell kind cell) ≡ true
printed-visible p above kind cell is = decimal-visible p above (printed_cell kind cell) (printed-decimal kind cell is)

-- ---- no value of a kind is that of a missing value
far_quotient : (n : ℤ) (d : ℕ) (z : ℤ) → 0 < d → unsigned_abs z < 2 ^ 64 → n ≡ pos (10 ^ 31 * d) → IsQuotient n d z → ⊥
far_quotient n d z some small same is =
    let sizes : unsigned_abs z * d ≡ 10 ^ 31 * d = sym (unsigned_abs-mul z (pos d)) ∙ ap unsigned_abs (is ∙ same) in
    let most = mul-le-mul_left {m = unsigned_abs z} {n = 2 ^ 64} d (omega arith) in
    omega (arith, sizes, most)

far_nearest : (n : ℤ) (d : ℕ) (z : ℤ) → 0 < d → unsigned_abs z < 2 ^ 64 → n ≡ pos (10 ^ 31 * d) → IsNearest (pos 1000000 *ℤ n) (pos d) z → ⊥
far_nearest n d z some small same is =
    let size : unsigned_abs (pos 1000000 *ℤ n) ≡ 1000000 * (10 ^ 31 * d) = ap (λ m. unsigned_abs (pos 1000000 *ℤ m)) same in
    let most = mul-le-mul_left {m = unsigned_abs z} {n = 2 ^ 64} d (omega arith) in
    omega (arith, size, most, is.size.below)

far_taken : (kind : Kind) (n : ℤ) (d : ℕ) (z : ℤ) → 0 < d → unsigned_abs z < 2 ^ 64 → n ≡ pos (10 ^ 31 * d) → IsTaken kind n d z → ⊥
far_taken Boolean n d z some small same is = far_quotient n d z some small same is
far_taken Nominal n d z some small same is = far_quotient n d z some small same is
far_taken Ordinal n d z some small same is = far_quotient n d z some small same is
far_taken Scalar n d z some small same is = far_nearest n d z some small same is
far_taken Directional n d z some small same is = far_nearest n d z some small same is
far_taken Ldd n d z some small same is = far_quotient n d z some small same is

missing_parts : (numerator missing_decimal ≡ pos (10 ^ 31)) × (denominator missing_decimal ≡ 1)
unfolding numerator denominator size_of
missing_parts = (refl, refl)

times_one : (z : ℤ) → z *ℤ pos 1 ≡ z
times_one (pos n) = ap (λ m. pos m) (omega arith)
times_one (negsuc n) =
    let once : suc n * 1 ≡ suc n = omega arith in
    ap (λ m. neg_ℤ (pos m)) once

not_true : (b : Bool) → (b ≡ true → ⊥) → b ≡ false
not_true true apart = absurd (apart refl)
not_true false apart = refl

pub value-not_missing : (kind : Kind) (d : Decimal) (z : ℤ) → HasValue kind d z → same_value d missing_decimal ≡ false
value-not_missing kind d z has =
    not_true (same_value d missing_decimal) (λ yes.
    let same = (same_value-means d missing_decimal).0 yes in
    let top : numerator d ≡ pos (10 ^ 31 * denominator d) =
    sym (times_one (numerator d)) ∙ ap (λ m. numerator d *ℤ pos m) (sym missing_parts.1) ∙ same ∙ ap (λ m. m *ℤ pos (denominator d)) missing_parts.0 in
    far_taken kind (numerator d) (denominator d) z (denominator_pos d) (small_value kind z has.value) top has.taken)

-- no printed value is taken for a missing one
pub printed-not_missing : (kind : Kind) (z : ℤ) (d : Decimal) → IsValue kind z → decimal_of (printed_cell kind (Val z)) ≡ Some d → same_value d missing_decimal ≡ false
printed-not_missing kind z d value found =
    let (e, text, has) = value-from_cell kind (printed_cell kind (Val z)) z (printed-back kind z value) in
    let same : e ≡ d = one_of (decimal_of (printed_cell kind (Val z))) e d (decimal-from_text (printed_cell kind (Val z)) e text) found in
    subst (λ x. same_value x missing_decimal ≡ false) same (value-not_missing kind e z has)
  where
    one_of : (o : Option Decimal) (e d : Decimal) → o ≡ Some e → o ≡ Some d → e ≡ d
    one_of o e d p q = cc
