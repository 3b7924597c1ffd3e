-- What a text is as a decimal, from its parts and back.
use Rattle.std.proofs.Common.{◌≡◌, ℕ, ◌+◌, ◌<◌, ◌≤◌, Bool, true, false, cond, ◌&&◌, List, [], ◌∷◌, ◌++◌, length, drop, take, codes, Option, Some, None, option_map, ℤ, refl, sym, ap, ◌∙◌, subst, inl, inr, ◌⊎◌, ◌==◌, nat_lt, nat_le, arith, append_assoc, get_or, take_at, drop_at, ◌||◌, is_some}
use Rattle.std.specs.Char.{is_ascii_digit}
use Rattle.std.specs.List.{prefix_len}
use Rattle.std.specs.Str.Parse.{digits_value, starts_with_minus, without_leading_sign}
use Rattle.std.proofs.lemmas.Grind.{common_steps}
use Rattle.std.proofs.lemmas.Bool.{eqb-true, ltb-true, leb-true, lt-ltb, le-leb}
use Rattle.std.proofs.lemmas.List.{take-append-drop}
use Rattle.cell_values.specs.Decimal.{Decimal, IsDecimal, IsDecimalText, IsSign, IsPointed, IsPower, IsExponent, are_digits, with_sign}
use Rattle.cell_values.specs.inside.Reading.{decimal_of, decimal_of_parts, exponent_of, front_digits, behind_digits, fraction_digits, behind_fraction, has_digits, is_power_letter, is_short_numeral}
use Rattle.cell_values.proofs.Digits.{both, digits_at_front}

-- ---- a text by parts that were found in turn
pub decimal_of_is : (text unsigned whole rest fraction power : List ℕ) (negative : Bool) → negative ≡ starts_with_minus text → unsigned ≡ without_leading_sign text → whole ≡ front_digits unsigned → rest ≡ behind_digits unsigned → fraction ≡ fraction_digits rest → power ≡ behind_fraction rest → decimal_of_parts text negative whole fraction power ≡ decimal_of text
unfolding decimal_of
decimal_of_is text unsigned whole rest fraction power negative n u w r f p = rw (p, f, w, r, u, n) refl

same_either_way : (b : Bool) → let nothing : Option Decimal = None in nothing ≡ cond b nothing nothing
same_either_way true = refl
same_either_way false = refl

pub no_digits : (text whole fraction power : List ℕ) (negative : Bool) → has_digits text whole fraction ≡ false → None ≡ decimal_of_parts text negative whole fraction power
no_digits text whole fraction power negative none = rw none refl

pub no_power : (text whole fraction power : List ℕ) (negative : Bool) → None ≡ exponent_of power → None ≡ decimal_of_parts text negative whole fraction power
no_power text whole fraction power negative none = rw (← none) (same_either_way (has_digits text whole fraction))

pub all_parts : (text whole fraction power : List ℕ) (negative : Bool) (exponent : ℤ) → has_digits text whole fraction ≡ true → Some exponent ≡ exponent_of power → Some (record { negative = negative; whole = whole; fraction = fraction; exponent = exponent }) ≡ decimal_of_parts text negative whole fraction power
all_parts text whole fraction power negative exponent some is = rw (some, ← is) refl

-- ---- the sign
abbrev sign_text : Bool → Bool → List ℕ
sign_text true plus = codes "-"
sign_text false true = codes "+"
sign_text false false = []

sign_case : (minus plus : Bool) (c : ℕ) (cs : List ℕ) → (minus ≡ true → c ≡ 45) → (plus ≡ true → c ≡ 43) → (c ∷ cs ≡ sign_text minus plus ++ cond minus cs (drop (cond plus 1 0) (c ∷ cs))) × IsSign (sign_text minus plus) minus
sign_case true plus c cs m p = (ap (λ x. x ∷ cs) (m refl), refl)
sign_case false true c cs m p = (ap (λ x. x ∷ cs) (p refl), inr refl)
sign_case false false c cs m p = (refl, inl refl)

sign_split : (text : List ℕ) → (sign : List ℕ) × (text ≡ sign ++ without_leading_sign text) × IsSign sign (starts_with_minus text)
sign_split [] = ([], refl, inl refl)
sign_split (c ∷ cs) =
    let s = sign_case (c == 45) (c == 43) c cs (eqb-true c 45) (eqb-true c 43) in
    (sign_text (c == 45) (c == 43), s.0, s.1)

-- no sign stands first
abbrev NoSign : List ℕ → Type 0
NoSign text = ((get_or text 0 0 == 45) ≡ false) × ((get_or text 0 0 == 43) ≡ false)

sign_back : (sign rest : List ℕ) (negative : Bool) → IsSign sign negative → NoSign rest → (starts_with_minus (sign ++ rest) ≡ negative) × (without_leading_sign (sign ++ rest) ≡ rest)
sign_back sign rest true is apart = rw is (refl, refl)
sign_back sign rest false (inl none) apart = rw none (apart.0, rw (apart.0, apart.1) refl)
sign_back sign rest false (inr plus) apart = rw plus (refl, refl)

-- ---- digits and what follows them
prefix_back : (ds rest : List ℕ) → are_digits ds ≡ true → is_ascii_digit (get_or rest 0 0) ≡ false → prefix_len is_ascii_digit (ds ++ rest) ≡ length ds
prefix_back [] [] p q = refl
prefix_back [] (r ∷ rest) p q = rw q refl
prefix_back (d ∷ ds) rest p q =
    let parts = both (is_ascii_digit d) (are_digits ds) p in
    let more = prefix_back ds rest parts.1 q in
    rw (parts.0) (omega (arith, more))

front_back : (ds rest : List ℕ) → are_digits ds ≡ true → is_ascii_digit (get_or rest 0 0) ≡ false → (front_digits (ds ++ rest) ≡ ds) × (behind_digits (ds ++ rest) ≡ rest)
front_back ds rest p q =
    let n = prefix_back ds rest p q in
    (ap (λ k. take k (ds ++ rest)) n ∙ take_at ds rest (length ds) refl, ap (λ k. drop k (ds ++ rest)) n ∙ drop_at ds rest (length ds) refl)

digit_no_sign : (d : ℕ) → is_ascii_digit d ≡ true → ((d == 45) ≡ false) × ((d == 43) ≡ false)
digit_no_sign d h = grind (arith, common_steps)

-- ---- the fraction
point_case : (b : Bool) (c : ℕ) (cs : List ℕ) → (b ≡ true → c ≡ 46) → (pointed : List ℕ) × (c ∷ cs ≡ pointed ++ cond b (behind_digits cs) (c ∷ cs)) × IsPointed pointed (cond b (front_digits cs) []) × (are_digits (cond b (front_digits cs) []) ≡ true)
point_case true c cs h = (46 ∷ front_digits cs, ap (λ x. x ∷ cs) (h refl) ∙ ap (λ t. 46 ∷ t) (sym (take-append-drop (prefix_len is_ascii_digit cs) cs)), inl refl, digits_at_front cs)
point_case false c cs h = ([], refl, inr (refl, refl), refl)

fraction_split : (text : List ℕ) → (pointed : List ℕ) × (text ≡ pointed ++ behind_fraction text) × IsPointed pointed (fraction_digits text) × (are_digits (fraction_digits text) ≡ true)
fraction_split [] = ([], refl, inr (refl, refl), refl)
fraction_split (c ∷ cs) = point_case (c == 46) c cs (eqb-true c 46)

fraction_back : (pointed fraction power : List ℕ) → IsPointed pointed fraction → are_digits fraction ≡ true → is_ascii_digit (get_or power 0 0) ≡ false → (get_or power 0 0 == 46) ≡ false → (fraction_digits (pointed ++ power) ≡ fraction) × (behind_fraction (pointed ++ power) ≡ power)
fraction_back pointed fraction power (inl point) digits apart no_point = rw point (front_back fraction power digits apart)
fraction_back pointed fraction power (inr none) digits apart no_point = rw (none.0, none.1, no_point) (refl, refl)

-- ---- the exponent
either : (a b : Bool) → (a || b) ≡ true → (a ≡ true) ⊎ (b ≡ true)
either true b h = inl refl
either false b h = inr h

some_case : (b : Bool) (v e : ℤ) → (let nothing : Option ℤ = None in cond b (Some v) nothing ≡ Some e) → (b ≡ true) × (v ≡ e)
some_case true v e h = (refl, cc)
some_case false v e h = absurd (cc)

letter_case : (c : ℕ) → ((c == 101) ≡ true) ⊎ ((c == 69) ≡ true) → (c ∷ [] ≡ codes "e") ⊎ (c ∷ [] ≡ codes "E")
letter_case c (inl small) = inl (ap (λ x. x ∷ []) (eqb-true c 101 small))
letter_case c (inr capital) = inr (ap (λ x. x ∷ []) (eqb-true c 69 capital))

exponent_split : (power : List ℕ) (e : ℤ) → exponent_of power ≡ Some e → IsExponent power e
exponent_split [] e h = inr (refl, cc)
exponent_split (c ∷ cs) e h =
    let digits = without_leading_sign cs in
    let value = with_sign (starts_with_minus cs) (digits_value 10 digits) in
    let case = some_case (is_power_letter c && is_short_numeral digits) value e h in
    let parts = both (is_power_letter c) (is_short_numeral digits) case.0 in
    let short = both (are_digits digits && nat_lt 0 (length digits)) (nat_le (length digits) 6) parts.1 in
    let some = both (are_digits digits) (nat_lt 0 (length digits)) short.0 in
    let s = sign_split cs in
    let power_is : IsPower (c ∷ cs) e = record {
      letter = c ∷ [];
      sign = s.0;
      digits = digits;
      negative = starts_with_minus cs;
      parts = ap (λ t. c ∷ t) s.1;
      lettered = letter_case c (either (c == 101) (c == 69) parts.0);
      signed = s.2;
      numeral = some.0;
      some = ltb-true 0 (length digits) some.1;
      few = leb-true (length digits) 6 short.1;
      value = sym case.1;
    } in
    inl power_is

digits_no_sign : (ds : List ℕ) → are_digits ds ≡ true → 0 < length ds → NoSign ds
digits_no_sign [] p some = absurd (omega arith)
digits_no_sign (d ∷ ds) p some = digit_no_sign d (both (is_ascii_digit d) (are_digits ds) p).0

power_back : (c : ℕ) (sign digits : List ℕ) (negative : Bool) → is_power_letter c ≡ true → IsSign sign negative → are_digits digits ≡ true → 0 < length digits → length digits ≤ 6 → exponent_of (c ∷ (sign ++ digits)) ≡ Some (with_sign negative (digits_value 10 digits))
power_back c sign digits negative letter signed numeral some few =
    let back = sign_back sign digits negative signed (digits_no_sign digits numeral some) in
    rw (back.1, back.0, letter, numeral, lt-ltb 0 (length digits) some, le-leb (length digits) 6 few) refl

letter_back : (letter sign digits : List ℕ) (negative : Bool) → (letter ≡ codes "e") ⊎ (letter ≡ codes "E") → IsSign sign negative → are_digits digits ≡ true → 0 < length digits → length digits ≤ 6 → exponent_of (letter ++ sign ++ digits) ≡ Some (with_sign negative (digits_value 10 digits))
letter_back letter sign digits negative (inl small) signed numeral some few = rw small (power_back 101 sign digits negative refl signed numeral some few)
letter_back letter sign digits negative (inr capital) signed numeral some few = rw capital (power_back 69 sign digits negative refl signed numeral some few)

exponent_back : (power : List ℕ) (e : ℤ) → IsExponent power e → exponent_of power ≡ Some e
exponent_back power e (inl p) = ap exponent_of p.parts ∙ letter_back p.letter p.sign p.digits p.negative p.lettered p.signed p.numeral p.some p.few ∙ ap Some (sym p.value)
exponent_back power e (inr none) = ap exponent_of none.0 ∙ ap Some (sym none.1)

letter_first : (letter rest : List ℕ) → (letter ≡ codes "e") ⊎ (letter ≡ codes "E") → (is_ascii_digit (get_or (letter ++ rest) 0 0) ≡ false) × ((get_or (letter ++ rest) 0 0 == 46) ≡ false)
letter_first letter rest (inl small) = rw small (refl, refl)
letter_first letter rest (inr capital) = rw capital (refl, refl)

power_first : (power : List ℕ) (e : ℤ) → IsExponent power e → (is_ascii_digit (get_or power 0 0) ≡ false) × ((get_or power 0 0 == 46) ≡ false)
power_first power e (inl p) = rw (p.parts, append_assoc p.letter p.sign p.digits) (letter_first p.letter (p.sign ++ p.digits) p.lettered)
power_first power e (inr none) = rw (none.0) (refl, refl)

-- ---- the whole text
pointed_first : (pointed fraction power : List ℕ) → IsPointed pointed fraction → is_ascii_digit (get_or power 0 0) ≡ false → is_ascii_digit (get_or (pointed ++ power) 0 0) ≡ false
pointed_first pointed fraction power (inl point) apart = rw point refl
pointed_first pointed fraction power (inr none) apart = rw (none.0) apart

fraction_first : (pointed fraction power : List ℕ) → IsPointed pointed fraction → 0 < length fraction → NoSign (pointed ++ power)
fraction_first pointed fraction power (inl point) some = rw point (refl, refl)
fraction_first pointed fraction power (inr none) some = absurd (omega (arith, ap length none.1))

unsigned_first : (whole pointed fraction power : List ℕ) → are_digits whole ≡ true → IsPointed pointed fraction → 0 < length whole + length fraction → NoSign (whole ++ (pointed ++ power))
unsigned_first [] pointed fraction power digits point some = fraction_first pointed fraction power point (omega arith)
unsigned_first (d ∷ ds) pointed fraction power digits point some = digit_no_sign d (both (is_ascii_digit d) (are_digits ds) digits).0

regroup : (a b c d : List ℕ) → a ++ b ++ c ++ d ≡ a ++ (b ++ (c ++ d))
regroup a b c d = simp append_assoc

pub decimal-from_text : (text : List ℕ) (d : Decimal) → IsDecimal text d → decimal_of text ≡ Some d
decimal-from_text text d is =
    let first = power_first is.power d.exponent is.raised in
    let rest = is.pointed ++ is.power in
    let apart = pointed_first is.pointed d.fraction is.power is.behind first.0 in
    let text_is : text ≡ is.sign ++ (d.whole ++ rest) = is.parts ∙ regroup is.sign d.whole is.pointed is.power in
    let unsigned = sign_back is.sign (d.whole ++ rest) d.negative is.signed (unsigned_first d.whole is.pointed d.fraction is.power is.whole is.behind is.some) in
    let digits = front_back d.whole rest is.whole apart in
    let behind = fraction_back is.pointed d.fraction is.power is.behind is.fraction first.0 first.1 in
    let some : has_digits text d.whole d.fraction ≡ true = rw (le-leb (length text) 128 is.short, lt-ltb 0 (length d.whole + length d.fraction) is.some) refl in
    sym (all_parts text d.whole d.fraction is.power d.negative d.exponent some (sym (exponent_back is.power d.exponent is.raised))
    ∙ decimal_of_is text (d.whole ++ rest) d.whole rest d.fraction is.power d.negative (sym (ap starts_with_minus text_is ∙ unsigned.0)) (sym (ap without_leading_sign text_is ∙ unsigned.1)) (sym digits.0) (sym digits.1) (sym behind.0) (sym behind.1))

made : (b : Bool) (o : Option ℤ) (make : ℤ → Decimal) (d : Decimal) → (let nothing : Option Decimal = None in cond b (option_map make o) nothing ≡ Some d) → (b ≡ true) × ((e : ℤ) × (o ≡ Some e) × (make e ≡ d))
made true (Some e) make d h = (refl, (e, refl, cc))
made true None make d h = absurd (cc)
made false o make d h = absurd (cc)

pub text-from_decimal : (text : List ℕ) (d : Decimal) → decimal_of text ≡ Some d → IsDecimal text d
unfolding decimal_of
text-from_decimal text d h =
    let unsigned = without_leading_sign text in
    let whole = front_digits unsigned in
    let rest = behind_digits unsigned in
    let fraction = fraction_digits rest in
    let power = behind_fraction rest in
    let make : ℤ → Decimal = λ exponent. record { negative = starts_with_minus text; whole = whole; fraction = fraction; exponent = exponent } in
    let found = made (has_digits text whole fraction) (exponent_of power) make d h in
    let counts = both (nat_le (length text) 128) (nat_lt 0 (length whole + length fraction)) found.0 in
    let s = sign_split text in
    let q = fraction_split rest in
    let digits = take-append-drop (prefix_len is_ascii_digit unsigned) unsigned in
    let is : IsDecimal text (make found.1.0) = record {
      sign = s.0;
      pointed = q.0;
      power = power;
      parts = s.1 ∙ ap (λ t. s.0 ++ t) (sym digits ∙ ap (λ t. whole ++ t) q.1) ∙ sym (regroup s.0 whole q.0 power);
      short = leb-true (length text) 128 counts.0;
      signed = s.2;
      whole = digits_at_front unsigned;
      fraction = q.3;
      some = ltb-true 0 (length whole + length fraction) counts.1;
      behind = q.2;
      raised = exponent_split power found.1.0 found.1.1;
    } in
    subst (IsDecimal text) found.1.2 is

-- ---- whether a text is a decimal
some_of : (o : Option Decimal) → is_some o ≡ true → (d : Decimal) × (o ≡ Some d)
some_of (Some d) h = (d, refl)
some_of None h = absurd (cc)

pub some-from_text : (text : List ℕ) → IsDecimalText text → is_some (decimal_of text) ≡ true
some-from_text text (d, is) = ap is_some (decimal-from_text text d is)

pub text-from_some : (text : List ℕ) → is_some (decimal_of text) ≡ true → IsDecimalText text
text-from_some text h =
    let found = some_of (decimal_of text) h in
    (found.0, text-from_decimal text found.0 found.1)
