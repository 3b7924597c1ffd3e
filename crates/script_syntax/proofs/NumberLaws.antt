-- The number at the front of a text is one, and no longer one stands there.
use Rattle.std.proofs.Common.{◌≡◌, ℕ, zero, suc, ◌+◌, min, ◌<◌, ◌≤◌, Bool, true, false, List, [], ◌∷◌, ◌++◌, length, take, drop, Option, Some, None, refl, sym, ◌∙◌, ap, subst, arith, append_assoc, append-nil, length-append}
use Rattle.std.specs.Prelude.{◌==◌, if◌then◌else◌}
use Rattle.std.specs.Char.{is_ascii_digit}
use Rattle.std.specs.List.{list_all}
use Rattle.std.proofs.lemmas.List.{take-append-drop, length-take-le}
use Rattle.std.proofs.lemmas.List.Folds.{length-prefix_len}
use Rattle.std.proofs.lemmas.List.Sums.{prefix_len-le-length}
use Rattle.std.proofs.Math.Seq.{drop-append_seam}
use Rattle.std.proofs.lemmas.Bool.Decides.{nat_tests}
use Rattle.text_base.specs.Bytes.{point}
use Rattle.script_syntax.specs.Spelling.{PowerForm, NumberForm, is_sign, is_exponent_letter, sign_text, IsSignForm, IsPowerForm, power_text, IsPowerPart, fraction_bytes, fraction_of, number_text, IsNumberForm}
use Rattle.script_syntax.specs.inside.Scanning.{digits_len, with_point, after_digits, mantissa_len, sign_len, with_digits, power_len, number_len}
use Rattle.script_syntax.proofs.RunLaws.{both, cond_true, cond_false, prefix_len-all, list_all-run, list_all-front}

-- ---- digits

-- no letter of a power, no point and no sign is a digit
letter_no_digit : (b : ℕ) → is_exponent_letter b ≡ true → is_ascii_digit b ≡ false
letter_no_digit b h = grind (arith, nat_tests)

sign_no_digit : (b : ℕ) → is_sign b ≡ true → is_ascii_digit b ≡ false
sign_no_digit b h = grind (arith, nat_tests)

digit_no_sign : (b : ℕ) → is_ascii_digit b ≡ true → is_sign b ≡ false
digit_no_sign b h = grind (arith, nat_tests)

letter_no_point : (b : ℕ) → is_exponent_letter b ≡ true → (b == point) ≡ false
letter_no_point b h = grind (arith, nat_tests)

-- ---- the longest number is not shorter than a number

-- digits before a byte that is none
digits_before : (ds : List ℕ) (b : ℕ) (xs : List ℕ) → list_all is_ascii_digit ds ≡ true → is_ascii_digit b ≡ false → digits_len (ds ++ b ∷ xs) ≡ length ds
digits_before ds b xs h n =
    let none : digits_len (b ∷ xs) ≡ 0 = cond_false (is_ascii_digit b) (1 + digits_len xs) 0 n in
    prefix_len-all is_ascii_digit ds (b ∷ xs) h ∙ (omega (arith, none))

-- at least the digits
digits_at_least : (ds xs : List ℕ) → list_all is_ascii_digit ds ≡ true → length ds ≤ digits_len (ds ++ xs)
digits_at_least ds xs h = omega (arith, prefix_len-all is_ascii_digit ds xs h)

with_digits_some : (s d : ℕ) → 0 < d → with_digits s d ≡ 1 + s + min d 6
with_digits_some s d h = let f : (d == 0) ≡ false = grind (arith, nat_tests) in cond_false (d == 0) 0 (1 + s + min d 6) f

-- the sign of a power
signed_len : (s : Option ℕ) (ds xs : List ℕ) → IsSignForm s → list_all is_ascii_digit ds ≡ true → 0 < length ds → (sign_len (sign_text s ++ ds ++ xs) ≡ length (sign_text s)) × (drop (sign_len (sign_text s ++ ds ++ xs)) (sign_text s ++ ds ++ xs) ≡ ds ++ xs)
signed_len None [] xs h d some = absurd (omega arith)
signed_len None (b ∷ ds) xs h d some =
    let no : is_sign b ≡ false = digit_no_sign b (both (is_ascii_digit b) (list_all is_ascii_digit ds) d).0 in
    let len : sign_len (b ∷ ds ++ xs) ≡ 0 = cond_false (is_sign b) 1 0 no in
    (len, ap (λ (n : ℕ). drop n (b ∷ ds ++ xs)) len)
signed_len (Some b) ds xs h d some =
    let len : sign_len (b ∷ ds ++ xs) ≡ 1 = cond_true (is_sign b) 1 0 h in
    (len, ap (λ (n : ℕ). drop n (b ∷ ds ++ xs)) len)

power_at_least : (f : PowerForm) (xs : List ℕ) → IsPowerForm f → length (power_text (Some f)) ≤ power_len (power_text (Some f) ++ xs)
unfolding power_len
power_at_least f xs h =
    let same : (sign_text f.sign ++ f.digits) ++ xs ≡ sign_text f.sign ++ f.digits ++ xs = refl in
    let s = signed_len f.sign f.digits xs h.signed h.digits h.some in
    let d : digits_len (drop (sign_len (sign_text f.sign ++ f.digits ++ xs)) (sign_text f.sign ++ f.digits ++ xs)) ≡ digits_len (f.digits ++ xs) = ap (λ (ys : List ℕ). digits_len ys) s.1 in
    let least = digits_at_least f.digits xs h.digits in
    let some : 0 < digits_len (f.digits ++ xs) = (let g = h.some in omega arith) in
    let is : power_len (power_text (Some f) ++ xs) ≡ 1 + length (sign_text f.sign) + min (digits_len (f.digits ++ xs)) 6 =
    cond_true (is_exponent_letter f.letter) (with_digits (sign_len (sign_text f.sign ++ f.digits ++ xs)) (digits_len (drop (sign_len (sign_text f.sign ++ f.digits ++ xs)) (sign_text f.sign ++ f.digits ++ xs)))) 0 h.lettered
    ∙ (ap (λ (n : ℕ). with_digits (sign_len (sign_text f.sign ++ f.digits ++ xs)) n) d
    ∙ (ap (λ (n : ℕ). with_digits n (digits_len (f.digits ++ xs))) s.0 ∙ with_digits_some (length (sign_text f.sign)) (digits_len (f.digits ++ xs)) some)) in
    let few = h.few in
    omega (arith, is, length-append (sign_text f.sign) f.digits)

after_at_least : (n : ℕ) (xs : List ℕ) → n ≤ after_digits n xs
after_at_least n [] = omega arith
after_at_least n (b ∷ bs) = by_point (b == point) n (digits_len bs)
  where
    by_point : (t : Bool) (n m : ℕ) → n ≤ (if t then with_point n m else n)
    by_point true n m = by_none (n + m == 0) n m refl
      where
        by_none : (t : Bool) (n m : ℕ) → (n + m == 0) ≡ t → n ≤ (if t then 0 else n + 1 + m)
        by_none true n m h = grind (arith, nat_tests)
        by_none false n m h = omega arith
    by_point false n m = omega arith

-- digits, a point and more digits
pointed_is : (whole ds xs : List ℕ) → list_all is_ascii_digit whole ≡ true → list_all is_ascii_digit ds ≡ true → 0 < length whole + length ds → mantissa_len ((whole ++ point ∷ ds) ++ xs) ≡ length whole + 1 + digits_len (ds ++ xs)
unfolding mantissa_len
pointed_is whole ds xs w f some =
    let d : digits_len (whole ++ point ∷ (ds ++ xs)) ≡ length whole = digits_before whole point (ds ++ xs) w refl in
    let r : drop (digits_len (whole ++ (point ∷ (ds ++ xs)))) (whole ++ (point ∷ (ds ++ xs))) ≡ point ∷ (ds ++ xs) = ap (λ (n : ℕ). drop n (whole ++ (point ∷ (ds ++ xs)))) d ∙ drop-append_seam whole (point ∷ (ds ++ xs)) in
    let least = digits_at_least ds xs f in
    let more : (length whole + digits_len (ds ++ xs) == 0) ≡ false = grind (arith, nat_tests) in
    ap (λ (ys : List ℕ). mantissa_len ys) (append_assoc whole (point ∷ ds) xs)
    ∙ (ap (λ (ys : List ℕ). after_digits (digits_len (whole ++ (point ∷ (ds ++ xs)))) ys) r
    ∙ (ap (λ (n : ℕ). with_point n (digits_len (ds ++ xs))) d
    ∙ cond_false (length whole + digits_len (ds ++ xs) == 0) 0 (length whole + 1 + digits_len (ds ++ xs)) more))

whole_at_least : (whole xs : List ℕ) → list_all is_ascii_digit whole ≡ true → length (whole ++ []) ≤ mantissa_len ((whole ++ []) ++ xs)
unfolding mantissa_len
whole_at_least whole xs w =
    let least = digits_at_least whole xs w in
    let after = after_at_least (digits_len (whole ++ xs)) (drop (digits_len (whole ++ xs)) (whole ++ xs)) in
    let P : List ℕ → Type 0 = λ ys. length ys ≤ after_digits (digits_len (ys ++ xs)) (drop (digits_len (ys ++ xs)) (ys ++ xs)) in
    subst P (sym (append-nil whole)) (omega arith)

-- a number without a power is not longer than the longest
mantissa_at_least : (whole : List ℕ) (fraction : Option (List ℕ)) (xs : List ℕ) → list_all is_ascii_digit whole ≡ true → list_all is_ascii_digit (fraction_of fraction) ≡ true → 0 < length whole + length (fraction_of fraction) → length (whole ++ fraction_bytes fraction) ≤ mantissa_len ((whole ++ fraction_bytes fraction) ++ xs)
mantissa_at_least whole None xs w f some = whole_at_least whole xs w
mantissa_at_least whole (Some ds) xs w f some =
    let least = digits_at_least ds xs f in
    omega (arith, pointed_is whole ds xs w f some, length-append whole (point ∷ ds))

whole_is : (whole : List ℕ) (b : ℕ) (xs : List ℕ) → list_all is_ascii_digit whole ≡ true → is_exponent_letter b ≡ true → mantissa_len ((whole ++ []) ++ b ∷ xs) ≡ length (whole ++ [])
unfolding mantissa_len
whole_is whole b xs w l =
    let d : digits_len (whole ++ b ∷ xs) ≡ length whole = digits_before whole b xs w (letter_no_digit b l) in
    let r : drop (digits_len (whole ++ b ∷ xs)) (whole ++ b ∷ xs) ≡ b ∷ xs = ap (λ (n : ℕ). drop n (whole ++ b ∷ xs)) d ∙ drop-append_seam whole (b ∷ xs) in
    ap (λ (ys : List ℕ). mantissa_len (ys ++ b ∷ xs)) (append-nil whole)
    ∙ (ap (λ (ys : List ℕ). after_digits (digits_len (whole ++ b ∷ xs)) ys) r
    ∙ (cond_false (b == point) (with_point (digits_len (whole ++ b ∷ xs)) (digits_len xs)) (digits_len (whole ++ b ∷ xs)) (letter_no_point b l)
    ∙ (d ∙ ap length (sym (append-nil whole)))))

-- how long a number without a power is, where a power follows
mantissa_is : (whole : List ℕ) (fraction : Option (List ℕ)) (b : ℕ) (xs : List ℕ) → list_all is_ascii_digit whole ≡ true → list_all is_ascii_digit (fraction_of fraction) ≡ true → 0 < length whole + length (fraction_of fraction) → is_exponent_letter b ≡ true → mantissa_len ((whole ++ fraction_bytes fraction) ++ b ∷ xs) ≡ length (whole ++ fraction_bytes fraction)
mantissa_is whole None b xs w f some l = whole_is whole b xs w l
mantissa_is whole (Some ds) b xs w f some l =
    let d = digits_before ds b xs f (letter_no_digit b l) in
    omega (arith, d, pointed_is whole ds (b ∷ xs) w f some, length-append whole (point ∷ ds))

number_is : (text : List ℕ) → 0 < mantissa_len text → number_len text ≡ mantissa_len text + power_len (drop (mantissa_len text) text)
unfolding number_len
number_is text h = let some : (mantissa_len text == 0) ≡ false = grind (arith, nat_tests) in cond_false (mantissa_len text == 0) 0 (mantissa_len text + power_len (drop (mantissa_len text) text)) some

mantissa_some : (whole : List ℕ) (fraction : Option (List ℕ)) → 0 < length whole + length (fraction_of fraction) → 0 < length (whole ++ fraction_bytes fraction)
mantissa_some whole None h = omega (arith, length-append {A = ℕ} whole [])
mantissa_some whole (Some ds) h = omega (arith, length-append whole (point ∷ ds))

-- no number at the front is longer than the longest
pub number_longest : (f : NumberForm) (xs : List ℕ) → IsNumberForm f → length (number_text f) ≤ number_len (number_text f ++ xs)
number_longest f xs h = by_power f.whole f.fraction f.power xs h.whole h.fraction h.some h.power
  where
    by_power : (whole : List ℕ) (fraction : Option (List ℕ)) (power : Option PowerForm) (xs : List ℕ) → list_all is_ascii_digit whole ≡ true → list_all is_ascii_digit (fraction_of fraction) ≡ true → 0 < length whole + length (fraction_of fraction) → IsPowerPart power → length ((whole ++ fraction_bytes fraction) ++ power_text power) ≤ number_len (((whole ++ fraction_bytes fraction) ++ power_text power) ++ xs)
    by_power whole fraction None xs w d some p =
        let m = mantissa_at_least whole fraction xs w d some in
        let s = mantissa_some whole fraction some in
        let n : 0 < mantissa_len ((whole ++ fraction_bytes fraction) ++ xs) = omega arith in
        let is = number_is ((whole ++ fraction_bytes fraction) ++ xs) n in
        let P : List ℕ → Type 0 = λ ys. length ys ≤ number_len (ys ++ xs) in
        subst P (sym (append-nil (whole ++ fraction_bytes fraction))) (omega arith)
    by_power whole fraction (Some g) xs w d some p =
        let front = whole ++ fraction_bytes fraction in
        let tail = (sign_text g.sign ++ g.digits) ++ xs in
        let m : mantissa_len (front ++ g.letter ∷ tail) ≡ length front = mantissa_is whole fraction g.letter tail w d some p.lettered in
        let s = mantissa_some whole fraction some in
        let n : 0 < mantissa_len (front ++ g.letter ∷ tail) = omega arith in
        let is = number_is (front ++ g.letter ∷ tail) n in
        let r : drop (mantissa_len (front ++ g.letter ∷ tail)) (front ++ g.letter ∷ tail) ≡ g.letter ∷ tail = ap (λ (k : ℕ). drop k (front ++ g.letter ∷ tail)) m ∙ drop-append_seam front (g.letter ∷ tail) in
        let power : power_len (drop (mantissa_len (front ++ g.letter ∷ tail)) (front ++ g.letter ∷ tail)) ≡ power_len (g.letter ∷ tail) = ap (λ (ys : List ℕ). power_len ys) r in
        let least : length (power_text (Some g)) ≤ power_len (g.letter ∷ tail) = power_at_least g xs p in
        let whole_text : number_len ((front ++ power_text (Some g)) ++ xs) ≡ number_len (front ++ g.letter ∷ tail) = ap (λ (ys : List ℕ). number_len ys) (append_assoc front (power_text (Some g)) xs) in
        omega (arith, length-append front (power_text (Some g)))

-- ---- the longest number is a number

-- a number at the front of a text
pub record IsNumberAt (text : List ℕ) : Type 0 where
  pub form : NumberForm
  pub is : IsNumberForm form
  pub rest : List ℕ
  pub parts : text ≡ number_text form ++ rest
  pub len : number_len text ≡ length (number_text form)

record IsMantissa (text : List ℕ) : Type 0 where
  whole : List ℕ
  fraction : Option (List ℕ)
  rest : List ℕ
  digits : list_all is_ascii_digit whole ≡ true
  behind : list_all is_ascii_digit (fraction_of fraction) ≡ true
  some : 0 < length whole + length (fraction_of fraction)
  parts : text ≡ (whole ++ fraction_bytes fraction) ++ rest
  len : mantissa_len text ≡ length (whole ++ fraction_bytes fraction)

whole_mantissa : (text rest : List ℕ) → 0 < digits_len text → drop (digits_len text) text ≡ rest → mantissa_len text ≡ digits_len text → IsMantissa text
whole_mantissa text rest some r is =
    let whole = take (digits_len text) text in
    let long : length whole ≡ digits_len text = length-prefix_len is_ascii_digit text in
    record {
      whole = whole;
      fraction = None;
      rest = rest;
      digits = list_all-run is_ascii_digit text;
      behind = refl;
      some = omega arith;
      parts = sym (take-append-drop (digits_len text) text) ∙ (ap (λ (ys : List ℕ). whole ++ ys) r ∙ ap (λ (ys : List ℕ). ys ++ rest) (sym (append-nil whole)));
      len = is ∙ (sym long ∙ ap length (sym (append-nil whole)));
    }

pointed_mantissa : (text : List ℕ) (b : ℕ) (bs : List ℕ) → drop (digits_len text) text ≡ b ∷ bs → (b == point) ≡ true → 0 < digits_len text + digits_len bs → mantissa_len text ≡ digits_len text + 1 + digits_len bs → IsMantissa text
pointed_mantissa text b bs r p some is =
    let whole = take (digits_len text) text in
    let ds = take (digits_len bs) bs in
    let long : length whole ≡ digits_len text = length-prefix_len is_ascii_digit text in
    let far : length ds ≡ digits_len bs = length-prefix_len is_ascii_digit bs in
    let dot : b ≡ point = grind (arith, nat_tests) in
    record {
      whole = whole;
      fraction = Some ds;
      rest = drop (digits_len bs) bs;
      digits = list_all-run is_ascii_digit text;
      behind = list_all-run is_ascii_digit bs;
      some = omega arith;
      parts = sym (take-append-drop (digits_len text) text) ∙ (ap (λ (ys : List ℕ). whole ++ ys) (r ∙ (ap (λ (c : ℕ). c ∷ bs) dot ∙ ap (λ (ys : List ℕ). point ∷ ys) (sym (take-append-drop (digits_len bs) bs)))) ∙ sym (append_assoc whole (point ∷ ds) (drop (digits_len bs) bs)));
      len = omega (arith, length-append whole (point ∷ ds));
    }

mantissa_some_by : (u : Bool) (b : ℕ) (bs text : List ℕ) → drop (digits_len text) text ≡ b ∷ bs → (b == point) ≡ true → (digits_len text + digits_len bs == 0) ≡ u → 0 < mantissa_len text → mantissa_len text ≡ with_point (digits_len text) (digits_len bs) → IsMantissa text
mantissa_some_by true b bs text r t u h is =
    let none : mantissa_len text ≡ 0 = is ∙ cond_true (digits_len text + digits_len bs == 0) 0 (digits_len text + 1 + digits_len bs) u in
    absurd (omega arith)
mantissa_some_by false b bs text r t u h is =
    let some : 0 < digits_len text + digits_len bs = grind (arith, nat_tests) in
    pointed_mantissa text b bs r t some (is ∙ cond_false (digits_len text + digits_len bs == 0) 0 (digits_len text + 1 + digits_len bs) u)

mantissa_point_by : (t : Bool) (b : ℕ) (bs text : List ℕ) → drop (digits_len text) text ≡ b ∷ bs → (b == point) ≡ t → 0 < mantissa_len text → mantissa_len text ≡ after_digits (digits_len text) (b ∷ bs) → IsMantissa text
mantissa_point_by false b bs text r t h is =
    let same : mantissa_len text ≡ digits_len text = is ∙ cond_false (b == point) (with_point (digits_len text) (digits_len bs)) (digits_len text) t in
    whole_mantissa text (b ∷ bs) (omega arith) r same
mantissa_point_by true b bs text r t h is = mantissa_some_by (digits_len text + digits_len bs == 0) b bs text r t refl h (is ∙ cond_true (b == point) (with_point (digits_len text) (digits_len bs)) (digits_len text) t)

mantissa_after : (text rest : List ℕ) → drop (digits_len text) text ≡ rest → mantissa_len text ≡ after_digits (digits_len text) rest
unfolding mantissa_len
mantissa_after text rest r = ap (after_digits (digits_len text)) r

mantissa_rest_by : (rest text : List ℕ) → drop (digits_len text) text ≡ rest → 0 < mantissa_len text → mantissa_len text ≡ after_digits (digits_len text) rest → IsMantissa text
mantissa_rest_by [] text r h is = whole_mantissa text [] (omega arith) r is
mantissa_rest_by (b ∷ bs) text r h is = mantissa_point_by (b == point) b bs text r refl h is

mantissa_sound : (text : List ℕ) → 0 < mantissa_len text → IsMantissa text
mantissa_sound text h = mantissa_rest_by (drop (digits_len text) text) text refl h (mantissa_after text (drop (digits_len text) text) refl)

-- a power at the front of a text, or none
record IsPowerAt (text : List ℕ) : Type 0 where
  power : Option PowerForm
  is : IsPowerPart power
  rest : List ℕ
  parts : text ≡ power_text power ++ rest
  len : power_len text ≡ length (power_text power)

no_power : (text : List ℕ) → power_len text ≡ 0 → IsPowerAt text
no_power text h = record { power = None; is = tt; rest = text; parts = refl; len = h }

some_power : (b : ℕ) (s : Option ℕ) (ys : List ℕ) (text : List ℕ) → is_exponent_letter b ≡ true → IsSignForm s → text ≡ b ∷ sign_text s ++ ys → power_len text ≡ with_digits (length (sign_text s)) (digits_len ys) → IsPowerAt text
some_power b s ys text l g e is = by_digits (digits_len ys == 0) b s ys text l g e refl is
  where
    by_digits : (t : Bool) (b : ℕ) (s : Option ℕ) (ys : List ℕ) (text : List ℕ) → is_exponent_letter b ≡ true → IsSignForm s → text ≡ b ∷ sign_text s ++ ys → (digits_len ys == 0) ≡ t → power_len text ≡ with_digits (length (sign_text s)) (digits_len ys) → IsPowerAt text
    by_digits true b s ys text l g e t is = no_power text (is ∙ cond_true (digits_len ys == 0) 0 (1 + length (sign_text s) + min (digits_len ys) 6) t)
    by_digits false b s ys text l g e t is =
        let k = min (digits_len ys) 6 in
        let ds = take k ys in
        let within : digits_len ys ≤ length ys = prefix_len-le-length is_ascii_digit ys in
        let some : 0 < digits_len ys = grind (arith, nat_tests) in
        let long : length ds ≡ k = length-take-le k ys (omega arith) in
        let at : power_len text ≡ 1 + length (sign_text s) + k = is ∙ cond_false (digits_len ys == 0) 0 (1 + length (sign_text s) + k) t in
        let f : PowerForm = record { letter = b; sign = s; digits = ds } in
        record {
          power = Some f;
          is = record { lettered = l; signed = g; digits = list_all-front is_ascii_digit k ys (omega arith); some = omega arith; few = omega arith };
          rest = drop k ys;
          parts = e ∙ (ap (λ (zs : List ℕ). b ∷ sign_text s ++ zs) (sym (take-append-drop k ys)) ∙ ap (λ (zs : List ℕ). b ∷ zs) (sym (append_assoc (sign_text s) ds (drop k ys))));
          len = omega (arith, length-append (sign_text s) ds);
        }

power_none : power_len [] ≡ 0
unfolding power_len
power_none = refl

power_at : (b : ℕ) (bs : List ℕ) → power_len (b ∷ bs) ≡ (if is_exponent_letter b then with_digits (sign_len bs) (digits_len (drop (sign_len bs) bs)) else 0)
unfolding power_len
power_at b bs = refl

power_sign_by : (t : Bool) (b c : ℕ) (cs : List ℕ) → is_exponent_letter b ≡ true → is_sign c ≡ t → power_len (b ∷ c ∷ cs) ≡ with_digits (sign_len (c ∷ cs)) (digits_len (drop (sign_len (c ∷ cs)) (c ∷ cs))) → IsPowerAt (b ∷ c ∷ cs)
power_sign_by true b c cs l s is =
    let one : sign_len (c ∷ cs) ≡ 1 = cond_true (is_sign c) 1 0 s in
    some_power b (Some c) cs (b ∷ c ∷ cs) l s refl (is ∙ ap (λ (n : ℕ). with_digits n (digits_len (drop n (c ∷ cs)))) one)
power_sign_by false b c cs l s is =
    let none : sign_len (c ∷ cs) ≡ 0 = cond_false (is_sign c) 1 0 s in
    some_power b None (c ∷ cs) (b ∷ c ∷ cs) l tt refl (is ∙ ap (λ (n : ℕ). with_digits n (digits_len (drop n (c ∷ cs)))) none)

power_letter_by : (t : Bool) (b : ℕ) (bs : List ℕ) → is_exponent_letter b ≡ t → IsPowerAt (b ∷ bs)
power_letter_by false b bs l = no_power (b ∷ bs) (power_at b bs ∙ cond_false (is_exponent_letter b) (with_digits (sign_len bs) (digits_len (drop (sign_len bs) bs))) 0 l)
power_letter_by true b [] l = some_power b None [] (b ∷ []) l tt refl (power_at b [] ∙ cond_true (is_exponent_letter b) (with_digits (sign_len []) (digits_len (drop (sign_len []) []))) 0 l)
power_letter_by true b (c ∷ cs) l = power_sign_by (is_sign c) b c cs l refl (power_at b (c ∷ cs) ∙ cond_true (is_exponent_letter b) (with_digits (sign_len (c ∷ cs)) (digits_len (drop (sign_len (c ∷ cs)) (c ∷ cs)))) 0 l)

power_sound : (text : List ℕ) → IsPowerAt text
power_sound [] = no_power [] power_none
power_sound (b ∷ bs) = power_letter_by (is_exponent_letter b) b bs refl

no_number : (text : List ℕ) → mantissa_len text ≡ 0 → number_len text ≡ 0
unfolding number_len
no_number text h = let none : (mantissa_len text == 0) ≡ true = grind (arith, nat_tests) in cond_true (mantissa_len text == 0) 0 (mantissa_len text + power_len (drop (mantissa_len text) text)) none

-- the longest number at the front is a number
pub number_sound : (text : List ℕ) → 0 < number_len text → IsNumberAt text
number_sound text h = by_mantissa (mantissa_len text) text refl h
  where
    by_mantissa : (m : ℕ) (text : List ℕ) → mantissa_len text ≡ m → 0 < number_len text → IsNumberAt text
    by_mantissa zero text is h = absurd (omega (arith, no_number text is))
    by_mantissa (suc m) text is h =
        let a = mantissa_sound text (omega arith) in
        let p = power_sound (drop (mantissa_len text) text) in
        let front = a.whole ++ fraction_bytes a.fraction in
        let n = number_is text (omega arith) in
        let r : drop (mantissa_len text) text ≡ a.rest = ap (λ (k : ℕ). drop k text) a.len ∙ (ap (drop (length front)) a.parts ∙ drop-append_seam front a.rest) in
        let f : NumberForm = record { whole = a.whole; fraction = a.fraction; power = p.power } in
        record {
          form = f;
          is = record { whole = a.digits; fraction = a.behind; some = a.some; power = p.is };
          rest = p.rest;
          parts = a.parts ∙ (ap (λ (ys : List ℕ). front ++ ys) (sym r ∙ p.parts) ∙ sym (append_assoc front (power_text p.power) p.rest));
          len = omega (arith, n, a.len, p.len, length-append front (power_text p.power));
        }
