-- Numbers of few digits, as they are read in one pass.
use Rattle.std.proofs.Common.{◌≡◌, ℕ, zero, suc, ◌+◌, ◌-◌, ◌*◌, ◌%◌, ◌^◌, ◌<◌, ◌≤◌, Bool, true, false, cond, List, [], ◌∷◌, ◌++◌, length, take, drop, ℤ, pos, negsuc, unsigned_abs, ◌*ℤ◌, ◌-ℤ◌, neg_ℤ, Ok, refl, sym, ap, ◌∙◌, subst, inl, inr, arith, length-append, append-nil, append_assoc, add-zero, get_or}
use Rattle.std.specs.Char.{digit_value, is_ascii_digit}
use Rattle.std.specs.Prelude.{IfSome, Option, Some, None, nat_le}
use Rattle.std.specs.List.{list_all}
use Rattle.std.specs.Str.Parse.{digits_value}
use Rattle.std.proofs.Math.Nat.{mul-le-mul_left, pow-le-pow_right}
use Rattle.std.proofs.lemmas.Nat.{pow-add}
use Rattle.std.proofs.lemmas.Int.{ints, to_z-of_z, to_z_pos}
use mir.Val.{SFits, bool_byte, of_z, to_z}
use mir.Syntax.{w64}
use Rattle.std.proofs.lemmas.List.{take_more, length-take, length-take-le}
use Rattle.cell_values.specs.declared.kind.Kind.{Kind}
use Rattle.cell_values.specs.declared.kind.Kind.TheVariants.{Boolean, Nominal, Ordinal, Scalar, Directional, Ldd}
use Rattle.cell_values.specs.declared.read.Cut.{Cut}
use Rattle.cell_values.specs.declared.cell.Cell.TheVariants.{Val}
use Rattle.cell_values.specs.Kinds.{IsValue}
use Rattle.cell_values.specs.Rounding.{IsNearest, nearest, nearest_size}
use Rattle.cell_values.specs.Decimal.{Decimal, IsDecimal, IsSign, IsPointed, are_digits, numerator, denominator, size_of, with_sign}
use Rattle.cell_values.specs.inside.Reading.{cell_read}
use Rattle.cell_values.specs.Reading.{IsQuotient, IsTaken}
use Rattle.cell_values.specs.Units.{million}
use Rattle.cell_values.specs.inside.Parts.{is_zero}
use Rattle.cell_values.specs.inside.Short.{IsShort, ReadsSigned, counts_millionths}
use Rattle.std.proofs.lemmas.Bool.{le-leb}
use Rattle.cell_values.proofs.Digits.{are_digits-append, digit_byte}
use Rattle.cell_values.proofs.Nearest.{nearest-IsNearest}
use Rattle.cell_values.proofs.Cuts.{value-append, below_power, cut_inside, cut_scaled, power_pos, take_none}
use Rattle.cell_values.proofs.Readings.{nearest-cut, nearest-signed, cell-from_value, denominator_pos, signed_product}
use Rattle.cell_values.proofs.PrintedBack.{sign_length, nearest_multiple}

-- ---- digits, one more
pub few_below : (ds : List ℕ) → are_digits ds ≡ true → length ds ≤ 12 → digits_value 10 ds < 10 ^ 12
few_below ds p few =
    let below = below_power ds p in
    let most : 10 ^ length ds ≤ 10 ^ 12 = pow-le-pow_right {n = 10} (omega arith) {i = length ds} {j = 12} few in
    omega (arith, below, most)

pub small_number : (ds : List ℕ) (i n : ℕ) → i ≤ 12 → are_digits (take i ds) ≡ true → n ≡ digits_value 10 (take i ds) → n < 10 ^ 12
small_number ds i n few digits is =
    let below = few_below (take i ds) digits (omega (arith, length-take i ds)) in
    omega (arith, below, is)

pub more_digits : (ds : List ℕ) (i : ℕ) → i < length ds → are_digits (take i ds) ≡ true → is_ascii_digit (get_or ds i 0) ≡ true → are_digits (take (i + 1) ds) ≡ true
more_digits ds i lt before digit =
    let one : are_digits (get_or ds i 0 ∷ []) ≡ true = rw digit refl in
    ap are_digits (take_more ds i 0 lt) ∙ are_digits-append (take i ds) (get_or ds i 0 ∷ []) before one

pub more_value : (ds : List ℕ) (i n : ℕ) → i < length ds → n ≡ digits_value 10 (take i ds) → n * 10 + digit_value (get_or ds i 0) ≡ digits_value 10 (take (i + 1) ds)
more_value ds i n lt is =
    let d = get_or ds i 0 in
    let whole = ap (digits_value 10) (take_more ds i 0 lt) ∙ value-append (take i ds) (d ∷ []) in
    let last : digits_value 10 (d ∷ []) ≡ digit_value d = omega arith in
    omega (arith, whole, last, is)

-- ---- the text

pointed_length : (pointed fraction : List ℕ) → IsPointed pointed fraction → length pointed ≤ 1 + length fraction
pointed_length pointed fraction (inl is) = omega (arith, ap length is)
pointed_length pointed fraction (inr is) = omega (arith, ap length is.0)

short_is : (negative : Bool) (sign text : List ℕ) (n : ℕ) → IsSign sign negative → (s : IsShort text n) → IsDecimal (sign ++ text) (record { negative = negative; whole = s.whole; fraction = s.fraction; exponent = pos 0 })
short_is negative sign text n is s =
    let front = length-append sign text in
    let parts = length-append s.whole s.pointed in
    let point = pointed_length s.pointed s.fraction s.behind in
    record {
      sign = sign;
      pointed = s.pointed;
      power = [];
      parts = ap (λ t. sign ++ t) s.parts ∙ grouped sign s.whole s.pointed;
      short = omega (arith, front, parts, point, ap length s.parts, sign_length negative sign is, s.few, s.places);
      signed = is;
      whole = s.wholes;
      fraction = s.fractions;
      some = s.some;
      behind = s.behind;
      raised = inr (refl, refl);
    }
  where
    grouped : (a b c : List ℕ) → a ++ (b ++ c) ≡ a ++ b ++ c ++ []
    grouped a b c = sym (append-nil (a ++ b ++ c) ∙ append_assoc a b c)

-- ---- its value
value_is : (negative : Bool) (whole fraction : List ℕ) (n : ℕ) → nearest_size (million * digits_value 10 (whole ++ fraction)) (10 ^ length fraction) ≡ n
    → let d : Decimal = record { negative = negative; whole = whole; fraction = fraction; exponent = pos 0 } in nearest_size (million * size_of d) (denominator d) ≡ n
unfolding size_of denominator
value_is negative whole fraction n value =
    ap (λ v. nearest_size (million * v) (10 ^ (length fraction + 0))) (once (digits_value 10 (whole ++ fraction)))
    ∙ ap (λ k. nearest_size (million * digits_value 10 (whole ++ fraction)) (10 ^ k)) (add-zero (length fraction))
    ∙ value
  where
    once : (v : ℕ) → v * 1 ≡ v
    once v = omega arith

near_taken : (kind : Kind) (n : ℤ) (d : ℕ) (z : ℤ) → counts_millionths kind ≡ true → IsNearest (pos million *ℤ n) (pos d) z → IsTaken kind n d z
near_taken Boolean n d z counts is = absurd (cc)
near_taken Nominal n d z counts is = absurd (cc)
near_taken Ordinal n d z counts is = absurd (cc)
near_taken Scalar n d z counts is = is
near_taken Directional n d z counts is = is
near_taken Ldd n d z counts is = absurd (cc)

whole_taken : (kind : Kind) (n : ℤ) (d : ℕ) (z : ℤ) → counts_millionths kind ≡ false → IsQuotient n d z → IsTaken kind n d z
whole_taken Boolean n d z counts is = is
whole_taken Nominal n d z counts is = is
whole_taken Ordinal n d z counts is = is
whole_taken Scalar n d z counts is = absurd (cc)
whole_taken Directional n d z counts is = absurd (cc)
whole_taken Ldd n d z counts is = is

-- millionths of few digits
pub millionths-reads : (kind : Kind) (text : List ℕ) (n : ℕ) → counts_millionths kind ≡ true → IsShort text n → ReadsSigned kind text n
unfolding numerator
millionths-reads kind text n counts s = record {
  small = s.small;
  reads = λ negative sign is value.
      let d : Decimal = record { negative = negative; whole = s.whole; fraction = s.fraction; exponent = pos 0 } in
      let some = denominator_pos d in
      let near_is : nearest (pos million *ℤ with_sign negative (size_of d)) (denominator d) ≡ with_sign negative n =
      nearest-signed negative (size_of d) (denominator d) some ∙ ap (with_sign negative) (value_is negative s.whole s.fraction n s.value) in
      let near = subst (λ q. IsNearest (pos million *ℤ with_sign negative (size_of d)) (pos (denominator d)) q) near_is (nearest-IsNearest (pos million *ℤ with_sign negative (size_of d)) (denominator d) some) in
      cell-from_value kind (sign ++ text) d (with_sign negative n) (short_is negative sign text n is s) (record { taken = near_taken kind (numerator d) (denominator d) (with_sign negative n) counts near; value = value });
}

-- whole numbers of few digits
digits_are : (negative : Bool) (sign ds : List ℕ) → IsSign sign negative → are_digits ds ≡ true → 0 < length ds → length ds ≤ 12 → IsDecimal (sign ++ ds) (record { negative = negative; whole = ds; fraction = []; exponent = pos 0 })
digits_are negative sign ds is digits some few = record {
  sign = sign;
  pointed = [];
  power = [];
  parts = sym (append-nil (sign ++ ds ++ []) ∙ append-nil (sign ++ ds));
  short = omega (arith, length-append sign ds, few, sign_length negative sign is);
  signed = is;
  whole = digits;
  fraction = refl;
  some = omega (arith, some);
  behind = inr (refl, refl);
  raised = inr (refl, refl);
}

digits_quotient : (negative : Bool) (ds : List ℕ) (n : ℕ) → n ≡ digits_value 10 ds
    → let d : Decimal = record { negative = negative; whole = ds; fraction = []; exponent = pos 0 } in IsQuotient (numerator d) (denominator d) (with_sign negative n)
unfolding numerator denominator size_of
digits_quotient negative ds n value =
    let same : n ≡ digits_value 10 (ds ++ []) = value ∙ ap (digits_value 10) (sym (append-nil ds)) in
    product negative n ∙ ap (λ v. with_sign negative (v * 1)) same
  where
    product : (negative : Bool) (n : ℕ) → with_sign negative n *ℤ pos 1 ≡ with_sign negative (n * 1)
    product false n = refl
    product true n = signed_product n 1

pub whole-reads : (kind : Kind) (ds : List ℕ) (n : ℕ) → counts_millionths kind ≡ false → are_digits ds ≡ true → 0 < length ds → length ds ≤ 12 → n ≡ digits_value 10 ds → n < 10 ^ 12 → ReadsSigned kind ds n
whole-reads kind ds n counts digits some few value small = record {
  small = omega (arith, small);
  reads = λ negative sign is in'.
      let d : Decimal = record { negative = negative; whole = ds; fraction = []; exponent = pos 0 } in
      cell-from_value kind (sign ++ ds) d (with_sign negative n) (digits_are negative sign ds is digits some few) (record { taken = whole_taken kind (numerator d) (denominator d) (with_sign negative n) counts (digits_quotient negative ds n value); value = in' });
}

-- ---- what stands at the front of a text
take_two : (w k : ℕ) (text : List ℕ) → w ≤ length text → take (w + k) text ≡ take w text ++ take k (drop w text)
take_two zero k xs h =
    let n : 0 + k ≡ k = omega arith in
    let none = take_none xs in
    ap (λ m. take m xs) n ∙ sym (ap (λ t. t ++ take k (drop 0 xs)) none.0 ∙ ap (take k) none.1)
take_two (suc w) k [] h = absurd (omega arith)
take_two (suc w) k (x ∷ xs) h =
    let n : suc w + k ≡ suc (w + k) = omega arith in
    ap (λ m. take m (x ∷ xs)) n ∙ ap (λ t. x ∷ t) (take_two w k xs (omega arith))

scaled : (whole fraction P Q : ℕ) → Q * P ≡ million → million * (whole * P + fraction) ≡ (whole * million + fraction * Q) * P
scaled whole fraction P Q h = left whole fraction P ∙ ap (λ m. whole * million * P + fraction * m) (sym h) ∙ right whole fraction P Q
  where
    left : (whole fraction P : ℕ) → million * (whole * P + fraction) ≡ whole * million * P + fraction * million
    left whole fraction P = omega arith

    right : (whole fraction P Q : ℕ) → whole * million * P + fraction * (Q * P) ≡ (whole * million + fraction * Q) * P
    right whole fraction P Q = omega arith

powers : (p : ℕ) → p ≤ 6 → 10 ^ (6 - p) * 10 ^ p ≡ million
powers p le =
    let six : 6 - p + p ≡ 6 = omega arith in
    sym (pow-add 10 (6 - p) p) ∙ ap (λ k. 10 ^ k) six

pub whole_short : (text : List ℕ) (w whole : ℕ) → w ≤ length text → w ≤ 12 → 0 < w → are_digits (take w text) ≡ true → whole ≡ digits_value 10 (take w text) → whole < 10 ^ 12 → IsShort (take w text) (whole * million)
whole_short text w whole within few some digits value small =
    let long = length-take-le w text within in
    record {
      whole = take w text;
      fraction = [];
      pointed = [];
      parts = sym (append-nil (take w text));
      behind = inr (refl, refl);
      wholes = digits;
      fractions = refl;
      some = omega (arith, long);
      few = omega (arith, long);
      places = omega arith;
      value = ap (λ t. nearest_size (million * digits_value 10 t) 1) (append-nil (take w text)) ∙ ap (λ v. nearest_size v 1) (ap (λ v. million * v) (sym value) ∙ once whole) ∙ nearest_multiple (whole * million) 1 (omega arith);
      small = omega (arith, small);
    }
  where
    once : (v : ℕ) → million * v ≡ v * million * 1
    once v = omega arith

pub pointed_short : (text rest : List ℕ) (w p whole fraction power : ℕ) → w ≤ length text → w ≤ 12 → p ≤ length rest → p ≤ 6 → 0 < w + p → drop w text ≡ 46 ∷ rest → are_digits (take w text) ≡ true → are_digits (take p rest) ≡ true → whole ≡ digits_value 10 (take w text) → fraction ≡ digits_value 10 (take p rest) → whole < 10 ^ 12 → fraction < 10 ^ 12 → power ≡ 10 ^ (6 - p) → power ≤ million → IsShort (take (w + 1 + p) text) (whole * million + fraction * power)
pointed_short text rest w p whole fraction power within few less places some front digits more value value' small small' scale most =
    let W = take w text in
    let F = take p rest in
    let long = length-take-le w text within in
    let long' = length-take-le p rest less in
    let n : w + 1 + p ≡ w + suc p = omega arith in
    let up = mul-le-mul_left {m = power} {n = million} fraction most in
    record {
      whole = W;
      fraction = F;
      pointed = 46 ∷ F;
      parts = ap (λ k. take k text) n ∙ take_two w (suc p) text within ∙ ap (λ t. W ++ take (suc p) t) front;
      behind = inl refl;
      wholes = digits;
      fractions = more;
      some = omega (arith, long, long');
      few = omega (arith, long);
      places = omega (arith, long');
      value = ap (λ v. nearest_size v (10 ^ length F)) (ap (λ v. million * v) (value-append W F)
          ∙ ap (λ k. million * (digits_value 10 W * 10 ^ k + digits_value 10 F)) long'
          ∙ ap (λ v. million * (v * 10 ^ p + digits_value 10 F)) (sym value)
          ∙ ap (λ v. million * (whole * 10 ^ p + v)) (sym value')
          ∙ scaled whole fraction (10 ^ p) power (ap (λ q. q * 10 ^ p) scale ∙ powers p places)
          ∙ ap (λ k. (whole * million + fraction * power) * 10 ^ k) (sym long'))
          ∙ nearest_multiple (whole * million + fraction * power) (10 ^ length F) (power_pos (length F));
      small = omega (arith, up, small, small');
    }

-- ---- further digits, by which the sixth is rounded
cut_of : List ℕ → List ℕ → Cut
cut_of front back = record { size = digits_value 10 front; half = nat_le 53 (get_or back 0 48); exact = list_all is_zero back }

-- the nearest number of millionths
rounded_value : (W F T : List ℕ) → length F ≡ 6 → are_digits T ≡ true
    → nearest_size (million * digits_value 10 (W ++ (F ++ T))) (10 ^ length (F ++ T)) ≡ cond (nat_le 53 (get_or T 0 48)) (digits_value 10 (W ++ F) + 1) (digits_value 10 (W ++ F))
unfolding cut_of
rounded_value W F T six digits =
    let cut = cut_of (W ++ F) T in
    let inside = cut_inside (W ++ F) T cut digits refl refl refl in
    let scaled = cut_scaled million (digits_value 10 ((W ++ F) ++ T)) (10 ^ length T) cut (omega arith) (power_pos (length T)) inside in
    let some = power_pos (6 + length T) in
    let under : million * 10 ^ length T ≡ 10 ^ (6 + length T) = sym (pow-add 10 6 (length T)) in
    let under' : 10 ^ length (F ++ T) ≡ million * 10 ^ length T = ap (λ n. 10 ^ n) (length-append F T ∙ ap (λ n. n + length T) six) ∙ sym under in
    ap (λ n. nearest_size (million * digits_value 10 (W ++ (F ++ T))) n) under'
    ∙ ap (λ ds. nearest_size (million * digits_value 10 ds) (million * 10 ^ length T)) (sym (append_assoc W F T))
    ∙ nearest-cut (million * digits_value 10 ((W ++ F) ++ T)) (million * 10 ^ length T) cut (omega (arith, some, under)) scaled

pub rounded_short : (text rest behind : List ℕ) (w passed whole fraction : ℕ) → w ≤ length text → w ≤ 12 → 6 ≤ length rest → drop w text ≡ 46 ∷ rest → behind ≡ drop 6 rest → passed ≤ length behind → passed ≤ 100 → are_digits (take w text) ≡ true → are_digits (take 6 rest) ≡ true → are_digits (take passed behind) ≡ true
    → whole ≡ digits_value 10 (take w text) → fraction ≡ digits_value 10 (take 6 rest) → whole < 10 ^ 12 → fraction < 10 ^ 12
    → IsShort (take (w + 1 + 6 + passed) text) (cond (nat_le 53 (get_or (take passed behind) 0 48)) (whole * million + fraction + 1) (whole * million + fraction))
rounded_short text rest behind w passed whole fraction within few enough front back fits hundred digits more most value value' small small' =
    let W = take w text in
    let F = take 6 rest in
    let T = take passed behind in
    let long = length-take-le w text within in
    let six = length-take-le 6 rest enough in
    let count = length-take-le passed behind fits in
    let n : w + 1 + 6 + passed ≡ w + suc (6 + passed) = omega arith in
    let parts : take (6 + passed) rest ≡ F ++ T = take_two 6 passed rest enough ∙ ap (λ t. F ++ take passed t) (sym back) in
    let sum : digits_value 10 (W ++ F) ≡ whole * million + fraction = value-append W F ∙ ap (λ k. digits_value 10 W * 10 ^ k + digits_value 10 F) six ∙ ap (λ v. v * million + digits_value 10 F) (sym value) ∙ ap (λ v. whole * million + v) (sym value') in
    record {
      whole = W;
      fraction = F ++ T;
      pointed = 46 ∷ (F ++ T);
      parts = ap (λ k. take k text) n ∙ take_two w (suc (6 + passed)) text within ∙ ap (λ t. W ++ take (suc (6 + passed)) t) front ∙ ap (λ t. W ++ 46 ∷ t) parts;
      behind = inl refl;
      wholes = digits;
      fractions = are_digits-append F T more most;
      some = omega (arith, length-append F T, six);
      few = omega (arith, long, few);
      places = omega (arith, length-append F T, six, count, hundred);
      value = rounded_value W F T six most ∙ ap (λ v. cond (nat_le 53 (get_or T 0 48)) (v + 1) v) sum;
      small = below (nat_le 53 (get_or T 0 48)) whole fraction small small';
    }
  where
    below : (b : Bool) (whole fraction : ℕ) → whole < 10 ^ 12 → fraction < 10 ^ 12 → cond b (whole * million + fraction + 1) (whole * million + fraction) < 2 * 10 ^ 18
    below true whole fraction small small' = omega (arith, small, small')
    below false whole fraction small small' = omega (arith, small, small')

-- a number of few digits is a scalar
pub few_scalar : (z : ℤ) → unsigned_abs z < 2 * 10 ^ 18 → IsValue Scalar z
few_scalar (pos n) small = record { least = omega (arith, ints); greatest = omega (arith, ints, small) }
few_scalar (negsuc n) small = record { least = omega (arith, ints, small); greatest = omega (arith, ints) }

pub negated_size : (n : ℕ) → unsigned_abs (neg_ℤ (pos n)) ≡ n
negated_size zero = refl
negated_size (suc n) = refl

-- ---- what is found, or nothing
pub millionths-found : (kind : Kind) (text : List ℕ) (o : Option (ℕ × ℕ)) → counts_millionths kind ≡ true → IfSome o (λ found. IsShort (take found.1 text) found.0) → IfSome o (λ found. ReadsSigned kind (take found.1 text) found.0)
millionths-found kind text None counts short = tt
millionths-found kind text (Some found) counts short = millionths-reads kind (take found.1 text) found.0 counts short

pub whole-found : (kind : Kind) (text : List ℕ) (o : Option (ℕ × ℕ)) → counts_millionths kind ≡ false → IfSome o (λ found. found.1 ≤ length text) → IfSome o (λ found. (0 < found.1) × (found.1 ≤ 12)) → IfSome o (λ found. are_digits (take found.1 text) ≡ true)
    → IfSome o (λ found. found.0 ≡ digits_value 10 (take found.1 text)) → IfSome o (λ found. found.0 < 10 ^ 12) → IfSome o (λ found. ReadsSigned kind (take found.1 text) found.0)
whole-found kind text None counts within few digits value small = tt
whole-found kind text (Some found) counts within few digits value small =
    let long = length-take-le found.1 text within in
    whole-reads kind (take found.1 text) found.0 counts digits (omega (arith, few, long)) (omega (arith, few, long)) value small

pub value-found : (kind : Kind) (text : List ℕ) (o : Option (ℤ × ℕ)) (z : ℤ) (len : ℕ) → IfSome o (λ found. (found ≡ (z, len)) × IsValue kind z) → (IsValue kind z → cell_read kind (take len text) ≡ Ok (Val z)) → IfSome o (λ found. cell_read kind (take found.1 text) ≡ Ok (Val found.0))
value-found kind text None z len found reads = tt
value-found kind text (Some v) z len found reads = subst (λ (x : ℤ × ℕ). cell_read kind (take x.1 text) ≡ Ok (Val x.0)) (sym found.0) (reads found.1)

-- a size that is rounded by a half
pub rounded_by : (half : Bool) (size up : ℕ) → up ≡ bool_byte half → cond half (size + 1) size ≡ size + up
rounded_by true size up is = omega (arith, is)
rounded_by false size up is = omega (arith, is)

-- how far a byte stands from the first digit tells whether it is one
pub digit_by_distance : (b distance : ℕ) → b < 256 → distance ≡ (b + (2 ^ 64 - 48)) % 2 ^ 64 → (distance < 10 → (is_ascii_digit b ≡ true) × (distance ≡ digit_value b)) × (is_ascii_digit b ≡ true → distance < 10)
digit_by_distance b distance small is = (near, far)
  where
    near : distance < 10 → (is_ascii_digit b ≡ true) × (distance ≡ digit_value b)
    near lt =
        let low : 48 ≤ b = omega (arith, small, is, lt) in
        let high : b ≤ 57 = omega (arith, small, is, lt) in
        let digit : is_ascii_digit b ≡ true = rw (le-leb 48 b low, le-leb b 57 high) refl in
        (digit, omega (arith, is, low, high, digit_byte b digit))

    far : is_ascii_digit b ≡ true → distance < 10
    far digit = omega (arith, is, digit_byte b digit)

-- the table of powers
pub power_of_ten : (places : ℕ) → places ≤ 6 → get_or (1 ∷ 10 ∷ 100 ∷ 1000 ∷ 10000 ∷ 100000 ∷ million ∷ []) places 0 ≡ 10 ^ places
power_of_ten zero le = refl
power_of_ten (suc zero) le = refl
power_of_ten (suc (suc zero)) le = refl
power_of_ten (suc (suc (suc zero))) le = refl
power_of_ten (suc (suc (suc (suc zero)))) le = refl
power_of_ten (suc (suc (suc (suc (suc zero))))) le = refl
power_of_ten (suc (suc (suc (suc (suc (suc zero)))))) le = refl
power_of_ten (suc (suc (suc (suc (suc (suc (suc n))))))) le = absurd (omega (arith, le))

-- ---- numbers of 64 bits
minus : (n : ℕ) → pos 0 -ℤ pos n ≡ neg_ℤ (pos n)
minus n = grind (arith, ints)

fits : (n : ℕ) → n < 2 * 10 ^ 18 → SFits w64 (neg_ℤ (pos n))
fits zero small = omega (arith, ints)
fits (suc n) small = omega (arith, ints)

pub negated : (n : ℕ) → n < 2 * 10 ^ 18 → to_z w64 (of_z w64 (pos 0 -ℤ to_z w64 n)) ≡ neg_ℤ (pos n)
negated n small = ap (λ z. to_z w64 (of_z w64 (pos 0 -ℤ z))) (to_z_pos w64 n (omega arith)) ∙ ap (λ z. to_z w64 (of_z w64 z)) (minus n) ∙ to_z-of_z w64 (neg_ℤ (pos n)) (fits n small)
