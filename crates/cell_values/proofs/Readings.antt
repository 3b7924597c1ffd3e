-- The value that a kind takes from a decimal.
use Rattle.std.proofs.Common.{◌≡◌, ℕ, zero, suc, ◌+◌, ◌*◌, ◌/◌, ◌%◌, ◌^◌, ◌<◌, ◌≤◌, ◌⊎◌, Bool, true, false, cond, ◌&&◌, ℤ, pos, negsuc, neg_ℤ, ◌*ℤ◌, unsigned_abs, int_lt, int_le, ◌≤ℤ◌, ◌==◌, List, Option, Some, None, Result, Ok, Err, IfOk, refl, sym, ap, ◌∙◌, subst, inl, inr, arith, length}
use Rattle.std.proofs.Math.Nat.{mul-le-mul_left, mul-div_left, mul-mod_left}
use Rattle.std.proofs.lemmas.Bool.{cases_lt, leb-true, leb-false, eqb-true, eq-eqb}
use Rattle.std.proofs.lemmas.Int.{ints}
use Rattle.cell_values.specs.declared.kind.Kind.{Kind}
use Rattle.cell_values.specs.declared.kind.Kind.TheVariants.{Boolean, Nominal, Ordinal, Scalar, Directional, Ldd}
use Rattle.cell_values.specs.declared.cell.Cell.{Cell}
use Rattle.cell_values.specs.declared.cell.Cell.TheVariants.{Val}
use Rattle.cell_values.specs.declared.cell.NumberFault.{NumberFault}
use Rattle.cell_values.specs.declared.cell.NumberFault.TheVariants.{BadNumber, Range}
use Rattle.cell_values.specs.declared.cell.Over.{Over}
use Rattle.cell_values.specs.declared.read.Cut.{Cut}
use Rattle.cell_values.specs.Kinds.{IsValue, is_value, cell_of_number, least, greatest}
use Rattle.cell_values.specs.Rounding.{IsNearest, IsNearestSize, nearest, nearest_size}
use Rattle.cell_values.specs.Decimal.{Decimal, IsDecimal, IsDecimalText, numerator, denominator, with_sign, fall_of}
use Rattle.cell_values.specs.inside.Reading.{decimal_of}
use Rattle.cell_values.specs.inside.Parts.{IsCut, IsBeyond}
use Rattle.cell_values.specs.Reading.{IsQuotient, IsTaken, HasValue, HasNoValue, IsCellOf}
use Rattle.cell_values.specs.inside.Reading.{quotient, number_taken, cell_taken, cell_of_decimal, cell_read}
use Rattle.cell_values.proofs.DecimalLaws.{decimal-from_text, text-from_decimal}
use Rattle.cell_values.proofs.Nearest.{nearest_size-unique, nearest_size-IsNearestSize, nearest-pos, nearest-negsuc, nearest-IsNearest, nearest-unique}
use Rattle.cell_values.proofs.Cuts.{power_pos}

-- ---- rounding from a cut
nearest_case : (half : Bool) (n d q r : ℕ) → 0 < d → n ≡ q * d + r → r < d → (half ≡ true → d ≤ 2 * r) → (half ≡ false → 2 * r < d) → IsNearestSize n d (cond half (q + 1) q)
nearest_case true n d q r some parts below high low =
    let up = high refl in
    record { above = omega (arith, parts, up, below); below = omega (arith, parts, up, below) }
nearest_case false n d q r some parts below high low =
    let down = low refl in
    record { above = omega (arith, parts, down, below); below = omega (arith, parts, down, below) }

pub nearest-cut : (n d : ℕ) (cut : Cut) → 0 < d → IsCut n d cut → nearest_size n d ≡ cond cut.half (cut.size + 1) cut.size
nearest-cut n d cut some is =
    let parts : n ≡ cut.size * d + n % d = omega (arith, ap (λ q. q * d) is.size) in
    let near = nearest_case cut.half n d cut.size (n % d) some parts (omega arith) (λ h. leb-true d (2 * (n % d)) (sym is.half ∙ h)) (λ h. leb-false d (2 * (n % d)) (sym is.half ∙ h)) in
    nearest_size-unique n d (nearest_size n d) (cond cut.half (cut.size + 1) cut.size) (nearest_size-IsNearestSize n d some) near

nearest_zero : (d : ℕ) → 0 < d → nearest_size 0 d ≡ 0
nearest_zero d some =
    let is : IsNearestSize 0 d 0 = record { above = omega arith; below = omega arith } in
    nearest_size-unique 0 d (nearest_size 0 d) 0 (nearest_size-IsNearestSize 0 d some) is

neg_zero : (n : ℕ) → n ≡ 0 → pos n ≡ neg_ℤ (pos n)
neg_zero zero h = refl
neg_zero (suc n) h = absurd (omega arith)

nearest_neg : (n d : ℕ) → 0 < d → nearest (neg_ℤ (pos n)) d ≡ neg_ℤ (pos (nearest_size n d))
nearest_neg zero d some = nearest-pos 0 d ∙ neg_zero (nearest_size 0 d) (nearest_zero d some)
nearest_neg (suc n) d some = nearest-negsuc n d

scaled_neg : (c n : ℕ) → pos c *ℤ neg_ℤ (pos n) ≡ neg_ℤ (pos (c * n))
scaled_neg c zero = neg_zero (c * 0) (omega arith)
scaled_neg c (suc n) = refl

pub nearest-signed : (negative : Bool) (n d : ℕ) → 0 < d → nearest (pos 1000000 *ℤ with_sign negative n) d ≡ with_sign negative (nearest_size (1000000 * n) d)
nearest-signed false n d some = nearest-pos (1000000 * n) d
nearest-signed true n d some = ap (λ z. nearest z d) (scaled_neg 1000000 n) ∙ nearest_neg (1000000 * n) d some

pub abs_signed : (negative : Bool) (n : ℕ) → unsigned_abs (with_sign negative n) ≡ n
abs_signed false n = refl
abs_signed true zero = refl
abs_signed true (suc n) = refl

-- ---- exact quotients
sign_again : (negative : Bool) (n q : ℕ) → (n ≡ 0 → q ≡ 0) → with_sign (int_lt (with_sign negative n) (pos 0)) q ≡ with_sign negative q
sign_again false n q h =
    let test : int_lt (pos n) (pos 0) ≡ false = grind (arith, ints) in
    ap (λ b. with_sign b q) test
sign_again true zero q h = neg_zero q (h refl)
sign_again true (suc n) q h = refl

zero_over : (n d : ℕ) → 0 < d → n ≡ 0 → n / d ≡ 0
zero_over n d some h = rw h (omega arith)

pub quotient-exact : (negative : Bool) (n d : ℕ) → 0 < d → (n % d == 0) ≡ true → quotient (with_sign negative n) d ≡ Some (with_sign negative (n / d))
unfolding quotient
quotient-exact negative n d some whole = rw (abs_signed negative n, whole) (ap Some (sign_again negative n (n / d) (zero_over n d some)))

pub quotient-part : (negative : Bool) (n d : ℕ) → (n % d == 0) ≡ false → (let nothing : Option ℤ = None in quotient (with_sign negative n) d ≡ nothing)
unfolding quotient
quotient-part negative n d part = rw (abs_signed negative n, part) refl

-- ---- what is beyond 64 bits is no value
pub small_value : (kind : Kind) (z : ℤ) → IsValue kind z → unsigned_abs z < 2 ^ 64
small_value Boolean (pos n) is = omega (arith, ints, is.greatest)
small_value Boolean (negsuc n) is = absurd (omega (arith, ints, is.least))
small_value Nominal (pos n) is = omega (arith, ints, is.greatest)
small_value Nominal (negsuc n) is = omega (arith, ints, is.least)
small_value Ordinal (pos n) is = omega (arith, ints, is.greatest)
small_value Ordinal (negsuc n) is = omega (arith, ints, is.least)
small_value Scalar (pos n) is = omega (arith, ints, is.greatest)
small_value Scalar (negsuc n) is = omega (arith, ints, is.least)
small_value Directional (pos n) is = omega (arith, ints, is.greatest)
small_value Directional (negsuc n) is = absurd (omega (arith, ints, is.least))
small_value Ldd (pos n) is = omega (arith, ints, is.greatest)
small_value Ldd (negsuc n) is = absurd (omega (arith, ints, is.least))

le_test : (a b : ℤ) → int_le a b ≡ true → a ≤ℤ b
le_test a b h = grind (arith, ints)

test_le : (a b : ℤ) → a ≤ℤ b → int_le a b ≡ true
test_le a b h = grind (arith, ints)

and_parts : (a b : Bool) → (a && b) ≡ true → (a ≡ true) × (b ≡ true)
and_parts true b h = (refl, h)
and_parts false b h = absurd (cc)

pub value-from_test : (kind : Kind) (z : ℤ) → is_value kind z ≡ true → IsValue kind z
value-from_test kind z h =
    let parts = and_parts (int_le (least kind) z) (int_le z (greatest kind)) h in
    record { least = le_test (least kind) z parts.0; greatest = le_test z (greatest kind) parts.1 }

pub test-from_value : (kind : Kind) (z : ℤ) → IsValue kind z → is_value kind z ≡ true
test-from_value kind z is = rw (test_le (least kind) z is.least, test_le z (greatest kind) is.greatest) refl

beyond_case : (kind : Kind) (z : ℤ) (b : Bool) → is_value kind z ≡ b → 2 ^ 64 ≤ unsigned_abs z → (let none : Result Cell NumberFault = Err Range in none ≡ cond b (Ok (Val z)) none)
beyond_case kind z true test far = absurd (omega (arith, far, small_value kind z (value-from_test kind z test)))
beyond_case kind z false test far = refl

pub beyond-cell : (kind : Kind) (o : Option ℤ) → IsBeyond o → Err Range ≡ cell_taken kind o
beyond-cell kind None far = refl
beyond-cell kind (Some z) far = beyond_case kind z (is_value kind z) refl far

-- ---- the cell of a number in range
ok_case : (b : Bool) (z : ℤ) (cell : Cell) → (let over : Result Cell Over = Err (record {}) in cond b (Ok (Val z)) over ≡ Ok cell) → (let range : Result Cell NumberFault = Err Range in Ok cell ≡ cond b (Ok (Val z)) range)
ok_case true z cell h = ap Ok (cc)
ok_case false z cell h = absurd (cc)

pub cell-ok : (kind : Kind) (z : ℤ) (cell : Cell) → cell_of_number kind z ≡ Ok cell → Ok cell ≡ cell_taken kind (Some z)
cell-ok kind z cell h = ok_case (is_value kind z) z cell h

over_case : (b : Bool) (z : ℤ) (over : Over) → (let none : Result Cell Over = Err (record {}) in cond b (Ok (Val z)) none ≡ Err over) → (let range : Result Cell NumberFault = Err Range in range ≡ cond b (Ok (Val z)) range)
over_case true z over h = absurd (cc)
over_case false z over h = refl

pub cell-over : (kind : Kind) (z : ℤ) (over : Over) → cell_of_number kind z ≡ Err over → Err Range ≡ cell_taken kind (Some z)
cell-over kind z over h = over_case (is_value kind z) z over h

-- ---- what is beyond 64 bits before it is rounded, is so after
pub denominator_pos : (d : Decimal) → 0 < denominator d
unfolding denominator
denominator_pos d = power_pos (length d.fraction + fall_of d.exponent)

nearest_over : (n d q : ℕ) → 0 < d → IsNearestSize n d q → (q < n / d) ⊎ (n / d ≤ q) → n / d ≤ q
nearest_over n d q some is (inr over) = over
nearest_over n d q some is (inl under) =
    let more = mul-le-mul_left {m = q + 1} {n = n / d} d (omega arith) in
    let parts : n / d * d ≤ n = omega arith in
    absurd (omega (arith, more, parts, is.below))

pub nearest-ge : (n d : ℕ) → 0 < d → n / d ≤ nearest_size n d
nearest-ge n d some = nearest_over n d (nearest_size n d) some (nearest_size-IsNearestSize n d some) (cases_lt (nearest_size n d) (n / d))

quotient_case : (b negative : Bool) (n d : ℕ) → (n % d == 0) ≡ b → 0 < d → 2 ^ 64 ≤ n / d → IsBeyond (quotient (with_sign negative n) d)
quotient_case true negative n d whole some far = subst IsBeyond (sym (quotient-exact negative n d some whole)) (rw (abs_signed negative (n / d)) far)
quotient_case false negative n d part some far = subst IsBeyond (sym (quotient-part negative n d part)) tt

pub quotient-beyond : (negative : Bool) (n d : ℕ) → 0 < d → 2 ^ 64 ≤ n / d → IsBeyond (quotient (with_sign negative n) d)
quotient-beyond negative n d some far = quotient_case (n % d == 0) negative n d refl some far

-- ---- the value by its relation
pub signed_product : (n d : ℕ) → neg_ℤ (pos n) *ℤ pos d ≡ neg_ℤ (pos (n * d))
signed_product zero d = neg_zero (0 * d) (omega arith)
signed_product (suc n) d = refl

whole_parts : (n d : ℕ) → (n % d == 0) ≡ true → n / d * d ≡ n
whole_parts n d whole = omega (arith, eqb-true (n % d) 0 whole)

exact_case : (b : Bool) (q z : ℤ) → (let nothing : Option ℤ = None in cond b (Some q) nothing ≡ Some z) → (b ≡ true) × (q ≡ z)
exact_case true q z h = (refl, cc)
exact_case false q z h = absurd (cc)

quotient_back : (n : ℤ) (d : ℕ) (z : ℤ) → quotient n d ≡ Some z → IsQuotient n d z
unfolding quotient
quotient_back (pos n) d z h =
    let case = exact_case (n % d == 0) (with_sign (int_lt (pos n) (pos 0)) (n / d)) z h in
    let test : int_lt (pos n) (pos 0) ≡ false = grind (arith, ints) in
    ap (λ q. q *ℤ pos d) (sym case.1) ∙ ap (λ b. with_sign b (n / d) *ℤ pos d) test ∙ ap (λ m. pos m) (whole_parts n d case.0)
quotient_back (negsuc n) d z h =
    let case = exact_case (suc n % d == 0) (neg_ℤ (pos (suc n / d))) z h in
    ap (λ q. q *ℤ pos d) (sym case.1) ∙ signed_product (suc n / d) d ∙ ap (λ m. neg_ℤ (pos m)) (whole_parts (suc n) d case.0)

multiple : (a d : ℕ) → 0 < d → (a * d / d ≡ a) × ((a * d % d == 0) ≡ true)
multiple a d some = (mul-div_left a some, eq-eqb (a * d % d) 0 (mul-mod_left a d))

some_signed : (negative : Bool) (a d : ℕ) → 0 < d → quotient (with_sign negative (a * d)) d ≡ Some (with_sign negative a)
some_signed negative a d some =
    let parts = multiple a d some in
    quotient-exact negative (a * d) d some parts.1 ∙ ap (λ q. Some (with_sign negative q)) parts.0

quotient_again : (z : ℤ) (d : ℕ) → 0 < d → quotient (z *ℤ pos d) d ≡ Some z
quotient_again (pos a) d some = some_signed false a d some
quotient_again (negsuc a) d some = some_signed true (suc a) d some

some_value : (z y : ℤ) → Some z ≡ Some y → z ≡ y
some_value z y h = cc

near_back : (n : ℤ) (d : ℕ) (z : ℤ) → 0 < d → Some (nearest n d) ≡ Some z → IsNearest n (pos d) z
near_back n d z some h = subst (λ q. IsNearest n (pos d) q) (some_value (nearest n d) z h) (nearest-IsNearest n d some)

pub taken-from_value : (kind : Kind) (n : ℤ) (d : ℕ) (z : ℤ) → 0 < d → IsTaken kind n d z → number_taken kind n d ≡ Some z
taken-from_value Boolean n d z some is = ap (λ m. quotient m d) (sym is) ∙ quotient_again z d some
taken-from_value Nominal n d z some is = ap (λ m. quotient m d) (sym is) ∙ quotient_again z d some
taken-from_value Ordinal n d z some is = ap (λ m. quotient m d) (sym is) ∙ quotient_again z d some
taken-from_value Scalar n d z some is = ap Some (sym (nearest-unique (pos 1000000 *ℤ n) d z some is))
taken-from_value Directional n d z some is = ap Some (sym (nearest-unique (pos 1000000 *ℤ n) d z some is))
taken-from_value Ldd n d z some is = ap (λ m. quotient m d) (sym is) ∙ quotient_again z d some

pub value-from_taken : (kind : Kind) (n : ℤ) (d : ℕ) (z : ℤ) → 0 < d → number_taken kind n d ≡ Some z → IsTaken kind n d z
value-from_taken Boolean n d z some h = quotient_back n d z h
value-from_taken Nominal n d z some h = quotient_back n d z h
value-from_taken Ordinal n d z some h = quotient_back n d z h
value-from_taken Scalar n d z some h = near_back (pos 1000000 *ℤ n) d z some h
value-from_taken Directional n d z some h = near_back (pos 1000000 *ℤ n) d z some h
value-from_taken Ldd n d z some h = quotient_back n d z h

-- ---- the cell by the value
in_case : (b : Bool) (y z : ℤ) → (let range : Result Cell NumberFault = Err Range in cond b (Ok (Val y)) range ≡ Ok (Val z)) → (b ≡ true) × (y ≡ z)
in_case true y z h = (refl, cc)
in_case false y z h = absurd (cc)

cell_back : (kind : Kind) (o : Option ℤ) (z : ℤ) → cell_taken kind o ≡ Ok (Val z) → (o ≡ Some z) × IsValue kind z
cell_back kind None z h = absurd (cc)
cell_back kind (Some y) z h =
    let case = in_case (is_value kind y) y z h in
    (ap Some case.1, subst (IsValue kind) case.1 (value-from_test kind y case.0))

decimal_back : (kind : Kind) (o : Option Decimal) (z : ℤ) → cell_of_decimal kind o ≡ Ok (Val z) → (d : Decimal) × (o ≡ Some d) × HasValue kind d z
decimal_back kind None z h = absurd (cc)
decimal_back kind (Some d) z h =
    let case = cell_back kind (number_taken kind (numerator d) (denominator d)) z h in
    (d, refl, record { taken = value-from_taken kind (numerator d) (denominator d) z (denominator_pos d) case.0; value = case.1 })

pub value-from_cell : (kind : Kind) (text : List ℕ) (z : ℤ) → cell_read kind text ≡ Ok (Val z) → (d : Decimal) × IsDecimal text d × HasValue kind d z
unfolding cell_read
value-from_cell kind text z h =
    let (d, is, has) = decimal_back kind (decimal_of text) z h in
    (d, text-from_decimal text d is, has)

pub cell-from_value : (kind : Kind) (text : List ℕ) (d : Decimal) (z : ℤ) → IsDecimal text d → HasValue kind d z → cell_read kind text ≡ Ok (Val z)
unfolding cell_read
cell-from_value kind text d z is has =
    rw (decimal-from_text text d is, taken-from_value kind (numerator d) (denominator d) z (denominator_pos d) has.taken, test-from_value kind z has.value) refl

-- ---- the refusals
no_mv : (kind : Kind) (b : Bool) (y : ℤ) (cell : Cell) → (let range : Result Cell NumberFault = Err Range in cond b (Ok (Val y)) range ≡ Ok cell) → cell ≡ Val y
no_mv kind true y cell h = cc
no_mv kind false y cell h = absurd (cc)

is_val : (kind : Kind) (o : Option ℤ) (cell : Cell) → cell_taken kind o ≡ Ok cell → (z : ℤ) × (cell ≡ Val z)
is_val kind None cell h = absurd (cc)
is_val kind (Some y) cell h = (y, no_mv kind (is_value kind y) y cell h)

cell_is_val : (kind : Kind) (o : Option Decimal) (cell : Cell) → cell_of_decimal kind o ≡ Ok cell → (z : ℤ) × (cell ≡ Val z)
cell_is_val kind None cell h = absurd (cc)
cell_is_val kind (Some d) cell h = is_val kind (number_taken kind (numerator d) (denominator d)) cell h

ok_has_cell : (kind : Kind) (text : List ℕ) (cell : Cell) → cell_read kind text ≡ Ok cell → IsCellOf kind text cell
unfolding cell_read
ok_has_cell kind text cell h =
    let (z, val) = cell_is_val kind (decimal_of text) cell h in
    let (d, is, has) = value-from_cell kind text z (h ∙ ap Ok val) in
    (d, z, is, has, val)

pub cell-has_value : (kind : Kind) (text : List ℕ) (r : Result Cell NumberFault) → r ≡ cell_read kind text → IfOk r (IsCellOf kind text)
cell-has_value kind text (Ok cell) h = ok_has_cell kind text cell (sym h)
cell-has_value kind text (Err fault) h = tt

range_only : (kind : Kind) (o : Option ℤ) → cell_taken kind o ≡ Err BadNumber → ⊥
range_only kind None h = cc
range_only kind (Some y) h = fault_case (is_value kind y) y h
  where
    fault_case : (b : Bool) (y : ℤ) → (let range : Result Cell NumberFault = Err Range in cond b (Ok (Val y)) range ≡ Err BadNumber) → ⊥
    fault_case true y h = cc
    fault_case false y h = cc

no_decimal : (kind : Kind) (o : Option Decimal) (d : Decimal) → cell_of_decimal kind o ≡ Err BadNumber → o ≡ Some d → ⊥
no_decimal kind None d h some = cc
no_decimal kind (Some e) d h some = range_only kind (number_taken kind (numerator e) (denominator e)) h

pub bad-no_decimal : (kind : Kind) (text : List ℕ) → cell_read kind text ≡ Err BadNumber → ¬ (IsDecimalText text)
unfolding cell_read
bad-no_decimal kind text h (d, is) = no_decimal kind (decimal_of text) d h (decimal-from_text text d is)

none_case : (kind : Kind) (o : Option Decimal) → ((d : Decimal) → o ≡ Some d → ⊥) → cell_of_decimal kind o ≡ Err BadNumber
none_case kind None none = refl
none_case kind (Some d) none = absurd (none d refl)

pub no_decimal-bad : (kind : Kind) (text : List ℕ) → ¬ (IsDecimalText text) → cell_read kind text ≡ Err BadNumber
unfolding cell_read
no_decimal-bad kind text none = none_case kind (decimal_of text) (λ d h. none (d, text-from_decimal text d h))

range_decimal : (kind : Kind) (o : Option Decimal) → cell_of_decimal kind o ≡ Err Range → (d : Decimal) × (o ≡ Some d)
range_decimal kind None h = absurd (cc)
range_decimal kind (Some d) h = (d, refl)

ok_is_no_fault : (z : ℤ) (r : Result Cell NumberFault) → r ≡ Ok (Val z) → r ≡ Err Range → ⊥
ok_is_no_fault z r ok fault = cc

decimal_there : (kind : Kind) (text : List ℕ) → cell_read kind text ≡ Err Range → (d : Decimal) × (decimal_of text ≡ Some d)
unfolding cell_read
decimal_there kind text h = range_decimal kind (decimal_of text) h

pub range-no_value : (kind : Kind) (text : List ℕ) → cell_read kind text ≡ Err Range → HasNoValue kind text
range-no_value kind text h =
    let (d, some) = decimal_there kind text h in
    let is = text-from_decimal text d some in
    (d, is, λ (z, has). ok_is_no_fault z (cell_read kind text) (cell-from_value kind text d z is has) h)

value_case : (kind : Kind) (o : Option ℤ) → ((z : ℤ) → cell_taken kind o ≡ Ok (Val z) → ⊥) → cell_taken kind o ≡ Err Range
value_case kind None none = refl
value_case kind (Some y) none = test_case (is_value kind y) y none
  where
    test_case : (b : Bool) (y : ℤ) → ((z : ℤ) → (let range : Result Cell NumberFault = Err Range in cond b (Ok (Val y)) range ≡ Ok (Val z)) → ⊥) → (let range : Result Cell NumberFault = Err Range in cond b (Ok (Val y)) range ≡ range)
    test_case true y none = absurd (none y refl)
    test_case false y none = refl

cell_of_text : (kind : Kind) (text : List ℕ) (d : Decimal) → decimal_of text ≡ Some d → cell_read kind text ≡ cell_taken kind (number_taken kind (numerator d) (denominator d))
unfolding cell_read
cell_of_text kind text d h = rw h refl

same_value' : (text : List ℕ) (d e : Decimal) → decimal_of text ≡ Some d → decimal_of text ≡ Some e → d ≡ e
same_value' text d e p q = cc

pub no_value-range : (kind : Kind) (text : List ℕ) → HasNoValue kind text → cell_read kind text ≡ Err Range
no_value-range kind text (d, is, none) =
    let some = decimal-from_text text d is in
    let whole = cell_of_text kind text d some in
    whole ∙ value_case kind (number_taken kind (numerator d) (denominator d)) (λ z h.
    let (e, is_e, has) = value-from_cell kind text z (whole ∙ h) in
    let same = same_value' text e d (decimal-from_text text e is_e) some in
    none (z, subst (λ x. HasValue kind x z) same has))
