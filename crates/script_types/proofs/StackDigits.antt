-- The digits of steps, and which steps' digits begin so.
use Rattle.std.proofs.Common.{◌≡◌, ◌+◌, ◌*◌, ◌/◌, ◌%◌, ◌^◌, ◌<◌, ◌≤◌, ℕ, zero, suc, Bool, true, false, List, [], ◌∷◌, ◌++◌, length, Some, None, refl, sym, ◌∙◌, ap, append_assoc, append-nil, subst, if◌then◌else◌, arith}
use Rattle.std.specs.Prelude.{◌&&◌, nat_le, nat_lt}
use Rattle.std.specs.Char.{digit_value, is_ascii_digit}
use Rattle.std.specs.List.{list_all}
use Rattle.std.specs.Str.Parse.{digits_value, digits_value_after}
use Rattle.std.proofs.Math.Nat.{div-div-eq-div-mul, div-eq_of_lt, div-mul-le_self, div-one, mod-eq_of_lt, mod-one, mul_assoc, mul-div_cancel, one-le-mul, one-le-pow, mod-le, mul-le-mul_right, pow-suc, pow-succ'}
use Rattle.std.proofs.lemmas.Bool.{and_from, and_parts, le-leb, leb-true, lt-ltb, ltb-false, ltb-true}
use Rattle.std.proofs.lemmas.Int.Digits.{digits_value_push}
use Rattle.std.proofs.lemmas.List.{length-append}
use Rattle.std.proofs.lemmas.List.Folds.{list_all-append}
use Rattle.std.proofs.lemmas.Nat.{div-add-mod', div-mul-add, mod-mul-add, mod_below}
use Rattle.std.proofs.lemmas.Str.{digit_value_digit}
use Rattle.text_base.proofs.Callers.{bool_cases, some_is}
use Rattle.text_base.specs.Numbers.{is_whole_number}
use Rattle.map_meaning.specs.StackNames.{in_digits}
use Rattle.script_types.specs.inside.StackFiles.{first_step, begun_step}

-- ---- digits

-- so many digits are written
pub digits-length : (n x : ℕ) → length (in_digits n x) ≡ n
digits-length zero x = refl
digits-length (suc n) x =
    let e = digits-length n (x / 10) in
    let l = length-append (in_digits n (x / 10)) ((x % 10 + 48) ∷ []) in
    omega (arith, e, l)

-- the front digits are those of the number without its last ones
pub digits-split : (m n x : ℕ) → in_digits (n + m) x ≡ in_digits n (x / 10 ^ m) ++ in_digits m x
digits-split zero n x =
    let e : n + 0 ≡ n = omega arith in
    ap (λ k. in_digits k x) e ∙ ap (in_digits n) (sym (div-one x)) ∙ sym (append-nil (in_digits n (x / 1)))
digits-split (suc m) n x =
    let e : n + suc m ≡ suc (n + m) = omega arith in
    ap (λ k. in_digits k x) e
    ∙ ap (λ ds. ds ++ (x % 10 + 48) ∷ []) (digits-split m n (x / 10))
    ∙ append_assoc (in_digits n (x / 10 / 10 ^ m)) (in_digits m (x / 10)) ((x % 10 + 48) ∷ [])
    ∙ ap (λ q. in_digits n q ++ in_digits (suc m) x) (div-div-eq-div-mul x 10 (10 ^ m) ∙ ap (λ k. x / k) (sym (pow-succ' 10 m)))

digit-of : (d : ℕ) → d < 10 → digit_value (d + 48) ≡ d
digit-of d h = let e = digit_value_digit (d + 48) (omega arith, omega arith) in omega (arith, e)

digit-test : (d : ℕ) → d < 10 → is_ascii_digit (d + 48) ≡ true
digit-test d h = and_from _ _ (le-leb 48 (d + 48) (omega arith)) (le-leb (d + 48) 57 (omega arith))

digit-back : (c : ℕ) → is_ascii_digit c ≡ true → (digit_value c < 10) × (digit_value c + 48 ≡ c)
digit-back c h =
    let p = and_parts _ _ h in
    let low = leb-true 48 c p.0 in
    let high = leb-true c 57 p.1 in
    let e = digit_value_digit c (low, high) in
    (omega (arith, e, high), e)

-- they are digits
pub digits-all : (n x : ℕ) → list_all is_ascii_digit (in_digits n x) ≡ true
digits-all zero x = refl
digits-all (suc n) x =
    list_all-append is_ascii_digit (in_digits n (x / 10)) ((x % 10 + 48) ∷ [])
    ∙ and_from _ _ (digits-all n (x / 10)) (and_from _ _ (digit-test (x % 10) (mod_below x 10 (omega arith))) refl)

next-remainder : (x k : ℕ) → 0 < k → (x / 10 % k) * 10 + x % 10 ≡ x % (k * 10)
next-remainder x k h =
    let q = x / 10 in
    let r = q % k in
    let low = mod_below x 10 (omega arith) in
    let high = mod_below q k h in
    let a = div-add-mod' x 10 in
    let b = div-add-mod' q k in
    let c = mul_assoc (q / k) k 10 in
    let whole : (q / k) * (k * 10) + (r * 10 + x % 10) ≡ x = omega (arith, a, b, c) in
    let rest : r * 10 + x % 10 < k * 10 = omega (arith, low, high) in
    sym (mod-mul-add (q / k) (k * 10) (r * 10 + x % 10) rest) ∙ ap (λ y. y % (k * 10)) whole

-- their value is what is left of the number
pub digits-value : (n x : ℕ) → digits_value 10 (in_digits n x) ≡ x % 10 ^ n
digits-value zero x = sym (mod-one x)
digits-value (suc n) x =
    digits_value_push 10 (in_digits n (x / 10)) (x % 10 + 48)
    ∙ ap (λ v. v * 10 + digit_value (x % 10 + 48)) (digits-value n (x / 10))
    ∙ ap (λ d. (x / 10 % 10 ^ n) * 10 + d) (digit-of (x % 10) (mod_below x 10 (omega arith)))
    ∙ next-remainder x (10 ^ n) (one-le-pow n 10 (omega arith))
    ∙ ap (λ k. x % k) (sym (pow-suc 10 n))

next-digit : (k a d : ℕ) → is_ascii_digit d ≡ true → in_digits (suc k) (a * 10 + digit_value d) ≡ in_digits k a ++ d ∷ []
next-digit k a d h =
    let b = digit-back d h in
    ap (λ q. in_digits k q ++ ((a * 10 + digit_value d) % 10 + 48) ∷ []) (div-mul-add a 10 (digit_value d) b.0)
    ∙ ap (λ r. in_digits k a ++ (r + 48) ∷ []) (mod-mul-add a 10 (digit_value d) b.0)
    ∙ ap (λ c. in_digits k a ++ c ∷ []) b.1

digits-behind : (ds : List ℕ) (k a : ℕ) → list_all is_ascii_digit ds ≡ true → in_digits (k + length ds) (digits_value_after 10 a ds) ≡ in_digits k a ++ ds
digits-behind [] k a h = let e : k + 0 ≡ k = omega arith in ap (λ n. in_digits n a) e ∙ sym (append-nil (in_digits k a))
digits-behind (d ∷ ds) k a h =
    let p = and_parts (is_ascii_digit d) (list_all is_ascii_digit ds) h in
    let v = digit_value d in
    let e : k + length (d ∷ ds) ≡ suc k + length ds = omega arith in
    ap (λ n. in_digits n (digits_value_after 10 (a * 10 + v) ds)) e
    ∙ digits-behind ds (suc k) (a * 10 + v) p.1
    ∙ ap (λ xs. xs ++ ds) (next-digit k a d p.0)
    ∙ append_assoc (in_digits k a) (d ∷ []) ds

-- digits are those of their value
pub digits-back : (ds : List ℕ) → list_all is_ascii_digit ds ≡ true → in_digits (length ds) (digits_value 10 ds) ≡ ds
digits-back ds h = let e : length ds ≡ 0 + length ds = omega arith in ap (λ n. in_digits n (digits_value 10 ds)) e ∙ digits-behind ds 0 0 h

-- one above the greatest number has the digits of zero
digits-over : (n : ℕ) → in_digits n (10 ^ n) ≡ in_digits n 0
digits-over zero = refl
digits-over (suc n) =
    let p : 10 ^ suc n ≡ 10 ^ n * 10 + 0 = pow-suc 10 n ∙ (let e : 10 ^ n * 10 ≡ 10 ^ n * 10 + 0 = omega arith in e) in
    ap (in_digits (suc n)) p
    ∙ ap (λ q. in_digits n q ++ ((10 ^ n * 10 + 0) % 10 + 48) ∷ []) (div-mul-add (10 ^ n) 10 0 (omega arith))
    ∙ ap (λ r. in_digits n (10 ^ n) ++ (r + 48) ∷ []) (mod-mul-add (10 ^ n) 10 0 (omega arith))
    ∙ ap (λ ds. ds ++ 48 ∷ []) (digits-over n)

-- ---- the first step that begins so

-- a step that was found
abbrev IsFound : List ℕ → ℕ → ℕ → Type 0
IsFound r m step = (1 ≤ step) × (in_digits (length r) (step / 10 ^ m) ≡ r)

above-none : (r : List ℕ) (v m : ℕ) → 0 < v → in_digits (length r) v ≡ r → IsFound r m (v * 10 ^ m)
above-none r v m h back =
    let p = one-le-pow m 10 (omega arith) in
    (one-le-mul h p, ap (in_digits (length r)) (mul-div_cancel v p) ∙ back)

more-than-one : (m : ℕ) → 0 < m → 1 < 10 ^ m
more-than-one zero h = absurd (omega arith)
more-than-one (suc m) h = let e = pow-suc 10 m in let p = one-le-pow m 10 (omega arith) in omega (arith, e, p)

step-found : (r : List ℕ) (v m step : ℕ) (some any : Bool) → nat_lt 0 v ≡ some → nat_lt 0 m ≡ any → in_digits (length r) v ≡ r → (if some then v * 10 ^ m else (if any then 1 else 10 ^ length r)) ≡ step → IsFound r m step
step-found r v m step true any hv hm back h = let P : ℕ → Type 0 = IsFound r m in subst P h (above-none r v m (ltb-true 0 v hv) back)
step-found r v m step false true hv hm back h =
    let P : ℕ → Type 0 = IsFound r m in
    let low = ltb-false 0 v hv in
    let none : 0 ≡ v = omega (arith, low) in
    subst P h (omega arith, ap (in_digits (length r)) (div-eq_of_lt (more-than-one m (ltb-true 0 m hm)) ∙ none) ∙ back)
step-found r v m step false false hv hm back h =
    let P : ℕ → Type 0 = IsFound r m in
    let low = ltb-false 0 v hv in
    let none : 0 ≡ v = omega (arith, low) in
    let here = ltb-false 0 m hm in
    let last : m ≡ 0 = omega (arith, here) in
    let n = length r in
    subst P h (one-le-pow n 10 (omega arith), ap (λ k. in_digits n (10 ^ n / 10 ^ k)) last ∙ ap (in_digits n) (div-one (10 ^ n)) ∙ digits-over n ∙ ap (in_digits n) none ∙ back)

abbrev is-whole : List ℕ → Bool
is-whole r = is_whole_number (length r) r

whole-is : (r : List ℕ) → is-whole r ≡ true → list_all is_ascii_digit r ≡ true
whole-is r h = (and_parts (nat_lt 0 (length r) && nat_le (length r) (length r)) (list_all is_ascii_digit r) h).1

whole-from : (r : List ℕ) → 0 < length r → list_all is_ascii_digit r ≡ true → is-whole r ≡ true
whole-from r h digits =
    let some = nat_lt 0 (length r) in
    let short = nat_le (length r) (length r) in
    and_from (some && short) (list_all is_ascii_digit r) (and_from some short (lt-ltb 0 (length r) h) (le-leb (length r) (length r) (omega arith))) digits

-- the first step that begins with these digits does begin so
pub first-step-is : (r : List ℕ) (m step : ℕ) → first_step r m ≡ Some step → IsFound r m step
first-step-is [] m step h = let P : ℕ → Type 0 = IsFound [] m in subst P (some_is 1 step h) (omega arith, refl)
first-step-is (d ∷ ds) m step h = bool_cases (is-whole (d ∷ ds))
    (λ e. let r = d ∷ ds in let v = digits_value 10 r in step-found r v m step (nat_lt 0 v) (nat_lt 0 m) refl refl (digits-back r (whole-is r e)) (some_is _ step (sym (ap (λ b. begun_step (length r) m (if b then Some v else None)) e) ∙ h)))
    (λ e. let none : None ≡ Some step = sym (ap (λ b. begun_step (length (d ∷ ds)) m (if b then Some (digits_value 10 (d ∷ ds)) else None)) e) ∙ h in cc)

-- a step that is no later than another
abbrev IsNoLater : List ℕ → ℕ → ℕ → Type 0
IsNoLater r m s = (step : ℕ) × (first_step r m ≡ Some step) × (step ≤ s)

later-by : (r : List ℕ) (v m s : ℕ) (some any : Bool) → nat_lt 0 v ≡ some → nat_lt 0 m ≡ any → v ≡ s / 10 ^ m % 10 ^ length r → 1 ≤ s → (if some then v * 10 ^ m else (if any then 1 else 10 ^ length r)) ≤ s
later-by r v m s true any hv hm e h =
    let k = 10 ^ m in
    let p = one-le-pow (length r) 10 (omega arith) in
    let below = mod-le (s / k) (10 ^ length r) in
    let part : v ≤ s / k = omega (arith, e, below) in
    let whole = mul-le-mul_right k part in
    let rest = div-mul-le_self s k in
    omega (arith, whole, rest)
later-by r v m s false true hv hm e h = h
later-by r v m s false false hv hm e h =
    let n = length r in
    let low = ltb-false 0 v hv in
    let here = ltb-false 0 m hm in
    let last : m ≡ 0 = omega (arith, here) in
    let none : s % 10 ^ n ≡ 0 = sym (ap (λ q. q % 10 ^ n) (ap (λ k. s / 10 ^ k) last ∙ div-one s)) ∙ sym e ∙ (let z : v ≡ 0 = omega (arith, low) in z) in
    bool_cases (nat_lt s (10 ^ n))
    (λ b. absurd (let same = mod-eq_of_lt (ltb-true s (10 ^ n) b) in omega (arith, same, none, h)))
    (λ b. ltb-false s (10 ^ n) b)

-- and it is the first
pub first-step-least : (r : List ℕ) (m s : ℕ) → r ≡ in_digits (length r) (s / 10 ^ m) → 1 ≤ s → IsNoLater r m s
first-step-least [] m s e h = (1, refl, h)
first-step-least (d ∷ ds) m s e h =
    let r = d ∷ ds in
    let n = length r in
    let v = digits_value 10 r in
    let digits : list_all is_ascii_digit r ≡ true = ap (list_all is_ascii_digit) e ∙ digits-all n (s / 10 ^ m) in
    let whole : is-whole r ≡ true = whole-from r (omega arith) digits in
    let value : v ≡ s / 10 ^ m % 10 ^ n = ap (digits_value 10) e ∙ digits-value n (s / 10 ^ m) in
    (_, ap (λ b. begun_step n m (if b then Some v else None)) whole, later-by r v m s (nat_lt 0 v) (nat_lt 0 m) refl refl value h)
