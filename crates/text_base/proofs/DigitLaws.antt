-- Digits, one after the other.
use Rattle.std.proofs.Common.{◌≡◌, ℕ, ◌+◌, ◌-◌, ◌*◌, ◌^◌, ◌<◌, ◌≤◌, Bool, true, ◌&&◌, List, length, get_or, take, lit<, sym, ap, ◌∙◌, add-one, arith}
use Rattle.std.specs.List.{list_all}
use Rattle.std.specs.Char.{is_ascii_digit, digit_value}
use Rattle.std.specs.Str.Parse.{digits_value}
use Rattle.std.proofs.Math.Nat.{pow-le-pow_right}
use Rattle.std.proofs.lemmas.List.Folds.{list_all_more}
use Rattle.std.proofs.lemmas.Int.Digits.{digits_value_more}
use Rattle.std.proofs.lemmas.Str.{digit_value_digit}
use Rattle.text_base.proofs.Callers.{digit_bounds}

-- a power of ten of at most so many zeros
pub below_power : (n i most : ℕ) → n < 10 ^ i → i ≤ most → n < 10 ^ most
below_power n i most below within =
    let p : 10 ^ i ≤ 10 ^ most = pow-le-pow_right {n = 10} (lit< tt) {i = i} {j = most} within in
    omega (arith, p)

-- digits with one more are digits
pub digits_more : (token : List ℕ) (i : ℕ) → i < length token → is_ascii_digit (get_or token i 0) ≡ true → list_all is_ascii_digit (take i token) ≡ true → list_all is_ascii_digit (take (i + 1) token) ≡ true
digits_more token i lt digit so_far = list_all_more is_ascii_digit token i 0 lt ∙ ap (λ (b : Bool). b && is_ascii_digit (get_or token i 0)) so_far ∙ digit

-- the value of digits with one more
pub value_more : (token : List ℕ) (i n : ℕ) → i < length token → is_ascii_digit (get_or token i 0) ≡ true → n ≡ digits_value 10 (take i token) → n * 10 + (get_or token i 0 - 48) ≡ digits_value 10 (take (i + 1) token)
value_more token i n lt digit so_far =
    let d : digit_value (get_or token i 0) ≡ get_or token i 0 - 48 = omega (arith, digit_value_digit (get_or token i 0) (digit_bounds (get_or token i 0) digit)) in
    ap (λ m. m * 10 + (get_or token i 0 - 48)) so_far
    ∙ ap (λ d. digits_value 10 (take i token) * 10 + d) (sym d)
    ∙ sym (digits_value_more 10 token i lt)

-- a number of so many digits with one more
pub power_more : (n i d : ℕ) → n < 10 ^ i → d ≤ 57 → n * 10 + (d - 48) < 10 ^ (i + 1)
power_more n i d below high = rw add-one (omega arith)
