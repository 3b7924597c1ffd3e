-- The zeros at the end of digits.
use Rattle.std.proofs.Common.{◌≡◌, ◌≢◌, ℕ, Bool, true, false, cond, List, [], ◌∷◌, ◌++◌, refl, sym, ap, ◌∙◌}
use Rattle.std.specs.Prelude.{◌==◌}
use Rattle.std.proofs.lemmas.Bool.{eqb-true}
use Rattle.cell_values.specs.inside.Printed.{before_trimmed, trimmed}

-- a zero at the end is left out
trimmed-zero : (xs : List ℕ) → trimmed (xs ++ 48 ∷ []) ≡ trimmed xs
trimmed-zero [] = refl
trimmed-zero (x ∷ xs) = ap (before_trimmed x) (trimmed-zero xs)

no_zero : (b : Bool) (d : ℕ) → (b ≡ true → d ≡ 48) → d ≢ 48 → cond b [] (d ∷ []) ≡ d ∷ []
no_zero true d decides apart = absurd (apart (decides refl))
no_zero false d decides apart = refl

kept : (x : ℕ) (xs : List ℕ) (d : ℕ) → before_trimmed x (xs ++ d ∷ []) ≡ x ∷ (xs ++ d ∷ [])
kept x [] d = refl
kept x (y ∷ ys) d = refl

-- another digit at the end stays, and all before it
trimmed-digit : (xs : List ℕ) (d : ℕ) → d ≢ 48 → trimmed (xs ++ d ∷ []) ≡ xs ++ d ∷ []
trimmed-digit [] d apart = no_zero (d == 48) d (eqb-true d 48) apart
trimmed-digit (x ∷ xs) d apart = ap (before_trimmed x) (trimmed-digit xs d apart) ∙ kept x xs d

pub last_dropped : (rest front : List ℕ) (d : ℕ) → rest ≡ front ++ d ∷ [] → d ≡ 48 → trimmed front ≡ trimmed rest
last_dropped rest front d parts zero_digit = sym (ap trimmed parts ∙ ap (λ e. trimmed (front ++ e ∷ [])) zero_digit ∙ trimmed-zero front)

pub last_kept : (rest front : List ℕ) (d : ℕ) → rest ≡ front ++ d ∷ [] → d ≢ 48 → trimmed rest ≡ rest
last_kept rest front d parts apart = ap trimmed parts ∙ trimmed-digit front d apart ∙ sym parts
