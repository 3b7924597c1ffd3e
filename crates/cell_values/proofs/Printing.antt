-- The text of a number of millionths in a row of bytes.
use Rattle.std.proofs.Common.{◌≡◌, ℕ, zero, suc, ◌+◌, ◌-◌, ◌/◌, ◌%◌, ◌<◌, ◌≤◌, Bool, true, false, cond, List, [], ◌∷◌, ◌++◌, length, take, drop, set, decimal, ◌==◌, ℤ, pos, int_lt, unsigned_abs, Result, Ok, Err, OnOk, refl, sym, ap, ◌∙◌, arith}
use Rattle.std.proofs.lemmas.Fmt.{decimal_step, decimal_digit}
use Rattle.std.proofs.lemmas.Bool.{eqb-true}
use Rattle.std.proofs.lemmas.List.{drop-set}
use Rattle.cell_values.proofs.Cuts.{take_none, take_past}
use Rattle.cell_values.proofs.Digits.{take-append}
use Rattle.cell_values.specs.inside.Printed.{six_digits, before_trimmed, trimmed, fraction_text, millionths_text, signed}

-- a million more than a fraction has a one and its six digits
pub seven_digits : (part : ℕ) → part < 1000000 → decimal (1000000 + part) ≡ 49 ∷ six_digits part
seven_digits part low =
    let a = decimal_step (1000000 + part) (omega arith) (omega arith) in
    let b = decimal_step (100000 + part / 10) (omega arith) (omega arith) in
    let c = decimal_step (10000 + part / 100) (omega arith) (omega arith) in
    let d = decimal_step (1000 + part / 1000) (omega arith) (omega arith) in
    let e = decimal_step (100 + part / 10000) (omega arith) (omega arith) in
    let f = decimal_step (10 + part / 100000) (omega arith) (omega arith) in
    let g = decimal_digit 1 (omega arith) in
    let a1 : (1000000 + part) / 10 ≡ 100000 + part / 10 = omega arith in
    let b1 : (100000 + part / 10) / 10 ≡ 10000 + part / 100 = omega arith in
    let c1 : (10000 + part / 100) / 10 ≡ 1000 + part / 1000 = omega arith in
    let d1 : (1000 + part / 1000) / 10 ≡ 100 + part / 10000 = omega arith in
    let e1 : (100 + part / 10000) / 10 ≡ 10 + part / 100000 = omega arith in
    let f1 : (10 + part / 100000) / 10 ≡ 1 = omega arith in
    let a2 : 48 + (1000000 + part) % 10 ≡ 48 + part % 10 = omega arith in
    let b2 : 48 + (100000 + part / 10) % 10 ≡ 48 + part / 10 % 10 = omega arith in
    let c2 : 48 + (10000 + part / 100) % 10 ≡ 48 + part / 100 % 10 = omega arith in
    let d2 : 48 + (1000 + part / 1000) % 10 ≡ 48 + part / 1000 % 10 = omega arith in
    let e2 : 48 + (100 + part / 10000) % 10 ≡ 48 + part / 10000 % 10 = omega arith in
    let f2 : 48 + (10 + part / 100000) % 10 ≡ 48 + part / 100000 = omega arith in
    a ∙ rw (a1, a2) (rw (b, b1, b2) (rw (c, c1, c2) (rw (d, d1, d2) (rw (e, e1, e2) (rw (f, f1, f2) (rw g refl))))))

-- what is left of digits is their front
front_case : (d : ℕ) (rest ds : List ℕ) → take (length rest) ds ≡ rest → take (length (before_trimmed d rest)) (d ∷ ds) ≡ before_trimmed d rest
front_case d [] ds h = by_zero (d == 48)
  where
    by_zero : (b : Bool) → (let none : List ℕ = [] in take (length (cond b none (d ∷ []))) (d ∷ ds) ≡ cond b none (d ∷ []))
    by_zero true = refl
    by_zero false = ap (λ t. d ∷ t) (none ds)
      where
        none : (ds : List ℕ) → (let nothing : List ℕ = [] in take 0 ds ≡ nothing)
        none [] = refl
        none (x ∷ xs) = refl
front_case d (e ∷ es) ds h = ap (λ t. d ∷ t) h

pub trimmed_front : (ds : List ℕ) → take (length (trimmed ds)) ds ≡ trimmed ds
trimmed_front [] = refl
trimmed_front (d ∷ ds) = front_case d (trimmed ds) ds (trimmed_front ds)

pub trimmed_le : (ds : List ℕ) → length (trimmed ds) ≤ length ds
trimmed_le [] = omega arith
trimmed_le (d ∷ ds) = le_case d (trimmed ds) (length ds) (trimmed_le ds)
  where
    le_case : (d : ℕ) (rest : List ℕ) (n : ℕ) → length rest ≤ n → length (before_trimmed d rest) ≤ suc n
    le_case d [] n h = by_zero (d == 48)
      where
        by_zero : (b : Bool) → (let none : List ℕ = [] in length (cond b none (d ∷ [])) ≤ suc n)
        by_zero true = omega arith
        by_zero false = omega arith
    le_case d (e ∷ es) n h = omega (arith, h)

-- ---- the row of bytes
drop_next : (n : ℕ) (xs : List ℕ) (d : ℕ) (ds : List ℕ) → drop n xs ≡ d ∷ ds → drop (n + 1) xs ≡ ds
drop_next zero [] d ds h = absurd (cc (h, (take_none []).1))
drop_next zero (x ∷ xs) d ds h = (take_none xs).1 ∙ (cc)
drop_next (suc n) [] d ds h = absurd (cc)
drop_next (suc n) (x ∷ xs) d ds h =
    let e : suc n + 1 ≡ suc (n + 1) = omega arith in
    ap (λ k. drop k (x ∷ xs)) e ∙ drop_next n xs d ds h

-- the point stands in place of the million
pub point_set : (buf text : List ℕ) (start part : ℕ) → part < 1000000 → 28 ≤ length buf → start + length (decimal (1000000 + part)) ≡ 28 → drop start buf ≡ decimal (1000000 + part) ++ drop 28 text → drop 21 (set buf 21 46) ≡ (46 ∷ six_digits part) ++ drop 28 text
point_set buf text start part low long place written =
    let seven = seven_digits part low in
    let at : start ≡ 21 = omega (arith, ap length seven, place) in
    let all : drop 21 buf ≡ 49 ∷ (six_digits part ++ drop 28 text) = ap (λ k. drop k buf) (sym at) ∙ written ∙ ap (λ t. t ++ drop 28 text) seven in
    drop-set buf 21 46 (omega (arith, long)) ∙ ap (λ t. 46 ∷ t) (drop_next 21 buf 49 (six_digits part ++ drop 28 text) all)

pub signed_length : (negative : Bool) (ds : List ℕ) → negative ≡ true → length (signed negative ds) ≡ length ds + 1
signed_length true ds h = omega arith
signed_length false ds h = absurd (cc)

pub signed_is : (negative : Bool) (ds : List ℕ) → negative ≡ true → signed negative ds ≡ 45 ∷ ds
signed_is true ds h = refl
signed_is false ds h = absurd (cc)

pub row_is : (W : List ℕ) (part start end : ℕ) (before after : List ℕ) → start + length W ≡ 21 → 21 ≤ end → take (end - 21) (drop 21 before) ≡ fraction_text part → drop start after ≡ W ++ drop 21 before → take (end - start) (drop start after) ≡ W ++ fraction_text part
row_is W part start end before after place past fraction written =
    let n : end - start - length W ≡ end - 21 = omega (arith, place, past) in
    let over = take-append (end - start) W (drop 21 before) in
    let whole = (take_past (end - start) W (omega (arith, place, past))).0 in
    ap (take (end - start)) written ∙ over ∙ ap (λ t. t ++ take (end - start - length W) (drop 21 before)) whole ∙ ap (λ k. W ++ take k (drop 21 before)) n ∙ ap (λ t. W ++ t) fraction

by_sign : (b : Bool) (W F : List ℕ) → signed b W ++ F ≡ cond b (45 ∷ (W ++ F)) (W ++ F)
by_sign true W F = refl
by_sign false W F = refl

pub millionths_is : (negative : Bool) (z : ℤ) → negative ≡ int_lt z (pos 0) → signed negative (decimal (unsigned_abs z / 1000000)) ++ fraction_text (unsigned_abs z % 1000000) ≡ millionths_text z
millionths_is negative z h =
    let W = decimal (unsigned_abs z / 1000000) in
    let F = fraction_text (unsigned_abs z % 1000000) in
    ap (λ b. signed b W ++ F) h ∙ by_sign (int_lt z (pos 0)) W F

point_kept : (t : List ℕ) → before_trimmed 46 t ≡ 46 ∷ t
point_kept [] = refl
point_kept (d ∷ ds) = refl

pub fraction_is : (part : ℕ) → (part ≡ 0 → ⊥) → trimmed (46 ∷ six_digits part) ≡ fraction_text part
fraction_is part some = point_kept (trimmed (six_digits part)) ∙ by_zero (part == 0) refl
  where
    by_zero : (b : Bool) → (part == 0) ≡ b → 46 ∷ trimmed (six_digits part) ≡ cond b [] (46 ∷ trimmed (six_digits part))
    by_zero true h = absurd (some (eqb-true part 0 h))
    by_zero false h = refl

pub appended : {T E : Type 0} → (r : Result T E) (new old s t : List ℕ) → OnOk r (new ≡ old ++ s) → s ≡ t → OnOk r (new ≡ old ++ t)
appended (Ok x) new old s t h e = h ∙ ap (λ u. old ++ u) e
appended (Err x) new old s t h e = tt
