-- The token at the front of a text is one, no longer one stands there, and bytes are one token at most.
use Rattle.std.proofs.Common.{◌≡◌, ℕ, zero, suc, ◌+◌, ◌<◌, ◌≤◌, Bool, true, false, not, List, [], ◌∷◌, ◌++◌, length, take, drop, take_while, Option, Some, None, refl, sym, ◌∙◌, ap, subst, arith, inl, inr}
use Rattle.std.specs.Prelude.{◌==◌, ◌||◌, if◌then◌else◌}
use Rattle.std.specs.Char.{is_ascii_digit}
use Rattle.std.specs.List.{list_all, prefix_len}
use Rattle.std.proofs.lemmas.List.{take-append-drop}
use Rattle.std.proofs.lemmas.List.Folds.{length-prefix_len}
use Rattle.std.proofs.Math.Seq.{take-append_seam}
use Rattle.std.proofs.lemmas.Bool.Decides.{nat_tests}
use Rattle.text_base.specs.Bytes.{is_blank, is_letter, is_word_byte, is_file_byte, point}
use Rattle.text_base.proofs.Callers.{some_is, bool_cases, option_cases}
use Rattle.script_syntax.specs.declared.token.Token.{Token}
use Rattle.script_syntax.specs.declared.token.Token.TheVariants as tokens
use Rattle.script_syntax.specs.declared.place.Mode.{Mode}
use Rattle.script_syntax.specs.declared.place.Mode.TheVariants.{Bindings, BoundFile, AreaFile, Sections}
use Rattle.script_syntax.specs.declared.lexer.Found.{Found}
use Rattle.script_syntax.specs.Spelling.{word_token, number_text, fraction_bytes, fraction_of, power_text, IsNumber, beside, one_byte_symbols, one_byte_symbol, equal_symbols, two_byte_symbol, symbol_token, is_run, begins_run, run_token, SpellsPlain, SpellsFile, Spells}
use Rattle.script_syntax.specs.inside.Scanning.{digits_len, after_digits, with_point, mantissa_len, number_len, found, symbol_of_len, or_else, symbol_at, number_of_len, plain_at, file_at, token_at}
use Rattle.script_syntax.proofs.RunLaws.{both, and_is, cond_true, cond_false, prefix_len-all, list_all-run}
use Rattle.script_syntax.proofs.NumberLaws.{number_longest, number_sound}

-- ---- first bytes

-- a digit or a point, with which a number begins
is_start : ℕ → Bool
is_start b = is_ascii_digit b || (b == point)

no_true : (b : Bool) → (b ≡ true → ⊥) → b ≡ false
no_true true h = absurd (h refl)
no_true false h = refl

true_false : (b : Bool) → b ≡ true → b ≡ false → ⊥
true_false b t f = cc

not_beside : (p : ℕ → Bool) (b c : ℕ) → p b ≡ true → not (p c) ≡ true → (b == c) ≡ false
not_beside p b c h n = no_true (b == c) (λ e. let same : b ≡ c = grind (arith, nat_tests) in both_ways (p c) (ap p (sym same) ∙ h) n)
  where
    both_ways : (t : Bool) → t ≡ true → not t ≡ true → ⊥
    both_ways true a b = cc
    both_ways false a b = cc

-- a table has no token beside a byte of another sort
beside_none : (p : ℕ → Bool) (b : ℕ) (rows : List (ℕ × Token)) → p b ≡ true → list_all (λ row. not (p row.0)) rows ≡ true → beside b rows ≡ None
beside_none p b [] h n = refl
beside_none p b (row ∷ rows) h n =
    let m = both (not (p row.0)) (list_all (λ r. not (p r.0)) rows) n in
    cond_false (b == row.0) (Some row.1) (beside b rows) (not_beside p b row.0 h m.0) ∙ beside_none p b rows h m.1

two_none : (p : ℕ → Bool) (a b : ℕ) → p a ≡ true → list_all (λ row. not (p row.0)) equal_symbols ≡ true → two_byte_symbol a b ≡ None
two_none p a b h n = by_equal (b == 61) a b refl (beside_none p a equal_symbols h n)
  where
    by_equal : (t : Bool) (a b : ℕ) → (b == 61) ≡ t → beside a equal_symbols ≡ None → (if b == 61 then beside a equal_symbols else None) ≡ None
    by_equal true a b t e = cond_true (b == 61) (beside a equal_symbols) None t ∙ e
    by_equal false a b t e = cond_false (b == 61) (beside a equal_symbols) None t

-- no symbol begins with a byte of another sort
symbol_first : (p : ℕ → Bool) (a : ℕ) (w : List ℕ) (t : Token) → list_all (λ row. not (p row.0)) one_byte_symbols ≡ true → list_all (λ row. not (p row.0)) equal_symbols ≡ true → symbol_token (a ∷ w) ≡ Some t → p a ≡ false
symbol_first p a [] t n m e = no_true (p a) (λ h. let none = beside_none p a one_byte_symbols h n in cc)
symbol_first p a (b ∷ []) t n m e = no_true (p a) (λ h. let none = two_none p a b h m in cc)
symbol_first p a (b ∷ c ∷ w) t n m e = absurd cc

symbol_no_letter : (a : ℕ) (w : List ℕ) (t : Token) → symbol_token (a ∷ w) ≡ Some t → is_letter a ≡ false
symbol_no_letter a w t e = symbol_first is_letter a w t refl refl e

symbol_no_start : (a : ℕ) (w : List ℕ) (t : Token) → symbol_token (a ∷ w) ≡ Some t → is_start a ≡ false
unfolding is_start
symbol_no_start a w t e = symbol_first (λ b. is_ascii_digit b || (b == point)) a w t refl refl e

digit_no_letter : (b : ℕ) → is_ascii_digit b ≡ true → is_letter b ≡ false
digit_no_letter b h = grind (arith, nat_tests)

digit_start : (b : ℕ) → is_ascii_digit b ≡ true → is_start b ≡ true
unfolding is_start
digit_start b h = ap (λ (t : Bool). t || (b == point)) h

point_start : is_start point ≡ true
unfolding is_start
point_start = refl

-- what a number begins with
record IsStart (b : ℕ) : Type 0 where
  start : is_start b ≡ true
  no_letter : is_letter b ≡ false

start_digit : (b c : ℕ) → is_ascii_digit b ≡ true → b ≡ c → IsStart c
start_digit b c h e = subst IsStart e (record { start = digit_start b h; no_letter = digit_no_letter b h })

start_point : (c : ℕ) → point ≡ c → IsStart c
start_point c e = subst IsStart e (record { start = point_start; no_letter = refl })

number_first : (b : ℕ) (bs : List ℕ) → IsNumber (b ∷ bs) → IsStart b
number_first b bs n = by_whole n.form.whole n.form.fraction (power_text n.form.power) b bs n.is.whole n.is.some n.text
  where
    by_whole : (whole : List ℕ) (fraction : Option (List ℕ)) (power : List ℕ) (b : ℕ) (bs : List ℕ) → list_all is_ascii_digit whole ≡ true → 0 < length whole + length (fraction_of fraction) → (whole ++ fraction_bytes fraction) ++ power ≡ b ∷ bs → IsStart b
    by_whole [] None power b bs w some e = absurd (omega arith)
    by_whole [] (Some ds) power b bs w some e = start_point b cc
    by_whole (d ∷ ds) fraction power b bs w some e = start_digit d b (both (is_ascii_digit d) (list_all is_ascii_digit ds) w).0 cc

no_empty_number : IsNumber [] → ⊥
no_empty_number n = by_whole n.form.whole n.form.fraction (power_text n.form.power) n.is.some n.text
  where
    by_whole : (whole : List ℕ) (fraction : Option (List ℕ)) (power : List ℕ) → 0 < length whole + length (fraction_of fraction) → (whole ++ fraction_bytes fraction) ++ power ≡ [] → ⊥
    by_whole [] None power some e = omega arith
    by_whole [] (Some ds) power some e = cc
    by_whole (d ∷ ds) fraction power some e = cc

-- no number stands where none begins
start_number : (b : ℕ) (bs : List ℕ) → is_start b ≡ false → number_len (b ∷ bs) ≡ 0
unfolding number_len mantissa_len is_start
start_number b bs h =
    let d : is_ascii_digit b ≡ false = by_first (is_ascii_digit b) (b == point) h in
    let p : (b == point) ≡ false = by_second (is_ascii_digit b) (b == point) h in
    let none : digits_len (b ∷ bs) ≡ 0 = cond_false (is_ascii_digit b) (1 + digits_len bs) 0 d in
    let after : after_digits (digits_len (b ∷ bs)) (drop (digits_len (b ∷ bs)) (b ∷ bs)) ≡ 0 =
    ap (λ (n : ℕ). after_digits n (drop n (b ∷ bs))) none ∙ cond_false (b == point) (with_point 0 (digits_len bs)) 0 p in
    let zero_len : (mantissa_len (b ∷ bs) == 0) ≡ true = ap (λ (n : ℕ). n == 0) after in
    cond_true (mantissa_len (b ∷ bs) == 0) 0 _ zero_len
  where
    by_first : (x y : Bool) → (x || y) ≡ false → x ≡ false
    by_first true y h = absurd cc
    by_first false y h = refl

    by_second : (x y : Bool) → (x || y) ≡ false → y ≡ false
    by_second true y h = absurd cc
    by_second false y h = h

-- ---- bytes are one token at most

plain_one : (w : List ℕ) (t u : Token) → SpellsPlain w t → SpellsPlain w u → t ≡ u
plain_one [] t u (inl a) b = absurd (let e = a.0 in cc)
plain_one [] t u (inr (inl a)) b = absurd (no_empty_number a.0)
plain_one [] t u (inr (inr a)) b = absurd cc
plain_one (c ∷ w) t u (inl a) (inl b) = a.1 ∙ sym b.1
plain_one (c ∷ w) t u (inl a) (inr (inl b)) = absurd (true_false (is_letter c) (both (is_letter c) (list_all is_word_byte w) a.0).0 (number_first c w b.0).no_letter)
plain_one (c ∷ w) t u (inl a) (inr (inr b)) = absurd (true_false (is_letter c) (both (is_letter c) (list_all is_word_byte w) a.0).0 (symbol_no_letter c w u b))
plain_one (c ∷ w) t u (inr (inl a)) (inl b) = absurd (true_false (is_letter c) (both (is_letter c) (list_all is_word_byte w) b.0).0 (number_first c w a.0).no_letter)
plain_one (c ∷ w) t u (inr (inl a)) (inr (inl b)) = a.1 ∙ sym b.1
plain_one (c ∷ w) t u (inr (inl a)) (inr (inr b)) = absurd (true_false (is_start c) (number_first c w a.0).start (symbol_no_start c w u b))
plain_one (c ∷ w) t u (inr (inr a)) (inl b) = absurd (true_false (is_letter c) (both (is_letter c) (list_all is_word_byte w) b.0).0 (symbol_no_letter c w t a))
plain_one (c ∷ w) t u (inr (inr a)) (inr (inl b)) = absurd (true_false (is_start c) (number_first c w b.0).start (symbol_no_start c w t a))
plain_one (c ∷ w) t u (inr (inr a)) (inr (inr b)) = some_is t u (sym a ∙ b)

run_begins : (w : List ℕ) → is_run w ≡ true → begins_run w ≡ true
run_begins [] h = absurd cc
run_begins (b ∷ bs) h = (both (is_file_byte b) (list_all is_file_byte bs) h).0

file_one : (mode : Mode) (w : List ℕ) (t u : Token) → SpellsFile mode w t → SpellsFile mode w u → t ≡ u
file_one mode w t u (inl a) (inl b) = a.1 ∙ sym b.1
file_one mode w t u (inl a) (inr b) = absurd (true_false (begins_run w) (run_begins w a.0) b.0)
file_one mode w t u (inr a) (inl b) = absurd (true_false (begins_run w) (run_begins w b.0) a.0)
file_one mode w t u (inr a) (inr b) = some_is t u (sym a.1 ∙ b.1)

pub spells_one : (mode : Mode) (w : List ℕ) (t u : Token) → Spells mode w t → Spells mode w u → t ≡ u
spells_one Bindings w t u a b = plain_one w t u a b
spells_one BoundFile w t u a b = file_one BoundFile w t u a b
spells_one AreaFile w t u a b = file_one AreaFile w t u a b
spells_one Sections w t u a b = plain_one w t u a b

-- ---- the token at the front is no shorter than a token there

-- something of that length or more was found
pub record IsAtLeast (o : Option Found) (n : ℕ) : Type 0 where
  pub one : Found
  pub is : o ≡ Some one
  pub least : n ≤ one.len

at_least : (o : Option Found) (t : Token) (len n : ℕ) → o ≡ found t len → n ≤ len → IsAtLeast o n
at_least o t len n e l = record { one = record { token = t; len = len }; is = e; least = l }

symbol_one : (a : ℕ) → symbol_at (a ∷ []) ≡ symbol_of_len (one_byte_symbol a) 1
unfolding symbol_at
symbol_one a = refl

symbol_two : (a b : ℕ) (bs : List ℕ) → symbol_at (a ∷ b ∷ bs) ≡ or_else (symbol_of_len (two_byte_symbol a b) 2) (symbol_of_len (one_byte_symbol a) 1)
unfolding symbol_at
symbol_two a b bs = refl

symbol_at_least : (w more : List ℕ) (t : Token) → symbol_token w ≡ Some t → IsAtLeast (symbol_at (w ++ more)) (length w)
symbol_at_least [] more t e = absurd cc
symbol_at_least (a ∷ []) [] t e = at_least (symbol_at (a ∷ [])) t 1 1 (symbol_one a ∙ ap (λ (o : Option Token). symbol_of_len o 1) e) (omega arith)
symbol_at_least (a ∷ []) (b ∷ bs) t e =
    option_cases (two_byte_symbol a b)
    (λ none. at_least (symbol_at (a ∷ b ∷ bs)) t 1 1 (symbol_two a b bs ∙ (ap (λ (o : Option Token). or_else (symbol_of_len o 2) (symbol_of_len (one_byte_symbol a) 1)) none ∙ ap (λ (o : Option Token). symbol_of_len o 1) e)) (omega arith))
    (λ u two. at_least (symbol_at (a ∷ b ∷ bs)) u 2 1 (symbol_two a b bs ∙ ap (λ (o : Option Token). or_else (symbol_of_len o 2) (symbol_of_len (one_byte_symbol a) 1)) two) (omega arith))
symbol_at_least (a ∷ b ∷ []) more t e = at_least (symbol_at (a ∷ b ∷ more)) t 2 2 (symbol_two a b more ∙ ap (λ (o : Option Token). or_else (symbol_of_len o 2) (symbol_of_len (one_byte_symbol a) 1)) e) (omega arith)
symbol_at_least (a ∷ b ∷ c ∷ w) more t e = absurd cc

plain_letter : (b : ℕ) (bs : List ℕ) → is_letter b ≡ true → plain_at (b ∷ bs) ≡ found (word_token (b ∷ take_while is_word_byte bs)) (1 + prefix_len is_word_byte bs)
unfolding plain_at
plain_letter b bs h = cond_true (is_letter b) (found (word_token (b ∷ take_while is_word_byte bs)) (1 + prefix_len is_word_byte bs)) (number_of_len (number_len (b ∷ bs)) (b ∷ bs)) h

plain_other : (b : ℕ) (bs : List ℕ) → is_letter b ≡ false → plain_at (b ∷ bs) ≡ number_of_len (number_len (b ∷ bs)) (b ∷ bs)
unfolding plain_at
plain_other b bs h = cond_false (is_letter b) (found (word_token (b ∷ take_while is_word_byte bs)) (1 + prefix_len is_word_byte bs)) (number_of_len (number_len (b ∷ bs)) (b ∷ bs)) h

plain_number : (n : ℕ) (b : ℕ) (bs : List ℕ) (least : ℕ) → is_letter b ≡ false → number_len (b ∷ bs) ≡ n → least ≤ n → 0 < least → IsAtLeast (plain_at (b ∷ bs)) least
plain_number zero b bs least h e l some = absurd (omega arith)
plain_number (suc n) b bs least h e l some = at_least (plain_at (b ∷ bs)) (tokens.Number (take (suc n) (b ∷ bs))) (suc n) least (plain_other b bs h ∙ ap (λ (k : ℕ). number_of_len k (b ∷ bs)) e) l

plain_symbol : (a : ℕ) (w more : List ℕ) (t : Token) → symbol_token (a ∷ w) ≡ Some t → IsAtLeast (plain_at (a ∷ w ++ more)) (length (a ∷ w))
plain_symbol a w more t e =
    let s = symbol_at_least (a ∷ w) more t e in
    record {
      one = s.one;
      is = plain_other a (w ++ more) (symbol_no_letter a w t e) ∙ (ap (λ (k : ℕ). number_of_len k (a ∷ w ++ more)) (start_number a (w ++ more) (symbol_no_start a w t e)) ∙ s.is);
      least = s.least;
    }

plain_at_least : (w more : List ℕ) (t : Token) → SpellsPlain w t → IsAtLeast (plain_at (w ++ more)) (length w)
plain_at_least [] more t (inl a) = absurd (let e = a.0 in cc)
plain_at_least [] more t (inr (inl a)) = absurd (no_empty_number a.0)
plain_at_least [] more t (inr (inr a)) = absurd cc
plain_at_least (b ∷ w) more t (inl a) =
    let h = both (is_letter b) (list_all is_word_byte w) a.0 in
    let run = prefix_len-all is_word_byte w more h.1 in
    at_least (plain_at (b ∷ w ++ more)) (word_token (b ∷ take_while is_word_byte (w ++ more))) (1 + prefix_len is_word_byte (w ++ more)) (length (b ∷ w)) (plain_letter b (w ++ more) h.0) (omega arith)
plain_at_least (b ∷ w) more t (inr (inl a)) =
    let f = a.0.form in
    let long : length (b ∷ w) ≤ number_len (b ∷ w ++ more) = subst (λ (ys : List ℕ). length ys ≤ number_len (ys ++ more)) a.0.text (number_longest f more a.0.is) in
    plain_number (number_len (b ∷ w ++ more)) b (w ++ more) (length (b ∷ w)) (number_first b w a.0).no_letter refl long (omega arith)
plain_at_least (b ∷ w) more t (inr (inr a)) = plain_symbol b w more t a

file_run : (mode : Mode) (b : ℕ) (bs : List ℕ) → is_file_byte b ≡ true → file_at mode (b ∷ bs) ≡ found (run_token mode (b ∷ take_while is_file_byte bs)) (1 + prefix_len is_file_byte bs)
unfolding file_at
file_run mode b bs h = cond_true (is_file_byte b) (found (run_token mode (b ∷ take_while is_file_byte bs)) (1 + prefix_len is_file_byte bs)) (symbol_at (b ∷ bs)) h

file_other : (mode : Mode) (b : ℕ) (bs : List ℕ) → is_file_byte b ≡ false → file_at mode (b ∷ bs) ≡ symbol_at (b ∷ bs)
unfolding file_at
file_other mode b bs h = cond_false (is_file_byte b) (found (run_token mode (b ∷ take_while is_file_byte bs)) (1 + prefix_len is_file_byte bs)) (symbol_at (b ∷ bs)) h

file_at_least : (mode : Mode) (w more : List ℕ) (t : Token) → SpellsFile mode w t → IsAtLeast (file_at mode (w ++ more)) (length w)
file_at_least mode [] more t (inl a) = absurd (let e = a.0 in cc)
file_at_least mode [] more t (inr a) = absurd (let e = a.1 in cc)
file_at_least mode (b ∷ w) more t (inl a) =
    let h = both (is_file_byte b) (list_all is_file_byte w) a.0 in
    let run = prefix_len-all is_file_byte w more h.1 in
    at_least (file_at mode (b ∷ w ++ more)) (run_token mode (b ∷ take_while is_file_byte (w ++ more))) (1 + prefix_len is_file_byte (w ++ more)) (length (b ∷ w)) (file_run mode b (w ++ more) h.0) (omega arith)
file_at_least mode (b ∷ w) more t (inr a) =
    let s = symbol_at_least (b ∷ w) more t a.1 in
    record { one = s.one; is = file_other mode b (w ++ more) a.0 ∙ s.is; least = s.least }

pub token_at_least : (mode : Mode) (w more : List ℕ) (t : Token) → Spells mode w t → IsAtLeast (token_at mode (w ++ more)) (length w)
token_at_least Bindings w more t a = plain_at_least w more t a
token_at_least BoundFile w more t a = file_at_least BoundFile w more t a
token_at_least AreaFile w more t a = file_at_least AreaFile w more t a
token_at_least Sections w more t a = plain_at_least w more t a

-- ---- the token at the front is a token

-- bytes at the front are this token
pub record IsFoundAt (mode : Mode) (b : ℕ) (bs : List ℕ) (f : Found) : Type 0 where
  pub more : List ℕ
  pub rest : List ℕ
  pub parts : bs ≡ more ++ rest
  pub spells : Spells mode (b ∷ more) f.token
  pub len : f.len ≡ suc (length more)

record IsSymbolAt (b : ℕ) (bs : List ℕ) (f : Found) : Type 0 where
  more : List ℕ
  rest : List ℕ
  parts : bs ≡ more ++ rest
  symbol : symbol_token (b ∷ more) ≡ Some f.token
  len : f.len ≡ suc (length more)

one_sound : (o : Option Token) (a : ℕ) (bs : List ℕ) (f : Found) → one_byte_symbol a ≡ o → symbol_of_len o 1 ≡ Some f → IsSymbolAt a bs f
one_sound None a bs f h e = absurd cc
one_sound (Some t) a bs f h e =
    let same : record { token = t; len = 1 } ≡ f = some_is (record { token = t; len = 1 }) f e in
    record { more = []; rest = bs; parts = refl; symbol = h ∙ ap (λ (g : Found). Some g.token) same; len = ap (λ (g : Found). g.len) (sym same) }

two_sound : (o : Option Token) (a b : ℕ) (bs : List ℕ) (f : Found) → two_byte_symbol a b ≡ o → or_else (symbol_of_len o 2) (symbol_of_len (one_byte_symbol a) 1) ≡ Some f → IsSymbolAt a (b ∷ bs) f
two_sound None a b bs f h e = one_sound (one_byte_symbol a) a (b ∷ bs) f refl e
two_sound (Some t) a b bs f h e =
    let same : record { token = t; len = 2 } ≡ f = some_is (record { token = t; len = 2 }) f e in
    record { more = b ∷ []; rest = bs; parts = refl; symbol = h ∙ ap (λ (g : Found). Some g.token) same; len = ap (λ (g : Found). g.len) (sym same) }

symbol_sound : (b : ℕ) (bs : List ℕ) (f : Found) → symbol_at (b ∷ bs) ≡ Some f → IsSymbolAt b bs f
symbol_sound a [] f e = one_sound (one_byte_symbol a) a [] f refl (sym (symbol_one a) ∙ e)
symbol_sound a (b ∷ bs) f e = two_sound (two_byte_symbol a b) a b bs f refl (sym (symbol_two a b bs) ∙ e)

-- what was found in a plain place
record IsPlainAt (b : ℕ) (bs : List ℕ) (f : Found) : Type 0 where
  more : List ℕ
  rest : List ℕ
  parts : bs ≡ more ++ rest
  spells : SpellsPlain (b ∷ more) f.token
  len : f.len ≡ suc (length more)

word_sound : (b : ℕ) (bs : List ℕ) (f : Found) → is_letter b ≡ true → plain_at (b ∷ bs) ≡ Some f → IsPlainAt b bs f
word_sound b bs f h e =
    let more = take (prefix_len is_word_byte bs) bs in
    let same : record { token = word_token (b ∷ more); len = 1 + prefix_len is_word_byte bs } ≡ f = some_is (record { token = word_token (b ∷ more); len = 1 + prefix_len is_word_byte bs }) f (sym (plain_letter b bs h) ∙ e) in
    let long : length more ≡ prefix_len is_word_byte bs = length-prefix_len is_word_byte bs in
    let len : f.len ≡ 1 + prefix_len is_word_byte bs = ap (λ (g : Found). g.len) (sym same) in
    record {
      more = more;
      rest = drop (prefix_len is_word_byte bs) bs;
      parts = sym (take-append-drop (prefix_len is_word_byte bs) bs);
      spells = inl (and_is (is_letter b) (list_all is_word_byte more) h (list_all-run is_word_byte bs), ap (λ (g : Found). g.token) (sym same));
      len = omega arith;
    }

split_number : (text : List ℕ) (b : ℕ) (bs rest : List ℕ) → b ∷ bs ≡ text ++ rest → 0 < length text → (more : List ℕ) × (text ≡ b ∷ more) × (bs ≡ more ++ rest)
split_number [] b bs rest e some = absurd (omega arith)
split_number (c ∷ more) b bs rest e some = (more, ap (λ (d : ℕ). d ∷ more) cc, cc)

number_at : (n : ℕ) (b : ℕ) (bs : List ℕ) (f : Found) → number_len (b ∷ bs) ≡ n → number_of_len n (b ∷ bs) ≡ Some f → IsPlainAt b bs f
number_at zero b bs f n e = let s = symbol_sound b bs f e in record { more = s.more; rest = s.rest; parts = s.parts; spells = inr (inr s.symbol); len = s.len }
number_at (suc n) b bs f is e =
    let same : record { token = tokens.Number (take (suc n) (b ∷ bs)); len = suc n } ≡ f = some_is (record { token = tokens.Number (take (suc n) (b ∷ bs)); len = suc n }) f e in
    let a = number_sound (b ∷ bs) (omega arith) in
    let text = number_text a.form in
    let long : length text ≡ suc n = sym a.len ∙ is in
    let s = split_number text b bs a.rest a.parts (omega arith) in
    let front : take (suc n) (b ∷ bs) ≡ text = ap (λ (k : ℕ). take k (b ∷ bs)) (sym long) ∙ (ap (take (length text)) a.parts ∙ take-append_seam text a.rest) in
    let whole : IsNumber (b ∷ s.0) = record { form = a.form; is = a.is; text = s.1 } in
    let token : f.token ≡ tokens.Number (b ∷ s.0) = ap (λ (g : Found). g.token) (sym same) ∙ ap tokens.Number (front ∙ s.1) in
    let len : f.len ≡ suc n = ap (λ (g : Found). g.len) (sym same) in
    let far : length (b ∷ s.0) ≡ suc n = ap length (sym s.1) ∙ long in
    record { more = s.0; rest = a.rest; parts = s.2; spells = inr (inl (whole, token)); len = len ∙ sym far }

plain_sound : (b : ℕ) (bs : List ℕ) (f : Found) → plain_at (b ∷ bs) ≡ Some f → IsPlainAt b bs f
plain_sound b bs f e = bool_cases (is_letter b) (λ h. word_sound b bs f h e) (λ h. number_at (number_len (b ∷ bs)) b bs f refl (sym (plain_other b bs h) ∙ e))

record IsFileAt (mode : Mode) (b : ℕ) (bs : List ℕ) (f : Found) : Type 0 where
  more : List ℕ
  rest : List ℕ
  parts : bs ≡ more ++ rest
  spells : SpellsFile mode (b ∷ more) f.token
  len : f.len ≡ suc (length more)

run_sound : (mode : Mode) (b : ℕ) (bs : List ℕ) (f : Found) → is_file_byte b ≡ true → file_at mode (b ∷ bs) ≡ Some f → IsFileAt mode b bs f
run_sound mode b bs f h e =
    let more = take (prefix_len is_file_byte bs) bs in
    let same : record { token = run_token mode (b ∷ more); len = 1 + prefix_len is_file_byte bs } ≡ f = some_is (record { token = run_token mode (b ∷ more); len = 1 + prefix_len is_file_byte bs }) f (sym (file_run mode b bs h) ∙ e) in
    let long : length more ≡ prefix_len is_file_byte bs = length-prefix_len is_file_byte bs in
    let len : f.len ≡ 1 + prefix_len is_file_byte bs = ap (λ (g : Found). g.len) (sym same) in
    record {
      more = more;
      rest = drop (prefix_len is_file_byte bs) bs;
      parts = sym (take-append-drop (prefix_len is_file_byte bs) bs);
      spells = inl (and_is (is_file_byte b) (list_all is_file_byte more) h (list_all-run is_file_byte bs), ap (λ (g : Found). g.token) (sym same));
      len = omega arith;
    }

file_symbol_sound : (mode : Mode) (b : ℕ) (bs : List ℕ) (f : Found) → is_file_byte b ≡ false → file_at mode (b ∷ bs) ≡ Some f → IsFileAt mode b bs f
file_symbol_sound mode b bs f h e =
    let s = symbol_sound b bs f (sym (file_other mode b bs h) ∙ e) in
    record { more = s.more; rest = s.rest; parts = s.parts; spells = inr (h, s.symbol); len = s.len }

file_sound : (mode : Mode) (b : ℕ) (bs : List ℕ) (f : Found) → file_at mode (b ∷ bs) ≡ Some f → IsFileAt mode b bs f
file_sound mode b bs f e = bool_cases (is_file_byte b) (λ h. run_sound mode b bs f h e) (λ h. file_symbol_sound mode b bs f h e)

pub token_sound : (mode : Mode) (b : ℕ) (bs : List ℕ) (f : Found) → token_at mode (b ∷ bs) ≡ Some f → IsFoundAt mode b bs f
token_sound Bindings b bs f e = let s = plain_sound b bs f e in record { more = s.more; rest = s.rest; parts = s.parts; spells = s.spells; len = s.len }
token_sound BoundFile b bs f e = let s = file_sound BoundFile b bs f e in record { more = s.more; rest = s.rest; parts = s.parts; spells = s.spells; len = s.len }
token_sound AreaFile b bs f e = let s = file_sound AreaFile b bs f e in record { more = s.more; rest = s.rest; parts = s.parts; spells = s.spells; len = s.len }
token_sound Sections b bs f e = let s = plain_sound b bs f e in record { more = s.more; rest = s.rest; parts = s.parts; spells = s.spells; len = s.len }

-- ---- no token begins with a blank or a comment

nothing_at : (mode : Mode) (p : ℕ → Bool) (b : ℕ) (bs : List ℕ) → p b ≡ true → is_letter b ≡ false → is_start b ≡ false → is_file_byte b ≡ false → list_all (λ row. not (p row.0)) one_byte_symbols ≡ true → list_all (λ row. not (p row.0)) equal_symbols ≡ true → token_at mode (b ∷ bs) ≡ None
nothing_at mode p b bs h letter start file n m = by_mode mode p b bs letter start file (no_symbol p b bs h n m)
  where
    no_symbol : (p : ℕ → Bool) (b : ℕ) (bs : List ℕ) → p b ≡ true → list_all (λ row. not (p row.0)) one_byte_symbols ≡ true → list_all (λ row. not (p row.0)) equal_symbols ≡ true → symbol_at (b ∷ bs) ≡ None
    no_symbol p b [] h n m = symbol_one b ∙ ap (λ (o : Option Token). symbol_of_len o 1) (beside_none p b one_byte_symbols h n)
    no_symbol p b (c ∷ bs) h n m = symbol_two b c bs ∙ (ap (λ (o : Option Token). or_else (symbol_of_len o 2) (symbol_of_len (one_byte_symbol b) 1)) (two_none p b c h m) ∙ ap (λ (o : Option Token). symbol_of_len o 1) (beside_none p b one_byte_symbols h n))

    by_mode : (mode : Mode) (p : ℕ → Bool) (b : ℕ) (bs : List ℕ) → is_letter b ≡ false → is_start b ≡ false → is_file_byte b ≡ false → symbol_at (b ∷ bs) ≡ None → token_at mode (b ∷ bs) ≡ None
    by_mode Bindings p b bs letter start file none = plain_other b bs letter ∙ (ap (λ (k : ℕ). number_of_len k (b ∷ bs)) (start_number b bs start) ∙ none)
    by_mode BoundFile p b bs letter start file none = file_other BoundFile b bs file ∙ none
    by_mode AreaFile p b bs letter start file none = file_other AreaFile b bs file ∙ none
    by_mode Sections p b bs letter start file none = plain_other b bs letter ∙ (ap (λ (k : ℕ). number_of_len k (b ∷ bs)) (start_number b bs start) ∙ none)

blank_no_letter : (b : ℕ) → is_blank b ≡ true → is_letter b ≡ false
blank_no_letter b h = grind (arith, nat_tests)

blank_no_start : (b : ℕ) → is_blank b ≡ true → is_start b ≡ false
unfolding is_start
blank_no_start b h = grind (arith, nat_tests)

blank_no_file : (b : ℕ) → is_blank b ≡ true → is_file_byte b ≡ false
blank_no_file b h = grind (arith, nat_tests)

pub blank_none : (mode : Mode) (b : ℕ) (bs : List ℕ) → is_blank b ≡ true → token_at mode (b ∷ bs) ≡ None
blank_none mode b bs h = nothing_at mode is_blank b bs h (blank_no_letter b h) (blank_no_start b h) (blank_no_file b h) refl refl

hash_start : is_start 35 ≡ false
unfolding is_start
hash_start = refl

pub hash_none : (mode : Mode) (bs : List ℕ) → token_at mode (35 ∷ bs) ≡ None
hash_none mode bs = nothing_at mode (λ b. b == 35) 35 bs refl refl hash_start refl refl refl

-- nothing stands at the end of a text
pub nothing_empty : (mode : Mode) → token_at mode [] ≡ None
unfolding plain_at file_at
nothing_empty Bindings = refl
nothing_empty BoundFile = refl
nothing_empty AreaFile = refl
nothing_empty Sections = refl

no_plain_empty : (t : Token) → SpellsPlain [] t → ⊥
no_plain_empty t (inl a) = let e = a.0 in cc
no_plain_empty t (inr (inl a)) = no_empty_number a.0
no_plain_empty t (inr (inr a)) = cc

no_file_empty : (mode : Mode) (t : Token) → SpellsFile mode [] t → ⊥
no_file_empty mode t (inl a) = let e = a.0 in cc
no_file_empty mode t (inr a) = let e = a.1 in cc

-- no token is empty
pub no_token_empty : (mode : Mode) (t : Token) → Spells mode [] t → ⊥
no_token_empty Bindings t s = no_plain_empty t s
no_token_empty BoundFile t s = no_file_empty BoundFile t s
no_token_empty AreaFile t s = no_file_empty AreaFile t s
no_token_empty Sections t s = no_plain_empty t s
