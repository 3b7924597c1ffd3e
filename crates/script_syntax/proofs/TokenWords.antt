-- The words of tokens that stand in a text.
use Rattle.std.proofs.Common.{◌≡◌, ℕ, ◌+◌, ◌<◌, ◌≤◌, Bool, true, false, not, List, [], ◌∷◌, ◌++◌, length, Option, Some, None, refl, sym, ◌∙◌, ap, subst, arith, inl, inr}
use Rattle.std.specs.Prelude.{◌⊎◌, ◌||◌, ◌&&◌, ◌==◌, if◌then◌else◌, is_some, codes, nat_le, pos, ℤ}
use Rattle.std.specs.Str.{bytes_eq}
use Rattle.std.specs.Str.Parse.{digits_value}
use Rattle.std.specs.Char.{is_ascii_digit}
use Rattle.std.specs.List.{list_all}
use Rattle.std.proofs.lemmas.Bool.Decides.{nat_tests}
use Rattle.text_base.specs.Bytes.{is_file_byte, plus, small_e}
use Rattle.text_base.specs.Words.{begins_word, is_file_word}
use Rattle.text_base.proofs.Callers.{some_is}
use Rattle.cell_values.specs.Decimal as decimals
use Rattle.cell_values.specs.inside.Reading.{decimal_of}
use Rattle.cell_values.proofs.DecimalLaws.{some-from_text}
use Rattle.script_syntax.specs.declared.token.Key.{Key}
use Rattle.script_syntax.specs.declared.token.Operator.{Operator}
use Rattle.script_syntax.specs.declared.token.Token.{Token}
use Rattle.script_syntax.specs.declared.token.Token.TheVariants as tokens
use Rattle.script_syntax.specs.declared.place.Mode.{Mode}
use Rattle.script_syntax.specs.declared.place.Mode.TheVariants.{Bindings, BoundFile, AreaFile, Sections}
use Rattle.script_syntax.specs.declared.place.Place.{Place}
use Rattle.script_syntax.specs.declared.scanner.Placed.{Placed}
use Rattle.script_syntax.specs.Places.{after_bytes}
use Rattle.script_syntax.specs.Spelling.{is_word_text, key_spelled, operator_spelled, operator_or_name, key_or_other, word_token, PowerForm, NumberForm, is_sign, is_exponent_letter, sign_text, power_text, fraction_bytes, fraction_of, number_text, IsSignForm, IsPowerPart, IsNumberForm, IsNumber, beside, one_byte_symbols, equal_symbols, symbol_token, is_run, area_token, run_token, SpellsPlain, SpellsFile, Spells, mode_after}
use Rattle.script_syntax.specs.Tokens.{Ending, AreTokensFrom}
use Rattle.script_syntax.specs.Faults.{tokens_of}
use Rattle.script_syntax.specs.Listed.{is_long_word, is_long}
use Rattle.script_syntax.specs.WellMade.{is_reserved, is_name, is_number}
use Rattle.script_syntax.proofs.RunLaws.{both, and_is}

-- a token whose word may stand there
abbrev pub IsGoodToken : Token → Type 0
IsGoodToken (tokens.Name w) = is_name w ≡ true
IsGoodToken (tokens.Number w) = is_number w ≡ true
IsGoodToken (tokens.File w) = is_file_word w ≡ true
IsGoodToken _ = Unit {0}

-- a token that is one where its word is not too long
abbrev pub IsSpelled : Token → Type 0
IsSpelled t = is_long t ≡ false → IsGoodToken t

not_long : (b : Bool) → b ≡ false → not b ≡ true
not_long true h = absurd cc
not_long false h = refl

-- ---- words

word_by : (k : Option Key) (n : Bool) (o : Option Operator) (w : List ℕ) → key_spelled w ≡ k → bytes_eq w (codes "not") ≡ n → operator_spelled w ≡ o → is_word_text w ≡ true → IsSpelled (key_or_other w k)
word_by (Some k) n o w kw nw ow h = λ l. tt
word_by None true o w kw nw ow h = subst IsSpelled (sym (ap (λ (b : Bool). if b then tokens.Not else operator_or_name w (operator_spelled w)) nw)) (λ l. tt)
word_by None false (Some o) w kw nw ow h =
    subst IsSpelled (sym (ap (λ (b : Bool). if b then tokens.Not else operator_or_name w (operator_spelled w)) nw ∙ ap (operator_or_name w) ow)) (λ l. tt)
word_by None false None w kw nw ow h =
    subst IsSpelled (sym (ap (λ (b : Bool). if b then tokens.Not else operator_or_name w (operator_spelled w)) nw ∙ ap (operator_or_name w) ow))
    (λ l. name_is w kw nw ow h l)
  where
    name_is : (w : List ℕ) → key_spelled w ≡ None → bytes_eq w (codes "not") ≡ false → operator_spelled w ≡ None → is_word_text w ≡ true → is_long_word w ≡ false → is_name w ≡ true
    name_is w kw nw ow h l =
        let free : is_reserved w ≡ false = ap (λ (k : Option Key). is_some k || bytes_eq w (codes "not") || is_some (operator_spelled w)) kw ∙ (ap (λ (b : Bool). b || is_some (operator_spelled w)) nw ∙ ap (λ (o : Option Operator). is_some o) ow) in
        and_is (is_word_text w && not (is_reserved w)) (not (is_long_word w)) (and_is (is_word_text w) (not (is_reserved w)) h (not_long (is_reserved w) free)) (not_long (is_long_word w) l)

word_spelled : (w : List ℕ) → is_word_text w ≡ true → IsSpelled (word_token w)
unfolding word_token
word_spelled w h = word_by (key_spelled w) (bytes_eq w (codes "not")) (operator_spelled w) w refl refl refl h

-- ---- numbers

sign_of : (s : Option ℕ) → IsSignForm s → (n : Bool) × decimals.IsSign (sign_text s) n
sign_of None h = (false, inl refl)
sign_of (Some b) h = by_plus (b == plus) b refl h
  where
    by_plus : (t : Bool) (b : ℕ) → (b == plus) ≡ t → is_sign b ≡ true → (n : Bool) × decimals.IsSign (b ∷ []) n
    by_plus true b e h = (false, inr (ap (λ (c : ℕ). c ∷ []) (is_plus b e)))
      where
        is_plus : (b : ℕ) → (b == plus) ≡ true → b ≡ 43
        is_plus b e = grind (arith, nat_tests)
    by_plus false b e h = (true, ap (λ (c : ℕ). c ∷ []) (is_hyphen b e h))
      where
        is_hyphen : (b : ℕ) → (b == plus) ≡ false → is_sign b ≡ true → b ≡ 45
        is_hyphen b e h = grind (arith, nat_tests)

letter_of : (b : ℕ) → is_exponent_letter b ≡ true → (b ∷ [] ≡ codes "e") ⊎ (b ∷ [] ≡ codes "E")
letter_of b h = by_small (b == small_e) b refl h
  where
    by_small : (t : Bool) (b : ℕ) → (b == small_e) ≡ t → is_exponent_letter b ≡ true → (b ∷ [] ≡ codes "e") ⊎ (b ∷ [] ≡ codes "E")
    by_small true b e h = inl (ap (λ (c : ℕ). c ∷ []) (small b e))
      where
        small : (b : ℕ) → (b == small_e) ≡ true → b ≡ 101
        small b e = grind (arith, nat_tests)
    by_small false b e h = inr (ap (λ (c : ℕ). c ∷ []) (capital b e h))
      where
        capital : (b : ℕ) → (b == small_e) ≡ false → is_exponent_letter b ≡ true → b ≡ 69
        capital b e h = grind (arith, nat_tests)

decimal_by : (whole : List ℕ) (fraction : Option (List ℕ)) (power : Option PowerForm) (w : List ℕ) → list_all is_ascii_digit whole ≡ true → list_all is_ascii_digit (fraction_of fraction) ≡ true → 0 < length whole + length (fraction_of fraction) → length w ≤ 128 → (p : List ℕ) (e : ℤ) → power_text power ≡ p → decimals.IsExponent p e → (whole ++ fraction_bytes fraction) ++ power_text power ≡ w → decimals.IsDecimalText w
decimal_by whole None power w d f some short p e is raised text = (
  record { negative = false; whole = whole; fraction = []; exponent = e },
  record {
    sign = [];
    pointed = [];
    power = p;
    parts = sym text ∙ ap (λ (xs : List ℕ). (whole ++ []) ++ xs) is;
    short = short;
    signed = inl refl;
    whole = d;
    fraction = refl;
    some = some;
    behind = inr (refl, refl);
    raised = raised;
  },
)
decimal_by whole (Some ds) power w d f some short p e is raised text = (
  record { negative = false; whole = whole; fraction = ds; exponent = e },
  record {
    sign = [];
    pointed = 46 ∷ ds;
    power = p;
    parts = sym text ∙ ap (λ (xs : List ℕ). (whole ++ 46 ∷ ds) ++ xs) is;
    short = short;
    signed = inl refl;
    whole = d;
    fraction = f;
    some = some;
    behind = inl refl;
    raised = raised;
  },
)

exponent_by : (power : Option PowerForm) (f : NumberForm) (w : List ℕ) → IsPowerPart power → f.power ≡ power → IsNumberForm f → length w ≤ 128 → number_text f ≡ w → decimals.IsDecimalText w
exponent_by None f w h same n short text = decimal_by f.whole f.fraction f.power w n.whole n.fraction n.some short [] (pos 0) (ap power_text same) (inr (refl, refl)) text
exponent_by (Some g) f w h same n short text =
    let s = sign_of g.sign h.signed in
    let e = decimals.with_sign s.0 (digits_value 10 g.digits) in
    decimal_by f.whole f.fraction f.power w n.whole n.fraction n.some short (power_text (Some g)) e (ap power_text same)
    (inl (record {
      letter = g.letter ∷ [];
      sign = sign_text g.sign;
      digits = g.digits;
      negative = s.0;
      parts = refl;
      lettered = letter_of g.letter h.lettered;
      signed = s.1;
      numeral = h.digits;
      some = h.some;
      few = h.few;
      value = refl;
    }))
    text

number_decimal : (w : List ℕ) → IsNumber w → length w ≤ 128 → is_some (decimal_of w) ≡ true
number_decimal w n short = some-from_text w (exponent_by n.form.power n.form w n.is.power refl n.is short n.text)

short_word : (w : List ℕ) → is_long_word w ≡ false → length w ≤ 64
short_word w h = grind (arith, nat_tests)

number_spelled : (w : List ℕ) → IsNumber w → IsSpelled (tokens.Number w)
number_spelled w n = λ l. (let s = short_word w l in and_is (is_some (decimal_of w)) (not (is_long_word w)) (number_decimal w n (omega arith)) (not_long (is_long_word w) l))

-- ---- symbols

-- a token without a word
abbrev is_fixed : Token → Bool
is_fixed (tokens.Name w) = false
is_fixed (tokens.Number w) = false
is_fixed (tokens.File w) = false
is_fixed _ = true

fixed_spelled : (t : Token) → is_fixed t ≡ true → IsSpelled t
fixed_spelled (tokens.Name w) h = absurd cc
fixed_spelled (tokens.Number w) h = absurd cc
fixed_spelled (tokens.File w) h = absurd cc
fixed_spelled _ h = λ l. tt

beside_fixed : (b : ℕ) (rows : List (ℕ × Token)) (t : Token) → list_all (λ row. is_fixed row.1) rows ≡ true → beside b rows ≡ Some t → is_fixed t ≡ true
beside_fixed b [] t h e = absurd cc
beside_fixed b (row ∷ rows) t h e =
    let m = both (is_fixed row.1) (list_all (λ r. is_fixed r.1) rows) h in
    by_test (b == row.0) row.1 (beside b rows) t m.0 (λ x. beside_fixed b rows t m.1 x) e
  where
    by_test : (c : Bool) (u : Token) (o : Option Token) (t : Token) → is_fixed u ≡ true → (o ≡ Some t → is_fixed t ≡ true) → (if c then Some u else o) ≡ Some t → is_fixed t ≡ true
    by_test true u o t h next e = subst (λ (x : Token). is_fixed x ≡ true) (some_is u t e) h
    by_test false u o t h next e = next e

symbol_fixed : (w : List ℕ) (t : Token) → symbol_token w ≡ Some t → is_fixed t ≡ true
symbol_fixed [] t e = absurd cc
symbol_fixed (a ∷ []) t e = beside_fixed a one_byte_symbols t refl e
symbol_fixed (a ∷ b ∷ []) t e = by_equal (b == 61) a t e
  where
    by_equal : (c : Bool) (a : ℕ) (t : Token) → (if c then beside a equal_symbols else None) ≡ Some t → is_fixed t ≡ true
    by_equal true a t e = beside_fixed a equal_symbols t refl e
    by_equal false a t e = absurd cc
symbol_fixed (a ∷ b ∷ c ∷ w) t e = absurd cc

symbol_spelled : (w : List ℕ) (t : Token) → symbol_token w ≡ Some t → IsSpelled t
symbol_spelled w t e = fixed_spelled t (symbol_fixed w t e)

-- ---- runs

run_all : (w : List ℕ) → is_run w ≡ true → list_all is_file_byte w ≡ true
run_all [] h = refl
run_all (b ∷ bs) h = h

short_test : (w : List ℕ) → is_long_word w ≡ false → nat_le (length w) 64 ≡ true
short_test w h = grind (arith, nat_tests)

area_spelled : (b : Bool) (w : List ℕ) → begins_word w ≡ b → is_run w ≡ true → IsSpelled (if b then tokens.File w else tokens.Stray)
area_spelled true w e h = λ l. and_is (begins_word w && list_all is_file_byte w) (nat_le (length w) 64) (and_is (begins_word w) (list_all is_file_byte w) e (run_all w h)) (short_test w l)
area_spelled false w e h = λ l. tt

bound_spelled : (b : Bool) (w : List ℕ) → is_some (decimal_of w) ≡ b → is_run w ≡ true → IsSpelled (if b then tokens.Number w else area_token w)
bound_spelled true w e h = λ l. and_is (is_some (decimal_of w)) (not (is_long_word w)) e (not_long (is_long_word w) l)
bound_spelled false w e h = area_spelled (begins_word w) w refl h

run_spelled : (mode : Mode) (w : List ℕ) → is_run w ≡ true → IsSpelled (run_token mode w)
run_spelled Bindings w h = area_spelled (begins_word w) w refl h
run_spelled BoundFile w h = bound_spelled (is_some (decimal_of w)) w refl h
run_spelled AreaFile w h = area_spelled (begins_word w) w refl h
run_spelled Sections w h = area_spelled (begins_word w) w refl h

-- ---- all tokens

plain_spelled : (w : List ℕ) (t : Token) → SpellsPlain w t → IsSpelled t
plain_spelled w t (inl a) = subst IsSpelled (sym a.1) (word_spelled w a.0)
plain_spelled w t (inr (inl a)) = subst IsSpelled (sym a.1) (number_spelled w a.0)
plain_spelled w t (inr (inr a)) = symbol_spelled w t a

file_spelled : (mode : Mode) (w : List ℕ) (t : Token) → SpellsFile mode w t → IsSpelled t
file_spelled mode w t (inl a) = subst IsSpelled (sym a.1) (run_spelled mode w a.0)
file_spelled mode w t (inr a) = symbol_spelled w t a.1

spelled : (mode : Mode) (w : List ℕ) (t : Token) → Spells mode w t → IsSpelled t
spelled Bindings w t s = plain_spelled w t s
spelled BoundFile w t s = file_spelled BoundFile w t s
spelled AreaFile w t s = file_spelled AreaFile w t s
spelled Sections w t s = plain_spelled w t s

-- tokens whose words may stand there, where they are not too long
abbrev pub AreSpelled : List Token → Type 0
AreSpelled [] = Unit {0}
AreSpelled (t ∷ ts) = IsSpelled t × AreSpelled ts

pub tokens_spelled : (ts : List Placed) (e : Ending) (m : Mode) (p : Place) (text : List ℕ) → AreTokensFrom m p text ts e → AreSpelled (tokens_of ts)
tokens_spelled [] e m p text h = tt
tokens_spelled (t ∷ ts) e m p text h = (spelled m h.0.bytes t.token h.0.token.spells, tokens_spelled ts e (mode_after m t.token) (after_bytes t.place h.0.bytes) h.0.rest h.1)
