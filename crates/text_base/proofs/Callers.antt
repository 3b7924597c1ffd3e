-- What the crates above cite: cases, how tokens are found and stand, written numbers, and chains of steps that may fail.
use Rattle.std.proofs.Common.{◌≡◌, ℕ, suc, ◌+◌, ◌-◌, ◌^◌, ◌<◌, ◌≤◌, zero, take, drop, Bool, true, false, eqb, cond, not, ◌&&◌, lit<, subst, List, [], ◌∷◌, ◌++◌, length, Some, None, Ok, Err, Result, refl, sym, ap, ◌∙◌, arith}
use Rattle.std.specs.declared.option.Option.{Option}
use Rattle.std.specs.List.{list_all}
use Rattle.std.specs.Prelude.{decimal, nat_le, nat_lt}
use Rattle.std.specs.Char.{is_ascii_digit}
use Rattle.std.specs.Str.Parse.{digits_value, AllDigits}
use Rattle.std.proofs.lemmas.Bool.{and_parts, and_from, not-true, lt-ltb, le-leb, leb-true, ltb-true, ne_eqb}
use Rattle.std.proofs.lemmas.List.{take-append-drop, length-take-le, length-drop}
use Rattle.std.proofs.lemmas.Fmt.{decimal_is_IsNumeral, length-decimal-le}
use Rattle.std.proofs.lemmas.Option.{cond_some}
use Rattle.std.proofs.lemmas.Str.Parse.{digit_from_value}
use Rattle.text_base.specs.Numbers.{is_whole_number, whole_number_of}
use Rattle.text_base.specs.Options as options
use Rattle.text_base.specs.Results.{◌>>=◌}
use Rattle.text_base.specs.Bytes.{is_blank}
use Rattle.text_base.specs.Tokens.{IsEmptyOrToken, Token, ends_token, joined, tokens_at, tokens_left, tokens}
use Rattle.text_base.specs.inside.Steps.{is_token_byte}

-- ---- cases, each with the equation that it stands for

pub option_cases : {A P : Type 0} (o : Option A) → (o ≡ None → P) → ((a : A) → o ≡ Some a → P) → P
option_cases None empty filled = empty refl
option_cases (Some a) empty filled = filled a refl

pub bool_cases : {P : Type 0} (b : Bool) → (b ≡ true → P) → (b ≡ false → P) → P
bool_cases true holds fails = holds refl
bool_cases false holds fails = fails refl

pub list_cases : {A P : Type 0} (xs : List A) → (xs ≡ [] → P) → ((y : A) (ys : List A) → xs ≡ y ∷ ys → P) → P
list_cases [] empty filled = empty refl
list_cases (x ∷ xs) empty filled = filled x xs refl

pub result_cases : {A E P : Type 0} (r : Result A E) → ((a : A) → r ≡ Ok a → P) → ((e : E) → r ≡ Err e → P) → P
result_cases (Ok a) ok err = ok a refl
result_cases (Err e) ok err = err e refl

-- ---- what is the same in two equal values

pub ok_is : {A E : Type 0} (x y : A) → ◌≡◌ {A = Result A E} (Ok x) (Ok y) → x ≡ y
ok_is x y e = cc

pub err_is : {A E : Type 0} (x y : E) → ◌≡◌ {A = Result A E} (Err x) (Err y) → x ≡ y
err_is x y e = cc

pub some_is : {A : Type 0} (x y : A) → Some x ≡ Some y → x ≡ y
some_is x y e = cc

pub head_is : {A : Type 0} (x y : A) (xs ys : List A) → x ∷ xs ≡ y ∷ ys → x ≡ y
head_is x y xs ys e = cc

pub tail_is : {A : Type 0} (x y : A) (xs ys : List A) → x ∷ xs ≡ y ∷ ys → xs ≡ ys
tail_is x y xs ys e = cc

-- ---- tokens

-- a blank in front changes nothing but the place
pub tokens_at-blank : (at b : ℕ) (bytes : List ℕ) → is_blank b ≡ true → tokens_at at (b ∷ bytes) ≡ tokens_at (at + 1) bytes
tokens_at-blank at b bytes h = ap (λ t. cond t (tokens_at (at + 1) bytes) (joined at b (ends_token bytes) (tokens_at (at + 1) bytes))) h

alone : (at b : ℕ) (ts : List Token) → joined at b true ts ≡ record { at = at; bytes = b ∷ [] } ∷ ts
alone at b [] = refl
alone at b (t ∷ ts) = refl

-- a run of other bytes that ends is the first token
pub tokens_at-run : (at b : ℕ) (bs rest : List ℕ) → list_all is_token_byte (b ∷ bs) ≡ true → ends_token rest ≡ true → tokens_at at ((b ∷ bs) ++ rest) ≡ record { at = at; bytes = b ∷ bs } ∷ tokens_at (at + suc (length bs)) rest
tokens_at-run at b [] rest h e =
    let p = and_parts (not (is_blank b)) true h in
    ap (λ t. cond t (tokens_at (at + 1) rest) (joined at b (ends_token rest) (tokens_at (at + 1) rest))) (not-true (is_blank b) p.0)
    ∙ (ap (λ a. joined at b a (tokens_at (at + 1) rest)) e ∙ alone at b (tokens_at (at + 1) rest))
tokens_at-run at b (c ∷ cs) rest h e =
    let p = and_parts (not (is_blank b)) (list_all is_token_byte (c ∷ cs)) h in
    let q = and_parts (not (is_blank c)) (list_all is_token_byte cs) p.1 in
    let place : at + 1 + suc (length cs) ≡ at + suc (suc (length cs)) = omega arith in
    ap (λ t. cond t (tokens_at (at + 1) ((c ∷ cs) ++ rest)) (joined at b (is_blank c) (tokens_at (at + 1) ((c ∷ cs) ++ rest)))) (not-true (is_blank b) p.0)
    ∙ (ap (λ a. joined at b a (tokens_at (at + 1) ((c ∷ cs) ++ rest))) (not-true (is_blank c) q.0)
    ∙ (ap (joined at b false) (tokens_at-run (at + 1) c cs rest p.1 e)
    ∙ ap (λ n. record { at = at; bytes = b ∷ c ∷ cs } ∷ tokens_at n rest) place))

-- a blank in front leaves the same tokens
pub tokens_left-blank : (text_len b : ℕ) (bytes : List ℕ) → is_blank b ≡ true → suc (length bytes) ≤ text_len → tokens_left text_len bytes ≡ tokens_left text_len (b ∷ bytes)
unfolding tokens_left
tokens_left-blank text_len b bytes h within =
    let place : text_len - suc (length bytes) + 1 ≡ text_len - length bytes = omega arith in
    sym (tokens_at-blank (text_len - suc (length bytes)) b bytes h ∙ ap (λ at. tokens_at at bytes) place)

-- the first token of a text that begins with one, by its length
pub tokens_at-token : (at : ℕ) (bytes : List ℕ) (n : ℕ) → n ≤ length bytes → 0 < length bytes → IsEmptyOrToken bytes → list_all is_token_byte (take n bytes) ≡ true → ends_token (drop n bytes) ≡ true
    → tokens_at at bytes ≡ record { at = at; bytes = take n bytes } ∷ tokens_at (at + n) (drop n bytes)
tokens_at-token at [] n within some front run end = absurd (omega arith)
tokens_at-token at (b ∷ bs) zero within some front run end = absurd (cc)
tokens_at-token at (b ∷ bs) (suc n) within some front run end =
    let fits : n ≤ length bs = omega arith in
    ap (tokens_at at) (sym (ap (λ xs. b ∷ xs) (take-append-drop n bs)))
    ∙ tokens_at-run at b (take n bs) (drop n bs) run end
    ∙ ap (λ k. record { at = at; bytes = b ∷ take n bs } ∷ tokens_at (at + suc k) (drop n bs)) (length-take-le n bs fits)

-- the first token of the last bytes of a text
pub tokens_left-token : (text_len : ℕ) (bytes : List ℕ) (n : ℕ) → n ≤ length bytes → 0 < length bytes → length bytes ≤ text_len → IsEmptyOrToken bytes → list_all is_token_byte (take n bytes) ≡ true → ends_token (drop n bytes) ≡ true
    → tokens_left text_len bytes ≡ record { at = text_len - length bytes; bytes = take n bytes } ∷ tokens_left text_len (drop n bytes)
unfolding tokens_left
tokens_left-token text_len bytes n within some inside front run end =
    let place : text_len - length bytes + n ≡ text_len - length (drop n bytes) = omega (arith, length-drop n bytes) in
    tokens_at-token (text_len - length bytes) bytes n within some front run end
    ∙ ap (λ at. record { at = text_len - length bytes; bytes = take n bytes } ∷ tokens_at at (drop n bytes)) place

-- nothing is left at the end
pub tokens_left-nil : (text_len : ℕ) → tokens_left text_len [] ≡ []
unfolding tokens_left
tokens_left-nil text_len = refl

-- at the start the whole text is left
pub tokens_left-all : (text : List ℕ) → tokens_left (length text) text ≡ tokens text
unfolding tokens_left
tokens_left-all text = let place : length text - length text ≡ 0 = omega arith in ap (λ at. tokens_at at text) place

-- a word that can be a token
pub record IsTokenWord (word : List ℕ) : Type 0 where
  pub some : 0 < length word
  pub bytes : list_all is_token_byte word ≡ true

-- ---- tokens stand one behind the other

-- each token begins at the place or behind it, and ends before the next, or before the end
abbrev pub InOrder : ℕ → ℕ → List Token → Type 0
InOrder from end [] = from ≤ end
InOrder from end (token ∷ more) = (from ≤ token.at) × InOrder (token.at + 1) end more

-- they stand so from an earlier place on too
pub order_from : (from earlier end : ℕ) (ts : List Token) → earlier ≤ from → InOrder from end ts → InOrder earlier end ts
order_from from earlier end [] h order = omega arith
order_from from earlier end (t ∷ ts) h order = (omega (arith, order.0), order.1)

-- the end is not before the place
pub order_end : (from end : ℕ) (ts : List Token) → InOrder from end ts → from ≤ end
order_end from end [] order = order
order_end from end (t ∷ ts) order = let rest : t.at + 1 ≤ end = order_end (t.at + 1) end ts order.1 in omega (arith, order.0)

-- what stands behind a front stands behind the place
pub order_behind : (from end : ℕ) (front rest : List Token) → InOrder from end (front ++ rest) → InOrder from end rest
order_behind from end [] rest order = order
order_behind from end (t ∷ front) rest order = order_from (t.at + 1) from end rest (omega (arith, order.0)) (order_behind (t.at + 1) end front rest order.1)

joined_order : (at b end : ℕ) (alone : Bool) (ts : List Token) → InOrder (at + 1) end ts → InOrder at end (joined at b alone ts)
joined_order at b end alone [] order = (omega arith, order)
joined_order at b end true (t ∷ ts) order = (omega arith, order)
joined_order at b end false (t ∷ ts) order = (omega arith, order_from (t.at + 1) (at + 1) end ts (omega (arith, order.0)) order.1)

-- the tokens of a text do
pub tokens_at-order : (at end : ℕ) (bytes : List ℕ) → at + length bytes ≡ end → InOrder at end (tokens_at at bytes)
tokens_at-order at end [] e = omega arith
tokens_at-order at end (b ∷ bytes) e =
    let more : InOrder (at + 1) end (tokens_at (at + 1) bytes) = tokens_at-order (at + 1) end bytes (omega arith) in
    bool_cases (is_blank b)
    (λ blank. subst (λ t. InOrder at end (cond t (tokens_at (at + 1) bytes) (joined at b (ends_token bytes) (tokens_at (at + 1) bytes)))) (sym blank) (order_from (at + 1) at end (tokens_at (at + 1) bytes) (omega arith) more))
    (λ other. subst (λ t. InOrder at end (cond t (tokens_at (at + 1) bytes) (joined at b (ends_token bytes) (tokens_at (at + 1) bytes)))) (sym other) (joined_order at b end (ends_token bytes) (tokens_at (at + 1) bytes) more))

-- ---- whole numbers

-- a digit's byte
pub digit_bounds : (b : ℕ) → is_ascii_digit b ≡ true → (48 ≤ b) × (b ≤ 57)
digit_bounds b h = let p = and_parts (nat_le 48 b) (nat_le b 57) h in (leb-true 48 b p.0, leb-true b 57 p.1)

other : (b d : ℕ) → 48 ≤ b → d < 48 → eqb b d ≡ false
other b d low above = ne_eqb b d (λ e. omega (arith, e))

digit_token_byte : (b : ℕ) → is_ascii_digit b ≡ true → is_token_byte b ≡ true
digit_token_byte b h =
    let low = (digit_bounds b h).0 in
    rw (other b 32 low (lit< tt), other b 9 low (lit< tt), other b 13 low (lit< tt), other b 10 low (lit< tt)) refl

digits_token_bytes : (word : List ℕ) → list_all is_ascii_digit word ≡ true → list_all is_token_byte word ≡ true
digits_token_bytes [] h = refl
digits_token_bytes (b ∷ bs) h =
    let p = and_parts (is_ascii_digit b) (list_all is_ascii_digit bs) h in
    and_from (is_token_byte b) (list_all is_token_byte bs) (digit_token_byte b p.0) (digits_token_bytes bs p.1)

-- a word that writes a whole number has digits alone
pub record AreDigits (word : List ℕ) : Type 0 where
  pub some : 0 < length word
  pub digits : list_all is_ascii_digit word ≡ true

-- what a whole number is written with
pub digits_of_number : (most : ℕ) (word : List ℕ) (n : ℕ) → whole_number_of most word ≡ Some n → AreDigits word
digits_of_number most word n e =
    let c = cond_some (is_whole_number most word) (digits_value 10 word) n e in
    let p = and_parts (nat_lt 0 (length word) && nat_le (length word) most) (list_all is_ascii_digit word) c.0 in
    let q = and_parts (nat_lt 0 (length word)) (nat_le (length word) most) p.0 in
    record { some = ltb-true 0 (length word) q.0; digits = p.1 }

-- digits can be a token
pub digits_token : (word : List ℕ) → AreDigits word → IsTokenWord word
digits_token word d = record { some = d.some; bytes = digits_token_bytes word d.digits }

are_digits : (ds : List ℕ) → AllDigits 10 ds → list_all is_ascii_digit ds ≡ true
are_digits [] h = refl
are_digits (d ∷ ds) h =
    let r = digit_from_value d h.0 in
    and_from (is_ascii_digit d) (list_all is_ascii_digit ds) (rw (le-leb 48 d r.0, le-leb d 57 r.1) refl) (are_digits ds h.1)

-- the decimal text of a number has digits alone
pub decimal_digits : (n : ℕ) → n < 2 ^ 64 → AreDigits (decimal n)
decimal_digits n small =
    let d = (decimal_is_IsNumeral n small).0 in
    record { some = d.0; digits = are_digits (decimal n) d.1 }

-- and is read as the number
pub whole_number_of-decimal : (most n : ℕ) → 0 < most → n < 10 ^ most → n < 2 ^ 64 → whole_number_of most (decimal n) ≡ Some n
whole_number_of-decimal most n some within small =
    let d = decimal_digits n small in
    let len : length (decimal n) ≤ most = length-decimal-le most n some within small in
    rw (lt-ltb 0 (length (decimal n)) d.some, le-leb (length (decimal n)) most len, d.digits) (ap Some (decimal_is_IsNumeral n small).1)

-- ---- chains

-- a chain that gives a value gives one at its first part
pub bind_gives : {A B E P : Type 0} (r : Result A E) (f : A → Result B E) (b : B) → (r >>= f) ≡ Ok b → ((a : A) → r ≡ Ok a → f a ≡ Ok b → P) → P
bind_gives (Ok a) f b e k = k a refl e
bind_gives (Err d) f b e k = absurd (cc)

-- a chain that fails does so at its first part or behind it
pub bind_fails : {A B E P : Type 0} (r : Result A E) (f : A → Result B E) (d : E) → (r >>= f) ≡ Err d → (r ≡ Err d → P) → ((a : A) → r ≡ Ok a → f a ≡ Err d → P) → P
bind_fails (Ok a) f d e here behind = behind a refl e
bind_fails (Err d') f d e here behind = here (cc)

-- a chain of options that gives a value gives one at its first part
pub option_bind_gives : {A B P : Type 0} (o : Option A) (f : A → Option B) (b : B) → options.◌>>=◌ o f ≡ Some b → ((a : A) → o ≡ Some a → f a ≡ Some b → P) → P
option_bind_gives None f b e k = absurd (cc)
option_bind_gives (Some a) f b e k = k a refl e

-- a chain of options that gives nothing does so at its first part or behind it
pub option_bind_fails : {A B P : Type 0} (o : Option A) (f : A → Option B) → options.◌>>=◌ o f ≡ None → (o ≡ None → P) → ((a : A) → o ≡ Some a → f a ≡ None → P) → P
option_bind_fails None f e here behind = here refl
option_bind_fails (Some a) f e here behind = behind a refl e
