-- The tokens of a text, found byte by byte.
use Rattle.std.specs.Prelude.{ℕ, zero, suc, ◌+◌, ◌-◌, min, not, ◌==◌, if◌then◌else◌}
use Rattle.std.specs.Prelude.{List, [], ◌∷◌, take, drop, take_while, Option, Some, None}
use Rattle.std.specs.Char.{is_ascii_digit}
use Rattle.std.specs.List.{prefix_len}
use Rattle.text_base.specs.Bytes.{is_blank, is_letter, is_word_byte, is_file_byte, point, line_feed}
use Rattle.script_syntax.specs.declared.token.Token.{Token}
use Rattle.script_syntax.specs.declared.token.Token.TheVariants as tokens
use Rattle.script_syntax.specs.declared.place.Mode.{Mode}
use Rattle.script_syntax.specs.declared.place.Mode.TheVariants.{Bindings, BoundFile, AreaFile, Sections}
use Rattle.script_syntax.specs.declared.place.Place.{Place}
use Rattle.script_syntax.specs.declared.lexer.Found.{Found}
use Rattle.script_syntax.specs.declared.scanner.Placed.{Placed}
use Rattle.script_syntax.specs.Places.{after_byte}
use Rattle.script_syntax.specs.Spelling.{is_sign, is_exponent_letter, word_token, one_byte_symbol, two_byte_symbol, run_token, mode_after}
use Rattle.script_syntax.specs.Tokens.{Ending, Whole, Byte, Scanned}

-- how many digits stand at the front
abbrev pub digits_len : List ℕ → ℕ
digits_len bs = prefix_len is_ascii_digit bs

-- digits behind a point, where digits stand before or behind it
abbrev pub with_point : ℕ → ℕ → ℕ
with_point n m = if n + m == 0 then 0 else n + 1 + m

-- the digits at the front, and a point and more behind them
abbrev pub after_digits : ℕ → List ℕ → ℕ
after_digits n [] = n
after_digits n (b ∷ bs) = if b == point then with_point n (digits_len bs) else n

-- how long the longest number without a power is at the front, or 0
unfoldable pub mantissa_len : List ℕ → ℕ
mantissa_len bs = after_digits (digits_len bs) (drop (digits_len bs) bs)

-- how long a sign at the front is
abbrev pub sign_len : List ℕ → ℕ
sign_len [] = 0
sign_len (b ∷ bs) = if is_sign b then 1 else 0

-- a letter, a sign and digits, where there are digits
abbrev pub with_digits : ℕ → ℕ → ℕ
with_digits sign digits = if digits == 0 then 0 else 1 + sign + min digits 6

-- how long the longest power at the front is, or 0
unfoldable pub power_len : List ℕ → ℕ
power_len [] = 0
power_len (b ∷ bs) = if is_exponent_letter b then with_digits (sign_len bs) (digits_len (drop (sign_len bs) bs)) else 0

-- how long the longest number at the front is, or 0
unfoldable pub number_len : List ℕ → ℕ
number_len bs = if mantissa_len bs == 0 then 0 else mantissa_len bs + power_len (drop (mantissa_len bs) bs)

-- a token and how many bytes it has
abbrev pub found : Token → ℕ → Option Found
found t n = Some (record { token = t; len = n })

-- a symbol of that many bytes, where there is one
abbrev pub symbol_of_len : Option Token → ℕ → Option Found
symbol_of_len None n = None
symbol_of_len (Some t) n = found t n

-- the first of two that is there
abbrev pub or_else : Option Found → Option Found → Option Found
or_else None o = o
or_else (Some f) o = Some f

-- the symbol at the front
unfoldable pub symbol_at : List ℕ → Option Found
symbol_at [] = None
symbol_at (a ∷ []) = symbol_of_len (one_byte_symbol a) 1
symbol_at (a ∷ b ∷ bs) = or_else (symbol_of_len (two_byte_symbol a b) 2) (symbol_of_len (one_byte_symbol a) 1)

-- the number at the front, where one is so long
abbrev pub number_of_len : ℕ → List ℕ → Option Found
number_of_len zero bs = symbol_at bs
number_of_len (suc n) bs = found (tokens.Number (take (suc n) bs)) (suc n)

-- the token at the front outside of file places
unfoldable pub plain_at : List ℕ → Option Found
plain_at [] = None
plain_at (b ∷ bs) =
    if is_letter b then found (word_token (b ∷ take_while is_word_byte bs)) (1 + prefix_len is_word_byte bs)
    else number_of_len (number_len (b ∷ bs)) (b ∷ bs)

-- the token at the front in a file place
unfoldable pub file_at : Mode → List ℕ → Option Found
file_at mode [] = None
file_at mode (b ∷ bs) =
    if is_file_byte b then found (run_token mode (b ∷ take_while is_file_byte bs)) (1 + prefix_len is_file_byte bs)
    else symbol_at (b ∷ bs)

-- the token at the front
abbrev pub token_at : Mode → List ℕ → Option Found
token_at Bindings bs = plain_at bs
token_at BoundFile bs = file_at BoundFile bs
token_at AreaFile bs = file_at AreaFile bs
token_at Sections bs = plain_at bs

-- how many bytes of a comment stand behind its first
abbrev pub comment_len : List ℕ → ℕ
comment_len bs = prefix_len (λ b. not (b == line_feed)) bs

-- these tokens, and this end
abbrev pub scanned : List Placed → Ending → Scanned
scanned ts e = record { tokens = ts; ending = e }

-- one more token at the front
abbrev pub with_token : Placed → Scanned → Scanned
with_token t s = record { tokens = t ∷ s.tokens; ending = s.ending }

-- what stands at the front, and then the rest, of which the first bytes belong to it
abbrev pub at_token : Option Found → Mode → Place → (ℕ → Mode → Scanned) → Scanned
at_token None mode p rest = scanned [] (Byte p)
at_token (Some f) mode p rest = with_token (record { token = f.token; place = p; len = f.len }) (rest (f.len - 1) (mode_after mode f.token))

-- what a byte begins: a blank, a comment, a token or nothing
abbrev pub at_front : Mode → Place → ℕ → List ℕ → (ℕ → Mode → Scanned) → Scanned
at_front mode p b bs rest =
    if is_blank b then rest 0 mode
    else (if b == 35 then rest (comment_len bs) mode
    else at_token (token_at mode (b ∷ bs)) mode p rest)

-- the tokens of a text of which the first bytes, as many as the number says, belong to what came before
abbrev pub scan : List ℕ → ℕ → Mode → Place → Scanned
scan [] n mode p = scanned [] Whole
scan (b ∷ bs) (suc n) mode p = scan bs n mode (after_byte p b)
scan (b ∷ bs) zero mode p = at_front mode p b bs (λ n m. scan bs n m (after_byte p b))
