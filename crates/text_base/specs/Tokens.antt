-- The tokens of a text: its longest runs of bytes that are no blanks.
use Rattle.std.specs.Prelude.{◌≡◌, ◌↔◌, ℕ, ◌+◌, ◌-◌, ◌<◌, ◌≤◌, Bool, true}
use Rattle.std.specs.Prelude.{false, ◌⊎◌, List, [], ◌∷◌, length, slice_index, slice_range, if◌then◌else◌, ⊤}
use Rattle.std.specs.List.{All, AllPairs, Any}
use Rattle.text_base.specs.declared.token.Token as slices
use Rattle.text_base.specs.Bytes.{is_blank}

-- a token, and the byte place from 0 at which it begins
pub record Token : Type 0 where
  pub at : ℕ
  pub bytes : List ℕ

-- the place behind a token
abbrev pub place_behind : Token → ℕ
place_behind token = token.at + length token.bytes

-- the place is one of the token's
abbrev pub Covers : ℕ → Token → Type 0
Covers place token = (token.at ≤ place) × (place < place_behind token)

-- The token is a run of the text: its bytes stand at its place, at least one, none of them a blank, and a blank or an
-- edge of the text stands on each side.
pub record IsRun (text : List ℕ) (token : Token) : Type 0 where
  pub within : place_behind token ≤ length text
  pub stands : slice_range text token.at (place_behind token) ≡ token.bytes
  pub some : 0 < length token.bytes
  pub no_blank : All (λ b. is_blank b ≡ false) token.bytes
  pub begins : 0 < token.at → is_blank (slice_index text (token.at - 1)) ≡ true
  pub ends : place_behind token < length text → is_blank (slice_index text (place_behind token)) ≡ true

-- These are the tokens of the text: runs of it, by ascending places, and each byte that is no blank is in one of them.
pub record AreTokens (text : List ℕ) (all : List Token) : Type 0 where
  pub runs : All (IsRun text) all
  pub ascending : AllPairs (λ earlier later. earlier.at < later.at) all
  pub rest : (place : ℕ) → place < length text → (is_blank (slice_index text place) ≡ true) ⊎ Any (Covers place) all

-- no token goes on into these bytes
abbrev pub ends_token : List ℕ → Bool
ends_token [] = true
ends_token (b ∷ bytes) = is_blank b

-- a byte at a place before these tokens: it is a token of its own where none goes on, and else the first byte of the first
abbrev pub joined : ℕ → ℕ → Bool → List Token → List Token
joined at b alone [] = record { at = at; bytes = b ∷ [] } ∷ []
joined at b alone (token ∷ more) =
    if alone then record { at = at; bytes = b ∷ [] } ∷ token ∷ more else record { at = at; bytes = b ∷ token.bytes } ∷ more

-- the tokens of bytes that stand in a text at a place
abbrev pub tokens_at : ℕ → List ℕ → List Token
tokens_at at [] = []
tokens_at at (b ∷ bytes) =
    if is_blank b then tokens_at (at + 1) bytes else joined at b (ends_token bytes) (tokens_at (at + 1) bytes)

-- the tokens of a text
abbrev pub tokens : List ℕ → List Token
tokens text = tokens_at 0 text

-- the tokens of the last bytes of a text of this length
unfoldable pub tokens_left : ℕ → List ℕ → List Token
tokens_left text_len bytes = tokens_at (text_len - length bytes) bytes

-- a token stands at the front, if anything does
abbrev pub IsEmptyOrToken : List ℕ → Type 0
IsEmptyOrToken [] = ⊤
IsEmptyOrToken (b ∷ bytes) = is_blank b ≡ false

-- a token that is a slice of a text, as a token
abbrev pub token_view : slices.Token → Token
token_view token = record { at = token.at; bytes = token.bytes.now }

-- a text has one list of tokens, and `tokens` is it
abbrev pub TokensAreUnique : Type 0
TokensAreUnique = (text : List ℕ) (all : List Token) → AreTokens text all ↔ (all ≡ tokens text)
