-- The tokens of a script text. Between them stand blanks and comments, and each is the longest that fits at its place.
use Rattle.std.specs.Prelude.{◌≡◌, ◌≤◌, ℕ, Bool, true, false, not, ◌==◌, List, [], ◌∷◌, ◌++◌, length}
use Rattle.std.specs.List.{list_all}
use Rattle.text_base.specs.Bytes.{is_blank, line_feed}
use Rattle.script_syntax.specs.declared.token.Token.{Token}
use Rattle.script_syntax.specs.declared.place.Mode.{Mode}
use Rattle.script_syntax.specs.declared.place.Mode.TheVariants.{Bindings}
use Rattle.script_syntax.specs.declared.place.Place.{Place}
use Rattle.script_syntax.specs.declared.scanner.Placed.{Placed}
use Rattle.script_syntax.specs.Places.{first_place, after_bytes}
use Rattle.script_syntax.specs.Spelling.{Spells, mode_after}

-- the text ends behind its tokens, or there stands a byte that begins none
pub data Ending : Type 0 where
  Whole : Ending
  Byte : Place → Ending

-- the tokens of a text and how they end
pub record Scanned : Type 0 where
  pub tokens : List Placed
  pub ending : Ending

-- ---- blanks and comments

-- `#`, which starts a comment
abbrev pub hash : ℕ
hash = 35

-- blanks and comments, each with the bytes behind its `#`
pub data Gap : Type 0 where
  no_gap : Gap
  blank : ℕ → Gap → Gap
  comment : List ℕ → Gap → Gap

-- its bytes in front of the rest
abbrev pub gap_on : Gap → List ℕ → List ℕ
gap_on no_gap rest = rest
gap_on (blank b g) rest = b ∷ gap_on g rest
gap_on (comment bs g) rest = hash ∷ (bs ++ gap_on g rest)

-- a comment ends here: before a line feed, or at the end of the text
abbrev pub EndsComment : List ℕ → Type 0
EndsComment [] = Unit {0}
EndsComment (b ∷ bs) = b ≡ line_feed

-- whether a byte may stand in a comment
abbrev pub is_comment_byte : ℕ → Bool
is_comment_byte b = not (b == line_feed)

-- the blanks are blanks, and each comment goes to the end of its line
abbrev pub IsGap : Gap → List ℕ → Type 0
IsGap no_gap rest = Unit {0}
IsGap (blank b g) rest = (is_blank b ≡ true) × IsGap g rest
IsGap (comment bs g) rest = (list_all is_comment_byte bs ≡ true) × EndsComment (gap_on g rest) × IsGap g rest

-- ---- tokens

-- bytes that are this token stand at the front of a text, and no longer ones are a token
pub record IsLongest (mode : Mode) (text bytes rest : List ℕ) (token : Token) : Type 0 where
  pub parts : text ≡ bytes ++ rest
  pub spells : Spells mode bytes token
  pub longest : (others more : List ℕ) (other : Token) → Spells mode others other → text ≡ others ++ more → length others ≤ length bytes

-- the first token of a text that begins at this place, behind blanks and comments, and the rest behind it
pub record IsNext (mode : Mode) (at : Place) (text : List ℕ) (t : Placed) : Type 0 where
  pub gap : Gap
  pub bytes : List ℕ
  pub rest : List ℕ
  pub is_gap : IsGap gap (bytes ++ rest)
  pub parts : text ≡ gap_on gap (bytes ++ rest)
  pub place : t.place ≡ after_bytes at (gap_on gap [])
  pub token : IsLongest mode (bytes ++ rest) bytes rest t.token
  pub len : t.len ≡ length bytes

-- a text of blanks and comments alone
pub record IsBlankText (text : List ℕ) : Type 0 where
  pub gap : Gap
  pub is_gap : IsGap gap []
  pub parts : text ≡ gap_on gap []

-- behind blanks and comments stands a byte, at this place, that is no blank and begins no comment and no token
pub record IsBadByte (mode : Mode) (at : Place) (text : List ℕ) (place : Place) : Type 0 where
  pub gap : Gap
  pub byte : ℕ
  pub rest : List ℕ
  pub is_gap : IsGap gap (byte ∷ rest)
  pub parts : text ≡ gap_on gap (byte ∷ rest)
  pub no_blank : is_blank byte ≡ false
  pub no_comment : (byte == hash) ≡ false
  pub no_token : (others more : List ℕ) (other : Token) → Spells mode others other → byte ∷ rest ≡ others ++ more → ⊥
  pub is_at : place ≡ after_bytes at (gap_on gap [])

-- how a text without tokens ends
abbrev pub Ends : Mode → Place → List ℕ → Ending → Type 0
Ends mode at text Whole = IsBlankText text
Ends mode at text (Byte place) = IsBadByte mode at text place

-- these are the tokens of a text that begins at this place, and how it ends
abbrev pub AreTokensFrom : Mode → Place → List ℕ → List Placed → Ending → Type 0
AreTokensFrom mode at text [] e = Ends mode at text e
AreTokensFrom mode at text (t ∷ ts) e =
    (n : IsNext mode at text t) × AreTokensFrom (mode_after mode t.token) (after_bytes t.place n.bytes) n.rest ts e

-- these are the tokens of a script text, and how it ends
abbrev pub AreScriptTokens : List ℕ → Scanned → Type 0
AreScriptTokens text s = AreTokensFrom Bindings first_place text s.tokens s.ending
