-- The lines of a text. A line ends with a line feed or at the end of the text; lines are numbered from 1, and those of
-- blanks alone are passed over.
use Rattle.std.specs.Prelude.{◌≡◌, ◌↔◌, ℕ, ◌+◌, ◌<◌, Bool, true, false, ◌==◌, not, ◌⊎◌, List, [], ◌∷◌, ◌++◌, map, filter, count_by}
use Rattle.std.specs.List.{All, AllPairs, Contains, enumerate_from, list_all, slice_split}
use Rattle.text_base.specs.declared.line.Line as slices
use Rattle.text_base.specs.Bytes.{is_blank, line_feed, EndsWith}

-- a line, and its number from 1
pub record Line : Type 0 where
  pub number : ℕ
  pub bytes : List ℕ

-- the byte that ends a line
abbrev pub is_line_feed : ℕ → Bool
is_line_feed b = b == line_feed

-- there is more than blanks
abbrev pub has_more_than_blanks : List ℕ → Bool
has_more_than_blanks bytes = not (list_all is_blank bytes)

-- a line begins behind these bytes: there are none, or the last of them is a line feed
abbrev pub IsLineStart : List ℕ → Type 0
IsLineStart before = (before ≡ []) ⊎ ((earlier : List ℕ) × (before ≡ earlier ++ line_feed ∷ []))

-- a line ends before these bytes: there are none, or the first of them is a line feed
abbrev pub IsLineEnd : List ℕ → Type 0
IsLineEnd behind = (behind ≡ []) ⊎ ((later : List ℕ) × (behind ≡ line_feed ∷ later))

-- The line is one of the text, and has more than blanks: a line feed or an edge of the text stands on each side and none
-- inside, and its number counts the line feeds before it.
pub record IsLine (text : List ℕ) (line : Line) : Type 0 where
  pub before : List ℕ
  pub behind : List ℕ
  pub parts : text ≡ before ++ line.bytes ++ behind
  pub begins : IsLineStart before
  pub ends : IsLineEnd behind
  pub one : All (λ b. is_line_feed b ≡ false) line.bytes
  pub number : line.number ≡ count_by is_line_feed before + 1
  pub more : has_more_than_blanks line.bytes ≡ true

-- These are the lines of the text that have more than blanks, in order.
pub record AreLines (text : List ℕ) (all : List Line) : Type 0 where
  pub lines : All (IsLine text) all
  pub every : (line : Line) → IsLine text line → Contains all line
  pub ascending : AllPairs (λ earlier later. earlier.number < later.number) all

-- a line of a number
abbrev pub numbered : ℕ × List ℕ → Line
numbered (number, bytes) = record { number = number; bytes = bytes }

-- the lines of bytes that stand in a text from the line of this number on, as far as they have more than blanks
unfoldable pub lines_at : ℕ → List ℕ → List Line
lines_at number bytes =
    filter (λ line. has_more_than_blanks line.bytes) (map numbered (enumerate_from number (slice_split is_line_feed bytes)))

-- the lines of a text that have more than blanks
abbrev pub lines_of : List ℕ → List Line
lines_of text = lines_at 1 text

-- the text ends with the line, the line feed that ends it and the rest; or with the line, and there is no rest
abbrev pub EndsWithLine : List ℕ → List ℕ → List ℕ → Type 0
EndsWithLine text line rest = EndsWith text (line ++ line_feed ∷ rest) ⊎ (EndsWith text line × (rest ≡ []))

-- a line that is a slice of a text, as a line
abbrev pub line_view : slices.Line → Line
line_view line = record { number = line.number; bytes = line.bytes.now }

-- a text has one list of lines, and `lines_of` is it
abbrev pub LinesAreUnique : Type 0
LinesAreUnique = (text : List ℕ) (all : List Line) → AreLines text all ↔ (all ≡ lines_of text)
