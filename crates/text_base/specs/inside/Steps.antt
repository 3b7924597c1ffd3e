-- Words for the readers' own steps. What is to be believed stands in the files above.
use Rattle.std.specs.Prelude.{◌≡◌, ◌<◌, ◌≤◌, ℕ, ◌+◌, Bool, not, List, [], ◌∷◌, ◌++◌, length, if◌then◌else◌, ◌⊎◌}
use Rattle.text_base.specs.Bytes.{is_blank, line_feed}
use Rattle.text_base.specs.Lines.{Line, has_more_than_blanks, lines_at}

-- a byte of a token
abbrev pub is_token_byte : ℕ → Bool
is_token_byte b = not (is_blank b)

-- a line, where it has more than blanks
abbrev pub kept : Line → List Line
kept line = if has_more_than_blanks line.bytes then line ∷ [] else []

-- A text with at least one byte is cut behind its first line.
pub record IsCutAtLine (text line rest : List ℕ) : Type 0 where
  pub lines : (number : ℕ) → lines_at number text ≡ kept (record { number = number; bytes = line }) ++ lines_at (number + 1) rest
  pub shorter : length line + length rest ≤ length text
  pub less : length rest < length text
  pub parts : (text ≡ line ++ line_feed ∷ rest) ⊎ ((text ≡ line) × (rest ≡ []))
