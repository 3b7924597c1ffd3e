-- A text that is read token by token.
use Rattle.std.specs.Prelude.{◌≡◌, ℕ, ◌+◌, ◌<◌, ◌≤◌, ◌^◌, ◌==◌, if◌then◌else◌, List, [], ◌∷◌, length}
use Rattle.text_base.specs.Bytes.{is_blank}
use Rattle.script_syntax.specs.declared.scanner.Next.{Next}
use Rattle.script_syntax.specs.declared.scanner.Next.TheVariants as next
use Rattle.script_syntax.specs.declared.scanner.Scanner.{Scanner}
use Rattle.script_syntax.specs.Tokens.{Whole, Byte, Scanned}
use Rattle.script_syntax.specs.inside.Scanning.{comment_len, scan, scanned, with_token}

-- the tokens that are left
unfoldable pub scan_of : Scanner → Scanned
scan_of s = scan s.rest.now 0 s.mode s.place

-- how many bytes a blank or a comment at the front has, or 0
abbrev pub gap_len : List ℕ → ℕ
gap_len [] = 0
gap_len (b ∷ bs) = if is_blank b then 1 else (if b == 35 then 1 + comment_len bs else 0)

-- no blank and no comment stands at the front
abbrev pub IsGapless : List ℕ → Type 0
IsGapless text = gap_len text ≡ 0

-- lines and columns can be counted to the end of the text
pub record IsRoomy (s : Scanner) : Type 0 where
  pub line : s.place.line + length s.rest.now < 2 ^ 32
  pub column : s.place.column + length s.rest.now < 2 ^ 32

-- they can still
pub record KeepsRoom (old new : Scanner) : Type 0 where
  pub shorter : length new.rest.now ≤ length old.rest.now
  pub line : new.place.line + length new.rest.now ≤ old.place.line + length old.rest.now
  pub column : new.place.column + length new.rest.now ≤ old.place.column + length old.rest.now

-- what stood next, and what is left behind it
abbrev pub IsNextOf : Scanner → Scanner → Next → Type 0
IsNextOf old new (next.Token t) = (scan_of old ≡ with_token t (scan_of new))
    × (t.place.column + t.len ≤ old.place.column + length old.rest.now) × (length new.rest.now + 1 ≤ length old.rest.now)
IsNextOf old new (next.Byte place) = scan_of old ≡ scanned [] (Byte place)
IsNextOf old new next.End = scan_of old ≡ scanned [] Whole
