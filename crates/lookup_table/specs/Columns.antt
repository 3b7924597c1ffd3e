-- The columns of a line: intervals, and runs of other bytes.
use Rattle.std.specs.Prelude.{◌≡◌, ℕ, ◌<◌, Bool, true, false, ◌&&◌, ◌||◌, ◌==◌, not, ◌⊎◌, List, [], ◌∷◌, ◌++◌, length}
use Rattle.std.specs.List.{list_all, list_any}
use Rattle.text_base.specs.Bytes.{is_blank}

-- `,`
abbrev pub comma : ℕ
comma = 44

-- `<`, which begins an interval without its low bound
abbrev pub less_sign : ℕ
less_sign = 60

-- `>`, which ends an interval without its high bound
abbrev pub greater_sign : ℕ
greater_sign = 62

-- `[`, which begins an interval with its low bound
abbrev pub opening_bracket : ℕ
opening_bracket = 91

-- `]`, which ends an interval with its high bound
abbrev pub closing_bracket : ℕ
closing_bracket = 93

-- `[` or `<`
abbrev pub is_opening : ℕ → Bool
is_opening b = (b == opening_bracket) || (b == less_sign)

-- `]` or `>`
abbrev pub is_closing : ℕ → Bool
is_closing b = (b == closing_bracket) || (b == greater_sign)

-- a byte of a run: no blank, and none that begins an interval
abbrev pub is_run_byte : ℕ → Bool
is_run_byte b = not (is_blank b) && not (is_opening b)

-- no run goes on into these bytes
abbrev pub ends_run : List ℕ → Bool
ends_run [] = true
ends_run (b ∷ bytes) = not (is_run_byte b)

-- an interval: from `[` or `<` to the next `]` or `>`
pub record IsInterval (column : List ℕ) : Type 0 where
  pub opening : ℕ
  pub inner : List ℕ
  pub closing : ℕ
  pub parts : column ≡ opening ∷ (inner ++ closing ∷ [])
  pub opens : is_opening opening ≡ true
  pub next : list_any is_closing inner ≡ false
  pub closes : is_closing closing ≡ true

-- a run before the rest of its line: as many bytes as there are that are no blank and begin no interval, at least one
pub record IsColumnRun (column rest : List ℕ) : Type 0 where
  pub some : 0 < length column
  pub run : list_all is_run_byte column ≡ true
  pub whole : ends_run rest ≡ true

-- the bytes are blanks or nothing, then this column, and then the rest
pub record BeginsWith (bytes column rest : List ℕ) : Type 0 where
  pub gap : List ℕ
  pub parts : bytes ≡ gap ++ (column ++ rest)
  pub blank : list_all is_blank gap ≡ true
  pub column_is : IsInterval column ⊎ IsColumnRun column rest

-- the bytes are these columns, one after the other, and then the rest
abbrev pub BeginsWithAll : List (List ℕ) → List ℕ → List ℕ → Type 0
BeginsWithAll [] bytes rest = bytes ≡ rest
BeginsWithAll (column ∷ columns) bytes rest = (more : List ℕ) × BeginsWith bytes column more × BeginsWithAll columns more rest

-- these are the columns of the bytes: behind the last one stand blanks alone
pub record AreColumns (bytes : List ℕ) (columns : List (List ℕ)) : Type 0 where
  pub rest : List ℕ
  pub parts : BeginsWithAll columns bytes rest
  pub blank : list_all is_blank rest ≡ true

-- an interval is not closed: behind some columns stands `[` or `<`, and no `]` or `>` behind that
pub record IsUnclosed (bytes : List ℕ) : Type 0 where
  pub columns : List (List ℕ)
  pub gap : List ℕ
  pub opening : ℕ
  pub inner : List ℕ
  pub parts : BeginsWithAll columns bytes (gap ++ opening ∷ inner)
  pub blank : list_all is_blank gap ≡ true
  pub opens : is_opening opening ≡ true
  pub never : list_any is_closing inner ≡ false
