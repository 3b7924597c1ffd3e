-- The faults that a token has by its length, its number and its count, whatever the grammar says of it.
use Rattle.std.specs.Prelude.{◌≡◌, ℕ, Bool, true, false, not, ◌||◌, ◌&&◌, ◌==◌, nat_lt, nat_le, if◌then◌else◌}
use Rattle.std.specs.Prelude.{List, [], ◌∷◌, ◌++◌, length, codes, count_by, Option, Some, None, unwrap_or, is_some}
use Rattle.std.specs.Option.{option_map}
use Rattle.std.specs.Str.{bytes_eq}
use Rattle.text_base.specs.Limits.{longest_word}
use Rattle.text_base.specs.Numbers.{whole_number_of}
use Rattle.script_syntax.specs.declared.fault.SyntaxKind.{SyntaxKind}
use Rattle.script_syntax.specs.declared.fault.SyntaxKind.TheVariants as kinds
use Rattle.script_syntax.specs.declared.token.Key.TheVariants as keys
use Rattle.script_syntax.specs.declared.token.Mark.TheVariants as marks
use Rattle.script_syntax.specs.declared.token.Token.{Token}
use Rattle.script_syntax.specs.declared.token.Token.TheVariants as tokens
use Rattle.script_syntax.specs.declared.counts.Counts.{Counts}

-- ---- lists of tokens

-- the first of two lists that is there
abbrev pub or_earlier : Option (List Token) → Option (List Token) → Option (List Token)
or_earlier None o = o
or_earlier (Some ts) o = Some ts

-- the tokens behind the last one that passes
abbrev pub behind_last : (Token → Bool) → List Token → Option (List Token)
behind_last p [] = None
behind_last p (t ∷ ts) = or_earlier (behind_last p ts) (if p t then Some ts else None)

-- the tokens behind the first one that passes
abbrev pub behind_first : (Token → Bool) → List Token → Option (List Token)
behind_first p [] = None
behind_first p (t ∷ ts) = if p t then Some ts else behind_first p ts

-- whether the last token passes
abbrev pub ends_in : (Token → Bool) → List Token → Bool
ends_in p [] = false
ends_in p (t ∷ []) = p t
ends_in p (t ∷ u ∷ ts) = ends_in p (u ∷ ts)

-- ---- sorts of tokens

-- the mark `;`
abbrev pub is_semicolon : Token → Bool
is_semicolon (tokens.Mark marks.Semicolon) = true
is_semicolon _ = false

-- the word `areamap`
abbrev pub is_areamap : Token → Bool
is_areamap (tokens.Key keys.Areamap) = true
is_areamap _ = false

-- the word `timer`
abbrev pub is_timer : Token → Bool
is_timer (tokens.Key keys.Timer) = true
is_timer _ = false

-- `initial` or `dynamic`
abbrev pub is_section : Token → Bool
is_section (tokens.Key keys.Initial) = true
is_section (tokens.Key keys.Dynamic) = true
is_section _ = false

-- what stands before a statement: `;` or a section's word
abbrev pub is_before_statement : Token → Bool
is_before_statement t = is_semicolon t || is_section t

-- an opening bracket, a comma or an operator
abbrev pub is_counted : Token → Bool
is_counted (tokens.Operator o) = true
is_counted tokens.Not = true
is_counted (tokens.Mark marks.Open) = true
is_counted (tokens.Mark marks.Comma) = true
is_counted _ = false

-- ---- what is counted before a token

-- how many tokens stand behind the last `timer`
abbrev pub timer_count : List Token → Option ℕ
timer_count front = option_map length (behind_last is_timer front)

-- how many statements ended behind the first section's word
abbrev pub statement_count : List Token → Option ℕ
statement_count front = option_map (count_by is_semicolon) (behind_first is_section front)

-- the tokens of the statement that is not ended: those behind the last `;` or section's word, and all where there is none
abbrev pub last_statement : List Token → List Token
last_statement front = unwrap_or (behind_last is_before_statement front) front

-- how many of them count
abbrev pub token_count : List Token → ℕ
token_count front = count_by is_counted (last_statement front)

-- what is counted before a token
abbrev pub counts_behind : List Token → Counts
counts_behind front = record {
  covered = is_some (behind_first is_areamap front);
  semicolons = count_by is_semicolon front;
  ended = ends_in is_semicolon front;
  statements = statement_count front;
  begins = ends_in is_before_statement front;
  counted = token_count front;
  timer = timer_count front;
}

-- ---- the faults

-- the most entries, and the most statements of both sections together
abbrev pub most_script_statements : ℕ
most_script_statements = 1000

-- the most opening brackets, commas and operators of a statement
abbrev pub most_counted : ℕ
most_counted = 256

-- the last step that a timer may have at most
abbrev pub most_timer_steps : ℕ
most_timer_steps = 100000

-- more than 64 bytes
abbrev pub is_long_word : List ℕ → Bool
is_long_word w = nat_lt longest_word (length w)

-- a word, a number or a file word of more than 64 bytes
abbrev pub is_long : Token → Bool
is_long (tokens.Name w) = is_long_word w
is_long (tokens.Number w) = is_long_word w
is_long (tokens.File w) = is_long_word w
is_long _ = false

-- a number from 1 to 100,000
abbrev pub is_step_number : Option ℕ → Bool
is_step_number None = false
is_step_number (Some n) = nat_le 1 n && nat_le n most_timer_steps

-- 1 to 6 digits that write 1 to 100,000
abbrev pub is_last_step : List ℕ → Bool
is_last_step w = is_step_number (whole_number_of 6 w)

-- the digit 1 alone
abbrev pub is_one_alone : List ℕ → Bool
is_one_alone w = bytes_eq w (codes "1")

-- a number, where so many tokens stand between it and `timer`, that may not stand there
abbrev pub is_no_timer : ℕ → List ℕ → Bool
is_no_timer n w =
    if n == 0 then not (is_one_alone w)
    else (if n == 1 then not (is_last_step w)
    else (if n == 2 then not (is_one_alone w) else false))

-- a number that may not stand so many tokens behind `timer`
abbrev pub is_bad_timer : Option ℕ → Token → Bool
is_bad_timer (Some n) (tokens.Number w) = is_no_timer n w
is_bad_timer _ _ = false

-- a name behind 1,000 entries, which begins one more
abbrev pub is_entry_too_many : Counts → Token → Bool
is_entry_too_many c (tokens.Name w) = not c.covered && c.ended && (c.semicolons == most_script_statements)
is_entry_too_many c _ = false

-- a count of 1,000
abbrev pub is_most : Option ℕ → Bool
is_most None = false
is_most (Some n) = n == most_script_statements

-- a name or `report`
abbrev pub is_statement_start : Token → Bool
is_statement_start (tokens.Name w) = true
is_statement_start (tokens.Key keys.Report) = true
is_statement_start _ = false

-- a token behind 1,000 statements, which begins one more
abbrev pub is_statement_too_many : Counts → Token → Bool
is_statement_too_many c t = is_statement_start t && c.begins && is_most c.statements

-- a token that counts, behind 256 that do
abbrev pub is_large : Counts → Token → Bool
is_large c t = is_counted t && (c.counted == most_counted)

-- the first of these faults that a token has, where these are counted before it
abbrev pub listed_by : Counts → Token → Option SyntaxKind
listed_by c t =
    if is_long t then Some kinds.Long
    else (if is_bad_timer c.timer t then Some kinds.Number
    else (if is_entry_too_many c t || is_statement_too_many c t then Some kinds.Many
    else (if is_large c t then Some kinds.Large else None)))

-- the first of these faults that a token has behind those tokens
abbrev pub listed : List Token → Token → Option SyntaxKind
listed front t = listed_by (counts_behind front) t

-- no token has one of these faults
abbrev pub IsClean : List Token → Type 0
IsClean ts = (front back : List Token) (t : Token) → ts ≡ front ++ t ∷ back → listed front t ≡ None
