-- What is counted with one more token.
use Rattle.std.specs.Prelude.{ℕ, ◌+◌, ◌<◌, ◌||◌, if◌then◌else◌, Option, Some, None}
use Rattle.script_syntax.specs.declared.token.Token.{Token}
use Rattle.script_syntax.specs.declared.counts.Counts.{Counts}
use Rattle.script_syntax.specs.Listed.{is_semicolon, is_section, is_areamap, is_timer, is_before_statement, is_counted}

-- a count that is kept is so small that one more fits
abbrev pub IsCountBelow : Option ℕ → ℕ → Type 0
IsCountBelow None n = Unit {0}
IsCountBelow (Some m) n = m + 1 < n

-- with one more token all counts are below n
pub record AreBelow (c : Counts) (n : ℕ) : Type 0 where
  pub semicolons : c.semicolons + 1 < n
  pub statements : IsCountBelow c.statements n
  pub counted : c.counted + 1 < n
  pub timer : IsCountBelow c.timer n

-- a count that is kept, and one more
abbrev pub one_more : Option ℕ → Option ℕ
one_more None = None
one_more (Some n) = Some (n + 1)

-- how many tokens stand behind `timer`
abbrev pub timer_after : Option ℕ → Token → Option ℕ
timer_after o t = if is_timer t then Some 0 else one_more o

-- how many statements ended behind the first section word
abbrev pub statements_after : Option ℕ → Token → Option ℕ
statements_after None t = if is_section t then Some 0 else None
statements_after (Some n) t = Some (if is_semicolon t then n + 1 else n)

-- how many tokens of the statement count
abbrev pub counted_after : Counts → Token → ℕ
counted_after c t = if is_before_statement t then 0 else (if is_counted t then c.counted + 1 else c.counted)

-- the counts with one more token
abbrev pub counts_after : Counts → Token → Counts
counts_after c t = record {
  covered = c.covered || is_areamap t;
  semicolons = if is_semicolon t then c.semicolons + 1 else c.semicolons;
  ended = is_semicolon t;
  statements = statements_after c.statements t;
  begins = is_before_statement t;
  counted = counted_after c t;
  timer = timer_after c.timer t;
}
