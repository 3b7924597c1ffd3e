-- The words of the program, and the command that they give.
use Rattle.std.specs.Prelude.{List, ℕ, [], ◌∷◌, ◌||◌, Bool, false, bytes_eq, codes, if◌then◌else◌}
use Rattle.std.specs.declared.option.Option.{Option}
use Rattle.lue_run.specs.Words.{Command, main_command, plain_command}

-- the first word is a command of `lue_plain`: `plain` or `make`
abbrev pub begins_plain : List (List ℕ) → Bool
begins_plain [] = false
begins_plain (word ∷ more) = bytes_eq word (codes "plain") || bytes_eq word (codes "make")

-- the command that the words give, where they give one: that of `lue_plain` where they begin with one of its own, else that of `lue_main`
abbrev pub program_command : List (List ℕ) → Option Command
program_command words = if begins_plain words then plain_command words else main_command words
