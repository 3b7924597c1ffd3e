-- The words of a call, and the command that they give.
use Rattle.std.specs.Prelude.{List, ℕ, ◌&&◌, ◌==◌, Bool, true, not, [], ◌∷◌, Some, None, codes, bytes_eq, nat_le, if◌then◌else◌}
use Rattle.std.specs.Option.{option_and_then, option_map}
use Rattle.std.specs.declared.option.Option.{Option}
use Rattle.text_base.specs.Bytes.{zero_digit}
use Rattle.text_base.specs.Numbers.{whole_number_of}
use Rattle.text_base.specs.Words.{is_file_word}
use Rattle.tile_map.specs.Limits.{longest_tile_side}

-- what the words of a call ask for
pub data Command : Type 0 where
  Plain : (script : List ℕ) → Command
  Make : (number : ℕ) → Command
  ByTiles : (script : List ℕ) (tile_rows tile_cols workers : ℕ) → Command

-- the script that a word names
abbrev pub script_named : List ℕ → Option (List ℕ)
script_named word = if is_file_word word then Some word else None

-- the digits do not begin with a zero before others
abbrev pub has_no_leading_zero : List ℕ → Bool
has_no_leading_zero (digit ∷ next ∷ more) = not (digit == zero_digit)
has_no_leading_zero other = true

-- the number, where it is written so and is not above the limit
abbrev pub number_within : ℕ → Bool → Option ℕ → Option ℕ
number_within most so None = None
number_within most so (Some number) = if so && nat_le number most then Some number else None

-- the number that a word writes: up to ten digits, without a sign and without a leading zero, not above the limit
abbrev pub number_named : ℕ → List ℕ → Option ℕ
number_named most word = number_within most (has_no_leading_zero word) (whole_number_of 10 word)

-- the greatest number of which a model is made: the last of 32 bits
abbrev pub last_model_number : ℕ
last_model_number = 4294967295

-- the command that two words give: `plain SCRIPT` or `make NUMBER`
abbrev pub command_named : List ℕ → List ℕ → Option Command
command_named word operand =
    if bytes_eq word (codes "plain") then option_map Plain (script_named operand)
    else if bytes_eq word (codes "make") then option_map Make (number_named last_model_number operand)
    else None

-- the command of `lue_plain` that the words give, where they give one
abbrev pub plain_command : List (List ℕ) → Option Command
plain_command (word ∷ operand ∷ []) = command_named word operand
plain_command other = None

-- how many workers a run by tiles may have
abbrev pub most_workers : ℕ
most_workers = 64

-- a number that is not 0
abbrev pub but_zero : ℕ → Option ℕ
but_zero number = if nat_le 1 number then Some number else None

-- the number that a word writes, which is at least 1 and not above the limit
abbrev pub positive_named : ℕ → List ℕ → Option ℕ
positive_named most word = option_and_then but_zero (number_named most word)

-- the run by tiles of a script, a tile's rows and columns and a number of workers, where each is there
abbrev pub by_tiles_of : Option (List ℕ) → Option ℕ → Option ℕ → Option ℕ → Option Command
by_tiles_of (Some script) (Some tile_rows) (Some tile_cols) (Some workers) = Some (ByTiles script tile_rows tile_cols workers)
by_tiles_of script tile_rows tile_cols workers = None

-- the run by tiles that four words tell
abbrev pub tiles_named : List ℕ → List ℕ → List ℕ → List ℕ → Option Command
tiles_named script tile_rows tile_cols workers =
    by_tiles_of (script_named script) (positive_named longest_tile_side tile_rows) (positive_named longest_tile_side tile_cols)
    (positive_named most_workers workers)

-- the command of `lue_main` that the words give, where they give one: `run SCRIPT TILEROWS TILECOLS WORKERS`
abbrev pub main_command : List (List ℕ) → Option Command
main_command (word ∷ script ∷ tile_rows ∷ tile_cols ∷ workers ∷ []) =
    if bytes_eq word (codes "run") then tiles_named script tile_rows tile_cols workers else None
main_command other = None
