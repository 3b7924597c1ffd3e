-- The words that name files.
use Rattle.std.specs.Prelude.{ℕ, Bool, false, ◌&&◌, List, [], ◌∷◌, length, nat_le}
use Rattle.std.specs.List.{list_all}
use Rattle.text_base.specs.Bytes.{is_word_byte, is_file_byte}
use Rattle.text_base.specs.Limits.{longest_word}

-- the text begins with a letter, a digit or `_`
abbrev pub begins_word : List ℕ → Bool
begins_word [] = false
begins_word (b ∷ bytes) = is_word_byte b

-- a word that names a file: 1 to 64 letters, digits, `_`, `.`, `-` and `+`, of which the first is a letter, a digit or `_`
abbrev pub is_file_word : List ℕ → Bool
is_file_word text = begins_word text && list_all is_file_byte text && nat_le (length text) longest_word
