-- The limits that several crates share.
use Rattle.std.specs.Prelude.{ℕ}

-- the most cells of a map: 2,048 rows of 2,048
abbrev pub most_cells : ℕ
most_cells = 4194304

-- the most bytes of a text that is read: 2 ^ 28
abbrev pub most_text_bytes : ℕ
most_text_bytes = 268435456

-- the most bytes of a script: 2 ^ 20
abbrev pub most_script_bytes : ℕ
most_script_bytes = 1048576

-- the most bytes of a name and of a file word
abbrev pub longest_word : ℕ
longest_word = 64

-- the most bytes of a decimal
abbrev pub longest_number : ℕ
longest_number = 128
