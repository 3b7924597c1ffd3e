-- Bytes by name, and the classes of bytes that the texts are made of. Digits are those of std, `is_ascii_digit`.
use Rattle.std.specs.Prelude.{◌≡◌, ℕ, Bool, ◌||◌, ◌==◌, List, ◌++◌}
use Rattle.std.specs.Char.{is_ascii_alphabetic, is_ascii_digit}

-- the tab
abbrev pub tab : ℕ
tab = 9

-- the byte that ends a line
abbrev pub line_feed : ℕ
line_feed = 10

-- the byte that some programs write before a line feed
abbrev pub carriage_return : ℕ
carriage_return = 13

-- the space
abbrev pub space : ℕ
space = 32

-- `+`
abbrev pub plus : ℕ
plus = 43

-- `-`, the sign of negative numbers too
abbrev pub hyphen : ℕ
hyphen = 45

-- `.`
abbrev pub point : ℕ
point = 46

-- `0`, the first of the ten digits
abbrev pub zero_digit : ℕ
zero_digit = 48

-- `E`
abbrev pub capital_e : ℕ
capital_e = 69

-- `_`
abbrev pub underscore : ℕ
underscore = 95

-- `e`
abbrev pub small_e : ℕ
small_e = 101

-- a space, a tab, a carriage return or a line feed
abbrev pub is_blank : ℕ → Bool
is_blank b = (b == space) || (b == tab) || (b == carriage_return) || (b == line_feed)

-- a letter from `A` to `Z` or from `a` to `z`
abbrev pub is_letter : ℕ → Bool
is_letter b = is_ascii_alphabetic b

-- a letter, a digit or `_`
abbrev pub is_word_byte : ℕ → Bool
is_word_byte b = is_letter b || is_ascii_digit b || (b == underscore)

-- a letter, a digit, `_`, `.`, `-` or `+`
abbrev pub is_file_byte : ℕ → Bool
is_file_byte b = is_word_byte b || (b == point) || (b == hyphen) || (b == plus)

-- the text ends with these bytes
abbrev pub EndsWith : List ℕ → List ℕ → Type 0
EndsWith text end = (before : List ℕ) × (text ≡ before ++ end)
