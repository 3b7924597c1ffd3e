-- The edition of a script. Its first line, which is a comment, may ask that time series are sampled by the mean.
use Rattle.std.specs.Prelude.{ℕ, Bool, true, false, ◌&&◌, ◌||◌, ◌==◌, List, [], ◌∷◌, codes, drop, length, take}
use Rattle.std.specs.Str.{bytes_eq}
use Rattle.text_base.specs.Bytes.{carriage_return, line_feed}

-- the line that asks for means
abbrev pub mean_line : List ℕ
mean_line = codes "#! timeoutput mean"

-- a line ends before these bytes: they are none, or begin with a line feed, or with a carriage return and a line feed
abbrev pub is_line_end : List ℕ → Bool
is_line_end [] = true
is_line_end (b ∷ []) = b == line_feed
is_line_end (b ∷ c ∷ bytes) = (b == line_feed) || ((b == carriage_return) && (c == line_feed))

-- the first line of the text asks for means
unfoldable pub asks_mean : List ℕ → Bool
asks_mean text = bytes_eq (take (length mean_line) text) mean_line && is_line_end (drop (length mean_line) text)
