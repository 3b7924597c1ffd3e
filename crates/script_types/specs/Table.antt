-- The table of operations by its words: which row a word and a number of operands name, and where it may stand.
use Rattle.std.specs.Prelude.{ℕ, Bool, true, false, ◌&&◌, ◌==◌, List, Option, Some, None}
use Rattle.std.specs.List.{find, before_first}
use Rattle.std.specs.Str.{bytes_eq}
use Rattle.text_base.specs.Bytes.{space}
use Rattle.cell_values.specs.declared.kind.Kind.TheVariants.{Scalar, Ldd}
use Rattle.map_meaning.specs.declared.op.Op.{Op}
use Rattle.map_meaning.specs.declared.op.Op.TheVariants.{CopyOf}
use Rattle.map_meaning.specs.declared.row.Row.{Row}
use Rattle.map_meaning.specs.declared.row.Ask.{Ask}
use Rattle.map_meaning.specs.declared.row.Ask.TheVariants as ask
use Rattle.map_meaning.specs.declared.row.Meant.{Meant}
use Rattle.map_meaning.specs.declared.row.Meant.TheVariants as meant
use Rattle.map_meaning.specs.declared.row.Stands.{Stands}
use Rattle.map_meaning.specs.declared.row.Stands.TheVariants as stands
use Rattle.map_meaning.specs.Table.{table_rows, ask_at, is_length, takes}

-- the row is written so
abbrev pub is_spelled : Row → List ℕ → Bool
is_spelled row word = bytes_eq (before_first (λ byte. byte == space) row.word) word

-- the row that is written so and takes this many operands
unfoldable pub row_for : List ℕ → ℕ → Option Row
row_for word count = find (λ row. is_spelled row word && takes row count) table_rows

-- The first row that is written so, whatever it takes: it says what a first operand is used as, and where the word may stand.
unfoldable pub word_row : List ℕ → Option Row
word_row word = find (λ row. is_spelled row word) table_rows

-- what the first operand is asked
abbrev pub first_ask : Option Row → Ask
first_ask None = ask.Only Scalar
first_ask (Some r) = ask_at r 0

-- where the word may stand
abbrev pub stands_of : Option Row → Stands
stands_of None = stands.Anywhere
stands_of (Some row) = row.stands

-- the word is that of a window
abbrev pub is_window : Option Row → Bool
is_window None = false
is_window (Some r) = is_length (ask_at r 1)

-- the place asks a drain map
abbrev pub asks_drain : Ask → Bool
asks_drain (ask.Only Ldd) = true
asks_drain _ = false

-- The operation that the row stands for, if it stands for one.
abbrev pub op_of : Meant → Op
op_of (meant.Op o) = o
op_of _ = CopyOf
