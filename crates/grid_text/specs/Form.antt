-- The form of a grid text: pairs of a key word and a value, and then the cells.
use Rattle.std.specs.Prelude.{◌≡◌, ℕ, ◌*◌, ◌<◌, ◌≤◌, Bool, true, false, ◌&&◌, ◌||◌, List, [], ◌∷◌, ◌++◌, length, map, filter}
use Rattle.std.specs.Prelude.{codes, is_some, is_none, Some, None, Result, Ok, if◌then◌else◌}
use Rattle.std.specs.declared.option.Option.{Option}
use Rattle.std.specs.List.{list_all}
use Rattle.text_base.specs.Limits.{most_cells}
use Rattle.cell_values.specs.declared.kind.Kind.{Kind}
use Rattle.cell_values.specs.declared.cell.Cell.{Cell}
use Rattle.cell_values.specs.declared.cell.Cell.TheVariants.{Mv}
use Rattle.cell_values.specs.declared.cell.NumberFault.{NumberFault}
use Rattle.cell_values.specs.Decimal.{Decimal}
use Rattle.cell_values.specs.inside.Reading.{decimal_of}
use Rattle.cell_values.specs.inside.Reading.{cell_read, same_value}
use Rattle.grid_text.specs.declared.key.Key.{Key}
use Rattle.grid_text.specs.declared.key.Key.TheVariants.{Cols, Rows, X, Y, Size, Nodata}
use Rattle.grid_text.specs.declared.grid.Grid.{Grid}
use Rattle.grid_text.specs.declared.grid.Head.{Head}
use Rattle.text_base.specs.Tokens.{Token, tokens}
use Rattle.grid_text.specs.Key.{key_of, same_key, is_center, is_nan, is_value_of, side_of}

-- ---- the pairs

-- a key word and its value
pub record Pair : Type 0 where
  pub word : Token
  pub value : Token

-- the tokens of pairs, in order
abbrev pub tokens_of_pairs : List Pair → List Token
tokens_of_pairs [] = []
tokens_of_pairs (pair ∷ pairs) = pair.word ∷ pair.value ∷ tokens_of_pairs pairs

-- the key that is named, where one is, is this one
abbrev pub names : Option Key → Key → Bool
names None key = false
names (Some named) key = same_key named key

-- the pair's word names the key
abbrev pub is_pair_of : Key → Pair → Bool
is_pair_of key pair = names (key_of pair.word.bytes) key

-- the pairs that have the key
abbrev pub pairs_of : Key → List Pair → List Pair
pairs_of key pairs = filter (is_pair_of key) pairs

-- the values of the key, in order
abbrev pub values_of : Key → List Pair → List (List ℕ)
values_of key pairs = map (λ pair. pair.value.bytes) (pairs_of key pairs)

-- a value is one that the key may have, and there is a key
abbrev pub may_stand : Option Key → List ℕ → Bool
may_stand None value = false
may_stand (Some key) value = is_value_of key value

-- the pair has a key word, and its value is one that the key may have
abbrev pub is_head_pair : Pair → Bool
is_head_pair pair = may_stand (key_of pair.word.bytes) pair.value.bytes

-- no key word stands first
abbrev pub ends_pairs : List Token → Bool
ends_pairs [] = true
ends_pairs (token ∷ more) = is_none (key_of token.bytes)

-- ---- the head

-- a place and whether it is that of a center
abbrev pub placed : Pair → Bool × List ℕ
placed pair = (is_center pair.word.bytes, pair.value.bytes)

-- the token that stands for a missing cell where the head has none
abbrev pub default_nodata : List ℕ
default_nodata = codes "-9999"

-- the token that stands for a missing cell, by the values of its key
abbrev pub nodata_of : List (List ℕ) → Option (List ℕ)
nodata_of [] = Some default_nodata
nodata_of (value ∷ []) = Some value
nodata_of (value ∷ other ∷ more) = None

-- at least one row and one column, and not too many cells
pub record IsSize (rows cols : ℕ) : Type 0 where
  pub some_rows : 0 < rows
  pub some_cols : 0 < cols
  pub few : rows * cols ≤ most_cells

-- The pairs are a head: each has a value that its key may have, and each key stands once, with these values. The value
-- for missing cells alone may lack.
pub record IsHead (pairs : List Pair) (rows cols : ℕ) (head : Head) (nodata : List ℕ) : Type 0 where
  pub valued : list_all is_head_pair pairs ≡ true
  pub has_cols : map side_of (values_of Cols pairs) ≡ Some cols ∷ []
  pub has_rows : map side_of (values_of Rows pairs) ≡ Some rows ∷ []
  pub has_x : map placed (pairs_of X pairs) ≡ (head.x_center, head.x) ∷ []
  pub has_y : map placed (pairs_of Y pairs) ≡ (head.y_center, head.y) ∷ []
  pub has_size : values_of Size pairs ≡ head.size ∷ []
  pub has_nodata : nodata_of (values_of Nodata pairs) ≡ Some nodata
  pub within : IsSize rows cols

-- ---- the cells

-- both are decimals, and of one exact value
abbrev pub both_decimals : Option Decimal → Option Decimal → Bool
both_decimals (Some a) (Some b) = same_value a b
both_decimals _ _ = false

-- The token stands for a missing cell: it and that of the head are decimals of one exact value, or both are no number.
abbrev pub is_missing : List ℕ → List ℕ → Bool
is_missing nodata token = both_decimals (decimal_of nodata) (decimal_of token) || (is_nan nodata && is_nan token)

-- the cell that a token writes
unfoldable pub cell_of_token : Kind → List ℕ → List ℕ → Result Cell NumberFault
cell_of_token kind nodata token = if is_missing nodata token then Ok Mv else cell_read kind token

-- ---- the whole

-- the tokens are pairs that begin with key words, and then these others
pub record Begins (all : List Token) (pairs : List Pair) (rest : List Token) : Type 0 where
  pub parts : all ≡ tokens_of_pairs pairs ++ rest
  pub keyed : list_all (λ pair. is_some (key_of pair.word.bytes)) pairs ≡ true

-- The text is a grid of the kind with these values: pairs that are a head up to the first token that is no key word, and
-- then one token for each cell, row by row from the north.
pub record IsGrid (kind : Kind) (text : List ℕ) (grid : Grid) : Type 0 where
  pub pairs : List Pair
  pub cell_tokens : List Token
  pub nodata : List ℕ
  pub parts : Begins (tokens text) pairs cell_tokens
  pub ended : ends_pairs cell_tokens ≡ true
  pub head : IsHead pairs grid.rows grid.cols grid.head nodata
  pub count : length grid.cells ≡ grid.rows * grid.cols
  pub cells : map (λ token. cell_of_token kind nodata token.bytes) cell_tokens ≡ map Ok grid.cells
