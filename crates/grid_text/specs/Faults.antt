-- What is wrong with a text that is no grid, and the first of it.
use Rattle.std.specs.Prelude.{◌≡◌, ◌≢◌, ℕ, ◌*◌, ◌<◌, ◌≤◌, Bool, true, false, List, [], ◌∷◌, ◌++◌, length, nat_lt, Some, None, Err}
use Rattle.std.specs.Prelude.{unwrap_or}
use Rattle.text_base.specs.Limits.{most_cells}
use Rattle.std.specs.declared.option.Option.{Option}
use Rattle.cell_values.specs.declared.kind.Kind.{Kind}
use Rattle.cell_values.specs.declared.cell.NumberFault.TheVariants as numbers
use Rattle.grid_text.specs.declared.key.Key.{Key}
use Rattle.grid_text.specs.declared.key.Key.TheVariants.{Cols, Rows, X, Y, Size, Nodata}
use Rattle.grid_text.specs.declared.grid.Head.{Head}
use Rattle.grid_text.specs.declared.fault.GridFault.{GridFault}
use Rattle.grid_text.specs.declared.fault.GridKind.{GridKind}
use Rattle.grid_text.specs.declared.fault.GridKind.TheVariants as kinds
use Rattle.text_base.specs.Tokens.{Token, tokens}
use Rattle.grid_text.specs.Key.{key_of, is_required, is_value_of, side_of}
use Rattle.grid_text.specs.Form.{Pair, pairs_of, values_of, ends_pairs, IsHead, Begins, cell_of_token}

-- a fault of a kind at a place
abbrev pub fault_at : GridKind → ℕ → GridFault
fault_at kind at = record { kind = kind; at = at }

-- the place of the first of these tokens, or the text's length where there is none
abbrev pub place_of : ℕ → List Token → ℕ
place_of text_len [] = text_len
place_of text_len (token ∷ more) = token.at

-- the other side of the grid where it stands before, and else 1
abbrev pub side_before : List (List ℕ) → ℕ
side_before [] = 1
side_before (value ∷ more) = unwrap_or (side_of value) 1

-- a side and the other one give too many cells
abbrev pub are_too_many : Option ℕ → ℕ → Bool
are_too_many None other = false
are_too_many (Some side) other = nat_lt most_cells (side * other)

-- the value of a side gives too many cells, alone or with the other side where that stands before
abbrev pub is_too_large : Key → List ℕ → List Pair → Bool
is_too_large Cols value before = are_too_many (side_of value) (side_before (values_of Rows before))
is_too_large Rows value before = are_too_many (side_of value) (side_before (values_of Cols before))
is_too_large X value before = false
is_too_large Y value before = false
is_too_large Size value before = false
is_too_large Nodata value before = false

-- A fault that stands right behind these pairs, where the rest of the text begins: one case for each row of the table.
pub data HeadFault (text_len : ℕ) (pairs : List Pair) (rest : List Token) (fault : GridFault) : Type 0 where
  -- a key word, or the other form of its corner, a second time
  Again : (word : Token) (more : List Token) (key : Key)
      → rest ≡ word ∷ more → key_of word.bytes ≡ Some key
      → pairs_of key pairs ≢ []
      → fault ≡ fault_at kinds.Head word.at → HeadFault text_len pairs rest fault
  -- a value that its key may not have
  NoValue : (word value : Token) (more : List Token) (key : Key)
      → rest ≡ word ∷ value ∷ more → key_of word.bytes ≡ Some key
      → is_value_of key value.bytes ≡ false
      → fault ≡ fault_at kinds.Head value.at → HeadFault text_len pairs rest fault
  -- a number of rows or columns that gives too many cells
  TooLarge : (word value : Token) (more : List Token) (key : Key)
      → rest ≡ word ∷ value ∷ more → key_of word.bytes ≡ Some key
      → is_too_large key value.bytes pairs ≡ true
      → fault ≡ fault_at kinds.Head value.at → HeadFault text_len pairs rest fault
  -- a key that is required and has not come when the pairs end
  Lacking : (key : Key)
      → ends_pairs rest ≡ true
      → is_required key ≡ true → pairs_of key pairs ≡ []
      → fault ≡ fault_at kinds.Head (place_of text_len rest) → HeadFault text_len pairs rest fault
  -- a key word at the text's end
  Alone : (word : Token) (key : Key)
      → rest ≡ word ∷ [] → key_of word.bytes ≡ Some key
      → fault ≡ fault_at kinds.Head text_len → HeadFault text_len pairs rest fault

-- A fault of the cells, behind a head that has none: one case for each row of the table.
pub data CellFault (kind : Kind) (text_len count : ℕ) (nodata : List ℕ) (cells : List Token) (fault : GridFault) : Type 0 where
  -- a token that is no decimal and stands for no missing cell
  NoDecimal : (before more : List Token) (token : Token)
      → cells ≡ before ++ token ∷ more → length before < count
      → cell_of_token kind nodata token.bytes ≡ Err numbers.BadNumber
      → fault ≡ fault_at kinds.BadNumber token.at → CellFault kind text_len count nodata cells fault
  -- a decimal without a value of the kind
  OutOfRange : (before more : List Token) (token : Token)
      → cells ≡ before ++ token ∷ more → length before < count
      → cell_of_token kind nodata token.bytes ≡ Err numbers.Range
      → fault ≡ fault_at kinds.Range token.at → CellFault kind text_len count nodata cells fault
  -- a token after the last cell
  Beyond : (before more : List Token) (token : Token)
      → cells ≡ before ++ token ∷ more → count ≤ length before
      → fault ≡ fault_at kinds.Count token.at → CellFault kind text_len count nodata cells fault
  -- too few cells
  TooFew : length cells < count → fault ≡ fault_at kinds.Count text_len → CellFault kind text_len count nodata cells fault

-- The text has the fault. The cells are looked at where the head has no fault, so at one place only one fault stands.
pub data HasFault (kind : Kind) (text : List ℕ) (fault : GridFault) : Type 0 where
  InHead : (pairs : List Pair) (rest : List Token)
      → Begins (tokens text) pairs rest
      → HeadFault (length text) pairs rest fault → HasFault kind text fault
  InCells : (pairs : List Pair) (cells : List Token) (rows cols : ℕ) (head : Head) (nodata : List ℕ)
      → Begins (tokens text) pairs cells → ends_pairs cells ≡ true
      → IsHead pairs rows cols head nodata
      → CellFault kind (length text) (rows * cols) nodata cells fault → HasFault kind text fault

-- the fault of a text before which none stands
pub record IsFirstFault (kind : Kind) (text : List ℕ) (fault : GridFault) : Type 0 where
  pub here : HasFault kind text fault
  pub first : (other : GridFault) → HasFault kind text other → fault.at ≤ other.at
