-- The reading of a grid text as a function, for the course of a run: its grid or its first fault. What it means is said by
-- the form and by the table of faults, and laws tie it to them.
use Rattle.std.specs.Prelude.{ℕ, zero, suc, ◌*◌, Bool, true, false, ◌&&◌, not, List, [], ◌∷◌, ◌++◌, length, map, Some, None}
use Rattle.std.specs.Prelude.{Result, Ok, Err, if◌then◌else◌}
use Rattle.std.specs.declared.option.Option.{Option}
use Rattle.text_base.specs.Results.{◌>>=◌}
use Rattle.text_base.specs.Tokens.{Token, tokens}
use Rattle.cell_values.specs.declared.kind.Kind.{Kind}
use Rattle.cell_values.specs.declared.cell.Cell.{Cell}
use Rattle.cell_values.specs.declared.cell.NumberFault.{NumberFault}
use Rattle.cell_values.specs.declared.cell.NumberFault.TheVariants as numbers
use Rattle.grid_text.specs.declared.key.Key.{Key}
use Rattle.grid_text.specs.declared.key.Key.TheVariants.{Cols, Rows, X, Y, Size, Nodata}
use Rattle.grid_text.specs.declared.grid.Grid.{Grid}
use Rattle.grid_text.specs.declared.grid.Head.{Head}
use Rattle.grid_text.specs.declared.fault.GridFault.{GridFault}
use Rattle.grid_text.specs.declared.fault.GridKind.TheVariants as kinds
use Rattle.grid_text.specs.Key.{key_of, is_value_of, side_of}
use Rattle.grid_text.specs.Form.{Pair, pairs_of, values_of, placed, nodata_of, cell_of_token}
use Rattle.grid_text.specs.Faults.{fault_at, place_of, is_too_large}

-- ---- the pairs

-- there is something in the list
abbrev pub is_filled : {X : Type 0} → List X → Bool
is_filled [] = false
is_filled (x ∷ xs) = true

-- a key word without a value at the text's end, behind these pairs
abbrev pub word_alone : ℕ → List Pair → Token → Option Key → Result (List Pair × List Token) GridFault
word_alone text_len before word None = Ok (before, word ∷ [])
word_alone text_len before word (Some key) = Err (fault_at kinds.Head (if is_filled (pairs_of key before) then word.at else text_len))

-- the value may stand behind its key
abbrev pub is_taken : Key → List ℕ → List Pair → Bool
is_taken key value before = is_value_of key value && not (is_too_large key value before)

-- two tokens behind these pairs, and what comes where they are a pair
abbrev pub pair_taken : List Pair → Token → Token → List Token → Option Key → Result (List Pair × List Token) GridFault
    → Result (List Pair × List Token) GridFault
pair_taken before word value rest None next = Ok (before, word ∷ value ∷ rest)
pair_taken before word value rest (Some key) next =
    if is_filled (pairs_of key before) then Err (fault_at kinds.Head word.at) else
    if is_taken key value.bytes before then next else
    Err (fault_at kinds.Head value.at)

-- all pairs, the first of which are these, and the tokens behind them
unfoldable pub pairs_from : ℕ → List Pair → List Token → Result (List Pair × List Token) GridFault
pairs_from text_len before [] = Ok (before, [])
pairs_from text_len before (word ∷ []) = word_alone text_len before word (key_of word.bytes)
pairs_from text_len before (word ∷ value ∷ rest) =
    pair_taken before word value rest (key_of word.bytes)
    (pairs_from text_len (before ++ record { word = word; value = value } ∷ []) rest)

-- ---- the head

-- what a head says
pub record Heading : Type 0 where
  pub rows : ℕ
  pub cols : ℕ
  pub head : Head
  pub nodata : List ℕ

-- the first of a list, or a fault
abbrev pub first_or : {X : Type 0} → GridFault → List X → Result X GridFault
first_or fault [] = Err fault
first_or fault (x ∷ xs) = Ok x

-- the value, or a fault
abbrev pub some_or : {X : Type 0} → GridFault → Option X → Result X GridFault
some_or fault None = Err fault
some_or fault (Some x) = Ok x

-- the head that these pairs are, or a fault at their end
unfoldable pub heading_of : GridFault → List Pair → Result Heading GridFault
heading_of fault pairs = do
  cols_value ← first_or fault (values_of Cols pairs)
  cols ← some_or fault (side_of cols_value)
  rows_value ← first_or fault (values_of Rows pairs)
  rows ← some_or fault (side_of rows_value)
  x ← first_or fault (map placed (pairs_of X pairs))
  y ← first_or fault (map placed (pairs_of Y pairs))
  size ← first_or fault (values_of Size pairs)
  nodata ← some_or fault (nodata_of (values_of Nodata pairs))
  Ok (record {
    rows = rows;
    cols = cols;
    head = record { x_center = x.0; y_center = y.0; x = x.1; y = y.1; size = size };
    nodata = nodata;
  })

-- ---- the cells

-- a cell, or the fault of its token
abbrev pub cell_or_fault_at : ℕ → Result Cell NumberFault → Result Cell GridFault
cell_or_fault_at at (Ok cell) = Ok cell
cell_or_fault_at at (Err numbers.BadNumber) = Err (fault_at kinds.BadNumber at)
cell_or_fault_at at (Err numbers.Range) = Err (fault_at kinds.Range at)

-- just so many cells
unfoldable pub cells_from : Kind → List ℕ → ℕ → ℕ → List Token → Result (List Cell) GridFault
cells_from kind nodata text_len zero [] = Ok []
cells_from kind nodata text_len zero (token ∷ more) = Err (fault_at kinds.Count token.at)
cells_from kind nodata text_len (suc n) [] = Err (fault_at kinds.Count text_len)
cells_from kind nodata text_len (suc n) (token ∷ more) = do
  cell ← cell_or_fault_at token.at (cell_of_token kind nodata token.bytes)
  cells ← cells_from kind nodata text_len n more
  Ok (cell ∷ cells)

-- ---- the whole

-- the grid that a text is, or its first fault
unfoldable pub grid_of : Kind → List ℕ → Result Grid GridFault
grid_of kind text = do
  found ← pairs_from (length text) [] (tokens text)
  front ← heading_of (fault_at kinds.Head (place_of (length text) found.1)) found.0
  cells ← cells_from kind front.nodata (length text) (front.rows * front.cols) found.1
  Ok (record { rows = front.rows; cols = front.cols; head = front.head; cells = cells })
