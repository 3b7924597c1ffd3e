-- Words for the reader's own steps. What a reader of the crate is to believe stands in the files above.
use Rattle.std.specs.Prelude.{◌≡◌, ℕ, ◌*◌, ◌≤◌, ℤ, Bool, true, false, List, [], ◌∷◌, length, map, nat_le, is_some, unwrap_or, Some, None}
use Rattle.std.specs.Prelude.{Result, Ok, Err, if◌then◌else◌, ⊤}
use Rattle.std.specs.declared.option.Option.{Option}
use Rattle.std.specs.Ordering.{int_eq}
use Rattle.std.specs.Option.{option_map, option_and_then, option_to_list, ok_or}
use Rattle.text_base.specs.Limits.{most_cells}
use Rattle.text_base.specs.Results.{◌>>=◌}
use Rattle.text_base.specs.Tokens.{Token, ends_token, tokens, tokens_left}
use Rattle.cell_values.specs.declared.cell.Cell.{Cell}
use Rattle.cell_values.specs.declared.cell.Cell.TheVariants.{Mv, Val}
use Rattle.cell_values.specs.declared.cell.NumberFault.{NumberFault}
use Rattle.cell_values.specs.declared.kind.Kind.{Kind}
use Rattle.grid_text.specs.declared.head.Given as given
use Rattle.grid_text.specs.declared.head.Place as place
use Rattle.grid_text.specs.declared.head.Heading as heading
use Rattle.grid_text.specs.declared.key.Key.{Key}
use Rattle.grid_text.specs.declared.key.Key.TheVariants.{Cols, Rows, X, Y, Size, Nodata}
use Rattle.grid_text.specs.declared.fault.GridFault.{GridFault}
use Rattle.grid_text.specs.declared.fault.GridKind.TheVariants as kinds
use Rattle.grid_text.specs.declared.fault.ReadGrid.{ReadGrid}
use Rattle.grid_text.specs.declared.fault.ReadGrid.TheVariants.{Fault, Memory}
use Rattle.grid_text.specs.Key.{is_center, side_of, is_coordinate, is_cell_size, is_nodata}
use Rattle.grid_text.specs.Form.{Pair, cell_of_token, default_nodata, pairs_of, values_of, placed}
use Rattle.grid_text.specs.Faults.{fault_at}
use Rattle.grid_text.specs.inside.Reading.{cell_or_fault_at, pairs_from, Heading}

-- ---- tokens

-- no token goes on into the text, and behind a blank at its front, if one stands there, are these bytes
pub record EndsTokenBefore (text behind : List ℕ) : Type 0 where
  pub ends : ends_token text ≡ true
  pub shorter : length behind ≤ length text
  pub same : (text_len : ℕ) → length text ≤ text_len → tokens_left text_len behind ≡ tokens_left text_len text

-- the first token of the bytes writes this cell, and these are the bytes behind it
pub record BeginsWithCell (kind : Kind) (nodata : List ℕ) (text_len : ℕ) (bytes : List ℕ) (cell : Cell) (behind : List ℕ) : Type 0 where
  pub token : Token
  pub first : tokens_left text_len bytes ≡ token ∷ tokens_left text_len behind
  pub read : cell_or_fault_at token.at (cell_of_token kind nodata token.bytes) ≡ Ok cell
  pub within : length behind ≤ text_len

-- no cell stands at the front of the bytes: they have no token, or the first one is at fault
pub data BeginsWithFault (kind : Kind) (nodata : List ℕ) (text_len : ℕ) (bytes : List ℕ) (fault : GridFault) : Type 0 where
  NoToken : tokens_left text_len bytes ≡ [] → fault ≡ fault_at kinds.Count text_len
      → BeginsWithFault kind nodata text_len bytes fault
  NoCell : (token : Token) (rest : List Token) → tokens_left text_len bytes ≡ token ∷ rest
      → cell_or_fault_at token.at (cell_of_token kind nodata token.bytes) ≡ Err fault → BeginsWithFault kind nodata text_len bytes fault

-- ---- answers

-- a part of the reader that fails tells what is to be told, unless memory runs out
abbrev pub Fails : {Y : Type 0} → ReadGrid → Result Y GridFault → Type 0
Fails (Fault fault) read = read ≡ Err fault
Fails Memory read = ⊤

-- what a part of the reader answers, seen by view, is what is to be read, unless memory runs out
abbrev pub Gives : {X Y : Type 0} → (X → Y) → Result X ReadGrid → Result Y GridFault → Type 0
Gives view (Ok x) read = read ≡ Ok (view x)
Gives view (Err e) read = Fails e read

-- ---- the pairs

-- what the pairs so far have given
pub record Values : Type 0 where
  pub cols : Option ℕ
  pub rows : Option ℕ
  pub x : Option (Bool × List ℕ)
  pub y : Option (Bool × List ℕ)
  pub size : Option (List ℕ)
  pub nodata : Option (List ℕ)

-- a place with slices of a text, as contracts see it
abbrev pub place_view : place.Place → Bool × List ℕ
place_view p = (p.center, p.value.now)

-- values with slices of a text, as contracts see them
abbrev pub given_view : given.Given → Values
given_view g = record {
  cols = g.cols;
  rows = g.rows;
  x = option_map place_view g.x;
  y = option_map place_view g.y;
  size = option_map (λ v. v.now) g.size;
  nodata = option_map (λ v. v.now) g.nodata;
}

-- the values are those of the pairs
pub record AreValues (pairs : List Pair) (given : Values) : Type 0 where
  pub cols : map side_of (values_of Cols pairs) ≡ map (λ n. Some n) (option_to_list given.cols)
  pub rows : map side_of (values_of Rows pairs) ≡ map (λ n. Some n) (option_to_list given.rows)
  pub x : map placed (pairs_of X pairs) ≡ option_to_list given.x
  pub y : map placed (pairs_of Y pairs) ≡ option_to_list given.y
  pub size : values_of Size pairs ≡ option_to_list given.size
  pub nodata : values_of Nodata pairs ≡ option_to_list given.nodata

-- the key has come
abbrev pub has_come : Key → Values → Bool
has_come Cols given = is_some given.cols
has_come Rows given = is_some given.rows
has_come X given = is_some given.x
has_come Y given = is_some given.y
has_come Size given = is_some given.size
has_come Nodata given = is_some given.nodata

-- a side, where it gives not too many cells with the other one
abbrev pub side_beside : Option ℕ → Option ℕ → Option ℕ
side_beside side other = option_and_then (λ n. if nat_le (n * unwrap_or other 1) most_cells then Some n else None) side

-- a value, where it may stand
abbrev pub where_good : {A : Type 0} → Bool → A → Option A
where_good good a = if good then Some a else None

-- a place, where it is a coordinate
abbrev pub place_given : List ℕ → List ℕ → Option (Bool × List ℕ)
place_given word value = where_good (is_coordinate value) (is_center word, value)

-- the values with one more
abbrev pub with_value : Key → List ℕ → List ℕ → Values → Option Values
with_value Cols word value given = option_map (λ n. record given { cols = Some n }) (side_beside (side_of value) given.rows)
with_value Rows word value given = option_map (λ n. record given { rows = Some n }) (side_beside (side_of value) given.cols)
with_value X word value given = option_map (λ p. record given { x = Some p }) (place_given word value)
with_value Y word value given = option_map (λ p. record given { y = Some p }) (place_given word value)
with_value Size word value given = where_good (is_cell_size value) (record given { size = Some value })
with_value Nodata word value given = where_good (is_nodata value) (record given { nodata = Some value })

-- The pairs of the text are read up to the last bytes of it, and have given these values.
pub record ReadsPairs (text : List ℕ) (given : Values) (rest : List ℕ) : Type 0 where
  pub pairs : List Pair
  pub read : pairs_from (length text) [] (tokens text) ≡ Ok (pairs, tokens_left (length text) rest)
  pub values : AreValues pairs given
  pub within : length rest ≤ length text

-- ---- the head

-- a heading with slices of a text, as contracts see it
abbrev pub heading_view : heading.Heading → Heading
heading_view f = record { rows = f.rows; cols = f.cols; head = f.head; nodata = f.nodata.now }

-- the head that the values are, or a fault
unfoldable pub heading_given : GridFault → Values → Result Heading GridFault
heading_given fault given = do
  cols ← ok_or given.cols fault
  rows ← ok_or given.rows fault
  x ← ok_or given.x fault
  y ← ok_or given.y fault
  size ← ok_or given.size fault
  Ok (record {
    rows = rows;
    cols = cols;
    head = record { x_center = x.0; y_center = y.0; x = x.1; y = y.1; size = size };
    nodata = unwrap_or given.nodata default_nodata;
  })

-- ---- the cells

-- the number of a cell that is read
abbrev pub number_of_cell : Result Cell NumberFault → Option ℤ
number_of_cell (Ok (Val n)) = Some n
number_of_cell (Ok Mv) = None
number_of_cell (Err e) = None

-- What is read may be what has this number: a number is compared, and all else may be.
abbrev pub is_maybe_missing : Option ℤ → Result Cell NumberFault → Bool
is_maybe_missing (Some m) (Ok (Val n)) = int_eq m n
is_maybe_missing None (Ok (Val n)) = false
is_maybe_missing number (Ok Mv) = true
is_maybe_missing number (Err e) = true
