-- A written text is read back.
use Rattle.std.proofs.Common.{◌≡◌, ℕ, zero, suc, ◌+◌, ◌*◌, ◌^◌, ◌<◌, ◌≤◌, Bool, true, false, cond, List, [], ◌∷◌, ◌++◌, length, take, drop, map, Some, None, Ok, ℤ, lit<, refl, sym, ap, subst, ◌∙◌, append_assoc, mul_comm, arith}
use Rattle.std.specs.Prelude.{codes, decimal, filter, is_some, is_none, nat_le}
use Rattle.std.specs.declared.option.Option.{Option}
use Rattle.std.specs.Option.{option_and_then}
use Rattle.std.specs.Char.{to_ascii_lowercase}
use Rattle.std.specs.List.{All, list_all}
use Rattle.std.proofs.lemmas.Bool.{and_parts, and_from, or_from, ne_eqb, lt-ltb, false_from_ne_true}
use Rattle.std.proofs.lemmas.List.{nil_from_length, take-append-drop, map-append, length-drop}
use Rattle.std.proofs.lemmas.List.Elements.{All-head, All-tail, All-take, All-drop}
use Rattle.cell_values.specs.declared.cell.Cell.{Cell}
use Rattle.cell_values.specs.declared.cell.Cell.TheVariants.{Mv, Val}
use Rattle.cell_values.specs.declared.kind.Kind.{Kind}
use Rattle.cell_values.specs.Kinds.{IsCell}
use Rattle.cell_values.specs.Decimal.{Decimal, IsDecimalText}
use Rattle.cell_values.specs.inside.Reading.{decimal_of}
use Rattle.cell_values.specs.inside.Printed.{printed_cell}
use Rattle.cell_values.specs.inside.Reading.{same_value}
use Rattle.cell_values.proofs.Callers.{decimal-missing, decimal-some, decimal-visible, missing_decimal, printed-back, printed-decimal, printed-not_missing, same_value-means, some-from_text, text-from_some}
use Rattle.grid_text.specs.declared.key.Key.{Key}
use Rattle.grid_text.specs.declared.key.Key.TheVariants.{Cols, Rows, X, Y, Size, Nodata}
use Rattle.grid_text.specs.declared.grid.Grid.{Grid}
use Rattle.grid_text.specs.declared.grid.Head.{Head}
use Rattle.text_base.specs.Tokens.{Token, tokens_at, tokens}
use Rattle.text_base.specs.Bytes.{is_blank}
use Rattle.grid_text.specs.Key.{is_word, key_of, is_center, above_zero, side_of, is_positive, is_coordinate, is_cell_size, is_nodata}
use Rattle.grid_text.specs.Form.{Pair, tokens_of_pairs, names, is_pair_of, pairs_of, values_of, may_stand, is_head_pair, ends_pairs, placed, nodata_of, IsSize, IsHead, both_decimals, is_missing, cell_of_token, IsGrid}
use Rattle.grid_text.specs.Written.{key_line, head_lines, behind_cell, row_line, row_lines, written_grid, text_of, AreGridValues, WrittenGridsReadBack}
use Rattle.text_base.specs.inside.Steps.{is_token_byte}
use Rattle.text_base.proofs.Callers.{IsTokenWord, bool_cases, decimal_digits, digits_token, head_is, ok_is, option_cases, tail_is, tokens_at-blank, tokens_at-run, whole_number_of-decimal}
use Rattle.grid_text.proofs.WordLaws.{decimal_token, flat, head_pairs, head_words, rows_words}
use Rattle.grid_text.proofs.ValueLaws.{word_none, nodata_missing, cell_missing, cell_there}
use Rattle.grid_text.proofs.Laws.{keyed_of, grid_is}

-- ---- the tokens of words

-- tokens that are pairs of these words, and others behind
record Split (kvs : List (List ℕ × List ℕ)) (words : List (List ℕ)) (ts : List Token) : Type 0 where
  pairs : List Pair
  rest : List Token
  parts : ts ≡ tokens_of_pairs pairs ++ rest
  front : map (λ (p : Pair). (p.word.bytes, p.value.bytes)) pairs ≡ kvs
  back : map (λ (t : Token). t.bytes) rest ≡ words

split_of : (kvs : List (List ℕ × List ℕ)) (words : List (List ℕ)) (ts : List Token) → map (λ (t : Token). t.bytes) ts ≡ flat kvs ++ words → Split kvs words ts
split_of [] words ts e = record { pairs = []; rest = ts; parts = refl; front = refl; back = e }
split_of (kv ∷ kvs) words [] e = absurd (cc)
split_of (kv ∷ kvs) words (t ∷ []) e = absurd (cc)
split_of (kv ∷ kvs) words (t ∷ u ∷ ts) e =
    let s = split_of kvs words ts (tail_is _ _ _ _ (tail_is _ _ _ _ e)) in
    let first : t.bytes ≡ kv.0 = head_is _ _ _ _ e in
    let second : u.bytes ≡ kv.1 = head_is _ _ _ _ (tail_is _ _ _ _ e) in
    record {
      pairs = record { word = t; value = u } ∷ s.pairs;
      rest = s.rest;
      parts = ap (λ us. t ∷ u ∷ us) s.parts;
      front = ap (λ (w : List ℕ). (w, u.bytes) ∷ map (λ (p : Pair). (p.word.bytes, p.value.bytes)) s.pairs) first ∙ ap (λ (w : List ℕ). (kv.0, w) ∷ map (λ (p : Pair). (p.word.bytes, p.value.bytes)) s.pairs) second ∙ ap (λ ks. kv ∷ ks) s.front;
      back = s.back;
    }

-- what the pairs of a key say is said by their words
abbrev pub named : Key → List (List ℕ × List ℕ) → List (List ℕ × List ℕ)
named key kvs = filter (λ kv. names (key_of kv.0) key) kvs

named_pairs : (key : Key) (pairs : List Pair) → map (λ (p : Pair). (p.word.bytes, p.value.bytes)) (pairs_of key pairs) ≡ named key (map (λ (p : Pair). (p.word.bytes, p.value.bytes)) pairs)
named_pairs key [] = refl
named_pairs key (p ∷ ps) = bool_cases (is_pair_of key p)
    (λ own. ap (λ b. map (λ (q : Pair). (q.word.bytes, q.value.bytes)) (cond b (p ∷ pairs_of key ps) (pairs_of key ps))) own
    ∙ ap (λ kvs. (p.word.bytes, p.value.bytes) ∷ kvs) (named_pairs key ps)
    ∙ sym (ap (λ b. cond b ((p.word.bytes, p.value.bytes) ∷ named key (map (λ (q : Pair). (q.word.bytes, q.value.bytes)) ps)) (named key (map (λ (q : Pair). (q.word.bytes, q.value.bytes)) ps))) own))
    (λ other. ap (λ b. map (λ (q : Pair). (q.word.bytes, q.value.bytes)) (cond b (p ∷ pairs_of key ps) (pairs_of key ps))) other
    ∙ named_pairs key ps
    ∙ sym (ap (λ b. cond b ((p.word.bytes, p.value.bytes) ∷ named key (map (λ (q : Pair). (q.word.bytes, q.value.bytes)) ps)) (named key (map (λ (q : Pair). (q.word.bytes, q.value.bytes)) ps))) other))

map_map : {A B C : Type 0} (f : A → B) (g : B → C) (xs : List A) → map (λ x. g (f x)) xs ≡ map g (map f xs)
map_map f g [] = refl
map_map f g (x ∷ xs) = ap (λ ys. g (f x) ∷ ys) (map_map f g xs)

pub values_named : (key : Key) (pairs : List Pair) (kvs found : List (List ℕ × List ℕ)) → map (λ (p : Pair). (p.word.bytes, p.value.bytes)) pairs ≡ kvs → named key kvs ≡ found → values_of key pairs ≡ map (λ kv. kv.1) found
values_named key pairs kvs found e n = map_map (λ (p : Pair). (p.word.bytes, p.value.bytes)) (λ kv. kv.1) (pairs_of key pairs) ∙ ap (map (λ kv. kv.1)) (named_pairs key pairs ∙ ap (named key) e ∙ n)

-- a place, by the words of its pair
abbrev pub placed_words : List ℕ × List ℕ → Bool × List ℕ
placed_words kv = (is_center kv.0, kv.1)

pub placed_named : (key : Key) (pairs : List Pair) (kvs found : List (List ℕ × List ℕ)) → map (λ (p : Pair). (p.word.bytes, p.value.bytes)) pairs ≡ kvs → named key kvs ≡ found → map placed (pairs_of key pairs) ≡ map placed_words found
placed_named key pairs kvs found e n = map_map (λ (p : Pair). (p.word.bytes, p.value.bytes)) placed_words (pairs_of key pairs) ∙ ap (map placed_words) (named_pairs key pairs ∙ ap (named key) e ∙ n)

valued_words : (pairs : List Pair) (kvs : List (List ℕ × List ℕ)) → map (λ (p : Pair). (p.word.bytes, p.value.bytes)) pairs ≡ kvs → list_all (λ kv. may_stand (key_of kv.0) kv.1) kvs ≡ true → list_all is_head_pair pairs ≡ true
valued_words [] kvs e all = refl
valued_words (p ∷ ps) [] e all = absurd (cc)
valued_words (p ∷ ps) (kv ∷ kvs) e all =
    let parts = and_parts (may_stand (key_of kv.0) kv.1) (list_all (λ kv. may_stand (key_of kv.0) kv.1) kvs) all in
    let here : (p.word.bytes, p.value.bytes) ≡ kv = head_is _ _ _ _ e in
    and_from _ _ (subst (λ (x : List ℕ × List ℕ). may_stand (key_of x.0) x.1 ≡ true) (sym here) parts.0) (valued_words ps kvs (tail_is _ _ _ _ e) parts.1)

-- ---- the head

-- which of the pairs has each key
pub record AreNamed (rows cols : ℕ) (h : Head) : Type 0 where
  has_cols : named Cols (head_pairs rows cols h) ≡ (codes "ncols", decimal cols) ∷ []
  has_rows : named Rows (head_pairs rows cols h) ≡ (codes "nrows", decimal rows) ∷ []
  has_x : map placed_words (named X (head_pairs rows cols h)) ≡ (h.x_center, h.x) ∷ []
  has_y : map placed_words (named Y (head_pairs rows cols h)) ≡ (h.y_center, h.y) ∷ []
  has_size : named Size (head_pairs rows cols h) ≡ (codes "cellsize", h.size) ∷ []
  has_nodata : named Nodata (head_pairs rows cols h) ≡ (codes "NODATA_value", codes "1e31") ∷ []

named_by : (rows cols : ℕ) (x_center y_center : Bool) (x y size : List ℕ) → AreNamed rows cols (record { x_center = x_center; y_center = y_center; x = x; y = y; size = size })
unfolding key_of
named_by rows cols true true x y size = record { has_cols = refl; has_rows = refl; has_x = refl; has_y = refl; has_size = refl; has_nodata = refl }
named_by rows cols true false x y size = record { has_cols = refl; has_rows = refl; has_x = refl; has_y = refl; has_size = refl; has_nodata = refl }
named_by rows cols false true x y size = record { has_cols = refl; has_rows = refl; has_x = refl; has_y = refl; has_size = refl; has_nodata = refl }
named_by rows cols false false x y size = record { has_cols = refl; has_rows = refl; has_x = refl; has_y = refl; has_size = refl; has_nodata = refl }

x_stands : (center : Bool) (value : List ℕ) → is_coordinate value ≡ true → may_stand (key_of (cond center (codes "xllcenter") (codes "xllcorner"))) value ≡ true
unfolding key_of
x_stands true value e = e
x_stands false value e = e

y_stands : (center : Bool) (value : List ℕ) → is_coordinate value ≡ true → may_stand (key_of (cond center (codes "yllcenter") (codes "yllcorner"))) value ≡ true
unfolding key_of
y_stands true value e = e
y_stands false value e = e

missing_stands : is_nodata (codes "1e31") ≡ true
unfolding decimal_of
missing_stands = refl

pub written_side : (n : ℕ) → 0 < n → n ≤ 4194304 → side_of (decimal n) ≡ Some n
unfolding side_of
written_side n some few =
    ap (option_and_then above_zero) (whole_number_of-decimal 7 n (lit< tt) (omega (arith, few)) (omega (arith, few)))
    ∙ ap (λ b. cond b (Some n) None) (lt-ltb 0 n some)

pairs_stand : (rows cols : ℕ) (h : Head) → side_of (decimal rows) ≡ Some rows → side_of (decimal cols) ≡ Some cols → is_coordinate h.x ≡ true → is_coordinate h.y ≡ true → is_cell_size h.size ≡ true → list_all (λ kv. may_stand (key_of kv.0) kv.1) (head_pairs rows cols h) ≡ true
unfolding key_of
pairs_stand rows cols h r c x y size =
    and_from _ _ (ap (λ (o : Option ℕ). is_some o) c) (and_from _ _ (ap (λ (o : Option ℕ). is_some o) r)
    (and_from _ _ (x_stands h.x_center h.x x) (and_from _ _ (y_stands h.y_center h.y y)
    (and_from _ _ size (and_from _ _ missing_stands refl)))))

pub head_back : (pairs : List Pair) (rows cols : ℕ) (h : Head) → map (λ (p : Pair). (p.word.bytes, p.value.bytes)) pairs ≡ head_pairs rows cols h → side_of (decimal rows) ≡ Some rows → side_of (decimal cols) ≡ Some cols → is_coordinate h.x ≡ true → is_coordinate h.y ≡ true → is_cell_size h.size ≡ true → IsSize rows cols
    → IsHead pairs rows cols h (codes "1e31")
head_back pairs rows cols h e r c x y size within =
    let n = named_by rows cols h.x_center h.y_center h.x h.y h.size in
    let kvs = head_pairs rows cols h in
    record {
      valued = valued_words pairs kvs e (pairs_stand rows cols h r c x y size);
      has_cols = ap (map side_of) (values_named Cols pairs kvs _ e n.has_cols) ∙ ap (λ o. o ∷ []) c;
      has_rows = ap (map side_of) (values_named Rows pairs kvs _ e n.has_rows) ∙ ap (λ o. o ∷ []) r;
      has_x = placed_named X pairs kvs _ e refl ∙ n.has_x;
      has_y = placed_named Y pairs kvs _ e refl ∙ n.has_y;
      has_size = values_named Size pairs kvs _ e n.has_size;
      has_nodata = ap nodata_of (values_named Nodata pairs kvs _ e n.has_nodata);
      within = within;
    }

-- ---- the cells

-- a printed value stands for no missing cell
value_there : (kind : Kind) (z : ℤ) → IsCell kind (Val z) → is_missing (codes "1e31") (printed_cell kind (Val z)) ≡ false
value_there kind z is =
    or_from _ _
    (option_cases (decimal_of (printed_cell kind (Val z)))
    (λ none. ap (λ o. both_decimals (decimal_of (codes "1e31")) o) none ∙ ap (λ o. both_decimals o None) decimal-missing)
    (λ d found. ap (λ o. both_decimals (decimal_of (codes "1e31")) o) found ∙ ap (λ o. both_decimals o (Some d)) decimal-missing
    ∙ false_from_ne_true (same_value missing_decimal d) (λ e.
    let turned : same_value d missing_decimal ≡ true = (same_value-means d missing_decimal).1 (sym ((same_value-means missing_decimal d).0 e)) in
    let apart : same_value d missing_decimal ≡ false = printed-not_missing kind z d is found in absurd (cc))))
    refl

pub cell_back : (kind : Kind) (cell : Cell) → IsCell kind cell → cell_of_token kind (codes "1e31") (printed_cell kind cell) ≡ Ok cell
cell_back kind Mv is = sym (cell_missing kind (codes "1e31") (codes "1e31") (nodata_missing (codes "1e31") missing_stands))
cell_back kind (Val z) is = sym (cell_there kind (codes "1e31") (printed_cell kind (Val z)) (value_there kind z is)) ∙ printed-back kind z is

pub cells_back : (kind : Kind) (cells : List Cell) (ts : List Token) → All (IsCell kind) cells → map (λ (t : Token). t.bytes) ts ≡ map (printed_cell kind) cells → map (λ (t : Token). cell_of_token kind (codes "1e31") t.bytes) ts ≡ map (λ (c : Cell). Ok c) cells
cells_back kind [] [] are e = refl
cells_back kind [] (t ∷ ts) are e = absurd (cc)
cells_back kind (cell ∷ cells) [] are e = absurd (cc)
cells_back kind (cell ∷ cells) (t ∷ ts) are e =
    let first : cell_of_token kind (codes "1e31") t.bytes ≡ Ok cell = ap (cell_of_token kind (codes "1e31")) (head_is _ _ _ _ e) ∙ cell_back kind cell (All-head (IsCell kind) cell cells are) in
    ap (λ r. r ∷ map (λ (u : Token). cell_of_token kind (codes "1e31") u.bytes) ts) first ∙ ap (λ rs. Ok cell ∷ rs) (cells_back kind cells ts (All-tail (IsCell kind) cell cells are) (tail_is _ _ _ _ e))

-- a printed cell is no key word, for it is a decimal
no_word : (c : ℕ) (cs text : List ℕ) → IsDecimalText text → 64 < to_ascii_lowercase c → is_word (c ∷ cs) text ≡ false
no_word c cs text d letter = false_from_ne_true (is_word (c ∷ cs) text) (λ e.
    let nothing : Option Decimal = None in
    let bad : is_some nothing ≡ true = sym (ap (λ (o : Option Decimal). is_some o) (word_none c cs text letter e)) ∙ some-from_text text d in
    absurd (cc))

pub key_none : (word : List ℕ) → IsDecimalText word → key_of word ≡ None
unfolding key_of
key_none word d = rw (
  no_word 110 (99 ∷ 111 ∷ 108 ∷ 115 ∷ []) word d (lit< tt),
  no_word 110 (114 ∷ 111 ∷ 119 ∷ 115 ∷ []) word d (lit< tt),
  or_from _ _ (no_word 120 (108 ∷ 108 ∷ 99 ∷ 111 ∷ 114 ∷ 110 ∷ 101 ∷ 114 ∷ []) word d (lit< tt)) (no_word 120 (108 ∷ 108 ∷ 99 ∷ 101 ∷ 110 ∷ 116 ∷ 101 ∷ 114 ∷ []) word d (lit< tt)),
  or_from _ _ (no_word 121 (108 ∷ 108 ∷ 99 ∷ 111 ∷ 114 ∷ 110 ∷ 101 ∷ 114 ∷ []) word d (lit< tt)) (no_word 121 (108 ∷ 108 ∷ 99 ∷ 101 ∷ 110 ∷ 116 ∷ 101 ∷ 114 ∷ []) word d (lit< tt)),
  no_word 99 (101 ∷ 108 ∷ 108 ∷ 115 ∷ 105 ∷ 122 ∷ 101 ∷ []) word d (lit< tt),
  no_word 78 (79 ∷ 68 ∷ 65 ∷ 84 ∷ 65 ∷ 95 ∷ 118 ∷ 97 ∷ 108 ∷ 117 ∷ 101 ∷ []) word d (lit< tt),
) refl

cells_end : (kind : Kind) (cells : List Cell) (ts : List Token) → All (IsCell kind) cells → map (λ (t : Token). t.bytes) ts ≡ map (printed_cell kind) cells → ends_pairs ts ≡ true
cells_end kind [] [] are e = refl
cells_end kind [] (t ∷ ts) are e = absurd (cc)
cells_end kind (cell ∷ cells) [] are e = absurd (cc)
cells_end kind (cell ∷ cells) (t ∷ ts) are e =
    ap (λ w. is_none (key_of w)) (head_is _ _ _ _ e) ∙ ap (λ (o : Option Key). is_none o) (key_none (printed_cell kind cell) (printed-decimal kind cell (All-head (IsCell kind) cell cells are)))

-- ---- the grid

pub one_of_many : (rows cols : ℕ) → 0 < rows → cols ≤ rows * cols
one_of_many zero cols some = absurd (omega (arith, some))
one_of_many (suc rows) cols some = omega arith

grid_back : (kind : Kind) (grid : Grid) → AreGridValues kind grid → IsGrid kind (text_of kind grid) grid
unfolding written_grid
grid_back kind grid values =
    let within = values.within in
    let few_cols : grid.cols ≤ 4194304 = omega (arith, one_of_many grid.rows grid.cols within.some_rows, within.few) in
    let few_rows : grid.rows ≤ 4194304 = omega (arith, one_of_many grid.cols grid.rows within.some_cols, mul_comm grid.rows grid.cols, within.few) in
    let words = head_words grid.rows grid.cols grid.head (row_lines kind grid.rows grid.cols grid.cells) (map (printed_cell kind) grid.cells) (omega (arith, few_rows)) (omega (arith, few_cols)) values.x values.y values.size (rows_words kind grid.rows grid.cols grid.cells values.cells values.count) in
    let s = split_of (head_pairs grid.rows grid.cols grid.head) (map (printed_cell kind) grid.cells) (tokens (text_of kind grid)) (words.found 0) in
    let head = head_back s.pairs grid.rows grid.cols grid.head s.front (written_side grid.rows within.some_rows few_rows) (written_side grid.cols within.some_cols few_cols) values.x values.y values.size within in
    record {
      pairs = s.pairs;
      cell_tokens = s.rest;
      nodata = codes "1e31";
      parts = record { parts = s.parts; keyed = keyed_of s.pairs head.valued };
      ended = cells_end kind grid.cells s.rest values.cells s.back;
      head = head;
      count = values.count;
      cells = cells_back kind grid.cells s.rest values.cells s.back;
    }

pub written_grids_read_back : WrittenGridsReadBack
written_grids_read_back kind grid values =
    let back = grid_back kind grid values in
    (back, λ other is. ok_is _ _ (sym (grid_is kind (text_of kind grid) other is) ∙ grid_is kind (text_of kind grid) grid back))
