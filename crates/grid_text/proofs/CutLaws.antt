-- A written text that ends early.
use Rattle.std.proofs.Common.{◌≡◌, ℕ, zero, suc, ◌+◌, ◌*◌, ◌<◌, ◌≤◌, Bool, true, false, cond, inl, inr, List, [], ◌∷◌, ◌++◌, length, map, take, Some, None, Ok, lit<, refl, sym, ap, subst, ◌∙◌, mul_comm, arith}
use Rattle.std.specs.Prelude.{◌⊎◌, codes, decimal, get_or, is_none, is_some, slice_get}
use Rattle.std.specs.declared.option.Option.{Option}
use Rattle.std.specs.List.{All, list_all}
use Rattle.std.proofs.lemmas.Bool.{and_parts, or_from}
use Rattle.std.proofs.lemmas.List.{append-nil}
use Rattle.std.proofs.lemmas.List.Elements.{All-head, All-tail}
use Rattle.cell_values.specs.declared.cell.Cell.{Cell}
use Rattle.cell_values.specs.declared.kind.Kind.{Kind}
use Rattle.cell_values.specs.Kinds.{IsCell}
use Rattle.cell_values.specs.Decimal.{Decimal, IsDecimalText}
use Rattle.cell_values.specs.inside.Printed.{printed_cell}
use Rattle.cell_values.specs.inside.Reading.{cell_of_decimal, cell_read, decimal_of}
use Rattle.cell_values.proofs.Callers.{printed-decimal}
use Rattle.grid_text.specs.declared.key.Key.{Key}
use Rattle.grid_text.specs.declared.key.Key.TheVariants.{Cols, Rows, X, Y, Size, Nodata}
use Rattle.grid_text.specs.declared.grid.Grid.{Grid}
use Rattle.grid_text.specs.declared.grid.Head.{Head}
use Rattle.text_base.specs.Tokens.{Token, tokens}
use Rattle.grid_text.specs.Key.{key_of, is_nan}
use Rattle.grid_text.specs.Form.{Pair, both_decimals, cell_of_token, default_nodata, ends_pairs, is_missing, nodata_of, placed, tokens_of_pairs, IsGrid, IsHead}
use Rattle.grid_text.specs.Written.{row_lines, text_of, written_grid, AgreeButTheLast, AreGridValues, CutGridsLoseTheLastCellAlone}
use Rattle.text_base.proofs.Callers.{head_is, ok_is, some_is, tail_is}
use Rattle.grid_text.proofs.ValueLaws.{cell_there, letter_none}
use Rattle.grid_text.proofs.WordLaws.{AreFirst, GoesOn, flat, head_pairs, head_words, rows_words}
use Rattle.grid_text.proofs.BackLaws.{cell_back, head_back, key_none, named, one_of_many, values_named, written_side}

-- the words of tokens, and of pairs
abbrev words_of : List Token → List (List ℕ)
words_of ts = map (λ (t : Token). t.bytes) ts

abbrev pairs_words : List Pair → List (List ℕ × List ℕ)
pairs_words pairs = map (λ (p : Pair). (p.word.bytes, p.value.bytes)) pairs

-- all pairs of the head are there, and others go on behind them
record Whole (kvs : List (List ℕ × List ℕ)) (words : List (List ℕ)) (pairs : List Pair) (rest : List Token) : Type 0 where
  front : List Pair
  more : List Pair
  parts : pairs ≡ front ++ more
  same : pairs_words front ≡ kvs
  behind : AreFirst (words_of (tokens_of_pairs more ++ rest)) words

-- so many pairs are there, and what is taken for a cell is a front of the next key word
record Ends (kvs : List (List ℕ × List ℕ)) (pairs : List Pair) (rest : List Token) : Type 0 where
  many : ℕ
  few : many < length kvs
  same : pairs_words pairs ≡ take many kvs
  token : Token
  alone : rest ≡ token ∷ []
  front : GoesOn (get_or kvs many ([], [])).0 token.bytes
  some : 0 < length token.bytes

-- two tokens in front, and one more at least
two_first : (a b : Token) (ts : List Token) (v w : List ℕ) (words : List (List ℕ)) → 0 < length ts → AreFirst (words_of (a ∷ b ∷ ts)) (v ∷ w ∷ words)
    → (a.bytes ≡ v) × (b.bytes ≡ w) × AreFirst (words_of ts) words
two_first a b [] v w words some h = absurd (omega (arith, some))
two_first a b (t ∷ ts) v w words some h = (h.0, h.1.0, h.1.1)

behind_some : (pairs : List Pair) (rest : List Token) → 0 < length rest → 0 < length (tokens_of_pairs pairs ++ rest)
behind_some [] rest some = some
behind_some (p ∷ ps) rest some = omega arith

none_some : (o : Option Key) → is_some o ≡ true → is_none o ≡ true → ⊥
none_some None a b = absurd (cc)
none_some (Some key) a b = absurd (cc)

-- the tokens of a front are all pairs and others behind them, or end within the pairs
whole_or_ends : (kvs : List (List ℕ × List ℕ)) (words : List (List ℕ)) (pairs : List Pair) (rest : List Token) → list_all (λ kv. is_some (key_of kv.0)) kvs ≡ true → 0 < length rest → ends_pairs rest ≡ true
    → AreFirst (words_of (tokens_of_pairs pairs ++ rest)) (flat kvs ++ words) → Whole kvs words pairs rest ⊎ Ends kvs pairs rest
whole_or_ends [] words pairs rest keys some ended h = inl (record { front = []; more = pairs; parts = refl; same = refl; behind = h })
whole_or_ends (kv ∷ kvs) words [] [] keys some ended h = absurd (omega (arith, some))
whole_or_ends (kv ∷ kvs) words [] (t ∷ []) keys some ended h = inr (record { many = 0; few = omega arith; same = refl; token = t; alone = refl; front = h.0; some = h.1 })
whole_or_ends (kv ∷ kvs) words [] (t ∷ u ∷ us) keys some ended h =
    absurd (none_some (key_of kv.0) (and_parts (is_some (key_of kv.0)) (list_all (λ x. is_some (key_of x.0)) kvs) keys).0 (subst (λ w. is_none (key_of w) ≡ true) h.0 ended))
whole_or_ends (kv ∷ kvs) words (p ∷ ps) rest keys some ended h =
    let (a, b, later) = two_first p.word p.value (tokens_of_pairs ps ++ rest) kv.0 kv.1 (flat kvs ++ words) (behind_some ps rest some) h in
    let here : (p.word.bytes, p.value.bytes) ≡ kv = ap (λ x. (x, p.value.bytes)) a ∙ ap (λ x. (kv.0, x)) b in
    elim (whole_or_ends kvs words ps rest (and_parts (is_some (key_of kv.0)) (list_all (λ x. is_some (key_of x.0)) kvs) keys).1 some ended later) as (λ _. Whole (kv ∷ kvs) words (p ∷ ps) rest ⊎ Ends (kv ∷ kvs) (p ∷ ps) rest) [
      | inl w ↦ inl (record { front = p ∷ w.front; more = w.more; parts = ap (λ xs. p ∷ xs) w.parts; same = ap (λ x. x ∷ pairs_words w.front) here ∙ ap (λ xs. kv ∷ xs) w.same; behind = w.behind })
      | inr e ↦ inr (record { many = suc e.many; few = omega (arith, e.few); same = ap (λ x. x ∷ pairs_words ps) here ∙ ap (λ xs. kv ∷ xs) e.same; token = e.token; alone = e.alone; front = e.front; some = e.some })
    ]

-- ---- a head that ends early

-- no size of a cell among fewer than five pairs, and no missing value among fewer than six
no_size : (i rows cols : ℕ) (x_center y_center : Bool) (x y size : List ℕ) → i < 5 → named Size (take i (head_pairs rows cols (record { x_center = x_center; y_center = y_center; x = x; y = y; size = size }))) ≡ []
unfolding key_of
no_size zero rows cols a b x y size few = refl
no_size (suc zero) rows cols a b x y size few = refl
no_size (suc (suc zero)) rows cols a b x y size few = refl
no_size (suc (suc (suc zero))) rows cols true b x y size few = refl
no_size (suc (suc (suc zero))) rows cols false b x y size few = refl
no_size (suc (suc (suc (suc zero)))) rows cols true true x y size few = refl
no_size (suc (suc (suc (suc zero)))) rows cols true false x y size few = refl
no_size (suc (suc (suc (suc zero)))) rows cols false true x y size few = refl
no_size (suc (suc (suc (suc zero)))) rows cols false false x y size few = refl
no_size (suc (suc (suc (suc (suc i))))) rows cols a b x y size few = absurd (omega (arith, few))

no_missing : (rows cols : ℕ) (x_center y_center : Bool) (x y size : List ℕ) → named Nodata (take 5 (head_pairs rows cols (record { x_center = x_center; y_center = y_center; x = x; y = y; size = size }))) ≡ []
unfolding key_of
no_missing rows cols true true x y size = refl
no_missing rows cols true false x y size = refl
no_missing rows cols false true x y size = refl
no_missing rows cols false false x y size = refl

all_keys : (rows cols : ℕ) (x_center y_center : Bool) (x y size : List ℕ) → list_all (λ kv. is_some (key_of kv.0)) (head_pairs rows cols (record { x_center = x_center; y_center = y_center; x = x; y = y; size = size })) ≡ true
unfolding key_of
all_keys rows cols true true x y size = refl
all_keys rows cols true false x y size = refl
all_keys rows cols false true x y size = refl
all_keys rows cols false false x y size = refl

-- a front of the key of the missing value is no cell
key_front_none : (kind : Kind) (front : List ℕ) (cell : Cell) → GoesOn (codes "NODATA_value") front → 0 < length front → cell_of_token kind default_nodata front ≡ Ok cell → ⊥
unfolding cell_read decimal_of
key_front_none kind [] cell g some e = omega (arith, some)
key_front_none kind (b ∷ bs) cell g some e =
    let letter : b ≡ 78 = head_is _ _ _ _ g.is in
    let none : decimal_of (b ∷ bs) ≡ None = letter_none b bs (omega (arith, letter)) in
    let there : is_missing default_nodata (b ∷ bs) ≡ false = or_from _ _ (ap (λ o. both_decimals (decimal_of default_nodata) o) none ∙ both_none (decimal_of default_nodata)) refl in
    let bad : cell_of_decimal kind None ≡ Ok cell = sym (ap (cell_of_decimal kind) none) ∙ cell_there kind default_nodata (b ∷ bs) there ∙ e in
    absurd (cc)
  where
    both_none : (o : Option Decimal) → both_decimals o None ≡ false
    both_none None = refl
    both_none (Some d) = refl

-- the first of such cells, where there is one token alone
first_cell : (kind : Kind) (nodata : List ℕ) (t : Token) (cells : List Cell) → map (λ (u : Token). cell_of_token kind nodata u.bytes) (t ∷ []) ≡ map Ok cells → (cell : Cell) × (cell_of_token kind nodata t.bytes ≡ Ok cell)
first_cell kind nodata t [] e = absurd (cc)
first_cell kind nodata t (c ∷ cs) e = (c, head_is _ _ _ _ e)

no_end : (kind : Kind) (rows cols : ℕ) (h : Head) (cut : Grid) (pairs : List Pair) (rest : List Token) (nodata : List ℕ) → IsHead pairs cut.rows cut.cols cut.head nodata
    → map (λ (u : Token). cell_of_token kind nodata u.bytes) rest ≡ map Ok cut.cells → Ends (head_pairs rows cols h) pairs rest → ⊥
no_end kind rows cols h cut pairs rest nodata head cells e = by_many e.many refl
  where
    early : e.many < 5 → ⊥
    early few =
        let none = values_named Size pairs _ [] e.same (no_size e.many rows cols h.x_center h.y_center h.x h.y h.size few) in
        let bad : [] ≡ cut.head.size ∷ [] = sym none ∙ head.has_size in
        absurd (cc)

    late : e.many ≡ 5 → ⊥
    late five =
        let none = values_named Nodata pairs _ [] (e.same ∙ ap (λ n. take n (head_pairs rows cols h)) five) (no_missing rows cols h.x_center h.y_center h.x h.y h.size) in
        let usual : default_nodata ≡ nodata = some_is _ _ (ap nodata_of (sym none) ∙ head.has_nodata) in
        let (cell, is) = first_cell kind nodata e.token cut.cells (ap (map (λ (u : Token). cell_of_token kind nodata u.bytes)) (sym e.alone) ∙ cells) in
        key_front_none kind e.token.bytes cell (subst (λ n. GoesOn (get_or (head_pairs rows cols h) n ([], [])).0 e.token.bytes) five e.front) e.some (ap (λ n. cell_of_token kind n e.token.bytes) usual ∙ is)

    by_many : (n : ℕ) → n ≡ e.many → ⊥
    by_many zero is = early (omega (arith, is))
    by_many (suc zero) is = early (omega (arith, is))
    by_many (suc (suc zero)) is = early (omega (arith, is))
    by_many (suc (suc (suc zero))) is = early (omega (arith, is))
    by_many (suc (suc (suc (suc zero)))) is = early (omega (arith, is))
    by_many (suc (suc (suc (suc (suc zero))))) is = late (sym is)
    by_many (suc (suc (suc (suc (suc (suc n)))))) is = absurd (omega (arith, is, e.few))

-- ---- the head, whole

-- behind the whole head no further pair stands
none_behind : (kind : Kind) (cells : List Cell) (more : List Pair) (rest : List Token) → All (IsCell kind) cells → 0 < length rest → list_all (λ (p : Pair). is_some (key_of p.word.bytes)) more ≡ true
    → AreFirst (words_of (tokens_of_pairs more ++ rest)) (map (printed_cell kind) cells) → more ≡ []
none_behind kind cells [] rest are some keyed h = refl
none_behind kind [] (p ∷ ps) rest are some keyed h = absurd h
none_behind kind (cell ∷ cells) (p ∷ ps) rest are some keyed h =
    let same : p.word.bytes ≡ printed_cell kind cell = first_is (tokens_of_pairs ps ++ rest) h in
    let none : key_of p.word.bytes ≡ None = ap key_of same ∙ key_none (printed_cell kind cell) (printed-decimal kind cell (All-head (IsCell kind) cell cells are)) in
    let there = (and_parts (is_some (key_of p.word.bytes)) (list_all (λ (q : Pair). is_some (key_of q.word.bytes)) ps) keyed).0 in
    absurd (none_some (key_of p.word.bytes) there (ap (λ o. is_none o) none))
  where
    first_is : (ts : List Token) → AreFirst (words_of (p.word ∷ p.value ∷ ts)) (printed_cell kind cell ∷ map (printed_cell kind) cells) → p.word.bytes ≡ printed_cell kind cell
    first_is ts h = h.0

keyed_behind : (front more : List Pair) → list_all (λ (p : Pair). is_some (key_of p.word.bytes)) (front ++ more) ≡ true → list_all (λ (p : Pair). is_some (key_of p.word.bytes)) more ≡ true
keyed_behind [] more h = h
keyed_behind (p ∷ ps) more h = keyed_behind ps more (and_parts (is_some (key_of p.word.bytes)) (list_all (λ (q : Pair). is_some (key_of q.word.bytes)) (ps ++ more)) h).1

-- ---- the cells

same_cells : (kind : Kind) (written cut : List Cell) (ts : List Token) → All (IsCell kind) written → AreFirst (words_of ts) (map (printed_cell kind) written) → map (λ (u : Token). cell_of_token kind (codes "1e31") u.bytes) ts ≡ map Ok cut
    → length cut ≡ length written → AgreeButTheLast cut written
same_cells kind [] cut ts are h e count i low = absurd (omega (arith, low))
same_cells kind (w ∷ ws) [] ts are h e count i low = absurd (omega (arith, count))
same_cells kind (w ∷ ws) (c ∷ cs) [] are h e count i low = absurd (cc)
same_cells kind (w ∷ []) (c ∷ cs) (t ∷ ts) are h e count i low = absurd (omega (arith, low))
same_cells kind (w ∷ v ∷ vs) (c ∷ []) (t ∷ ts) are h e count i low = absurd (omega (arith, count))
same_cells kind (w ∷ v ∷ vs) (c ∷ d ∷ ds) (t ∷ []) are h e count i low = absurd (cc)
same_cells kind (w ∷ v ∷ vs) (c ∷ d ∷ ds) (t ∷ u ∷ us) are h e count zero low =
    let read : Ok w ≡ Ok c = sym (cell_back kind w (All-head (IsCell kind) w (v ∷ vs) are)) ∙ ap (cell_of_token kind (codes "1e31")) (sym h.0) ∙ head_is _ _ _ _ e in
    ap Some (sym (ok_is _ _ read))
same_cells kind (w ∷ v ∷ vs) (c ∷ d ∷ ds) (t ∷ u ∷ us) are h e count (suc i) low =
    same_cells kind (v ∷ vs) (d ∷ ds) (u ∷ us) (All-tail (IsCell kind) w (v ∷ vs) are) h.1 (tail_is _ _ _ _ e) (omega (arith, count)) i (omega (arith, low))

-- ---- the grid

-- a head has one number of rows, one of columns, and one head
one_head : (pairs : List Pair) (rows cols other_rows other_cols : ℕ) (h other : Head) (nodata other_nodata : List ℕ) → IsHead pairs rows cols h nodata → IsHead pairs other_rows other_cols other other_nodata
    → (other_rows ≡ rows) × (other_cols ≡ cols) × (other ≡ h) × (other_nodata ≡ nodata)
one_head pairs rows cols other_rows other_cols h other nodata other_nodata a b =
    let x : ◌≡◌ {A = Bool × List ℕ} (other.x_center, other.x) (h.x_center, h.x) = head_is _ _ _ _ (sym b.has_x ∙ a.has_x) in
    let y : ◌≡◌ {A = Bool × List ℕ} (other.y_center, other.y) (h.y_center, h.y) = head_is _ _ _ _ (sym b.has_y ∙ a.has_y) in
    let size : other.size ≡ h.size = head_is _ _ _ _ (sym b.has_size ∙ a.has_size) in
    (some_is _ _ (head_is _ _ _ _ (sym b.has_rows ∙ a.has_rows)), some_is _ _ (head_is _ _ _ _ (sym b.has_cols ∙ a.has_cols)), same_head other h x y size, some_is _ _ (sym b.has_nodata ∙ a.has_nodata))
  where
    same_head : (f g : Head) → ◌≡◌ {A = Bool × List ℕ} (f.x_center, f.x) (g.x_center, g.x) → ◌≡◌ {A = Bool × List ℕ} (f.y_center, f.y) (g.y_center, g.y) → f.size ≡ g.size → f ≡ g
    same_head f g x y size =
        let a : f.x_center ≡ g.x_center = ap (λ (q : Bool × List ℕ). q.0) x in
        let b : f.x ≡ g.x = ap (λ (q : Bool × List ℕ). q.1) x in
        let c : f.y_center ≡ g.y_center = ap (λ (q : Bool × List ℕ). q.0) y in
        let d : f.y ≡ g.y = ap (λ (q : Bool × List ℕ). q.1) y in
        ap (λ v. record { x_center = v; x = f.x; y_center = f.y_center; y = f.y; size = f.size }) a
        ∙ ap (λ v. record { x_center = g.x_center; x = v; y_center = f.y_center; y = f.y; size = f.size }) b
        ∙ ap (λ v. record { x_center = g.x_center; x = g.x; y_center = v; y = f.y; size = f.size }) c
        ∙ ap (λ v. record { x_center = g.x_center; x = g.x; y_center = g.y_center; y = v; size = f.size }) d
        ∙ ap (λ v. record { x_center = g.x_center; x = g.x; y_center = g.y_center; y = g.y; size = v }) size

image_length : (kind : Kind) (nodata : List ℕ) (ts : List Token) (cells : List Cell) → map (λ (u : Token). cell_of_token kind nodata u.bytes) ts ≡ map Ok cells → length ts ≡ length cells
image_length kind nodata [] [] e = refl
image_length kind nodata [] (c ∷ cs) e = absurd (cc)
image_length kind nodata (t ∷ ts) [] e = absurd (cc)
image_length kind nodata (t ∷ ts) (c ∷ cs) e = ap suc (image_length kind nodata ts cs (tail_is _ _ _ _ e))

some_cells : (rows cols : ℕ) → 0 < rows → 0 < cols → 0 < rows * cols
some_cells zero cols a b = absurd (omega (arith, a))
some_cells (suc rows) zero a b = absurd (omega (arith, b))
some_cells (suc rows) (suc cols) a b = omega arith

pub cut_grids_lose_the_last_cell_alone : CutGridsLoseTheLastCellAlone
unfolding written_grid
cut_grids_lose_the_last_cell_alone kind grid cut text lost values is g =
    let within = values.within in
    let few_cols : grid.cols ≤ 4194304 = omega (arith, one_of_many grid.rows grid.cols within.some_rows, within.few) in
    let few_rows : grid.rows ≤ 4194304 = omega (arith, one_of_many grid.cols grid.rows within.some_cols, mul_comm grid.rows grid.cols, within.few) in
    let words = head_words grid.rows grid.cols grid.head (row_lines kind grid.rows grid.cols grid.cells) (map (printed_cell kind) grid.cells) (omega (arith, few_rows)) (omega (arith, few_cols)) values.x values.y values.size (rows_words kind grid.rows grid.cols grid.cells values.cells values.count) in
    let front : AreFirst (words_of (tokens_of_pairs g.pairs ++ g.cell_tokens)) (flat (head_pairs grid.rows grid.cols grid.head) ++ map (printed_cell kind) grid.cells) =
    subst (λ ts. AreFirst (words_of ts) (flat (head_pairs grid.rows grid.cols grid.head) ++ map (printed_cell kind) grid.cells)) g.parts.parts (words.fronts text lost is 0) in
    let some : 0 < length g.cell_tokens = omega (arith, image_length kind g.nodata g.cell_tokens cut.cells g.cells, g.count, some_cells cut.rows cut.cols g.head.within.some_rows g.head.within.some_cols) in
    let h = grid.head in
    elim (whole_or_ends (head_pairs grid.rows grid.cols h) (map (printed_cell kind) grid.cells) g.pairs g.cell_tokens (all_keys grid.rows grid.cols h.x_center h.y_center h.x h.y h.size) some g.ended front) as (λ _. (cut.rows ≡ grid.rows) × (cut.cols ≡ grid.cols) × (cut.head ≡ grid.head) × AgreeButTheLast cut.cells grid.cells) [
      | inr e ↦ absurd (no_end kind grid.rows grid.cols h cut g.pairs g.cell_tokens g.nodata g.head g.cells e)
      | inl w ↦
          let none : w.more ≡ [] = none_behind kind grid.cells w.more g.cell_tokens values.cells some (keyed_behind w.front w.more (subst (λ ps. list_all (λ (p : Pair). is_some (key_of p.word.bytes)) ps ≡ true) w.parts g.parts.keyed)) w.behind in
          let pairs : g.pairs ≡ w.front = w.parts ∙ ap (λ ps. w.front ++ ps) none ∙ append-nil w.front in
          let head = head_back g.pairs grid.rows grid.cols h (ap pairs_words pairs ∙ w.same) (written_side grid.rows within.some_rows few_rows) (written_side grid.cols within.some_cols few_cols) values.x values.y values.size within in
          let (rows, cols, same, nodata) = one_head g.pairs grid.rows grid.cols cut.rows cut.cols h cut.head (codes "1e31") g.nodata head g.head in
          let count : length cut.cells ≡ length grid.cells = g.count ∙ ap (λ n. n * cut.cols) rows ∙ ap (λ n. grid.rows * n) cols ∙ sym values.count in
          (rows, cols, same, same_cells kind grid.cells cut.cells g.cell_tokens values.cells (subst (λ ps. AreFirst (words_of (tokens_of_pairs ps ++ g.cell_tokens)) (map (printed_cell kind) grid.cells)) none w.behind) (ap (λ n. map (λ (u : Token). cell_of_token kind n u.bytes) g.cell_tokens) (sym nodata) ∙ g.cells) count)
    ]
