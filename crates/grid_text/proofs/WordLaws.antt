-- The words of a written text, and of a text that ends early.
use Rattle.std.proofs.Common.{◌≡◌, ℕ, zero, suc, ◌+◌, ◌*◌, ◌^◌, ◌<◌, true, false, Bool, cond, inl, inr, List, [], ◌∷◌, ◌++◌, length, take, drop, map, None, Some, lit<, refl, sym, ap, subst, ◌∙◌, append_assoc, arith}
use Rattle.std.specs.Prelude.{◌⊎◌, codes, decimal, is_some, nat_le}
use Rattle.std.specs.declared.option.Option.{Option}
use Rattle.std.specs.List.{All, list_all}
use Rattle.std.proofs.lemmas.Bool.{and_parts, and_from, ne_eqb}
use Rattle.std.proofs.lemmas.List.{append-nil, nil_from_length, take-append-drop, map-append, length-drop}
use Rattle.std.proofs.lemmas.List.Elements.{All-head, All-tail, All-take, All-drop}
use Rattle.cell_values.specs.declared.cell.Cell.{Cell}
use Rattle.cell_values.specs.declared.kind.Kind.{Kind}
use Rattle.cell_values.specs.Kinds.{IsCell}
use Rattle.cell_values.specs.Decimal.{Decimal, IsDecimalText}
use Rattle.cell_values.specs.inside.Reading.{decimal_of}
use Rattle.cell_values.specs.inside.Printed.{printed_cell}
use Rattle.cell_values.proofs.Callers.{decimal-some, decimal-visible, printed-decimal, text-from_some}
use Rattle.grid_text.specs.declared.grid.Head.{Head}
use Rattle.text_base.specs.Tokens.{Token, tokens_at}
use Rattle.text_base.specs.Bytes.{is_blank}
use Rattle.grid_text.specs.Key.{is_positive, is_coordinate, is_cell_size}
use Rattle.grid_text.specs.Written.{key_line, head_lines, behind_cell, row_line, row_lines}
use Rattle.text_base.specs.inside.Steps.{is_token_byte}
use Rattle.text_base.proofs.Callers.{IsTokenWord, decimal_digits, digits_token, head_is, tail_is, tokens_at-blank, tokens_at-run}

list_all_append : (p : ℕ → Bool) (xs ys : List ℕ) → list_all p (xs ++ ys) ≡ true → list_all p xs ≡ true
list_all_append p [] ys h = refl
list_all_append p (x ∷ xs) ys h =
    let parts = and_parts (p x) (list_all p (xs ++ ys)) h in
    and_from (p x) (list_all p xs) parts.0 (list_all_append p xs ys parts.1)

-- ---- words that are tokens

visible : (b : ℕ) → 32 < b → is_token_byte b ≡ true
visible b above =
    let other = λ (k : ℕ) (low : k < 33). ne_eqb b k (λ (e : b ≡ k). omega (arith, e, above, low)) in
    rw (other 32 (lit< tt), other 9 (lit< tt), other 13 (lit< tt), other 10 (lit< tt)) refl

pub decimal_token : (word : List ℕ) → IsDecimalText word → IsTokenWord word
decimal_token word d = record { some = decimal-some word d; bytes = decimal-visible is_token_byte visible word d }

some_token : (word : List ℕ) → is_some (decimal_of word) ≡ true → IsTokenWord word
some_token word e = decimal_token word (text-from_some word e)

positive_some : (o : Option Decimal) → is_positive o ≡ true → is_some o ≡ true
positive_some None e = absurd (cc)
positive_some (Some d) e = refl

coordinate_token : (word : List ℕ) → is_coordinate word ≡ true → IsTokenWord word
coordinate_token word e = some_token word (and_parts (nat_le (length word) 64) (is_some (decimal_of word)) e).1

size_token : (word : List ℕ) → is_cell_size word ≡ true → IsTokenWord word
size_token word e = some_token word (positive_some (decimal_of word) (and_parts (nat_le (length word) 64) (is_positive (decimal_of word)) e).1)

-- ---- the words of a text

-- the second list begins with the first
pub record GoesOn (word front : List ℕ) : Type 0 where
  pub more : List ℕ
  pub is : front ++ more ≡ word

-- the first words of these, of which the last one may be cut
abbrev pub AreFirst : List (List ℕ) → List (List ℕ) → Type 0
AreFirst [] words = Unit {0}
AreFirst (w ∷ []) [] = ⊥
AreFirst (w ∷ []) (v ∷ vs) = GoesOn v w × (0 < length w)
AreFirst (w ∷ u ∷ us) [] = ⊥
AreFirst (w ∷ u ∷ us) (v ∷ vs) = (w ≡ v) × AreFirst (u ∷ us) vs

-- the words of these bytes, wherever they stand; a text that ends early has the first of them
pub record HasWords (bytes : List ℕ) (words : List (List ℕ)) : Type 0 where
  pub found : (at : ℕ) → map (λ (t : Token). t.bytes) (tokens_at at bytes) ≡ words
  pub fronts : (front more : List ℕ) → front ++ more ≡ bytes → (at : ℕ) → AreFirst (map (λ (t : Token). t.bytes) (tokens_at at front)) words

no_front : (front more : List ℕ) → front ++ more ≡ [] → (at : ℕ) → AreFirst (map (λ (t : Token). t.bytes) (tokens_at at front)) []
no_front [] more e at = tt
no_front (b ∷ bs) more e at = absurd (cc)

no_words : HasWords [] []
no_words = record { found = λ at. refl; fronts = no_front }

-- a front goes beyond a word and the blank behind it
record Beyond (word : List ℕ) (blank : ℕ) (rest front more : List ℕ) : Type 0 where
  left : List ℕ
  is : front ≡ word ++ blank ∷ left
  behind : left ++ more ≡ rest

front_ends : (word rest front more : List ℕ) (blank : ℕ) → front ++ more ≡ word ++ blank ∷ rest → GoesOn word front ⊎ Beyond word blank rest front more
front_ends word rest [] more blank e = inl (record { more = word; is = refl })
front_ends [] rest (b ∷ bs) more blank e = inr (record { left = bs; is = ap (λ x. x ∷ bs) (head_is _ _ _ _ e); behind = tail_is _ _ _ _ e })
front_ends (c ∷ cs) rest (b ∷ bs) more blank e =
    let same : b ≡ c = head_is _ _ _ _ e in
    elim (front_ends cs rest bs more blank (tail_is _ _ _ _ e)) as (λ _. GoesOn (c ∷ cs) (b ∷ bs) ⊎ Beyond (c ∷ cs) blank rest (b ∷ bs) more) [
      | inl g ↦ inl (record { more = g.more; is = ap (λ x. x ∷ (bs ++ g.more)) same ∙ ap (λ xs. c ∷ xs) g.is })
      | inr y ↦ inr (record { left = y.left; is = ap (λ x. x ∷ bs) same ∙ ap (λ xs. c ∷ xs) y.is; behind = y.behind })
    ]

add_word : (word : List ℕ) (ws vs : List (List ℕ)) → 0 < length word → AreFirst ws vs → AreFirst (word ∷ ws) (word ∷ vs)
add_word word [] vs some h = (record { more = []; is = append-nil word }, some)
add_word word (w ∷ ws) vs some h = (refl, h)

-- a front of a word is a word, where it is not empty
front_word : (word front : List ℕ) (words : List (List ℕ)) (at : ℕ) → IsTokenWord word → GoesOn word front → AreFirst (map (λ (t : Token). t.bytes) (tokens_at at front)) (word ∷ words)
front_word word [] words at t g = tt
front_word word (b ∷ bs) words at t g =
    let bytes : list_all is_token_byte (b ∷ bs) ≡ true = (list_all_append is_token_byte (b ∷ bs) g.more (ap (list_all is_token_byte) g.is ∙ t.bytes)) in
    let one : map (λ (w : Token). w.bytes) (tokens_at at (b ∷ bs)) ≡ (b ∷ bs) ∷ [] =
    ap (λ xs. map (λ (w : Token). w.bytes) (tokens_at at xs)) (sym (append-nil (b ∷ bs))) ∙ ap (map (λ (w : Token). w.bytes)) (tokens_at-run at b bs [] bytes refl) in
    subst (λ ws. AreFirst ws (word ∷ words)) (sym one) (g, omega arith)

-- a word and a blank in front
word_front : (word rest : List ℕ) (blank : ℕ) (words : List (List ℕ)) → IsTokenWord word → is_blank blank ≡ true → HasWords rest words → HasWords (word ++ blank ∷ rest) (word ∷ words)
word_front [] rest blank words t b h = absurd (omega (arith, t.some))
word_front (c ∷ cs) rest blank words t b h =
    let found = λ (rest : List ℕ) (at : ℕ).
    ap (map (λ (w : Token). w.bytes)) (tokens_at-run at c cs (blank ∷ rest) t.bytes b)
    ∙ ap (λ ws. (c ∷ cs) ∷ map (λ (w : Token). w.bytes) ws) (tokens_at-blank (at + suc (length cs)) blank rest b) in
    record {
      found = λ at. found rest at ∙ ap (λ ws. (c ∷ cs) ∷ ws) (h.found (at + suc (length cs) + 1));
      fronts = λ front more e at. elim (front_ends (c ∷ cs) rest front more blank e) as (λ _. AreFirst (map (λ (w : Token). w.bytes) (tokens_at at front)) ((c ∷ cs) ∷ words)) [
        | inl g ↦ front_word (c ∷ cs) front words at t g
        | inr y ↦ subst (λ ws. AreFirst ws ((c ∷ cs) ∷ words)) (sym (ap (λ xs. map (λ (w : Token). w.bytes) (tokens_at at xs)) y.is ∙ found y.left at))
            (add_word (c ∷ cs) _ words t.some (h.fronts y.left more y.behind (at + suc (length cs) + 1)))
      ];
    }

line_front : (key value rest : List ℕ) (words : List (List ℕ)) → IsTokenWord key → IsTokenWord value → HasWords rest words → HasWords (key_line key value ++ rest) (key ∷ value ∷ words)
line_front key value rest words k v h =
    subst (λ bytes. HasWords bytes (key ∷ value ∷ words)) (sym (append_assoc key (32 ∷ (value ++ 10 ∷ [])) rest ∙ ap (λ (more : List ℕ). key ++ 32 ∷ more) (append_assoc value (10 ∷ []) rest)))
    (word_front key (value ++ 10 ∷ rest) 32 (value ∷ words) k refl (word_front value rest 10 words v refl h))

-- a line of several
lines_front : (key value more rest : List ℕ) (words : List (List ℕ)) → IsTokenWord key → IsTokenWord value → HasWords (more ++ rest) words → HasWords ((key_line key value ++ more) ++ rest) (key ∷ value ∷ words)
lines_front key value more rest words k v h = subst (λ bytes. HasWords bytes (key ∷ value ∷ words)) (sym (append_assoc (key_line key value) more rest)) (line_front key value (more ++ rest) words k v h)

-- ---- the words of the rows

blank_behind : (cells : List Cell) → is_blank (behind_cell cells) ≡ true
blank_behind [] = refl
blank_behind (cell ∷ cells) = refl

row_words : (kind : Kind) (cells : List Cell) (rest : List ℕ) (words : List (List ℕ)) → All (IsCell kind) cells → HasWords rest words → HasWords (row_line kind cells ++ rest) (map (printed_cell kind) cells ++ words)
row_words kind [] rest words are h = h
row_words kind (cell ∷ cells) rest words are h =
    subst (λ bytes. HasWords bytes (printed_cell kind cell ∷ (map (printed_cell kind) cells ++ words))) (sym (append_assoc (printed_cell kind cell) (behind_cell cells ∷ row_line kind cells) rest))
    (word_front (printed_cell kind cell) (row_line kind cells ++ rest) (behind_cell cells) (map (printed_cell kind) cells ++ words) (decimal_token (printed_cell kind cell) (printed-decimal kind cell (All-head (IsCell kind) cell cells are))) (blank_behind cells)
    (row_words kind cells rest words (All-tail (IsCell kind) cell cells are) h))

pub rows_words : (kind : Kind) (rows cols : ℕ) (cells : List Cell) → All (IsCell kind) cells → length cells ≡ rows * cols → HasWords (row_lines kind rows cols cells) (map (printed_cell kind) cells)
rows_words kind zero cols cells are count =
    let none : cells ≡ [] = nil_from_length cells (omega (arith, count)) in
    subst (λ cs. HasWords [] (map (printed_cell kind) cs)) (sym none) no_words
rows_words kind (suc rows) cols cells are count =
    let left : length (drop cols cells) ≡ rows * cols = omega (arith, length-drop cols cells, count) in
    subst (HasWords (row_lines kind (suc rows) cols cells)) (sym (map-append (printed_cell kind) (take cols cells) (drop cols cells)) ∙ ap (map (printed_cell kind)) (take-append-drop cols cells))
    (row_words kind (take cols cells) (row_lines kind rows cols (drop cols cells)) (map (printed_cell kind) (drop cols cells)) (All-take (IsCell kind) cols cells are)
    (rows_words kind rows cols (drop cols cells) (All-drop (IsCell kind) cols cells are) left))

-- ---- the words of the head

-- the words of the pairs
abbrev pub head_pairs : ℕ → ℕ → Head → List (List ℕ × List ℕ)
head_pairs rows cols h =
    (codes "ncols", decimal cols) ∷ (codes "nrows", decimal rows)
    ∷ (cond h.x_center (codes "xllcenter") (codes "xllcorner"), h.x) ∷ (cond h.y_center (codes "yllcenter") (codes "yllcorner"), h.y)
    ∷ (codes "cellsize", h.size) ∷ (codes "NODATA_value", codes "1e31") ∷ []

abbrev pub flat : List (List ℕ × List ℕ) → List (List ℕ)
flat [] = []
flat (kv ∷ kvs) = kv.0 ∷ kv.1 ∷ flat kvs

center_token : (center : Bool) (one other : List ℕ) → IsTokenWord one → IsTokenWord other → IsTokenWord (cond center one other)
center_token true one other a b = a
center_token false one other a b = b

pub head_words : (rows cols : ℕ) (h : Head) (rest : List ℕ) (words : List (List ℕ)) → rows < 2 ^ 64 → cols < 2 ^ 64 → is_coordinate h.x ≡ true → is_coordinate h.y ≡ true → is_cell_size h.size ≡ true → HasWords rest words
    → HasWords (head_lines rows cols h ++ (key_line (codes "NODATA_value") (codes "1e31") ++ rest)) (flat (head_pairs rows cols h) ++ words)
head_words rows cols h rest words few_rows few_cols x y size found =
    let x_key = cond h.x_center (codes "xllcenter") (codes "xllcorner") in
    let y_key = cond h.y_center (codes "yllcenter") (codes "yllcorner") in
    let last : List ℕ = key_line (codes "NODATA_value") (codes "1e31") ++ rest in
    let size_line = key_line (codes "cellsize") h.size in
    let y_line = key_line y_key h.y in
    let x_line = key_line x_key h.x in
    lines_front (codes "ncols") (decimal cols) (key_line (codes "nrows") (decimal rows) ++ (x_line ++ (y_line ++ size_line))) last _ (record { some = lit< tt; bytes = refl }) (digits_token _ (decimal_digits cols few_cols))
    (lines_front (codes "nrows") (decimal rows) (x_line ++ (y_line ++ size_line)) last _ (record { some = lit< tt; bytes = refl }) (digits_token _ (decimal_digits rows few_rows))
    (lines_front x_key h.x (y_line ++ size_line) last _ (center_token h.x_center (codes "xllcenter") (codes "xllcorner") (record { some = lit< tt; bytes = refl }) (record { some = lit< tt; bytes = refl })) (coordinate_token h.x x)
    (lines_front y_key h.y size_line last _ (center_token h.y_center (codes "yllcenter") (codes "yllcorner") (record { some = lit< tt; bytes = refl }) (record { some = lit< tt; bytes = refl })) (coordinate_token h.y y)
    (line_front (codes "cellsize") h.size last _ (record { some = lit< tt; bytes = refl }) (size_token h.size size)
    (line_front (codes "NODATA_value") (codes "1e31") rest words (record { some = lit< tt; bytes = refl }) (record { some = lit< tt; bytes = refl }) found)))))
