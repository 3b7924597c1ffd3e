-- Rows whose first keys begin and end in ascending order.
use Rattle.std.proofs.Common.{◌≡◌, ℕ, zero, suc, ◌+◌, ◌-◌, ◌≤◌, ◌<◌, Bool, true, false, cond, ◌&&◌, List, [], ◌∷◌, length, get_or, take, drop, Some, refl, sym, ap, ◌∙◌, arith, ℤ, ◌<ℤ◌, ◌≤ℤ◌, int_le, int_lt}
use Rattle.std.specs.Prelude.{Option}
use Rattle.std.specs.List.{find}
use Rattle.std.specs.List.Sorted.{IsPartitionedBy}
use Rattle.std.proofs.lemmas.Bool.{and_parts}
use Rattle.std.proofs.lemmas.Int.{ints}
use Rattle.std.proofs.lemmas.List.{get_or-drop, length-drop}
use Rattle.lookup_table.specs.declared.row.Row.{Row}
use Rattle.lookup_table.specs.Keys.{all_lie_in, lies_in}
use Rattle.lookup_table.specs.inside.Steps.{Begun, EndedBefore, comes_no_earlier, row_view, rows_ascend}

-- ---- the first that passes, in a part

fails_first : {X : Type 0} (p : X → Bool) (x : X) (xs : List X) → p x ≡ false → find p (x ∷ xs) ≡ find p xs
fails_first p x xs fails = ap (λ (b : Bool). cond b (Some x) (find p xs)) fails

-- it is not among the first rows, where these fail
pub find_behind : {X : Type 0} (p : X → Bool) (d : X) (xs : List X) (n : ℕ) → n ≤ length xs → ((k : ℕ) → k < n → p (get_or xs k d) ≡ false) → find p xs ≡ find p (drop n xs)
find_behind p d xs zero within fails = refl
find_behind p d [] (suc n) within fails = absurd (omega arith)
find_behind p d (x ∷ xs) (suc n) within fails = fails_first p x xs (fails 0 (omega arith)) ∙ find_behind p d xs n (omega arith) (λ k h. fails (suc k) (omega arith))

-- nor among the last ones
pub find_before : {X : Type 0} (p : X → Bool) (d : X) (xs : List X) (n : ℕ) → ((k : ℕ) → n ≤ k → k < length xs → p (get_or xs k d) ≡ false) → find p xs ≡ find p (take n xs)
find_before p d [] zero fails = refl
find_before p d [] (suc n) fails = refl
find_before p d (x ∷ xs) zero fails = fails_first p x xs (fails 0 (omega arith) (omega arith)) ∙ find_before p d xs zero (λ k h w. fails (suc k) (omega arith) (omega arith))
find_before {X = X} p d (x ∷ xs) (suc n) fails = ap (λ (o : Option X). cond (p x) (Some x) o) (find_before p d xs n (λ k h w. fails (suc k) (omega arith) (omega arith)))

-- ---- tests of numbers

le_of : (a b : ℤ) → int_le a b ≡ true → a ≤ℤ b
le_of a b h = grind (arith, ints)

of_le : (a b : ℤ) → a ≤ℤ b → int_le a b ≡ true
of_le a b h = grind (arith, ints)

lt_of : (a b : ℤ) → int_lt a b ≡ true → a <ℤ b
lt_of a b h = grind (arith, ints)

of_lt : (a b : ℤ) → a <ℤ b → int_lt a b ≡ true
of_lt a b h = grind (arith, ints)

not_le : (a b : ℤ) → b <ℤ a → int_le a b ≡ false
not_le a b h = grind (arith, ints)

and_none : (a b : Bool) → b ≡ false → (a && b) ≡ false
and_none true b h = h
and_none false b h = refl

-- ---- rows that ascend

next_above : (row : Row) (rows : List Row) (k : ℕ) (d : Row) → rows_ascend (row ∷ rows) ≡ true → k < length rows → (row.a.first ≤ℤ (get_or rows k d).a.first) × (row.a.last ≤ℤ (get_or rows k d).a.last)
next_above row [] k d are below = absurd (omega arith)
next_above row (x ∷ xs) zero d are below =
    let parts = and_parts (comes_no_earlier row (x ∷ xs)) _ are in
    let both = and_parts (int_le row.a.first x.a.first) _ parts.0 in
    (le_of row.a.first x.a.first both.0, le_of row.a.last x.a.last both.1)
next_above row (x ∷ xs) (suc k) d are below =
    let parts = and_parts (comes_no_earlier row (x ∷ xs)) _ are in
    let both = and_parts (int_le row.a.first x.a.first) _ parts.0 in
    let first : row.a.first ≤ℤ x.a.first = le_of row.a.first x.a.first both.0 in
    let last : row.a.last ≤ℤ x.a.last = le_of row.a.last x.a.last both.1 in
    let more = next_above x xs k d parts.1 (omega arith) in
    (omega (arith, ints, first, more.0), omega (arith, ints, last, more.1))

-- a row begins and ends no later than those behind it
pub in_order : (rows : List Row) (d : Row) (i j : ℕ) → rows_ascend rows ≡ true → i ≤ j → j < length rows → ((get_or rows i d).a.first ≤ℤ (get_or rows j d).a.first) × ((get_or rows i d).a.last ≤ℤ (get_or rows j d).a.last)
in_order [] d i j are upto below = absurd (omega arith)
in_order (x ∷ xs) d zero zero are upto below = (omega (arith, ints), omega (arith, ints))
in_order (x ∷ xs) d zero (suc j) are upto below = next_above x xs j d are (omega arith)
in_order (x ∷ xs) d (suc i) zero are upto below = absurd (omega arith)
in_order (x ∷ xs) d (suc i) (suc j) are upto below = in_order xs d i j (and_parts (comes_no_earlier x xs) _ are).1 (omega arith) (omega arith)

-- the rows that begin at a number or before it come first
pub started_first : (rows : List Row) (z : ℤ) → rows_ascend rows ≡ true → IsPartitionedBy (λ row. int_le row.a.first z) rows
started_first rows z are i j d upto below begun =
    let order = in_order rows d i j are upto below in
    let there : (get_or rows j d).a.first ≤ℤ z = le_of (get_or rows j d).a.first z begun in
    of_le (get_or rows i d).a.first z (omega (arith, ints, order.0, there))

-- and so do those that end before it
pub ended_first : (rows : List Row) (z : ℤ) → rows_ascend rows ≡ true → IsPartitionedBy (λ row. int_lt row.a.last z) rows
ended_first rows z are i j d upto below ended =
    let order = in_order rows d i j are upto below in
    let there : (get_or rows j d).a.last <ℤ z = lt_of (get_or rows j d).a.last z ended in
    of_lt (get_or rows i d).a.last z (omega (arith, ints, order.1, there))

-- a row whose first key does not take in the first number does not fit
first_fails : (keys : ℕ) (row : Row) (a : ℤ) (others : List ℤ) → 1 ≤ keys → lies_in row.a a ≡ false → all_lie_in (row_view keys row).keys (a ∷ others) ≡ false
first_fails zero row a others some fails = absurd (omega arith)
first_fails (suc keys) row a others some fails = ap (λ (b : Bool). b && all_lie_in (take keys (row.b ∷ row.c ∷ row.d ∷ [])) others) fails

begins_later : (row : Row) (z : ℤ) → int_le row.a.first z ≡ false → lies_in row.a z ≡ false
begins_later row z later = ap (λ (b : Bool). b && int_le z row.a.last) later

ends_earlier : (row : Row) (z : ℤ) → int_lt row.a.last z ≡ true → lies_in row.a z ≡ false
ends_earlier row z earlier =
    let less : row.a.last <ℤ z = lt_of row.a.last z earlier in
    and_none (int_le row.a.first z) (int_le z row.a.last) (not_le z row.a.last less)

-- the first row that fits is among those whose first key takes in the first number
pub find_between : (keys : ℕ) (rows : List Row) (d : Row) (a : ℤ) (others : List ℤ) (ended started n : ℕ) → 1 ≤ keys → Begun rows a started → EndedBefore rows a ended → n ≤ ended → n ≤ started → started ≤ length rows →
    find (λ row. all_lie_in (row_view keys row).keys (a ∷ others)) (take (started - n) (drop n rows)) ≡ find (λ row. all_lie_in (row_view keys row).keys (a ∷ others)) rows
find_between keys rows d a others ended started n some begun done low within few =
    let p : (Row → Bool) = λ row. all_lie_in (row_view keys row).keys (a ∷ others) in
    let one : find p rows ≡ find p (drop n rows) = find_behind p d rows n (omega arith) (λ k h. first_fails keys (get_or rows k d) a others some (ends_earlier (get_or rows k d) a (done.0 k d (omega arith) (omega arith)))) in
    let two : find p (drop n rows) ≡ find p (take (started - n) (drop n rows)) = find_before p d (drop n rows) (started - n) (λ k h w.
    let place : get_or (drop n rows) k d ≡ get_or rows (n + k) d = get_or-drop n rows k d in
    let low_k : started ≤ n + k = omega arith in
    let high : n + k < length rows = omega (arith, length-drop n rows) in
    ap p place ∙ first_fails keys (get_or rows (n + k) d) a others some (begins_later (get_or rows (n + k) d) a (begun.1 (n + k) d low_k high))) in
    sym (one ∙ two)
