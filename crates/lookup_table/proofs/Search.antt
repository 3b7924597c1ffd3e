-- Rows that stand apart are searched by halving.
use Rattle.std.proofs.Common.{◌≡◌, ℕ, zero, suc, ◌+◌, ◌-◌, ◌≤◌, ◌<◌, Bool, true, false, cond, ◌&&◌, List, [], ◌∷◌, length, get_or, Some, None, refl, sym, ap, ◌∙◌, subst, arith, ℤ, pos, ◌<ℤ◌, ◌≤ℤ◌, int_le, int_lt, inl, inr, ◌⊎◌}
use Rattle.std.specs.List.{find, AllPass, AllAdjacentBelow}
use Rattle.std.specs.List.Sorted.{IsPartitionedBy}
use Rattle.std.proofs.Math.Nat.{eq-or-lt_of_le}
use Rattle.std.proofs.lemmas.Bool.{cases_lt, and_parts}
use Rattle.std.proofs.lemmas.Int.{ints}
use Rattle.lookup_table.specs.declared.key.KeyRange.{KeyRange}
use Rattle.lookup_table.specs.declared.row.Row.{Row}
use Rattle.lookup_table.specs.Keys.{lies_in}
use Rattle.lookup_table.specs.inside.Steps.{begins_behind, rows_are_apart, Begun}

-- ---- the first that passes

find_no : {X : Type 0} (p : X → Bool) (x : X) (xs : List X) → p x ≡ false → find p (x ∷ xs) ≡ find p xs
find_no p x xs fails = ap (λ (b : Bool). cond b (Some x) (find p xs)) fails

pub find_none : {X : Type 0} (p : X → Bool) (d : X) (xs : List X) → ((k : ℕ) → k < length xs → p (get_or xs k d) ≡ false) → find p xs ≡ None
find_none p d [] fails = refl
find_none p d (x ∷ xs) fails = find_no p x xs (fails 0 (omega arith)) ∙ find_none p d xs (λ k below. fails (suc k) (omega arith))

pub find_found : {X : Type 0} (p : X → Bool) (d : X) (xs : List X) (i : ℕ) → i < length xs → p (get_or xs i d) ≡ true → ((k : ℕ) → k < i → p (get_or xs k d) ≡ false) → find p xs ≡ Some (get_or xs i d)
find_found p d [] i within passes fails = absurd (omega arith)
find_found p d (x ∷ xs) zero within passes fails = ap (λ (b : Bool). cond b (Some x) (find p xs)) passes
find_found p d (x ∷ xs) (suc i) within passes fails =
    find_no p x xs (fails 0 (omega arith)) ∙ find_found p d xs i (omega arith) passes (λ k below. fails (suc k) (omega arith))

-- ---- rows that stand apart

le_of : (a b : ℤ) → int_le a b ≡ true → a ≤ℤ b
le_of a b h = grind (arith, ints)

of_le : (a b : ℤ) → a ≤ℤ b → int_le a b ≡ true
of_le a b h = grind (arith, ints)

not_le : (a b : ℤ) → int_le a b ≡ false → b <ℤ a
not_le a b h = grind (arith, ints)

of_not_le : (a b : ℤ) → b <ℤ a → int_le a b ≡ false
of_not_le a b h = grind (arith, ints)

lt_of : (a b : ℤ) → int_lt a b ≡ true → a <ℤ b
lt_of a b h = grind (arith, ints)

-- rows that stand apart, by their places
record Apart (rows : List Row) : Type 0 where
  some : AllPass (λ row. int_le row.a.first row.a.last) rows
  next : AllAdjacentBelow (λ earlier later. earlier.a.last <ℤ later.a.first) rows (length rows)

next_more : (row : Row) (rows : List Row) → begins_behind row rows ≡ true → AllAdjacentBelow (λ earlier later. earlier.a.last <ℤ later.a.first) rows (length rows) → AllAdjacentBelow (λ earlier later. earlier.a.last <ℤ later.a.first) (row ∷ rows) (length (row ∷ rows))
next_more row [] behind more k d below = absurd (omega arith)
next_more row (x ∷ xs) behind more zero d below = lt_of _ _ behind
next_more row (x ∷ xs) behind more (suc k) d below =
    let place : suc (k + 1) ≡ suc k + 1 = omega arith in
    subst (λ n. (get_or (x ∷ xs) k d).a.last <ℤ (get_or (row ∷ x ∷ xs) n d).a.first) place (more k d (omega arith))

some_more : (row : Row) (rows : List Row) → int_le row.a.first row.a.last ≡ true → AllPass (λ r. int_le r.a.first r.a.last) rows → AllPass (λ r. int_le r.a.first r.a.last) (row ∷ rows)
some_more row rows filled more zero d below = filled
some_more row rows filled more (suc k) d below = more k d (omega arith)

apart_of : (rows : List Row) → rows_are_apart rows ≡ true → Apart rows
apart_of [] e = record { some = λ k d below. absurd (omega arith); next = λ k d below. absurd (omega arith) }
apart_of (row ∷ rows) e =
    let parts = and_parts (int_le row.a.first row.a.last) _ e in
    let others = and_parts (begins_behind row rows) _ parts.1 in
    let more = apart_of rows others.1 in
    record { some = some_more row rows parts.0 more.some; next = next_more row rows others.0 more.next }

module _ (rows : List Row) (d : Row) (are : rows_are_apart rows ≡ true) where
  filled : (k : ℕ) → k < length rows → (get_or rows k d).a.first ≤ℤ (get_or rows k d).a.last
  filled k below = le_of _ _ ((apart_of rows are).some k d below)

  -- each row begins behind the end of those before it
  ordered : (i gap : ℕ) → i + suc gap < length rows → (get_or rows i d).a.last <ℤ (get_or rows (i + suc gap) d).a.first
  ordered i zero below = subst (λ n. (get_or rows i d).a.last <ℤ (get_or rows n d).a.first) (omega arith) ((apart_of rows are).next i d (omega arith))
  ordered i (suc gap) below =
      let prev : (get_or rows i d).a.last <ℤ (get_or rows (i + suc gap) d).a.first = ordered i gap (omega arith) in
      let here : (get_or rows (i + suc gap) d).a.first ≤ℤ (get_or rows (i + suc gap) d).a.last = filled (i + suc gap) (omega arith) in
      let next : (get_or rows (i + suc gap) d).a.last <ℤ (get_or rows (i + suc gap + 1) d).a.first = (apart_of rows are).next (i + suc gap) d (omega arith) in
      let place : i + suc gap + 1 ≡ i + suc (suc gap) = omega arith in
      subst (λ n. (get_or rows i d).a.last <ℤ (get_or rows n d).a.first) place (omega (arith, ints, prev, here, next))

  pub before : (i j : ℕ) → i < j → j < length rows → (get_or rows i d).a.last <ℤ (get_or rows j d).a.first
  before i j less below =
      let place : i + suc (j - (i + 1)) ≡ j = omega arith in
      subst (λ n. (get_or rows i d).a.last <ℤ (get_or rows n d).a.first) place (ordered i (j - (i + 1)) (omega arith))

  -- a row that begins at a number or before it has those before it there too
  pub begun_before : (z : ℤ) (i j : ℕ) → i ≤ j → j < length rows → int_le (get_or rows j d).a.first z ≡ true → int_le (get_or rows i d).a.first z ≡ true
  begun_before z i j upto below begun = by_place (eq-or-lt_of_le upto)
    where
      by_place : (i ≡ j) ⊎ (i < j) → int_le (get_or rows i d).a.first z ≡ true
      by_place (inl same) = subst (λ n. int_le (get_or rows n d).a.first z ≡ true) (sym same) begun
      by_place (inr less) =
          let here : (get_or rows i d).a.first ≤ℤ (get_or rows i d).a.last = filled i (omega arith) in
          let next : (get_or rows i d).a.last <ℤ (get_or rows j d).a.first = before i j less below in
          let there : (get_or rows j d).a.first ≤ℤ z = le_of (get_or rows j d).a.first z begun in
          let upto_z : (get_or rows i d).a.first ≤ℤ z = omega (arith, ints, here, next, there) in
          of_le (get_or rows i d).a.first z upto_z

-- the rows that begin at a number or before it come first
pub begun_first : (rows : List Row) (z : ℤ) → rows_are_apart rows ≡ true → IsPartitionedBy (λ row. int_le row.a.first z) rows
begun_first rows z are i j d upto below begun = begun_before rows d are z i j upto below begun

-- a row that stands for none
abbrev pub no_row : Row
no_row = let none : KeyRange = record { first = pos 0; last = pos 0 } in record { a = none; b = none; c = none; d = none; result = pos 0 }

module _ (rows : List Row) (d : Row) (are : rows_are_apart rows ≡ true) (z : ℤ) (n : ℕ) (point : Begun rows z n) where
  -- a row that begins behind the number does not take it in
  behind : (k : ℕ) → n ≤ k → k < length rows → lies_in (get_or rows k d).a z ≡ false
  behind k from below = ap (λ b. b && int_le z (get_or rows k d).a.last) (point.1 k d from below)

  -- nor does a row that ends before it
  ends : (k : ℕ) → (get_or rows k d).a.last <ℤ z → lies_in (get_or rows k d).a z ≡ false
  ends k less = and_false (int_le (get_or rows k d).a.first z) _ (of_not_le z (get_or rows k d).a.last less)
    where
      and_false : (a b : Bool) → b ≡ false → (a && b) ≡ false
      and_false true b h = h
      and_false false b h = refl

  -- the last row that has begun
  last_begun : 0 < n → (get_or rows (n - 1) d).a.first ≤ℤ z
  last_begun some = le_of _ _ (point.0 (n - 1) d (omega arith) (omega arith))

  -- the rows before it have ended
  passed : (k : ℕ) → k + 1 < n → n ≤ length rows → lies_in (get_or rows k d).a z ≡ false
  passed k less within =
      let next : (get_or rows k d).a.last <ℤ (get_or rows (n - 1) d).a.first = before rows d are k (n - 1) (omega arith) (omega arith) in
      let begun : (get_or rows (n - 1) d).a.first ≤ℤ z = last_begun (omega arith) in
      let less_z : (get_or rows k d).a.last <ℤ z = omega (arith, ints, next, begun) in
      ends k less_z

  pub none_begun : n ≡ 0 → find (λ row. lies_in row.a z) rows ≡ None
  none_begun zero_is = find_none _ d rows (λ k below. behind k (omega arith) below)

  pub last_fails : 0 < n → n ≤ length rows → lies_in (get_or rows (n - 1) d).a z ≡ false → find (λ row. lies_in row.a z) rows ≡ None
  last_fails some within fails = find_none _ d rows (λ k below. by_place k below (cases_lt k (n - 1)))
    where
      at_last : (k : ℕ) → k < length rows → (n - 1 ≡ k) ⊎ (n - 1 < k) → lies_in (get_or rows k d).a z ≡ false
      at_last k below (inl same) = subst (λ m. lies_in (get_or rows m d).a z ≡ false) same fails
      at_last k below (inr more) = behind k (omega arith) below

      by_place : (k : ℕ) → k < length rows → (k < n - 1) ⊎ (n - 1 ≤ k) → lies_in (get_or rows k d).a z ≡ false
      by_place k below (inl less) = passed k (omega arith) within
      by_place k below (inr from) = at_last k below (eq-or-lt_of_le from)

  pub last_takes : 0 < n → n ≤ length rows → lies_in (get_or rows (n - 1) d).a z ≡ true → find (λ row. lies_in row.a z) rows ≡ Some (get_or rows (n - 1) d)
  last_takes some within takes = find_found _ d rows (n - 1) (omega arith) takes (λ k less. passed k (omega arith) within)
