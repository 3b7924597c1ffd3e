-- All columns of a line are found, and no others.
use Rattle.std.proofs.Common.{◌≡◌, ℕ, zero, suc, ◌+◌, ◌≤◌, ◌<◌, true, List, [], ◌∷◌, ◌++◌, length, Some, None, Ok, Err, Result, refl, sym, ap, subst, ◌∙◌, arith, length-append}
use Rattle.std.specs.List.{list_all}
use Rattle.text_base.specs.Bytes.{is_blank}
use Rattle.text_base.specs.Results.{◌>>=◌}
use Rattle.text_base.proofs.Callers.{ok_is, err_is}
use Rattle.lookup_table.specs.declared.fault.TableKind.{TableKind}
use Rattle.lookup_table.specs.declared.fault.TableKind.TheVariants as kinds
use Rattle.lookup_table.specs.Columns.{BeginsWith, BeginsWithAll, AreColumns, IsUnclosed}
use Rattle.lookup_table.specs.inside.Reading.{FirstColumn, first_column, columns_then, columns_within, columns_of}
use Rattle.lookup_table.proofs.ColumnLaws.{blank_first, unclosed_first, begins_first, Opens, First, Blank, Column, Open, first, first_gives, first_none, first_fails, begins_shorter}
use Rattle.lookup_table.specs.inside.Steps.{answer_by, count_of}

-- ---- one step

within_step : (n : ℕ) (bytes : List ℕ) (found : FirstColumn) → first_column bytes ≡ Ok found → columns_within (suc n) bytes ≡ columns_then (columns_within n) found
unfolding columns_within
within_step n bytes found e = ap (λ r. r >>= columns_then (columns_within n)) e

within_fails : (n : ℕ) (bytes : List ℕ) (f : TableKind) → first_column bytes ≡ Err f → columns_within (suc n) bytes ≡ Err f
unfolding columns_within
within_fails n bytes f e = ap (λ r. r >>= columns_then (columns_within n)) e

within_blank : (n : ℕ) (bytes : List ℕ) → list_all is_blank bytes ≡ true → columns_within n bytes ≡ Ok []
unfolding columns_within
within_blank zero bytes blank = refl
within_blank (suc n) bytes blank = ap (λ r. r >>= columns_then (columns_within n)) (blank_first bytes blank)

opens_first : (bytes : List ℕ) → Opens bytes → first_column bytes ≡ Err kinds.BadInterval
opens_first bytes o = ap first_column o.parts ∙ unclosed_first o.gap o.opening o.inner o.blank o.opens o.never

opens_some : (bytes : List ℕ) → Opens bytes → 0 < length bytes
opens_some bytes o = omega (arith, ap length o.parts, length-append o.gap (o.opening ∷ o.inner))

-- the columns do not depend on how many bytes are allowed for
columns_fuel : (n m : ℕ) (bytes : List ℕ) → length bytes ≤ n → length bytes ≤ m → columns_within n bytes ≡ columns_within m bytes
columns_fuel n m bytes short few = by_first n m bytes (first bytes) short few
  where
    by_first : (n m : ℕ) (bytes : List ℕ) → First bytes → length bytes ≤ n → length bytes ≤ m → columns_within n bytes ≡ columns_within m bytes
    by_first n m bytes (Blank blank) short few = within_blank n bytes blank ∙ sym (within_blank m bytes blank)
    by_first zero m bytes (Open o) short few = absurd (let some = opens_some bytes o in omega arith)
    by_first (suc n) zero bytes (Open o) short few = absurd (let some = opens_some bytes o in omega arith)
    by_first (suc n) (suc m) bytes (Open o) short few = within_fails n bytes _ (opens_first bytes o) ∙ sym (within_fails m bytes _ (opens_first bytes o))
    by_first zero m bytes (Column column rest begins) short few = absurd (let less = begins_shorter bytes column rest begins in omega arith)
    by_first (suc n) zero bytes (Column column rest begins) short few = absurd (let less = begins_shorter bytes column rest begins in omega arith)
    by_first (suc n) (suc m) bytes (Column column rest begins) short few =
        let less = begins_shorter bytes column rest begins in
        let is = begins_first bytes column rest begins in
        let more : columns_within n rest ≡ columns_within m rest = by_first n m rest (first rest) (omega arith) (omega arith) in
        within_step n bytes _ is ∙ ap (λ r. r >>= λ columns. Ok (column ∷ columns)) more ∙ sym (within_step m bytes _ is)

-- ---- all columns

pub columns_blank : (bytes : List ℕ) → list_all is_blank bytes ≡ true → columns_of bytes ≡ Ok []
columns_blank bytes blank = within_blank (length bytes) bytes blank

pub columns_open : (bytes : List ℕ) → Opens bytes → columns_of bytes ≡ Err kinds.BadInterval
columns_open bytes o =
    let some = opens_some bytes o in
    columns_fuel (length bytes) (suc (length bytes)) bytes (omega arith) (omega arith) ∙ within_fails (length bytes) bytes _ (opens_first bytes o)

pub columns_more : (bytes column rest : List ℕ) → BeginsWith bytes column rest → columns_of bytes ≡ (columns_of rest >>= λ columns. Ok (column ∷ columns))
columns_more bytes column rest begins =
    let less = begins_shorter bytes column rest begins in
    columns_fuel (length bytes) (suc (length bytes)) bytes (omega arith) (omega arith)
    ∙ within_step (length bytes) bytes _ (begins_first bytes column rest begins)
    ∙ ap (λ r. r >>= λ columns. Ok (column ∷ columns)) (columns_fuel (length bytes) (length rest) rest (omega arith) (omega arith))

-- columns of the line are read
pub columns_read : (columns : List (List ℕ)) (bytes : List ℕ) → AreColumns bytes columns → columns_of bytes ≡ Ok columns
columns_read [] bytes are = columns_blank bytes (ap (list_all is_blank) are.parts ∙ are.blank)
columns_read (column ∷ columns) bytes are =
    let more : List ℕ = are.parts.0 in
    columns_more bytes column more are.parts.1
    ∙ ap (λ r. r >>= λ others. Ok (column ∷ others)) (columns_read columns more (record { rest = are.rest; parts = are.parts.2; blank = are.blank }))

-- an interval that is not closed is the fault, whatever columns stand before it
unclosed_behind : (columns : List (List ℕ)) (bytes rest : List ℕ) → BeginsWithAll columns bytes rest → Opens rest → columns_of bytes ≡ Err kinds.BadInterval
unclosed_behind [] bytes rest parts o = ap columns_of parts ∙ columns_open rest o
unclosed_behind (column ∷ columns) bytes rest parts o =
    columns_more bytes column parts.0 parts.1
    ∙ ap (λ r. r >>= λ others. Ok (column ∷ others)) (unclosed_behind columns parts.0 rest parts.2 o)

pub unclosed_read : (bytes : List ℕ) → IsUnclosed bytes → columns_of bytes ≡ Err kinds.BadInterval
unclosed_read bytes u =
    unclosed_behind u.columns bytes (u.gap ++ u.opening ∷ u.inner) u.parts (record { gap = u.gap; opening = u.opening; inner = u.inner; parts = refl; blank = u.blank; opens = u.opens; never = u.never })

-- what is read are the columns, or an interval is not closed
pub data Columns (bytes : List ℕ) : Type 0 where
  Closed : (columns : List (List ℕ)) → AreColumns bytes columns → Columns bytes
  Unclosed : IsUnclosed bytes → Columns bytes

columns_behind : (bytes column rest : List ℕ) → BeginsWith bytes column rest → Columns rest → Columns bytes
columns_behind bytes column rest begins (Closed columns are) = Closed (column ∷ columns) (record { rest = are.rest; parts = (rest, begins, are.parts); blank = are.blank })
columns_behind bytes column rest begins (Unclosed u) =
    Unclosed (record { columns = column ∷ u.columns; gap = u.gap; opening = u.opening; inner = u.inner; parts = (rest, begins, u.parts); blank = u.blank; opens = u.opens; never = u.never })

columns_by : (n : ℕ) (bytes : List ℕ) → length bytes ≤ n → First bytes → Columns bytes
columns_by n bytes short (Blank blank) = Closed [] (record { rest = bytes; parts = refl; blank = blank })
columns_by n bytes short (Open o) = Unclosed (record { columns = []; gap = o.gap; opening = o.opening; inner = o.inner; parts = o.parts; blank = o.blank; opens = o.opens; never = o.never })
columns_by zero bytes short (Column column rest begins) = absurd (let less = begins_shorter bytes column rest begins in omega arith)
columns_by (suc n) bytes short (Column column rest begins) =
    let less = begins_shorter bytes column rest begins in
    columns_behind bytes column rest begins (columns_by n rest (omega arith) (first rest))

pub columns_view : (bytes : List ℕ) → Columns bytes
columns_view bytes = columns_by (length bytes) bytes (omega arith) (first bytes)

pub columns_are : (bytes : List ℕ) (columns : List (List ℕ)) → columns_of bytes ≡ Ok columns → AreColumns bytes columns
columns_are bytes columns e = by_view (columns_view bytes)
  where
    by_view : Columns bytes → AreColumns bytes columns
    by_view (Closed others are) = subst (AreColumns bytes) (ok_is _ _ (sym (columns_read others bytes are) ∙ e)) are
    by_view (Unclosed u) = let fails = unclosed_read bytes u in absurd (cc)

pub columns_fail : (bytes : List ℕ) (fault : TableKind) → columns_of bytes ≡ Err fault → (fault ≡ kinds.BadInterval) × IsUnclosed bytes
columns_fail bytes fault e = by_view (columns_view bytes)
  where
    by_view : Columns bytes → (fault ≡ kinds.BadInterval) × IsUnclosed bytes
    by_view (Closed others are) = let gives = columns_read others bytes are in absurd (cc)
    by_view (Unclosed u) = (err_is _ _ (sym e ∙ unclosed_read bytes u), u)

-- ---- how many columns there are

pub count_more : (k : ℕ) (bytes column rest : List ℕ) → first_column bytes ≡ Ok (Some (column, rest)) → answer_by (λ n. k + 1 + n) (count_of (columns_of rest)) ≡ answer_by (λ n. k + n) (count_of (columns_of bytes))
count_more k bytes column rest e = one_more (columns_of rest) ∙ ap (λ r. answer_by (λ n. k + n) (count_of r)) (sym (columns_more bytes column rest (first_gives bytes column rest e)))
  where
    one_more : (r : Result (List (List ℕ)) TableKind) → answer_by (λ n. k + 1 + n) (count_of r) ≡ answer_by (λ n. k + n) (count_of (r >>= λ columns. Ok (column ∷ columns)))
    one_more (Ok columns) = let same : k + 1 + length columns ≡ k + suc (length columns) = omega arith in ap (λ (n : ℕ). Ok n) same
    one_more (Err f) = refl

pub count_none : (k : ℕ) (bytes : List ℕ) → first_column bytes ≡ Ok None → Ok k ≡ answer_by (λ n. k + n) (count_of (columns_of bytes))
count_none k bytes e =
    let same : k ≡ k + 0 = omega arith in
    ap (λ (n : ℕ). Ok n) same ∙ ap (λ r. answer_by (λ n. k + n) (count_of r)) (sym (columns_blank bytes (first_none bytes e)))

pub count_fails : (k : ℕ) (bytes : List ℕ) (fault : TableKind) → first_column bytes ≡ Err fault → Err fault ≡ answer_by (λ n. k + n) (count_of (columns_of bytes))
count_fails k bytes fault e =
    let o = first_fails bytes fault e in
    let same : fault ≡ kinds.BadInterval = err_is _ _ (sym e ∙ opens_first bytes o) in
    ap (λ (f : TableKind). Err f) same ∙ ap (λ r. answer_by (λ n. k + n) (count_of r)) (sym (columns_open bytes o))
