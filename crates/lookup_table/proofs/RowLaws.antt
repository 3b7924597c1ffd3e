-- A line is read exactly where it is a row of a table, and its first fault is told.
use Rattle.std.proofs.Common.{◌≡◌, ℕ, zero, suc, ◌+◌, ◌<◌, cond, List, [], ◌∷◌, ◌++◌, length, Ok, Err, Result, refl, sym, ap, subst, ◌∙◌, arith, ℤ, length-append}
use Rattle.std.specs.Prelude.{◌==◌}
use Rattle.std.specs.List.{AllZip}
use Rattle.std.proofs.lemmas.Bool.{eqb-true, eq-eqb}
use Rattle.cell_values.specs.declared.kind.Kind.{Kind}
use Rattle.cell_values.specs.declared.cell.Cell.TheVariants.{Val}
use Rattle.cell_values.specs.declared.cell.NumberFault.{NumberFault}
use Rattle.cell_values.specs.inside.Reading.{cell_read}
use Rattle.text_base.specs.Results.{◌>>=◌}
use Rattle.text_base.proofs.Callers.{bool_cases, ok_is, err_is, bind_gives, bind_fails}
use Rattle.lookup_table.specs.declared.key.KeyRange.{KeyRange}
use Rattle.lookup_table.specs.declared.fault.TableKind.{TableKind}
use Rattle.lookup_table.specs.declared.fault.TableKind.TheVariants as kinds
use Rattle.lookup_table.specs.Columns.{AreColumns}
use Rattle.lookup_table.specs.Keys.{IsKey}
use Rattle.lookup_table.specs.Form.{TableRow, IsTableRow}
use Rattle.lookup_table.specs.Faults.{told, KeyFault, RowFault, Unclosed, WrongCount, AtKey, AtResult}
use Rattle.lookup_table.specs.inside.Reading.{columns_of, number_read, key_read, key_in, key_at, result_in, result_at, last_row, with_key, row_at, row_read}
use Rattle.lookup_table.proofs.ColumnLaws.{begins_first}
use Rattle.lookup_table.proofs.ColumnLists.{columns_read, columns_are, columns_fail, unclosed_read}
use Rattle.lookup_table.proofs.KeyLaws.{number_gives, number_is, number_fails, number_refused}
use Rattle.lookup_table.proofs.IntervalLaws.{key_gives, key_is, key_fails, key_refused}

-- ---- a row of columns that are there

row_of : ℕ → Kind → List (List ℕ) → Result TableRow TableKind
row_of zero kind [] = Err kinds.Columns
row_of zero kind (column ∷ columns) = number_read kind column >>= λ z. Ok (last_row z)
row_of (suc keys) kind [] = Err kinds.Columns
row_of (suc keys) kind (column ∷ columns) = key_read column >>= λ range. row_of keys kind columns >>= λ row. Ok (with_key range row)

-- the columns of the bytes make the row of the bytes
row_of_columns : (keys : ℕ) (kind : Kind) (columns : List (List ℕ)) (bytes : List ℕ) → AreColumns bytes columns → length columns ≡ keys + 1 → row_at keys kind bytes ≡ row_of keys kind columns
unfolding row_of row_at key_at result_at
row_of_columns zero kind [] bytes are n = absurd (omega arith)
row_of_columns (suc keys) kind [] bytes are n = absurd (omega arith)
row_of_columns zero kind (column ∷ columns) bytes are n =
    ap (λ r. r >>= result_in kind >>= λ z. Ok (last_row z)) (begins_first bytes column are.parts.0 are.parts.1)
row_of_columns (suc keys) kind (column ∷ columns) bytes are n =
    let more : List ℕ = are.parts.0 in
    ap (λ r. r >>= key_in >>= λ found. row_at keys kind found.1 >>= λ row. Ok (with_key found.0 row)) (begins_first bytes column more are.parts.1)
    ∙ moved (key_read column) more
    ∙ ap (λ r. key_read column >>= λ range. r >>= λ row. Ok (with_key range row)) (row_of_columns keys kind columns more (record { rest = are.rest; parts = are.parts.2; blank = are.blank }) (omega arith))
  where
    found_at : List ℕ → KeyRange → Result (KeyRange × List ℕ) TableKind
    found_at rest range = Ok (range, rest)

    moved : (r : Result KeyRange TableKind) (rest : List ℕ) → ((r >>= found_at rest) >>= λ found. row_at keys kind found.1 >>= λ row. Ok (with_key found.0 row)) ≡ (r >>= λ range. row_at keys kind rest >>= λ row. Ok (with_key range row))
    moved (Ok range) rest = refl
    moved (Err f) rest = refl

-- columns that are a row
record Given (keys : ℕ) (kind : Kind) (columns : List (List ℕ)) (row : TableRow) : Type 0 where
  key_columns : List (List ℕ)
  result_column : List ℕ
  parts : columns ≡ key_columns ++ result_column ∷ []
  count : length key_columns ≡ keys
  ranges : AllZip IsKey key_columns row.keys
  result : cell_read kind result_column ≡ Ok (Val row.result)

one_alone : (column : List ℕ) (columns : List (List ℕ)) → length (column ∷ columns) ≡ 1 → columns ≡ []
one_alone column [] n = refl
one_alone column (other ∷ columns) n = absurd (omega arith)

of_gives : (keys : ℕ) (kind : Kind) (columns : List (List ℕ)) (row : TableRow) → length columns ≡ keys + 1 → row_of keys kind columns ≡ Ok row → Given keys kind columns row
unfolding row_of
of_gives zero kind [] row n e = absurd (cc)
of_gives (suc keys) kind [] row n e = absurd (cc)
of_gives zero kind (column ∷ columns) row n e =
    bind_gives (number_read kind column) _ row e (λ z is e1.
    let none : columns ≡ [] = one_alone column columns (omega arith) in
    subst (Given zero kind (column ∷ columns)) (ok_is _ _ e1)
    (record { key_columns = []; result_column = column; parts = ap (λ cs. column ∷ cs) none; count = refl; ranges = tt; result = number_gives kind column z is }))
of_gives (suc keys) kind (column ∷ columns) row n e =
    bind_gives (key_read column) _ row e (λ range is e1.
    bind_gives (row_of keys kind columns) _ row e1 (λ more there e2.
    let g = of_gives keys kind columns more (omega arith) there in
    subst (Given (suc keys) kind (column ∷ columns)) (ok_is _ _ e2)
    (record { key_columns = column ∷ g.key_columns; result_column = g.result_column; parts = ap (λ cs. column ∷ cs) g.parts; count = ap suc g.count; ranges = (key_gives column range is, g.ranges); result = g.result })))

of_is : (keys : ℕ) (kind : Kind) (key_columns : List (List ℕ)) (result_column : List ℕ) (ranges : List KeyRange) (z : ℤ) → length key_columns ≡ keys → AllZip IsKey key_columns ranges → cell_read kind result_column ≡ Ok (Val z)
    → row_of keys kind (key_columns ++ result_column ∷ []) ≡ Ok (record { keys = ranges; result = z })
unfolding row_of
of_is zero kind [] column [] z n zipped is = ap (λ r. r >>= λ y. Ok (last_row y)) (number_is kind column z is)
of_is zero kind [] column (r ∷ rs) z n zipped is = absurd zipped
of_is zero kind (c ∷ cs) column ranges z n zipped is = absurd (omega arith)
of_is (suc keys) kind [] column ranges z n zipped is = absurd (omega arith)
of_is (suc keys) kind (c ∷ cs) column [] z n zipped is = absurd zipped
of_is (suc keys) kind (c ∷ cs) column (r ∷ rs) z n zipped is =
    ap (λ k. k >>= λ range. row_of keys kind (cs ++ column ∷ []) >>= λ row. Ok (with_key range row)) (key_is c r zipped.0)
    ∙ ap (λ k. k >>= λ row. Ok (with_key r row)) (of_is keys kind cs column rs z (omega arith) zipped.1 is)

-- ---- the first column at fault

data Bad (keys : ℕ) (kind : Kind) (columns : List (List ℕ)) (fault : TableKind) : Type 0 where
  BadKey : (before more : List (List ℕ)) (column : List ℕ) (ranges : List KeyRange) → columns ≡ before ++ column ∷ more → length before < keys → AllZip IsKey before ranges → KeyFault column fault → Bad keys kind columns fault
  BadResult : (before : List (List ℕ)) (column : List ℕ) (ranges : List KeyRange) (why : NumberFault) → columns ≡ before ++ column ∷ [] → length before ≡ keys → AllZip IsKey before ranges → cell_read kind column ≡ Err why → fault ≡ told why → Bad keys kind columns fault

bad_more : (keys : ℕ) (kind : Kind) (column : List ℕ) (columns : List (List ℕ)) (range : KeyRange) (fault : TableKind) → IsKey column range → Bad keys kind columns fault → Bad (suc keys) kind (column ∷ columns) fault
bad_more keys kind column columns range fault is (BadKey before more other ranges parts less zipped bad) =
    BadKey (column ∷ before) more other (range ∷ ranges) (ap (λ cs. column ∷ cs) parts) (omega arith) (is, zipped) bad
bad_more keys kind column columns range fault is (BadResult before other ranges why parts n zipped refused same) =
    BadResult (column ∷ before) other (range ∷ ranges) why (ap (λ cs. column ∷ cs) parts) (omega arith) (is, zipped) refused same

of_fails : (keys : ℕ) (kind : Kind) (columns : List (List ℕ)) (fault : TableKind) → length columns ≡ keys + 1 → row_of keys kind columns ≡ Err fault → Bad keys kind columns fault
unfolding row_of
of_fails zero kind [] fault n e = absurd (omega arith)
of_fails (suc keys) kind [] fault n e = absurd (omega arith)
of_fails zero kind (column ∷ columns) fault n e =
    bind_fails (number_read kind column) _ fault e
    (λ bad.
    let w = number_fails kind column fault bad in
    let none : columns ≡ [] = one_alone column columns (omega arith) in
    BadResult [] column [] w.why (ap (λ cs. column ∷ cs) none) refl tt w.refused w.is)
    (λ z is e1. absurd (cc))
of_fails (suc keys) kind (column ∷ columns) fault n e =
    bind_fails (key_read column) _ fault e
    (λ bad. BadKey [] columns column [] refl (omega arith) tt (key_fails column fault bad))
    (λ range is e1. bind_fails (row_of keys kind columns) _ fault e1
    (λ there. bad_more keys kind column columns range fault (key_gives column range is) (of_fails keys kind columns fault (omega arith) there))
    (λ row there e2. absurd (cc)))

of_bad_key : (keys : ℕ) (kind : Kind) (before more : List (List ℕ)) (column : List ℕ) (ranges : List KeyRange) (fault : TableKind) → length before < keys → AllZip IsKey before ranges → KeyFault column fault → row_of keys kind (before ++ column ∷ more) ≡ Err fault
unfolding row_of
of_bad_key zero kind before more column ranges fault less zipped bad = absurd (omega arith)
of_bad_key (suc keys) kind [] more column ranges fault less zipped bad =
    ap (λ k. k >>= λ range. row_of keys kind more >>= λ row. Ok (with_key range row)) (key_refused column fault bad)
of_bad_key (suc keys) kind (c ∷ cs) more column [] fault less zipped bad = absurd zipped
of_bad_key (suc keys) kind (c ∷ cs) more column (r ∷ rs) fault less zipped bad =
    ap (λ k. k >>= λ range. row_of keys kind (cs ++ column ∷ more) >>= λ row. Ok (with_key range row)) (key_is c r zipped.0)
    ∙ ap (λ k. k >>= λ row. Ok (with_key r row)) (of_bad_key keys kind cs more column rs fault (omega arith) zipped.1 bad)

of_bad_result : (keys : ℕ) (kind : Kind) (before : List (List ℕ)) (column : List ℕ) (ranges : List KeyRange) (why : NumberFault) → length before ≡ keys → AllZip IsKey before ranges → cell_read kind column ≡ Err why → row_of keys kind (before ++ column ∷ []) ≡ Err (told why)
unfolding row_of
of_bad_result zero kind [] column ranges why n zipped refused = ap (λ r. r >>= λ y. Ok (last_row y)) (number_refused kind column why refused)
of_bad_result zero kind (c ∷ cs) column ranges why n zipped refused = absurd (omega arith)
of_bad_result (suc keys) kind [] column ranges why n zipped refused = absurd (omega arith)
of_bad_result (suc keys) kind (c ∷ cs) column [] why n zipped refused = absurd zipped
of_bad_result (suc keys) kind (c ∷ cs) column (r ∷ rs) why n zipped refused =
    ap (λ k. k >>= λ range. row_of keys kind (cs ++ column ∷ []) >>= λ row. Ok (with_key range row)) (key_is c r zipped.0)
    ∙ ap (λ k. k >>= λ row. Ok (with_key r row)) (of_bad_result keys kind cs column rs why (omega arith) zipped.1 refused)

-- ---- lines

abbrev pub counted : ℕ → Kind → List ℕ → List (List ℕ) → Result TableRow TableKind
counted keys kind bytes columns = cond (length columns == keys + 1) (row_at keys kind bytes) (Err kinds.Columns)

row_with : (keys : ℕ) (kind : Kind) (bytes : List ℕ) (columns : List (List ℕ)) → AreColumns bytes columns → row_read keys kind bytes ≡ counted keys kind bytes columns
unfolding row_read
row_with keys kind bytes columns are = ap (λ r. r >>= counted keys kind bytes) (columns_read columns bytes are)

row_right : (keys : ℕ) (kind : Kind) (bytes : List ℕ) (columns : List (List ℕ)) → AreColumns bytes columns → length columns ≡ keys + 1 → row_read keys kind bytes ≡ row_of keys kind columns
row_right keys kind bytes columns are n =
    row_with keys kind bytes columns are
    ∙ ap (λ b. cond b (row_at keys kind bytes) (Err kinds.Columns)) (eq-eqb (length columns) (keys + 1) n)
    ∙ row_of_columns keys kind columns bytes are n

pub row_gives : (keys : ℕ) (kind : Kind) (bytes : List ℕ) (row : TableRow) → row_read keys kind bytes ≡ Ok row → IsTableRow keys kind bytes row
unfolding row_read
row_gives keys kind bytes row e =
    bind_gives (columns_of bytes) _ row e (λ columns is e1.
    let are = columns_are bytes columns is in
    bool_cases (length columns == keys + 1)
    (λ right.
    let n : length columns ≡ keys + 1 = eqb-true _ _ right in
    let g = of_gives keys kind columns row n (sym (row_right keys kind bytes columns are n) ∙ e) in
    record { key_columns = g.key_columns; result_column = g.result_column; columns = subst (AreColumns bytes) g.parts are; count = g.count; ranges = g.ranges; result = g.result })
    (λ wrong. let fails : Err kinds.Columns ≡ Ok row = sym (ap (λ b. cond b (row_at keys kind bytes) (Err kinds.Columns)) wrong) ∙ e1 in absurd (cc)))

pub row_is : (keys : ℕ) (kind : Kind) (bytes : List ℕ) (row : TableRow) → IsTableRow keys kind bytes row → row_read keys kind bytes ≡ Ok row
row_is keys kind bytes row is =
    let n : length (is.key_columns ++ is.result_column ∷ []) ≡ keys + 1 = omega (arith, length-append is.key_columns (is.result_column ∷ []), is.count) in
    row_right keys kind bytes (is.key_columns ++ is.result_column ∷ []) is.columns n
    ∙ of_is keys kind is.key_columns is.result_column row.keys row.result is.count is.ranges is.result

pub row_fails : (keys : ℕ) (kind : Kind) (bytes : List ℕ) (fault : TableKind) → row_read keys kind bytes ≡ Err fault → RowFault keys kind bytes fault
unfolding row_read
row_fails keys kind bytes fault e =
    bind_fails (columns_of bytes) _ fault e
    (λ bad. let u = columns_fail bytes fault bad in Unclosed u.1 u.0)
    (λ columns is e1.
    let are = columns_are bytes columns is in
    bool_cases (length columns == keys + 1)
    (λ right.
    let n : length columns ≡ keys + 1 = eqb-true _ _ right in
    by_column columns are n (of_fails keys kind columns fault n (sym (row_right keys kind bytes columns are n) ∙ e)))
    (λ wrong.
    let is_columns : Err kinds.Columns ≡ Err fault = sym (ap (λ b. cond b (row_at keys kind bytes) (Err kinds.Columns)) wrong) ∙ e1 in
    WrongCount columns are (λ n. let right = eq-eqb (length columns) (keys + 1) n in absurd (cc)) (sym (err_is _ _ is_columns))))
  where
    by_column : (columns : List (List ℕ)) → AreColumns bytes columns → length columns ≡ keys + 1 → Bad keys kind columns fault → RowFault keys kind bytes fault
    by_column columns are n (BadKey before more column ranges parts less zipped bad) =
        AtKey before more column ranges (subst (AreColumns bytes) parts are) (sym (ap (λ (cs : List (List ℕ)). length cs) parts) ∙ n) less zipped bad
    by_column columns are n (BadResult before column ranges why parts count zipped refused same) =
        AtResult before column ranges why (subst (AreColumns bytes) parts are) count zipped refused same

pub row_refused : (keys : ℕ) (kind : Kind) (bytes : List ℕ) (fault : TableKind) → RowFault keys kind bytes fault → row_read keys kind bytes ≡ Err fault
unfolding row_read
row_refused keys kind bytes fault (Unclosed u is) = ap (λ r. r >>= counted keys kind bytes) (unclosed_read bytes u) ∙ ap (λ (k : TableKind). Err k) (sym is)
row_refused keys kind bytes fault (WrongCount columns are wrong is) =
    row_with keys kind bytes columns are
    ∙ ap (λ b. cond b (row_at keys kind bytes) (Err kinds.Columns)) (bool_cases (length columns == keys + 1) (λ right. absurd (wrong (eqb-true _ _ right))) (λ fails. fails))
    ∙ ap (λ (k : TableKind). Err k) (sym is)
row_refused keys kind bytes fault (AtKey before more column ranges are n less zipped bad) =
    row_right keys kind bytes (before ++ column ∷ more) are n ∙ of_bad_key keys kind before more column ranges fault less zipped bad
row_refused keys kind bytes fault (AtResult before column ranges why are n zipped refused is) =
    let count : length (before ++ column ∷ []) ≡ keys + 1 = omega (arith, length-append before (column ∷ []), n) in
    row_right keys kind bytes (before ++ column ∷ []) are count ∙ of_bad_result keys kind before column ranges why n zipped refused ∙ ap (λ (k : TableKind). Err k) (sym is)
