-- The laws of reading: a text is read exactly where it is a table, and its first fault is told exactly where it has one.
use Rattle.std.proofs.Common.{◌≡◌, ℕ, List, [], ◌∷◌, ◌++◌, Ok, Err, Result, refl, sym, ap, subst, ◌∙◌, append_assoc}
use Rattle.std.specs.Prelude.{IfOk, IfErr}
use Rattle.std.specs.List.{AllZip}
use Rattle.std.proofs.lemmas.List.{map-append, append-nil}
use Rattle.cell_values.specs.declared.kind.Kind.{Kind}
use Rattle.text_base.specs.Lines.{Line, lines_of}
use Rattle.text_base.specs.Results.{◌>>=◌}
use Rattle.text_base.proofs.Callers.{ok_is, err_is, bind_gives, bind_fails}
use Rattle.lookup_table.specs.declared.row.Row.{Row}
use Rattle.lookup_table.specs.declared.fault.TableFault.{TableFault}
use Rattle.lookup_table.specs.declared.fault.TableKind.{TableKind}
use Rattle.lookup_table.specs.declared.fault.ReadTable.{ReadTable}
use Rattle.lookup_table.specs.declared.fault.ReadTable.TheVariants.{Fault, Memory}
use Rattle.lookup_table.specs.Form.{TableRow, TableValue, IsTableRow, IsTable}
use Rattle.lookup_table.specs.Faults.{RowFault, IsFirstTableFault}
use Rattle.lookup_table.specs.inside.Reading.{in_line, row_read, rows_read, table_of}
use Rattle.lookup_table.specs.Reading.{TablesAreRead, FirstTableFaultsAreTold, ReadsTable, TellsFirstTableFault}
use Rattle.lookup_table.specs.inside.Steps.{row_view, rows_view, behind_rows}
use Rattle.lookup_table.proofs.RowLaws.{row_gives, row_is, row_fails, row_refused}

module _ (keys : ℕ) (kind : Kind) where
  -- the line is the row
  abbrev pub Is : Line → TableRow → Type 0
  Is line row = IsTableRow keys kind line.bytes row

  line_gives : (line : Line) (row : TableRow) → in_line line.number (row_read keys kind line.bytes) ≡ Ok row → Is line row
  line_gives line row e = row_gives keys kind line.bytes row (by_answer (row_read keys kind line.bytes) e)
    where
      by_answer : (r : Result TableRow TableKind) → in_line line.number r ≡ Ok row → r ≡ Ok row
      by_answer (Ok other) h = ap (λ (x : TableRow). Ok x) (ok_is _ _ h)
      by_answer (Err k) h = absurd (cc)

  line_is : (line : Line) (row : TableRow) → Is line row → in_line line.number (row_read keys kind line.bytes) ≡ Ok row
  line_is line row is = ap (in_line line.number) (row_is keys kind line.bytes row is)

  -- ---- rows

  pub rows_give : (lines : List Line) (rows : List TableRow) → rows_read keys kind lines ≡ Ok rows → AllZip Is lines rows
  unfolding rows_read
  rows_give [] rows e = subst (AllZip Is []) (ok_is _ _ e) tt
  rows_give (line ∷ lines) rows e =
      bind_gives (in_line line.number (row_read keys kind line.bytes)) _ rows e (λ row is e1.
      bind_gives (rows_read keys kind lines) _ rows e1 (λ more there e2.
      subst (AllZip Is (line ∷ lines)) (ok_is _ _ e2) (line_gives line row is, rows_give lines more there)))

  pub rows_are : (lines : List Line) (rows : List TableRow) → AllZip Is lines rows → rows_read keys kind lines ≡ Ok rows
  unfolding rows_read
  rows_are [] [] zipped = refl
  rows_are [] (row ∷ rows) zipped = absurd zipped
  rows_are (line ∷ lines) [] zipped = absurd zipped
  rows_are (line ∷ lines) (row ∷ rows) zipped =
      ap (λ r. r >>= λ x. rows_read keys kind lines >>= λ xs. Ok (x ∷ xs)) (line_is line row zipped.0)
      ∙ ap (λ r. r >>= λ xs. Ok (row ∷ xs)) (rows_are lines rows zipped.1)

  -- the first of these lines that is no row, and its fault
  record First (lines : List Line) (fault : TableFault) : Type 0 where
    before : List Line
    line : Line
    more : List Line
    rows : List TableRow
    parts : lines ≡ before ++ line ∷ more
    sound : AllZip Is before rows
    here : RowFault keys kind line.bytes fault.kind
    number : fault.line ≡ line.number

  line_fails : (line : Line) (fault : TableFault) → in_line line.number (row_read keys kind line.bytes) ≡ Err fault → RowFault keys kind line.bytes fault.kind × (fault.line ≡ line.number)
  line_fails line fault e = by_answer (row_read keys kind line.bytes) refl e
    where
      by_answer : (r : Result TableRow TableKind) → row_read keys kind line.bytes ≡ r → in_line line.number r ≡ Err fault → RowFault keys kind line.bytes fault.kind × (fault.line ≡ line.number)
      by_answer (Ok other) is h = absurd (cc)
      by_answer (Err k) is h =
          let same : record { kind = k; line = line.number } ≡ fault = err_is _ _ h in
          subst (λ (f : TableFault). RowFault keys kind line.bytes f.kind × (f.line ≡ line.number)) same (row_fails keys kind line.bytes k is, refl)

  rows_fail : (lines : List Line) (fault : TableFault) → rows_read keys kind lines ≡ Err fault → First lines fault
  unfolding rows_read
  rows_fail [] fault e = absurd (cc)
  rows_fail (line ∷ lines) fault e =
      bind_fails (in_line line.number (row_read keys kind line.bytes)) _ fault e
      (λ bad. let f = line_fails line fault bad in record { before = []; line = line; more = lines; rows = []; parts = refl; sound = tt; here = f.0; number = f.1 })
      (λ row is e1. bind_fails (rows_read keys kind lines) _ fault e1
      (λ there.
      let f = rows_fail lines fault there in
      record { before = line ∷ f.before; line = f.line; more = f.more; rows = row ∷ f.rows; parts = ap (λ ls. line ∷ ls) f.parts; sound = (line_gives line row is, f.sound); here = f.here; number = f.number })
      (λ rows there e2. absurd (cc)))

  rows_refused : (before : List Line) (line : Line) (more : List Line) (rows : List TableRow) (fault : TableFault) → AllZip Is before rows → RowFault keys kind line.bytes fault.kind → fault.line ≡ line.number → rows_read keys kind (before ++ line ∷ more) ≡ Err fault
  unfolding rows_read
  rows_refused [] line more rows fault sound here number =
      ap (λ r. in_line line.number r >>= λ x. rows_read keys kind more >>= λ xs. Ok (x ∷ xs)) (row_refused keys kind line.bytes fault.kind here)
      ∙ ap (λ (n : ℕ). Err (record { kind = fault.kind; line = n })) (sym number)
  rows_refused (first ∷ before) line more [] fault sound here number = absurd sound
  rows_refused (first ∷ before) line more (row ∷ rows) fault sound here number =
      ap (λ r. r >>= λ x. rows_read keys kind (before ++ line ∷ more) >>= λ xs. Ok (x ∷ xs)) (line_is first row sound.0)
      ∙ ap (λ r. r >>= λ xs. Ok (row ∷ xs)) (rows_refused before line more rows fault sound.1 here number)

-- ---- tables

table_gives : (keys : ℕ) (kind : Kind) (text : List ℕ) (table : TableValue) → table_of keys kind text ≡ Ok table → IsTable keys kind text table
unfolding table_of
table_gives keys kind text table e =
    bind_gives (rows_read keys kind (lines_of text)) _ table e (λ rows is e1.
    subst (IsTable keys kind text) (ok_is _ _ e1) (record { keys_is = refl; kind_is = refl; rows = rows_give keys kind (lines_of text) rows is }))

pub table_is : (keys : ℕ) (kind : Kind) (text : List ℕ) (table : TableValue) → IsTable keys kind text table → table_of keys kind text ≡ Ok table
unfolding table_of
table_is keys kind text table is =
    let same : record { keys = keys; kind = kind; rows = table.rows } ≡ table =
    ap (λ (n : ℕ). record { keys = n; kind = kind; rows = table.rows }) (sym is.keys_is) ∙ ap (λ (k : Kind). record { keys = table.keys; kind = k; rows = table.rows }) (sym is.kind_is) in
    ap (λ r. r >>= λ rows. Ok (record { keys = keys; kind = kind; rows = rows })) (rows_are keys kind (lines_of text) table.rows is.rows)
    ∙ ap (λ (t : TableValue). Ok t) same

pub tables_read : TablesAreRead
tables_read keys kind text table = (table_gives keys kind text table, table_is keys kind text table)

fault_gives : (keys : ℕ) (kind : Kind) (text : List ℕ) (fault : TableFault) → table_of keys kind text ≡ Err fault → IsFirstTableFault keys kind text fault
unfolding table_of
fault_gives keys kind text fault e =
    bind_fails (rows_read keys kind (lines_of text)) _ fault e
    (λ bad.
    let f = rows_fail keys kind (lines_of text) fault bad in
    record { before = f.before; line = f.line; more = f.more; rows = f.rows; parts = f.parts; sound = f.sound; here = f.here; number = f.number })
    (λ rows is e1. absurd (cc))

fault_is : (keys : ℕ) (kind : Kind) (text : List ℕ) (fault : TableFault) → IsFirstTableFault keys kind text fault → table_of keys kind text ≡ Err fault
unfolding table_of
fault_is keys kind text fault f =
    ap (λ r. r >>= λ rows. Ok (record { keys = keys; kind = kind; rows = rows }))
    (ap (rows_read keys kind) f.parts ∙ rows_refused keys kind f.before f.line f.more f.rows fault f.sound f.here f.number)

pub first_table_faults_told : FirstTableFaultsAreTold
first_table_faults_told keys kind text fault = (fault_gives keys kind text fault, fault_is keys kind text fault)

-- ---- what a reader answers

pub found : (keys : ℕ) (kind : Kind) (text : List ℕ) (r : Result TableValue ReadTable) → ReadsTable r (table_of keys kind text) → IfOk r (IsTable keys kind text)
found keys kind text (Ok table) read = table_gives keys kind text table read
found keys kind text (Err e) read = tt

pub only : (keys : ℕ) (kind : Kind) (text : List ℕ) (r : Result TableValue ReadTable) → ReadsTable r (table_of keys kind text) → (table : TableValue) → IsTable keys kind text table → ReadsTable r (Ok table)
only keys kind text r reads table is = subst (ReadsTable r) (table_is keys kind text table is) reads

pub first : (keys : ℕ) (kind : Kind) (text : List ℕ) (r : Result TableValue ReadTable) → ReadsTable r (table_of keys kind text) → IfErr r (TellsFirstTableFault keys kind text)
first keys kind text (Ok table) e = tt
first keys kind text (Err (Fault f)) told = fault_gives keys kind text f told
first keys kind text (Err Memory) told = tt

-- ---- the lines of a text, one after the other

module _ (keys : ℕ) (kind : Kind) (rows : List Row) where
  -- a row more
  pub line_more : (line : Line) (lines : List Line) (row : Row) → Ok (row_view keys row) ≡ row_read keys kind line.bytes → behind_rows (rows_view keys (rows ++ row ∷ [])) (rows_read keys kind lines) ≡ behind_rows (rows_view keys rows) (rows_read keys kind (line ∷ lines))
  unfolding rows_read
  line_more line lines row is =
      ap (λ (before : List TableRow). behind_rows before (rows_read keys kind lines)) (map-append (row_view keys) rows (row ∷ []))
      ∙ moved (rows_read keys kind lines)
      ∙ ap (λ r. behind_rows (rows_view keys rows) (in_line line.number r >>= λ x. rows_read keys kind lines >>= λ xs. Ok (x ∷ xs))) is
    where
      moved : (r : Result (List TableRow) TableFault) → behind_rows (rows_view keys rows ++ row_view keys row ∷ []) r ≡ behind_rows (rows_view keys rows) (r >>= λ xs. Ok (row_view keys row ∷ xs))
      moved (Ok xs) = ap (λ (all : List TableRow). Ok all) (append_assoc (rows_view keys rows) (row_view keys row ∷ []) xs)
      moved (Err f) = refl

  -- a line that is none
  pub line_bad : (line : Line) (lines : List Line) (k : TableKind) → Err k ≡ row_read keys kind line.bytes → Err (record { kind = k; line = line.number }) ≡ behind_rows (rows_view keys rows) (rows_read keys kind (line ∷ lines))
  unfolding rows_read
  line_bad line lines k is = ap (λ r. behind_rows (rows_view keys rows) (in_line line.number r >>= λ x. rows_read keys kind lines >>= λ xs. Ok (x ∷ xs))) is

  -- no line more
  pub lines_done : behind_rows (rows_view keys rows) (rows_read keys kind []) ≡ Ok (rows_view keys rows)
  unfolding rows_read
  lines_done = ap (λ (all : List TableRow). Ok all) (append-nil (rows_view keys rows))
