-- The laws of reading: a text is read exactly where it is a series, and its first fault is told exactly where it has one.
use Rattle.std.proofs.Common.{◌≡◌, ℕ, ◌<◌, List, [], ◌∷◌, ◌++◌, Ok, Err, Result, refl, sym, ap, subst, ◌∙◌}
use Rattle.std.specs.Prelude.{IfOk, IfErr}
use Rattle.cell_values.specs.declared.kind.Kind.{Kind}
use Rattle.text_base.specs.Lines.{Line, lines_of}
use Rattle.text_base.specs.Results.{◌>>=◌}
use Rattle.text_base.proofs.Callers.{ok_is, err_is, bind_gives, bind_fails}
use Rattle.time_series.specs.declared.row.SeriesRow.{SeriesRow}
use Rattle.time_series.specs.declared.fault.SeriesFault.{SeriesFault}
use Rattle.time_series.specs.declared.fault.SeriesKind.{SeriesKind}
use Rattle.time_series.specs.declared.fault.ReadSeries.{ReadSeries}
use Rattle.time_series.specs.declared.fault.ReadSeries.TheVariants.{Fault, Memory}
use Rattle.time_series.specs.Form.{SeriesValue, AreRows, IsSeries}
use Rattle.time_series.specs.Faults.{SeriesRowFault, last_step, IsFirstSeriesFault, AtHead, AtRow}
use Rattle.time_series.specs.Reading.{SeriesAreRead, FirstSeriesFaultsAreTold, ReadsSeries, TellsFirstSeriesFault}
use Rattle.time_series.specs.inside.Reading.{at_line, step_row_read, step_rows_read, head_read, series_of}
use Rattle.time_series.proofs.RowSteps.{line_gives}
use Rattle.time_series.proofs.RowLaws.{row_gives, row_is, row_fails, row_refused}
use Rattle.time_series.proofs.HeadLaws.{head_gives, head_is_read, head_fails, head_refused, width_some}

-- ---- rows

module _ (kind : Kind) (width : ℕ) where
  rows_give : (before : ℕ) (lines : List Line) (rows : List SeriesRow) → step_rows_read kind width before lines ≡ Ok rows → AreRows kind width before lines rows
  unfolding step_rows_read
  rows_give before [] rows e = subst (AreRows kind width before []) (ok_is _ _ e) tt
  rows_give before (line ∷ lines) rows e =
      bind_gives (at_line line.number (step_row_read kind width before line.bytes)) _ rows e (λ row is e1.
      bind_gives (step_rows_read kind width row.step lines) _ rows e1 (λ more there e2.
      let r = row_gives kind width before line.bytes row (line_gives line.number (step_row_read kind width before line.bytes) row is) in
      subst (AreRows kind width before (line ∷ lines)) (ok_is _ _ e2) (r.0, r.1, rows_give row.step lines more there)))

  rows_are : (before : ℕ) (lines : List Line) (rows : List SeriesRow) → AreRows kind width before lines rows → step_rows_read kind width before lines ≡ Ok rows
  unfolding step_rows_read
  rows_are before [] [] are = refl
  rows_are before [] (row ∷ rows) are = absurd are
  rows_are before (line ∷ lines) [] are = absurd are
  rows_are before (line ∷ lines) (row ∷ rows) are =
      ap (λ r. at_line line.number r >>= λ x. step_rows_read kind width x.step lines >>= λ xs. Ok (x ∷ xs)) (row_is kind width before line.bytes row are.0 are.1)
      ∙ ap (λ r. r >>= λ xs. Ok (row ∷ xs)) (rows_are row.step lines rows are.2)

  -- the first of these lines that is no row, and its fault
  record First (before : ℕ) (lines : List Line) (fault : SeriesFault) : Type 0 where
    front : List Line
    line : Line
    more : List Line
    rows : List SeriesRow
    what : SeriesKind
    parts : lines ≡ front ++ line ∷ more
    sound : AreRows kind width before front rows
    here : SeriesRowFault kind width (last_step before rows) line.bytes what
    is : fault ≡ record { kind = what; line = line.number }

  -- why a line is no row
  record Bad (before : ℕ) (line : Line) (fault : SeriesFault) : Type 0 where
    what : SeriesKind
    refused : step_row_read kind width before line.bytes ≡ Err what
    is : fault ≡ record { kind = what; line = line.number }

  line_fails : (before : ℕ) (line : Line) (fault : SeriesFault) → at_line line.number (step_row_read kind width before line.bytes) ≡ Err fault → Bad before line fault
  line_fails before line fault e = by_answer (step_row_read kind width before line.bytes) refl e
    where
      by_answer : (r : Result SeriesRow SeriesKind) → step_row_read kind width before line.bytes ≡ r → at_line line.number r ≡ Err fault → Bad before line fault
      by_answer (Ok other) is h = absurd (cc)
      by_answer (Err k) is h = record { what = k; refused = is; is = sym (err_is _ _ h) }

  rows_fail : (before : ℕ) (lines : List Line) (fault : SeriesFault) → 0 < width → step_rows_read kind width before lines ≡ Err fault → First before lines fault
  unfolding step_rows_read
  rows_fail before [] fault some e = absurd (cc)
  rows_fail before (line ∷ lines) fault some e =
      bind_fails (at_line line.number (step_row_read kind width before line.bytes)) _ fault e
      (λ bad.
      let b = line_fails before line fault bad in
      record { front = []; line = line; more = lines; rows = []; what = b.what; parts = refl; sound = tt; here = row_fails kind width before line.bytes b.what some b.refused; is = b.is })
      (λ row is e1. bind_fails (step_rows_read kind width row.step lines) _ fault e1
      (λ there.
      let f = rows_fail row.step lines fault some there in
      let r = row_gives kind width before line.bytes row (line_gives line.number (step_row_read kind width before line.bytes) row is) in
      record { front = line ∷ f.front; line = f.line; more = f.more; rows = row ∷ f.rows; what = f.what; parts = ap (λ ls. line ∷ ls) f.parts; sound = (r.0, r.1, f.sound); here = f.here; is = f.is })
      (λ rows there e2. absurd (cc)))

  rows_refused : (before : ℕ) (front more : List Line) (line : Line) (rows : List SeriesRow) (what : SeriesKind) → AreRows kind width before front rows → SeriesRowFault kind width (last_step before rows) line.bytes what → step_rows_read kind width before (front ++ line ∷ more) ≡ Err (record { kind = what; line = line.number })
  unfolding step_rows_read
  rows_refused before [] more line [] what sound here =
      ap (λ r. at_line line.number r >>= λ x. step_rows_read kind width x.step more >>= λ xs. Ok (x ∷ xs)) (row_refused kind width before line.bytes what here)
  rows_refused before [] more line (row ∷ rows) what sound here = absurd sound
  rows_refused before (first ∷ front) more line [] what sound here = absurd sound
  rows_refused before (first ∷ front) more line (row ∷ rows) what sound here =
      ap (λ r. at_line first.number r >>= λ x. step_rows_read kind width x.step (front ++ line ∷ more) >>= λ xs. Ok (x ∷ xs)) (row_is kind width before first.bytes row sound.0 sound.1)
      ∙ ap (λ r. r >>= λ xs. Ok (row ∷ xs)) (rows_refused row.step front more line rows what sound.2 here)

-- ---- series

series_give : (kind : Kind) (text : List ℕ) (series : SeriesValue) → series_of kind text ≡ Ok series → IsSeries kind text series
unfolding series_of
series_give kind text series e =
    bind_gives (head_read (lines_of text)) _ series e (λ head is e1.
    bind_gives (step_rows_read kind head.0 0 head.1) _ series e1 (λ rows there e2.
    subst (IsSeries kind text) (ok_is _ _ e2)
    (record { width = head.0; row_lines = head.1; kind_is = refl; head = head_gives (lines_of text) head is; rows = rows_give kind head.0 0 head.1 rows there })))

series_is : (kind : Kind) (text : List ℕ) (series : SeriesValue) → IsSeries kind text series → series_of kind text ≡ Ok series
unfolding series_of
series_is kind text series is =
    ap (λ r. r >>= λ head. step_rows_read kind head.0 0 head.1 >>= λ rows. Ok (record { kind = kind; rows = rows })) (head_is_read (lines_of text) is.width is.row_lines is.head)
    ∙ ap (λ r. r >>= λ rows. Ok (record { kind = kind; rows = rows })) (rows_are kind is.width 0 is.row_lines series.rows is.rows)
    ∙ ap (λ (k : Kind). Ok (record { kind = k; rows = series.rows })) (sym is.kind_is)

pub series_read : SeriesAreRead
series_read kind text series = (series_give kind text series, series_is kind text series)

fault_gives : (kind : Kind) (text : List ℕ) (fault : SeriesFault) → series_of kind text ≡ Err fault → IsFirstSeriesFault kind text fault
unfolding series_of
fault_gives kind text fault e =
    bind_fails (head_read (lines_of text)) _ fault e
    (λ bad. AtHead (head_fails (lines_of text) fault bad))
    (λ head is e1.
    let has = head_gives (lines_of text) head is in
    bind_fails (step_rows_read kind head.0 0 head.1) _ fault e1
    (λ bad.
    let f = rows_fail kind head.0 0 head.1 fault (width_some (lines_of text) head.1 head.0 has) bad in
    AtRow head.0 head.1 f.front f.more f.line f.rows f.what has f.parts f.sound f.here f.is)
    (λ rows there e2. absurd (cc)))

fault_is : (kind : Kind) (text : List ℕ) (fault : SeriesFault) → IsFirstSeriesFault kind text fault → series_of kind text ≡ Err fault
unfolding series_of
fault_is kind text fault (AtHead bad) = ap (λ r. r >>= λ head. step_rows_read kind head.0 0 head.1 >>= λ rows. Ok (record { kind = kind; rows = rows })) (head_refused (lines_of text) fault bad)
fault_is kind text fault (AtRow width row_lines front more line rows what has parts sound here is) =
    ap (λ r. r >>= λ head. step_rows_read kind head.0 0 head.1 >>= λ xs. Ok (record { kind = kind; rows = xs })) (head_is_read (lines_of text) width row_lines has)
    ∙ ap (λ r. r >>= λ xs. Ok (record { kind = kind; rows = xs })) (ap (step_rows_read kind width 0) parts ∙ rows_refused kind width 0 front more line rows what sound here)
    ∙ ap (λ (f : SeriesFault). Err f) (sym is)

pub first_series_faults_told : FirstSeriesFaultsAreTold
first_series_faults_told kind text fault = (fault_gives kind text fault, fault_is kind text fault)

-- ---- what a reader answers

pub found : (kind : Kind) (text : List ℕ) (r : Result SeriesValue ReadSeries) → ReadsSeries r (series_of kind text) → IfOk r (IsSeries kind text)
found kind text (Ok series) read = series_give kind text series read
found kind text (Err e) read = tt

pub only : (kind : Kind) (text : List ℕ) (r : Result SeriesValue ReadSeries) → ReadsSeries r (series_of kind text) → (series : SeriesValue) → IsSeries kind text series → ReadsSeries r (Ok series)
only kind text r reads series is = subst (ReadsSeries r) (series_is kind text series is) reads

pub first : (kind : Kind) (text : List ℕ) (r : Result SeriesValue ReadSeries) → ReadsSeries r (series_of kind text) → IfErr r (TellsFirstSeriesFault kind text)
first kind text (Ok series) e = tt
first kind text (Err (Fault f)) told = fault_gives kind text f told
first kind text (Err Memory) told = tt
