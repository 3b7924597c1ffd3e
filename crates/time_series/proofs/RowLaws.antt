-- A line is read exactly where it is a row, and its first fault is told.
use Rattle.std.proofs.Common.{◌≡◌, ◌≢◌, ℕ, ◌<◌, cond, List, [], ◌∷◌, ◌++◌, length, map, Ok, Err, Result, refl, sym, ap, subst, ◌∙◌, arith}
use Rattle.std.specs.Prelude.{nat_lt, ◌==◌}
use Rattle.std.proofs.lemmas.Bool.{ltb-true, ltb-false, eqb-true, eq-eqb}
use Rattle.cell_values.specs.declared.kind.Kind.{Kind}
use Rattle.cell_values.specs.declared.cell.Cell.{Cell}
use Rattle.cell_values.specs.declared.cell.NumberFault.{NumberFault}
use Rattle.text_base.specs.Results.{◌>>=◌}
use Rattle.text_base.proofs.Callers.{bool_cases, ok_is, err_is, head_is, tail_is, bind_gives, bind_fails}
use Rattle.time_series.specs.declared.row.SeriesRow.{SeriesRow}
use Rattle.time_series.specs.declared.fault.SeriesKind.{SeriesKind}
use Rattle.time_series.specs.declared.fault.SeriesKind.TheVariants as kinds
use Rattle.time_series.specs.Words.{line_words, step_of_word, cell_of_word}
use Rattle.time_series.specs.Form.{IsSeriesRow}
use Rattle.time_series.specs.Faults.{word_fault, SeriesRowFault, WrongWidth, BadStep, BadCell, NotAfter}
use Rattle.time_series.specs.inside.Reading.{word_gives, cells_read, row_of_words, behind_step, step_row_read}
use Rattle.time_series.proofs.RowSteps.{width_bad, width_good, row_bad, order_bad, row_good}

-- ---- words

gives_is : {X : Type 0} (r : Result X NumberFault) (x : X) → word_gives r ≡ Ok x → r ≡ Ok x
gives_is (Ok y) x e = ap (λ (z : _). Ok z) (ok_is _ _ e)
gives_is (Err why) x e = absurd (cc)

-- why a word gives nothing
record Refused {X : Type 0} (r : Result X NumberFault) (fault : SeriesKind) : Type 0 where
  why : NumberFault
  refused : r ≡ Err why
  is : fault ≡ word_fault why

gives_not : {X : Type 0} (r : Result X NumberFault) (fault : SeriesKind) → word_gives r ≡ Err fault → Refused r fault
gives_not (Ok y) fault e = absurd (cc)
gives_not (Err w) fault e = record { why = w; refused = refl; is = sym (err_is _ _ e) }

-- ---- cells

cells_give : (kind : Kind) (words : List (List ℕ)) (cells : List Cell) → cells_read kind words ≡ Ok cells → map (cell_of_word kind) words ≡ map (λ (c : Cell). Ok c) cells
unfolding cells_read
cells_give kind [] cells e = subst (λ (cs : List Cell). map (cell_of_word kind) [] ≡ map (λ (c : Cell). Ok c) cs) (ok_is _ _ e) refl
cells_give kind (word ∷ words) cells e =
    bind_gives (word_gives (cell_of_word kind word)) _ cells e (λ cell is e1.
    bind_gives (cells_read kind words) _ cells e1 (λ more there e2.
    subst (λ (cs : List Cell). map (cell_of_word kind) (word ∷ words) ≡ map (λ (c : Cell). Ok c) cs) (ok_is _ _ e2)
    (ap (λ r. r ∷ map (cell_of_word kind) words) (gives_is (cell_of_word kind word) cell is) ∙ ap (λ rs. Ok cell ∷ rs) (cells_give kind words more there))))

cells_are : (kind : Kind) (words : List (List ℕ)) (cells : List Cell) → map (cell_of_word kind) words ≡ map (λ (c : Cell). Ok c) cells → cells_read kind words ≡ Ok cells
unfolding cells_read
cells_are kind [] [] e = refl
cells_are kind [] (c ∷ cs) e = absurd (cc)
cells_are kind (w ∷ ws) [] e = absurd (cc)
cells_are kind (w ∷ ws) (c ∷ cs) e =
    ap (λ r. word_gives r >>= λ cell. cells_read kind ws >>= λ cells. Ok (cell ∷ cells)) (head_is _ _ _ _ e)
    ∙ ap (λ r. r >>= λ cells. Ok (c ∷ cells)) (cells_are kind ws cs (tail_is _ _ _ _ e))

-- the first word that writes no cell
record BadWord (kind : Kind) (words : List (List ℕ)) (fault : SeriesKind) : Type 0 where
  front : List (List ℕ)
  word : List ℕ
  more : List (List ℕ)
  cells : List Cell
  why : NumberFault
  parts : words ≡ front ++ word ∷ more
  good : map (cell_of_word kind) front ≡ map (λ (c : Cell). Ok c) cells
  refused : cell_of_word kind word ≡ Err why
  is : fault ≡ word_fault why

cells_fail : (kind : Kind) (words : List (List ℕ)) (fault : SeriesKind) → cells_read kind words ≡ Err fault → BadWord kind words fault
unfolding cells_read
cells_fail kind [] fault e = absurd (cc)
cells_fail kind (word ∷ words) fault e =
    bind_fails (word_gives (cell_of_word kind word)) _ fault e
    (λ bad. let r = gives_not (cell_of_word kind word) fault bad in record { front = []; word = word; more = words; cells = []; why = r.why; parts = refl; good = refl; refused = r.refused; is = r.is })
    (λ cell is e1. bind_fails (cells_read kind words) _ fault e1
    (λ there.
    let b = cells_fail kind words fault there in
    record {
      front = word ∷ b.front;
      word = b.word;
      more = b.more;
      cells = cell ∷ b.cells;
      why = b.why;
      parts = ap (λ ws. word ∷ ws) b.parts;
      good = ap (λ r. r ∷ map (cell_of_word kind) b.front) (gives_is (cell_of_word kind word) cell is) ∙ ap (λ rs. Ok cell ∷ rs) b.good;
      refused = b.refused;
      is = b.is;
    })
    (λ cells there e2. absurd (cc)))

cells_refused : (kind : Kind) (front more : List (List ℕ)) (word : List ℕ) (cells : List Cell) (why : NumberFault) → map (cell_of_word kind) front ≡ map (λ (c : Cell). Ok c) cells → cell_of_word kind word ≡ Err why → cells_read kind (front ++ word ∷ more) ≡ Err (word_fault why)
unfolding cells_read
cells_refused kind [] more word cells why good refused = ap (λ r. word_gives r >>= λ cell. cells_read kind more >>= λ cs. Ok (cell ∷ cs)) refused
cells_refused kind (w ∷ front) more word [] why good refused = absurd (cc)
cells_refused kind (w ∷ front) more word (c ∷ cs) why good refused =
    ap (λ r. word_gives r >>= λ cell. cells_read kind (front ++ word ∷ more) >>= λ xs. Ok (cell ∷ xs)) (head_is _ _ _ _ good)
    ∙ ap (λ r. r >>= λ xs. Ok (c ∷ xs)) (cells_refused kind front more word cs why (tail_is _ _ _ _ good) refused)

-- ---- the row of words

record WordsRow (kind : Kind) (words : List (List ℕ)) (row : SeriesRow) : Type 0 where
  step_word : List ℕ
  cell_words : List (List ℕ)
  parts : words ≡ step_word ∷ cell_words
  step : step_of_word step_word ≡ Ok row.step
  cells : map (cell_of_word kind) cell_words ≡ map (λ (c : Cell). Ok c) row.cells

words_give : (kind : Kind) (words : List (List ℕ)) (row : SeriesRow) → row_of_words kind words ≡ Ok row → WordsRow kind words row
unfolding row_of_words
words_give kind [] row e = absurd (cc)
words_give kind (word ∷ words) row e =
    bind_gives (word_gives (step_of_word word)) _ row e (λ step is e1.
    bind_gives (cells_read kind words) _ row e1 (λ cells there e2.
    subst (WordsRow kind (word ∷ words)) (ok_is _ _ e2)
    (record { step_word = word; cell_words = words; parts = refl; step = gives_is (step_of_word word) step is; cells = cells_give kind words cells there })))

words_are : (kind : Kind) (words : List (List ℕ)) (row : SeriesRow) → WordsRow kind words row → row_of_words kind words ≡ Ok row
unfolding row_of_words
words_are kind words row w =
    ap (row_of_words kind) w.parts
    ∙ ap (λ r. word_gives r >>= λ step. cells_read kind w.cell_words >>= λ cells. Ok (record { step = step; cells = cells })) w.step
    ∙ ap (λ r. r >>= λ cells. Ok (record { step = row.step; cells = cells })) (cells_are kind w.cell_words row.cells w.cells)

-- ---- lines

module _ (kind : Kind) (width before : ℕ) (bytes : List ℕ) where
  of_row : (row : SeriesRow) → IsSeriesRow kind width bytes row → row_of_words kind (line_words bytes) ≡ Ok row
  of_row row is = words_are kind (line_words bytes) row (record { step_word = is.step_word; cell_words = is.cell_words; parts = is.words; step = is.step; cells = is.cells })

  row_with : (row : SeriesRow) → length (line_words bytes) ≡ width → row_of_words kind (line_words bytes) ≡ Ok row → IsSeriesRow kind width bytes row
  row_with row right e = let w = words_give kind (line_words bytes) row e in record { step_word = w.step_word; cell_words = w.cell_words; words = w.parts; count = right; step = w.step; cells = w.cells }

  pub row_gives : (row : SeriesRow) → step_row_read kind width before bytes ≡ Ok row → IsSeriesRow kind width bytes row × (before < row.step)
  row_gives row e =
      bool_cases (length (line_words bytes) == width)
      (λ right.
      let n : length (line_words bytes) ≡ width = eqb-true _ _ right in
      bind_gives (row_of_words kind (line_words bytes)) (behind_step before) row (sym (width_good kind width before bytes n) ∙ e) (λ other is e1.
      bool_cases (nat_lt before other.step)
      (λ above.
      let same : other ≡ row = ok_is _ _ (sym (ap (λ b. cond b (Ok other) (Err kinds.Order)) above) ∙ e1) in
      subst (λ (r : SeriesRow). IsSeriesRow kind width bytes r × (before < r.step)) same (row_with other n is, ltb-true before other.step above))
      (λ late. let bad : Err kinds.Order ≡ Ok row = sym (ap (λ b. cond b (Ok other) (Err kinds.Order)) late) ∙ e1 in absurd (cc))))
      (λ wrong. let bad = width_bad kind width before bytes (λ n. let right = eq-eqb (length (line_words bytes)) width n in cc) in absurd (cc))

  pub row_is : (row : SeriesRow) → IsSeriesRow kind width bytes row → before < row.step → step_row_read kind width before bytes ≡ Ok row
  row_is row is above = row_good kind width before bytes row is.count (of_row row is) above

  words_fail : (fault : SeriesKind) → length (line_words bytes) ≡ width → (words : List (List ℕ)) → line_words bytes ≡ words → 0 < width → row_of_words kind words ≡ Err fault → SeriesRowFault kind width before bytes fault
  unfolding row_of_words
  words_fail fault right [] parts some e = absurd (let n = ap (λ (ws : List (List ℕ)). length ws) parts in omega arith)
  words_fail fault right (word ∷ words) parts some e =
      bind_fails (word_gives (step_of_word word)) _ fault e
      (λ bad. let r = gives_not (step_of_word word) fault bad in BadStep word words r.why parts right r.refused r.is)
      (λ step is e1. bind_fails (cells_read kind words) _ fault e1
      (λ there.
      let b = cells_fail kind words fault there in
      BadCell word b.word b.front b.more step b.cells b.why (parts ∙ ap (λ ws. word ∷ ws) b.parts) right (gives_is (step_of_word word) step is) b.good b.refused b.is)
      (λ cells there e2. absurd (cc)))

  pub row_fails : (fault : SeriesKind) → 0 < width → step_row_read kind width before bytes ≡ Err fault → SeriesRowFault kind width before bytes fault
  row_fails fault some e =
      bool_cases (length (line_words bytes) == width)
      (λ right.
      let n : length (line_words bytes) ≡ width = eqb-true _ _ right in
      bind_fails (row_of_words kind (line_words bytes)) (behind_step before) fault (sym (width_good kind width before bytes n) ∙ e)
      (λ bad. words_fail fault n (line_words bytes) refl some bad)
      (λ row is e1.
      bool_cases (nat_lt before row.step)
      (λ above. let good : Ok row ≡ Err fault = sym (ap (λ b. cond b (Ok row) (Err kinds.Order)) above) ∙ e1 in absurd (cc))
      (λ late. NotAfter row (row_with row n is) (ltb-false before row.step late) (sym (err_is _ _ (sym (ap (λ b. cond b (Ok row) (Err kinds.Order)) late) ∙ e1))))))
      (λ wrong.
      let differ : length (line_words bytes) ≢ width = λ n. let right = eq-eqb (length (line_words bytes)) width n in cc in
      WrongWidth differ (err_is _ _ (sym e ∙ width_bad kind width before bytes differ)))

  pub row_refused : (fault : SeriesKind) → SeriesRowFault kind width before bytes fault → step_row_read kind width before bytes ≡ Err fault
  unfolding row_of_words
  row_refused fault (WrongWidth wrong is) = width_bad kind width before bytes wrong ∙ ap (λ (k : SeriesKind). Err k) (sym is)
  row_refused fault (BadStep word more why parts right refused is) =
      row_bad kind width before bytes (word_fault why) right
      (ap (row_of_words kind) parts ∙ ap (λ r. word_gives r >>= λ step. cells_read kind more >>= λ cells. Ok (record { step = step; cells = cells })) refused)
      ∙ ap (λ (k : SeriesKind). Err k) (sym is)
  row_refused fault (BadCell step_word word front more step cells why parts right step_is good refused is) =
      row_bad kind width before bytes (word_fault why) right
      (ap (row_of_words kind) parts
      ∙ ap (λ r. word_gives r >>= λ s. cells_read kind (front ++ word ∷ more) >>= λ cs. Ok (record { step = s; cells = cs })) step_is
      ∙ ap (λ r. r >>= λ cs. Ok (record { step = step; cells = cs })) (cells_refused kind front more word cells why good refused))
      ∙ ap (λ (k : SeriesKind). Err k) (sym is)
  row_refused fault (NotAfter row row_is late is) = order_bad kind width before bytes row row_is.count (of_row row row_is) late ∙ ap (λ (k : SeriesKind). Err k) (sym is)
