-- The rows of a text, as the reader goes over them.
use Rattle.std.proofs.Common.{◌≡◌, ◌≢◌, ℕ, ◌≤◌, ◌<◌, cond, List, [], ◌∷◌, ◌++◌, length, Ok, Err, Result, refl, sym, ap, ◌∙◌, arith, append_assoc}
use Rattle.std.specs.Prelude.{◌==◌}
use Rattle.std.specs.List.{All}
use Rattle.std.proofs.lemmas.Bool.{lt-ltb, le-ltb, eq-eqb, eqb-true}
use Rattle.std.proofs.lemmas.List.{append-nil}
use Rattle.std.proofs.lemmas.List.Elements.{All-push}
use Rattle.std.proofs.lemmas.List.Quantifiers.{all_pairs_push}
use Rattle.cell_values.specs.declared.kind.Kind.{Kind}
use Rattle.cell_values.specs.declared.cell.Cell.{Cell}
use Rattle.text_base.specs.Lines.{Line}
use Rattle.text_base.specs.Results.{◌>>=◌}
use Rattle.text_base.proofs.Callers.{bool_cases, ok_is, err_is}
use Rattle.time_series.specs.declared.row.SeriesRow.{SeriesRow}
use Rattle.time_series.specs.declared.fault.SeriesFault.{SeriesFault}
use Rattle.time_series.specs.declared.fault.SeriesKind.{SeriesKind}
use Rattle.time_series.specs.declared.fault.SeriesKind.TheVariants as kinds
use Rattle.time_series.specs.declared.fault.ReadSeries.{ReadSeries}
use Rattle.time_series.specs.declared.fault.ReadSeries.TheVariants.{Fault, Memory}
use Rattle.time_series.specs.Words.{line_words, step_of_word, cell_of_word}
use Rattle.time_series.specs.inside.Reading.{word_gives, cells_read, row_of_words, behind_step, step_row_read, at_line, step_rows_read}
use Rattle.time_series.specs.inside.Steps.{AnswersFault, CellsAre, IsKeptSeries, behind_all}

-- ---- a list that is read one by one

-- an element more, where the others are read behind it
pub one_more : {X E : Type 0} (before : List X) (x : X) (read : Result (List X) E) → behind_all (before ++ x ∷ []) read ≡ behind_all before (read >>= λ xs. Ok (x ∷ xs))
one_more before x (Ok xs) = ap (λ (all : List _). Ok all) (append_assoc before (x ∷ []) xs)
one_more before x (Err e) = refl

-- nothing more
pub none_more : {X E : Type 0} (before : List X) → behind_all {X = X} {E = E} before (Ok []) ≡ Ok before
none_more before = ap (λ (all : List _). Ok all) (append-nil before)

-- ---- the cells of a row

module _ (kind : Kind) (before : List Cell) where
  pub cell_more : (word : List ℕ) (words : List (List ℕ)) (cell : Cell) → Ok cell ≡ word_gives (cell_of_word kind word) → behind_all (before ++ cell ∷ []) (cells_read kind words) ≡ behind_all before (cells_read kind (word ∷ words))
  unfolding cells_read
  cell_more word words cell is = one_more before cell (cells_read kind words) ∙ ap (λ r. behind_all before (r >>= λ c. cells_read kind words >>= λ cs. Ok (c ∷ cs))) is

  pub cell_bad : (word : List ℕ) (words : List (List ℕ)) (what : SeriesKind) → Err what ≡ word_gives (cell_of_word kind word) → Err what ≡ behind_all before (cells_read kind (word ∷ words))
  unfolding cells_read
  cell_bad word words what is = ap (λ r. behind_all before (r >>= λ c. cells_read kind words >>= λ cs. Ok (c ∷ cs))) is

  pub cells_done : behind_all before (cells_read kind []) ≡ Ok before
  unfolding cells_read
  cells_done = none_more before

-- ---- a row

-- the fault of a part stays that of the whole
pub fault_stays : {X Y : Type 0} (why : ReadSeries) (number : ℕ) (part : Result X SeriesKind) (whole : Result Y SeriesKind) → ((k : SeriesKind) → part ≡ Err k → whole ≡ Err k) → AnswersFault why (at_line number part) → AnswersFault why (at_line number whole)
fault_stays Memory number part whole stays answer = tt
fault_stays (Fault f) number (Ok x) whole stays answer = absurd (cc)
fault_stays (Fault f) number (Err k) whole stays answer = ap (at_line number) (stays k refl) ∙ ap (λ (g : SeriesFault). Err g) (err_is _ _ answer)

-- what is read in a line is read
pub line_gives : {X : Type 0} (number : ℕ) (r : Result X SeriesKind) (x : X) → at_line number r ≡ Ok x → r ≡ Ok x
line_gives number (Ok y) x e = ap (λ (z : _). Ok z) (ok_is _ _ e)
line_gives number (Err k) x e = absurd (cc)

module _ (kind : Kind) where
  pub words_none : (words : List (List ℕ)) → words ≡ [] → row_of_words kind words ≡ Err kinds.Columns
  unfolding row_of_words
  words_none words none = ap (row_of_words kind) none

  pub step_bad : (words more : List (List ℕ)) (word : List ℕ) (what : SeriesKind) → words ≡ word ∷ more → Err what ≡ word_gives (step_of_word word) → row_of_words kind words ≡ Err what
  unfolding row_of_words
  step_bad words more word what parts is =
      ap (row_of_words kind) parts ∙ ap (λ r. r >>= λ step. cells_read kind more >>= λ cells. Ok (record { step = step; cells = cells })) (sym is)

  pub cells_bad : (words more : List (List ℕ)) (word : List ℕ) (step : ℕ) (what : SeriesKind) → words ≡ word ∷ more → Ok step ≡ word_gives (step_of_word word) → cells_read kind more ≡ Err what → row_of_words kind words ≡ Err what
  unfolding row_of_words
  cells_bad words more word step what parts is bad =
      ap (row_of_words kind) parts
      ∙ ap (λ r. r >>= λ s. cells_read kind more >>= λ cells. Ok (record { step = s; cells = cells })) (sym is)
      ∙ ap (λ r. r >>= λ cells. Ok (record { step = step; cells = cells })) bad

  pub words_row : (words more : List (List ℕ)) (word : List ℕ) (step : ℕ) (cells : List Cell) → words ≡ word ∷ more → Ok step ≡ word_gives (step_of_word word) → cells_read kind more ≡ Ok cells → row_of_words kind words ≡ Ok (record { step = step; cells = cells })
  unfolding row_of_words
  words_row words more word step cells parts is good =
      ap (row_of_words kind) parts
      ∙ ap (λ r. r >>= λ s. cells_read kind more >>= λ cs. Ok (record { step = s; cells = cs })) (sym is)
      ∙ ap (λ r. r >>= λ cs. Ok (record { step = step; cells = cs })) good

  module _ (width before : ℕ) (bytes : List ℕ) where
    pub width_bad : length (line_words bytes) ≢ width → step_row_read kind width before bytes ≡ Err kinds.Columns
    unfolding step_row_read
    width_bad wrong =
        ap (λ b. cond b (row_of_words kind (line_words bytes) >>= behind_step before) (Err kinds.Columns))
        (bool_cases (length (line_words bytes) == width) (λ right. absurd (wrong (eqb-true _ _ right))) (λ fails. fails))

    pub width_good : length (line_words bytes) ≡ width → step_row_read kind width before bytes ≡ (row_of_words kind (line_words bytes) >>= behind_step before)
    unfolding step_row_read
    width_good right = ap (λ b. cond b (row_of_words kind (line_words bytes) >>= behind_step before) (Err kinds.Columns)) (eq-eqb (length (line_words bytes)) width right)

    pub row_bad : (what : SeriesKind) → length (line_words bytes) ≡ width → row_of_words kind (line_words bytes) ≡ Err what → step_row_read kind width before bytes ≡ Err what
    row_bad what right bad = width_good right ∙ ap (λ r. r >>= behind_step before) bad

    pub order_bad : (row : SeriesRow) → length (line_words bytes) ≡ width → row_of_words kind (line_words bytes) ≡ Ok row → row.step ≤ before → step_row_read kind width before bytes ≡ Err kinds.Order
    order_bad row right good late = width_good right ∙ ap (λ r. r >>= behind_step before) good ∙ ap (λ b. cond b (Ok row) (Err kinds.Order)) (le-ltb before row.step late)

    pub row_good : (row : SeriesRow) → length (line_words bytes) ≡ width → row_of_words kind (line_words bytes) ≡ Ok row → before < row.step → step_row_read kind width before bytes ≡ Ok row
    row_good row right good above = width_good right ∙ ap (λ r. r >>= behind_step before) good ∙ ap (λ b. cond b (Ok row) (Err kinds.Order)) (lt-ltb before row.step above)

-- ---- rows

module _ (kind : Kind) (width step : ℕ) (before : List SeriesRow) where
  pub row_more : (line : Line) (lines : List Line) (row : SeriesRow) → at_line line.number (step_row_read kind width step line.bytes) ≡ Ok row → behind_all (before ++ row ∷ []) (step_rows_read kind width row.step lines) ≡ behind_all before (step_rows_read kind width step (line ∷ lines))
  unfolding step_rows_read
  row_more line lines row is =
      one_more before row (step_rows_read kind width row.step lines)
      ∙ ap (λ r. behind_all before (r >>= λ x. step_rows_read kind width x.step lines >>= λ xs. Ok (x ∷ xs))) (sym is)

  pub rows_bad : (line : Line) (lines : List Line) (why : ReadSeries) → AnswersFault why (at_line line.number (step_row_read kind width step line.bytes)) → AnswersFault why (behind_all before (step_rows_read kind width step (line ∷ lines)))
  unfolding step_rows_read
  rows_bad line lines Memory answer = tt
  rows_bad line lines (Fault f) answer = ap (λ r. behind_all before (r >>= λ x. step_rows_read kind width x.step lines >>= λ xs. Ok (x ∷ xs))) answer

  pub rows_done : behind_all before (step_rows_read kind width step []) ≡ Ok before
  unfolding step_rows_read
  rows_done = none_more before

-- what is kept with one row more
pub kept_more : (kind : Kind) (rows : List SeriesRow) (row : SeriesRow) (before : ℕ) → IsKeptSeries kind rows → All (λ earlier. earlier.step ≤ before) rows → CellsAre kind row → before < row.step → IsKeptSeries kind (rows ++ row ∷ [])
kept_more kind rows row before kept below cells above = record {
  cells = All-push (CellsAre kind) rows row kept.cells cells;
  ascending = all_pairs_push (λ earlier later. earlier.step < later.step) rows row kept.ascending (λ k d less. let h = below k d less in omega arith);
}

pub below_more : (rows : List SeriesRow) (row : SeriesRow) (before : ℕ) → All (λ earlier. earlier.step ≤ before) rows → before < row.step → All (λ earlier. earlier.step ≤ row.step) (rows ++ row ∷ [])
below_more rows row before below above =
    All-push (λ earlier. earlier.step ≤ row.step) rows row (λ k d less. let h = below k d less in omega arith) (omega arith)
