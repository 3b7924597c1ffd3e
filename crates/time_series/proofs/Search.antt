-- A row is found by halving, since steps ascend.
use Rattle.std.proofs.Common.{◌≡◌, ℕ, zero, suc, ◌≤◌, ◌<◌, Bool, true, false, cond, List, [], ◌∷◌, length, get_or, Some, None, refl, sym, ap, ◌∙◌, subst, arith, inl, inr, ◌⊎◌, ℤ, pos, negsuc}
use Rattle.std.specs.Prelude.{nat_lt, ◌==◌}
use Rattle.std.specs.List.{find, list_any, All, AllPairs}
use Rattle.std.specs.List.Sorted.{IsPartitionedBy}
use Rattle.std.proofs.Math.Nat.{eq-or-lt_of_le}
use Rattle.std.proofs.lemmas.Bool.{cases_lt, ltb-true, ltb-false, lt-ltb, eqb-true, eq-eqb}
use Rattle.cell_values.specs.declared.kind.Kind.{Kind}
use Rattle.cell_values.specs.declared.cell.Cell.{Cell}
use Rattle.cell_values.specs.declared.cell.Cell.TheVariants.{Mv}
use Rattle.cell_values.specs.Kinds.{IsCell}
use Rattle.text_base.proofs.Callers.{bool_cases}
use Rattle.time_series.specs.declared.row.SeriesRow.{SeriesRow}
use Rattle.time_series.specs.Values.{cell_in_column}
use Rattle.time_series.specs.inside.Steps.{CellsAre, StepsBefore}

-- ---- the first that passes

find_fails : {X : Type 0} (p : X → Bool) (x : X) (xs : List X) → p x ≡ false → find p (x ∷ xs) ≡ find p xs
find_fails p x xs fails = ap (λ (b : Bool). cond b (Some x) (find p xs)) fails

find_none : {X : Type 0} (p : X → Bool) (d : X) (xs : List X) → ((k : ℕ) → k < length xs → p (get_or xs k d) ≡ false) → find p xs ≡ None
find_none p d [] fails = refl
find_none p d (x ∷ xs) fails = find_fails p x xs (fails 0 (omega arith)) ∙ find_none p d xs (λ k below. fails (suc k) (omega arith))

find_found : {X : Type 0} (p : X → Bool) (d : X) (xs : List X) (i : ℕ) → i < length xs → p (get_or xs i d) ≡ true → ((k : ℕ) → k < i → p (get_or xs k d) ≡ false) → find p xs ≡ Some (get_or xs i d)
find_found p d [] i within passes fails = absurd (omega arith)
find_found p d (x ∷ xs) zero within passes fails = ap (λ (b : Bool). cond b (Some x) (find p xs)) passes
find_found p d (x ∷ xs) (suc i) within passes fails =
    find_fails p x xs (fails 0 (omega arith)) ∙ find_found p d xs i (omega arith) passes (λ k below. fails (suc k) (omega arith))

-- ---- ascending steps

abbrev pub Ascending : List SeriesRow → Type 0
Ascending rows = AllPairs (λ earlier later. earlier.step < later.step) rows

-- the rows with a step below another one stand first
pub steps_first : (rows : List SeriesRow) (step : ℕ) → Ascending rows → IsPartitionedBy (λ row. nat_lt row.step step) rows
steps_first rows step ascending i j d upto below less = by_place (eq-or-lt_of_le upto)
  where
    by_place : (i ≡ j) ⊎ (i < j) → nat_lt (get_or rows i d).step step ≡ true
    by_place (inl same) = subst (λ n. nat_lt (get_or rows n d).step step ≡ true) (sym same) less
    by_place (inr before) =
        let here : (get_or rows i d).step < (get_or rows j d).step = ascending i j d before below in
        let there : (get_or rows j d).step < step = ltb-true (get_or rows j d).step step less in
        lt-ltb (get_or rows i d).step step (omega arith)

not_eq : (a b : ℕ) → (a ≡ b → ⊥) → (a == b) ≡ false
not_eq a b differ = bool_cases (a == b) (λ same. absurd (differ (eqb-true a b same))) (λ fails. fails)

module _ (rows : List SeriesRow) (d : SeriesRow) (ascending : Ascending rows) (step n : ℕ) (point : StepsBefore rows step n) where
  before : (k : ℕ) → k < n → ((get_or rows k d).step == step) ≡ false
  before k less = not_eq _ _ (λ same. let h = ltb-true (get_or rows k d).step step (point.0 k d (omega arith) less) in omega arith)

  pub step_beyond : n ≡ length rows → find (λ row. row.step == step) rows ≡ None
  step_beyond all = find_none _ d rows (λ k below. before k (omega arith))

  pub step_other : n < length rows → ((get_or rows n d).step ≡ step → ⊥) → find (λ row. row.step == step) rows ≡ None
  step_other within differ = find_none _ d rows (λ k below. by_place k below (cases_lt k n))
    where
      from : (k : ℕ) → k < length rows → (n ≡ k) ⊎ (n < k) → ((get_or rows k d).step == step) ≡ false
      from k below (inl same) = subst (λ m. ((get_or rows m d).step == step) ≡ false) same (not_eq _ _ differ)
      from k below (inr more) =
          let there : step ≤ (get_or rows n d).step = ltb-false (get_or rows n d).step step (point.1 n d (omega arith) within) in
          let next : (get_or rows n d).step < (get_or rows k d).step = ascending n k d more below in
          not_eq _ _ (λ same. omega arith)

      by_place : (k : ℕ) → k < length rows → (k < n) ⊎ (n ≤ k) → ((get_or rows k d).step == step) ≡ false
      by_place k below (inl less) = before k less
      by_place k below (inr upto) = from k below (eq-or-lt_of_le upto)

  pub step_here : n < length rows → (get_or rows n d).step ≡ step → find (λ row. row.step == step) rows ≡ Some (get_or rows n d)
  step_here within same = find_found _ d rows n within (eq-eqb _ _ same) (λ k less. before k less)

-- ---- what is found

-- no row is found exactly where none passes
pub found_none : (p : SeriesRow → Bool) (rows : List SeriesRow) → (find p rows ≡ None → list_any p rows ≡ false) × (list_any p rows ≡ false → find p rows ≡ None)
found_none p [] = ((λ e. refl), (λ e. refl))
found_none p (row ∷ rows) =
    bool_cases (p row)
    (λ passes. rw passes ((λ e. absurd (cc)), (λ e. absurd (cc))))
    (λ fails. rw fails (found_none p rows))

-- a row that is found is one of them
pub found_cells : (kind : Kind) (p : SeriesRow → Bool) (rows : List SeriesRow) (row : SeriesRow) → All (CellsAre kind) rows → find p rows ≡ Some row → CellsAre kind row
found_cells kind p [] row cells e = absurd (cc)
found_cells kind p (first ∷ rows) row cells e =
    bool_cases (p first)
    (λ passes.
    let same : first ≡ row = some_same _ _ (sym (ap (λ (b : Bool). cond b (Some first) (find p rows)) passes) ∙ e) in
    subst (CellsAre kind) same (cells 0 first (omega arith)))
    (λ fails. found_cells kind p rows row (λ k d below. cells (suc k) d (omega arith)) (sym (find_fails p first rows fails) ∙ e))
  where
    some_same : (x y : SeriesRow) → Some x ≡ Some y → x ≡ y
    some_same x y h = cc

-- a cell of the row is one of the kind
pub column_cell : (kind : Kind) (cells : List Cell) (column : ℤ) → All (IsCell kind) cells → IsCell kind (cell_in_column cells column)
column_cell kind cells (pos zero) all = tt
column_cell kind cells (pos (suc place)) all = by_place (cases_lt place (length cells))
  where
    beyond : (xs : List Cell) (k : ℕ) → length xs ≤ k → get_or xs k Mv ≡ Mv
    beyond [] k h = refl
    beyond (x ∷ xs) zero h = absurd (omega arith)
    beyond (x ∷ xs) (suc k) h = beyond xs k (omega arith)

    by_place : (place < length cells) ⊎ (length cells ≤ place) → IsCell kind (get_or cells place Mv)
    by_place (inl within) = all place Mv within
    by_place (inr past) = subst (IsCell kind) (sym (beyond cells place past)) tt
column_cell kind cells (negsuc n) all = tt

-- whether a row is there, by what is found of the rows
pub some_any : (p : SeriesRow → Bool) (slice rows : List SeriesRow) (row : SeriesRow) → slice ≡ rows → Some row ≡ find p slice → (true ≡ false → list_any p rows ≡ false) × (list_any p rows ≡ false → true ≡ false)
some_any p slice rows row same found =
    ((λ e. absurd (cc)), (λ e. let none : find p slice ≡ None = ap (find p) same ∙ (found_none p rows).1 e in absurd (cc)))

pub none_any : (p : SeriesRow → Bool) (slice rows : List SeriesRow) → slice ≡ rows → None ≡ find p slice → (false ≡ false → list_any p rows ≡ false) × (list_any p rows ≡ false → false ≡ false)
none_any p slice rows same found = ((λ e. (found_none p rows).0 (ap (find p) (sym same) ∙ sym found)), (λ e. refl))

-- the cell that is found is one of the kind
pub value_cell : (kind : Kind) (p : SeriesRow → Bool) (slice rows : List SeriesRow) (row : SeriesRow) (cells : List Cell) (column : ℤ) (cell : Cell) → slice ≡ rows → All (CellsAre kind) rows → Some row ≡ find p slice → cells ≡ row.cells → cell ≡ cell_in_column cells column → IsCell kind cell
value_cell kind p slice rows row cells column cell same all found cells_is is =
    let here : CellsAre kind row = found_cells kind p rows row all (ap (find p) (sym same) ∙ sym found) in
    subst (IsCell kind) (sym is) (column_cell kind cells column (subst (λ (cs : List Cell). All (IsCell kind) cs) (sym cells_is) here))
