-- The sums of columns, a row more and a row less.
use Rattle.std.proofs.Common.{◌≡◌, ℕ, ◌+◌, ◌-◌, ◌*◌, ◌<◌, ◌≤◌, List, ◌++◌, length, take, sym, ap, subst, ◌∙◌, inl, inr, arith}
use Rattle.std.proofs.Math.Seq.{take-append_seam}
use Rattle.std.proofs.lemmas.Bool.{cases_lt}
use Rattle.cell_values.specs.declared.cell.Cell.{Cell}
use Rattle.tile_map.specs.Cuts.{cell_at}
use Rattle.window_ops.specs.declared.sum.Sum.{Sum}
use Rattle.window_ops.specs.inside.Outcomes.{over}
use Rattle.window_ops.specs.inside.Sums.{AreColumnSums, IsSmall, column_sum, no_sum, sum_at, sum_join, sum_of_cell}
use Rattle.window_ops.proofs.Grid.{over-first, over-more}
use Rattle.window_ops.proofs.SumLemmas.{small-over, unordered}

-- what was written over a list of that length
pub written : {A : Type 0} (len : ℕ) (xs rest : List A) → len ≡ length xs → take len (xs ++ rest) ≡ xs
written {A} len xs rest e = ap (λ (n : ℕ). take n (xs ++ rest)) e ∙ take-append_seam xs rest

-- the sum of a column over few rows is small
pub small-column : (cells : List Cell) (cols top bottom most : ℕ) (sums : List Sum) (col : ℕ) → AreColumnSums cells cols top bottom sums → bottom - top ≤ most → col < cols → IsSmall most (sum_at sums col)
small-column cells cols top bottom most sums col are few below =
    let f : ℕ → Sum = λ row. sum_of_cell (cell_at cells (row * cols + col)) in
    let small : IsSmall ((bottom - top) * 1) (over sum_join no_sum f top (bottom - top)) = small-over 1 f top (bottom - top) (λ i less. are.small (top + i) col (omega arith) (omega arith) below) in
    let total = small.total in
    let count = small.count in
    subst (IsSmall most) (sym (are.each col below)) (record { total = omega arith; count = omega arith })

-- the cells of a row
pub record IsRow (cells : List Cell) (cols row : ℕ) (row_cells : List Cell) : Type 0 where
  pub size : length row_cells ≡ cols
  pub each : (col : ℕ) → col < cols → cell_at row_cells col ≡ cell_at cells (row * cols + col)

-- a row more
pub taken : (cells : List Cell) (cols top row : ℕ) (sums more : List Sum) (row_cells : List Cell) → top ≤ row → AreColumnSums cells cols top row sums → IsRow cells cols row row_cells → length more ≡ length sums →
    ((col : ℕ) → col < length row_cells → sum_at more col ≡ sum_join (sum_at sums col) (sum_of_cell (cell_at row_cells col))) →
    ((col : ℕ) → col < length row_cells → IsSmall 1 (sum_of_cell (cell_at row_cells col))) → AreColumnSums cells cols top (row + 1) more
taken cells cols top row sums more row_cells order are is size each small =
    let n = row - top in
    let there : row ≡ top + n = omega arith in
    let count : n + 1 ≡ row + 1 - top = omega arith in
    let wide = is.size in
    record {
      size = size ∙ are.size;
      each = λ col below.
          let f : ℕ → Sum = λ r. sum_of_cell (cell_at cells (r * cols + col)) in
          each col (omega arith)
          ∙ (ap (λ (x : Sum). sum_join x (sum_of_cell (cell_at row_cells col))) (are.each col below)
          ∙ (ap (sum_join (over sum_join no_sum f top n)) (ap sum_of_cell (is.each col below) ∙ ap f there)
          ∙ (sym (over-more sum_join no_sum f top n)
          ∙ ap (over sum_join no_sum f top) count)));
      small = λ r col above under below.
          elim (cases_lt r row) as (λ x. IsSmall 1 (sum_of_cell (cell_at cells (r * cols + col)))) [
            | inl h ↦ are.small r col above h below
            | inr h ↦
                let same : row ≡ r = omega arith in
                subst (λ (x : ℕ). IsSmall 1 (sum_of_cell (cell_at cells (x * cols + col)))) same
                (subst (λ (x : Cell). IsSmall 1 (sum_of_cell x)) (is.each col below) (small col (omega arith)))
          ];
    }

-- the first row of a column and the others
pub column-first : (cells : List Cell) (cols row bottom : ℕ) (sums : List Sum) (row_cells : List Cell) (col : ℕ) → row < bottom → AreColumnSums cells cols row bottom sums → IsRow cells cols row row_cells → col < cols →
    sum_at sums col ≡ sum_join (sum_of_cell (cell_at row_cells col)) (column_sum cols cells col (row + 1) bottom)
column-first cells cols row bottom sums row_cells col order are is below =
    let f : ℕ → Sum = λ r. sum_of_cell (cell_at cells (r * cols + col)) in
    let count : bottom - row ≡ 1 + (bottom - (row + 1)) = omega arith in
    are.each col below
    ∙ (ap (over sum_join no_sum f row) count
    ∙ (over-first sum_join no_sum unordered f row (bottom - (row + 1))
    ∙ ap (λ (x : Cell). sum_join (sum_of_cell x) (over sum_join no_sum f (row + 1) (bottom - (row + 1)))) (sym (is.each col below))))

-- a row less
pub left : (cells : List Cell) (cols row bottom : ℕ) (sums less : List Sum) (row_cells : List Cell) → row < bottom → AreColumnSums cells cols row bottom sums → IsRow cells cols row row_cells → length less ≡ length sums →
    ((col : ℕ) → col < length row_cells → (rest : Sum) → sum_at sums col ≡ sum_join (sum_of_cell (cell_at row_cells col)) rest → sum_at less col ≡ rest) → AreColumnSums cells cols (row + 1) bottom less
left cells cols row bottom sums less row_cells order are is size each =
    let wide = is.size in
    record {
      size = size ∙ are.size;
      each = λ col below. each col (omega arith) (column_sum cols cells col (row + 1) bottom) (column-first cells cols row bottom sums row_cells col order are is below);
      small = λ r col above under below. are.small r col (omega arith) under below;
    }

-- a column has what its first row has
pub count-first : (cells : List Cell) (cols row bottom : ℕ) (sums : List Sum) (row_cells : List Cell) (col : ℕ) → row < bottom → AreColumnSums cells cols row bottom sums → IsRow cells cols row row_cells → col < cols →
    (sum_of_cell (cell_at row_cells col)).count ≤ (sum_at sums col).count
count-first cells cols row bottom sums row_cells col order are is below =
    let e : (sum_at sums col).count ≡ (sum_of_cell (cell_at row_cells col)).count + (column_sum cols cells col (row + 1) bottom).count =
    ap (λ (s : Sum). s.count) (column-first cells cols row bottom sums row_cells col order are is below) in
    omega arith
