-- Rows that are written one after the other.
use Rattle.std.proofs.Common.{◌≡◌, ℕ, suc, ◌+◌, ◌-◌, ◌*◌, ◌<◌, ◌≤◌, List, ◌++◌, length, take, drop, sym, ap, ◌∙◌, append_assoc, arith}
use Rattle.std.proofs.lemmas.List.{append-nil, length-drop}
use Rattle.cell_values.specs.declared.cell.Cell.{Cell}
use Rattle.cell_values.specs.declared.kind.Kind.{Kind}
use Rattle.grid_text.specs.Written.{row_line, row_lines}

left : (rows i : ℕ) → i < rows → rows - i ≡ suc (rows - (i + 1))
left rows i lt = omega arith

none_left : (rows i : ℕ) → rows ≤ i → rows - i ≡ 0
none_left rows i le = omega arith

-- a line goes from what is left to what stands there
pub row_written : (kind : Kind) (rows i cols : ℕ) (rest : List Cell) (out whole : List ℕ) → i < rows → out ++ row_lines kind (rows - i) cols rest ≡ whole
    → (out ++ row_line kind (take cols rest)) ++ row_lines kind (rows - (i + 1)) cols (drop cols rest) ≡ whole
row_written kind rows i cols rest out whole lt so_far =
    append_assoc out (row_line kind (take cols rest)) (row_lines kind (rows - (i + 1)) cols (drop cols rest))
    ∙ ap (λ n. out ++ row_lines kind n cols rest) (sym (left rows i lt))
    ∙ so_far

-- the cells of the rows that are left
pub cells_left : (rows i cols : ℕ) (rest : List Cell) → i < rows → length rest ≡ (rows - i) * cols → length (drop cols rest) ≡ (rows - (i + 1)) * cols
cells_left rows i cols rest lt all =
    let e : length rest ≡ suc (rows - (i + 1)) * cols = all ∙ ap (λ n. n * cols) (left rows i lt) in
    omega (arith, length-drop cols rest, e)

-- there are cells for a row
pub row_left : (rows i cols : ℕ) (rest : List Cell) → i < rows → length rest ≡ (rows - i) * cols → cols ≤ length rest
row_left rows i cols rest lt all =
    let e : length rest ≡ suc (rows - (i + 1)) * cols = all ∙ ap (λ n. n * cols) (left rows i lt) in
    omega (arith, e)

pub rows_done : (kind : Kind) (rows i cols : ℕ) (rest : List Cell) (out whole : List ℕ) → rows ≤ i → out ++ row_lines kind (rows - i) cols rest ≡ whole → out ≡ whole
rows_done kind rows i cols rest out whole le so_far =
    sym (append-nil out) ∙ ap (λ n. out ++ row_lines kind n cols rest) (sym (none_left rows i le)) ∙ so_far
