-- The sums of windows.
use Rattle.std.proofs.Common.{◌≡◌, ℕ, zero, suc, ◌+◌, ◌-◌, ◌*◌, ◌<◌, ◌≤◌, List, [], ◌∷◌, ◌++◌, length, get_or, min, fold, map, refl, sym, ap, subst, ◌∙◌, inl, inr, arith, ℤ, pos, ◌+ℤ◌}
use Rattle.std.specs.Prelude.{◌==◌, Bool, false, Ok, if◌then◌else◌}
use Rattle.std.proofs.lemmas.Bool.Decides.{nat_tests}
use Rattle.std.proofs.lemmas.Int.{ints}
use Rattle.std.proofs.lemmas.Bool.{cases_lt}
use Rattle.std.proofs.lemmas.List.{length-map, get_or-map, get_or_append_left, get_or_default, get_or_push}
use Rattle.text_base.specs.Limits.{most_cells}
use Rattle.cell_values.specs.declared.cell.Cell.{Cell}
use Rattle.cell_values.specs.declared.cell.Cell.TheVariants.{Mv, Val}
use Rattle.tile_map.specs.declared.rect.Rect.{Rect}
use Rattle.tile_map.specs.Cuts.{cell_at, cut_of}
use Rattle.tile_map.specs.Parts.{Outcome}
use Rattle.tile_map.specs.Rects.{IsInMap, place_in}
use Rattle.tile_map.proofs.Callers.{get_or-cut_of, length-cut_of}
use Rattle.window_ops.specs.declared.sum.Sum.{Sum}
use Rattle.window_ops.specs.declared.sum.Summed.{Summed}
use Rattle.window_ops.specs.declared.sum.Summed.TheVariants.{All, Mean}
use Rattle.region_meaning.specs.Numbers.{total_of}
use Rattle.region_meaning.specs.WindowResults.{window_result}
use Rattle.region_meaning.specs.Windows.{present_values, window_outcome}
use Rattle.window_ops.specs.inside.Outcomes.{longest_window, over}
use Rattle.window_ops.specs.inside.Sums.{IsSmall, column_sum, most_summed, no_sum, outcome_of_sum, outcome_of_values_sum, sum_at, sum_join, sum_of_cell, sum_op_of}
use Rattle.window_ops.proofs.Grid.{IsUnordered, over-parts, over-same}
use Rattle.window_ops.proofs.WindowLemmas.{fold-columns, place-window, window_at}

-- ---- sums

-- a sum by its parts
made : (a b : ℤ) (m n : ℕ) → a ≡ b → m ≡ n → (let s : Sum = record { total = a; count = m } in s) ≡ (let s : Sum = record { total = b; count = n } in s)
made a b m n e d = ap (λ (x : ℤ). let s : Sum = record { total = x; count = m } in s) e ∙ ap (λ (x : ℕ). let s : Sum = record { total = b; count = x } in s) d

-- the order of sums does not matter for their sum
pub unordered : IsUnordered Sum sum_join no_sum
unordered = record {
  group = λ a b c. made ((a.total +ℤ b.total) +ℤ c.total) (a.total +ℤ (b.total +ℤ c.total)) (a.count + b.count + c.count) (a.count + (b.count + c.count)) (omega (arith, ints)) (omega arith);
  turn = λ a b. made (a.total +ℤ b.total) (b.total +ℤ a.total) (a.count + b.count) (b.count + a.count) (omega (arith, ints)) (omega arith);
  none_left = λ a. made (pos 0 +ℤ a.total) a.total (0 + a.count) a.count (omega (arith, ints)) (omega arith);
}

-- the sum of cells is that of their values
fold-cells : (a : ℤ) (n : ℕ) (cells : List Cell) → fold sum_join (let s : Sum = record { total = a; count = n } in s) (map sum_of_cell cells) ≡ (let s : Sum = record { total = a +ℤ total_of (present_values cells); count = n + length (present_values cells) } in s)
fold-cells a n [] = made a (a +ℤ pos 0) n (n + 0) (omega (arith, ints)) (omega arith)
fold-cells a n (Mv ∷ cells) =
    ap (λ (s : Sum). fold sum_join s (map sum_of_cell cells)) (made (a +ℤ pos 0) a (n + 0) n (omega (arith, ints)) (omega arith))
    ∙ fold-cells a n cells
fold-cells a n (Val v ∷ cells) =
    fold-cells (a +ℤ v) (n + 1) cells
    ∙ made ((a +ℤ v) +ℤ total_of (present_values cells)) (a +ℤ (v +ℤ total_of (present_values cells))) (n + 1 + length (present_values cells)) (n + length (v ∷ present_values cells)) (omega (arith, ints)) (omega arith)

-- the sum of values
abbrev sum_of : List ℤ → Sum
sum_of values = record { total = total_of values; count = length values }

fold-cells-none : (cells : List Cell) → fold sum_join no_sum (map sum_of_cell cells) ≡ sum_of (present_values cells)
fold-cells-none cells =
    fold-cells (pos 0) 0 cells ∙ made (pos 0 +ℤ total_of (present_values cells)) (total_of (present_values cells)) (0 + length (present_values cells)) (length (present_values cells)) (omega (arith, ints)) (omega arith)

not_zero : (n : ℕ) → 0 < n → (n == 0) ≡ false
not_zero n some = grind (arith, nat_tests)

-- a sum with values
counted : (summed : Summed) (sum : Sum) → 0 < sum.count → outcome_of_values_sum summed sum ≡ outcome_of_sum summed sum
counted summed sum some =
    ap (λ (b : Bool). let o : Outcome = if b then Ok Mv else outcome_of_values_sum summed sum in o) (sym (not_zero sum.count some))

-- what the operation gives is told by the sum of the values
outcome-sum : (summed : Summed) (values : List ℤ) → window_result (sum_op_of summed) values ≡ outcome_of_sum summed (sum_of values)
outcome-sum All [] = refl
outcome-sum Mean [] = refl
outcome-sum All (x ∷ xs) = counted All (sum_of (x ∷ xs)) (omega arith)
outcome-sum Mean (x ∷ xs) = counted Mean (sum_of (x ∷ xs)) (omega arith)

-- ---- bounds

-- a small sum is one of more values too
pub small-more : (m n : ℕ) (a : Sum) → m ≤ n → IsSmall m a → IsSmall n a
small-more m n a less small = record { total = let x = small.total in omega arith; count = let x = small.count in omega arith }

-- two small sums
pub small-both : (m n : ℕ) (a b : Sum) → IsSmall m a → IsSmall n b → IsSmall (m + n) (sum_join a b)
small-both m n a b few some = record { total = let x = few.total in let y = some.total in omega (arith, ints); count = let x = few.count in let y = some.count in omega arith }

-- so many small sums
pub small-over : (m : ℕ) (f : ℕ → Sum) (a n : ℕ) → ((i : ℕ) → i < n → IsSmall m (f (a + i))) → IsSmall (n * m) (over sum_join no_sum f a n)
small-over m f a zero each = record { total = omega arith; count = omega arith }
small-over m f a (suc n) each =
    subst (λ (k : ℕ). IsSmall k (over sum_join no_sum f a (suc n))) (let e : n * m + m ≡ suc n * m = omega arith in e)
    (small-both (n * m) m (over sum_join no_sum f a n) (f (a + n)) (small-over m f a n (λ i below. each i (omega arith))) (each n (omega arith)))

-- ---- the sums of the first columns

-- the sum of the first columns is small
pub small-front : (columns : List Sum) (i : ℕ) → i ≤ length columns → length columns ≤ most_cells → ((col : ℕ) → col < length columns → IsSmall longest_window (sum_at columns col)) →
    IsSmall most_summed (over sum_join no_sum (sum_at columns) 0 i)
small-front columns i within few small =
    small-more (i * 31) most_summed (over sum_join no_sum (sum_at columns) 0 i) (omega arith)
    (small-over 31 (sum_at columns) 0 i (λ j less. small (0 + j) (omega arith)))

-- the sum of the first columns that stands in a list of them
pub front-at : (front columns : List Sum) (i : ℕ) (x : Sum) → length front ≡ length columns + 1 → ((col : ℕ) → col < length columns + 1 → sum_at front col ≡ over sum_join no_sum (sum_at columns) 0 col) →
    i ≤ length columns → x ≡ get_or front i x → x ≡ over sum_join no_sum (sum_at columns) 0 i
front-at front columns i x size each within is = is ∙ (get_or_default front i x no_sum (omega arith) ∙ each i (omega arith))

-- two of them, and the columns between
pub front-parts : (front columns : List Sum) (from to : ℕ) (x y : Sum) → length front ≡ length columns + 1 → ((col : ℕ) → col < length columns + 1 → sum_at front col ≡ over sum_join no_sum (sum_at columns) 0 col) →
    from ≤ to → to ≤ length columns → x ≡ get_or front from x → y ≡ get_or front to y → y ≡ sum_join x (over sum_join no_sum (sum_at columns) from (to - from))
front-parts front columns from to x y size each order within is_x is_y =
    let s = sum_at columns in
    let count : to ≡ from + (to - from) = omega arith in
    let place : 0 + from ≡ from = omega arith in
    front-at front columns to y size each within is_y
    ∙ (ap (over sum_join no_sum s 0) count
    ∙ (over-parts sum_join no_sum unordered s 0 from (to - from)
    ∙ (ap (λ (n : ℕ). sum_join (over sum_join no_sum s 0 from) (over sum_join no_sum s n (to - from))) place
    ∙ ap (λ (z : Sum). sum_join z (over sum_join no_sum s from (to - from))) (sym (front-at front columns from x size each (omega arith) is_x)))))

-- one more of them
pub front-more : (front columns : List Sum) (x : Sum) (i : ℕ) → length front ≡ i + 1 → ((col : ℕ) → col < i + 1 → sum_at front col ≡ over sum_join no_sum (sum_at columns) 0 col) → x ≡ over sum_join no_sum (sum_at columns) 0 (i + 1) →
    (col : ℕ) → col < i + 1 + 1 → sum_at (front ++ x ∷ []) col ≡ over sum_join no_sum (sum_at columns) 0 col
front-more front columns x i size each is col below =
    elim (cases_lt col (i + 1)) as (λ z. sum_at (front ++ x ∷ []) col ≡ over sum_join no_sum (sum_at columns) 0 col) [
      | inl h ↦ get_or_append_left front (x ∷ []) no_sum col (omega arith) ∙ each col h
      | inr h ↦
          get_or_push front x no_sum col (omega arith) ∙ (is ∙ ap (over sum_join no_sum (sum_at columns) 0) (let e : i + 1 ≡ col = omega arith in e))
    ]

-- ---- sums of windows

-- the outcome of a window, by the sums of the columns
pub sum-window : (summed : Summed) (rows cols k : ℕ) (cells : List Cell) (inner : Rect) (columns : List Sum) (row i : ℕ) → IsInMap rows cols inner → i < inner.cols → length columns ≡ cols →
    ((col : ℕ) → col < cols → sum_at columns col ≡ column_sum cols cells col (inner.top + row - k) (min rows (inner.top + row + 1 + k))) →
    window_outcome (sum_op_of summed) rows cols k cells (place_in cols inner (row * inner.cols + i)) ≡ outcome_of_sum summed (over sum_join no_sum (sum_at columns) (inner.left + i - k) (min (length columns) (inner.left + i + 1 + k) - (inner.left + i - k)))
unfolding window_outcome
sum-window summed rows cols k cells inner columns row i in_map below size each =
    let right = in_map.right in
    let top = inner.top + row in
    let left = inner.left + i in
    let r : Rect = window_at rows cols k top left in
    let cut : List Cell = cut_of cols cells r in
    let f : ℕ → Sum = λ c. over sum_join no_sum (λ p. sum_of_cell (cell_at cells (p * cols + c))) r.top r.rows in
    let wide : r.cols ≡ min (length columns) (left + 1 + k) - (left - k) = omega arith in
    ap (λ (w : Rect). window_result (sum_op_of summed) (present_values (cut_of cols cells w))) (place-window rows cols k inner row i in_map below)
    ∙ (outcome-sum summed (present_values cut)
    ∙ ap (outcome_of_sum summed)
    (sym (fold-cells-none cut)
    ∙ (fold-columns sum_join no_sum unordered sum_of_cell cols cells r (map sum_of_cell cut) (length-map cut sum_of_cell ∙ length-cut_of cols cells r)
    (λ j less.
    let shorter : j < length cut = subst (λ (n : ℕ). j < n) (sym (length-cut_of cols cells r)) less in
    get_or-map sum_of_cell cut j Mv no_sum shorter ∙ ap sum_of_cell (get_or-cut_of cols cells r j Mv less))
    ∙ (over-same sum_join no_sum f (sum_at columns) (left - k) (left - k) r.cols (λ j less. sym (each (left - k + j) (omega arith)))
    ∙ ap (over sum_join no_sum (sum_at columns) (left - k)) wide))))
