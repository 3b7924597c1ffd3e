-- The least and the greatest values of windows.
use Rattle.std.proofs.Common.{◌≡◌, ℕ, ◌+◌, ◌-◌, ◌*◌, ◌<◌, ◌≤◌, List, [], ◌∷◌, length, min, fold, slice_range, refl, sym, ap, ◌∙◌, arith, ℤ}
use Rattle.std.specs.Prelude.{Ok}
use Rattle.cell_values.specs.declared.cell.Cell.{Cell}
use Rattle.cell_values.specs.declared.cell.Cell.TheVariants.{Mv, Val}
use Rattle.tile_map.specs.declared.rect.Rect.{Rect}
use Rattle.tile_map.specs.Cuts.{cell_at, cut_of}
use Rattle.tile_map.specs.Parts.{Outcome}
use Rattle.tile_map.specs.Rects.{IsInMap, place_in}
use Rattle.tile_map.proofs.Callers.{get_or-cut_of, length-cut_of}
use Rattle.tile_map.proofs.CutLemmas.{between-map_range}
use Rattle.window_ops.specs.declared.extremes.Extreme.{Extreme}
use Rattle.window_ops.specs.declared.extremes.Extreme.TheVariants.{Least, Greatest}
use Rattle.region_meaning.specs.Numbers.{greatest_of, least_of}
use Rattle.region_meaning.specs.WindowResults.{window_result}
use Rattle.region_meaning.specs.Windows.{present_values, window_outcome}
use Rattle.window_ops.specs.inside.Extremes.{extreme_cell, extreme_value, extreme_op}
use Rattle.window_ops.specs.inside.Outcomes.{over}
use Rattle.window_ops.proofs.Grid.{IsUnordered, over-list, over-same}
use Rattle.window_ops.proofs.WindowLemmas.{fold-columns, place-window, window_at}

-- ---- extremes of cells

value_group : (e : Extreme) (a b c : ℤ) → extreme_value e (extreme_value e a b) c ≡ extreme_value e a (extreme_value e b c)
value_group Least a b c = grind arith
value_group Greatest a b c = grind arith

value_turn : (e : Extreme) (a b : ℤ) → extreme_value e a b ≡ extreme_value e b a
value_turn Least a b = grind arith
value_turn Greatest a b = grind arith

group : (e : Extreme) (a b c : Cell) → extreme_cell e (extreme_cell e a b) c ≡ extreme_cell e a (extreme_cell e b c)
group e Mv b c = refl
group e (Val a) Mv c = refl
group e (Val a) (Val b) Mv = refl
group e (Val a) (Val b) (Val c) = ap Val (value_group e a b c)

turn : (e : Extreme) (a b : Cell) → extreme_cell e a b ≡ extreme_cell e b a
turn e Mv Mv = refl
turn e Mv (Val b) = refl
turn e (Val a) Mv = refl
turn e (Val a) (Val b) = ap Val (value_turn e a b)

-- the order of cells does not matter for their extreme
pub unordered : (e : Extreme) → IsUnordered Cell (extreme_cell e) Mv
unordered e = record { group = group e; turn = turn e; none_left = λ a. refl }

-- the extreme of a value and further ones
abbrev extreme_of : Extreme → ℤ → List ℤ → ℤ
extreme_of Least = least_of
extreme_of Greatest = greatest_of

-- of two values first
extreme_of-first : (e : Extreme) (a b : ℤ) (xs : List ℤ) → extreme_of e (extreme_value e a b) xs ≡ extreme_of e a (b ∷ xs)
extreme_of-first Least a b [] = refl
extreme_of-first Greatest a b [] = refl
extreme_of-first Least a b (x ∷ xs) = value_group Least a b (least_of x xs)
extreme_of-first Greatest a b (x ∷ xs) = value_group Greatest a b (greatest_of x xs)

-- the extreme of a value and cells is that of the values
extreme-values : (e : Extreme) (a : ℤ) (cells : List Cell) → fold (extreme_cell e) (Val a) cells ≡ Val (extreme_of e a (present_values cells))
extreme-values Least a [] = refl
extreme-values Greatest a [] = refl
extreme-values e a (Mv ∷ cells) = extreme-values e a cells
extreme-values e a (Val b ∷ cells) = extreme-values e (extreme_value e a b) cells ∙ ap Val (extreme_of-first e a b (present_values cells))

outcome-first : (e : Extreme) (a : ℤ) (cells : List Cell) → window_result (extreme_op e) (a ∷ present_values cells) ≡ Ok (fold (extreme_cell e) (Val a) cells)
outcome-first Least a cells = ap (λ (x : Cell). let o : Outcome = Ok x in o) (sym (extreme-values Least a cells))
outcome-first Greatest a cells = ap (λ (x : Cell). let o : Outcome = Ok x in o) (sym (extreme-values Greatest a cells))

-- what the operation gives is the extreme of the cells
outcome-extreme : (e : Extreme) (cells : List Cell) → window_result (extreme_op e) (present_values cells) ≡ Ok (fold (extreme_cell e) Mv cells)
outcome-extreme e [] = refl
outcome-extreme e (Mv ∷ cells) = outcome-extreme e cells
outcome-extreme e (Val a ∷ cells) = outcome-first e a cells

-- ---- extremes of windows

-- the extreme of a stretch of columns
of_stretch : (e : Extreme) (columns : List Cell) (f : ℕ → Cell) (a n : ℕ) → a + n ≤ length columns → ((col : ℕ) → col < length columns → cell_at columns col ≡ f col) →
    over (extreme_cell e) Mv f a n ≡ fold (extreme_cell e) Mv (slice_range columns a (a + n))
of_stretch e columns f a n fits each =
    over-same (extreme_cell e) Mv f (cell_at columns) a a n (λ i below. sym (each (a + i) (omega arith)))
    ∙ (sym (over-list (extreme_cell e) Mv (cell_at columns) a n)
    ∙ ap (fold (extreme_cell e) Mv) (sym (between-map_range columns a n fits)))

-- the outcome of a window, by the extremes of the columns
pub extreme-window : (e : Extreme) (rows cols k : ℕ) (cells : List Cell) (inner : Rect) (columns : List Cell) (row i : ℕ) → IsInMap rows cols inner → i < inner.cols → length columns ≡ cols →
    ((col : ℕ) → col < cols → cell_at columns col ≡ over (extreme_cell e) Mv (λ r. cell_at cells (r * cols + col)) (inner.top + row - k) (min rows (inner.top + row + 1 + k) - (inner.top + row - k))) →
    window_outcome (extreme_op e) rows cols k cells (place_in cols inner (row * inner.cols + i)) ≡ Ok (fold (extreme_cell e) Mv (slice_range columns (inner.left + i - k) (min (length columns) (inner.left + i + 1 + k))))
unfolding window_outcome
extreme-window e rows cols k cells inner columns row i in_map below size each =
    let right = in_map.right in
    let top = inner.top + row in
    let left = inner.left + i in
    let r : Rect = window_at rows cols k top left in
    let f : ℕ → Cell = λ c. over (extreme_cell e) Mv (λ p. cell_at cells (p * cols + c)) r.top r.rows in
    let end : left - k + r.cols ≡ min (length columns) (left + 1 + k) = omega arith in
    let fits : left - k + r.cols ≤ length columns = omega arith in
    ap (λ (w : Rect). window_result (extreme_op e) (present_values (cut_of cols cells w))) (place-window rows cols k inner row i in_map below)
    ∙ (outcome-extreme e (cut_of cols cells r)
    ∙ ap (λ (x : Cell). let o : Outcome = Ok x in o)
    (fold-columns (extreme_cell e) Mv (unordered e) (λ x. x) cols cells r (cut_of cols cells r) (length-cut_of cols cells r) (λ j less. get_or-cut_of cols cells r j Mv less)
    ∙ (of_stretch e columns f (left - k) r.cols fits (λ col less. each col (omega arith))
    ∙ ap (λ (n : ℕ). fold (extreme_cell e) Mv (slice_range columns (left - k) n)) end)))
