-- Counts of classes over rows and columns.
use Rattle.std.proofs.Common.{◌≡◌, ℕ, zero, suc, ◌+◌, ◌-◌, ◌*◌, ◌<◌, ◌≤◌, ℤ, cond, Bool, true, false, List, [], ◌∷◌, length, min, sym, ap, subst, ◌∙◌, arith}
use Rattle.std.specs.Prelude.{map, fold}
use Rattle.std.specs.Ordering.{int_eq}
use Rattle.std.proofs.lemmas.List.{length-map, get_or-map}
use Rattle.cell_values.specs.declared.cell.Cell.{Cell}
use Rattle.cell_values.specs.declared.cell.Cell.TheVariants.{Mv, Val}
use Rattle.tile_map.specs.declared.rect.Rect.{Rect}
use Rattle.tile_map.specs.Cuts.{cell_at, cut_of}
use Rattle.tile_map.specs.Rects.{IsInMap, place_in}
use Rattle.tile_map.proofs.Callers.{get_or-cut_of, length-cut_of}
use Rattle.region_meaning.specs.declared.window.WindowOp.{WindowOp}
use Rattle.region_meaning.specs.Numbers.{occurrences}
use Rattle.region_meaning.specs.WindowResults.{window_result}
use Rattle.region_meaning.specs.Windows.{present_values, window_outcome}
use Rattle.region_meaning.proofs.Callers.{occurrences-cons}
use Rattle.window_ops.specs.declared.strip.Strip.{Strip}
use Rattle.window_ops.specs.inside.Classes.{IsStrip, class_in_column, class_count, class_in_cell}
use Rattle.window_ops.specs.inside.Outcomes.{over}
use Rattle.window_ops.proofs.Grid.{IsUnordered, over-more, over-parts}
use Rattle.window_ops.proofs.WindowLemmas.{fold-columns, place-window, window_at}

-- the order of counts does not matter for their sum
pub unordered : IsUnordered ℕ ◌+◌ 0
unordered = record {
  group = λ a b c. omega arith;
  turn = λ a b. omega arith;
  none_left = λ a. omega arith;
}

-- one cell counts once at most
pub few-class_in_cell : (class : ℤ) (cell : Cell) → class_in_cell class cell ≤ 1
few-class_in_cell class Mv = omega arith
few-class_in_cell class (Val value) = at_most (int_eq value class)
  where
    at_most : (b : Bool) → cond b 1 0 ≤ 1
    at_most true = omega arith
    at_most false = omega arith

-- so many counts that are small
pub few-over : (m : ℕ) (f : ℕ → ℕ) (a n : ℕ) → ((i : ℕ) → f i ≤ m) → over ◌+◌ 0 f a n ≤ n * m
few-over m f a zero each = omega arith
few-over m f a (suc n) each =
    let before = few-over m f a n each in
    let one = each (a + n) in
    omega arith

-- a part of the counts
pub part-over : (f : ℕ → ℕ) (a n m : ℕ) → n ≤ m → over ◌+◌ 0 f a n ≤ over ◌+◌ 0 f a m
part-over f a n m less =
    let both : over ◌+◌ 0 f a (n + (m - n)) ≡ over ◌+◌ 0 f a n + over ◌+◌ 0 f (a + n) (m - n) = over-parts ◌+◌ 0 unordered f a n (m - n) in
    let same : over ◌+◌ 0 f a (n + (m - n)) ≡ over ◌+◌ 0 f a m = ap (over ◌+◌ 0 f a) (let e : n + (m - n) ≡ m = omega arith in e) in
    omega (arith, both, same)

-- one more from a place on
pub over-next : (f : ℕ → ℕ) (a b : ℕ) → a ≤ b → over ◌+◌ 0 f a (b + 1 - a) ≡ over ◌+◌ 0 f a (b - a) + f b
over-next f a b order =
    ap (over ◌+◌ 0 f a) (let e : b + 1 - a ≡ (b - a) + 1 = omega arith in e)
    ∙ (over-more ◌+◌ 0 f a (b - a) ∙ ap (λ (n : ℕ). over ◌+◌ 0 f a (b - a) + f n) (let e : a + (b - a) ≡ b = omega arith in e))

-- the first and the others
pub over-front : (f : ℕ → ℕ) (a b : ℕ) → a < b → over ◌+◌ 0 f a (b - a) ≡ f a + over ◌+◌ 0 f (a + 1) (b - (a + 1))
over-front f a b order =
    ap (over ◌+◌ 0 f a) (let e : b - a ≡ 1 + (b - (a + 1)) = omega arith in e)
    ∙ (over-parts ◌+◌ 0 unordered f a 1 (b - (a + 1))
    ∙ ap (λ (n : ℕ). n + over ◌+◌ 0 f (a + 1) (b - (a + 1))) (let e : 0 + f (a + 0) ≡ f a = ap (λ (n : ℕ). 0 + f n) (let d : a + 0 ≡ a = omega arith in d) ∙ omega arith in e))

-- how often a class stands in a column
pub few-column : (cols : ℕ) (cells : List Cell) (class : ℤ) (top bottom col : ℕ) → class_in_column cols cells class top bottom col ≤ (bottom - top) * 1
few-column cols cells class top bottom col = few-over 1 (λ row. class_in_cell class (cell_at cells (row * cols + col))) top (bottom - top) (λ row. few-class_in_cell class (cell_at cells (row * cols + col)))

-- how often a class stands in columns of few rows
pub few-columns : (cols : ℕ) (cells : List Cell) (class : ℤ) (top bottom from n most : ℕ) → bottom ≤ top + most → over ◌+◌ 0 (class_in_column cols cells class top bottom) from n ≤ n * most
few-columns cols cells class top bottom from n most few =
    few-over most (class_in_column cols cells class top bottom) from n (λ col. let less = few-column cols cells class top bottom col in omega arith)

-- how often a class stands in cells is how often it is among their values
fold-class_in_cell : (class : ℤ) (a : ℕ) (cells : List Cell) → fold ◌+◌ a (map (class_in_cell class) cells) ≡ a + occurrences (present_values cells) class
fold-class_in_cell class a [] = omega arith
fold-class_in_cell class a (Mv ∷ cells) = fold-class_in_cell class (a + 0) cells ∙ omega arith
fold-class_in_cell class a (Val v ∷ cells) =
    let front = occurrences-cons v (present_values cells) class in
    fold-class_in_cell class (a + cond (int_eq v class) 1 0) cells ∙ omega (arith, front)

-- how often a class stands in the columns of a window
pub window-count : (rows cols k : ℕ) (cells : List Cell) (top left : ℕ) (class : ℤ) →
    over ◌+◌ 0 (class_in_column cols cells class (top - k) (min rows (top + 1 + k))) (left - k) (min cols (left + 1 + k) - (left - k))
    ≡ occurrences (present_values (cut_of cols cells (window_at rows cols k top left))) class
window-count rows cols k cells top left class =
    let r : Rect = window_at rows cols k top left in
    let cut : List Cell = cut_of cols cells r in
    sym (fold-columns ◌+◌ 0 unordered (class_in_cell class) cols cells r (map (class_in_cell class) cut) (length-map cut (class_in_cell class) ∙ length-cut_of cols cells r)
    (λ j less.
    let shorter : j < length cut = subst (λ (n : ℕ). j < n) (sym (length-cut_of cols cells r)) less in
    get_or-map (class_in_cell class) cut j Mv 0 shorter ∙ ap (class_in_cell class) (get_or-cut_of cols cells r j Mv less)))
    ∙ (fold-class_in_cell class 0 cut ∙ omega arith)

-- what an operation gives of the window of a rectangle's cell
pub window-values : (op : WindowOp) (rows cols k : ℕ) (cells : List Cell) (inner : Rect) (row i : ℕ) → IsInMap rows cols inner → i < inner.cols →
    window_result op (present_values (cut_of cols cells (window_at rows cols k (inner.top + row) (inner.left + i)))) ≡ window_outcome op rows cols k cells (place_in cols inner (row * inner.cols + i))
unfolding window_outcome
window-values op rows cols k cells inner row i in_map below =
    ap (λ (w : Rect). window_result op (present_values (cut_of cols cells w))) (sym (place-window rows cols k inner row i in_map below))

-- the counts of a strip of the columns of a window
pub strip-values : (rows cols k : ℕ) (cells : List Cell) (top left : ℕ) (strip : Strip) → IsStrip cells cols strip → strip.top ≡ top - k → strip.bottom ≡ min rows (top + 1 + k) → strip.from ≡ left - k → strip.to ≡ min cols (left + 1 + k) →
    (class : ℤ) → class_count strip.counts class ≡ occurrences (present_values (cut_of cols cells (window_at rows cols k top left))) class
strip-values rows cols k cells top left strip is t b f g class =
    is.each class
    ∙ (ap (λ (n : ℕ). over ◌+◌ 0 (class_in_column cols cells class n strip.bottom) strip.from (strip.to - strip.from)) t
    ∙ (ap (λ (n : ℕ). over ◌+◌ 0 (class_in_column cols cells class (top - k) n) strip.from (strip.to - strip.from)) b
    ∙ (ap (λ (n : ℕ). over ◌+◌ 0 (class_in_column cols cells class (top - k) (min rows (top + 1 + k))) n (strip.to - n)) f
    ∙ (ap (λ (n : ℕ). over ◌+◌ 0 (class_in_column cols cells class (top - k) (min rows (top + 1 + k))) (left - k) (n - (left - k))) g
    ∙ window-count rows cols k cells top left class))))
