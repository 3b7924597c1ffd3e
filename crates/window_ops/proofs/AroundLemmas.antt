-- A map's windows round the places of a rectangle, by the cells around it.
use Rattle.std.proofs.Common.{◌≡◌, ℕ, ◌+◌, ◌-◌, ◌*◌, ◌/◌, ◌%◌, ◌<◌, ◌≤◌, List, min, sym, ap, subst, ◌∙◌, arith}
use Rattle.std.proofs.lemmas.List.{same_lists}
use Rattle.std.proofs.lemmas.Nat.{div-add-mod', div_below, mod_below}
use Rattle.cell_values.specs.declared.cell.Cell.{Cell}
use Rattle.cell_values.specs.declared.cell.Cell.TheVariants.{Mv}
use Rattle.tile_map.specs.declared.rect.Rect.{Rect}
use Rattle.tile_map.specs.Cuts.{cell_at, cut_of}
use Rattle.tile_map.specs.Rects.{IsInMap, cell_count, grown, place_in}
use Rattle.tile_map.proofs.Callers.{get_or-cut_of, length-cut_of}
use Rattle.tile_map.proofs.RectLemmas.{place_below, some_cols}
use Rattle.region_meaning.specs.declared.window.WindowOp.{WindowOp}
use Rattle.region_meaning.specs.WindowResults.{window_result}
use Rattle.region_meaning.specs.Windows.{present_values, window_outcome}
use Rattle.window_ops.specs.Surroundings.{AreAround, IsInside}
use Rattle.window_ops.proofs.WindowLemmas.{place-window, place_at, window_at}

-- a rectangle's cells are those of the rectangle that stands there in a cut
cut-of-cut : (cols : ℕ) (map : List Cell) (around r s : Rect) → IsInMap around.rows around.cols r →
    around.top + r.top ≡ s.top → around.left + r.left ≡ s.left → r.rows ≡ s.rows → r.cols ≡ s.cols →
    cut_of around.cols (cut_of cols map around) r ≡ cut_of cols map s
cut-of-cut cols map around r s inside top left rows wide =
    let inner = cut_of cols map around in
    let sizes : cell_count r ≡ cell_count s = ap (λ (n : ℕ). n * r.cols) rows ∙ ap (λ (n : ℕ). s.rows * n) wide in
    same_lists (cut_of around.cols inner r) (cut_of cols map s) (length-cut_of around.cols inner r ∙ (sizes ∙ sym (length-cut_of cols map s)))
    (λ j d less.
    let below : j < cell_count r = subst (λ (n : ℕ). j < n) (length-cut_of around.cols inner r) less in
    let there : j < cell_count s = subst (λ (n : ℕ). j < n) sizes below in
    let row = j / r.cols in
    let col = j % r.cols in
    let in_cols : col < r.cols = mod_below j r.cols (some_cols r j below) in
    let number : row * r.cols + col ≡ j = div-add-mod' j r.cols in
    let right = inside.right in
    let in_around : r.left + col < around.cols = omega arith in
    let in_s : col < s.cols = omega arith in
    let place : place_in around.cols r j ≡ (r.top + row) * around.cols + (r.left + col) = ap (place_in around.cols r) (sym number) ∙ place_at around.cols r row col in_cols in
    let number_s : j ≡ row * s.cols + col = sym number ∙ ap (λ (n : ℕ). row * n + col) wide in
    let place_s : place_in cols s j ≡ (s.top + row) * cols + (s.left + col) = ap (place_in cols s) number_s ∙ place_at cols s row col in_s in
    let up : around.top + (r.top + row) ≡ s.top + row = omega arith in
    let along : around.left + (r.left + col) ≡ s.left + col = omega arith in
    get_or-cut_of around.cols inner r j d below
    ∙ (get_or-cut_of cols map around (place_in around.cols r j) Mv (place_below around.rows around.cols r j inside below)
    ∙ (ap (cell_at map)
    (ap (place_in cols around) place
    ∙ (place_at cols around (r.top + row) (r.left + col) in_around
    ∙ (ap (λ (n : ℕ). n * cols + (around.left + (r.left + col))) up
    ∙ (ap (λ (n : ℕ). (s.top + row) * cols + n) along
    ∙ sym place_s))))
    ∙ sym (get_or-cut_of cols map s j d there))))

-- the rectangle as it stands in the one around it
abbrev pub moved : Rect → Rect → Rect
moved inner around = record { top = inner.top - around.top; left = inner.left - around.left; rows = inner.rows; cols = inner.cols }

pub moved-in : (inner around : Rect) → IsInside inner around → IsInMap around.rows around.cols (moved inner around)
moved-in inner around inside =
    let a = inside.top in let b = inside.bottom in let c = inside.left in let d = inside.right in
    record { below = omega arith; right = omega arith }

-- one side of a window, in the rectangle around and in the map
record IsSide (size at begin long first count k : ℕ) : Type 0 where
  pub begins : begin + (at - begin - k) ≡ at - k
  pub lasts : min long (at - begin + 1 + k) - (at - begin - k) ≡ min size (at + 1 + k) - (at - k)
  pub ends : at - begin - k + (min long (at - begin + 1 + k) - (at - begin - k)) ≤ long

less_taken : (a b k : ℕ) → a ≤ b → a - k ≤ b - k
less_taken a b k h = omega arith

begin_there : (at begin k : ℕ) → begin ≤ at - k → begin + (at - begin - k) ≡ at - k
begin_there at begin k h = omega arith

min_less : (size x y b : ℕ) → x ≤ y → min size y ≤ b → min size x ≤ b
min_less size x y b less h = omega arith

min_there : (size long begin x y : ℕ) → begin + x ≡ y → begin + long ≤ size → min size y ≤ begin + long → begin + min long x ≡ min size y
min_there size long begin x y e fits h = omega arith

length_there : (begin a b x y : ℕ) → begin + a ≡ x → begin + b ≡ y → b - a ≡ y - x
length_there begin a b x y d e = omega arith

end_in : (a b long k : ℕ) → a ≤ b → b < long → a + (min long (b + 1 + k) - a) ≤ long
end_in a b long k h less = omega arith

shifted : (at begin k : ℕ) → begin ≤ at → begin + (at - begin + 1 + k) ≡ at + 1 + k
shifted at begin k h = omega arith

taken_less : (a k : ℕ) → a - k ≤ a
taken_less a k = omega arith

le_through : (a b c : ℕ) → a ≤ b → b ≤ c → a ≤ c
le_through a b c h d = omega arith

end_before : (at first count k : ℕ) → at < first + count → at + 1 + k ≤ first + count + k
end_before at first count k h = omega arith

stays_before : (at begin first count size long k : ℕ) → begin ≤ at → at < first + count → first + count ≤ size → min size (first + count + k) ≤ begin + long → at - begin < long
stays_before at begin first count size long k a b c d = omega arith

one_side : (size at begin long first count k : ℕ) → first ≤ at → at < first + count → first + count ≤ size → begin ≤ first - k → min size (first + count + k) ≤ begin + long → begin + long ≤ size → IsSide size at begin long first count k
one_side size at begin long first count k a b c d e f =
    let reach : begin ≤ at - k = le_through begin (first - k) (at - k) d (less_taken first at k a) in
    let before : begin ≤ at = le_through begin (at - k) at reach (taken_less at k) in
    let begins = begin_there at begin k reach in
    let less = min_less size (at + 1 + k) (first + count + k) (begin + long) (end_before at first count k b) e in
    let end = min_there size long begin (at - begin + 1 + k) (at + 1 + k) (shifted at begin k before) f less in
    record {
      begins = begins;
      lasts = length_there begin (at - begin - k) (min long (at - begin + 1 + k)) (at - k) (min size (at + 1 + k)) begins end;
      ends = end_in (at - begin - k) (at - begin) long k (taken_less (at - begin) k) (stays_before at begin first count size long k before b c e);
    }

moved_more : (a b c : ℕ) → b ≤ a → a - b + c ≡ a + c - b
moved_more a b c h = omega arith

more_than : (a n : ℕ) → a ≤ a + n
more_than a n = omega arith

more_below : (a n m : ℕ) → n < m → a + n < a + m
more_below a n m h = omega arith

-- the grown rectangle's sides
grown-inside : (rows cols k : ℕ) (inner around : Rect) → IsInside (grown rows cols k inner) around → inner.top + inner.rows ≤ rows → inner.left + inner.cols ≤ cols →
    (around.top ≤ inner.top - k) × (min rows (inner.top + inner.rows + k) ≤ around.top + around.rows) × (around.left ≤ inner.left - k) × (min cols (inner.left + inner.cols + k) ≤ around.left + around.cols)
unfolding grown
grown-inside rows cols k inner around inside below right =
    let a = inside.top in let b = inside.bottom in let c = inside.left in let d = inside.right in
    (omega arith, omega arith, omega arith, omega arith)

-- a window's outcome by the cells around
pub outcome-around : (op : WindowOp) (rows cols k : ℕ) (map cells : List Cell) (inner around : Rect) → AreAround rows cols k map cells inner around → IsInside inner around → (i : ℕ) → i < cell_count inner →
    window_outcome op around.rows around.cols k cells (place_in around.cols (moved inner around) i) ≡ window_outcome op rows cols k map (place_in cols inner i)
unfolding window_outcome
outcome-around op rows cols k map cells inner around are inside i below =
    let inner_below = are.inner_in.below in
    let inner_right = are.inner_in.right in
    let around_below = are.around_in.below in
    let around_right = are.around_in.right in
    let sides = grown-inside rows cols k inner around are.reach inner_below inner_right in
    let above : around.top ≤ inner.top = le_through around.top (inner.top - k) inner.top sides.0 (taken_less inner.top k) in
    let before : around.left ≤ inner.left = le_through around.left (inner.left - k) inner.left sides.2 (taken_less inner.left k) in
    let here = moved inner around in
    let row = i / inner.cols in
    let col = i % inner.cols in
    let some = some_cols inner i below in
    let in_cols : col < inner.cols = mod_below i inner.cols some in
    let in_rows : row < inner.rows = div_below i inner.cols inner.rows some below in
    let number : i ≡ row * inner.cols + col = sym (div-add-mod' i inner.cols) in
    let from_top : here.top + row ≡ inner.top + row - around.top = moved_more inner.top around.top row above in
    let from_left : here.left + col ≡ inner.left + col - around.left = moved_more inner.left around.left col before in
    let down = one_side rows (inner.top + row) around.top around.rows inner.top inner.rows k (more_than inner.top row) (more_below inner.top row inner.rows in_rows) inner_below sides.0 sides.1 around_below in
    let across = one_side cols (inner.left + col) around.left around.cols inner.left inner.cols k (more_than inner.left col) (more_below inner.left col inner.cols in_cols) inner_right sides.2 sides.3 around_right in
    let r = window_at around.rows around.cols k (inner.top + row - around.top) (inner.left + col - around.left) in
    let s = window_at rows cols k (inner.top + row) (inner.left + col) in
    let here_in : IsInMap around.rows around.cols here = moved-in inner around inside in
    let r_in : IsInMap around.rows around.cols r = record { below = down.ends; right = across.ends } in
    let f = λ (w : Rect). window_result op (present_values (cut_of around.cols cells w)) in
    let g = λ (w : Rect). window_result op (present_values (cut_of cols map w)) in
    ap (λ (n : ℕ). window_outcome op around.rows around.cols k cells (place_in around.cols here n)) number
    ∙ (ap f (place-window around.rows around.cols k here row col here_in in_cols)
    ∙ (ap (λ (n : ℕ). f (window_at around.rows around.cols k n (here.left + col))) from_top
    ∙ (ap (λ (n : ℕ). f (window_at around.rows around.cols k (inner.top + row - around.top) n)) from_left
    ∙ (ap (λ (xs : List Cell). window_result op (present_values (cut_of around.cols xs r))) are.cells_are
    ∙ (ap (λ (xs : List Cell). window_result op (present_values xs)) (cut-of-cut cols map around r s r_in down.begins across.begins down.lasts across.lasts)
    ∙ (sym (ap g (place-window rows cols k inner row col are.inner_in in_cols))
    ∙ ap (λ (n : ℕ). window_outcome op rows cols k map (place_in cols inner n)) (sym number)))))))
