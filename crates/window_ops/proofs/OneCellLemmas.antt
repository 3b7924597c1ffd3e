-- Windows of one cell.
use Rattle.std.proofs.Common.{◌≡◌, ℕ, ◌+◌, ◌*◌, ◌/◌, ◌%◌, ◌<◌, List, [], ◌∷◌, length, get_or, refl, sym, ap, subst, ◌∙◌, arith, ℤ, pos, ◌+ℤ◌}
use Rattle.std.specs.Prelude.{Bool, true, false, Ok, Err, unsigned_abs, if◌then◌else◌}
use Rattle.std.proofs.lemmas.Int.{ints}
use Rattle.std.proofs.lemmas.List.{same_lists}
use Rattle.std.proofs.lemmas.Nat.{div-add-mod'}
use Rattle.cell_values.specs.declared.kind.Kind.TheVariants.{Scalar}
use Rattle.cell_values.specs.declared.cell.Cell.{Cell}
use Rattle.cell_values.specs.declared.cell.Cell.TheVariants.{Mv, Val}
use Rattle.cell_values.specs.Kinds.{IsCell, IsValue, cell_of_number}
use Rattle.cell_values.specs.Rounding.{IsNearest, nearest}
use Rattle.cell_values.proofs.Nearest.{nearest-unique}
use Rattle.cell_values.proofs.Readings.{test-from_value}
use Rattle.tile_map.specs.declared.rect.Rect.{Rect}
use Rattle.tile_map.specs.Cuts.{cell_at, cut_of}
use Rattle.tile_map.specs.Parts.{Outcome}
use Rattle.tile_map.specs.Rects.{place_in}
use Rattle.tile_map.proofs.Callers.{get_or-cut_of, length-cut_of}
use Rattle.region_meaning.specs.declared.window.WindowOp.{WindowOp}
use Rattle.region_meaning.specs.declared.window.WindowOp.TheVariants.{Total, Average, Minimum, Maximum, Diversity, Majority}
use Rattle.window_ops.specs.Laws.{OneCellIsItself, outcome_of_one}
use Rattle.region_meaning.specs.WindowResults.{window_result}
use Rattle.region_meaning.specs.inside.MostFrequent.{is_ahead, most_frequent}
use Rattle.region_meaning.specs.Windows.{present_values, single, window_outcome}
use Rattle.window_ops.proofs.WindowLemmas.{window_of-reach_0}

-- a number over 1 is itself
nearest_one : (n : ℤ) → nearest n 1 ≡ n
nearest_one n =
    let size : unsigned_abs n * 1 ≡ unsigned_abs n = omega arith in
    let is : IsNearest n (pos 1) n = record {
      size = record { above = omega arith; below = omega arith };
      positive = λ h. h;
      negative = λ h. omega (arith, ints);
    } in
    sym (nearest-unique n 1 n (omega arith) is)

-- the cell of a scalar's number
number_cell : (n : ℤ) → IsValue Scalar n → (let o : Outcome = cell_of_number Scalar n in o) ≡ Ok (Val n)
number_cell n fits = ap (λ (b : Bool). let o : Outcome = if b then Ok (Val n) else Err (record {}) in o) (test-from_value Scalar n fits)

sum_one : (n : ℤ) → n +ℤ pos 0 ≡ n
sum_one n = omega (arith, ints)

-- one of a number and itself
either : (b : Bool) (n : ℤ) → (if b then n else n) ≡ n
either true n = refl
either false n = refl

-- what an operation gives of one cell
one_value : (op : WindowOp) (n : ℤ) → IsValue Scalar n → window_result op (n ∷ []) ≡ outcome_of_one op (Val n)
unfolding most_frequent
one_value Total n fits = ap (cell_of_number Scalar) (sum_one n) ∙ number_cell n fits
one_value Average n fits = ap (λ (m : ℤ). cell_of_number Scalar (nearest m 1)) (sum_one n) ∙ (ap (cell_of_number Scalar) (nearest_one n) ∙ number_cell n fits)
one_value Minimum n fits = refl
one_value Maximum n fits = refl
one_value Diversity n fits = refl
one_value Majority n fits = ap (λ (m : ℤ). let o : Outcome = Ok (Val m) in o) (either (is_ahead (n ∷ []) n n) n)

none : (op : WindowOp) → window_result op [] ≡ outcome_of_one op Mv
none op = refl

one : (op : WindowOp) (cell : Cell) → IsCell Scalar cell → window_result op (present_values (cell ∷ [])) ≡ outcome_of_one op cell
one op Mv fits = none op
one op (Val n) fits = one_value op n fits

-- the cut of one cell
place_single : (cols row col k : ℕ) → k < 1 → place_in cols (single row col) k ≡ row * cols + col
unfolding place_in
place_single cols row col k below =
    let zero : k ≡ 0 = omega arith in
    ap (λ (n : ℕ). (row + n / 1) * cols + (col + n % 1)) zero
    ∙ (let e : (row + 0) * cols + (col + 0) ≡ row * cols + col = omega arith in e)

cut_single : (cols : ℕ) (cells : List Cell) (row col : ℕ) → cut_of cols cells (single row col) ≡ cell_at cells (row * cols + col) ∷ []
cut_single cols cells row col =
    let cut = cut_of cols cells (single row col) in
    let size : length cut ≡ 1 = length-cut_of cols cells (single row col) in
    same_lists cut (cell_at cells (row * cols + col) ∷ []) size
    (λ k d less.
    let below : k < 1 = subst (λ (n : ℕ). k < n) size less in
    let zero : k ≡ 0 = omega arith in
    get_or-cut_of cols cells (single row col) k d below
    ∙ (ap (cell_at cells) (place_single cols row col k below)
    ∙ ap (λ (n : ℕ). get_or (cell_at cells (row * cols + col) ∷ []) n d) (sym zero)))

-- what an operation gives of a window of one cell
pub one_cell : OneCellIsItself
unfolding window_outcome
one_cell op rows cols cells place below fits =
    ap (λ (w : Rect). window_result op (present_values (cut_of cols cells w))) (window_of-reach_0 rows cols place below)
    ∙ (ap (λ (xs : List Cell). window_result op (present_values xs)) (cut_single cols cells (place / cols) (place % cols))
    ∙ (ap (λ (n : ℕ). window_result op (present_values (cell_at cells n ∷ []))) (div-add-mod' place cols)
    ∙ one op (cell_at cells place) fits))
