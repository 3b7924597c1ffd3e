-- What the crates above cite.
use Rattle.std.proofs.Common.{◌≡◌, ℕ, zero, suc, ◌*◌, ◌<◌, ◌≤◌, Bool, true, false, List, [], ◌∷◌, length, refl, ap, arith, ℤ, pos}
use Rattle.std.specs.Prelude.{Ok, IfOk, IsOk}
use Rattle.std.specs.List.{All}
use Rattle.std.specs.Ordering.{int_eq}
use Rattle.std.proofs.lemmas.List.Elements.{All-head, All-nil, All-push, All-tail}
use Rattle.std.proofs.lemmas.Map.Made.{distinct_count-le}
use Rattle.text_base.specs.Limits.{most_cells}
use Rattle.cell_values.specs.declared.kind.Kind.{Kind}
use Rattle.cell_values.specs.declared.kind.Kind.TheVariants.{Scalar}
use Rattle.cell_values.specs.declared.cell.Cell.{Cell}
use Rattle.cell_values.specs.declared.cell.Cell.TheVariants.{Mv, Val}
use Rattle.cell_values.specs.Kinds.{IsCell, IsValue}
use Rattle.cell_values.specs.Units.{million}
use Rattle.tile_map.specs.Cuts.{cell_at, cut_of}
use Rattle.tile_map.specs.Parts.{tabulate}
use Rattle.tile_map.specs.Rects.{HoldsPlace}
use Rattle.region_meaning.specs.declared.area.AreaOp.{AreaOp}
use Rattle.region_meaning.specs.declared.area.AreaOp.TheVariants as area
use Rattle.region_meaning.specs.declared.window.WindowOp.{WindowOp}
use Rattle.region_meaning.specs.declared.window.WindowOp.TheVariants as window
use Rattle.region_meaning.specs.AreaResults.{area_outcome, area_result}
use Rattle.region_meaning.specs.Areas.{AreaPlace, numbers_of}
use Rattle.region_meaning.specs.Numbers.{average_of, diversity_of, total_of}
use Rattle.region_meaning.specs.WindowResults.{window_result}
use Rattle.region_meaning.specs.Windows.{present_values, window_of, window_outcome}
use Rattle.region_meaning.proofs.AreaLemmas as areas
use Rattle.region_meaning.proofs.ValueLemmas as values
use Rattle.region_meaning.proofs.WindowLemmas as windows
-- how often numbers stand among others, and the most frequent one
pub use Rattle.region_meaning.proofs.NumberLemmas.{IsFirst, IsNotBehind, first-most_frequent, first-same, is_most_frequent}
pub use Rattle.region_meaning.proofs.NumberLemmas.{occurrences-append, occurrences-cons, occurs_at_front, occurs_behind, occurs_more}
-- how many different ones there are
pub use Rattle.region_meaning.proofs.NumberLemmas.{distinct-same, distinct_from_list}
-- the test for equal numbers
pub use Rattle.region_meaning.proofs.NumberLemmas.{equal_numbers, int_eq-flip, int_eq-same}
-- the number of the values of cells
pub use Rattle.region_meaning.proofs.WindowLemmas.{length-present_values}
-- as many places as were listed
pub use Rattle.tile_map.proofs.PartLemmas.{length-tabulate}

-- what holds at each of so many places holds of their list
pub tabulate-all : {X : Type 0} (P : X → Type 0) (f : ℕ → X) (n : ℕ) → ((i : ℕ) → i < n → P (f i)) → All P (tabulate f n)
tabulate-all P f zero each = All-nil P
tabulate-all P f (suc n) each = All-push P (tabulate f n) (f n) (tabulate-all P f n (λ i below. each i (omega arith))) (each n (omega arith))

-- so many different numbers, as a scalar
diversity-ok : (xs : List ℤ) → length xs ≤ most_cells → IsValue Scalar (pos (diversity_of xs * million))
diversity-ok xs few = let less = distinct_count-le int_eq xs in values.scalar_of_count (diversity_of xs) (omega (arith, less, few))

-- ---- windows

-- the operation gives one of the values of a window
abbrev pub window_gives_a_value : WindowOp → Bool
window_gives_a_value window.Minimum = true
window_gives_a_value window.Maximum = true
window_gives_a_value window.Majority = true
window_gives_a_value op = false

result-kept : (op : WindowOp) (kind : Kind) (xs : List ℤ) → window_gives_a_value op ≡ true → All (IsValue kind) xs → IfOk (window_result op xs) (IsCell kind)
result-kept op kind [] gives all = tt
result-kept window.Minimum kind (x ∷ xs) gives all = values.least_of-value kind x xs (All-head (IsValue kind) x xs all) (All-tail (IsValue kind) x xs all)
result-kept window.Maximum kind (x ∷ xs) gives all = values.greatest_of-value kind x xs (All-head (IsValue kind) x xs all) (All-tail (IsValue kind) x xs all)
result-kept window.Majority kind (x ∷ xs) gives all = values.most_frequent-value kind x xs all
result-kept window.Total kind (x ∷ xs) gives all = absurd cc
result-kept window.Average kind (x ∷ xs) gives all = absurd cc
result-kept window.Diversity kind (x ∷ xs) gives all = absurd cc

result-kept_ok : (op : WindowOp) (xs : List ℤ) → window_gives_a_value op ≡ true → IsOk (window_result op xs)
result-kept_ok op [] gives = refl
result-kept_ok window.Minimum (x ∷ xs) gives = refl
result-kept_ok window.Maximum (x ∷ xs) gives = refl
result-kept_ok window.Majority (x ∷ xs) gives = refl
result-kept_ok window.Total (x ∷ xs) gives = absurd cc
result-kept_ok window.Average (x ∷ xs) gives = absurd cc
result-kept_ok window.Diversity (x ∷ xs) gives = absurd cc

result-scalar : (op : WindowOp) (xs : List ℤ) → window_gives_a_value op ≡ false → IfOk (window_result op xs) (IsCell Scalar)
result-scalar op [] gives = tt
result-scalar window.Total (x ∷ xs) gives = values.cell_of_number-in_kind Scalar (total_of (x ∷ xs))
result-scalar window.Average (x ∷ xs) gives = values.cell_of_number-in_kind Scalar (average_of (x ∷ xs))
result-scalar window.Diversity (x ∷ xs) gives = values.cell_of_number-in_kind Scalar (pos (diversity_of (x ∷ xs) * million))
result-scalar window.Minimum (x ∷ xs) gives = absurd cc
result-scalar window.Maximum (x ∷ xs) gives = absurd cc
result-scalar window.Majority (x ∷ xs) gives = absurd cc

result-diversity_ok : (xs : List ℤ) → length xs ≤ most_cells → IsOk (window_result window.Diversity xs)
result-diversity_ok [] few = refl
result-diversity_ok (x ∷ xs) few = values.cell_of_number-ok Scalar (pos (diversity_of (x ∷ xs) * million)) (diversity-ok (x ∷ xs) few)

result-average_ok : (xs : List ℤ) → All (IsValue Scalar) xs → IsOk (window_result window.Average xs)
result-average_ok [] all = refl
result-average_ok (x ∷ xs) all = values.cell_of_number-ok Scalar (average_of (x ∷ xs)) (values.average_of-scalars (x ∷ xs) (omega arith) all)

-- the least, the greatest and the most frequent value of a window are of the kind of the map's cells
pub window_outcome-of_kind : (op : WindowOp) (kind : Kind) (rows cols k : ℕ) (cells : List Cell) (place : ℕ) → window_gives_a_value op ≡ true → All (IsCell kind) cells →
    IfOk (window_outcome op rows cols k cells place) (IsCell kind)
unfolding window_outcome
window_outcome-of_kind op kind rows cols k cells place gives all =
    result-kept op kind (present_values (cut_of cols cells (window_of rows cols k place))) gives (windows.window-in_kind kind cols cells (window_of rows cols k place) all)

-- and never out of range
pub window_outcome-of_kind_ok : (op : WindowOp) (rows cols k : ℕ) (cells : List Cell) (place : ℕ) → window_gives_a_value op ≡ true → IsOk (window_outcome op rows cols k cells place)
unfolding window_outcome
window_outcome-of_kind_ok op rows cols k cells place gives = result-kept_ok op (present_values (cut_of cols cells (window_of rows cols k place))) gives

-- the total, the average and the diversity are scalars, or out of range
pub window_outcome-scalar : (op : WindowOp) (rows cols k : ℕ) (cells : List Cell) (place : ℕ) → window_gives_a_value op ≡ false →
    IfOk (window_outcome op rows cols k cells place) (IsCell Scalar)
unfolding window_outcome
window_outcome-scalar op rows cols k cells place gives = result-scalar op (present_values (cut_of cols cells (window_of rows cols k place))) gives

-- a diversity is never out of range
pub window_outcome-diversity_ok : (rows cols k : ℕ) (cells : List Cell) (place : ℕ) → rows * cols ≤ most_cells → IsOk (window_outcome window.Diversity rows cols k cells place)
unfolding window_outcome
window_outcome-diversity_ok rows cols k cells place few =
    let less = windows.window-few rows cols k cells place in
    result-diversity_ok (present_values (cut_of cols cells (window_of rows cols k place))) (omega (arith, less, few))

-- nor is the average of scalars
pub window_outcome-average_ok : (rows cols k : ℕ) (cells : List Cell) (place : ℕ) → All (IsCell Scalar) cells → IsOk (window_outcome window.Average rows cols k cells place)
unfolding window_outcome
window_outcome-average_ok rows cols k cells place all =
    result-average_ok (present_values (cut_of cols cells (window_of rows cols k place))) (windows.window-in_kind Scalar cols cells (window_of rows cols k place) all)

-- a window without a value gives a missing value
pub window_outcome-missing : (op : WindowOp) (rows cols k : ℕ) (cells : List Cell) (place : ℕ) → place < rows * cols →
    ((other : ℕ) → HoldsPlace cols (window_of rows cols k place) other → cell_at cells other ≡ Mv) →
    window_outcome op rows cols k cells place ≡ Ok Mv
unfolding window_outcome
window_outcome-missing op rows cols k cells place below missing = ap (window_result op) (windows.window-missing rows cols k cells place below missing)

-- ---- areas

-- the operation gives one of the numbers of an area
abbrev pub area_gives_a_value : AreaOp → Bool
area_gives_a_value area.Minimum = true
area_gives_a_value area.Maximum = true
area_gives_a_value area.Majority = true
area_gives_a_value op = false

area-kept : (op : AreaOp) (kind : Kind) (xs : List ℤ) → area_gives_a_value op ≡ true → All (IsValue kind) xs → IfOk (area_result op xs) (IsCell kind)
unfolding area_result
area-kept op kind [] gives all = tt
area-kept area.Minimum kind (x ∷ xs) gives all = values.least_of-value kind x xs (All-head (IsValue kind) x xs all) (All-tail (IsValue kind) x xs all)
area-kept area.Maximum kind (x ∷ xs) gives all = values.greatest_of-value kind x xs (All-head (IsValue kind) x xs all) (All-tail (IsValue kind) x xs all)
area-kept area.Majority kind (x ∷ xs) gives all = values.most_frequent-value kind x xs all
area-kept area.Total kind (x ∷ xs) gives all = absurd cc
area-kept area.Average kind (x ∷ xs) gives all = absurd cc
area-kept area.Diversity kind (x ∷ xs) gives all = absurd cc
area-kept area.Area kind (x ∷ xs) gives all = absurd cc

area-kept_ok : (op : AreaOp) (xs : List ℤ) → area_gives_a_value op ≡ true → IsOk (area_result op xs)
unfolding area_result
area-kept_ok op [] gives = refl
area-kept_ok area.Minimum (x ∷ xs) gives = refl
area-kept_ok area.Maximum (x ∷ xs) gives = refl
area-kept_ok area.Majority (x ∷ xs) gives = refl
area-kept_ok area.Total (x ∷ xs) gives = absurd cc
area-kept_ok area.Average (x ∷ xs) gives = absurd cc
area-kept_ok area.Diversity (x ∷ xs) gives = absurd cc
area-kept_ok area.Area (x ∷ xs) gives = absurd cc

area-scalar : (op : AreaOp) (xs : List ℤ) → area_gives_a_value op ≡ false → length xs ≤ most_cells → IfOk (area_result op xs) (IsCell Scalar)
unfolding area_result
area-scalar op [] gives few = tt
area-scalar area.Total (x ∷ xs) gives few = values.cell_of_number-in_kind Scalar (total_of (x ∷ xs))
area-scalar area.Average (x ∷ xs) gives few = values.cell_of_number-in_kind Scalar (average_of (x ∷ xs))
area-scalar area.Diversity (x ∷ xs) gives few = values.cell_of_number-in_kind Scalar (pos (diversity_of (x ∷ xs) * million))
area-scalar area.Area (x ∷ xs) gives few = values.scalar_of_count (length (x ∷ xs)) few
area-scalar area.Minimum (x ∷ xs) gives few = absurd cc
area-scalar area.Maximum (x ∷ xs) gives few = absurd cc
area-scalar area.Majority (x ∷ xs) gives few = absurd cc

area-diversity_ok : (xs : List ℤ) → length xs ≤ most_cells → IsOk (area_result area.Diversity xs)
unfolding area_result
area-diversity_ok [] few = refl
area-diversity_ok (x ∷ xs) few = values.cell_of_number-ok Scalar (pos (diversity_of (x ∷ xs) * million)) (diversity-ok (x ∷ xs) few)

area-average_ok : (xs : List ℤ) → All (IsValue Scalar) xs → IsOk (area_result area.Average xs)
unfolding area_result
area-average_ok [] all = refl
area-average_ok (x ∷ xs) all = values.cell_of_number-ok Scalar (average_of (x ∷ xs)) (values.average_of-scalars (x ∷ xs) (omega arith) all)

area-size_ok : (xs : List ℤ) → IsOk (area_result area.Area xs)
unfolding area_result
area-size_ok [] = refl
area-size_ok (x ∷ xs) = refl

-- the least, the greatest and the most frequent value of an area are of the kind of the values
pub area_outcome-of_kind : (op : AreaOp) (kind : Kind) (places : List AreaPlace) (class : Cell) → area_gives_a_value op ≡ true → All (λ p. IsCell kind p.value) places →
    IfOk (area_outcome op places class) (IsCell kind)
area_outcome-of_kind op kind places Mv gives all = tt
area_outcome-of_kind op kind places (Val class) gives all =
    area-kept op kind (numbers_of op places class) gives (areas.numbers_of-in_kind op kind places class (takes op gives) all)
  where
    takes : (o : AreaOp) → area_gives_a_value o ≡ true → areas.takes_values o ≡ true
    takes area.Minimum g = refl
    takes area.Maximum g = refl
    takes area.Majority g = refl
    takes area.Total g = refl
    takes area.Average g = refl
    takes area.Diversity g = refl
    takes area.Area g = absurd cc

-- and never out of range
pub area_outcome-of_kind_ok : (op : AreaOp) (places : List AreaPlace) (class : Cell) → area_gives_a_value op ≡ true → IsOk (area_outcome op places class)
area_outcome-of_kind_ok op places Mv gives = refl
area_outcome-of_kind_ok op places (Val class) gives = area-kept_ok op (numbers_of op places class) gives

-- the total, the average, the diversity and the number of cells are scalars, or out of range
pub area_outcome-scalar : (op : AreaOp) (places : List AreaPlace) (class : Cell) → area_gives_a_value op ≡ false → length places ≤ most_cells →
    IfOk (area_outcome op places class) (IsCell Scalar)
area_outcome-scalar op places Mv gives few = tt
area_outcome-scalar op places (Val class) gives few =
    let less = areas.length-numbers_of op places class in
    area-scalar op (numbers_of op places class) gives (omega (arith, less, few))

-- a diversity is never out of range
pub area_outcome-diversity_ok : (places : List AreaPlace) (class : Cell) → length places ≤ most_cells → IsOk (area_outcome area.Diversity places class)
area_outcome-diversity_ok places Mv few = refl
area_outcome-diversity_ok places (Val class) few =
    let less = areas.length-numbers_of area.Diversity places class in
    area-diversity_ok (numbers_of area.Diversity places class) (omega (arith, less, few))

-- nor is the average of scalars
pub area_outcome-average_ok : (places : List AreaPlace) (class : Cell) → All (λ p. IsCell Scalar p.value) places → IsOk (area_outcome area.Average places class)
area_outcome-average_ok places Mv all = refl
area_outcome-average_ok places (Val class) all = area-average_ok (numbers_of area.Average places class) (areas.numbers_of-in_kind area.Average Scalar places class refl all)

-- nor the number of cells
pub area_outcome-size_ok : (places : List AreaPlace) (class : Cell) → IsOk (area_outcome area.Area places class)
area_outcome-size_ok places Mv = refl
area_outcome-size_ok places (Val class) = area-size_ok (numbers_of area.Area places class)

-- where the class is missing, so is the outcome
pub area_outcome-missing : (op : AreaOp) (places : List AreaPlace) → area_outcome op places Mv ≡ Ok Mv
area_outcome-missing op places = refl
