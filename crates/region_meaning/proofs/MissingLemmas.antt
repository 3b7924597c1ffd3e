-- Where windows and areas are missing.
use Rattle.std.proofs.Common.{◌≡◌, ◌≢◌, ◌⊎◌, inl, inr, ℕ, ◌*◌, ◌<◌, Bool, true, false, cond, List, [], ◌∷◌, length, refl, sym, ap, subst, ◌∙◌, ℤ, pos}
use Rattle.std.specs.Prelude.{Option, Some, None, Ok, Err}
use Rattle.std.specs.List.{All, cons_option, filter_map}
use Rattle.std.specs.Ordering.{int_eq}
use Rattle.std.proofs.lemmas.List.Elements.{All-cons, All-get_or, All-head, All-nil, All-tail}
use Rattle.cell_values.specs.declared.cell.Cell.{Cell}
use Rattle.cell_values.specs.declared.cell.Cell.TheVariants.{Mv, Val}
use Rattle.cell_values.specs.declared.cell.Over.{Over}
use Rattle.cell_values.specs.declared.kind.Kind.TheVariants.{Scalar}
use Rattle.cell_values.specs.Kinds.{cell_of_number, is_value}
use Rattle.cell_values.specs.Units.{million}
use Rattle.tile_map.specs.Cuts.{cell_at, cut_of}
use Rattle.tile_map.specs.Rects.{HoldsPlace, number_in}
use Rattle.tile_map.proofs.Callers.{cell_at-cut_of, length-cut_of, number_of_held}
use Rattle.region_meaning.specs.declared.area.AreaOp.{AreaOp}
use Rattle.region_meaning.specs.declared.area.AreaOp.TheVariants as area
use Rattle.region_meaning.specs.declared.window.WindowOp.{WindowOp}
use Rattle.region_meaning.specs.declared.window.WindowOp.TheVariants as window
use Rattle.region_meaning.specs.AreaResults.{area_result}
use Rattle.region_meaning.specs.Areas.{numbers_of, taken, taken_by_class}
use Rattle.region_meaning.specs.Laws.{AreasAreMissing, CountsIn, WindowsAreMissing}
use Rattle.region_meaning.specs.Numbers.{average_of, diversity_of, total_of}
use Rattle.region_meaning.specs.WindowResults.{window_result}
use Rattle.region_meaning.specs.Windows.{present_values, window_of, window_outcome}
use Rattle.region_meaning.proofs.NumberLemmas.{equal_numbers, int_eq-same}
use Rattle.region_meaning.proofs.WindowLemmas.{window-missing}

-- ---- outcomes

chosen : (b : Bool) (n : ℤ) (over : Over) (P : Type 0) → cond b (Ok (Val n)) (Err over) ≡ Ok Mv → P
chosen true n over P e = absurd (cc e)
chosen false n over P e = absurd (cc e)

judged : (n : ℤ) (P : Type 0) → cell_of_number Scalar n ≡ Ok Mv → P
judged n P e = chosen (is_value Scalar n) n (record {}) P e

-- ---- windows

no_values : (op : WindowOp) (xs : List ℤ) → window_result op xs ≡ Ok Mv → xs ≡ []
no_values op [] e = refl
no_values window.Total (x ∷ xs) e = judged (total_of (x ∷ xs)) (x ∷ xs ≡ []) e
no_values window.Average (x ∷ xs) e = judged (average_of (x ∷ xs)) (x ∷ xs ≡ []) e
no_values window.Minimum (x ∷ xs) e = absurd (cc e)
no_values window.Maximum (x ∷ xs) e = absurd (cc e)
no_values window.Diversity (x ∷ xs) e = judged (pos (diversity_of (x ∷ xs) * million)) (x ∷ xs ≡ []) e
no_values window.Majority (x ∷ xs) e = absurd (cc e)

all_missing : (cells : List Cell) → present_values cells ≡ [] → All (λ cell. cell ≡ Mv) cells
all_missing [] e = All-nil (λ (cell : Cell). cell ≡ Mv)
all_missing (Mv ∷ cells) e = All-cons (λ (cell : Cell). cell ≡ Mv) Mv cells refl (all_missing cells e)
all_missing (Val v ∷ cells) e = absurd (cc e)

missing_cells : (op : WindowOp) (rows cols k : ℕ) (cells : List Cell) (place : ℕ) → window_outcome op rows cols k cells place ≡ Ok Mv →
    (other : ℕ) → HoldsPlace cols (window_of rows cols k place) other → cell_at cells other ≡ Mv
unfolding window_outcome
missing_cells op rows cols k cells place e other holds =
    let r = window_of rows cols k place in
    let all = all_missing (cut_of cols cells r) (no_values op (present_values (cut_of cols cells r)) e) in
    let held = number_of_held cols r other holds in
    let low : number_in cols r other < length (cut_of cols cells r) = subst (λ (n : ℕ). number_in cols r other < n) (sym (length-cut_of cols cells r)) held.0 in
    sym (cell_at-cut_of cols cells r other holds) ∙ All-get_or (λ (cell : Cell). cell ≡ Mv) (cut_of cols cells r) (number_in cols r other) Mv low all

missing_window : (op : WindowOp) (rows cols k : ℕ) (cells : List Cell) (place : ℕ) → place < rows * cols →
    ((other : ℕ) → HoldsPlace cols (window_of rows cols k place) other → cell_at cells other ≡ Mv) →
    window_outcome op rows cols k cells place ≡ Ok Mv
unfolding window_outcome
missing_window op rows cols k cells place below missing = ap (window_result op) (window-missing rows cols k cells place below missing)

-- a window is missing exactly where no cell in it has a value
pub windows_missing : WindowsAreMissing
windows_missing op rows cols k cells place below =
    (missing_cells op rows cols k cells place, missing_window op rows cols k cells place below)

-- ---- areas

no_numbers : (op : AreaOp) (xs : List ℤ) → area_result op xs ≡ Ok Mv → xs ≡ []
unfolding area_result
no_numbers op [] e = refl
no_numbers area.Total (x ∷ xs) e = judged (total_of (x ∷ xs)) (x ∷ xs ≡ []) e
no_numbers area.Average (x ∷ xs) e = judged (average_of (x ∷ xs)) (x ∷ xs ≡ []) e
no_numbers area.Minimum (x ∷ xs) e = absurd (cc e)
no_numbers area.Maximum (x ∷ xs) e = absurd (cc e)
no_numbers area.Diversity (x ∷ xs) e = judged (pos (diversity_of (x ∷ xs) * million)) (x ∷ xs ≡ []) e
no_numbers area.Majority (x ∷ xs) e = absurd (cc e)
no_numbers area.Area (x ∷ xs) e = absurd (cc e)

missing_result : (op : AreaOp) (xs : List ℤ) → xs ≡ [] → area_result op xs ≡ Ok Mv
unfolding area_result
missing_result op xs e = ap (area_result op) e

cons_none : {Y : Type 0} (o : Option Y) (ys : List Y) → cons_option o ys ≡ [] → (o ≡ None) × (ys ≡ [])
cons_none None ys e = (refl, e)
cons_none (Some y) ys e = absurd (cc e)

none_taken : {X Y : Type 0} (f : X → Option Y) (xs : List X) → filter_map f xs ≡ [] → All (λ x. f x ≡ None) xs
none_taken f [] e = All-nil (λ x. f x ≡ None)
none_taken f (x ∷ xs) e =
    let parts = cons_none (f x) (filter_map f xs) e in
    All-cons (λ x. f x ≡ None) x xs parts.0 (none_taken f xs parts.1)

taken_none : {X Y : Type 0} (f : X → Option Y) (xs : List X) → All (λ x. f x ≡ None) xs → filter_map f xs ≡ []
taken_none f [] all = refl
taken_none {X = X} {Y = Y} f (x ∷ xs) all =
    ap (λ (o : Option Y). cons_option o (filter_map f xs)) (All-head (λ x. f x ≡ None) x xs all)
    ∙ taken_none f xs (All-tail (λ x. f x ≡ None) x xs all)

all_so : {X : Type 0} (P Q : X → Type 0) → ((x : X) → P x → Q x) → (xs : List X) → All P xs → All Q xs
all_so P Q so [] all = All-nil Q
all_so P Q so (x ∷ xs) all = All-cons Q x xs (so x (All-head P x xs all)) (all_so P Q so xs (All-tail P x xs all))

-- the operation counts the value
abbrev Counted : AreaOp → Cell → Type 0
Counted op value = (op ≡ area.Area) ⊎ (value ≢ Mv)

counted_taken : (op : AreaOp) (value : Cell) → taken op value ≡ None → Counted op value → ⊥
counted_taken op Mv e (inl all) = let f : taken area.Area Mv ≡ None = ap (λ (o : AreaOp). taken o Mv) (sym all) ∙ e in cc f
counted_taken op Mv e (inr some) = some refl
counted_taken area.Total (Val n) e c = cc e
counted_taken area.Average (Val n) e c = cc e
counted_taken area.Minimum (Val n) e c = cc e
counted_taken area.Maximum (Val n) e c = cc e
counted_taken area.Diversity (Val n) e c = cc e
counted_taken area.Majority (Val n) e c = cc e
counted_taken area.Area (Val n) e c = cc e

not_counted : (op : AreaOp) (value : Cell) → (Counted op value → ⊥) → taken op value ≡ None
not_counted area.Area value never = absurd (never (inl refl))
not_counted area.Total Mv never = refl
not_counted area.Average Mv never = refl
not_counted area.Minimum Mv never = refl
not_counted area.Maximum Mv never = refl
not_counted area.Diversity Mv never = refl
not_counted area.Majority Mv never = refl
not_counted op (Val n) never = absurd (never (inr (λ e. cc e)))

uncounted : (op : AreaOp) (class : ℤ) (value own : Cell) → taken_by_class op class value own ≡ None → (own ≡ Val class) × Counted op value → ⊥
uncounted op class value Mv e c = cc c.0
uncounted op class value (Val own) e c =
    let same : own ≡ class = cc c.0 in
    let test : int_eq own class ≡ true = subst (λ (z : ℤ). int_eq own z ≡ true) same (int_eq-same own) in
    counted_taken op value (ap (λ (b : Bool). cond b (taken op value) None) (sym test) ∙ e) c.1

untaken_by : (op : AreaOp) (class : ℤ) (value : Cell) (own : ℤ) (b : Bool) → int_eq own class ≡ b → ((Val own ≡ Val class) × Counted op value → ⊥) → cond b (taken op value) None ≡ None
untaken_by op class value own true e never = not_counted op value (λ c. never (ap Val (equal_numbers own class e), c))
untaken_by op class value own false e never = refl

untaken : (op : AreaOp) (class : ℤ) (value own : Cell) → ((own ≡ Val class) × Counted op value → ⊥) → taken_by_class op class value own ≡ None
untaken op class value Mv never = refl
untaken op class value (Val own) never = untaken_by op class value own (int_eq own class) refl never

-- an area is missing exactly where its class is, or no place counts in it
pub areas_missing : AreasAreMissing
areas_missing op places Mv = ((λ e. inl refl), (λ e. refl))
areas_missing op places (Val class) = (
  (λ e. inr (all_so (λ p. taken_by_class op class p.value p.area ≡ None) (λ p. CountsIn op (Val class) p → ⊥) (λ p none. uncounted op class p.value p.area none) places
      (none_taken (λ p. taken_by_class op class p.value p.area) places (no_numbers op (numbers_of op places class) e)))),
  (λ s. elim s as (λ _. area_result op (numbers_of op places class) ≡ Ok Mv) [
    | inl gone ↦ absurd (cc gone)
    | inr none ↦ missing_result op (numbers_of op places class)
        (taken_none (λ p. taken_by_class op class p.value p.area) places
        (all_so (λ p. CountsIn op (Val class) p → ⊥) (λ p. taken_by_class op class p.value p.area ≡ None) (λ p never. untaken op class p.value p.area never) places none))
  ]),
)
