-- The cells of some places that drain into a cell, and the border edges to them.
use Rattle.std.proofs.Common.{append_assoc, ◌≡◌, ◌≢◌, ◌⊎◌, ℕ, ◌+◌, ◌-◌, ◌*◌, ◌/◌, ◌%◌, ◌<◌, ◌≤◌, List, [], ◌∷◌, ◌++◌, length, map, refl, sym, ap, subst, ◌∙◌, arith, suc, zero, inl, inr, Bool, true, false, min, take, get_or}
use Rattle.std.specs.List.{filter, range_with_len}
use Rattle.std.proofs.Math.Seq.{take-suc}
use Rattle.std.specs.Prelude.{ℤ, pos, not, ◌==◌}
use Rattle.std.specs.Ordering.{int_eq}
use Rattle.std.proofs.lemmas.Bool.{and_parts, cases_Bool, eq-eqb}
use Rattle.std.proofs.lemmas.Bool.Decides.{Decides-int_eq}
use Rattle.std.proofs.lemmas.Int.{ints}
use Rattle.std.proofs.lemmas.List.{append-nil, map-append}
use Rattle.std.proofs.lemmas.List.Elements.{filter-append}
use Rattle.std.proofs.lemmas.Nat.{div_below, div-add-mod', div-mul-add, mod-mul-add, mod_below, mul-le}
use Rattle.cell_values.specs.declared.cell.Cell.{Cell}
use Rattle.cell_values.specs.declared.cell.Cell.TheVariants as cell
use Rattle.cell_values.specs.declared.kind.Kind.TheVariants.{Ldd}
use Rattle.cell_values.specs.Kinds.{IsCell}
use Rattle.tile_map.specs.Cuts.{cell_at}
use Rattle.tile_map.specs.declared.tiling.Tiling.{Tiling}
use Rattle.tile_map.proofs.Callers.{range-append}
use Rattle.drain_meaning.specs.declared.next.Next.TheVariants as next
use Rattle.drain_meaning.specs.Drains.{DrainMap, col_on, next_at, row_on}
use Rattle.drain_meaning.specs.Sound.{IsDrain}
use Rattle.drain_meaning.specs.Transports.{drains_into, outlet}
use Rattle.drain_meaning.specs.declared.next.Next.{Next}
use Rattle.drain_meaning.specs.declared.op.Orient.{Orient}
use Rattle.drain_meaning.specs.declared.op.Orient.TheVariants.{Down, Up}
use Rattle.drain_meaning.proofs.Callers.{LeadsTo, col_there, directed, directs, drains_tells, neighbours, row_there}
use Rattle.border_channel.specs.declared.edge.Edge.{Edge}
use Rattle.border_channel.specs.Edges.{HasSizeOf, crosses, crossing, edge, fed_by}
use Rattle.border_channel.specs.inside.Draining.{draining, has_code}

-- so many places and then so many more
pub draining_split : (m : DrainMap) (u from a b : ℕ) → draining m u from (a + b) ≡ draining m u from a ++ draining m u (from + a) b
draining_split m u from a b =
    ap (filter (λ v. drains_into u (next_at m v))) (range-append from a b)
    ∙ filter-append (λ v. drains_into u (next_at m v)) (range_with_len from a) (range_with_len (from + a) b)

-- the edges to the cells of two lists
pub crossing-append : (g : Tiling) (u : ℕ) (xs ys : List ℕ) → crossing g u (xs ++ ys) ≡ crossing g u xs ++ crossing g u ys
crossing-append g u xs ys = ap (map (edge u)) (filter-append (crosses g u) xs ys) ∙ map-append (edge u) (filter (crosses g u) xs) (filter (crosses g u) ys)

-- no place drains into the cell
pub draining_none : (m : DrainMap) (u from many : ℕ) → ((v : ℕ) → from ≤ v → v < from + many → next_at m v ≢ next.Cell u) → draining m u from many ≡ []
draining_none m u from zero h = refl
draining_none m u from (suc many) h =
    let first : drains_into u (next_at m from) ≡ false = elim (drains_tells (next_at m from) u) as (λ _. drains_into u (next_at m from) ≡ false) [ inl b ↦ absurd (h from (omega arith) (omega arith) b) | inr b ↦ b ] in
    rw first (draining_none m u (from + 1) many (λ v lo hi. h v (omega arith) (omega arith)))

-- one more place that drains into the cell
pub draining_one : (m : DrainMap) (u place : ℕ) → drains_into u (next_at m place) ≡ true → draining m u place 1 ≡ place ∷ []
draining_one m u place e = rw e refl

pub draining_other : (m : DrainMap) (u place : ℕ) → drains_into u (next_at m place) ≡ false → draining m u place 1 ≡ []
draining_other m u place e = rw e refl

-- a stretch that grew by a place
pub stretch_more : (m : DrainMap) (u from place : ℕ) (old now new one : List ℕ) → from ≤ place →
    now ≡ old ++ draining m u from (place - from) → draining m u place 1 ≡ one → new ≡ now ++ one →
    new ≡ old ++ draining m u from (place + 1 - from)
stretch_more m u from place old now new one low is more e =
    let many : place + 1 - from ≡ (place - from) + 1 = omega arith in
    let there : from + (place - from) ≡ place = omega arith in
    let split : draining m u from (place + 1 - from) ≡ draining m u from (place - from) ++ one =
    ap (draining m u from) many ∙ (draining_split m u from (place - from) 1 ∙ ap (λ (y : List ℕ). draining m u from (place - from) ++ y) (ap (λ (y : ℕ). draining m u y 1) there ∙ more)) in
    e ∙ (ap (λ (y : List ℕ). y ++ one) is ∙ (append_assoc old (draining m u from (place - from)) one ∙ ap (λ (y : List ℕ). old ++ y) (sym split)))

-- the same in a row that begins at a place
pub stretch_on : (m : DrainMap) (u start left at : ℕ) (old now new one : List ℕ) → left ≤ at →
    now ≡ old ++ draining m u (start + left) (at - left) → draining m u (start + at) 1 ≡ one → new ≡ now ++ one →
    new ≡ old ++ draining m u (start + left) (at + 1 - left)
stretch_on m u start left at old now new one low is more e =
    let before : at - left ≡ (start + at) - (start + left) = omega arith in
    let after : (start + at) + 1 - (start + left) ≡ at + 1 - left = omega arith in
    stretch_more m u (start + left) (start + at) old now new one (omega (arith, low)) (is ∙ ap (λ (n : ℕ). old ++ draining m u (start + left) n) before) more e
    ∙ ap (λ (n : ℕ). old ++ draining m u (start + left) n) after

-- the column of a place of a row
place_col : (line cols v : ℕ) → line * cols ≤ v → v < line * cols + cols → v % cols ≡ v - line * cols
place_col line cols v low high =
    let same : line * cols + (v - line * cols) ≡ v = omega arith in
    subst (λ (y : ℕ). y % cols ≡ v - line * cols) same (mod-mul-add line cols (v - line * cols) (omega arith))

-- a row has what drains into the cell within one column of the cell's
pub row_more : (m : DrainMap) (u line left right : ℕ) → left ≡ u % m.cols - 1 → right ≡ min m.cols (u % m.cols + 2) → u % m.cols < m.cols →
    draining m u 0 ((line + 1) * m.cols) ≡ draining m u 0 (line * m.cols) ++ draining m u (line * m.cols + left) ((line * m.cols + right) - (line * m.cols + left))
row_more m u line left right is_left is_right within =
    let start : ℕ = line * m.cols in
    let in_order : (left ≤ right) × (right ≤ m.cols) = (omega arith, omega arith) in
    let row : (line + 1) * m.cols ≡ start + m.cols = omega arith in
    let before = draining_none m u start left (λ v lo hi e.
    let n = neighbours m v u e in
    let col = place_col line m.cols v lo (omega (arith, hi, in_order.0, in_order.1)) in
    omega (arith, n.right, col, lo, hi)) in
    let behind = draining_none m u (start + right) (m.cols - right) (λ v lo hi e.
    let n = neighbours m v u e in
    let col = place_col line m.cols v (omega (arith, lo)) (omega (arith, hi, in_order.1)) in
    omega (arith, n.left, col, lo, hi, in_order.1)) in
    let one = draining_split m u 0 start m.cols in
    let two = draining_split m u start left (m.cols - left) in
    let three = draining_split m u (start + left) (right - left) (m.cols - right) in
    let cols : left + (m.cols - left) ≡ m.cols = omega (arith, in_order.0, in_order.1) in
    let rest : (right - left) + (m.cols - right) ≡ m.cols - left = omega (arith, in_order.0, in_order.1) in
    let far : start + left + (right - left) ≡ start + right = omega (arith, in_order.0) in
    let many : (start + right) - (start + left) ≡ right - left = omega arith in
    let whole : draining m u start m.cols ≡ draining m u (start + left) (right - left) =
    ap (draining m u start) (sym cols)
    ∙ (two ∙ (ap (λ (y : List ℕ). y ++ draining m u (start + left) (m.cols - left)) before
    ∙ (ap (draining m u (start + left)) (sym rest)
    ∙ (three ∙ (ap (λ (y : List ℕ). draining m u (start + left) (right - left) ++ y) (ap (λ (y : ℕ). draining m u y (m.cols - right)) far ∙ behind) ∙ append-nil (draining m u (start + left) (right - left))))))) in
    let zero_start : 0 + start ≡ start = omega arith in
    ap (draining m u 0) row
    ∙ (one ∙ ap (λ (y : List ℕ). draining m u 0 start ++ y) (ap (λ (y : ℕ). draining m u y m.cols) zero_start ∙ (whole ∙ ap (draining m u (start + left)) (sym many))))

-- no row above those next to the cell's has one
pub rows_above : (m : DrainMap) (u top : ℕ) → top ≡ u / m.cols - 1 → 0 < m.cols → draining m u 0 (top * m.cols) ≡ []
rows_above m u top is some = draining_none m u 0 (top * m.cols) (λ v lo hi e.
    let n = neighbours m v u e in
    let row : v / m.cols < top = div_below v m.cols top some (omega (arith, hi)) in
    omega (arith, n.below, row, is))

-- nor one below them
pub rows_below : (m : DrainMap) (u bottom : ℕ) → bottom ≡ min m.rows (u / m.cols + 2) → 0 < m.cols → length m.codes ≡ m.rows * m.cols → draining m u 0 (bottom * m.cols) ≡ draining m u 0 (length m.codes)
rows_below m u bottom is some size =
    let few : bottom * m.cols ≤ m.rows * m.cols = mul-le bottom m.cols m.rows m.cols (omega arith) (omega arith) in
    let sum : bottom * m.cols + (length m.codes - bottom * m.cols) ≡ length m.codes = omega (arith, few, size) in
    let zero_start : 0 + bottom * m.cols ≡ bottom * m.cols = omega arith in
    let none = draining_none m u (bottom * m.cols) (length m.codes - bottom * m.cols) (λ v lo hi e.
    let n = neighbours m v u e in
    let inside : v / m.cols < m.rows = div_below v m.cols m.rows some (omega (arith, hi, sum, size)) in
    let row : v / m.cols < bottom = omega (arith, n.above, inside, is) in
    let next_row : (v / m.cols + 1) * m.cols ≤ bottom * m.cols = mul-le (v / m.cols + 1) m.cols bottom m.cols (omega (arith, row)) (omega arith) in
    let whole = div-add-mod' v m.cols in
    let col = mod_below v m.cols some in
    omega (arith, next_row, whole, col, lo)) in
    sym (ap (draining m u 0) (sym sum)
    ∙ (draining_split m u 0 (bottom * m.cols) (length m.codes - bottom * m.cols)
    ∙ (ap (λ (y : List ℕ). draining m u 0 (bottom * m.cols) ++ y) (ap (λ (y : ℕ). draining m u y (length m.codes - bottom * m.cols)) zero_start ∙ none)
    ∙ append-nil (draining m u 0 (bottom * m.cols)))))

-- a place of the drain map is one of the tiling's map
pub place_within : (m : DrainMap) (g : Tiling) (v : ℕ) → HasSizeOf m g → IsDrain m → v < length m.codes → v < g.rows * g.cols
place_within m g v is drain low = subst (λ (n : ℕ). v < n) (drain.map.size ∙ (ap (λ (r : ℕ). r * m.cols) is.rows ∙ ap (λ (k : ℕ). g.rows * k) is.cols)) low

-- ---- what drains into a cell, row by row

-- before the first row
pub upward_first : (m : DrainMap) (u top cols : ℕ) (old : List ℕ) → m.cols ≡ cols → 0 < cols → top ≡ u / cols - 1 →
    old ≡ old ++ draining m u 0 (top * cols)
upward_first m u top cols old e some is =
    let none = subst (λ (k : ℕ). 0 < k → top ≡ u / k - 1 → draining m u 0 (top * k) ≡ []) e (λ has at. rows_above m u top at has) some is in
    sym (ap (λ (y : List ℕ). old ++ y) none ∙ append-nil old)

-- one more row
pub upward_more : (m : DrainMap) (u line left right cols : ℕ) (old now new : List ℕ) → m.cols ≡ cols → 0 < cols → left ≡ u % cols - 1 → right ≡ min cols (u % cols + 2) →
    now ≡ old ++ draining m u 0 (line * cols) → new ≡ now ++ draining m u (line * cols + left) ((line * cols + right) - (line * cols + left)) →
    new ≡ old ++ draining m u 0 ((line + 1) * cols)
upward_more m u line left right cols old now new e some is_left is_right before is =
    let row = subst (λ (k : ℕ). 0 < k → left ≡ u % k - 1 → right ≡ min k (u % k + 2) → draining m u 0 ((line + 1) * k) ≡ draining m u 0 (line * k) ++ draining m u (line * k + left) ((line * k + right) - (line * k + left))) e
    (λ has at_left at_right. row_more m u line left right at_left at_right (mod_below u m.cols has)) some is_left is_right in
    let first = draining m u 0 (line * cols) in
    let then = draining m u (line * cols + left) ((line * cols + right) - (line * cols + left)) in
    is ∙ (ap (λ (y : List ℕ). y ++ then) before ∙ (append_assoc old first then ∙ ap (λ (y : List ℕ). old ++ y) (sym row)))

-- behind the last row
pub upward_all : (m : DrainMap) (u bottom rows cols : ℕ) (old now : List ℕ) → m.rows ≡ rows → m.cols ≡ cols → 0 < cols → length m.codes ≡ m.rows * m.cols → bottom ≡ min rows (u / cols + 2) →
    now ≡ old ++ draining m u 0 (bottom * cols) → now ≡ old ++ draining m u 0 (length m.codes)
upward_all m u bottom rows cols old now er ec some size is at =
    let all = subst (λ (h : ℕ). bottom ≡ min h (u / cols + 2) → draining m u 0 (bottom * cols) ≡ draining m u 0 (length m.codes)) er
    (λ there. subst (λ (k : ℕ). 0 < k → bottom ≡ min m.rows (u / k + 2) → draining m u 0 (bottom * k) ≡ draining m u 0 (length m.codes)) ec (λ has here. rows_below m u bottom here has size) some there) is in
    at ∙ ap (λ (y : List ℕ). old ++ y) all

-- ---- the cells that a cell feeds, by orientation

pub from_up : (m : DrainMap) (o : Orient) (u : ℕ) → o ≡ Up → draining m u 0 (length m.codes) ≡ fed_by o m u
unfolding fed_by
from_up m o u e = ap (λ (x : Orient). fed_by x m u) (sym e)

pub from_down : (m : DrainMap) (o : Orient) (u target : ℕ) → o ≡ Down → next_at m u ≡ next.Cell target → target ∷ [] ≡ fed_by o m u
unfolding fed_by
from_down m o u target e n = ap outlet (sym n) ∙ ap (λ (x : Orient). fed_by x m u) (sym e)

from_none : (m : DrainMap) (o : Orient) (u : ℕ) (n : Next) → o ≡ Down → next_at m u ≡ n → outlet n ≡ [] → fed_by o m u ≡ []
unfolding fed_by
from_none m o u n e is none = ap (λ (x : Orient). fed_by x m u) e ∙ (ap outlet is ∙ none)

-- a cell that drains nowhere feeds none
pub none_more : (m : DrainMap) (o : Orient) (u : ℕ) (n : Next) (old : List ℕ) → o ≡ Down → n ≡ next_at m u → (n ≡ next.Pit) ⊎ ((n ≡ next.Outside) ⊎ (n ≡ next.Missing)) → old ≡ old ++ fed_by o m u
none_more m o u n old e is (inl k) = sym (ap (λ (y : List ℕ). old ++ y) (from_none m o u next.Pit e (sym is ∙ k) refl) ∙ append-nil old)
none_more m o u n old e is (inr (inl k)) = sym (ap (λ (y : List ℕ). old ++ y) (from_none m o u next.Outside e (sym is ∙ k) refl) ∙ append-nil old)
none_more m o u n old e is (inr (inr k)) = sym (ap (λ (y : List ℕ). old ++ y) (from_none m o u next.Missing e (sym is ∙ k) refl) ∙ append-nil old)

-- ---- the edges to some cells

-- one more cell
pub crossing_more : (g : Tiling) (u : ℕ) (cells : List ℕ) (k : ℕ) (old now new : List Edge) → k < length cells → now ≡ old ++ crossing g u (take k cells) → new ≡ now ++ crossing g u (get_or cells k 0 ∷ []) → new ≡ old ++ crossing g u (take (k + 1) cells)
crossing_more g u cells k old now new low is e =
    let more : take (k + 1) cells ≡ take k cells ++ get_or cells k 0 ∷ [] = ap (λ (n : ℕ). take n cells) (let s : k + 1 ≡ suc k = omega arith in s) ∙ take-suc cells k 0 low in
    e ∙ (ap (λ (y : List Edge). y ++ crossing g u (get_or cells k 0 ∷ [])) is
    ∙ (append_assoc old (crossing g u (take k cells)) (crossing g u (get_or cells k 0 ∷ []))
    ∙ ap (λ (y : List Edge). old ++ y) (sym (ap (crossing g u) more ∙ crossing-append g u (take k cells) (get_or cells k 0 ∷ [])))))

-- ---- the code by which a place drains into a cell next to it

-- the code that leads from one row and column to another, next to it, as on a numeric keypad
abbrev pub code_toward : ℕ → ℕ → ℕ → ℕ → ℕ
code_toward row col line at = (line + 1 - row) * 3 + (col + 1 - at) + 1

-- a cell lies next to a place, by rows and columns
pub record IsBeside (m : DrainMap) (row col line at : ℕ) : Type 0 where
  pub row_in : row < m.rows
  pub col_in : col < m.cols
  pub at_in : at < m.cols
  pub above : row ≤ line + 1
  pub below : line ≤ row + 1
  pub left : col ≤ at + 1
  pub right : at ≤ col + 1

not_on : (o : Bool) → not o ≡ true → o ≡ false
not_on true e = cc e
not_on false e = refl

coded_so : (wanted : ℕ) (code : Cell) → has_code wanted code ≡ true → (code ≡ cell.Val (pos wanted)) × ((wanted == 5) ≡ false)
coded_so wanted cell.Mv e = cc e
coded_so wanted (cell.Val n) e =
    let both = and_parts (not (wanted == 5)) (int_eq n (pos wanted)) e in
    (ap (λ (z : ℤ). cell.Val z) ((Decides-int_eq n (pos wanted)).0 both.1), not_on (wanted == 5) both.0)

has_it : (wanted : ℕ) (code : Cell) → code ≡ cell.Val (pos wanted) → (wanted == 5) ≡ false → has_code wanted code ≡ true
has_it wanted code e other =
    let same : int_eq (pos wanted) (pos wanted) ≡ true = (Decides-int_eq (pos wanted) (pos wanted)).1 refl in
    rw (e, other) same

-- the code that leads there is the one
leading_code : (m : DrainMap) (row col line at k : ℕ) → IsBeside m row col line at → LeadsTo m.rows m.cols (line + row_on k) (at + col_on k) (row * m.cols + col) → 1 ≤ k → k ≤ 9 → k ≡ code_toward row col line at
leading_code m row col line at k b l low high =
    let r : row ≡ line + row_on k - 1 = sym (div-mul-add row m.cols col b.col_in) ∙ row_there m.rows m.cols _ _ _ l in
    let c : col ≡ at + col_on k - 1 = sym (mod-mul-add row m.cols col b.col_in) ∙ col_there m.rows m.cols _ _ _ l in
    let whole = div-add-mod' (k - 1) 3 in
    let small = mod_below (k - 1) 3 (omega arith) in
    let rows : (k - 1) / 3 ≤ 2 = omega (arith, whole, high) in
    omega (arith, r, c, whole, small, rows, low, l.from_row, l.from_col)

-- and it leads there
code_leads : (m : DrainMap) (row col line at : ℕ) → IsBeside m row col line at → LeadsTo m.rows m.cols (line + row_on (code_toward row col line at)) (at + col_on (code_toward row col line at)) (row * m.cols + col)
code_leads m row col line at b =
    let k : ℕ = code_toward row col line at in
    let less : col + 1 - at < 3 = omega (arith, b.left, b.right) in
    let before : k - 1 ≡ (line + 1 - row) * 3 + (col + 1 - at) = omega arith in
    let rows : (k - 1) / 3 ≡ line + 1 - row = ap (λ (n : ℕ). n / 3) before ∙ div-mul-add (line + 1 - row) 3 (col + 1 - at) less in
    let cols : (k - 1) % 3 ≡ col + 1 - at = ap (λ (n : ℕ). n % 3) before ∙ mod-mul-add (line + 1 - row) 3 (col + 1 - at) less in
    let r : line + row_on k ≡ row + 1 = omega (arith, rows, b.above, b.below) in
    let c : at + col_on k ≡ col + 1 = omega (arith, cols, b.left, b.right) in
    record {
      from_row = omega (arith, r);
      to_row = omega (arith, r, b.row_in);
      from_col = omega (arith, c);
      to_col = omega (arith, c, b.col_in);
      there = (let one : line + row_on k - 1 ≡ row = omega (arith, r) in let two : at + col_on k - 1 ≡ col = omega (arith, c) in ap (λ (n : ℕ). n * m.cols + (at + col_on k - 1)) one ∙ ap (λ (n : ℕ). row * m.cols + n) two);
    }

in_range : (k : ℕ) → IsCell Ldd (cell.Val (pos k)) → (1 ≤ k) × (k ≤ 9)
in_range k is = (omega (arith, ints, is.least), omega (arith, ints, is.greatest))

-- a place has this code exactly where it drains into the cell
pub drains_by : (m : DrainMap) → IsDrain m → (row col line at : ℕ) → IsBeside m row col line at →
    has_code (code_toward row col line at) (cell_at m.codes (line * m.cols + at)) ≡ drains_into (row * m.cols + col) (next_at m (line * m.cols + at))
unfolding next_at
drains_by m drain row col line at b =
    let u : ℕ = row * m.cols + col in
    let v : ℕ = line * m.cols + at in
    let code : Cell = cell_at m.codes v in
    let k : ℕ = code_toward row col line at in
    let v_row : v / m.cols ≡ line = div-mul-add line m.cols at b.at_in in
    let v_col : v % m.cols ≡ at = mod-mul-add line m.cols at b.at_in in
    elim (drains_tells (next_at m v) u) as (λ _. has_code k code ≡ drains_into u (next_at m v)) [
      | inl there ↦
          let d = directs m.rows m.cols v code u there in
          let within = in_range d.number (subst (λ (z : Cell). IsCell Ldd z) d.coded (drain.map.each v)) in
          let leads : LeadsTo m.rows m.cols (line + row_on d.number) (at + col_on d.number) u =
          subst (λ (n : ℕ). LeadsTo m.rows m.cols (n + row_on d.number) (at + col_on d.number) u) v_row (subst (λ (n : ℕ). LeadsTo m.rows m.cols (v / m.cols + row_on d.number) (n + col_on d.number) u) v_col d.leads) in
          let same = leading_code m row col line at d.number b leads within.0 within.1 in
          let on : drains_into u (next_at m v) ≡ true = ap (drains_into u) there ∙ eq-eqb u u refl in
          has_it k code (d.coded ∙ ap (λ (n : ℕ). cell.Val (pos n)) same) (ap (λ (n : ℕ). n == 5) (sym same) ∙ d.no_pit) ∙ sym on
      | inr off ↦ elim (cases_Bool (has_code k code)) as (λ _. has_code k code ≡ drains_into u (next_at m v)) [
        | inl has ↦
            let so = coded_so k code has in
            let leads : LeadsTo m.rows m.cols (v / m.cols + row_on k) (v % m.cols + col_on k) u =
            subst (λ (n : ℕ). LeadsTo m.rows m.cols (n + row_on k) (v % m.cols + col_on k) u) (sym v_row) (subst (λ (n : ℕ). LeadsTo m.rows m.cols (line + row_on k) (n + col_on k) u) (sym v_col) (code_leads m row col line at b)) in
            let there : next_at m v ≡ next.Cell u = directed m.rows m.cols v k code u so.0 so.1 leads in
            absurd (let on : drains_into u (next_at m v) ≡ true = ap (drains_into u) there ∙ eq-eqb u u refl in cc (on, off))
        | inr none ↦ none ∙ sym off
      ]
    ]
