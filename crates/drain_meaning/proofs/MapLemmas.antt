-- Where the codes of a map lead.
use Rattle.std.proofs.Common.{◌≡◌, ◌⊎◌, inl, inr, ℕ, ◌+◌, ◌-◌, ◌*◌, ◌/◌, ◌%◌, ◌<◌, ◌≤◌, length, refl, ap, subst, arith, suc, zero, Bool, true, false}
use Rattle.std.specs.Prelude.{pos, negsuc, ◌==◌, ◌&&◌, nat_le, if◌then◌else◌}
use Rattle.std.proofs.lemmas.Bool.{cases_lt}
use Rattle.std.proofs.lemmas.List.{get_or_past}
use Rattle.std.proofs.lemmas.Bool.Decides.{nat_tests}
use Rattle.std.proofs.Math.Nat.{mul-le-mul_left}
use Rattle.cell_values.specs.declared.cell.Cell.{Cell}
use Rattle.cell_values.specs.declared.cell.Cell.TheVariants as cell
use Rattle.tile_map.specs.Cuts.{cell_at}
use Rattle.drain_meaning.specs.declared.next.Next.{Next}
use Rattle.drain_meaning.specs.declared.next.Next.TheVariants as next
use Rattle.drain_meaning.specs.Drains.{DrainMap, IsDrainMap, col_on, next_at, next_of, row_on, toward}
use Rattle.drain_meaning.specs.Paths.{IsDirected}

-- A cell without a code has no direction.
pub next_at-missing : (m : DrainMap) (c : ℕ) → cell_at m.codes c ≡ cell.Mv → next_at m c ≡ next.Missing
unfolding next_at next_of
next_at-missing m c e = ap (λ (y : Cell). next_of m.rows m.cols c y) e

-- A place outside the map has no direction.
pub next_at-outside : (m : DrainMap) (c : ℕ) → length m.codes ≤ c → next_at m c ≡ next.Missing
next_at-outside m c out = next_at-missing m c (get_or_past m.codes c cell.Mv out)

-- A cell with a direction is in the map.
pub directed_within : (m : DrainMap) (c : ℕ) → IsDirected m c → c < length m.codes
directed_within m c h = elim (cases_lt c (length m.codes)) as (λ _. c < length m.codes) [ inl w ↦ w | inr w ↦ absurd (h (next_at-outside m c w)) ]

low_place : (rows cols r c : ℕ) → 1 ≤ r → r ≤ rows → 1 ≤ c → c ≤ cols → (r - 1) * cols + (c - 1) < rows * cols
low_place rows cols zero c a b d e = absurd (omega arith)
low_place rows cols (suc r) c a b d e =
    let one : suc r - 1 ≡ r = omega arith in
    let two : cols * suc r ≤ cols * rows = mul-le-mul_left cols b in
    rw one (omega (arith, two))

-- what a choice of a cell or none leads to
chosen_inside : (o : Bool) (x n d : ℕ) → (o ≡ true → x < n) → (if o then next.Cell x else next.Outside) ≡ next.Cell d → d < n
chosen_inside true x n d low e = let same : x ≡ d = cc e in subst (λ (y : ℕ). y < n) same (low refl)
chosen_inside false x n d low e = cc e

pub tests_within : (rows cols r c : ℕ) → (nat_le 1 r && nat_le r rows && nat_le 1 c && nat_le c cols) ≡ true → (1 ≤ r) × (r ≤ rows) × (1 ≤ c) × (c ≤ cols)
tests_within rows cols r c t = (grind (arith, nat_tests), grind (arith, nat_tests), grind (arith, nat_tests), grind (arith, nat_tests))

toward_inside : (rows cols r c d : ℕ) → toward rows cols r c ≡ next.Cell d → d < rows * cols
toward_inside rows cols r c d e = chosen_inside (nat_le 1 r && nat_le r rows && nat_le 1 c && nat_le c cols) ((r - 1) * cols + (c - 1)) (rows * cols) d
    (λ t. let w = tests_within rows cols r c t in low_place rows cols r c w.0 w.1 w.2 w.3) e

pit_or_inside : (o : Bool) (n : Next) (bound d : ℕ) → (n ≡ next.Cell d → d < bound) → (if o then next.Pit else n) ≡ next.Cell d → d < bound
pit_or_inside true n bound d f e = cc e
pit_or_inside false n bound d f e = f e

-- A code leads to a cell of the map, or to none.
pub next_of-inside : (rows cols place : ℕ) (code : Cell) (d : ℕ) → next_of rows cols place code ≡ next.Cell d → d < rows * cols
unfolding next_of
next_of-inside rows cols place cell.Mv d e = cc e
next_of-inside rows cols place (cell.Val (negsuc k)) d e = cc e
next_of-inside rows cols place (cell.Val (pos k)) d e =
    pit_or_inside (k == 5) (toward rows cols (place / cols + row_on k) (place % cols + col_on k)) (rows * cols) d
    (λ f. toward_inside rows cols (place / cols + row_on k) (place % cols + col_on k) d f) e

-- A cell of a map drains into a cell of the map.
pub next_inside : (m : DrainMap) → IsDrainMap m → (c d : ℕ) → next_at m c ≡ next.Cell d → d < length m.codes
unfolding next_at
next_inside m is c d e = let low = next_of-inside m.rows m.cols c (cell_at m.codes c) d e in omega (arith, low, is.size)

directed_by : (m : DrainMap) (c : ℕ) (n : Next) → next_at m c ≡ n → IsDirected m c ⊎ (next_at m c ≡ next.Missing)
directed_by m c next.Pit e = inl (λ h. cc (e, h))
directed_by m c (next.Cell d) e = inl (λ h. cc (e, h))
directed_by m c next.Outside e = inl (λ h. cc (e, h))
directed_by m c next.Missing e = inr e

-- A cell has a direction or none.
pub cases_directed : (m : DrainMap) (c : ℕ) → IsDirected m c ⊎ (next_at m c ≡ next.Missing)
cases_directed m c = directed_by m c (next_at m c) refl
