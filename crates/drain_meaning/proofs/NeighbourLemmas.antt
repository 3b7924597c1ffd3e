-- Where the codes of cells lead: a cell and the one that it drains into are neighbours.
use Rattle.std.proofs.Common.{◌≡◌, ℕ, ◌+◌, ◌-◌, ◌*◌, ◌/◌, ◌%◌, ◌<◌, ◌≤◌, refl, ap, subst, arith, Bool, true, false}
use Rattle.std.specs.Prelude.{pos, negsuc, ◌==◌, ◌&&◌, nat_le, if◌then◌else◌}
use Rattle.std.proofs.lemmas.Bool.Decides.{nat_tests}
use Rattle.std.proofs.lemmas.Nat.{div-mul-add, mod-mul-add, mod_below}
use Rattle.cell_values.specs.declared.cell.Cell.{Cell}
use Rattle.cell_values.specs.declared.cell.Cell.TheVariants as cell
use Rattle.tile_map.specs.Cuts.{cell_at}
use Rattle.drain_meaning.specs.declared.next.Next.{Next}
use Rattle.drain_meaning.specs.declared.next.Next.TheVariants as next
use Rattle.drain_meaning.specs.Drains.{DrainMap, col_on, next_at, next_of, row_on, toward}

-- ---- where a code leads

-- a code leads to the cell d, in rows and columns that are counted from 1
pub record LeadsTo (rows cols r c d : ℕ) : Type 0 where
  pub from_row : 1 ≤ r
  pub to_row : r ≤ rows
  pub from_col : 1 ≤ c
  pub to_col : c ≤ cols
  pub there : (r - 1) * cols + (c - 1) ≡ d

chosen_to : (o : Bool) (x d : ℕ) → (if o then next.Cell x else next.Outside) ≡ next.Cell d → (o ≡ true) × (x ≡ d)
chosen_to true x d e = (refl, cc e)
chosen_to false x d e = cc e

-- where the tests for the border are passed
leads_to : (rows cols r c d : ℕ) → toward rows cols r c ≡ next.Cell d → LeadsTo rows cols r c d
leads_to rows cols r c d e =
    let t = chosen_to (nat_le 1 r && nat_le r rows && nat_le 1 c && nat_le c cols) ((r - 1) * cols + (c - 1)) d e in
    record { from_row = grind (arith, nat_tests, t.0); to_row = grind (arith, nat_tests, t.0); from_col = grind (arith, nat_tests, t.0); to_col = grind (arith, nat_tests, t.0); there = t.1 }

-- where they are, a code leads to the cell
pub toward_there : (rows cols r c d : ℕ) → LeadsTo rows cols r c d → toward rows cols r c ≡ next.Cell d
toward_there rows cols r c d l =
    let a = l.from_row in
    let b = l.to_row in
    let x = l.from_col in
    let y = l.to_col in
    let t : (nat_le 1 r && nat_le r rows && nat_le 1 c && nat_le c cols) ≡ true = grind (arith, nat_tests) in
    rw t (ap (λ (z : ℕ). next.Cell z) l.there)

-- a direction to a neighbour
pub record Directs (rows cols place : ℕ) (code : Cell) (d : ℕ) : Type 0 where
  pub number : ℕ
  pub coded : code ≡ cell.Val (pos number)
  pub no_pit : (number == 5) ≡ false
  pub leads : LeadsTo rows cols (place / cols + row_on number) (place % cols + col_on number) d

pit_or : (o : Bool) (n : Next) (d : ℕ) → (if o then next.Pit else n) ≡ next.Cell d → (o ≡ false) × (n ≡ next.Cell d)
pit_or true n d e = cc e
pit_or false n d e = (refl, e)

-- a code that leads to a cell is a direction to it, and the other way round
pub directs : (rows cols place : ℕ) (code : Cell) (d : ℕ) → next_of rows cols place code ≡ next.Cell d → Directs rows cols place code d
unfolding next_of
directs rows cols place cell.Mv d e = cc e
directs rows cols place (cell.Val (negsuc k)) d e = cc e
directs rows cols place (cell.Val (pos k)) d e =
    let t = pit_or (k == 5) (toward rows cols (place / cols + row_on k) (place % cols + col_on k)) d e in
    record { number = k; coded = refl; no_pit = t.0; leads = leads_to rows cols (place / cols + row_on k) (place % cols + col_on k) d t.1 }

-- a direction to a neighbour leads there
pub directed : (rows cols place k : ℕ) (code : Cell) (d : ℕ) → code ≡ cell.Val (pos k) → (k == 5) ≡ false → LeadsTo rows cols (place / cols + row_on k) (place % cols + col_on k) d → next_of rows cols place code ≡ next.Cell d
unfolding next_of
directed rows cols place k code d e other l =
    rw (e, other) (toward_there rows cols (place / cols + row_on k) (place % cols + col_on k) d l)

-- the row and the column of the cell that a code leads to
pub row_there : (rows cols r c d : ℕ) → LeadsTo rows cols r c d → d / cols ≡ r - 1
row_there rows cols r c d l =
    let a = l.from_col in
    let b = l.to_col in
    subst (λ (y : ℕ). y / cols ≡ r - 1) l.there (div-mul-add (r - 1) cols (c - 1) (omega arith))

pub col_there : (rows cols r c d : ℕ) → LeadsTo rows cols r c d → d % cols ≡ c - 1
col_there rows cols r c d l =
    let a = l.from_col in
    let b = l.to_col in
    subst (λ (y : ℕ). y % cols ≡ c - 1) l.there (mod-mul-add (r - 1) cols (c - 1) (omega arith))

-- rows and columns differ by one at most
row_on-few : (k : ℕ) → row_on k ≤ 2
row_on-few k = omega arith

col_on-few : (k : ℕ) → col_on k ≤ 2
col_on-few k = let m : (k - 1) % 3 < 3 = mod_below (k - 1) 3 (omega arith) in omega arith

-- a cell and the one that it drains into are neighbours
pub record AreNeighbours (rows cols u d : ℕ) : Type 0 where
  pub row : d / cols < rows
  pub col : d % cols < cols
  pub above : u / cols ≤ d / cols + 1
  pub below : d / cols ≤ u / cols + 1
  pub left : u % cols ≤ d % cols + 1
  pub right : d % cols ≤ u % cols + 1

-- where a cell drains into another one, the two are neighbours
pub neighbours : (m : DrainMap) (u d : ℕ) → next_at m u ≡ next.Cell d → AreNeighbours m.rows m.cols u d
unfolding next_at
neighbours m u d e =
    let w = directs m.rows m.cols u (cell_at m.codes u) d e in
    let l = w.leads in
    let r = row_there _ _ _ _ _ l in
    let c = col_there _ _ _ _ _ l in
    let a = row_on-few w.number in
    let b = col_on-few w.number in
    record {
      row = omega (arith, r, l.from_row, l.to_row);
      col = omega (arith, c, l.from_col, l.to_col);
      above = omega (arith, r, l.from_row);
      below = omega (arith, r, l.from_row, a);
      left = omega (arith, c, l.from_col);
      right = omega (arith, c, l.from_col, b);
    }
