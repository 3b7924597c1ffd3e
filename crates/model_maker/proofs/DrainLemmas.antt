-- Made drain maps are sound, since each direction leads to a later cell.
use Rattle.std.proofs.Common.{◌≡◌, inl, inr, ℕ, zero, suc, ◌+◌, ◌-◌, ◌*◌, ◌/◌, ◌%◌, ◌<◌, ◌≤◌, Bool, true, false, List, [], ◌∷◌, length, get_or, refl, sym, ap, subst, ◌∙◌, arith, slice_index, lit≤}
use Rattle.std.specs.Prelude.{pos, ◌&&◌, nat_le, if◌then◌else◌}
use Rattle.std.proofs.lemmas.Bool.{cases_lt}
use Rattle.std.proofs.lemmas.Bool.Decides.{nat_tests}
use Rattle.std.proofs.lemmas.Int.{ints}
use Rattle.std.proofs.lemmas.List.{get_or_past}
use Rattle.cell_values.specs.declared.cell.Cell.{Cell}
use Rattle.cell_values.specs.declared.cell.Cell.TheVariants.{Mv, Val}
use Rattle.cell_values.specs.declared.kind.Kind.TheVariants.{Ldd}
use Rattle.cell_values.specs.Kinds.{IsCell}
use Rattle.tile_map.specs.Cuts.{cell_at}
use Rattle.drain_meaning.specs.declared.next.Next.{Next}
use Rattle.drain_meaning.specs.declared.next.Next.TheVariants as next
use Rattle.drain_meaning.specs.Drains.{DrainMap, IsDrainMap, next_at, next_of, toward}
use Rattle.drain_meaning.specs.Paths.{HasPath, IsSound}
use Rattle.drain_meaning.proofs.Callers.{directed_within, next_at-outside, next_inside, path_of_pit, path_up}
use Rattle.model_maker.specs.Cells.{by_place, cells_in_all, directions, drain_cell, or_pit, side}
use Rattle.model_maker.specs.Files.{cell_draws}
use Rattle.model_maker.specs.Laws.{LeadToLaterCells, MadeDrainsAreSound, made_drains}
use Rattle.model_maker.proofs.DrawLemmas.{cell_draws-are, length-by_place, length-drawn_from}

-- ---- maps in which each direction leads to a later cell

-- a pit, or a later cell
abbrev pub LeadsOn : ℕ → Next → Type 0
LeadsOn c next.Pit = Unit {0}
LeadsOn c (next.Cell d) = c < d
LeadsOn c next.Outside = ⊥
LeadsOn c next.Missing = ⊥

-- each cell of the map is a pit or leads to a later one
abbrev pub AllLeadOn : DrainMap → Type 0
AllLeadOn m = (c : ℕ) → c < length m.codes → LeadsOn c (next_at m c)

path_by : (m : DrainMap) → IsDrainMap m → (c : ℕ) → ((d : ℕ) → c < d → d < length m.codes → HasPath m d) → (n : Next) → next_at m c ≡ n → LeadsOn c n → HasPath m c
path_by m is c further next.Pit e h = path_of_pit m c e
path_by m is c further (next.Cell d) e h = path_up m c d e (further d h (next_inside m is c d e))
path_by m is c further next.Outside e h = absurd h
path_by m is c further next.Missing e h = absurd h

path_on : (m : DrainMap) → IsDrainMap m → AllLeadOn m → (left c : ℕ) → c < length m.codes → length m.codes ≤ c + left → HasPath m c
path_on m is on zero c lt le = absurd (omega arith)
path_on m is on (suc left) c lt le = path_by m is c (λ d later within. path_on m is on left d within (omega arith)) (next_at m c) refl (on c lt)

-- Where each cell is a pit or leads to a later one, each has a path.
pub sound_from_later : (m : DrainMap) → IsDrainMap m → AllLeadOn m → IsSound m
sound_from_later m is on c directed = let lt = directed_within m c directed in path_on m is on (length m.codes) c lt (omega arith)

later_by : (c d : ℕ) (n : Next) → n ≡ next.Cell d → LeadsOn c n → c < d
later_by c d next.Pit e h = cc e
later_by c d (next.Cell x) e h = let same : x ≡ d = cc e in subst (λ (y : ℕ). c < y) same h
later_by c d next.Outside e h = cc e
later_by c d next.Missing e h = cc e

-- ---- the cell that is drawn

-- what is next to a place by a direction that is drawn: a later cell, or nothing within the map
abbrev pub IsDrawnNext : ℕ → Next → Type 0
IsDrawnNext c next.Pit = Unit {0}
IsDrawnNext c (next.Cell d) = c < d
IsDrawnNext c next.Outside = Unit {0}
IsDrawnNext c next.Missing = ⊥

chosen_next : (o : Bool) (x c : ℕ) → (o ≡ true → c < x) → IsDrawnNext c (if o then next.Cell x else next.Outside)
chosen_next true x c later = later refl
chosen_next false x c later = tt

within_by_tests : (rows cols r c : ℕ) → (nat_le 1 r && nat_le r rows && nat_le 1 c && nat_le c cols) ≡ true → (1 ≤ r) × (1 ≤ c)
within_by_tests rows cols r c t = (grind (arith, nat_tests), grind (arith, nat_tests))

-- a step to a later row, or to a later column of the same row
toward_later : (c row col : ℕ) → (1 ≤ row → 1 ≤ col → c < (row - 1) * side + (col - 1)) → IsDrawnNext c (toward side side row col)
toward_later c row col later =
    chosen_next (nat_le 1 row && nat_le row side && nat_le 1 col && nat_le col side) ((row - 1) * side + (col - 1)) c
    (λ t. let w = within_by_tests side side row col t in later w.0 w.1)

-- Each direction that is drawn leads to a later cell, or out of the map.
drawn_next : (c k : ℕ) → k < 4 → IsDrawnNext c (next_of side side c (Val (pos (slice_index directions k))))
unfolding next_of
drawn_next c zero lt = toward_later c (c / side + 2) (c % side + 0) (λ a b. omega arith)
drawn_next c (suc zero) lt = toward_later c (c / side + 2) (c % side + 1) (λ a b. omega arith)
drawn_next c (suc (suc zero)) lt = toward_later c (c / side + 2) (c % side + 2) (λ a b. omega arith)
drawn_next c (suc (suc (suc zero))) lt = toward_later c (c / side + 1) (c % side + 2) (λ a b. omega arith)
drawn_next c (suc (suc (suc (suc k)))) lt = absurd (omega arith)

kept_next : (c code : ℕ) (n : Next) → next_of side side c (Val (pos code)) ≡ n → IsDrawnNext c n → LeadsOn c (next_of side side c (Val (pos (or_pit n code))))
unfolding next_of
kept_next c code next.Pit e h = subst (λ (n : Next). LeadsOn c n) (sym e) tt
kept_next c code (next.Cell d) e h = subst (λ (n : Next). LeadsOn c n) (sym e) h
kept_next c code next.Outside e h = tt
kept_next c code next.Missing e h = absurd h

below_four : (u : ℕ) → u % 4 < 4
below_four u = omega arith

-- A cell that is drawn is a pit or leads to a later one.
drain_cell-leads_on : (c u : ℕ) → LeadsOn c (next_of side side c (drain_cell c u))
unfolding drain_cell
drain_cell-leads_on c u =
    let code = slice_index directions (u % 4) in
    kept_next c code (next_of side side c (Val (pos code))) refl (drawn_next c (u % 4) (below_four u))

code_or_pit : (n : Next) (code : ℕ) → (1 ≤ code) × (code ≤ 9) → (1 ≤ or_pit n code) × (or_pit n code ≤ 9)
code_or_pit next.Pit code h = h
code_or_pit (next.Cell d) code h = h
code_or_pit next.Outside code h = (omega arith, omega arith)
code_or_pit next.Missing code h = h

is_direction : (k : ℕ) → k < 4 → (1 ≤ slice_index directions k) × (slice_index directions k ≤ 9)
is_direction zero lt = (omega arith, omega arith)
is_direction (suc zero) lt = (omega arith, omega arith)
is_direction (suc (suc zero)) lt = (omega arith, omega arith)
is_direction (suc (suc (suc zero))) lt = (omega arith, omega arith)
is_direction (suc (suc (suc (suc k)))) lt = absurd (omega arith)

is_ldd : (code : ℕ) → (1 ≤ code) × (code ≤ 9) → IsCell Ldd (Val (pos code))
is_ldd code h = record { least = omega (arith, ints); greatest = omega (arith, ints) }

drain_cell-is : (c u : ℕ) → IsCell Ldd (drain_cell c u)
unfolding drain_cell
drain_cell-is c u =
    let code = slice_index directions (u % 4) in
    let n = next_of side side c (Val (pos code)) in
    is_ldd (or_pit n code) (code_or_pit n code (is_direction (u % 4) (below_four u)))

-- ---- the whole map

cell_at-by_place : (rule : ℕ → ℕ → Cell) (from : ℕ) (us : List ℕ) (i : ℕ) → i < length us → cell_at (by_place rule from us) i ≡ rule (from + i) (get_or us i 0)
cell_at-by_place rule from [] i lt = absurd (omega arith)
cell_at-by_place rule from (u ∷ us) zero lt = ap (λ (p : ℕ). rule p u) (let e : from ≡ from + 0 = omega arith in e)
cell_at-by_place rule from (u ∷ us) (suc i) lt =
    cell_at-by_place rule (from + 1) us i (omega arith)
    ∙ ap (λ (p : ℕ). rule p (get_or us i 0)) (let e : from + 1 + i ≡ from + suc i = omega arith in e)

length-cell_draws : (number : ℕ) → length (cell_draws number) ≡ side * side
unfolding cells_in_all
length-cell_draws number = ap length (cell_draws-are number) ∙ length-drawn_from cells_in_all number

-- the codes of the map
codes_are : (number c : ℕ) → c < length (made_drains number).codes → cell_at (made_drains number).codes c ≡ drain_cell c (get_or (cell_draws number) c 0)
codes_are number c lt =
    cell_at-by_place drain_cell 0 (cell_draws number) c (omega (arith, lt, length-by_place drain_cell 0 (cell_draws number)))
    ∙ ap (λ (p : ℕ). drain_cell p (get_or (cell_draws number) c 0)) (let e : 0 + c ≡ c = omega arith in e)

made_map : (number : ℕ) → IsDrainMap (made_drains number)
made_map number =
    let m = made_drains number in
    record {
      few = lit≤ tt;
      size = length-by_place drain_cell 0 (cell_draws number) ∙ length-cell_draws number;
      each = λ c. elim (cases_lt c (length m.codes)) as (λ _. IsCell Ldd (cell_at m.codes c)) [
        | inl low ↦ subst (λ (y : Cell). IsCell Ldd y) (sym (codes_are number c low)) (drain_cell-is c (get_or (cell_draws number) c 0))
        | inr out ↦ subst (λ (y : Cell). IsCell Ldd y) (sym (get_or_past m.codes c Mv out)) tt
      ];
    }

made_leads_on : (number : ℕ) → AllLeadOn (made_drains number)
unfolding next_at
made_leads_on number c lt =
    subst (λ (y : Cell). LeadsOn c (next_of side side c y)) (sym (codes_are number c lt)) (drain_cell-leads_on c (get_or (cell_draws number) c 0))

pub made_drains_are_sound : MadeDrainsAreSound
made_drains_are_sound number =
    record { map = made_map number; sound = sound_from_later (made_drains number) (made_map number) (made_leads_on number) }

pub made_directions_lead_on : LeadToLaterCells
made_directions_lead_on number c d e =
    let m = made_drains number in
    elim (cases_lt c (length m.codes)) as (λ _. c < d) [
      | inl low ↦ later_by c d (next_at m c) e (made_leads_on number c low)
      | inr out ↦ let none = next_at-outside m c out in cc (e, none)
    ]
