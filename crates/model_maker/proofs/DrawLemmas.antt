-- Draws, one after the other.
use Rattle.std.proofs.Common.{◌≡◌, ℕ, zero, suc, ◌+◌, ◌-◌, ◌*◌, ◌%◌, ◌≤◌, List, [], ◌∷◌, ◌++◌, length, take, drop, map, refl, ap, ◌∙◌, arith, add-one}
use Rattle.std.proofs.lemmas.List.{take_at, drop_at, map-append}
use Rattle.std.proofs.Math.Nat.{mod-add-mod, mul_comm}
use Rattle.cell_values.specs.declared.cell.Cell.{Cell}
use Rattle.model_maker.specs.Draws.{drawn_from, drawn, next_state}
use Rattle.model_maker.specs.Cells.{by_place, cells_in_all}
use Rattle.model_maker.specs.Files.{cell_draws, rain_draws}
use Rattle.model_maker.specs.Rain.{columns, steps}
use Rattle.model_maker.specs.inside.States.{state_after}

-- The state is multiplied on its left or on its right, and it may be cut before the increment is added.
pub state_steps : (s m i w : ℕ) → (s * m % w + i) % w ≡ (m * s + i) % w
state_steps s m i w = mod-add-mod (s * m) w i ∙ ap (λ (x : ℕ). (x + i) % w) (mul_comm s m)

-- what the next draw gives, behind so many
abbrev pub drawn_behind : ℕ → ℕ → ℕ
drawn_behind count state = drawn (next_state (state_after count state))

-- One draw more stands at the end.
pub drawn_from-more : (count state : ℕ) → drawn_from (count + 1) state ≡ drawn_from count state ++ drawn_behind count state ∷ []
unfolding drawn_from state_after
drawn_from-more count state = ap (λ (n : ℕ). drawn_from n state) (add-one count) ∙ by count state
  where
    by : (count state : ℕ) → drawn_from (suc count) state ≡ drawn_from count state ++ drawn_behind count state ∷ []
    by zero state = refl
    by (suc count) state = ap (λ (more : List ℕ). drawn (next_state state) ∷ more) (by count (next_state state))

-- One draw more goes one state on.
pub state_after-more : (count state : ℕ) → state_after (count + 1) state ≡ next_state (state_after count state)
unfolding state_after
state_after-more count state = ap (λ (n : ℕ). state_after n state) (add-one count) ∙ by count state
  where
    by : (count state : ℕ) → state_after (suc count) state ≡ next_state (state_after count state)
    by zero state = refl
    by (suc count) state = by count (next_state state)

pub length-drawn_from : (count state : ℕ) → length (drawn_from count state) ≡ count
unfolding drawn_from
length-drawn_from zero state = refl
length-drawn_from (suc count) state = ap (λ (n : ℕ). suc n) (length-drawn_from count (next_state state))

-- Draws are the first ones and those that follow on them.
pub drawn_from-add : (first more state : ℕ) → drawn_from (first + more) state ≡ drawn_from first state ++ drawn_from more (state_after first state)
unfolding drawn_from state_after
drawn_from-add zero more state = ap (λ (n : ℕ). drawn_from n state) (let e : 0 + more ≡ more = omega arith in e)
drawn_from-add (suc first) more state =
    ap (λ (n : ℕ). drawn_from n state) (let e : suc first + more ≡ suc (first + more) = omega arith in e)
    ∙ ap (λ (rest : List ℕ). drawn (next_state state) ∷ rest) (drawn_from-add first more (next_state state))

pub state_after-add : (first more state : ℕ) → state_after (first + more) state ≡ state_after more (state_after first state)
unfolding state_after
state_after-add zero more state = ap (λ (n : ℕ). state_after n state) (let e : 0 + more ≡ more = omega arith in e)
state_after-add (suc first) more state =
    ap (λ (n : ℕ). state_after n state) (let e : suc first + more ≡ suc (first + more) = omega arith in e)
    ∙ state_after-add first more (next_state state)

-- The first draws are taken, and the others are those that follow on them.
pub take-drawn_from : (first more state : ℕ) → take first (drawn_from (first + more) state) ≡ drawn_from first state
take-drawn_from first more state =
    ap (λ (us : List ℕ). take first us) (drawn_from-add first more state)
    ∙ take_at (drawn_from first state) (drawn_from more (state_after first state)) first (length-drawn_from first state)

pub drop-drawn_from : (first more state : ℕ) → drop first (drawn_from (first + more) state) ≡ drawn_from more (state_after first state)
drop-drawn_from first more state =
    ap (λ (us : List ℕ). drop first us) (drawn_from-add first more state)
    ∙ drop_at (drawn_from first state) (drawn_from more (state_after first state)) first (length-drawn_from first state)

-- A part of the draws is drawn from the state before it.
pub part-drawn_from : (from count all state : ℕ) → from + count ≤ all → take count (drop from (drawn_from all state)) ≡ drawn_from count (state_after from state)
part-drawn_from from count all state le =
    let rest = all - (from + count) in
    let parts : all ≡ from + (count + rest) = omega arith in
    ap (λ (n : ℕ). take count (drop from (drawn_from n state))) parts
    ∙ ap (λ (us : List ℕ). take count us) (drop-drawn_from from (count + rest) state)
    ∙ take-drawn_from count rest (state_after from state)

-- ---- cells by draws

by_place-append : (rule : ℕ → ℕ → Cell) (place : ℕ) (us : List ℕ) (u : ℕ) → by_place rule place (us ++ u ∷ []) ≡ by_place rule place us ++ rule (place + length us) u ∷ []
by_place-append rule place [] u = ap (λ (p : ℕ). rule p u ∷ []) (let e : place ≡ place + 0 = omega arith in e)
by_place-append rule place (v ∷ us) u =
    ap (λ (cells : List Cell). rule place v ∷ cells) (by_place-append rule (place + 1) us u)
    ∙ ap (λ (p : ℕ). rule place v ∷ (by_place rule (place + 1) us ++ rule p u ∷ [])) (let e : place + 1 + length us ≡ place + suc (length us) = omega arith in e)

-- One cell more stands at the end.
pub by_place-more : (rule : ℕ → ℕ → Cell) (place state : ℕ) → by_place rule 0 (drawn_from (place + 1) state) ≡ by_place rule 0 (drawn_from place state) ++ rule place (drawn_behind place state) ∷ []
by_place-more rule place state =
    ap (λ (us : List ℕ). by_place rule 0 us) (drawn_from-more place state)
    ∙ by_place-append rule 0 (drawn_from place state) (drawn_behind place state)
    ∙ ap (λ (p : ℕ). by_place rule 0 (drawn_from place state) ++ rule p (drawn_behind place state) ∷ []) (let e : 0 + length (drawn_from place state) ≡ place = omega (arith, length-drawn_from place state) in e)

pub map-drawn_from-more : (rule : ℕ → Cell) (count state : ℕ) → map rule (drawn_from (count + 1) state) ≡ map rule (drawn_from count state) ++ rule (drawn_behind count state) ∷ []
map-drawn_from-more rule count state =
    ap (λ (us : List ℕ). map rule us) (drawn_from-more count state)
    ∙ map-append rule (drawn_from count state) (drawn_behind count state ∷ [])

pub length-by_place : (rule : ℕ → ℕ → Cell) (place : ℕ) (us : List ℕ) → length (by_place rule place us) ≡ length us
length-by_place rule place [] = refl
length-by_place rule place (u ∷ us) = ap (λ (n : ℕ). suc n) (length-by_place rule (place + 1) us)

-- ---- the draws of a model

pub cell_draws-are : (number : ℕ) → cell_draws number ≡ drawn_from cells_in_all number
cell_draws-are number = take-drawn_from cells_in_all (columns * steps) number

pub rain_draws-are : (number : ℕ) → rain_draws number ≡ drawn_from (columns * steps) (state_after cells_in_all number)
rain_draws-are number = drop-drawn_from cells_in_all (columns * steps) number
