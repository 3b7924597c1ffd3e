-- The drain maps of inputs, as they are written and as they show themselves.
use Rattle.std.proofs.Common.{◌≡◌, ◌<◌, ℕ, zero, suc, ◌+◌, Bool, true, false, ◌&&◌, List, [], ◌∷◌, ◌++◌, map, length, refl, sym, ap, subst, ◌∙◌, if◌then◌else◌, arith}
use Rattle.std.specs.Prelude.{Some, option_map, slice_get, slice_index_or}
use Rattle.std.proofs.lemmas.Option.{slice_get_within}
use Rattle.cell_values.specs.declared.kind.Kind.TheVariants.{Ldd}
use Rattle.map_meaning.specs.declared.program.DrainFrom.TheVariants as drain
use Rattle.map_meaning.specs.declared.program.DrainUse.{DrainUse}
use Rattle.map_meaning.specs.declared.program.InputUse.{InputUse}
use Rattle.map_meaning.specs.declared.program.Program.{Program}
use Rattle.map_meaning.specs.declared.program.Role.{Role}
use Rattle.map_meaning.specs.declared.program.Role.TheVariants.{Grid, Series, Stack, Table}
use Rattle.map_meaning.specs.Programs.{AreDrainUses, is_grid_role}
use Rattle.map_meaning.specs.Table.{is_kind}
use Rattle.map_meaning.proofs.Callers.{same_kind}
use Rattle.script_types.specs.Lowered.{as_shown_drain, input_drains, is_drain_input}
use Rattle.script_types.specs.inside.Drains.{drain_number, drain_numbers, input_uses}
use Rattle.script_types.specs.inside.Written.{AllDue}
use Rattle.script_types.specs.inside.Fits.{is_input_of}
use Rattle.script_types.proofs.FitLemmas.{has-input, both-left, both-right}
use Rattle.script_types.proofs.InputForms.{there-input}

-- ---- the number of an input among drain maps

grid-is : (i : InputUse) → i.role ≡ Grid → i.kind ≡ Ldd → is_drain_input i ≡ true
grid-is i hr hk = ap (λ r. is_grid_role r && is_kind Ldd i.kind) hr ∙ ap (λ k. is_kind Ldd k) hk

-- The drain map of an input among those of some inputs, of which the first has the number n, and before which so many others stand.
record StandsAt (n before : ℕ) (inputs : List InputUse) (k : ℕ) : Type 0 where
  pub place : ℕ
  pub number : slice_index_or (drain_numbers before inputs) k 0 ≡ before + place
  pub there : slice_get (input_uses n inputs) place ≡ Some (record { from = drain.Input (n + k); after = 0 })

stands-first : (t : Bool) (n before : ℕ) (rest : List DrainUse) (numbers : List ℕ) → t ≡ true → (place : ℕ) × (before ≡ before + place) × (slice_get (if t then record { from = drain.Input n; after = 0 } ∷ rest else rest) place ≡ Some (record { from = drain.Input (n + 0); after = 0 }))
stands-first true n before rest numbers h = let e : n ≡ n + 0 = omega arith in let f : before ≡ before + 0 = omega arith in (0, f, ap (λ k. Some (record { from = drain.Input k; after = 0 })) e)
stands-first false n before rest numbers h = cc

stands-at : (n before : ℕ) (inputs : List InputUse) (k : ℕ) → is_input_of inputs Grid Ldd k ≡ true → StandsAt n before inputs k
stands-at n before [] k h = cc
stands-at n before (i ∷ is) zero h =
    let has = has-input (i ∷ is) Grid Ldd 0 h in
    let same : i ≡ has.input = (let e = has.there in cc) in
    let s = stands-first (is_drain_input i) n before (input_uses (n + 1) is) [] (grid-is i (ap (λ (x : InputUse). x.role) same ∙ has.role_is) (ap (λ (x : InputUse). x.kind) same ∙ has.kind_is)) in
    record { place = s.0; number = s.1; there = s.2 }
stands-at n before (i ∷ is) (suc k) h =
    let s = by-test (is_drain_input i) (stands-at (n + 1) before is k h) (stands-at (n + 1) (before + 1) is k h) in
    record { place = s.0; number = s.1; there = s.2 }
  where
    by-test : (t : Bool) → StandsAt (n + 1) before is k → StandsAt (n + 1) (before + 1) is k → (place : ℕ) × (slice_index_or (drain_numbers (if t then before + 1 else before) is) k 0 ≡ before + place) × (slice_get (if t then record { from = drain.Input n; after = 0 } ∷ input_uses (n + 1) is else input_uses (n + 1) is) place ≡ Some (record { from = drain.Input (n + suc k); after = 0 }))
    by-test true s u = let e : n + 1 + k ≡ n + suc k = omega arith in let f : before + 1 + u.place ≡ before + suc u.place = omega arith in (suc u.place, u.number ∙ f, u.there ∙ ap (λ j. Some (record { from = drain.Input j; after = 0 })) e)
    by-test false s u = let e : n + 1 + k ≡ n + suc k = omega arith in (s.place, s.number, s.there ∙ ap (λ j. Some (record { from = drain.Input j; after = 0 })) e)

-- where the drain map of an input stands among those of all
pub drain-there : (inputs : List InputUse) (k : ℕ) → is_input_of inputs Grid Ldd k ≡ true → slice_get (input_uses 0 inputs) (drain_number inputs k) ≡ Some (record { from = drain.Input k; after = 0 })
drain-there inputs k h =
    let s = stands-at 0 0 inputs k h in
    let e : 0 + s.place ≡ s.place = omega arith in
    let f : 0 + k ≡ k = omega arith in
    ap (slice_get (input_uses 0 inputs)) (s.number ∙ e) ∙ s.there ∙ ap (λ j. Some (record { from = drain.Input j; after = 0 })) f

-- it is one of them
pub drain-below : (inputs : List InputUse) (k : ℕ) → is_input_of inputs Grid Ldd k ≡ true → drain_number inputs k < length (input_uses 0 inputs)
drain-below inputs k h = slice_get_within (input_uses 0 inputs) (drain_number inputs k) _ (drain-there inputs k h)

-- what is written of them shows itself
pub shown-inputs : (n : ℕ) (inputs : List InputUse) → map as_shown_drain (input_uses n inputs) ≡ input_drains n inputs
shown-inputs n [] = refl
shown-inputs n (i ∷ is) = by-test (is_drain_input i) (shown-inputs (n + 1) is)
  where
    by-test : (t : Bool) → map as_shown_drain (input_uses (n + 1) is) ≡ input_drains (n + 1) is → map as_shown_drain (if t then record { from = drain.Input n; after = 0 } ∷ input_uses (n + 1) is else input_uses (n + 1) is) ≡ (if t then record { input = Some n; after = 0 } ∷ input_drains (n + 1) is else input_drains (n + 1) is)
    by-test true h = ap (λ rest. record { input = Some n; after = 0 } ∷ rest) h
    by-test false h = h

-- ---- that they are drain maps of the program

grid-role : (r : Role) → is_grid_role r ≡ true → r ≡ Grid
grid-role Grid h = refl
grid-role Stack h = cc
grid-role (Table keys) h = cc
grid-role Series h = cc

-- the drain maps of two lists
pub uses-append : (program : Program) (n : ℕ) (xs ys : List DrainUse) → AreDrainUses program n xs → AreDrainUses program (n + length xs) ys → AreDrainUses program n (xs ++ ys)
uses-append program n [] ys hx hy = let e : n + 0 ≡ n = omega arith in subst (λ k. AreDrainUses program k ys) e hy
uses-append program n (x ∷ xs) ys hx hy = let e : n + suc (length xs) ≡ n + 1 + length xs = omega arith in (hx.0, uses-append program (n + 1) xs ys hx.1 (subst (λ k. AreDrainUses program k ys) e hy))

-- those of inputs that stand in the program from the number n on
inputs-from : (program : Program) (m n : ℕ) (inputs : List InputUse) → ((k : ℕ) → slice_get program.inputs (n + k) ≡ slice_get inputs k) → AreDrainUses program m (input_uses n inputs)
inputs-from program m n [] h = tt
inputs-from program m n (i ∷ is) h =
    let next : (k : ℕ) → slice_get program.inputs (n + 1 + k) ≡ slice_get is k = λ k. (let e : n + 1 + k ≡ n + suc k = omega arith in ap (slice_get program.inputs) e ∙ h (suc k)) in
    let here : slice_get program.inputs n ≡ Some i = (let e : n ≡ n + 0 = omega arith in ap (slice_get program.inputs) e ∙ h 0) in
    by-test (is_drain_input i) refl here (inputs-from program (m + 1) (n + 1) is next) (inputs-from program m (n + 1) is next)
  where
    by-test : (t : Bool) → is_drain_input i ≡ t → slice_get program.inputs n ≡ Some i → AreDrainUses program (m + 1) (input_uses (n + 1) is) → AreDrainUses program m (input_uses (n + 1) is) → AreDrainUses program m (if t then record { from = drain.Input n; after = 0 } ∷ input_uses (n + 1) is else input_uses (n + 1) is)
    by-test true e here more rest = (
      record {
        from = (there-input program Grid n i here (grid-role i.role (both-left (is_grid_role i.role) (is_kind Ldd i.kind) e)), ap (option_map (λ (x : InputUse). x.kind)) here ∙ ap Some (sym (same_kind Ldd i.kind (both-right (is_grid_role i.role) (is_kind Ldd i.kind) e))), refl);
        within = omega arith;
      },
      more,
    )
    by-test false e here more rest = rest

-- those of all inputs
pub inputs-uses : (program : Program) (inputs : List InputUse) → program.inputs ≡ inputs → AreDrainUses program 0 (input_uses 0 inputs)
inputs-uses program inputs h = inputs-from program 0 0 inputs (λ k. (let e : 0 + k ≡ k = omega arith in ap (slice_get program.inputs) e ∙ ap (λ is. slice_get is k) h))

-- they are computed before any operation
pub uses-due : (n : ℕ) (inputs : List InputUse) → AllDue 0 (input_uses n inputs)
uses-due n [] = tt
uses-due n (x ∷ inputs) = by-test (is_drain_input x) (uses-due (n + 1) inputs)
  where
    by-test : (b : Bool) → AllDue 0 (input_uses (n + 1) inputs) → AllDue 0 (if b then record { from = drain.Input n; after = 0 } ∷ input_uses (n + 1) inputs else input_uses (n + 1) inputs)
    by-test true h = (omega arith, h)
    by-test false h = h
