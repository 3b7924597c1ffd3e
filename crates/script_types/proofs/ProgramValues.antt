-- That the program of both sections has the values of a script's statements, step by step.
use Rattle.std.proofs.Common.{◌≡◌, ℕ, zero, suc, ◌+◌, ◌-◌, ◌==◌, ◌&&◌, Bool, true, false, not, List, [], ◌∷◌, ◌++◌, length, map, filter, refl, sym, ap, subst, ◌∙◌, Ok, Err, Result, arith, append_assoc, append-nil, if◌then◌else◌}
use Rattle.std.specs.Prelude.{None, Option, Some, option_map, slice_get}
use Rattle.std.specs.Option.{unwrap_or}
use Rattle.std.proofs.lemmas.List.{length-append, length-map}
use Rattle.std.proofs.lemmas.Option.{get_or_from_slice_get, slice_get-map}
use Rattle.text_base.specs.Results.{◌>>=◌}
use Rattle.cell_values.specs.declared.kind.Kind.{Kind}
use Rattle.cell_values.specs.declared.kind.Kind.TheVariants.{Ldd}
use Rattle.script_syntax.specs.declared.tree.Script.{Script}
use Rattle.map_meaning.specs.declared.known.OverAt.{OverAt}
use Rattle.map_meaning.specs.declared.known.Span.{Span}
use Rattle.map_meaning.specs.declared.program.DrainFrom.TheVariants as drain
use Rattle.map_meaning.specs.declared.program.DrainUse.{DrainUse}
use Rattle.map_meaning.specs.declared.program.InputUse.{InputUse}
use Rattle.map_meaning.specs.declared.program.Operand.{Operand}
use Rattle.map_meaning.specs.declared.program.Operand.TheVariants as from
use Rattle.map_meaning.specs.declared.program.Operation.{Operation}
use Rattle.map_meaning.specs.declared.program.OutputUse.{OutputUse}
use Rattle.map_meaning.specs.declared.program.Program.{Program}
use Rattle.map_meaning.specs.declared.program.Role.TheVariants.{Grid}
use Rattle.map_meaning.specs.Evaluation.{Done, drain_codes, nothing_done, operand_map, staged_values, operation_values}
use Rattle.map_meaning.specs.Maps.{WholeMap, nth}
use Rattle.map_meaning.specs.Programs.{is_grid_role, is_initial_grid}
use Rattle.map_meaning.specs.Scenes.{Scene}
use Rattle.map_meaning.specs.Sections.{After, section_value}
use Rattle.map_meaning.specs.Spans.{done_next, step_span, whole_span}
use Rattle.map_meaning.specs.Table.{is_kind}
use Rattle.script_types.specs.declared.typed.Line.{Line}
use Rattle.script_types.specs.declared.typed.Section.{Section}
use Rattle.script_types.specs.declared.typed.Section.TheVariants.{Initial, Dynamic}
use Rattle.script_types.specs.Lowered.{ShownDrain, as_shown_drain, form_by, inputs_of, is_drain_input, lines_in, statement_drains, statements_of}
use Rattle.script_types.specs.Names.{binding_of}
use Rattle.script_types.specs.Reports.{Bound}
use Rattle.script_types.specs.Statements.{operations_of}
use Rattle.script_types.specs.Typing.{or_kind}
use Rattle.script_types.specs.Values.{AreInOrder, HasValues, KeepDrains, Scenes, after_steps, done_steps, input_codes, is_output_of, no_names, program_codes, program_reports, reported, script_codes, script_reports, section_at, statement_codes, written}
use Rattle.script_types.specs.inside.Drains.{drain_number, input_uses}
use Rattle.script_types.specs.inside.FitLines.{Frame, LineFits, LinesFit, ground_at, readable}
use Rattle.script_types.specs.inside.Fits.{is_input_of}
use Rattle.script_types.specs.inside.Programs.{nothing_held}
use Rattle.script_types.specs.inside.Sections.{Holder, HoldsMaps}
use Rattle.script_types.specs.inside.Sound.{are_sound}
use Rattle.script_types.specs.inside.Written.{Agree, AreIn, HasLastKind, HaveValues, carried_or, drains_with, gives_name, held_before, held_below, last_number, last_operand, line_operand, output_with, outputs_with}
use Rattle.script_types.proofs.BegunPrograms.{begins-dynamic, begins-initial, none-above, stays}
use Rattle.script_types.proofs.DrainInputs.{drain-there}
use Rattle.script_types.proofs.FitLemmas.{has-input}
use Rattle.script_types.proofs.KeptPrograms.{IsKeptAs, codes-same, reports-same}
use Rattle.script_types.proofs.Outputs.{SamplesFit, dynamic-form, initial-form, samples-fit}
use Rattle.script_types.proofs.Pairwise.{Each, each-append}

-- ---- the drain maps of inputs

-- what a drain map of an input comes from
abbrev code-of : Scene → DrainUse → WholeMap
code-of scene d = drain_codes scene nothing_done d.from

-- the codes of the drain maps of inputs, one for each
codes-mapped : (scene : Scene) (n : ℕ) (inputs : List InputUse) → input_codes n inputs scene ≡ map (code-of scene) (input_uses n inputs)
codes-mapped scene n [] = refl
codes-mapped scene n (i ∷ is) = by-test (is_drain_input i) (codes-mapped scene (n + 1) is)
  where
    by-test : (t : Bool) → input_codes (n + 1) is scene ≡ map (code-of scene) (input_uses (n + 1) is) → (if t then nth scene.inputs n ∷ input_codes (n + 1) is scene else input_codes (n + 1) is scene) ≡ map (code-of scene) (if t then record { from = drain.Input n; after = 0 } ∷ input_uses (n + 1) is else input_uses (n + 1) is)
    by-test true h = ap (λ rest. nth scene.inputs n ∷ rest) h
    by-test false h = h

codes-many : (scene : Scene) (inputs : List InputUse) → length (input_codes 0 inputs scene) ≡ length (input_uses 0 inputs)
codes-many scene inputs = ap length (codes-mapped scene 0 inputs) ∙ length-map (input_uses 0 inputs) (code-of scene)

-- an input that is a drain map has the codes of its number
codes-at : (scene : Scene) (inputs : List InputUse) (k : ℕ) → is_input_of inputs Grid Ldd k ≡ true → nth scene.inputs k ≡ nth (input_codes 0 inputs scene) (drain_number inputs k)
codes-at scene inputs k h =
    let n = drain_number inputs k in
    let there : slice_get (map (code-of scene) (input_uses 0 inputs)) n ≡ Some (nth scene.inputs k) = slice_get-map (code-of scene) (input_uses 0 inputs) n ∙ ap (option_map (code-of scene)) (drain-there inputs k h) in
    let at : nth (map (code-of scene) (input_uses 0 inputs)) n ≡ nth scene.inputs k = get_or_from_slice_get (map (code-of scene) (input_uses 0 inputs)) n (nth scene.inputs k) [] there in
    sym (ap (λ ms. nth ms n) (codes-mapped scene 0 inputs) ∙ at)

-- only these codes are there
abbrev only-drains : List WholeMap → Done
only-drains codes = record { initial = []; dynamic = []; last = []; drains = codes }

-- the drain maps of inputs are computed before any operation
staged-inputs : (program : Program) (scene : Scene) (s : Span) (codes : List WholeMap) (n : ℕ) (inputs : List InputUse) (ds : List DrainUse) (ops : List Operation) → staged_values program scene s (only-drains codes) (input_uses n inputs ++ ds) ops ≡ staged_values program scene s (only-drains (codes ++ input_codes n inputs scene)) ds ops
staged-inputs program scene s codes n [] ds ops = ap (λ cs. staged_values program scene s (only-drains cs) ds ops) (sym (append-nil codes))
staged-inputs program scene s codes n (i ∷ is) ds ops = by-test (is_drain_input i) (staged-inputs program scene s codes (n + 1) is ds ops) (staged-inputs program scene s (codes ++ nth scene.inputs n ∷ []) (n + 1) is ds ops)
  where
    by-test : (t : Bool) →
        staged_values program scene s (only-drains codes) (input_uses (n + 1) is ++ ds) ops ≡ staged_values program scene s (only-drains (codes ++ input_codes (n + 1) is scene)) ds ops →
        staged_values program scene s (only-drains (codes ++ nth scene.inputs n ∷ [])) (input_uses (n + 1) is ++ ds) ops ≡ staged_values program scene s (only-drains ((codes ++ nth scene.inputs n ∷ []) ++ input_codes (n + 1) is scene)) ds ops →
        staged_values program scene s (only-drains codes) ((if t then record { from = drain.Input n; after = 0 } ∷ input_uses (n + 1) is else input_uses (n + 1) is) ++ ds) ops ≡ staged_values program scene s (only-drains (codes ++ (if t then nth scene.inputs n ∷ input_codes (n + 1) is scene else input_codes (n + 1) is scene))) ds ops
    by-test true a b = b ∙ ap (λ cs. staged_values program scene s (only-drains cs) ds ops) (append_assoc codes (nth scene.inputs n ∷ []) (input_codes (n + 1) is scene))
    by-test false a b = a

-- an input that is a drain map has the same map at each step
kept-at : (inputs : List InputUse) (scenes : Scenes) → KeepDrains inputs scenes → (n k : ℕ) → is_input_of inputs Grid Ldd k ≡ true → nth (scenes (suc n)).inputs k ≡ nth (scenes n).inputs k
kept-at inputs scenes keep n k h =
    let i = has-input inputs Grid Ldd k h in
    let is : is_drain_input i.input ≡ true = ap (λ r. is_grid_role r && is_kind Ldd i.input.kind) i.role_is ∙ ap (λ k. is_kind Ldd k) i.kind_is in
    keep (suc n) k i.input i.there is ∙ sym (keep n k i.input i.there is)

-- ---- the drain maps of statements

-- `dynamic` gives no drain map
no-drain : (frame : Frame) (above : List Line) (l : Line) → LineFits frame above l → l.section ≡ Dynamic → is_kind Ldd l.kind ≡ false
no-drain frame above l fit inside = by-test (is_kind Ldd l.kind) refl
  where
    by-test : (t : Bool) → is_kind Ldd l.kind ≡ t → t ≡ false
    by-test false e = refl
    by-test true e = absurd (let z : Dynamic ≡ Initial = sym inside ∙ (fit.drain e).0 in cc)

no-codes : (frame : Frame) (above ls : List Line) (ms : List WholeMap) → LinesFit frame above ls → AreIn Dynamic ls → statement_codes ls ms ≡ []
no-codes frame above [] ms fit inside = refl
no-codes frame above (l ∷ ls) [] fit inside = refl
no-codes frame above (l ∷ ls) (m ∷ ms) fit inside = ap (λ t. if t then m ∷ statement_codes ls ms else statement_codes ls ms) (no-drain frame above l fit.0 inside.0) ∙ no-codes frame (above ++ l ∷ []) ls ms fit.1 inside.1

-- there are as many codes as drain maps
codes-counted : (before : ℕ) (ls : List Line) (ms : List WholeMap) → length ms ≡ length ls → length (statement_codes ls ms) ≡ length (statement_drains before ls)
codes-counted before [] ms h = refl
codes-counted before (l ∷ ls) [] h = absurd (omega (arith, h))
codes-counted before (l ∷ ls) (m ∷ ms) h = by-test (is_kind Ldd l.kind) _ (codes-counted (before + operations_of l.statement.value) ls ms (omega (arith, h)))
  where
    by-test : (t : Bool) (d : ShownDrain) → length (statement_codes ls ms) ≡ length (statement_drains (before + operations_of l.statement.value) ls) → length (if t then m ∷ statement_codes ls ms else statement_codes ls ms) ≡ length (if t then d ∷ statement_drains (before + operations_of l.statement.value) ls else statement_drains (before + operations_of l.statement.value) ls)
    by-test true d e = ap suc e
    by-test false d e = e

or-map : (p : Option ℕ) (q : Option Operand) (t : Bool) (n : ℕ) (x : Operand) → q ≡ option_map from.Now p → x ≡ from.Now n → or_kind q (if t then Some x else None) ≡ option_map from.Now (or_kind p (if t then Some n else None))
or-map None q true n x h e = ap (λ o. or_kind o (Some x)) h ∙ ap Some e
or-map None q false n x h e = ap (λ o. or_kind o None) h
or-map (Some d) q t n x h e = ap (λ o. or_kind o (if t then Some x else None)) h

-- in `dynamic` the last operand of a name is its last operation
numbers-are : (frame : Frame) (above ls : List Line) (before m : ℕ) (name : List ℕ) → LinesFit frame above ls → AreIn Dynamic ls → last_operand Dynamic before m ls name ≡ option_map from.Now (last_number before ls name)
numbers-are frame above [] before m name fit inside = refl
numbers-are frame above (l ∷ ls) before m name fit inside =
    let b = before + operations_of l.statement.value in
    or-map (last_number b ls name) (last_operand Dynamic b (drains_with m l) ls name) (gives_name l name) (b - 1) (line_operand Dynamic before m l)
    (numbers-are frame (above ++ l ∷ []) ls b (drains_with m l) name fit.1 inside.1)
    (ap (λ t. if t then from.Drain m else from.Now (b - 1)) (no-drain frame above l fit.0 inside.0))

-- ---- outputs

filter-all : {A : Type 0} (p : A → Bool) (xs : List A) → Each (λ x. p x ≡ true) xs → filter p xs ≡ xs
filter-all p [] h = refl
filter-all p (x ∷ xs) h = ap (λ b. if b then x ∷ filter p xs else filter p xs) h.0 ∙ ap (λ ys. x ∷ ys) (filter-all p xs h.1)

filter-none : {A : Type 0} (p : A → Bool) (xs : List A) → Each (λ x. p x ≡ false) xs → filter p xs ≡ []
filter-none p [] h = refl
filter-none p (x ∷ xs) h = ap (λ b. if b then x ∷ filter p xs else filter p xs) h.0 ∙ filter-none p xs h.1

filter-both : {A : Type 0} (p : A → Bool) (xs ys : List A) → filter p (xs ++ ys) ≡ filter p xs ++ filter p ys
filter-both p [] ys = refl
filter-both p (x ∷ xs) ys = by-test (p x) (filter-both p xs ys)
  where
    by-test : (b : Bool) → filter p (xs ++ ys) ≡ filter p xs ++ filter p ys → (if b then x ∷ filter p (xs ++ ys) else filter p (xs ++ ys)) ≡ (if b then x ∷ filter p xs else filter p xs) ++ filter p ys
    by-test true e = ap (λ zs. x ∷ zs) e
    by-test false e = e

-- the outputs of statements with a form that passes a test
pub forms-pass : (p : OutputUse → Bool) (b : Bool) (bound : Bound) (first : ℕ) (ls : List Line) (xs : List Operand) → ((u : OutputUse) (l : Line) → u.kind ≡ form_by l.section l.sample → is_initial_grid (form_by l.section l.sample) ≡ b → p u ≡ true) → Each (λ l. is_initial_grid (form_by l.section l.sample) ≡ b) ls → Each (λ u. p u ≡ true) (outputs_with bound first ls xs)
forms-pass p b bound first [] xs hp h = tt
forms-pass p b bound first (l ∷ ls) [] hp h = tt
forms-pass p b bound first (l ∷ ls) (x ∷ xs) hp h = each-append (λ u. p u ≡ true) (output_with bound first l x) (outputs_with bound (first + 1) ls xs) (by-report l.report _ (hp _ l refl h.0)) (forms-pass p b bound (first + 1) ls xs hp h.1)
  where
    by-report : (t : Bool) (u : OutputUse) → p u ≡ true → Each (λ v. p v ≡ true) (if t then u ∷ [] else [])
    by-report true u e = (e, tt)
    by-report false u e = tt

not-true : (b : Bool) → not b ≡ true → b ≡ false
not-true false h = refl
not-true true h = cc

each-not : (p : OutputUse → Bool) (us : List OutputUse) → Each (λ u. not (p u) ≡ true) us → Each (λ u. p u ≡ false) us
each-not p [] h = tt
each-not p (u ∷ us) h = (not-true (p u) h.0, each-not p us h.1)

-- the outputs of a section are those of its statements
pub own-outputs : (section : Section) (us vs : List OutputUse) → Each (λ u. is_output_of Initial u ≡ true) us → Each (λ u. is_output_of Dynamic u ≡ true) vs → filter (is_output_of section) (us ++ vs) ≡ (elim section as (λ s. List OutputUse) [ Initial ↦ us | Dynamic ↦ vs ])
own-outputs Initial us vs hu hv = filter-both (is_output_of Initial) us vs ∙ ap (λ xs. xs ++ filter (is_output_of Initial) vs) (filter-all (is_output_of Initial) us hu) ∙ ap (λ xs. us ++ xs) (filter-none (is_output_of Initial) vs (each-not (is_output_of Initial) vs hv)) ∙ append-nil us
own-outputs Dynamic us vs hu hv = filter-both (is_output_of Dynamic) us vs ∙ ap (λ xs. xs ++ filter (is_output_of Dynamic) vs) (filter-none (is_output_of Dynamic) us (others us hu)) ∙ filter-all (is_output_of Dynamic) vs hv
  where
    others : (us : List OutputUse) → Each (λ u. is_output_of Initial u ≡ true) us → Each (λ u. is_output_of Dynamic u ≡ false) us
    others [] h = tt
    others (u ∷ us) h = (ap not h.0, others us h.1)

one-output : {A B : Type 0} (f : A → B) (report : Bool) (w : B) (o : A) (rest : List B) (os : List A) → w ≡ f o → rest ≡ map f os → (if report then w ∷ rest else rest) ≡ map f ((if report then o ∷ [] else []) ++ os)
one-output f true w o rest os hw hr = ap (λ x. x ∷ rest) hw ∙ ap (λ xs. f o ∷ xs) hr
one-output f false w o rest os hw hr = hr

-- what statements report is what their outputs write
pub reported-written : (scene : Scene) (done : Done) (bound : Bound) (first : ℕ) (ls : List Line) (xs : List Operand) → length xs ≡ length ls → reported bound ls (map (operand_map scene done) xs) ≡ map (written scene done) (outputs_with bound first ls xs)
reported-written scene done bound first [] xs h = refl
reported-written scene done bound first (l ∷ ls) [] h = refl
reported-written scene done bound first (l ∷ ls) (x ∷ xs) h = one-output (written scene done) l.report _ _ (reported bound ls (map (operand_map scene done) xs)) (outputs_with bound (first + 1) ls xs) refl (reported-written scene done bound (first + 1) ls xs (omega (arith, h)))

-- ---- both sections

-- what else is known of the statements of both sections
pub record AreKnown (frame : Frame) (first later : List Line) (made : List DrainUse) (xs ys : List Operand) : Type 0 where
  pub fit : LinesFit frame [] first
  pub inside : AreIn Initial first
  pub later_inside : AreIn Dynamic later
  pub sound : are_sound first ≡ true
  pub later_sound : are_sound later ≡ true
  pub shown : map as_shown_drain made ≡ statement_drains 0 first
  pub many : length xs ≡ length first
  pub later_many : length ys ≡ length later

module _ (frame : Frame) (first later : List Line) (fit : LinesFit frame first later) (program : Program) (inputs-are : program.inputs ≡ frame.inputs) (made more : List DrainUse) (drains-are : program.drains ≡ (input_uses 0 frame.inputs ++ made) ++ more) (xs ys : List Operand) (v : HaveValues frame [] Initial nothing_held (input_uses 0 frame.inputs) 1 program.initial made first xs) (w : HaveValues frame first Dynamic (held_before (held_below Initial (length (input_uses 0 frame.inputs)) nothing_held first) later) (input_uses 0 frame.inputs ++ made) (length first + 1) program.dynamic more later ys) (known : AreKnown frame first later made xs ys) where
  -- the drain maps of inputs
  abbrev uses : List DrainUse
  uses = input_uses 0 frame.inputs

  -- the operands at the end of `initial`, and at the start of a step
  abbrev ends : Holder
  ends = held_below Initial (length uses) nothing_held first

  abbrev starts : Holder
  starts = held_before ends later

  -- which operation of `dynamic` has the map of a name that may be read at the start of a step
  later-last : (name : List ℕ) (kind : Kind) → readable frame.sampled first name ≡ Some kind → HasLastKind (readable frame.sampled first) Dynamic program.dynamic (length (uses ++ made) + length more) name kind (option_map from.Now (last_number 0 later name))
  later-last name kind r = subst (HasLastKind (readable frame.sampled first) Dynamic program.dynamic (length (uses ++ made) + length more) name kind) (numbers-are frame first later 0 (length (uses ++ made)) name fit known.later_inside) (w.last name kind (stays frame first later name kind fit r))

  -- what a name has at the end of `initial` it has at step 1
  next-first : (scene after : Scene) (done : Done) (name : List ℕ) (kind : Kind) (o : Option Operand) (p : Option ℕ) → after.step ≡ 1 → HasLastKind (readable frame.sampled []) Initial program.initial (length uses + length made) name kind o → operand_map scene done (unwrap_or o (nothing_held name)) ≡ operand_map after (done_next done) (carried_or p (unwrap_or o (nothing_held name)))
  next-first scene after done name kind None p e h = absurd (none-above frame name kind h)
  next-first scene after done name kind (Some from.Unused) p e h = absurd h
  next-first scene after done name kind (Some (from.Literal j cell)) p e h = absurd h
  next-first scene after done name kind (Some from.Time) p e h = absurd h
  next-first scene after done name kind (Some (from.Input i)) p e h = absurd h
  next-first scene after done name kind (Some (from.Stack i)) p e h = absurd h
  next-first scene after done name kind (Some (from.Now i)) p e h = absurd h
  next-first scene after done name kind (Some (from.Last d i)) p e h = absurd h
  next-first scene after done name kind (Some (from.Drain i)) None e h = refl
  next-first scene after done name kind (Some (from.Drain i)) (Some d) e h = refl
  next-first scene after done name kind (Some (from.Initial i)) None e h = refl
  next-first scene after done name kind (Some (from.Initial i)) (Some d) e h = ap (λ b. if b then nth done.initial i else nth done.dynamic d) (sym (ap (λ k. k == 1) e))

  -- what a name has at the end of a step it has at the next
  next-step : (scene after : Scene) (done : Done) (name : List ℕ) (kind : Kind) (o : Option Operand) (p : Option ℕ) → (after.step == 1) ≡ false → HasLastKind (readable frame.sampled []) Initial program.initial (length uses + length made) name kind o → HasLastKind (readable frame.sampled first) Dynamic program.dynamic (length (uses ++ made) + length more) name kind (option_map from.Now p) → operand_map scene done (unwrap_or (option_map from.Now p) (carried_or p (unwrap_or o (nothing_held name)))) ≡ operand_map after (done_next done) (carried_or p (unwrap_or o (nothing_held name)))
  next-step scene after done name kind None p e h k = absurd (none-above frame name kind h)
  next-step scene after done name kind (Some from.Unused) p e h k = absurd h
  next-step scene after done name kind (Some (from.Literal j cell)) p e h k = absurd h
  next-step scene after done name kind (Some from.Time) p e h k = absurd h
  next-step scene after done name kind (Some (from.Input i)) p e h k = absurd h
  next-step scene after done name kind (Some (from.Stack i)) p e h k = absurd h
  next-step scene after done name kind (Some (from.Now i)) p e h k = absurd h
  next-step scene after done name kind (Some (from.Last d i)) p e h k = absurd h
  next-step scene after done name kind (Some (from.Drain i)) None e h k = refl
  next-step scene after done name kind (Some (from.Drain i)) (Some d) e h k = absurd (let z : true ≡ false = sym (ap (is_kind Ldd) h.1) ∙ k.2 in cc)
  next-step scene after done name kind (Some (from.Initial i)) None e h k = refl
  next-step scene after done name kind (Some (from.Initial i)) (Some d) e h k = ap (λ b. if b then nth done.initial i else nth done.dynamic d) (sym e)

  -- the operands of the statements of a section
  abbrev operands-at : ℕ → List Operand
  operands-at zero = xs
  operands-at (suc n) = ys

  -- A script and its program have the same maps behind a step, and names and inputs that are drain maps have theirs at the next, where
  -- all drain maps are computed, or they have the same Over.
  abbrev StepAgrees : Scenes → ℕ → Result After OverAt → Result Done OverAt → Type 0
  StepAgrees scenes n (Ok after) (Ok done) = HoldsMaps (ground_at frame Dynamic first) starts (scenes (suc n)) after.names (done_next done) × (after.maps ≡ map (operand_map (scenes n) done) (operands-at n)) × (length done.drains ≡ length (uses ++ made))
  StepAgrees scenes n (Err over) (Err other) = over ≡ other
  StepAgrees scenes n _ _ = ⊥

  -- ---- `initial`

  -- all drain maps of the program
  all-drains : program.drains ≡ uses ++ made
  all-drains = drains-are ∙ ap (λ ds. (uses ++ made) ++ ds) w.due ∙ append-nil (uses ++ made)

  -- what is done before the first operation
  abbrev begun : Scene → Done
  begun scene = only-drains (input_codes 0 frame.inputs scene)

  initial-runs : (scene : Scene) → staged_values program scene (whole_span program) nothing_done program.drains program.initial ≡ staged_values program scene (whole_span program) (begun scene) made program.initial
  initial-runs scene = ap (λ ds. staged_values program scene (whole_span program) nothing_done ds program.initial) all-drains ∙ staged-inputs program scene (whole_span program) [] 0 frame.inputs made program.initial

  initial-holds : (scene : Scene) → HoldsMaps (ground_at frame Initial []) nothing_held scene no_names (begun scene)
  initial-holds scene = record { named = λ name kind r. absurd (none-above frame name kind r); drained = λ k h. codes-at scene frame.inputs k h }

  initial-agrees : (scene : Scene) → Agree (ground_at frame Initial first) ends scene (input_codes 0 frame.inputs scene) first xs (section_value scene 1 no_names (statements_of first)) (staged_values program scene (whole_span program) nothing_done program.drains program.initial)
  initial-agrees scene = subst (Agree (ground_at frame Initial first) ends scene (input_codes 0 frame.inputs scene) first xs (section_value scene 1 no_names (statements_of first))) (sym (initial-runs scene))
      (v.agree known.sound program scene 0 no_names (begun scene) (begins-initial frame first later fit program inputs-are made more drains-are xs ys v w) refl (codes-many scene frame.inputs) (initial-holds scene))

  -- the drain maps of the program have the codes of those of the script
  codes-agree : (scene : Scene) (a : Result After OverAt) (b : Result Done OverAt) → Agree (ground_at frame Initial first) ends scene (input_codes 0 frame.inputs scene) first xs a b → (b >>= λ done. Ok done.drains) ≡ (a >>= λ after. Ok (input_codes 0 frame.inputs scene ++ statement_codes first after.maps))
  codes-agree scene (Ok after) (Ok done) h = ap Ok h.2
  codes-agree scene (Err over) (Err other) h = ap Err (sym h)
  codes-agree scene (Ok after) (Err other) h = absurd h
  codes-agree scene (Err over) (Ok done) h = absurd h

  -- and are all computed
  all-done : (scene : Scene) (after : After) (done : Done) → after.maps ≡ map (operand_map scene done) xs → done.drains ≡ input_codes 0 frame.inputs scene ++ statement_codes first after.maps → length done.drains ≡ length (uses ++ made)
  all-done scene after done hm hd =
      let maps = ap length hm ∙ length-map xs (operand_map scene done) ∙ known.many in
      let codes = codes-counted 0 first after.maps maps in
      let shown = sym (length-map made as_shown_drain) ∙ ap length known.shown in
      let inputs = codes-many scene frame.inputs in
      let all = ap length hd ∙ length-append (input_codes 0 frame.inputs scene) (statement_codes first after.maps) in
      let both = length-append uses made in
      omega (arith, codes, shown, inputs, all, both)

  first-agrees : (scenes : Scenes) → AreInOrder scenes → KeepDrains frame.inputs scenes → (a : Result After OverAt) (b : Result Done OverAt) → Agree (ground_at frame Initial first) ends (scenes 0) (input_codes 0 frame.inputs (scenes 0)) first xs a b → StepAgrees scenes 0 a b
  first-agrees scenes order keep (Ok after) (Ok done) h = (
    record {
      named = λ name kind r. h.0.named name kind r ∙ next-first (scenes 0) (scenes 1) done name kind (last_operand Initial 0 (length uses) first name) (last_number 0 later name) (order 1) (v.last name kind r);
      drained = λ k e. kept-at frame.inputs scenes keep 0 k e ∙ h.0.drained k e;
    },
    h.1,
    all-done (scenes 0) after done h.1 h.2,
  )
  first-agrees scenes order keep (Err over) (Err other) h = h
  first-agrees scenes order keep (Ok after) (Err other) h = h
  first-agrees scenes order keep (Err over) (Ok done) h = h

  -- ---- the steps

  past-one : (n : ℕ) → (suc (suc n) == 1) ≡ false
  past-one n = grind arith

  -- what a name has at the end of a step
  held-later : (name : List ℕ) → held_below Dynamic (length (uses ++ made)) starts later name ≡ unwrap_or (option_map from.Now (last_number 0 later name)) (starts name)
  held-later name = ap (λ o. unwrap_or o (starts name)) (numbers-are frame first later 0 (length (uses ++ made)) name fit known.later_inside)

  next-agrees : (scenes : Scenes) (n : ℕ) (codes : List WholeMap) → AreInOrder scenes → KeepDrains frame.inputs scenes → length codes ≡ length (uses ++ made) → (a : Result After OverAt) (b : Result Done OverAt) → Agree (ground_at frame Dynamic (first ++ later)) (held_below Dynamic (length (uses ++ made)) starts later) (scenes (suc n)) codes later ys a b → StepAgrees scenes (suc n) a b
  next-agrees scenes n codes order keep count (Ok after) (Ok done) h = (
    record {
      named = λ name kind r. h.0.named name kind (stays frame first later name kind fit r) ∙ ap (operand_map (scenes (suc n)) done) (held-later name) ∙ next-step (scenes (suc n)) (scenes (suc (suc n))) done name kind (last_operand Initial 0 (length uses) first name) (last_number 0 later name) (ap (λ k. k == 1) (order (suc (suc n))) ∙ past-one n) (v.last name kind r) (later-last name kind r);
      drained = λ k e. kept-at frame.inputs scenes keep (suc n) k e ∙ h.0.drained k e;
    },
    h.1,
    ap length (h.2 ∙ ap (λ cs. codes ++ cs) (no-codes frame first later after.maps fit known.later_inside) ∙ append-nil codes) ∙ count,
  )
  next-agrees scenes n codes order keep count (Err over) (Err other) h = h
  next-agrees scenes n codes order keep count (Ok after) (Err other) h = h
  next-agrees scenes n codes order keep count (Err over) (Ok done) h = h

  step-agrees : (scenes : Scenes) (n : ℕ) → AreInOrder scenes → KeepDrains frame.inputs scenes → (a : Result After OverAt) (b : Result Done OverAt) → StepAgrees scenes n a b → StepAgrees scenes (suc n) (a >>= λ before. section_value (scenes (suc n)) (length first + 1) before.names (statements_of later)) (b >>= λ done. operation_values program (scenes (suc n)) (step_span (suc n)) (done_next done) program.dynamic)
  step-agrees scenes n order keep (Ok after) (Ok done) h =
      let value = section_value (scenes (suc n)) (length first + 1) after.names (statements_of later) in
      let began = begins-dynamic frame first later fit program inputs-are made more drains-are xs ys v w in
      next-agrees scenes n done.drains order keep h.2 value (operation_values program (scenes (suc n)) (step_span (suc n)) (done_next done) program.dynamic)
      (subst (λ ds. Agree (ground_at frame Dynamic (first ++ later)) (held_below Dynamic (length (uses ++ made)) starts later) (scenes (suc n)) done.drains later ys value (staged_values program (scenes (suc n)) (step_span (suc n)) (done_next done) ds program.dynamic)) w.due
      (w.agree known.later_sound program (scenes (suc n)) (suc n) after.names (done_next done) began refl h.2 h.0))
  step-agrees scenes n order keep (Err over) (Err other) h = h
  step-agrees scenes n order keep (Ok after) (Err other) h = absurd h
  step-agrees scenes n order keep (Err over) (Ok done) h = absurd h

  pub all-agree : (lines : List Line) (scenes : Scenes) (n : ℕ) → lines_in Initial lines ≡ first → lines_in Dynamic lines ≡ later → AreInOrder scenes → KeepDrains frame.inputs scenes → StepAgrees scenes n (after_steps lines scenes n) (done_steps program scenes n)
  all-agree lines scenes zero hi hd order keep = subst (λ ls. StepAgrees scenes 0 (section_value (scenes 0) 1 no_names (statements_of ls)) (done_steps program scenes 0)) (sym hi) (first-agrees scenes order keep _ _ (initial-agrees (scenes 0)))
  all-agree lines scenes (suc n) hi hd order keep =
      subst (λ ls. StepAgrees scenes (suc n) (after_steps lines scenes n >>= λ before. section_value (scenes (suc n)) (length ls + 1) before.names (statements_of (lines_in Dynamic lines))) (done_steps program scenes (suc n))) (sym hi)
      (subst (λ ls. StepAgrees scenes (suc n) (after_steps lines scenes n >>= λ before. section_value (scenes (suc n)) (length first + 1) before.names (statements_of ls)) (done_steps program scenes (suc n))) (sym hd)
      (step-agrees scenes n order keep (after_steps lines scenes n) (done_steps program scenes n) (all-agree lines scenes n hi hd order keep)))

  -- what is written and what is reported at a step
  pub reports-agree : (bound : Bound) (lines : List Line) (scenes : Scenes) (n : ℕ) (a : Result After OverAt) (b : Result Done OverAt) (us : List OutputUse) → filter (is_output_of (section_at n)) program.outputs ≡ us → ((done : Done) → map (written (scenes n) done) us ≡ reported bound (lines_in (section_at n) lines) (map (operand_map (scenes n) done) (operands-at n))) → StepAgrees scenes n a b → (b >>= λ done. Ok (map (written (scenes n) done) (filter (is_output_of (section_at n)) program.outputs))) ≡ (a >>= λ after. Ok (reported bound (lines_in (section_at n) lines) after.maps))
  reports-agree bound lines scenes n (Ok after) (Ok done) us hu hw h = ap Ok (ap (map (written (scenes n) done)) hu ∙ hw done ∙ ap (reported bound (lines_in (section_at n) lines)) (sym h.1))
  reports-agree bound lines scenes n (Err over) (Err other) us hu hw h = ap Err (sym h)
  reports-agree bound lines scenes n (Ok after) (Err other) us hu hw h = absurd h
  reports-agree bound lines scenes n (Err over) (Ok done) us hu hw h = absurd h

  -- ---- the whole

  forms-of : (ls : List Line) → Each (SamplesFit frame) ls → AreIn Initial ls → Each (λ l. is_initial_grid (form_by l.section l.sample) ≡ true) ls
  forms-of [] f i = tt
  forms-of (l ∷ ls) f i = (initial-form frame l f.0 i.0, forms-of ls f.1 i.1)

  later-forms : (ls : List Line) → AreIn Dynamic ls → Each (λ l. is_initial_grid (form_by l.section l.sample) ≡ false) ls
  later-forms [] i = tt
  later-forms (l ∷ ls) i = (dynamic-form l i.0, later-forms ls i.1)

  -- the outputs of a section
  section-outputs : (bound : Bound) (section : Section) → program.outputs ≡ outputs_with bound 1 first xs ++ outputs_with bound (length first + 1) later ys → filter (is_output_of section) program.outputs ≡ (elim section as (λ s. List OutputUse) [ Initial ↦ outputs_with bound 1 first xs | Dynamic ↦ outputs_with bound (length first + 1) later ys ])
  section-outputs bound section h = ap (filter (is_output_of section)) h ∙ own-outputs section (outputs_with bound 1 first xs) (outputs_with bound (length first + 1) later ys)
      (forms-pass (is_output_of Initial) true bound 1 first xs (λ u l hk hf. ap is_initial_grid hk ∙ hf) (forms-of first (samples-fit frame [] first known.fit) known.inside))
      (forms-pass (is_output_of Dynamic) false bound (length first + 1) later ys (λ u l hk hf. ap not (ap is_initial_grid hk ∙ hf)) (later-forms later known.later_inside))

  -- what the program writes at a step is what the statements report
  same-reports : (script : Script) (lines : List Line) (scenes : Scenes) (n : ℕ) → lines_in Initial lines ≡ first → lines_in Dynamic lines ≡ later → program.outputs ≡ outputs_with (binding_of script) 1 first xs ++ outputs_with (binding_of script) (length first + 1) later ys → AreInOrder scenes → KeepDrains frame.inputs scenes → program_reports program scenes n ≡ script_reports script lines scenes n
  same-reports script lines scenes zero hi hd ho order keep =
      let bound = binding_of script in
      reports-agree bound lines scenes 0 (after_steps lines scenes 0) (done_steps program scenes 0) (outputs_with bound 1 first xs) (section-outputs bound Initial ho)
      (λ done. sym (ap (λ ls. reported bound ls (map (operand_map (scenes 0) done) xs)) hi ∙ reported-written (scenes 0) done bound 1 first xs known.many))
      (all-agree lines scenes 0 hi hd order keep)
  same-reports script lines scenes (suc n) hi hd ho order keep =
      let bound = binding_of script in
      reports-agree bound lines scenes (suc n) (after_steps lines scenes (suc n)) (done_steps program scenes (suc n)) (outputs_with bound (length first + 1) later ys) (section-outputs bound Dynamic ho)
      (λ done. sym (ap (λ ls. reported bound ls (map (operand_map (scenes (suc n)) done) ys)) hd ∙ reported-written (scenes (suc n)) done bound (length first + 1) later ys known.later_many))
      (all-agree lines scenes (suc n) hi hd order keep)

  -- and its drain maps are those of the script
  same-codes : (script : Script) (lines : List Line) (scene : Scene) → lines_in Initial lines ≡ first → frame.inputs ≡ inputs_of script → program_codes program scene ≡ script_codes script lines scene
  same-codes script lines scene hi hf =
      codes-agree scene _ _ (initial-agrees scene)
      ∙ ap (λ is. section_value scene 1 no_names (statements_of first) >>= λ after. Ok (input_codes 0 is scene ++ statement_codes first after.maps)) hf
      ∙ ap (λ ls. section_value scene 1 no_names (statements_of ls) >>= λ after. Ok (input_codes 0 (inputs_of script) scene ++ statement_codes ls after.maps)) (sym hi)

  -- the program has the values of the script's statements
  pub both-values : (script : Script) (lines : List Line) → lines_in Initial lines ≡ first → lines_in Dynamic lines ≡ later → frame.inputs ≡ inputs_of script → program.outputs ≡ outputs_with (binding_of script) 1 first xs ++ outputs_with (binding_of script) (length first + 1) later ys → HasValues script lines program
  both-values script lines hi hd hf ho = record {
    same = λ scenes order keep n. same-reports script lines scenes n hi hd ho order (subst (λ is. KeepDrains is scenes) (sym hf) keep);
    drains = λ scene. same-codes script lines scene hi hf;
  }

-- and so has one that keeps its operations elsewhere
pub kept-values : (script : Script) (lines : List Line) (p q : Program) → IsKeptAs p q → HasValues script lines q → HasValues script lines p
kept-values script lines p q same values = record {
  same = λ scenes order keep n. reports-same p q same scenes n ∙ values.same scenes order keep n;
  drains = λ scene. codes-same p q same scene ∙ values.drains scene;
}
