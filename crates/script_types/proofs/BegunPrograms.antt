-- That a program begins with what was written of its sections: what names and the drain maps of inputs have at the start of each.
use Rattle.std.proofs.Common.{◌≡◌, ◌<◌, ◌≤◌, ℕ, zero, suc, ◌+◌, ◌-◌, Bool, true, false, List, [], ◌∷◌, ◌++◌, length, refl, sym, ap, subst, ◌∙◌, arith, append_assoc, append-nil, if◌then◌else◌}
use Rattle.std.specs.Prelude.{IfSome, None, Option, Some, option_map, slice_get, ⊤}
use Rattle.std.specs.Option.{unwrap_or}
use Rattle.std.specs.Str.{bytes_eq}
use Rattle.std.proofs.lemmas.List.{length-append}
use Rattle.std.proofs.lemmas.Option.{slice_get_within}
use Rattle.std.proofs.lemmas.Slice.Eq.{bytes_eq-Decides}
use Rattle.cell_values.specs.declared.kind.Kind.{Kind}
use Rattle.cell_values.specs.declared.kind.Kind.TheVariants.{Ldd}
use Rattle.map_meaning.specs.declared.program.DrainFrom.TheVariants as drain
use Rattle.map_meaning.specs.declared.program.DrainUse.{DrainUse}
use Rattle.map_meaning.specs.declared.program.Operand.{Operand}
use Rattle.map_meaning.specs.declared.program.Operand.TheVariants as from
use Rattle.map_meaning.specs.declared.program.Operation.{Operation}
use Rattle.map_meaning.specs.declared.program.Program.{Program}
use Rattle.map_meaning.specs.declared.program.Role.TheVariants.{Grid}
use Rattle.map_meaning.specs.Programs.{operation_kind}
use Rattle.map_meaning.specs.Table.{is_kind}
use Rattle.script_types.specs.declared.typed.Line.{Line}
use Rattle.script_types.specs.declared.typed.Section.TheVariants.{Initial, Dynamic}
use Rattle.script_types.specs.Statements.{kind_above, operations_of}
use Rattle.script_types.specs.Typing.{or_kind}
use Rattle.script_types.specs.inside.Drains.{drain_number, input_uses}
use Rattle.script_types.specs.inside.FitLines.{Frame, LineFits, LinesFit, ground_at, readable}
use Rattle.script_types.specs.inside.Fits.{is_input_of}
use Rattle.script_types.specs.inside.Programs.{nothing_held}
use Rattle.script_types.specs.inside.Sections.{Around, Holder, IsOperandOf}
use Rattle.script_types.specs.inside.Written.{SectionBegins, HasLastKind, HaveValues, IsMade, carried_or, drains_with, gives_name, held_before, held_below, last_number, last_operand, line_operand}
use Rattle.script_types.proofs.DrainInputs.{drain-below, drain-there, uses-due}
use Rattle.script_types.proofs.InputForms.{at-some}
use Rattle.script_types.proofs.Steps.{above-push}

-- ---- kinds stay

-- a name that may be read above a statement may be read below it, as the same kind
stays-one : (frame : Frame) (above : List Line) (l : Line) (name : List ℕ) (kind : Kind) → LineFits frame above l → readable frame.sampled above name ≡ Some kind → readable frame.sampled (above ++ l ∷ []) name ≡ Some kind
stays-one frame above l name kind fit r = ap (λ o. if frame.sampled name then None else o) (above-push above l name) ∙ by-test (frame.sampled name) (bytes_eq name l.statement.target) refl r
  where
    agreed : (o : Option Kind) → IfSome o (λ k. k ≡ l.kind) → o ≡ Some kind → l.kind ≡ kind
    agreed None h e = absurd (let z = e in cc)
    agreed (Some k) h e = let z : k ≡ kind = cc in sym h ∙ z

    by-test : (b t : Bool) → bytes_eq name l.statement.target ≡ t → (if b then None else kind_above above name) ≡ Some kind → (if b then None else (if t then Some l.kind else kind_above above name)) ≡ Some kind
    by-test true t e h = absurd (let z = h in cc)
    by-test false true e h = let same : name ≡ l.statement.target = (bytes_eq-Decides name l.statement.target).0 e in ap Some (agreed (kind_above above l.statement.target) fit.agrees (ap (kind_above above) (sym same) ∙ h))
    by-test false false e h = h

pub stays : (frame : Frame) (above ls : List Line) (name : List ℕ) (kind : Kind) → LinesFit frame above ls → readable frame.sampled above name ≡ Some kind → readable frame.sampled (above ++ ls) name ≡ Some kind
stays frame above [] name kind fit r = ap (λ a. readable frame.sampled a name) (append-nil above) ∙ r
stays frame above (l ∷ ls) name kind fit r = ap (λ a. readable frame.sampled a name) (sym (append_assoc above (l ∷ []) ls)) ∙ stays frame (above ++ l ∷ []) ls name kind fit.1 (stays-one frame above l name kind fit.0 r)

-- no name may be read above all statements
pub none-above : (frame : Frame) (name : List ℕ) (kind : Kind) → readable frame.sampled [] name ≡ Some kind → ⊥
none-above frame name kind = by-test (frame.sampled name)
  where
    by-test : (b : Bool) → (if b then None else None) ≡ Some kind → ⊥
    by-test true h = absurd (let z = h in cc)
    by-test false h = absurd (let z = h in cc)

-- ---- the last operation and the last operand of a name

-- where a name has a last operation, it has this operand, or a drain map
abbrev pub ArePaired : Option ℕ → Option Operand → Type 0
ArePaired None None = ⊤
ArePaired (Some d) (Some (from.Drain n)) = ⊤
ArePaired (Some d) (Some x) = x ≡ from.Now d
ArePaired _ _ = ⊥

pair-more : (p : Option ℕ) (q : Option Operand) (t : Bool) (n : ℕ) (x : Operand) → ArePaired p q → ArePaired (Some n) (Some x) → ArePaired (or_kind p (if t then Some n else None)) (or_kind q (if t then Some x else None))
pair-more None None true n x h k = k
pair-more None None false n x h k = tt
pair-more None (Some y) t n x h k = absurd h
pair-more (Some d) None t n x h k = absurd h
pair-more (Some d) (Some y) t n x h k = h

pub are-paired : (before m : ℕ) (ls : List Line) (name : List ℕ) → ArePaired (last_number before ls name) (last_operand Dynamic before m ls name)
are-paired before m [] name = tt
are-paired before m (l ∷ ls) name =
    pair-more (last_number (before + operations_of l.statement.value) ls name) (last_operand Dynamic (before + operations_of l.statement.value) (drains_with m l) ls name) (gives_name l name) (before + operations_of l.statement.value - 1) (line_operand Dynamic before m l)
    (are-paired (before + operations_of l.statement.value) (drains_with m l) ls name) (by-kind (is_kind Ldd l.kind))
  where
    by-kind : (t : Bool) → ArePaired (Some (before + operations_of l.statement.value - 1)) (Some (if t then from.Drain m else from.Now (before + operations_of l.statement.value - 1)))
    by-kind true = tt
    by-kind false = refl

-- a name that is no drain map has its last operation's map
now-made : (ops : List Operation) (m : ℕ) (kind : Kind) (d : ℕ) (x : Operand) → is_kind Ldd kind ≡ false → IsMade Dynamic ops m kind x → ArePaired (Some d) (Some x) → (d < length ops) × (operation_kind ops d ≡ Some kind)
now-made ops m kind d from.Unused hk h p = absurd h
now-made ops m kind d (from.Literal k cell) hk h p = absurd h
now-made ops m kind d from.Time hk h p = absurd h
now-made ops m kind d (from.Input n) hk h p = absurd h
now-made ops m kind d (from.Stack n) hk h p = absurd h
now-made ops m kind d (from.Initial n) hk h p = absurd h
now-made ops m kind d (from.Now n) hk h p = let e : n ≡ d = cc in (subst (λ k. k < length ops) e h.0, ap (operation_kind ops) (sym e) ∙ h.1)
now-made ops m kind d (from.Last k n) hk h p = absurd h
now-made ops m kind d (from.Drain n) hk h p = absurd (let e = sym (ap (is_kind Ldd) h.1) ∙ hk in let z : true ≡ false = e in cc)

-- ---- the start of a section

get-front : {A : Type 0} (xs ys : List A) (n : ℕ) (x : A) → slice_get xs n ≡ Some x → slice_get (xs ++ ys) n ≡ Some x
get-front [] ys n x h = absurd (let z = h in cc)
get-front (y ∷ xs) ys zero x h = h
get-front (y ∷ xs) ys (suc n) x h = get-front xs ys n x h

module _ (frame : Frame) (first later : List Line) (fit : LinesFit frame first later) (program : Program) (inputs-are : program.inputs ≡ frame.inputs) (made more : List DrainUse) (drains-are : program.drains ≡ (input_uses 0 frame.inputs ++ made) ++ more) (xs ys : List Operand) (v : HaveValues frame [] Initial nothing_held (input_uses 0 frame.inputs) 1 program.initial made first xs) (w : HaveValues frame first Dynamic (held_before (held_below Initial (length (input_uses 0 frame.inputs)) nothing_held first) later) (input_uses 0 frame.inputs ++ made) (length first + 1) program.dynamic more later ys) where
  -- the drain maps of inputs
  abbrev uses : List DrainUse
  uses = input_uses 0 frame.inputs

  -- the operands at the end of `initial`, and at the start of a step
  abbrev ends : Holder
  ends = held_below Initial (length uses) nothing_held first

  abbrev starts : Holder
  starts = held_before ends later

  -- the drain map of an input is one of the program
  drain-is : (k : ℕ) → is_input_of frame.inputs Grid Ldd k ≡ true → slice_get program.drains (drain_number frame.inputs k) ≡ Some (record { from = drain.Input k; after = 0 })
  drain-is k h = let n = drain_number frame.inputs k in ap (λ ds. slice_get ds n) drains-are ∙ get-front (uses ++ made) more n _ (get-front uses made n _ (drain-there frame.inputs k h))

  kind-at : (ds : List DrainUse) (n : ℕ) → n < length ds → option_map (λ (d : DrainUse). Ldd) (slice_get ds n) ≡ Some Ldd
  kind-at [] n h = absurd (omega (arith, h))
  kind-at (d ∷ ds) zero h = refl
  kind-at (d ∷ ds) (suc n) h = kind-at ds n (omega (arith, h))

  all-drains : length program.drains ≡ length (uses ++ made) + length more
  all-drains = ap length drains-are ∙ length-append (uses ++ made) more

  around-initial : Around Initial (ground_at frame Initial []) nothing_held 0 program
  around-initial = record {
    drains = length uses;
    inputs = inputs-are;
    steps = refl;
    held = λ name kind r. absurd (none-above frame name kind r);
    drained = λ k h. record {
      kind_is = ap (option_map (λ (d : DrainUse). Ldd)) (drain-is k h);
      given = record {
        read = record { within = slice_get_within program.drains (drain_number frame.inputs k) _ (drain-is k h); after = at-some (slice_get program.drains (drain_number frame.inputs k)) (λ d. d.after ≤ 0) _ (drain-is k h) (omega arith) };
        used = refl;
      };
      drain = drain-below frame.inputs k h;
    };
  }

  -- a drain map that `initial` made
  drain-held : (kind : Kind) (n : ℕ) → n < length uses + length made → kind ≡ Ldd → IsOperandOf program Dynamic 0 (length (uses ++ made)) kind (from.Drain n)
  drain-held kind n h e =
      let all = all-drains in
      let both = length-append uses made in
      let there : n < length program.drains = omega (arith, h, all, both) in
      record { kind_is = kind-at program.drains n there ∙ ap Some (sym e); given = record { read = there; used = refl }; drain = omega (arith, h, both) }

  start-held : (name : List ℕ) (kind : Kind) (o : Option Operand) (p : Option ℕ) (q : Option Operand) → HasLastKind (readable frame.sampled []) Initial program.initial (length uses + length made) name kind o → HasLastKind (readable frame.sampled first) Dynamic program.dynamic (length (uses ++ made) + length more) name kind q → ArePaired p q → IsOperandOf program Dynamic 0 (length (uses ++ made)) kind (carried_or p (unwrap_or o (nothing_held name)))
  start-held name kind None p q h k e = absurd (none-above frame name kind h)
  start-held name kind (Some from.Unused) p q h k e = absurd h
  start-held name kind (Some (from.Literal j cell)) p q h k e = absurd h
  start-held name kind (Some from.Time) p q h k e = absurd h
  start-held name kind (Some (from.Input i)) p q h k e = absurd h
  start-held name kind (Some (from.Stack i)) p q h k e = absurd h
  start-held name kind (Some (from.Now i)) p q h k e = absurd h
  start-held name kind (Some (from.Last d i)) p q h k e = absurd h
  start-held name kind (Some (from.Drain i)) None q h k e = drain-held kind i h.0 h.1
  start-held name kind (Some (from.Drain i)) (Some d) q h k e = drain-held kind i h.0 h.1
  start-held name kind (Some (from.Initial i)) None q h k e = record { kind_is = h.1; given = record { read = h.0; used = refl }; drain = h.2 }
  start-held name kind (Some (from.Initial i)) (Some d) None h k e = absurd e
  start-held name kind (Some (from.Initial i)) (Some d) (Some x) h k e =
      let n = now-made program.dynamic (length (uses ++ made) + length more) kind d x h.2 k e in
      record { kind_is = n.1; given = record { read = record { of_dynamic = n.0; of_initial = h.0; kind = n.1 ∙ sym h.1 }; used = refl }; drain = h.2 }

  -- which operand has the map of a name that may be read at the start of a step, at its end
  pub later-last : (name : List ℕ) (kind : Kind) → readable frame.sampled first name ≡ Some kind → HasLastKind (readable frame.sampled first) Dynamic program.dynamic (length (uses ++ made) + length more) name kind (last_operand Dynamic 0 (length (uses ++ made)) later name)
  later-last name kind r = w.last name kind (stays frame first later name kind fit r)

  around-dynamic : Around Dynamic (ground_at frame Dynamic first) starts 0 program
  around-dynamic = record {
    drains = length (uses ++ made);
    inputs = inputs-are;
    steps = refl;
    held = λ name kind r. start-held name kind (last_operand Initial 0 (length uses) first name) (last_number 0 later name) (last_operand Dynamic 0 (length (uses ++ made)) later name) (v.last name kind r) (later-last name kind r) (are-paired 0 (length (uses ++ made)) later name);
    drained = λ k h. drain-held Ldd (drain_number frame.inputs k) (let b = drain-below frame.inputs k h in omega (arith, b)) refl;
  }

  -- the program begins with what was written of `initial`
  pub begins-initial : SectionBegins Initial (ground_at frame Initial []) nothing_held uses made program.initial program
  unfolding around-initial
  begins-initial = record { around = around-initial; count = refl; begun = record { more = []; is = sym (append-nil program.initial) }; due = uses-due 0 frame.inputs; more_drains = more; drains_are = drains-are }

  -- and each of its steps with what was written of `dynamic`
  pub begins-dynamic : SectionBegins Dynamic (ground_at frame Dynamic first) starts (uses ++ made) more program.dynamic program
  unfolding around-dynamic
  begins-dynamic = record { around = around-dynamic; count = refl; begun = record { more = []; is = sym (append-nil program.dynamic) }; due = tt; more_drains = []; drains_are = drains-are ∙ sym (append-nil ((uses ++ made) ++ more)) }
