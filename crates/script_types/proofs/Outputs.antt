-- The outputs of settled statements: how they show themselves, and that each is one of the program.
use Rattle.std.proofs.Common.{◌≡◌, ◌<◌, ◌≤◌, ℕ, suc, ◌+◌, Bool, true, false, List, [], ◌∷◌, ◌++◌, length, map, refl, sym, ap, subst, ◌∙◌, if◌then◌else◌, arith}
use Rattle.std.specs.Prelude.{IfSome, None, Option, Some}
use Rattle.std.specs.Option.{is_some}
use Rattle.text_base.specs.Words.{is_file_word}
use Rattle.map_meaning.specs.declared.program.Operand.{Operand}
use Rattle.map_meaning.specs.declared.program.Operand.TheVariants as from
use Rattle.map_meaning.specs.declared.program.OutputUse.{OutputUse}
use Rattle.map_meaning.specs.declared.program.Program.{Program}
use Rattle.map_meaning.specs.Programs.{IsBelow, IsBelowNow, IsInitialValue, IsOutput, IsOutputValue, is_initial_grid}
use Rattle.script_types.specs.declared.typed.Line.{Line}
use Rattle.script_types.specs.declared.typed.Section.{Section}
use Rattle.script_types.specs.declared.typed.Section.TheVariants.{Initial, Dynamic}
use Rattle.script_types.specs.Lowered.{Shown, as_shown, form_by, output_of, outputs_from}
use Rattle.script_types.specs.Reports.{Bound, file_written}
use Rattle.script_types.specs.inside.FitLines.{Frame, LinesFit}
use Rattle.script_types.specs.inside.Fits.{is_ids}
use Rattle.script_types.specs.inside.Sections.{operations_within}
use Rattle.script_types.specs.inside.Written.{AreIn, AreValuesOf, IsOwn, IsValueOf, output_with, outputs_with}
use Rattle.script_types.proofs.FitLemmas.{has-ids}
use Rattle.script_types.proofs.InputForms.{ids-form}
use Rattle.script_types.proofs.KeptPrograms.{IsKeptAs, drain-count, dynamic-count, initial-count, now-same, operand-kind}
use Rattle.script_types.proofs.Pairwise.{Each, each-append}

-- ---- how they show themselves

one-shown : (report : Bool) (u : OutputUse) (s : Shown) (us : List OutputUse) (rest : List Shown) → as_shown u ≡ s → map as_shown us ≡ rest → map as_shown ((if report then u ∷ [] else []) ++ us) ≡ (if report then s ∷ [] else []) ++ rest
one-shown true u s us rest hu hr = ap (λ x. x ∷ map as_shown us) hu ∙ ap (λ xs. s ∷ xs) hr
one-shown false u s us rest hu hr = hr

-- outputs with operands are those of their statements
pub shown-with : (bound : Bound) (first : ℕ) (ls : List Line) (xs : List Operand) → length xs ≡ length ls → map as_shown (outputs_with bound first ls xs) ≡ outputs_from bound first ls
shown-with bound first [] xs h = refl
shown-with bound first (l ∷ ls) [] h = absurd (omega (arith, h))
shown-with bound first (l ∷ ls) (x ∷ xs) h = one-shown l.report _ _ (outputs_with bound (first + 1) ls xs) (outputs_from bound (first + 1) ls) refl (shown-with bound (first + 1) ls xs (omega (arith, h)))

-- those of two lists of statements
pub shown-both : (bound : Bound) (first : ℕ) (ls ms : List Line) → outputs_from bound first (ls ++ ms) ≡ outputs_from bound first ls ++ outputs_from bound (first + length ls) ms
shown-both bound first [] ms = let e : first ≡ first + 0 = omega arith in ap (λ n. outputs_from bound n ms) e
shown-both bound first (l ∷ ls) ms =
    let e : first + 1 + length ls ≡ first + length (l ∷ ls) = omega arith in
    ap (λ rest. output_of bound first l ++ rest) (shown-both bound (first + 1) ls ms ∙ ap (λ n. outputs_from bound (first + 1) ls ++ outputs_from bound n ms) e) ∙ by-report l.report _
  where
    by-report : (b : Bool) (s : Shown) → (if b then s ∷ [] else []) ++ (outputs_from bound (first + 1) ls ++ outputs_from bound (first + length (l ∷ ls)) ms) ≡ ((if b then s ∷ [] else []) ++ outputs_from bound (first + 1) ls) ++ outputs_from bound (first + length (l ∷ ls)) ms
    by-report true s = refl
    by-report false s = refl

-- ---- what a statement that fits has of its sample

-- where it is sampled it is so at a map of ids, in `dynamic`
pub record SamplesFit (frame : Frame) (l : Line) : Type 0 where
  pub ids : IfSome l.sample (λ ids. is_ids frame.inputs ids ≡ true)
  pub in_steps : is_some l.sample ≡ true → l.section ≡ Dynamic

pub samples-fit : (frame : Frame) (above ls : List Line) → LinesFit frame above ls → Each (SamplesFit frame) ls
samples-fit frame above [] h = tt
samples-fit frame above (l ∷ ls) h = (record { ids = h.0.ids; in_steps = h.0.in_steps }, samples-fit frame (above ++ l ∷ []) ls h.1)

no-sample : (o : Option ℕ) → (is_some o ≡ true → Initial ≡ Dynamic) → o ≡ None
no-sample None h = refl
no-sample (Some n) h = absurd (let z = h refl in cc)

-- a statement of `initial` writes one grid, and one of `dynamic` none
pub initial-form : (frame : Frame) (l : Line) → SamplesFit frame l → l.section ≡ Initial → is_initial_grid (form_by l.section l.sample) ≡ true
initial-form frame l f e = ap (λ s. is_initial_grid (form_by s l.sample)) e ∙ ap (λ o. is_initial_grid (form_by Initial o)) (no-sample l.sample (λ some. sym e ∙ f.in_steps some))

pub dynamic-form : (l : Line) → l.section ≡ Dynamic → is_initial_grid (form_by l.section l.sample) ≡ false
dynamic-form l e = ap (λ s. is_initial_grid (form_by s l.sample)) e ∙ by-sample l.sample
  where
    by-sample : (o : Option ℕ) → is_initial_grid (form_by Dynamic o) ≡ false
    by-sample None = refl
    by-sample (Some n) = refl

-- ---- that each is one of the program

module _ (p q : Program) (same : IsKeptAs p q) (frame : Frame) (inputs-are : q.inputs ≡ frame.inputs) where
  -- what a statement of `initial` gives
  initial-there : (n : ℕ) (x : Operand) → IsBelow q n x → IsOwn Initial (length q.initial) x → IsInitialValue p x
  initial-there n from.Unused r h = absurd h
  initial-there n (from.Literal kind cell) r h = absurd h
  initial-there n from.Time r h = absurd h
  initial-there n (from.Input k) r h = absurd h
  initial-there n (from.Stack k) r h = absurd h
  initial-there n (from.Initial k) r h = let c = initial-count p q same in omega (arith, h, c)
  initial-there n (from.Now k) r h = absurd h
  initial-there n (from.Last d k) r h = absurd h
  initial-there n (from.Drain k) r h = let b = r.within in let c = drain-count p q same in omega (arith, b, c)

  -- and one of `dynamic`
  dynamic-there : (x : Operand) → IsOwn Dynamic (length q.dynamic) x → (n : ℕ) × (x ≡ from.Now n) × (n < length p.dynamic)
  dynamic-there from.Unused h = absurd h
  dynamic-there (from.Literal kind cell) h = absurd h
  dynamic-there from.Time h = absurd h
  dynamic-there (from.Input k) h = absurd h
  dynamic-there (from.Stack k) h = absurd h
  dynamic-there (from.Initial k) h = absurd h
  dynamic-there (from.Now k) h = let c = dynamic-count p q same in (k, refl, omega (arith, h, c))
  dynamic-there (from.Last d k) h = absurd h
  dynamic-there (from.Drain k) h = absurd h

  -- what an output writes
  value-there : (section : Section) (l : Line) (x : Operand) (sample : Option ℕ) → l.sample ≡ sample → (is_some sample ≡ true → section ≡ Dynamic) → IfSome sample (λ ids. is_ids frame.inputs ids ≡ true) → IsValueOf q section (length (operations_within section q)) l x → IsOutputValue p (form_by section sample) x
  value-there Initial l x None e steps ids v = initial-there (length q.initial) x v.given.read (v.own e)
  value-there Initial l x (Some n) e steps ids v = absurd (let z = steps refl in cc)
  value-there Dynamic l x None e steps ids v = dynamic-there x (v.own e)
  value-there Dynamic l x (Some n) e steps ids v = (ids-form p frame.inputs n (same.inputs ∙ inputs-are) (has-ids frame.inputs n ids), subst (λ k. IsBelowNow p k x) (sym (dynamic-count p q same)) (now-same p q same (length q.dynamic) x v.given.read))

  each-if : (b : Bool) (u : OutputUse) → IsOutput p u → Each (IsOutput p) (if b then u ∷ [] else [])
  each-if true u h = (h, tt)
  each-if false u h = tt

  output-there : (section : Section) (bound : Bound) (statement : ℕ) (l : Line) (x : Operand) → l.section ≡ section → SamplesFit frame l → IsValueOf q section (length (operations_within section q)) l x → is_file_word (file_written bound l) ≡ true → statement ≤ 1000 → Each (IsOutput p) (output_with bound statement l x)
  output-there section bound statement l x e f v hw hs = each-if l.report _ (record {
    value = subst (λ s. IsOutputValue p (form_by s l.sample) x) (sym e) (value-there section l x l.sample refl (λ some. sym e ∙ f.in_steps some) f.ids v);
    kind = operand-kind p q same x ∙ v.kind;
    file = hw;
    statement = hs;
  })

  -- the outputs of the statements of a section
  pub outputs-there : (section : Section) (bound : Bound) (first : ℕ) (ls : List Line) (xs : List Operand) → AreIn section ls → Each (SamplesFit frame) ls → AreValuesOf q section (length (operations_within section q)) ls xs → Each (λ l. is_file_word (file_written bound l) ≡ true) ls → first + length ls ≤ 1001 → Each (IsOutput p) (outputs_with bound first ls xs)
  outputs-there section bound first [] xs hi hf hv hw hn = tt
  outputs-there section bound first (l ∷ ls) [] hi hf hv hw hn = tt
  outputs-there section bound first (l ∷ ls) (x ∷ xs) hi hf hv hw hn =
      let many : first + suc (length ls) ≤ 1001 = hn in
      each-append (IsOutput p) (output_with bound first l x) (outputs_with bound (first + 1) ls xs) (output-there section bound first l x hi.0 hf.0 hv.0 hw.0 (omega (arith, many))) (outputs-there section bound (first + 1) ls xs hi.1 hf.1 hv.1 hw.1 (omega (arith, many)))
