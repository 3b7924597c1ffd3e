-- That what was written of statements has their values: which operand holds a name, one more statement, and a whole section.
use Rattle.std.proofs.Common.{◌≡◌, inl, inr, ℕ, zero, suc, ◌+◌, ◌-◌, ◌<◌, ◌≤◌, ◌&&◌, Bool, true, false, List, [], ◌∷◌, ◌++◌, length, map, refl, sym, ap, subst, ◌∙◌, Ok, Err, Result, arith, append_assoc, append-nil, length-append, if◌then◌else◌}
use Rattle.std.specs.Prelude.{⊤, IfSome, Option, Some, None, option_map, slice_get}
use Rattle.std.specs.Option.{is_none, is_some, unwrap_or}
use Rattle.std.specs.Str.{bytes_eq}
use Rattle.std.proofs.lemmas.List.{length-map, map-append}
use Rattle.std.proofs.Math.Seq.{get_or-append_seam}
use Rattle.std.proofs.lemmas.Slice.Eq.{bytes_eq-Decides}
use mathlib.Core.Path.{fun_ext}
use Rattle.text_base.specs.Results.{◌>>=◌}
use Rattle.cell_values.specs.declared.kind.Kind.{Kind}
use Rattle.cell_values.specs.declared.kind.Kind.TheVariants.{Ldd}
use Rattle.map_meaning.specs.declared.known.OverAt.{OverAt}
use Rattle.map_meaning.specs.declared.program.DrainUse.{DrainUse}
use Rattle.map_meaning.specs.declared.program.Operand.{Operand}
use Rattle.map_meaning.specs.declared.program.Operand.TheVariants as from
use Rattle.map_meaning.specs.declared.program.Operation.{Operation}
use Rattle.map_meaning.specs.declared.program.OutputUse.{OutputUse}
use Rattle.map_meaning.specs.declared.program.Program.{Program}
use Rattle.map_meaning.specs.Evaluation.{Done, drain_codes, operand_map, operation_values, staged_values, with_drain}
use Rattle.map_meaning.specs.Maps.{WholeMap, nth}
use Rattle.map_meaning.specs.Programs.{AreDrainUses, IsFrom, operand_kind, operation_kind}
use Rattle.map_meaning.specs.Scenes.{Scene}
use Rattle.map_meaning.specs.Sections.{After, after_statements, assigned, section_value, with_name}
use Rattle.map_meaning.specs.Table.{is_kind}
use Rattle.map_meaning.specs.Trees.{Environment, Site, TreeMeaning, meaning_of}
use Rattle.map_meaning.specs.declared.tree.Tree.{Tree}
use Rattle.map_meaning.specs.declared.program.DrainFrom.{DrainFrom}
use Rattle.map_meaning.proofs.Callers.{after_statements-append, meaning_of-Mask, same_kind}
use Rattle.script_types.specs.declared.typed.Line.{Line}
use Rattle.script_types.specs.declared.typed.Section.{Section}
use Rattle.script_types.specs.declared.typed.Section.TheVariants.{Initial, Dynamic}
use Rattle.script_types.specs.Lowered.{ShownDrain, as_shown_drain, numbered_operations, operations_from, post_order, statement_drains, statements_of, total_operations}
use Rattle.script_types.specs.Reports.{Bound}
use Rattle.script_types.specs.Statements.{kind_above, operations_of}
use Rattle.script_types.specs.Typing.{or_kind}
use Rattle.script_types.specs.Values.{statement_codes}
use Rattle.script_types.specs.inside.Drains.{IsDrainBelow, drain_number, drain_numbers}
use Rattle.script_types.specs.inside.FitLines.{Frame, LineFits, LinesFit, ground_at, readable}
use Rattle.script_types.specs.inside.Fits.{Ground, SideFits, fits}
use Rattle.script_types.specs.inside.Sections.{Around, HaveForm, Holder, HoldsMaps, IsBegun, IsGiven, IsOperandOf, NamesBefore, Stands, maps_in, own_operand, span_in}
use Rattle.script_types.specs.inside.Sound.{are_sound, is_sound}
use Rattle.script_types.specs.inside.Values.{AllBefore, Emits, EmitsDrain}
use Rattle.script_types.specs.inside.Written.{AddsLine, Agree, AllDrainsBelow, AllDue, AreDueBehind, AreIn, AreValuesOf, AreWritten, SectionBegins, DrainsBelow, DueIn, HasLastKind, HaveValues, IsMade, IsOwn, IsValueOf, ListsTree, carried_operand, carried_or, drains_with, gives_name, held_before, held_below, last_number, last_operand, line_operand, output_with, outputs_with}
use Rattle.script_types.proofs.EmitLemmas.{all-stay, before-drain, drains-stay, form-append, get-left, get-seam, holds-more}
use Rattle.script_types.proofs.FitLemmas.{both-left, both-right}
use Rattle.script_types.proofs.Steps.{above-push}
use Rattle.script_types.proofs.SectionLemmas.{all-before-more, all-before-push, begins-less, drain-more, given-more, values-add}
use Rattle.script_types.proofs.Stages.{IsDueAt, bind-known, finish, finish-nth, finish-stays, staged-count, staged-push}

-- ---- lists of statements

last-else : {A : Type 0} (t : Bool) (x : A) (a b : Option A) → or_kind (if t then Some x else a) b ≡ (if t then Some x else or_kind a b)
last-else true x a b = refl
last-else false x a b = refl

-- the operations of some statements and of one more
pub total-push : (ls : List Line) (l : Line) → total_operations (ls ++ l ∷ []) ≡ total_operations ls + operations_of l.statement.value
total-push [] l = omega arith
total-push (m ∷ ms) l = let e = total-push ms l in omega (arith, e)

-- how many drain maps there are below some statements, where so many are above them
abbrev pub total_drains : ℕ → List Line → ℕ
total_drains m [] = m
total_drains m (l ∷ ls) = total_drains (drains_with m l) ls

-- the drain maps of some statements and of one more
pub drains-push : (before : ℕ) (ls : List Line) (l : Line) → statement_drains before (ls ++ l ∷ []) ≡ statement_drains before ls ++ (if is_kind Ldd l.kind then record { input = None; after = before + total_operations ls + operations_of l.statement.value } ∷ [] else [])
drains-push before [] l =
    let e : before + operations_of l.statement.value ≡ before + 0 + operations_of l.statement.value = omega arith in
    ap (λ n. if is_kind Ldd l.kind then record { input = None; after = n } ∷ [] else []) e
drains-push before (k ∷ ls) l = by-test (is_kind Ldd k.kind) _ _ _ (drains-push (before + operations_of k.statement.value) ls l ∙ (let e : before + operations_of k.statement.value + total_operations ls + operations_of l.statement.value ≡ before + total_operations (k ∷ ls) + operations_of l.statement.value = omega arith in ap (λ n. statement_drains (before + operations_of k.statement.value) ls ++ (if is_kind Ldd l.kind then record { input = None; after = n } ∷ [] else [])) e))
  where
    by-test : (b : Bool) (xs ys zs : List ShownDrain) → xs ≡ ys ++ zs → (if b then record { input = None; after = before + operations_of k.statement.value } ∷ xs else xs) ≡ (if b then record { input = None; after = before + operations_of k.statement.value } ∷ ys else ys) ++ zs
    by-test true xs ys zs h = ap (λ rest. record { input = None; after = before + operations_of k.statement.value } ∷ rest) h
    by-test false xs ys zs h = h

-- the codes of the drain maps of some statements and of one more
pub codes-push : (ls : List Line) (maps : List WholeMap) (l : Line) (m : WholeMap) → length maps ≡ length ls → statement_codes (ls ++ l ∷ []) (maps ++ m ∷ []) ≡ statement_codes ls maps ++ (if is_kind Ldd l.kind then m ∷ [] else [])
codes-push [] [] l m h = refl
codes-push [] (n ∷ maps) l m h = absurd (omega (arith, h))
codes-push (k ∷ ls) [] l m h = absurd (omega (arith, h))
codes-push (k ∷ ls) (n ∷ maps) l m h = by-test (is_kind Ldd k.kind) _ _ _ (codes-push ls maps l m (omega (arith, h)))
  where
    by-test : (b : Bool) (xs ys zs : List WholeMap) → xs ≡ ys ++ zs → (if b then n ∷ xs else xs) ≡ (if b then n ∷ ys else ys) ++ zs
    by-test true xs ys zs h = ap (λ rest. n ∷ rest) h
    by-test false xs ys zs h = h

-- which operation has a name's map with one more line
pub last_number-push : (before : ℕ) (ls : List Line) (l : Line) (name : List ℕ) → last_number before (ls ++ l ∷ []) name ≡ (if gives_name l name then Some (before + total_operations ls + operations_of l.statement.value - 1) else last_number before ls name)
last_number-push before [] l name = let e : before + operations_of l.statement.value - 1 ≡ before + 0 + operations_of l.statement.value - 1 = omega arith in ap (λ n. if gives_name l name then Some n else None) e
last_number-push before (k ∷ ls) l name =
    let n = before + operations_of k.statement.value in
    let e : n + total_operations ls + operations_of l.statement.value - 1 ≡ before + total_operations (k ∷ ls) + operations_of l.statement.value - 1 = omega arith in
    let own = if gives_name k name then Some (before + operations_of k.statement.value - 1) else None in
    ap (λ r. or_kind r own) (last_number-push n ls l name)
    ∙ last-else (gives_name l name) (n + total_operations ls + operations_of l.statement.value - 1) (last_number n ls name) own
    ∙ ap (λ m. if gives_name l name then Some m else or_kind (last_number n ls name) own) e

-- which operand has a name's map with one more line
pub last_operand-push : (s : Section) (before m : ℕ) (ls : List Line) (l : Line) (name : List ℕ) → last_operand s before m (ls ++ l ∷ []) name ≡ (if gives_name l name then Some (line_operand s (before + total_operations ls) (total_drains m ls) l) else last_operand s before m ls name)
last_operand-push s before m [] l name = let e : before ≡ before + 0 = omega arith in ap (λ n. if gives_name l name then Some (line_operand s n m l) else None) e
last_operand-push s before m (k ∷ ls) l name =
    let n = before + operations_of k.statement.value in
    let e : n + total_operations ls ≡ before + total_operations (k ∷ ls) = omega arith in
    let own = if gives_name k name then Some (line_operand s before m k) else None in
    let last = total_drains (drains_with m k) ls in
    ap (λ r. or_kind r own) (last_operand-push s n (drains_with m k) ls l name)
    ∙ last-else (gives_name l name) (line_operand s (n + total_operations ls) last l) (last_operand s n (drains_with m k) ls name) own
    ∙ ap (λ j. if gives_name l name then Some (line_operand s j last l) else or_kind (last_operand s n (drains_with m k) ls name) own) e

listed-push : (first : ℕ) (ls : List Line) (l : Line) → operations_from first (ls ++ l ∷ []) ≡ operations_from first ls ++ numbered_operations (first + length ls) 1 (post_order l.statement.value)
listed-push first [] l = let e : first ≡ first + 0 = omega arith in append-nil (numbered_operations first 1 (post_order l.statement.value)) ∙ ap (λ n. numbered_operations n 1 (post_order l.statement.value)) e
listed-push first (k ∷ ls) l =
    let e : first + 1 + length ls ≡ first + length (k ∷ ls) = omega arith in
    ap (λ rest. numbered_operations first 1 (post_order k.statement.value) ++ rest) (listed-push (first + 1) ls l ∙ ap (λ n. operations_from (first + 1) ls ++ numbered_operations n 1 (post_order l.statement.value)) e)
    ∙ sym (append_assoc (numbered_operations first 1 (post_order k.statement.value)) (operations_from (first + 1) ls) (numbered_operations (first + length (k ∷ ls)) 1 (post_order l.statement.value)))

outputs-push : (bound : Bound) (first : ℕ) (ls : List Line) (xs : List Operand) (l : Line) (x : Operand) → length xs ≡ length ls → outputs_with bound first (ls ++ l ∷ []) (xs ++ x ∷ []) ≡ outputs_with bound first ls xs ++ output_with bound (first + length ls) l x
outputs-push bound first [] [] l x h = let e : first ≡ first + 0 = omega arith in append-nil (output_with bound first l x) ∙ ap (λ n. output_with bound n l x) e
outputs-push bound first [] (y ∷ ys) l x h = absurd (omega (arith, h))
outputs-push bound first (k ∷ ls) [] l x h = absurd (omega (arith, h))
outputs-push bound first (k ∷ ls) (y ∷ ys) l x h =
    let e : first + 1 + length ls ≡ first + length (k ∷ ls) = omega arith in
    ap (λ rest. output_with bound first k y ++ rest) (outputs-push bound (first + 1) ls ys l x (omega (arith, h)) ∙ ap (λ n. outputs_with bound (first + 1) ls ys ++ output_with bound n l x) e)
    ∙ sym (append_assoc (output_with bound first k y) (outputs_with bound (first + 1) ls ys) (output_with bound (first + length (k ∷ ls)) l x))

-- all but the last fit, and so does the last below them
pub fit-split : (frame : Frame) (upper ls : List Line) (l : Line) → LinesFit frame upper (ls ++ l ∷ []) → LinesFit frame upper ls × LineFits frame (upper ++ ls) l
fit-split frame upper [] l h = (tt, subst (λ above. LineFits frame above l) (sym (append-nil upper)) h.0)
fit-split frame upper (k ∷ ls) l h =
    let r = fit-split frame (upper ++ k ∷ []) ls l h.1 in
    ((h.0, r.0), subst (λ above. LineFits frame above l) (append_assoc upper (k ∷ []) ls) r.1)

in-split : (s : Section) (ls : List Line) (l : Line) → AreIn s (ls ++ l ∷ []) → AreIn s ls × (l.section ≡ s)
in-split s [] l h = (tt, h.0)
in-split s (k ∷ ls) l h = let r = in-split s ls l h.1 in ((h.0, r.0), r.1)

sound-split : (ls : List Line) (l : Line) → are_sound (ls ++ l ∷ []) ≡ true → (are_sound ls ≡ true) × (is_sound l.statement.value ≡ true)
sound-split [] l h = (refl, both-left (is_sound l.statement.value) true h)
sound-split (k ∷ ls) l h =
    let r = sound-split ls l (both-right (is_sound k.statement.value) (are_sound (ls ++ l ∷ [])) h) in
    (ap (λ b. b && are_sound ls) (both-left (is_sound k.statement.value) (are_sound (ls ++ l ∷ [])) h) ∙ r.0, r.1)

-- ---- names

-- a name that may be read below a statement which gives it no map is not its target
not-target : (frame : Frame) (above : List Line) (l : Line) (name : List ℕ) (kind : Kind) → LineFits frame above l → readable frame.sampled (above ++ l ∷ []) name ≡ Some kind → gives_name l name ≡ false → bytes_eq name l.statement.target ≡ false
not-target frame above l name kind fit r g = by-test (bytes_eq name l.statement.target) refl
  where
    no-true : (b : Bool) → (if b then None else kind_above (above ++ l ∷ []) name) ≡ Some kind → b ≡ true → ⊥
    no-true true e h = absurd (let z = e in cc)
    no-true false e h = absurd (let z = h in cc)

    sampled-by : (o : Option ℕ) → (is_none o && true) ≡ false → is_some o ≡ true
    sampled-by None h = cc
    sampled-by (Some n) h = refl

    by-test : (b : Bool) → bytes_eq name l.statement.target ≡ b → bytes_eq name l.statement.target ≡ false
    by-test false e = e
    by-test true e =
        let same : name ≡ l.statement.target = (bytes_eq-Decides name l.statement.target).0 e in
        let some = sampled-by l.sample (sym (ap (λ b. is_none l.sample && b) e) ∙ g) in
        absurd (no-true (frame.sampled name) r (ap frame.sampled same ∙ fit.sampled some))

-- and it may be read above the statement
readable-up : (frame : Frame) (above : List Line) (l : Line) (name : List ℕ) (kind : Kind) → bytes_eq name l.statement.target ≡ false → readable frame.sampled (above ++ l ∷ []) name ≡ Some kind → readable frame.sampled above name ≡ Some kind
readable-up frame above l name kind e r = sym (ap (λ o. if frame.sampled name then None else o) (above-push above l name ∙ ap (λ b. if b then Some l.kind else kind_above above name) e)) ∙ r

both-true : (a b : Bool) → (a && b) ≡ true → (a ≡ true) × (b ≡ true)
both-true a b h = (both-left a b h, both-right a b h)

-- the kind of the target of a statement that gives it a map
target-kind : (frame : Frame) (above : List Line) (l : Line) (name : List ℕ) (kind : Kind) → bytes_eq name l.statement.target ≡ true → readable frame.sampled (above ++ l ∷ []) name ≡ Some kind → l.kind ≡ kind
target-kind frame above l name kind e r = by-test (frame.sampled name) (sym (ap (λ o. if frame.sampled name then None else o) (above-push above l name ∙ ap (λ b. if b then Some l.kind else kind_above above name) e)) ∙ r)
  where
    by-test : (b : Bool) → (if b then None else Some l.kind) ≡ Some kind → l.kind ≡ kind
    by-test true h = cc
    by-test false h = cc

none-sampled : (o : Option ℕ) → is_none o ≡ true → o ≡ None
none-sampled None h = refl
none-sampled (Some n) h = cc

-- ---- operands that a section made

operation-more : (old new added : List Operation) (n : ℕ) (kind : Kind) → new ≡ old ++ added → (n < length old) × (operation_kind old n ≡ Some kind) × (is_kind Ldd kind ≡ false) → (n < length new) × (operation_kind new n ≡ Some kind) × (is_kind Ldd kind ≡ false)
operation-more old new added n kind e h =
    let below = h.0 in
    let l = ap length e ∙ length-append old added in
    (omega (arith, l, below), ap (λ os. operation_kind os n) e ∙ ap (option_map (λ (o : Operation). o.kind)) (get-left old added n below) ∙ h.1, h.2)

-- what a section made is one of more
made-more : (s : Section) (old new added : List Operation) (m k : ℕ) (kind : Kind) (x : Operand) → new ≡ old ++ added → m ≤ k → IsMade s old m kind x → IsMade s new k kind x
made-more s old new added m k kind (from.Drain n) e h a = (let b = a.0 in omega (arith, b, h), a.1)
made-more Initial old new added m k kind (from.Initial n) e h a = operation-more old new added n kind e a
made-more Dynamic old new added m k kind (from.Now n) e h a = operation-more old new added n kind e a
made-more Initial old new added m k kind from.Unused e h a = a
made-more Initial old new added m k kind (from.Literal c v) e h a = a
made-more Initial old new added m k kind from.Time e h a = a
made-more Initial old new added m k kind (from.Input n) e h a = a
made-more Initial old new added m k kind (from.Stack n) e h a = a
made-more Initial old new added m k kind (from.Now n) e h a = a
made-more Initial old new added m k kind (from.Last d n) e h a = a
made-more Dynamic old new added m k kind from.Unused e h a = a
made-more Dynamic old new added m k kind (from.Literal c v) e h a = a
made-more Dynamic old new added m k kind from.Time e h a = a
made-more Dynamic old new added m k kind (from.Input n) e h a = a
made-more Dynamic old new added m k kind (from.Stack n) e h a = a
made-more Dynamic old new added m k kind (from.Initial n) e h a = a
made-more Dynamic old new added m k kind (from.Last d n) e h a = a

-- a program has these drain maps, each computed once so many of its operations are
record HasDrainsBy (program : Program) (s : Section) (ds : List DrainUse) (count : ℕ) : Type 0 where
  more : List DrainUse
  is : program.drains ≡ ds ++ more
  due : DueIn s count ds

there-at : (ds more : List DrainUse) (n : ℕ) → n < length ds → (n < length (ds ++ more)) × (option_map (λ (d : DrainUse). Ldd) (slice_get (ds ++ more) n) ≡ Some Ldd)
there-at [] more n h = absurd (omega (arith, h))
there-at (d ∷ ds) more zero h = (omega arith, refl)
there-at (d ∷ ds) more (suc n) h = let r = there-at ds more n (omega (arith, h)) in let b = r.0 in (omega (arith, b), r.1)

due-at : (ds more : List DrainUse) (count n : ℕ) → AllDue count ds → n < length ds → IfSome (slice_get (ds ++ more) n) (λ d. d.after ≤ count)
due-at [] more count n a h = absurd (omega (arith, h))
due-at (d ∷ ds) more count zero a h = a.0
due-at (d ∷ ds) more count (suc n) a h = due-at ds more count n a.1 (omega (arith, h))

-- a drain map that is there by then may be read
drain-there : (program : Program) (s : Section) (ds : List DrainUse) (count n : ℕ) → HasDrainsBy program s ds count → n < length ds → (operand_kind program (from.Drain n) ≡ Some Ldd) × IsGiven program s count (from.Drain n)
drain-there program Initial ds count n h below =
    let r = there-at ds h.more n below in
    (ap (λ es. option_map (λ (d : DrainUse). Ldd) (slice_get es n)) h.is ∙ r.1, record { read = record { within = subst (λ es. n < length es) (sym h.is) r.0; after = subst (λ es. IfSome (slice_get es n) (λ d. d.after ≤ count)) (sym h.is) (due-at ds h.more count n h.due below) }; used = refl })
drain-there program Dynamic ds count n h below =
    let r = there-at ds h.more n below in
    (ap (λ es. option_map (λ (d : DrainUse). Ldd) (slice_get es n)) h.is ∙ r.1, record { read = subst (λ es. n < length es) (sym h.is) r.0; used = refl })

-- what a section made is an operand of its kind
operand-made : (program : Program) (s : Section) (ops : List Operation) (ds : List DrainUse) (kind : Kind) (x : Operand) → IsBegun s ops program → HasDrainsBy program s ds (length ops) → IsMade s ops (length ds) kind x → IsOperandOf program s (length ops) (length ds) kind x
operand-made program s ops ds kind (from.Drain n) bg hd a =
    let r = drain-there program s ds (length ops) n hd a.0 in
    record { kind_is = r.0 ∙ ap Some (sym a.1); given = r.1; drain = a.0 }
operand-made program Initial ops ds kind (from.Initial n) bg hd a = record {
  kind_is = ap (λ os. operation_kind os n) bg.is ∙ ap (option_map (λ (o : Operation). o.kind)) (get-left ops bg.more n a.0) ∙ a.1;
  given = record { read = a.0; used = refl };
  drain = a.2;
}
operand-made program Dynamic ops ds kind (from.Now n) bg hd a = record {
  kind_is = ap (λ os. operation_kind os n) bg.is ∙ ap (option_map (λ (o : Operation). o.kind)) (get-left ops bg.more n a.0) ∙ a.1;
  given = record { read = a.0; used = refl };
  drain = a.2;
}
operand-made program Initial ops ds kind from.Unused bg hd a = absurd a
operand-made program Initial ops ds kind (from.Literal c v) bg hd a = absurd a
operand-made program Initial ops ds kind from.Time bg hd a = absurd a
operand-made program Initial ops ds kind (from.Input n) bg hd a = absurd a
operand-made program Initial ops ds kind (from.Stack n) bg hd a = absurd a
operand-made program Initial ops ds kind (from.Now n) bg hd a = absurd a
operand-made program Initial ops ds kind (from.Last d n) bg hd a = absurd a
operand-made program Dynamic ops ds kind from.Unused bg hd a = absurd a
operand-made program Dynamic ops ds kind (from.Literal c v) bg hd a = absurd a
operand-made program Dynamic ops ds kind from.Time bg hd a = absurd a
operand-made program Dynamic ops ds kind (from.Input n) bg hd a = absurd a
operand-made program Dynamic ops ds kind (from.Stack n) bg hd a = absurd a
operand-made program Dynamic ops ds kind (from.Initial n) bg hd a = absurd a
operand-made program Dynamic ops ds kind (from.Last d n) bg hd a = absurd a

-- ---- a program in which statements of a section were written

all-due-append : (count : ℕ) (xs ys : List DrainUse) → AllDue count xs → AllDue count ys → AllDue count (xs ++ ys)
all-due-append count [] ys hx hy = hy
all-due-append count (x ∷ xs) ys hx hy = (hx.0, all-due-append count xs ys hx.1 hy)

all-due-more : (n k : ℕ) (xs : List DrainUse) → n ≤ k → AllDue n xs → AllDue k xs
all-due-more n k [] h a = tt
all-due-more n k (x ∷ xs) h a = (let b = a.0 in omega (arith, b, h), all-due-more n k xs h a.1)

due-both : (s : Section) (count : ℕ) (xs ys : List DrainUse) → DueIn s 0 xs → AreDueBehind s count ys → DueIn s count (xs ++ ys)
due-both Initial count xs ys hx hy = all-due-append count xs ys (all-due-more 0 count xs (omega arith) hx) hy
due-both Dynamic count xs ys hx hy = tt

-- an operand where more is written
pub raised : (program : Program) (s : Section) (n j k m : ℕ) (kind : Kind) (x : Operand) → n ≤ j → k ≤ m → IsOperandOf program s n k kind x → IsOperandOf program s j m kind x
raised program s n j k m kind x h g a = record { kind_is = a.kind_is; given = given-more program s n j x h a.given; drain = drain-more k m kind x g a.drain }

module _ (frame : Frame) (upper : List Line) (s : Section) (start : Holder) (drains : List DrainUse) (first : ℕ) (ops : List Operation) (added : List DrainUse) (ls : List Line) (xs : List Operand) (program : Program) (h : HaveValues frame upper s start drains first ops added ls xs) (b : SectionBegins s (ground_at frame s upper) start drains added ops program) where
  pub enough : b.around.drains ≤ length drains + length added
  enough = let c = b.count in omega (arith, c)

  pub by-last : (name : List ℕ) (kind : Kind) (o : Option Operand) → HasLastKind (readable frame.sampled upper) s ops (length drains + length added) name kind o → IsOperandOf program s (length ops) (length drains + length added) kind (unwrap_or o (start name))
  by-last name kind None e = raised program s 0 (length ops) b.around.drains (length drains + length added) kind (start name) (omega arith) enough (b.around.held name kind e)
  by-last name kind (Some x) e =
      let many = length-append drains added in
      subst (λ j. IsOperandOf program s (length ops) j kind x) many (operand-made program s ops (drains ++ added) kind x b.begun (record { more = b.more_drains; is = b.drains_are; due = due-both s (length ops) drains added b.due h.due }) (subst (λ j. IsMade s ops j kind x) (sym many) e))

  -- the names have their operands below the statements
  abbrev pub around-below : Around s (ground_at frame s (upper ++ ls)) (held_below s (length drains) start ls) (length ops) program
  around-below = record {
    drains = length drains + length added;
    inputs = b.around.inputs;
    steps = refl;
    held = λ name kind r. by-last name kind (last_operand s 0 (length drains) ls name) (h.last name kind r);
    drained = λ k is. raised program s 0 (length ops) b.around.drains (length drains + length added) Ldd (from.Drain (drain_number frame.inputs k)) (omega arith) enough (b.around.drained k is);
  }

last-more : (above : List ℕ → Option Kind) (s : Section) (old new added : List Operation) (m k : ℕ) (name : List ℕ) (kind : Kind) (o : Option Operand) → new ≡ old ++ added → m ≤ k → HasLastKind above s old m name kind o → HasLastKind above s new k name kind o
last-more above s old new added m k name kind None e g h = h
last-more above s old new added m k name kind (Some x) e g h = made-more s old new added m k kind x e g h

own-more : (s : Section) (n k : ℕ) (x : Operand) → n ≤ k → IsOwn s n x → IsOwn s k x
own-more Initial n k (from.Initial i) h a = omega (arith, h, a)
own-more Initial n k (from.Drain i) h a = tt
own-more Dynamic n k (from.Now i) h a = omega (arith, h, a)
own-more Initial n k from.Unused h a = a
own-more Initial n k (from.Literal c v) h a = a
own-more Initial n k from.Time h a = a
own-more Initial n k (from.Input i) h a = a
own-more Initial n k (from.Stack i) h a = a
own-more Initial n k (from.Now i) h a = a
own-more Initial n k (from.Last d i) h a = a
own-more Dynamic n k from.Unused h a = a
own-more Dynamic n k (from.Literal c v) h a = a
own-more Dynamic n k from.Time h a = a
own-more Dynamic n k (from.Input i) h a = a
own-more Dynamic n k (from.Stack i) h a = a
own-more Dynamic n k (from.Initial i) h a = a
own-more Dynamic n k (from.Last d i) h a = a
own-more Dynamic n k (from.Drain i) h a = a

values-more : (program : Program) (s : Section) (n k : ℕ) (ls : List Line) (xs : List Operand) → n ≤ k → AreValuesOf program s n ls xs → AreValuesOf program s k ls xs
values-more program s n k [] xs h a = a
values-more program s n k (l ∷ ls) [] h a = a
values-more program s n k (l ∷ ls) (x ∷ xs) h a = (
  record { kind = a.0.kind; given = given-more program s n k x h a.0.given; own = λ none. own-more s n k x h (a.0.own none) },
  values-more program s n k ls xs h a.1,
)

values-push : (program : Program) (s : Section) (n : ℕ) (ls : List Line) (xs : List Operand) (l : Line) (x : Operand) → AreValuesOf program s n ls xs → IsValueOf program s n l x → AreValuesOf program s n (ls ++ l ∷ []) (xs ++ x ∷ [])
values-push program s n [] xs l x a v = subst (λ ys. AreValuesOf program s n (l ∷ []) (ys ++ x ∷ [])) (sym a) (v, refl)
values-push program s n (k ∷ ls) [] l x a v = absurd a
values-push program s n (k ∷ ls) (y ∷ xs) l x a v = (a.0, values-push program s n ls xs l x a.1 v)

uses-append : (program : Program) (n : ℕ) (xs ys : List DrainUse) → AreDrainUses program n xs → AreDrainUses program (n + length xs) ys → AreDrainUses program n (xs ++ ys)
uses-append program n [] ys hx hy = let e : n + 0 ≡ n = omega arith in subst (λ k. AreDrainUses program k ys) e hy
uses-append program n (x ∷ xs) ys hx hy = let e : n + suc (length xs) ≡ n + 1 + length xs = omega arith in (hx.0, uses-append program (n + 1) xs ys hx.1 (subst (λ k. AreDrainUses program k ys) e hy))

-- ---- one more statement

-- what is to be shown of the program in which the statement's drain map stands next
abbrev HasNext : Program → ℕ → List DrainUse → Type 0
HasNext program m [] = ⊤
HasNext program m (d ∷ ds) = slice_get program.drains m ≡ Some d

-- a statement is a drain map, which is added behind so many, or it is none
abbrev IsOne : ℕ → Line → List DrainUse → Operand → Type 0
IsOne m l [] x = is_kind Ldd l.kind ≡ false
IsOne m l (d ∷ ds) x = (is_kind Ldd l.kind ≡ true) × (x ≡ from.Drain m)

-- what holds of a statement's operand in a program that begins so
record LineFacts (program : Program) (s : Section) (n m : ℕ) (l : Line) (x : Operand) : Type 0 where
  kind : operand_kind program x ≡ Some l.kind
  before : NamesBefore s n x
  below : DrainsBelow m x

-- what was written of a statement gives its value, and is well formed
record LineGives (s : Section) (g : Ground) (holder : Holder) (m : ℕ) (old new : List Operation) (number : ℕ) (l : Line) (one : List DrainUse) (x : Operand) : Type 0 where
  ops : List Operation
  appended : new ≡ old ++ ops
  single : IsOne m l one x
  due : IsDueAt s (length new) one
  own : l.sample ≡ None → x ≡ line_operand s (length old) m l
  made : l.sample ≡ None → IsMade s new (m + length one) l.kind (line_operand s (length old) m l)
  facts : (program : Program) (st : Stands s g holder (length old) new program) → st.around.drains ≡ m → HasNext program m one → LineFacts program s (length new) (m + length one) l x
  value : is_sound l.statement.value ≡ true → (program : Program) (scene : Scene) (step : ℕ) (names : Environment) (done : Done) → Stands s g holder (length old) new program → length (maps_in s done) ≡ length old → length done.drains ≡ m → HoldsMaps g holder scene names done →
      (meaning_of l.statement.value).value (record { scene = scene; names = names; statement = number }) 0 ≡ operation_values program scene (span_in s program step) done ops >>= λ e. Ok (operand_map scene (finish scene e one) x)
  formed : is_sound l.statement.value ≡ true → (program : Program) (st : Stands s g holder (length old) new program) → st.around.drains ≡ m → HasNext program m one → IsGiven program s (length new) x × HaveForm program s (length old) ops × AreDrainUses program m one

below-of : (m : ℕ) (kind : Kind) (x : Operand) → IsDrainBelow m kind x → DrainsBelow m x
below-of m kind (from.Drain n) h = h
below-of m kind from.Unused h = tt
below-of m kind (from.Literal c v) h = tt
below-of m kind from.Time h = tt
below-of m kind (from.Input n) h = tt
below-of m kind (from.Stack n) h = tt
below-of m kind (from.Initial n) h = tt
below-of m kind (from.Now n) h = tt
below-of m kind (from.Last d n) h = tt

below-more : (m k : ℕ) (x : Operand) → m ≤ k → DrainsBelow m x → DrainsBelow k x
below-more m k (from.Drain n) h b = omega (arith, h, b)
below-more m k from.Unused h b = tt
below-more m k (from.Literal c v) h b = tt
below-more m k from.Time h b = tt
below-more m k (from.Input n) h b = tt
below-more m k (from.Stack n) h b = tt
below-more m k (from.Initial n) h b = tt
below-more m k (from.Now n) h b = tt
below-more m k (from.Last d n) h b = tt

all-below-push : (m k : ℕ) (xs : List Operand) (x : Operand) → m ≤ k → AllDrainsBelow m xs → DrainsBelow k x → AllDrainsBelow k (xs ++ x ∷ [])
all-below-push m k [] x h a b = (b, tt)
all-below-push m k (y ∷ xs) x h a b = (below-more m k y h a.0, all-below-push m k xs x h a.1 b)

all-finish : (scene : Scene) (e : Done) (one : List DrainUse) (m : ℕ) (xs : List Operand) → m ≤ length e.drains → AllDrainsBelow m xs → map (operand_map scene (finish scene e one)) xs ≡ map (operand_map scene e) xs
all-finish scene e one m [] h a = refl
all-finish scene e one m (x ∷ xs) h a = ap (λ v. v ∷ map (operand_map scene (finish scene e one)) xs) (finish-stays scene e one m x h a.0) ∙ ap (λ vs. operand_map scene e x ∷ vs) (all-finish scene e one m xs h a.1)

-- how many drain maps some statements have
codes-many : (k : ℕ) (ls : List Line) (maps : List WholeMap) → length maps ≡ length ls → k + length (statement_codes ls maps) ≡ total_drains k ls
codes-many k [] [] h = omega arith
codes-many k [] (m ∷ maps) h = absurd (omega (arith, h))
codes-many k (l ∷ ls) [] h = absurd (omega (arith, h))
codes-many k (l ∷ ls) (m ∷ maps) h = by-test (is_kind Ldd l.kind) (λ j. codes-many j ls maps (omega (arith, h)))
  where
    by-test : (b : Bool) → ((j : ℕ) → j + length (statement_codes ls maps) ≡ total_drains j ls) → k + length (if b then m ∷ statement_codes ls maps else statement_codes ls maps) ≡ total_drains (if b then k + 1 else k) ls
    by-test true f = let e = f (k + 1) in (let z : k + suc (length (statement_codes ls maps)) ≡ k + 1 + length (statement_codes ls maps) = omega arith in z) ∙ e
    by-test false f = f k

-- the drain map that a statement adds has the statement's codes
codes-finish : (scene : Scene) (e : Done) (one : List DrainUse) (m : ℕ) (l : Line) (x : Operand) → length e.drains ≡ m → IsOne m l one x → (finish scene e one).drains ≡ e.drains ++ (if is_kind Ldd l.kind then operand_map scene (finish scene e one) x ∷ [] else [])
codes-finish scene e [] m l x n h = sym (ap (λ b. e.drains ++ (if b then operand_map scene e x ∷ [] else [])) h ∙ append-nil e.drains)
codes-finish scene e (d ∷ ds) m l x n h =
    let c = drain_codes scene e d.from in
    let f = with_drain e c in
    let there : operand_map scene f x ≡ c = ap (operand_map scene f) h.1 ∙ ap (λ k. nth (e.drains ++ c ∷ []) k) (sym n) ∙ get_or-append_seam e.drains c [] [] in
    sym (ap (λ b. e.drains ++ (if b then operand_map scene f x ∷ [] else [])) h.0 ∙ ap (λ v. e.drains ++ v ∷ []) there)

own-made : (s : Section) (ops : List Operation) (m : ℕ) (kind : Kind) (x : Operand) → (is_kind Ldd kind ≡ true → s ≡ Initial) → IsMade s ops m kind x → IsOwn s (length ops) x
own-made Initial ops m kind (from.Initial n) hi a = a.0
own-made Initial ops m kind (from.Drain n) hi a = tt
own-made Dynamic ops m kind (from.Now n) hi a = a.0
own-made Dynamic ops m kind (from.Drain n) hi a = let z = hi (ap (is_kind Ldd) a.1) in absurd (let y : Dynamic ≡ Initial = z in cc)
own-made Initial ops m kind from.Unused hi a = absurd a
own-made Initial ops m kind (from.Literal c v) hi a = absurd a
own-made Initial ops m kind from.Time hi a = absurd a
own-made Initial ops m kind (from.Input n) hi a = absurd a
own-made Initial ops m kind (from.Stack n) hi a = absurd a
own-made Initial ops m kind (from.Now n) hi a = absurd a
own-made Initial ops m kind (from.Last d n) hi a = absurd a
own-made Dynamic ops m kind from.Unused hi a = absurd a
own-made Dynamic ops m kind (from.Literal c v) hi a = absurd a
own-made Dynamic ops m kind from.Time hi a = absurd a
own-made Dynamic ops m kind (from.Input n) hi a = absurd a
own-made Dynamic ops m kind (from.Stack n) hi a = absurd a
own-made Dynamic ops m kind (from.Initial n) hi a = absurd a
own-made Dynamic ops m kind (from.Last d n) hi a = absurd a

next-there : (program : Program) (before one more : List DrainUse) → program.drains ≡ before ++ (one ++ more) → HasNext program (length before) one
next-there program before [] more h = tt
next-there program before (d ∷ ds) more h = ap (λ es. slice_get es (length before)) h ∙ get-seam before d (ds ++ more)

due-push : (s : Section) (n k : ℕ) (added one : List DrainUse) → n ≤ k → AreDueBehind s n added → IsDueAt s k one → AreDueBehind s k (added ++ one)
due-push Initial n k added [] h a b = all-due-append k added [] (all-due-more n k added h a) tt
due-push Initial n k added (d ∷ ds) h a b = all-due-append k added (d ∷ ds) (all-due-more n k added h a) (subst (λ es. AllDue k (d ∷ es)) (sym b.0) (let e = b.1 in omega (arith, e), tt))
due-push Dynamic n k added [] h a b = append-nil added ∙ a
due-push Dynamic n k added (d ∷ ds) h a b = absurd (let z = b.2 in cc)

module _ (frame : Frame) (upper : List Line) (s : Section) (start : Holder) (drains : List DrainUse) (first : ℕ) (old new : List Operation) (added one : List DrainUse) (ls : List Line) (l : Line) (xs : List Operand) (x : Operand) (fit : LineFits frame (upper ++ ls) l) (within : l.section ≡ s) (total : length old ≡ total_operations ls) (grown : length new ≡ length old + operations_of l.statement.value) (counted : total_drains (length drains) ls ≡ length drains + length added) (many : length xs ≡ length ls) (h : HaveValues frame upper s start drains first old added ls xs) (c : LineGives s (ground_at frame s (upper ++ ls)) (held_below s (length drains) start ls) (length drains + length added) old new (first + length ls) l one x) where
  -- how many drain maps are written above, and with the statement
  abbrev m : ℕ
  m = length drains + length added

  abbrev G : Ground
  G = ground_at frame s (upper ++ ls)

  abbrev H : Holder
  H = held_below s (length drains) start ls

  abbrev G' : Ground
  G' = ground_at frame s (upper ++ (ls ++ l ∷ []))

  abbrev H' : Holder
  H' = held_below s (length drains) start (ls ++ l ∷ [])

  below-is : m + length one ≡ length drains + length (added ++ one)
  below-is = let e = length-append added one in omega (arith, e)

  -- which operand has a name's map, below one more statement
  number : (name : List ℕ) → last_operand s 0 (length drains) (ls ++ l ∷ []) name ≡ (if gives_name l name then Some (line_operand s (length old) m l) else last_operand s 0 (length drains) ls name)
  number name = let e : 0 + total_operations ls ≡ length old = omega (arith, total) in last_operand-push s 0 (length drains) ls l name ∙ ap (λ n. if gives_name l name then Some (line_operand s n (total_drains (length drains) ls) l) else last_operand s 0 (length drains) ls name) e ∙ ap (λ n. if gives_name l name then Some (line_operand s (length old) n l) else last_operand s 0 (length drains) ls name) counted

  -- each statement above stands above
  down : (name : List ℕ) (kind : Kind) → readable frame.sampled (upper ++ (ls ++ l ∷ [])) name ≡ Some kind → readable frame.sampled ((upper ++ ls) ++ l ∷ []) name ≡ Some kind
  down name kind r = ap (λ above. readable frame.sampled above name) (append_assoc upper ls (l ∷ [])) ∙ r

  last-push : (name : List ℕ) (kind : Kind) (b : Bool) → gives_name l name ≡ b → readable frame.sampled ((upper ++ ls) ++ l ∷ []) name ≡ Some kind → HasLastKind (readable frame.sampled upper) s new (m + length one) name kind (if b then Some (line_operand s (length old) m l) else last_operand s 0 (length drains) ls name)
  last-push name kind true e r =
      let both = both-true (is_none l.sample) (bytes_eq name l.statement.target) e in
      subst (λ k. IsMade s new (m + length one) k (line_operand s (length old) m l)) (target-kind frame (upper ++ ls) l name kind both.1 r) (c.made (none-sampled l.sample both.0))
  last-push name kind false e r = last-more (readable frame.sampled upper) s old new c.ops m (m + length one) name kind (last_operand s 0 (length drains) ls name) c.appended (omega arith) (h.last name kind (readable-up frame (upper ++ ls) l name kind (not-target frame (upper ++ ls) l name kind fit r e) r))

  -- the program without the statement
  abbrev less : (program : Program) → SectionBegins s (ground_at frame s upper) start drains (added ++ one) new program → SectionBegins s (ground_at frame s upper) start drains added old program
  less program b = record {
    around = b.around;
    count = b.count;
    begun = begins-less s program old new c.ops c.appended b.begun;
    due = b.due;
    more_drains = one ++ b.more_drains;
    drains_are = b.drains_are ∙ ap (λ ds. ds ++ b.more_drains) (sym (append_assoc drains added one)) ∙ append_assoc (drains ++ added) one b.more_drains;
  }

  abbrev stands : (program : Program) → SectionBegins s (ground_at frame s upper) start drains (added ++ one) new program → Stands s G H (length old) new program
  stands program b = record { around = around-below frame upper s start drains first old added ls xs program h (less program b); begins = b.begun }

  next : (program : Program) → SectionBegins s (ground_at frame s upper) start drains (added ++ one) new program → HasNext program m one
  next program b = subst (λ k. HasNext program k one) (length-append drains added) (next-there program (drains ++ added) one b.more_drains (less program b).drains_are)

  -- the names have their maps below one more statement
  holds-push : (scene : Scene) (names : Environment) (f : Done) → HoldsMaps G H scene names f → HoldsMaps G' H' scene (with_name names l.statement.target (operand_map scene f x)) f
  holds-push scene names f holds = record {
    named = λ name kind r. by-name name kind (gives_name l name) refl (down name kind r) ∙ sym (ap (λ o. operand_map scene f (unwrap_or o (start name))) (number name));
    drained = holds.drained;
  }
    where
      by-name : (name : List ℕ) (kind : Kind) (b : Bool) → gives_name l name ≡ b → readable frame.sampled ((upper ++ ls) ++ l ∷ []) name ≡ Some kind → with_name names l.statement.target (operand_map scene f x) name ≡ operand_map scene f (unwrap_or (if b then Some (line_operand s (length old) m l) else last_operand s 0 (length drains) ls name) (start name))
      by-name name kind true e r =
          let both = both-true (is_none l.sample) (bytes_eq name l.statement.target) e in
          ap (λ b. if b then operand_map scene f x else names name) both.1 ∙ ap (operand_map scene f) (c.own (none-sampled l.sample both.0))
      by-name name kind false e r =
          let other = not-target frame (upper ++ ls) l name kind fit r e in
          ap (λ b. if b then operand_map scene f x else names name) other ∙ holds.named name kind (readable-up frame (upper ++ ls) l name kind other r)

  -- the names keep their maps where a drain map is added
  holds-finish : (program : Program) (scene : Scene) (names : Environment) (e : Done) (st : Stands s G H (length old) new program) → st.around.drains ≡ m → length e.drains ≡ m → HoldsMaps G H scene names e → HoldsMaps G H scene names (finish scene e one)
  holds-finish program scene names e st hm n holds = record {
    named = λ name kind r. holds.named name kind r ∙ sym (finish-stays scene e one m (H name) (omega (arith, n)) (subst (λ k. DrainsBelow k (H name)) hm (below-of st.around.drains kind (H name) (st.around.held name kind r).drain)));
    drained = λ k is. holds.drained k is ∙ sym (finish-nth scene e one (drain_number frame.inputs k) (let b = (st.around.drained k is).drain in omega (arith, b, hm, n)));
  }

  -- what stands after a statement, and after its operations
  agree-last : (program : Program) (scene : Scene) (step : ℕ) (codes : List WholeMap) (w : After) (d : Done) (st : Stands s G H (length old) new program) → st.around.drains ≡ m → AllBefore s (length old) xs → AllDrainsBelow m xs → length (maps_in s d) ≡ length old → length codes ≡ length drains → Agree G H scene codes ls xs (Ok w) (Ok d) → (v : Result WholeMap OverAt) (q : Result Done OverAt) → operation_values program scene (span_in s program step) d c.ops ≡ q → v ≡ q >>= (λ e. Ok (operand_map scene (finish scene e one) x)) → Agree G' H' scene codes (ls ++ l ∷ []) (xs ++ x ∷ []) (v >>= λ y. Ok (assigned w l.statement y)) (q >>= λ e. Ok (finish scene e one))
  agree-last program scene step codes w d st hm bs ds n nc a v (Err f) hq hv = subst (λ (r : Result WholeMap OverAt). Agree G' H' scene codes (ls ++ l ∷ []) (xs ++ x ∷ []) (r >>= λ y. Ok (assigned w l.statement y)) (Err f)) (sym hv) refl
  agree-last program scene step codes w d st hm bs ds n nc a v (Ok e) hq hv =
      let adds = values-add s program scene step c.ops d e hq in
      let f = finish scene e one in
      let wl : length w.maps ≡ length ls = ap length a.1 ∙ length-map xs (operand_map scene d) ∙ many in
      let dn : length d.drains ≡ m = (let k = ap length a.2 ∙ length-append codes (statement_codes ls w.maps) in let j = codes-many (length drains) ls w.maps wl in omega (arith, k, j, nc, counted)) in
      let same : e.drains ≡ d.drains = ap (λ (y : Done). y.drains) adds.is ∙ drains-stay s d adds.added in
      let en : length e.drains ≡ m = ap length same ∙ dn in
      let kept : HoldsMaps G H scene w.names e = subst (HoldsMaps G H scene w.names) (sym adds.is) (holds-more s G H (length old) program new scene w.names d adds.added st (omega (arith, n)) a.0) in
      let held = holds-finish program scene w.names e st hm en kept in
      let stay : map (operand_map scene f) xs ≡ map (operand_map scene d) xs = all-finish scene e one m xs (omega (arith, en)) ds ∙ ap (λ y. map (operand_map scene y) xs) adds.is ∙ all-stay s scene d adds.added xs (subst (λ k. AllBefore s k xs) (sym n) bs) in
      subst (λ (r : Result WholeMap OverAt). Agree G' H' scene codes (ls ++ l ∷ []) (xs ++ x ∷ []) (r >>= λ y. Ok (assigned w l.statement y)) (Ok f)) (sym hv) (
        holds-push scene w.names f held,
        ap (λ ms. ms ++ operand_map scene f x ∷ []) (a.1 ∙ sym stay) ∙ sym (map-append (operand_map scene f) xs (x ∷ [])),
        codes-finish scene e one m l x en c.single ∙ ap (λ es. es ++ (if is_kind Ldd l.kind then operand_map scene f x ∷ [] else [])) (same ∙ a.2) ∙ append_assoc codes (statement_codes ls w.maps) (if is_kind Ldd l.kind then operand_map scene f x ∷ [] else []) ∙ ap (λ cs. codes ++ cs) (sym (codes-push ls w.maps l (operand_map scene f x) wl)),
      )

  -- a section and its operations agree below one more statement
  agree-push : is_sound l.statement.value ≡ true → (program : Program) (scene : Scene) (step : ℕ) (codes : List WholeMap) (st : Stands s G H (length old) new program) → st.around.drains ≡ m → AllBefore s (length old) xs → AllDrainsBelow m xs → length codes ≡ length drains → (a : Result After OverAt) (b : Result Done OverAt) → ((d : Done) → b ≡ Ok d → length (maps_in s d) ≡ length old) → Agree G H scene codes ls xs a b → Agree G' H' scene codes (ls ++ l ∷ []) (xs ++ x ∷ []) (a >>= λ w. after_statements scene (first + length (statements_of ls)) w (l.statement ∷ [])) (b >>= λ d. operation_values program scene (span_in s program step) d c.ops >>= λ e. Ok (finish scene e one))
  agree-push sound program scene step codes st hm bs ds nc (Ok w) (Err f) hn a = absurd a
  agree-push sound program scene step codes st hm bs ds nc (Err f) (Ok d) hn a = absurd a
  agree-push sound program scene step codes st hm bs ds nc (Err f) (Err g) hn a = a
  agree-push sound program scene step codes st hm bs ds nc (Ok w) (Ok d) hn a =
      let n = hn d refl in
      let wl : length w.maps ≡ length ls = ap length a.1 ∙ length-map xs (operand_map scene d) ∙ many in
      let dn : length d.drains ≡ m = (let k = ap length a.2 ∙ length-append codes (statement_codes ls w.maps) in let j = codes-many (length drains) ls w.maps wl in omega (arith, k, j, nc, counted)) in
      let at : first + length (statements_of ls) ≡ first + length ls = ap (λ k. first + k) (length-map ls (λ (k : Line). k.statement)) in
      let site : ℕ → Site = λ k. record { scene = scene; names = w.names; statement = k } in
      agree-last program scene step codes w d st hm bs ds n nc a ((meaning_of l.statement.value).value (site (first + length (statements_of ls))) 0) (operation_values program scene (span_in s program step) d c.ops) refl
      (ap (λ k. (meaning_of l.statement.value).value (site k) 0) at ∙ c.value sound program scene step w.names d st n dn a.0)

  -- the operations with those of one more statement
  have-push : HaveValues frame upper s start drains first new (added ++ one) (ls ++ l ∷ []) (xs ++ x ∷ [])
  have-push =
      let longer : length old ≤ length new = (let g = grown in omega (arith, g)) in
      let wider : m ≤ length drains + length (added ++ one) = (let b = below-is in omega (arith, b)) in
      record {
        last = λ name kind r. subst (λ k. HasLastKind (readable frame.sampled upper) s new k name kind (last_operand s 0 (length drains) (ls ++ l ∷ []) name)) below-is (subst (HasLastKind (readable frame.sampled upper) s new (m + length one) name kind) (sym (number name)) (last-push name kind (gives_name l name) refl (down name kind r)));
        due = due-push s (length old) (length new) added one longer h.due c.due;
        below = λ program b. all-below-push m (length drains + length (added ++ one)) xs x wider (h.below program (less program b)) (subst (λ k. DrainsBelow k x) below-is (c.facts program (stands program b) refl (next program b)).below);
        before = λ program b. all-before-push s (length new) xs x (all-before-more s (length old) (length new) xs longer (h.before program (less program b))) (c.facts program (stands program b) refl (next program b)).before;
        agree = λ sound program scene step names begun b none nc hm.
            let both = sound-split ls l sound in
            let begin : After = record { names = names; maps = [] } in
            let empty : length (maps_in s begun) ≡ 0 = ap length none in
            let a = section_value scene first names (statements_of ls) in
            let r = staged_values program scene (span_in s program step) begun added old in
            let split-a = ap (after_statements scene first begin) (map-append (λ (k : Line). k.statement) ls (l ∷ [])) ∙ after_statements-append scene first begin (statements_of ls) (l.statement ∷ []) in
            let split-b = ap (staged_values program scene (span_in s program step) begun (added ++ one)) c.appended ∙ staged-push s program scene step added one begun old c.ops empty h.due (subst (λ os. IsDueAt s (length os) one) c.appended c.due) in
            subst (λ q. Agree G' H' scene begun.drains (ls ++ l ∷ []) (xs ++ x ∷ []) q (staged_values program scene (span_in s program step) begun (added ++ one) new)) (sym split-a) (subst (Agree G' H' scene begun.drains (ls ++ l ∷ []) (xs ++ x ∷ []) (a >>= λ w. after_statements scene (first + length (statements_of ls)) w (l.statement ∷ []))) (sym split-b) (agree-push both.1 program scene step begun.drains (stands program b) refl (h.before program (less program b)) (h.below program (less program b)) nc a r (λ d is. staged-count s program scene step added begun old d empty h.due is) (h.agree both.0 program scene step names begun (less program b) none nc hm)));
        formed = λ sound program b.
            let both = sound-split ls l sound in
            let f = h.formed both.0 program (less program b) in
            let st = stands program b in
            let k = c.formed both.1 program st refl (next program b) in
            let facts = c.facts program st refl (next program b) in (
              subst (HaveForm program s 0) (sym c.appended) (form-append program s 0 old c.ops f.0 (subst (λ n. HaveForm program s n c.ops) (let z : length old ≡ 0 + length old = omega arith in z) k.1)),
              uses-append program (length drains) added one f.1 k.2,
              values-push program s (length new) ls xs l x (values-more program s (length old) (length new) ls xs longer f.2) (record {
                kind = facts.kind;
                given = k.0;
                own = λ none. own-made s new (m + length one) l.kind x (λ ldd. sym within ∙ (fit.drain ldd).0) (subst (IsMade s new (m + length one) l.kind) (sym (c.own none)) (c.made none));
              }),
            );
      }

-- ---- what was written gives a statement's value

no-mask : (g : Ground) (t : Tree) → SideFits g t → is_kind Ldd (meaning_of t).kind ≡ false → fits g t ≡ true
no-mask g t (inl f) h = f
no-mask g t (inr f) h = let z = sym (ap (λ u. is_kind Ldd (meaning_of u).kind) f.is ∙ ap (λ (w : TreeMeaning). is_kind Ldd w.kind) (meaning_of-Mask f.operands)) ∙ h in cc

made-own : (s : Section) (ops : List Operation) (m n : ℕ) (kind : Kind) → n < length ops → operation_kind ops n ≡ Some kind → is_kind Ldd kind ≡ false → IsMade s ops m kind (own_operand s n)
made-own Initial ops m n kind a b c = (a, b, c)
made-own Dynamic ops m n kind a b c = (a, b, c)

within-get : (ds : List DrainUse) (n : ℕ) (d : DrainUse) → slice_get ds n ≡ Some d → n < length ds
within-get [] n d h = absurd (let z = h in cc)
within-get (x ∷ ds) zero d h = omega arith
within-get (x ∷ ds) (suc n) d h = let k = within-get ds n d h in omega (arith, k)

module _ (frame : Frame) (above : List Line) (s : Section) (holder : Holder) (m : ℕ) (old new : List Operation) (number : ℕ) (l : Line) (fit : LineFits frame above l) (within : l.section ≡ s) where
  abbrev g : Ground
  g = ground_at frame s above

  side : SideFits g l.statement.value
  side = subst (λ u. SideFits (ground_at frame u above) l.statement.value) within fit.value

  -- a statement that is no drain map
  gives-map : (x : Operand) → is_kind Ldd l.kind ≡ false → (fits g l.statement.value ≡ true → Emits s g holder old new number (length old) l.statement.value x) → LineGives s g holder m old new number l [] x
  gives-map x plain emits =
      let e = emits (no-mask g l.statement.value side (ap (is_kind Ldd) fit.kind ∙ plain)) in
      let grown : length new ≡ length old + operations_of l.statement.value = ap length e.appended ∙ length-append old e.added ∙ ap (λ n. length old + n) e.count in
      let some : l.sample ≡ None → 0 < operations_of l.statement.value = λ none. fit.operation none plain in
      let place : length new - 1 ≡ length old + operations_of l.statement.value - 1 = omega (arith, grown) in
      let own : line_operand s (length old) m l ≡ own_operand s (length new - 1) = ap (λ b. if b then from.Drain m else own_operand s (length old + operations_of l.statement.value - 1)) plain ∙ ap (own_operand s) (sym place) in
      record {
        ops = e.added;
        appended = e.appended;
        single = plain;
        due = tt;
        own = λ none. e.last (some none) ∙ sym own;
        made = λ none. let k = some none in subst (IsMade s new (m + 0) l.kind) (sym own) (made-own s new (m + 0) (length new - 1) l.kind (omega (arith, k, grown)) (e.last_kind k ∙ ap Some fit.kind) plain);
        facts = λ program st hm hn. record { kind = e.kind program st ∙ ap Some fit.kind; before = e.before program st; below = below-more m (m + 0) x (omega arith) (subst (λ k. DrainsBelow k x) hm (below-of st.around.drains (meaning_of l.statement.value).kind x (e.drain program st))) };
        value = λ sound program scene step names done st n nd h. (let z : 0 ≡ length old - length old = omega arith in ap ((meaning_of l.statement.value).value (record { scene = scene; names = names; statement = number })) z) ∙ e.value sound program scene step names done st n h;
        formed = λ sound program st hm hn. let f = e.formed sound program st in (f.0, f.1, tt);
      }

  given-next : (program : Program) (d : DrainUse) → s ≡ Initial → d.after ≤ length new → slice_get program.drains m ≡ Some d → IsGiven program s (length new) (from.Drain m)
  given-next program d initial after h = subst (λ u. IsGiven program u (length new) (from.Drain m)) (sym initial) (record { read = record { within = within-get program.drains m d h; after = subst (λ o. IfSome o (λ e. e.after ≤ length new)) (sym h) after }; used = refl })

  count-initial : (program : Program) → s ≡ Initial → IsBegun s new program → length new ≤ length program.initial
  count-initial program initial b = at-initial (subst (λ u. IsBegun u new program) initial b)
    where
      at-initial : IsBegun Initial new program → length new ≤ length program.initial
      at-initial b = let k = ap length b.is ∙ length-append new b.more in omega (arith, k)

  -- a statement that is a drain map
  gives-drain : (comes : DrainFrom) → is_kind Ldd l.kind ≡ true → EmitsDrain s g holder old new number (length old) l.statement.value comes → LineGives s g holder m old new number l (record { from = comes; after = length new } ∷ []) (from.Drain m)
  gives-drain comes ldd e =
      let where-it-stands = fit.drain ldd in
      let initial : s ≡ Initial = sym within ∙ where-it-stands.0 in
      let kind : l.kind ≡ Ldd = sym (same_kind Ldd l.kind ldd) in
      let means : (meaning_of l.statement.value).kind ≡ Ldd = fit.kind ∙ kind in
      let one : DrainUse = record { from = comes; after = length new } in
      let own : from.Drain m ≡ line_operand s (length old) m l = ap (λ b. if b then from.Drain m else own_operand s (length old + operations_of l.statement.value - 1)) (sym ldd) in
      let same : length new ≤ length new = omega arith in
      record {
        ops = e.added;
        appended = e.appended;
        single = (ldd, refl);
        due = (refl, refl, initial);
        own = λ none. own;
        made = λ none. let next : m < m + 1 = omega arith in subst (IsMade s new (m + 1) l.kind) own (next, kind);
        facts = λ program st hm hn. record { kind = ap (option_map (λ (d : DrainUse). Ldd)) hn ∙ ap Some (sym kind); before = before-drain s (length new) m; below = omega arith };
        value = λ sound program scene step names done st n nd h.
            (let z : 0 ≡ length old - length old = omega arith in ap ((meaning_of l.statement.value).value (record { scene = scene; names = names; statement = number })) z)
            ∙ e.value sound means program scene step names done st n h
            ∙ bind-known (operation_values program scene (span_in s program step) done e.added) (λ after. Ok (drain_codes scene after comes)) (λ after. Ok (operand_map scene (with_drain after (drain_codes scene after comes)) (from.Drain m))) (λ after is.
            let adds = values-add s program scene step e.added done after is in
            let many : length after.drains ≡ m = ap (λ (y : Done). length y.drains) adds.is ∙ ap length (drains-stay s done adds.added) ∙ nd in
            ap Ok (sym (ap (λ k. nth (after.drains ++ drain_codes scene after comes ∷ []) k) (sym many) ∙ get_or-append_seam after.drains (drain_codes scene after comes) [] [])));
        formed = λ sound program st hm hn.
            let f = e.formed sound means initial program st in (
              given-next program one initial same hn,
              f.1,
              (record { from = subst (λ k. IsFrom program k (length new) comes) hm f.0; within = count-initial program initial st.begins }, tt),
            );
      }

-- ---- sections

due-none : (s : Section) → AreDueBehind s 0 []
due-none Initial = tt
due-none Dynamic = refl

-- no operations have the values of no statements
have-none : (frame : Frame) (upper : List Line) (s : Section) (start : Holder) (drains : List DrainUse) (first : ℕ) → HaveValues frame upper s start drains first [] [] [] []
have-none frame upper s start drains first = record {
  last = λ name kind r. ap (λ above. readable frame.sampled above name) (sym (append-nil upper)) ∙ r;
  due = due-none s;
  below = λ program b. tt;
  before = λ program b. tt;
  agree = λ sound program scene step names begun b none nc hm. (record { named = λ name kind r. hm.named name kind (ap (λ above. readable frame.sampled above name) (sym (append-nil upper)) ∙ r); drained = hm.drained }, refl, sym (append-nil begun.drains));
  formed = λ sound program b. (tt, tt, refl);
}

-- nothing was written of no statements
pub written-none : (s : Section) (bound : Bound) (numbers : List ℕ) (start : Holder) (first : ℕ) (drains : List DrainUse) (outputs : List OutputUse) → AreWritten s bound numbers start first [] start [] drains drains outputs outputs
written-none s bound numbers start first drains outputs = record {
  count = refl;
  listed_in = refl;
  operands = [];
  as_many = refl;
  added = [];
  drains_in = sym (append-nil drains);
  shown = refl;
  outputs_in = sym (append-nil outputs);
  held = λ name. refl;
  values = λ frame upper counted few fit within at. have-none frame upper s start drains first;
}

shown-many : (k before : ℕ) (ls : List Line) → k + length (statement_drains before ls) ≡ total_drains k ls
shown-many k before [] = omega arith
shown-many k before (l ∷ ls) = by-test (is_kind Ldd l.kind) (λ j. shown-many j (before + operations_of l.statement.value) ls)
  where
    by-test : (b : Bool) → ((j : ℕ) → j + length (statement_drains (before + operations_of l.statement.value) ls) ≡ total_drains j ls) → k + length (if b then record { input = None; after = before + operations_of l.statement.value } ∷ statement_drains (before + operations_of l.statement.value) ls else statement_drains (before + operations_of l.statement.value) ls) ≡ total_drains (if b then k + 1 else k) ls
    by-test true f = let e = f (k + 1) in (let z : k + suc (length (statement_drains (before + operations_of l.statement.value) ls)) ≡ k + 1 + length (statement_drains (before + operations_of l.statement.value) ls) = omega arith in z) ∙ e
    by-test false f = f k

-- one more statement was written, which gives its value so
written-next : (s : Section) (bound : Bound) (numbers : List ℕ) (start holder later : Holder) (first : ℕ) (ls : List Line) (l : Line) (old new : List Operation) (drains middle more one : List DrainUse) (outputs mid last : List OutputUse) (x : Operand) → AreWritten s bound numbers start first ls holder old drains middle outputs mid → ListsTree old new (first + length ls) (length old) l.statement.value → more ≡ middle ++ one → map as_shown_drain one ≡ (if is_kind Ldd l.kind then record { input = None; after = length new } ∷ [] else []) → last ≡ mid ++ output_with bound (first + length ls) l x → ((name : List ℕ) → later name ≡ (if gives_name l name then line_operand s (length old) (length middle) l else holder name)) → ((frame : Frame) (upper : List Line) → numbers ≡ drain_numbers 0 frame.inputs → LineFits frame (upper ++ ls) l → l.section ≡ s → LineGives s (ground_at frame s (upper ++ ls)) holder (length middle) old new (first + length ls) l one x) → AreWritten s bound numbers start first (ls ++ l ∷ []) later new drains more outputs last
written-next s bound numbers start holder later first ls l old new drains middle more one outputs mid last x w listed hd hs ho hh gives =
    let n = w.count in
    let k = listed.count in
    let t = total-push ls l in
    let single : length old - length old + 1 ≡ 1 = omega arith in
    let same : holder ≡ held_below s (length drains) start ls = fun_ext w.held in
    let mids : length middle ≡ length drains + length w.added = ap length w.drains_in ∙ length-append drains w.added in
    let counted : total_drains (length drains) ls ≡ length drains + length w.added = (let e = ap length w.shown in let m = length-map w.added as_shown_drain in let j = shown-many (length drains) 0 ls in omega (arith, e, m, j)) in
    let behind : length new ≡ 0 + total_operations ls + operations_of l.statement.value = omega (arith, n, k) in
    let before : 0 + total_operations ls ≡ length old = omega (arith, n) in
    record {
      count = omega (arith, n, k, t);
      listed_in = listed.listed ∙ ap (λ os. os ++ numbered_operations (first + length ls) (length old - length old + 1) (post_order l.statement.value)) w.listed_in ∙ ap (λ i. operations_from first ls ++ numbered_operations (first + length ls) i (post_order l.statement.value)) single ∙ sym (listed-push first ls l);
      operands = w.operands ++ x ∷ [];
      as_many = length-append w.operands (x ∷ []) ∙ ap (λ i. i + 1) w.as_many ∙ sym (length-append ls (l ∷ []));
      added = w.added ++ one;
      drains_in = hd ∙ ap (λ ds. ds ++ one) w.drains_in ∙ append_assoc drains w.added one;
      shown = map-append as_shown_drain w.added one ∙ ap (λ ds. ds ++ map as_shown_drain one) w.shown ∙ ap (λ ds. statement_drains 0 ls ++ ds) (hs ∙ ap (λ i. if is_kind Ldd l.kind then record { input = None; after = i } ∷ [] else []) behind) ∙ sym (drains-push 0 ls l);
      outputs_in = ho ∙ ap (λ us. us ++ output_with bound (first + length ls) l x) w.outputs_in ∙ append_assoc outputs (outputs_with bound first ls w.operands) (output_with bound (first + length ls) l x) ∙ ap (λ us. outputs ++ us) (sym (outputs-push bound first ls w.operands l x w.as_many));
      held = λ name. hh name ∙ ap (λ o. if gives_name l name then line_operand s (length old) (length middle) l else o) (w.held name) ∙ ap (λ i. if gives_name l name then line_operand s (length old) i l else held_below s (length drains) start ls name) (mids ∙ sym counted) ∙ ap (λ i. if gives_name l name then line_operand s i (total_drains (length drains) ls) l else held_below s (length drains) start ls name) (sym before) ∙ by-test name (gives_name l name) (line_operand s (0 + total_operations ls) (total_drains (length drains) ls) l) ∙ sym (ap (λ o. unwrap_or o (start name)) (last_operand-push s 0 (length drains) ls l name));
      values = λ frame upper hn few fit within at.
          let f = fit-split frame upper ls l fit in
          let i = in-split s ls l within in
          have-push frame upper s start drains first old new w.added one ls l w.operands x f.1 i.1 n k counted w.as_many (w.values frame upper hn few f.0 i.0 at) (subst (λ y. LineGives s (ground_at frame s (upper ++ ls)) y (length drains + length w.added) old new (first + length ls) l one x) same (subst (λ j. LineGives s (ground_at frame s (upper ++ ls)) holder j old new (first + length ls) l one x) mids (gives frame upper hn f.1 i.1)));
    }
  where
    by-test : (name : List ℕ) (b : Bool) (y : Operand) → (if b then y else held_below s (length drains) start ls name) ≡ unwrap_or (if b then Some y else last_operand s 0 (length drains) ls name) (start name)
    by-test name true y = refl
    by-test name false y = refl

-- the operations and the drain maps with those of one more statement
pub adds-count : (s : Section) (bound : Bound) (numbers : List ℕ) (holder later : Holder) (old new : List Operation) (ds more : List DrainUse) (us vs : List OutputUse) (n : ℕ) (l : Line) → AddsLine s bound numbers holder later old new ds more us vs n l → length new ≡ length old + operations_of l.statement.value
adds-count s bound numbers holder later old new ds more us vs n l (inl h) = h.2.listed.count
adds-count s bound numbers holder later old new ds more us vs n l (inr h) = h.1.listed.tree.count

pub adds-drains : (s : Section) (bound : Bound) (numbers : List ℕ) (holder later : Holder) (old new : List Operation) (ds more : List DrainUse) (us vs : List OutputUse) (n : ℕ) (l : Line) → AddsLine s bound numbers holder later old new ds more us vs n l → length more ≤ length ds + 1
adds-drains s bound numbers holder later old new ds more us vs n l (inl h) = let e = ap length h.1 in omega (arith, e)
adds-drains s bound numbers holder later old new ds more us vs n l (inr h) = let e = ap length h.1.drains_in ∙ length-append ds (record { from = h.1.comes; after = length new } ∷ []) in omega (arith, e)

-- one more statement was written
pub written-push : (s : Section) (bound : Bound) (numbers : List ℕ) (start holder later : Holder) (first : ℕ) (ls : List Line) (l : Line) (old new : List Operation) (drains middle more : List DrainUse) (outputs mid last : List OutputUse) → AreWritten s bound numbers start first ls holder old drains middle outputs mid → AddsLine s bound numbers holder later old new middle more mid last (first + length ls) l → AreWritten s bound numbers start first (ls ++ l ∷ []) later new drains more outputs last
written-push s bound numbers start holder later first ls l old new drains middle more outputs mid last w (inl (plain, same, a)) =
    let k = a.listed.count in
    let place : length new - 1 ≡ length old + operations_of l.statement.value - 1 = omega (arith, k) in
    let own : own_operand s (length new - 1) ≡ line_operand s (length old) (length middle) l = ap (own_operand s) place ∙ ap (λ b. if b then from.Drain (length middle) else own_operand s (length old + operations_of l.statement.value - 1)) (sym plain) in
    written-next s bound numbers start holder later first ls l old new drains middle more [] outputs mid last a.operand w a.listed (same ∙ sym (append-nil middle)) (ap (λ b. if b then record { input = None; after = length new } ∷ [] else []) (sym plain)) a.outputs_in (λ name. a.held name ∙ ap (λ o. if gives_name l name then o else holder name) own) (λ frame upper hn fit within. gives-map frame (upper ++ ls) s holder (length middle) old new (first + length ls) l fit within a.operand plain (a.emits (ground_at frame s (upper ++ ls)) hn))
written-push s bound numbers start holder later first ls l old new drains middle more outputs mid last w (inr (ldd, a)) =
    let own : from.Drain (length middle) ≡ line_operand s (length old) (length middle) l = ap (λ b. if b then from.Drain (length middle) else own_operand s (length old + operations_of l.statement.value - 1)) (sym ldd) in
    let shows : ShownDrain = record { input = None; after = length new } in
    written-next s bound numbers start holder later first ls l old new drains middle more (record { from = a.comes; after = length new } ∷ []) outputs mid last (from.Drain (length middle)) w a.listed.tree a.drains_in (ap (λ i. shown-as i (length new) ∷ []) a.listed.computed ∙ ap (λ b. if b then shows ∷ [] else []) (sym ldd)) a.outputs_in (λ name. a.held name ∙ ap (λ o. if gives_name l name then o else holder name) own) (λ frame upper hn fit within. gives-drain frame (upper ++ ls) s holder (length middle) old new (first + length ls) l fit within a.comes ldd (a.emits (ground_at frame s (upper ++ ls)) hn (side frame (upper ++ ls) s holder (length middle) old new (first + length ls) l fit within)))
  where
    shown-as : Option ℕ → ℕ → ShownDrain
    shown-as i n = record { input = i; after = n }

-- ---- the start of a step

carried-twice : (n k : ℕ) (x : Operand) → carried_operand n (carried_operand k x) ≡ carried_operand n x
carried-twice n k from.Unused = refl
carried-twice n k (from.Literal kind cell) = refl
carried-twice n k from.Time = refl
carried-twice n k (from.Input i) = refl
carried-twice n k (from.Stack i) = refl
carried-twice n k (from.Initial i) = refl
carried-twice n k (from.Now i) = refl
carried-twice n k (from.Last d i) = refl
carried-twice n k (from.Drain i) = refl

-- what names had before, with one more statement
pub carried-push : (start : Holder) (ls : List Line) (l : Line) (below : ℕ) (name : List ℕ) (old new : Operand) → below ≡ total_operations ls + operations_of l.statement.value → old ≡ held_before start ls name → new ≡ (if gives_name l name then carried_operand (below - 1) old else old) → new ≡ held_before start (ls ++ l ∷ []) name
carried-push start ls l below name old new hb ho hn =
    let e : below - 1 ≡ 0 + total_operations ls + operations_of l.statement.value - 1 = omega (arith, hb) in
    hn ∙ ap (λ x. if gives_name l name then carried_operand (below - 1) x else x) ho ∙ ap (λ n. if gives_name l name then carried_operand n (held_before start ls name) else held_before start ls name) e
    ∙ by-test (gives_name l name) (last_number 0 ls name) (0 + total_operations ls + operations_of l.statement.value - 1)
    ∙ sym (ap (λ o. carried_or o (start name)) (last_number-push 0 ls l name))
  where
    by-test : (b : Bool) (o : Option ℕ) (n : ℕ) → (if b then carried_operand n (carried_or o (start name)) else carried_or o (start name)) ≡ carried_or (if b then Some n else o) (start name)
    by-test true None n = refl
    by-test true (Some k) n = carried-twice n k (start name)
    by-test false o n = refl
