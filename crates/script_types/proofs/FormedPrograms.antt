-- That the program of a script is that of its statements, has their values, and is well formed.
use Rattle.std.proofs.Common.{◌≡◌, ◌<◌, ◌≤◌, ℕ, ◌+◌, ◌==◌, Bool, true, false, not, ◌&&◌, ◌||◌, List, [], ◌∷◌, ◌++◌, map, filter, length, refl, sym, ap, subst, ◌∙◌, if◌then◌else◌, arith, append-nil, length-append}
use Rattle.std.specs.Prelude.{Option, None, Some, Ok, IsTrue, nat_le, nat_lt}
use Rattle.std.specs.Char.{is_ascii_digit}
use Rattle.std.specs.List.{find, list_all}
use Rattle.std.specs.Option.{unwrap_or}
use Rattle.std.specs.Str.{bytes_eq}
use Rattle.std.proofs.lemmas.List.{map-append}
use Rattle.std.proofs.lemmas.List.Folds.{list_all-append}
use mathlib.Core.Path.{fun_ext}
use Rattle.text_base.specs.Bytes.{hyphen, is_file_byte, is_letter, is_word_byte, plus, point, underscore}
use Rattle.text_base.specs.Limits.{longest_word}
use Rattle.text_base.specs.Words.{begins_word, is_file_word}
use Rattle.cell_values.specs.declared.kind.Kind.TheVariants.{Ldd, Scalar}
use Rattle.script_syntax.specs.Listed.{is_long_word}
use Rattle.script_syntax.specs.Spelling.{is_word_text}
use Rattle.script_syntax.specs.WellMade.{IsWellMade, is_name, is_reserved, is_target, is_well_made_binding}
use Rattle.script_syntax.specs.declared.tree.Binding.{Binding}
use Rattle.script_syntax.specs.declared.tree.Script.{Script}
use Rattle.script_syntax.specs.declared.tree.Target.{Target}
use Rattle.script_syntax.specs.declared.tree.Target.TheVariants as target
use Rattle.map_meaning.specs.declared.program.DrainUse.{DrainUse}
use Rattle.map_meaning.specs.declared.program.InputUse.{InputUse}
use Rattle.map_meaning.specs.declared.program.Operand.{Operand}
use Rattle.map_meaning.specs.declared.program.Program.{Program}
use Rattle.map_meaning.specs.declared.program.Role.TheVariants.{Grid}
use Rattle.map_meaning.specs.Programs.{AreDrainUses, IsOutput, IsWellFormed, StandsBefore, SuitsRole, is_stack_role}
use Rattle.script_types.specs.declared.typed.Line.{Line}
use Rattle.script_types.specs.declared.typed.Section.{Section}
use Rattle.script_types.specs.declared.typed.Section.TheVariants.{Initial, Dynamic}
use Rattle.script_types.specs.Answers.{IsProgramOf}
use Rattle.script_types.specs.Lowered.{as_listed, as_shown, as_shown_drain, grid_input, input_drains, input_of, inputs_of, lines_in, outputs_from, total_operations}
use Rattle.script_types.specs.Meaning.{meaning}
use Rattle.script_types.specs.Names.{binding_of, file_by, is_assigned, is_input_by, is_number_target, is_used, target_file, used_inputs}
use Rattle.script_types.specs.Reports.{Bound, area_files, file_written}
use Rattle.script_types.specs.Values.{HasValues}
use Rattle.script_types.specs.inside.Drains.{drain_number, input_uses}
use Rattle.script_types.specs.inside.FitLines.{Frame, LinesFit, script_frame}
use Rattle.script_types.specs.inside.Fits.{is_input_of}
use Rattle.script_types.specs.inside.Programs.{IsProgramWritten, nothing_held}
use Rattle.script_types.specs.inside.Sections.{HaveForm}
use Rattle.script_types.specs.inside.Sound.{are_sound, is_sound}
use Rattle.script_types.specs.inside.Written.{AreIn, AreValuesOf, HaveValues, carried_or, held_before, held_below, last_number, last_operand, outputs_with}
use Rattle.script_types.proofs.BegunPrograms.{begins-dynamic, begins-initial}
use Rattle.script_types.proofs.DrainInputs.{drain-below, inputs-uses, shown-inputs, uses-append}
use Rattle.script_types.proofs.FitLemmas.{both-left, both-right}
use Rattle.script_types.proofs.FoundInputs.{bound-first}
use Rattle.script_types.proofs.KeptPrograms.{IsKeptAs, drains-same, dynamic-count, initial-count, listed-where, operations-same, step-operations-same}
use Rattle.script_types.proofs.Orders.{drains-few, drains-order, operations-below, operations-order, outputs-few, outputs-order}
use Rattle.script_types.proofs.Outputs.{outputs-there, samples-fit, shown-both, shown-with}
use Rattle.script_types.proofs.Pairwise.{Each, all-each, all-pairs, each-append, each-map, each-weaken}
use Rattle.script_types.proofs.ProgramLemmas.{inputs-few}
use Rattle.script_types.proofs.ProgramValues.{AreKnown, both-values, kept-values}
use Rattle.script_types.proofs.RowKinds.{both-are}
use Rattle.script_types.proofs.SectionLines.{HaveOrder, in-section, lines-order, sections-fit}
use Rattle.script_types.proofs.SettledFits.{has-lines, lines-fit, lines-named, lines-sound}
use Rattle.script_types.proofs.SettledInputs.{area-form, area-grid, each-first, each-last, inputs-suit}
use Rattle.script_types.proofs.SettledStacks.{few-stack-outputs, few-stacks-read}

-- ---- names are file words

or-left : (a b : Bool) → a ≡ true → (a || b) ≡ true
or-left true b h = refl
or-left false b h = cc

file-byte : (b : ℕ) → is_word_byte b ≡ true → is_file_byte b ≡ true
file-byte b h = or-left (is_word_byte b || (b == point) || (b == hyphen)) (b == plus) (or-left (is_word_byte b || (b == point)) (b == hyphen) (or-left (is_word_byte b) (b == point) h))

file-bytes : (bs : List ℕ) → list_all is_word_byte bs ≡ true → list_all is_file_byte bs ≡ true
file-bytes [] h = refl
file-bytes (b ∷ bs) h = both-are (is_file_byte b) (list_all is_file_byte bs) (file-byte b (both-left (is_word_byte b) (list_all is_word_byte bs) h)) (file-bytes bs (both-right (is_word_byte b) (list_all is_word_byte bs) h))

short-enough : (n : ℕ) → not (nat_lt longest_word n) ≡ true → nat_le n longest_word ≡ true
short-enough n h = grind (arith, h)

word-file : (w : List ℕ) → is_word_text w ≡ true → not (is_long_word w) ≡ true → is_file_word w ≡ true
word-file [] h hl = cc
word-file (b ∷ bs) h hl =
    let letter = both-left (is_letter b) (list_all is_word_byte bs) h in
    let word = or-left (is_letter b || is_ascii_digit b) (b == underscore) (or-left (is_letter b) (is_ascii_digit b) letter) in
    both-are (begins_word (b ∷ bs) && list_all is_file_byte (b ∷ bs)) (nat_le (length (b ∷ bs)) longest_word)
    (both-are (begins_word (b ∷ bs)) (list_all is_file_byte (b ∷ bs)) word (both-are (is_file_byte b) (list_all is_file_byte bs) (file-byte b word) (file-bytes bs (both-right (is_letter b) (list_all is_word_byte bs) h))))
    (short-enough (length (b ∷ bs)) hl)

-- a name is a file word
name-file : (w : List ℕ) → is_name w ≡ true → is_file_word w ≡ true
name-file w h = word-file w (both-left (is_word_text w) (not (is_reserved w)) (both-left (is_word_text w && not (is_reserved w)) (not (is_long_word w)) h)) (both-right (is_word_text w && not (is_reserved w)) (not (is_long_word w)) h)

-- ---- files

bound-file : (to : Target) (name : List ℕ) → is_target to ≡ true → is_number_target to ≡ false → is_file_word (target_file to name) ≡ true
bound-file (target.File file) name h hn = h
bound-file (target.Number text) name h hn = cc

named-file : (to : Target) (name : List ℕ) → is_target to ≡ true → is_name name ≡ true → is_file_word (target_file to name) ≡ true
named-file (target.File file) name h hn = h
named-file (target.Number text) name h hn = name-file name hn

found-all : (p q : Binding → Bool) (xs : List Binding) (y : Binding) → list_all q xs ≡ true → find p xs ≡ Some y → q y ≡ true
found-all p q [] y ha h = cc
found-all p q (x ∷ xs) y ha h = by-test (p x) (both-left (q x) (list_all q xs) ha) (found-all p q xs y (both-right (q x) (list_all q xs) ha)) h
  where
    by-test : (t : Bool) → q x ≡ true → (find p xs ≡ Some y → q y ≡ true) → (if t then Some x else find p xs) ≡ Some y → q y ≡ true
    by-test true hq ih g = let e : x ≡ y = cc in sym (ap q e) ∙ hq
    by-test false hq ih g = ih g

-- the file of a report
written-file : (script : Script) (name : List ℕ) → list_all is_well_made_binding script.bindings ≡ true → is_name name ≡ true → is_file_word (file_by (binding_of script name) name) ≡ true
written-file script name hb hn = by-bound (binding_of script name) refl
  where
    by-bound : (o : Option Binding) → binding_of script name ≡ o → is_file_word (file_by o name) ≡ true
    by-bound None e = name-file name hn
    by-bound (Some b) e = named-file b.target name (both-right (is_name b.name) (is_target b.target) (found-all (λ c. bytes_eq name c.name) is_well_made_binding script.bindings b hb (sym (bound-first script.bindings name) ∙ e))) hn

written-files : (script : Script) (lines : List Line) → list_all is_well_made_binding script.bindings ≡ true → Each (λ l. is_name l.statement.target ≡ true) lines → Each (λ l. is_file_word (file_written (binding_of script) l) ≡ true) lines
written-files script lines hb h = each-weaken (λ (l : Line). is_name l.statement.target ≡ true) (λ l. is_file_word (file_written (binding_of script) l) ≡ true) lines (λ l hn. written-file script l.statement.target hb hn) h

files-if : (t : Bool) (p : Binding → Bool) (b : Binding) (rest : List Binding) → p b ≡ t → (p b ≡ true → is_file_word (target_file b.target b.name) ≡ true) → Each (λ c. is_file_word (target_file c.target c.name) ≡ true) rest → Each (λ c. is_file_word (target_file c.target c.name) ≡ true) (if t then b ∷ rest else rest)
files-if true p b rest e h hr = (h e, hr)
files-if false p b rest e h hr = hr

used-files : (p : Binding → Bool) (bs : List Binding) → ((b : Binding) → p b ≡ true → is_number_target b.target ≡ false) → list_all is_well_made_binding bs ≡ true → Each (λ b. is_file_word (target_file b.target b.name) ≡ true) (filter p bs)
used-files p [] hp h = tt
used-files p (b ∷ bs) hp h = files-if (p b) p b (filter p bs) refl (λ e. bound-file b.target b.name (both-right (is_name b.name) (is_target b.target) (both-left (is_well_made_binding b) (list_all is_well_made_binding bs) h)) (hp b e)) (used-files p bs hp (both-right (is_well_made_binding b) (list_all is_well_made_binding bs) h))

no-number : (a : Bool) → not a ≡ true → a ≡ false
no-number false h = refl
no-number true h = cc

-- the files of the inputs
input-files : (script : Script) → IsWellMade script → Each (λ i. is_file_word i.file ≡ true) (inputs_of script)
input-files script hm =
    let p = is_input_by (is_assigned script) (is_used script) in
    each-append (λ (i : InputUse). is_file_word i.file ≡ true) (map (λ file. grid_input file Scalar) (area_files (binding_of script script.area) script.area)) (map (input_of script) (used_inputs script))
    (area-file (binding_of script script.area))
    (each-map (input_of script) (λ i. is_file_word i.file ≡ true) (used_inputs script) (used-files p script.bindings (λ b h. no-number (is_number_target b.target) (both-left (not (is_number_target b.target)) (not (is_assigned script b.name)) (both-left (not (is_number_target b.target) && not (is_assigned script b.name)) (is_used script b.name) h))) hm.bindings))
  where
    area-file : (o : Option Binding) → Each (λ (i : InputUse). is_file_word i.file ≡ true) (map (λ file. grid_input file Scalar) (area_files o script.area))
    area-file None = (hm.area, tt)
    area-file (Some b) = tt

-- ---- the whole

each-in : (section : Section) (ls : List Line) → Each (λ l. l.section ≡ section) ls → AreIn section ls
each-in section [] h = tt
each-in section (l ∷ ls) h = (h.0, each-in section ls h.1)

-- the settled statements of a script without a fault, in two sections
module _ (script : Script) (lines : List Line) (program : Program) (made : IsWellMade script) (meant : meaning script ≡ Ok lines) (few-initial : total_operations (lines_in Initial lines) ≤ 8192) (few-dynamic : total_operations (lines_in Dynamic lines) ≤ 8192) (h : IsProgramWritten script lines program) where
  abbrev first : List Line
  first = lines_in Initial lines

  abbrev later : List Line
  later = lines_in Dynamic lines

  abbrev frame : Frame
  frame = script_frame script

  abbrev bound : Bound
  bound = binding_of script

  abbrev xs : List Operand
  xs = h.both.initial.operands

  abbrev ys : List Operand
  ys = h.both.dynamic.operands

  -- the drain maps of inputs, those of `initial`, and those of `dynamic`, of which there are none
  abbrev uses : List DrainUse
  uses = input_uses 0 (inputs_of script)

  abbrev firsts : List DrainUse
  firsts = h.both.initial.added

  abbrev others : List DrainUse
  others = h.both.dynamic.added

  -- the program before its operations are kept
  abbrev plain : Program
  plain = record { inputs = inputs_of script; initial = h.written.initial; dynamic = h.written.dynamic; drains = h.written.drains; outputs = h.written.outputs; area = program.area; steps = program.steps }

  abbrev same : IsKeptAs program plain
  same = record {
    inputs = h.inputs;
    drains = h.drains ∙ h.keeps.drains;
    outputs = h.outputs ∙ h.keeps.outputs;
    keep = h.keeps.keep;
    initial = h.initial ∙ h.keeps.initial;
    step_keep = h.keeps.step_keep;
    dynamic = h.dynamic ∙ h.keeps.dynamic;
  }

  order : HaveOrder script lines
  order = lines-order script lines meant

  fit : LinesFit frame [] first × LinesFit frame first later
  fit = sections-fit script frame lines order (lines-fit script lines meant)

  sound : (are_sound first ≡ true) × (are_sound later ≡ true)
  sound = let e = sym (ap are_sound order.split ∙ list_all-append (λ l. is_sound l.statement.value) first later) ∙ lines-sound script lines meant in (both-left (are_sound first) (are_sound later) e, both-right (are_sound first) (are_sound later) e)

  in-first : AreIn Initial first
  in-first = each-in Initial first (in-section Initial lines)

  in-later : AreIn Dynamic later
  in-later = each-in Dynamic later (in-section Dynamic lines)

  -- what names had before, as the definition has it
  none-is : h.both.none ≡ nothing_held
  none-is = fun_ext h.both.none_is

  before-is : h.both.before ≡ held_before (held_below Initial (length uses) nothing_held first) later
  before-is = fun_ext (λ name. h.both.before_is name ∙ ap (carried_or (last_number 0 later name)) (h.both.initial.held name ∙ ap (unwrap_or (last_operand Initial 0 (length uses) first name)) (h.both.none_is name)))

  -- the drain maps of inputs are written before any statement
  before-statements : (k : ℕ) → is_input_of frame.inputs Grid Ldd k ≡ true → drain_number frame.inputs k < length h.both.middle_drains
  before-statements k e =
      let b = drain-below (inputs_of script) k e in
      let all = ap length h.both.initial.drains_in ∙ length-append uses firsts in
      omega (arith, b, all)

  values-first : HaveValues frame [] Initial nothing_held uses 1 h.written.initial firsts first xs
  values-first = subst (λ s. HaveValues frame [] Initial s uses 1 h.written.initial firsts first xs) none-is (h.both.initial.values frame [] refl (drain-below (inputs_of script)) fit.0 in-first refl)

  values-later : HaveValues frame first Dynamic (held_before (held_below Initial (length uses) nothing_held first) later) (uses ++ firsts) (length first + 1) h.written.dynamic others later ys
  values-later = subst (λ ds. HaveValues frame first Dynamic (held_before (held_below Initial (length uses) nothing_held first) later) ds (length first + 1) h.written.dynamic others later ys) h.both.initial.drains_in
      (subst (λ s. HaveValues frame first Dynamic s h.both.middle_drains (length first + 1) h.written.dynamic others later ys) before-is (h.both.dynamic.values frame first refl before-statements fit.1 in-later refl))

  -- ---- the program of the statements

  outputs-are : h.written.outputs ≡ outputs_with bound 1 first xs ++ outputs_with bound (length first + 1) later ys
  outputs-are = h.both.dynamic.outputs_in ∙ ap (λ us. us ++ outputs_with bound (length first + 1) later ys) h.both.initial.outputs_in

  drains-are : h.written.drains ≡ (uses ++ firsts) ++ others
  drains-are = h.both.dynamic.drains_in ∙ ap (λ ds. ds ++ others) h.both.initial.drains_in

  all-drains : h.written.drains ≡ uses ++ firsts
  all-drains = drains-are ∙ ap (λ ds. (uses ++ firsts) ++ ds) values-later.due ∙ append-nil (uses ++ firsts)

  pub program-of : IsProgramOf script lines program
  program-of = record {
    inputs = h.inputs;
    area = h.area;
    operations = ap (map as_listed) same.initial ∙ listed-where same.keep 0 h.written.initial ∙ h.both.initial.listed_in;
    step_operations = ap (map as_listed) same.dynamic ∙ listed-where same.step_keep 0 h.written.dynamic ∙ h.both.dynamic.listed_in;
    drains =
        ap (map as_shown_drain) (same.drains ∙ all-drains)
        ∙ map-append as_shown_drain uses firsts
        ∙ ap (λ ds. ds ++ map as_shown_drain firsts) (shown-inputs 0 (inputs_of script))
        ∙ ap (λ ds. input_drains 0 (inputs_of script) ++ ds) h.both.initial.shown;
    outputs =
        ap (map as_shown) (same.outputs ∙ outputs-are)
        ∙ map-append as_shown (outputs_with bound 1 first xs) (outputs_with bound (length first + 1) later ys)
        ∙ ap (λ us. us ++ map as_shown (outputs_with bound (length first + 1) later ys)) (shown-with bound 1 first xs h.both.initial.as_many)
        ∙ ap (λ us. outputs_from bound 1 first ++ us) (shown-with bound (length first + 1) later ys h.both.dynamic.as_many)
        ∙ (let e : length first + 1 ≡ 1 + length first = omega arith in ap (λ n. outputs_from bound 1 first ++ outputs_from bound n later) e)
        ∙ sym (shown-both bound 1 first later)
        ∙ ap (outputs_from bound 1) (sym order.split);
    steps = h.steps;
  }

  -- ---- its values

  known : AreKnown frame first later firsts xs ys
  known = record {
    fit = fit.0;
    sound = sound.0;
    later_sound = sound.1;
    inside = in-first;
    later_inside = in-later;
    many = h.both.initial.as_many;
    later_many = h.both.dynamic.as_many;
    shown = h.both.initial.shown;
  }

  pub has-values : HasValues script lines program
  has-values = kept-values script lines program plain same (both-values frame first later fit.1 plain refl firsts others drains-are xs ys values-first values-later known script lines refl refl refl outputs-are)

  -- ---- its form

  formed-first : HaveForm plain Initial 0 h.written.initial × AreDrainUses plain (length uses) firsts × AreValuesOf plain Initial (length h.written.initial) first xs
  formed-first = values-first.formed sound.0 plain (begins-initial frame first later fit.1 plain refl firsts others drains-are xs ys values-first values-later)

  formed-later : HaveForm plain Dynamic 0 h.written.dynamic × AreDrainUses plain (length (uses ++ firsts)) others × AreValuesOf plain Dynamic (length h.written.dynamic) later ys
  formed-later = values-later.formed sound.1 plain (begins-dynamic frame first later fit.1 plain refl firsts others drains-are xs ys values-first values-later)

  formed-drains : AreDrainUses plain 0 h.written.drains
  formed-drains = let e : length uses ≡ 0 + length uses = omega arith in
      subst (AreDrainUses plain 0) (sym all-drains) (uses-append plain 0 uses firsts (inputs-uses plain (inputs_of script) refl) (subst (λ n. AreDrainUses plain n firsts) e formed-first.1))

  -- the program is well formed
  pub formed-program : IsWellFormed program
  formed-program =
      let p = program-of in
      let has = has-lines script lines meant in
      let named = lines-named script lines made has.all in
      let many = named.many in
      let most = made.statements in
      let few : length lines ≤ 1000 = omega (arith, many, most) in
      let parts = ap length order.split ∙ length-append first later in
      let steps = made.steps in
      let entries = made.entries in
      let files = written-files script lines made.bindings named.names in
      let split = subst (Each (λ l. is_file_word (file_written bound l) ≡ true)) order.split files in
      let count = initial-count program plain same in
      let step-count = dynamic-count program plain same in
      let total = h.both.initial.count in
      let step-total = h.both.dynamic.count in
      record {
        files = all-each (λ i. IsTrue (is_file_word i.file)) program.inputs (subst (Each (λ i. is_file_word i.file ≡ true)) (sym h.inputs) (input-files script made));
        roles = all-each (λ i. SuitsRole i.kind i.role) program.inputs (subst (Each (λ i. SuitsRole i.kind i.role)) (sym h.inputs) (inputs-suit script lines meant));
        area = area-form program script h.inputs h.area (area-grid script lines has);
        operations = operations-same program plain same h.keeps.kept formed-first.0;
        step_operations = step-operations-same program plain same h.keeps.step_kept formed-later.0;
        drains = drains-same program plain same formed-drains;
        drain_order = all-pairs (λ x y. x.after ≤ y.after) program.drains (drains-order program.drains (inputs_of script) first p.drains);
        order = all-pairs StandsBefore program.initial (operations-order 1 program.initial first p.operations);
        step_order = all-pairs StandsBefore program.dynamic (operations-order (length first + 1) program.dynamic later p.step_operations);
        outputs = all-each (IsOutput program) program.outputs (subst (Each (IsOutput program)) (sym (same.outputs ∙ outputs-are)) (each-append (IsOutput program) (outputs_with bound 1 first xs) (outputs_with bound (length first + 1) later ys)
            (outputs-there program plain same frame refl Initial bound 1 first xs in-first (samples-fit frame [] first fit.0) formed-first.2 (each-first (λ l. is_file_word (file_written bound l) ≡ true) first later split) (omega (arith, few, parts)))
            (outputs-there program plain same frame refl Dynamic bound (length first + 1) later ys in-later (samples-fit frame first later fit.1) formed-later.2 (each-last (λ l. is_file_word (file_written bound l) ≡ true) first later split) (omega (arith, few, parts)))));
        reports = all-pairs (λ x y. x.statement < y.statement) program.outputs (outputs-order bound 1 program.outputs lines p.outputs);
        few_inputs = (let e = ap length h.inputs in let k = inputs-few script entries in omega (arith, e, k));
        few_operations = omega (arith, count, total, few-initial);
        few_step_operations = omega (arith, step-count, step-total, few-dynamic);
        few_statements = all-each (λ o. o.statement ≤ 1000) program.initial (each-weaken (λ o. o.statement < 1 + length first) (λ o. o.statement ≤ 1000) program.initial (λ o k. (let z = k in omega (arith, z, few, parts))) (operations-below 1 program.initial first p.operations));
        few_step_statements = all-each (λ o. o.statement ≤ 1000) program.dynamic (each-weaken (λ o. o.statement < length first + 1 + length later) (λ o. o.statement ≤ 1000) program.dynamic (λ o k. (let z = k in omega (arith, z, few, parts))) (operations-below (length first + 1) program.dynamic later p.step_operations));
        few_drains = (let k = drains-few program.drains (inputs_of script) first p.drains in let i = inputs-few script entries in omega (arith, k, i, few, parts));
        few_outputs = (let k = outputs-few bound 1 program.outputs lines p.outputs in omega (arith, k, few));
        few_stacks = subst (λ is. length (filter (λ (i : InputUse). is_stack_role i.role) is) ≤ 64) (sym h.inputs) (few-stacks-read script lines meant);
        few_stack_outputs = few-stack-outputs script lines program.outputs meant p.outputs;
        few_steps = (let e = h.steps in omega (arith, e, steps));
      }
