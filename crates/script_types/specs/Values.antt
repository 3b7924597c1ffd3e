-- What the statements of a script report at each step, and that its program writes the same.
use Rattle.std.specs.Prelude.{◌≡◌, ℕ, zero, suc, ◌+◌, Bool, true, not, List, [], ◌∷◌, ◌++◌, filter, map, slice_get, Some}
use Rattle.std.specs.Prelude.{Result, Ok, if◌then◌else◌}
use Rattle.text_base.specs.Results.{◌>>=◌}
use Rattle.cell_values.specs.declared.kind.Kind.{Kind}
use Rattle.cell_values.specs.declared.kind.Kind.TheVariants.{Ldd}
use Rattle.script_syntax.specs.declared.tree.Script.{Script}
use Rattle.map_meaning.specs.declared.known.OverAt.{OverAt}
use Rattle.map_meaning.specs.declared.program.OutputKind.{OutputKind}
use Rattle.map_meaning.specs.declared.program.OutputUse.{OutputUse}
use Rattle.map_meaning.specs.declared.program.Program.{Program}
use Rattle.map_meaning.specs.declared.program.InputUse.{InputUse}
use Rattle.map_meaning.specs.Evaluation.{Done, nothing_done, operand_map, operation_values, staged_values}
use Rattle.map_meaning.specs.Maps.{WholeMap, nth}
use Rattle.map_meaning.specs.Programs.{is_initial_grid}
use Rattle.map_meaning.specs.Scenes.{Scene}
use Rattle.map_meaning.specs.Sections.{After, section_value}
use Rattle.map_meaning.specs.Spans.{done_next, step_span, whole_span}
use Rattle.map_meaning.specs.Table.{is_kind}
use Rattle.map_meaning.specs.Trees.{Environment}
use Rattle.script_types.specs.declared.typed.Line.{Line}
use Rattle.script_types.specs.declared.typed.Section.{Section}
use Rattle.script_types.specs.declared.typed.Section.TheVariants.{Initial, Dynamic}
use Rattle.script_types.specs.Lowered.{first_statement, form_by, inputs_of, is_drain_input, lines_in, statements_of}
use Rattle.script_types.specs.Names.{binding_of}
use Rattle.script_types.specs.Reports.{Bound, file_written}

-- before the first statement no name has a map
abbrev pub no_names : Environment
no_names name = []

-- What a report writes: a file or the prefix of a stack, what it is written as, and the cells of a map of this kind. Of a time
-- series it is the map that is sampled.
pub record Written : Type 0 where
  pub file : List ℕ
  pub form : OutputKind
  pub kind : Kind
  pub cells : WholeMap

-- where and when each step is evaluated; step 0 is the section `initial`
abbrev pub Scenes : Type 0
Scenes = ℕ → Scene

-- the scene with this number is at the step with this number
abbrev pub AreInOrder : Scenes → Type 0
AreInOrder scenes = (n : ℕ) → (scenes n).step ≡ n

-- each of these inputs that is a drain map has the same map at each step
abbrev pub KeepDrains : List InputUse → Scenes → Type 0
KeepDrains inputs scenes =
    (n k : ℕ) (input : InputUse) → slice_get inputs k ≡ Some input → is_drain_input input ≡ true →
    nth (scenes n).inputs k ≡ nth (scenes 0).inputs k

-- the section that is evaluated at a step
abbrev pub section_at : ℕ → Section
section_at zero = Initial
section_at (suc n) = Dynamic

-- ---- statements

-- what stands after a section that begins in this environment, or its first Over
abbrev pub section_after : Section → List Line → Scene → Environment → Result After OverAt
section_after section lines scene names =
    section_value scene (first_statement section lines) names (statements_of (lines_in section lines))

-- What stands after `initial` and so many steps, or the first Over: each step begins in the environment that the one before
-- it leaves.
abbrev pub after_steps : List Line → Scenes → ℕ → Result After OverAt
after_steps lines scenes zero = section_after Initial lines (scenes 0) no_names
after_steps lines scenes (suc n) =
    after_steps lines scenes n >>= λ before. section_after Dynamic lines (scenes (suc n)) before.names

-- What some statements write that report, where these are their maps, in their order.
abbrev pub reported : Bound → List Line → List WholeMap → List Written
reported bound [] maps = []
reported bound (l ∷ ls) [] = []
reported bound (l ∷ ls) (m ∷ maps) =
    if l.report then
    record { file = file_written bound l; form = form_by l.section l.sample; kind = l.kind; cells = m } ∷ reported bound ls maps
    else reported bound ls maps

-- What a script's statements report at a step, evaluated one after the other from `initial` on, or their first Over.
abbrev pub script_reports : Script → List Line → Scenes → ℕ → Result (List Written) OverAt
script_reports script lines scenes n =
    after_steps lines scenes n >>= λ after. Ok (reported (binding_of script) (lines_in (section_at n) lines) after.maps)

-- ---- the program

-- what is done after `initial` and so many steps, where the operations are evaluated one by one, or their first Over
abbrev pub done_steps : Program → Scenes → ℕ → Result Done OverAt
done_steps program scenes zero =
    staged_values program (scenes 0) (whole_span program) nothing_done program.drains program.initial
done_steps program scenes (suc n) =
    done_steps program scenes n >>= λ done.
    operation_values program (scenes (suc n)) (step_span (suc n)) (done_next done) program.dynamic

-- the output is written after this section
abbrev pub is_output_of : Section → OutputUse → Bool
is_output_of Initial output = is_initial_grid output.kind
is_output_of Dynamic output = not (is_initial_grid output.kind)

-- what an output writes at a step, where these operations are done
abbrev pub written : Scene → Done → OutputUse → Written
written scene done output = record {
  file = output.file;
  form = output.kind;
  kind = output.cell_kind;
  cells = operand_map scene done output.value;
}

-- what a program's outputs write at a step, or its first Over
abbrev pub program_reports : Program → Scenes → ℕ → Result (List Written) OverAt
program_reports program scenes n =
    done_steps program scenes n >>= λ done. Ok (map (written (scenes n) done) (filter (is_output_of (section_at n)) program.outputs))

-- ---- drain maps

-- the maps of the inputs that are drain maps, of which the first has this number
abbrev pub input_codes : ℕ → List InputUse → Scene → List WholeMap
input_codes n [] scene = []
input_codes n (input ∷ more) scene =
    if is_drain_input input then nth scene.inputs n ∷ input_codes (n + 1) more scene else input_codes (n + 1) more scene

-- the maps of the statements of kind ldd, where these are the maps of the statements
abbrev pub statement_codes : List Line → List WholeMap → List WholeMap
statement_codes [] maps = []
statement_codes (l ∷ ls) [] = []
statement_codes (l ∷ ls) (m ∷ maps) = if is_kind Ldd l.kind then m ∷ statement_codes ls maps else statement_codes ls maps

-- the codes of a script's drain maps, those of its inputs and then those of its statements, or the first Over of `initial`
abbrev pub script_codes : Script → List Line → Scene → Result (List WholeMap) OverAt
script_codes script lines scene =
    section_after Initial lines scene no_names >>= λ after.
    Ok (input_codes 0 (inputs_of script) scene ++ statement_codes (lines_in Initial lines) after.maps)

-- the codes of a program's drain maps, or the first Over of `initial`
abbrev pub program_codes : Program → Scene → Result (List WholeMap) OverAt
program_codes program scene =
    staged_values program scene (whole_span program) nothing_done program.drains program.initial >>= λ done. Ok done.drains

-- The program has the values of a script's statements: at each step it writes what these report, or has their first Over, and its
-- drain maps are those of the script, whatever the maps of its inputs are; those that are drain maps do not change between steps.
pub record HasValues (script : Script) (lines : List Line) (program : Program) : Type 0 where
  pub same : (scenes : Scenes) → AreInOrder scenes → KeepDrains (inputs_of script) scenes → (n : ℕ) →
      program_reports program scenes n ≡ script_reports script lines scenes n
  pub drains : (scene : Scene) → program_codes program scene ≡ script_codes script lines scene
