-- What is left of a run after each of its parts.
use Rattle.std.proofs.Common.{◌≡◌, ◌*◌, false, true, length, map, refl, sym, ap, subst, ◌∙◌}
use Rattle.std.specs.Prelude.{List, ℕ, [], Ok, Err, Result, IfOk, IfErr, IsErrAnd}
use Rattle.std.specs.List.{filter}
use Rattle.text_base.specs.Results.{◌>>=◌ as ◌>>>◌}
use Rattle.std.specs.declared.option.Option.{Option}
use Rattle.outside_io.specs.State.{FolderState}
use Rattle.outside_io.specs.Events.{Run}
use Rattle.outside_io.specs.Runs.{◌>>=◌, in_turn, settled}
use Rattle.outside_io.specs.Causes.{CameTo, CutOff, RunOutcome, outcome_as, outcome_by, stopped_by, why_by}
use Rattle.outside_io.specs.inside.Parts.{seen_by}
use Rattle.outside_io.specs.Met.{Follows, Meets}
use Rattle.outside_io.proofs.Callers.{if_told, meets_on, meets_settled}
use Rattle.script_syntax.specs.declared.tree.Script.{Script}
use Rattle.map_meaning.specs.declared.known.OverAt.{OverAt}
use Rattle.map_meaning.specs.declared.known.StepMap.{StepMap}
use Rattle.map_meaning.specs.declared.program.InputUse.{InputUse}
use Rattle.map_meaning.specs.declared.program.Program.{Program}
use Rattle.map_meaning.specs.Maps.{nth}
use Rattle.map_meaning.specs.Spans.{AreInputMaps, RunOf}
use Rattle.grid_text.specs.declared.grid.Grid.{Grid}
use Rattle.script_types.specs.Answers.{IsLowered}
use Rattle.script_types.specs.Lowered.{Shown, as_shown, inputs_of, outputs_from}
use Rattle.script_types.specs.Meaning.{meaning}
use Rattle.script_types.specs.Names.{binding_of}
use Rattle.script_types.specs.declared.typed.Line.{Line}
use Rattle.script_types.specs.Values.{Written, done_steps, is_output_of, script_reports, section_at, written}
use Rattle.script_types.specs.inside.FitLines.{script_frame}
use Rattle.script_types.specs.inside.Fits.{is_ids}
use Rattle.script_types.proofs.Callers.{lines-fit}
use Rattle.run_session.specs.declared.ends.SessionEnd.{SessionEnd}
use Rattle.run_session.specs.declared.ends.SessionEnd.TheVariants as session
use Rattle.run_session.specs.declared.ends.Stop.{Stop}
use Rattle.run_session.specs.declared.ends.Tally.{Tally}
use Rattle.run_session.specs.declared.inputs.Inputs.{Inputs}
use Rattle.run_session.specs.Asked.{AreRunsOf, CountsTasks, IfDone, WasAsked, all_spans, stands_run}
use Rattle.run_session.specs.inside.Tallies.{HasRun}
use Rattle.run_session.specs.Course.{CheckedScript, Given, Loaded, Many, checked_run, checked_script, inputs_given, load_run, loaded_run, nothing_given, one_more_input, or_meaning, plan_of, start_run, text_run}
use Rattle.run_session.specs.Ends.{ScriptEnd, script_end, why}
use Rattle.run_session.specs.Evaluation.{input_maps, reports_of, scenes_over}
use Rattle.run_session.specs.Samples.{all_begun, as_put}
use Rattle.run_session.specs.Steps.{Plan, plan_run, stacks_among, tallied}
use Rattle.run_session.specs.inside.Parts.{AreInputsOf, IsProgramFor, MakesFor, StopsAt, stop_outcome}
use Rattle.run_session.specs.inside.Standings.{outputs_over, program_plan}
use Rattle.run_session.proofs.MeanReports.{put_fused, sampled_lines, step_same, whole_ids}

-- ---- what is left

-- what is left once all inputs are read
abbrev pub after_given : Grid → Given → Run (Result Inputs ScriptEnd)
after_given area given = settled (Ok (inputs_given area given))

-- what is left once the area map is checked
abbrev pub after_area : List InputUse → ℕ → Grid → Run (Result Inputs ScriptEnd)
after_area list number area = in_turn (one_more_input number area) nothing_given list >>= after_given area

-- what is left once the text of a script is read
abbrev pub after_text : Script → Run (Result CheckedScript ScriptEnd)
after_text script = settled (checked_script script)

-- what is left once the inputs are read
abbrev pub after_inputs : CheckedScript → Inputs → Run (Result Loaded ScriptEnd)
after_inputs s inputs = settled (Ok (record { script = s.script; lines = s.lines; inputs = inputs }))

-- ---- a program for a script

-- a `?` hands an error on
pub makes_out : {X Y : Type 0} (Is : X → Y → Type 0) (run : Run (Result X ScriptEnd)) (old new : FolderState) (result : Result Y Stop) (d : Stop) → IsErrAnd result (λ e. e ≡ d) →
    Meets (why_by why) run old new (stopped_by (stop_outcome d)) → MakesFor Is run old new result
makes_out Is run old new (Ok y) d is m = absurd is
makes_out Is run old new (Err e) d is m = subst (λ e. Meets (why_by why) run old new (stopped_by (stop_outcome e))) (sym is) m

-- a part was done before a call that makes what is left
pub makes_on : {W X Y : Type 0} (Is All : X → Y → Type 0) (run : Run (Result W ScriptEnd)) (next : W → Run (Result X ScriptEnd)) (old mid new : FolderState) (w : W) → Meets (why_by why) run old mid (CameTo (Ok w)) →
    ((x : X) (y : Y) → Is x y → All x y) → (r : Result Y Stop) → MakesFor Is (next w) mid new r → MakesFor All (run >>= next) old new r
makes_on Is All run next old mid new w m more (Ok y) made = (made.0, more made.0 y made.1, meets_on why run next old mid new w (CameTo (Ok made.0)) m made.2)
makes_on Is All run next old mid new w m more (Err at) made = meets_on why run next old mid new w (stopped_by (stop_outcome at)) m made

-- a `?` hands an error on, where the value is seen otherwise
pub seen_out : {T X : Type 0} (view : T → X) (run : Run (Result X ScriptEnd)) (old new : FolderState) (result : Result T Stop) (d : Stop) → IsErrAnd result (λ e. e ≡ d) →
    Meets (why_by why) run old new (stopped_by (stop_outcome d)) → Meets (why_by why) run old new (outcome_by stop_outcome (seen_by view result))
seen_out view run old new (Ok x) d is m = absurd is
seen_out view run old new (Err e) d is m = subst (λ e. Meets (why_by why) run old new (stopped_by (stop_outcome e))) (sym is) m

-- a script that has no fault, with its settled statements
script_checked : (script : Script) (lines : List Line) → meaning script ≡ Ok lines → checked_script script ≡ Ok (record { script = script; lines = lines })
unfolding checked_script
script_checked script lines meant = ap (or_meaning script) meant

-- the program of a script that was read, by what holds it
pub program_made : {Y : Type 0} (held : Y → Program) (name : List ℕ) (script : Script) (old mid : FolderState) (r : Result Y Stop) →
    IfOk r (λ y. IsLowered script (held y)) → IfErr r (StopsAt (checked_script script)) →
    Meets (why_by why) (text_run name) old mid (CameTo (Ok script)) → MakesFor (λ s y. IsProgramFor s (held y)) (checked_run name) old mid r
program_made held name script old mid (Ok program) lowered stops m =
    let s : CheckedScript = record { script = script; lines = lowered.lines } in (
      s,
      record { lowered = lowered; lines = refl },
      meets_on why (text_run name) after_text old mid mid script (CameTo (Ok s)) m
          (meets_settled (why_by why) (checked_script script) mid (CameTo (Ok s)) (script_checked script lowered.lines lowered.meant, refl)),
    )
program_made held name script old mid (Err at) lowered stops m =
    meets_on why (text_run name) after_text old mid mid script (stopped_by (stop_outcome at)) m
    (meets_settled (why_by why) (checked_script script) mid (stopped_by (stop_outcome at)) stops)

-- what is left once the tasks are counted
abbrev pub after_count : Plan → Unit {0} → Run (Result Tally ScriptEnd)
after_count plan few = tallied plan.steps (plan_run plan)

-- ---- what was read is run

module _ (l : Loaded) (program : Program) (for : IsProgramFor (record { script = l.script; lines = l.lines }) program) (inputs : Inputs) (are : AreInputsOf program.inputs inputs) (same : inputs ≡ l.inputs) where
  -- its program reports what its statements do
  reports_same : (grids : List (List StepMap)) (n : ℕ) → outputs_over program inputs grids n ≡ reports_of l.script l.lines l.inputs grids n
  reports_same grids n =
      let put = λ (list : List InputUse). as_put false (input_maps list inputs) in
      let list = inputs_of l.script in
      let scenes = scenes_over program.inputs inputs grids in
      put_fused (put program.inputs) (written (scenes n)) (filter (is_output_of (section_at n)) program.outputs) (done_steps program scenes n)
      ∙ ap (λ r. r >>> λ rs. Ok (map (put program.inputs) rs)) (for.lowered.values.same scenes (λ k. refl) (λ m k input at drain. refl) n)
      ∙ ap (λ uses. script_reports l.script for.lowered.lines (scenes_over uses inputs grids) n >>> λ rs. Ok (map (put uses) rs)) for.lowered.program_of.inputs
      ∙ ap (λ lines. script_reports l.script lines (scenes_over list inputs grids) n >>> λ rs. Ok (map (put list) rs)) for.lines
      ∙ step_same l.script.mean l.script l.lines (scenes_over list inputs grids) (input_maps list inputs) n refl
      (sampled_lines (script_frame l.script) (scenes_over list inputs grids n) [] l.lines ids_whole (lines-fit l.script l.lines (for.lowered.meant ∙ ap Ok for.lines)))
      ∙ ap (λ i. reports_of l.script l.lines i grids n) same
    where
      -- a map of ids is whole
      ids_whole : (ids : ℕ) → is_ids (inputs_of l.script) ids ≡ true → length (nth (input_maps (inputs_of l.script) inputs) ids) ≡ inputs.frame.rows * inputs.frame.cols
      ids_whole ids h = whole_ids (inputs.frame.rows * inputs.frame.cols) (inputs_of l.script) inputs.maps ids (subst (λ uses. AreInputMaps (inputs.frame.rows * inputs.frame.cols) uses inputs.maps) for.lowered.program_of.inputs are.maps) h

  -- its plan is that of its statements
  pub plan_same : program_plan program inputs ≡ plan_of l
  plan_same =
      let plan : Inputs → List InputUse → List Shown → ℕ → (List (List StepMap) → ℕ → Result (List Written) OverAt) → Plan = λ inputs uses shown steps reports. record {
        frame = inputs.frame;
        steps = steps;
        stacks = stacks_among 0 uses;
        samples = all_begun (input_maps uses inputs) shown;
        reports = reports;
      } in
      let bound = binding_of l.script in
      ap (plan inputs program.inputs (map as_shown program.outputs) program.steps) reports_all
      ∙ (ap (λ uses. plan inputs uses (map as_shown program.outputs) program.steps (reports_of l.script l.lines l.inputs)) for.lowered.program_of.inputs
      ∙ (ap (λ shown. plan inputs (inputs_of l.script) shown program.steps (reports_of l.script l.lines l.inputs)) (for.lowered.program_of.outputs ∙ ap (outputs_from bound 1) for.lines)
      ∙ (ap (λ steps. plan inputs (inputs_of l.script) (outputs_from bound 1 l.lines) steps (reports_of l.script l.lines l.inputs)) for.lowered.program_of.steps
      ∙ ap (λ i. plan i (inputs_of l.script) (outputs_from bound 1 l.lines) l.script.steps (reports_of l.script l.lines l.inputs)) same)))
    where
      reports_all : outputs_over program inputs ≡ reports_of l.script l.lines l.inputs
      reports_all = λ i. λ grids n. reports_same grids n i

  -- its program is run as it is
  pub start_same : (admits : Program → ℕ → ℕ → Option ℕ) (many : Script → Many) → CountsTasks admits many → start_run (admits program inputs.frame.rows inputs.frame.cols) (program_plan program inputs) ≡ loaded_run many l
  start_same admits many counts =
      ap (λ m. start_run m (program_plan program inputs)) (sym (counts l.script program for.lowered inputs.frame.rows inputs.frame.cols))
      ∙ (ap (start_run (many l.script inputs.frame.rows inputs.frame.cols)) plan_same
      ∙ ap (λ (i : Inputs). start_run (many l.script i.frame.rows i.frame.cols) (plan_of l)) same)

  -- what the runner was asked for is the run of what was read
  pub was_asked : (before after : List RunOf → Type 0) (name : List ℕ) (old mid new : FolderState) → Meets (why_by why) (load_run name) old mid (CameTo (Ok l)) → before [] → HasRun before after program inputs mid new → WasAsked after name old.holds
  was_asked before after name old mid new m none run =
      let asks = run.asks none in
      let P : Plan → Type 0 = λ plan. Meets (why_by why) (plan_run plan) mid new (CameTo (Ok run.standing)) in
      let stands = meets_on why (load_run name) (λ l. plan_run (plan_of l)) old mid new l (CameTo (Ok run.standing)) m (subst P plan_same run.meets) in
      record {
        loaded = l;
        read = if_told old.holds (λ files. Follows (load_run name files) files old mid (CameTo (Ok l))) (λ files. Ok l ≡ (load_run name files).end) (λ files f. f.0) m.follows;
        standing = run.standing;
        stands = if_told old.holds (λ files. Follows (stands_run name files) files old new (CameTo (Ok run.standing))) (λ files. Ok run.standing ≡ (stands_run name files).end) (λ files f. f.0) stands.follows;
        program = program;
        lowered = for.lowered;
        runs = asks.0;
        each = subst (λ i. AreRunsOf program i run.standing.grids (all_spans program) asks.0) same asks.1;
        was = asks.2;
      }

-- ---- ends

-- a stop of the parts is the end of the whole
pub stop_is_end : (o : RunOutcome ScriptEnd) → outcome_as script_end (stopped_by {X = Tally} o) ≡ o
stop_is_end (CameTo e) = refl
stop_is_end (CutOff fault) = refl

-- why a whole ends so is why its parts do
pub why_same : (x : Result Tally ScriptEnd) → why (script_end x) ≡ why_by why x
why_same (Ok t) = refl
why_same (Err e) = refl

-- what is no end at all satisfies every clause on ends
pub undone : (end : SessionEnd) (P : Type 0) → IfDone end ⊥ → IfDone end P
undone (session.Done files steps) P is = absurd is
undone (session.Missing name) P is = tt
undone (session.TooLong name) P is = tt
undone (session.Script fault) P is = tt
undone (session.Input name kind) P is = tt
undone (session.TooManyTasks count) P is = tt
undone (session.Overflow at) P is = tt
undone (session.FolderReadFault name) P is = tt
undone (session.FolderWriteFault name) P is = tt
undone session.Memory P is = tt

-- a `?` hands an error on that stops a part of the run
pub stops_out : {X Y : Type 0} (end : Result X ScriptEnd) (result : Result Y Stop) (d : Stop) → IsErrAnd result (λ e. e ≡ d) → StopsAt end d → IfErr result (StopsAt end)
stops_out end (Ok y) d is stops = tt
stops_out end (Err e) d is stops = subst (StopsAt end) (sym is) stops
