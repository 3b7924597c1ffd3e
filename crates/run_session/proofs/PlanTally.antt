-- How many files a program puts.
use Rattle.std.proofs.Common.{◌≡◌, ℕ, zero, suc, ◌+◌, ◌*◌, cond, not, List, [], ◌∷◌, ◌++◌, length, map, refl, sym, ap, subst, ◌∙◌, Ok, Err, Result, arith}
use Rattle.std.specs.Prelude.{◌&&◌}
use Rattle.std.specs.List.{filter, range_with_len}
use Rattle.std.proofs.lemmas.List.{length-map}
use Rattle.std.proofs.lemmas.List.FromFn.{length-range_with_len}
use Rattle.text_base.specs.Results.{◌>>=◌ as ◌>>>◌}
use Rattle.text_base.specs.Limits.{most_text_bytes}
use Rattle.cell_values.specs.declared.kind.Kind.{Kind}
use Rattle.outside_io.specs.Events.{Run}
use Rattle.outside_io.specs.Runs.{◌>>=◌, afterwards, end_as, in_turn, reading, settled}
use Rattle.grid_text.specs.inside.Reading.{grid_of}
use Rattle.grid_text.specs.Written.{written_grid}
use Rattle.map_meaning.specs.declared.known.OverAt.{OverAt}
use Rattle.map_meaning.specs.declared.known.StepMap.{StepMap}
use Rattle.map_meaning.specs.declared.program.OutputKind.{OutputKind}
use Rattle.map_meaning.specs.declared.program.OutputKind.TheVariants.{InitialGrid, StackGrid, Sample as IsSampleKind}
use Rattle.map_meaning.specs.declared.program.OutputUse.{OutputUse}
use Rattle.map_meaning.specs.declared.program.Program.{Program}
use Rattle.map_meaning.specs.Evaluation.{Done}
use Rattle.map_meaning.specs.Maps.{WholeMap}
use Rattle.map_meaning.specs.Programs.{is_grid_role, is_initial_grid, is_stack_grid}
use Rattle.map_meaning.specs.Spans.{at_inputs}
use Rattle.map_meaning.specs.StackNames.{stack_file}
use Rattle.script_types.specs.Lowered.{as_shown}
use Rattle.script_types.specs.Values.{Written, done_steps, is_output_of, section_at}
use Rattle.run_session.specs.declared.frame.Frame.{Frame}
use Rattle.run_session.specs.declared.inputs.Inputs.{Inputs}
use Rattle.run_session.specs.declared.stacks.StackUse.{StackUse}
use Rattle.run_session.specs.Ends.{Missing, ScriptEnd, TooLong}
use Rattle.run_session.specs.Evaluation.{input_maps, scenes_over}
use Rattle.run_session.specs.Samples.{Sampled, all_begun, begun, is_sample_form, series_text, with_rows}
use Rattle.run_session.specs.Steps.{Plan, Standing, StepsEnd, evaluated_run, grid_run, grids_among, map_run, next_step, one_more_grid, or_end, or_input, or_overflow, or_size, or_steps_end, plan_run, report_file, report_run, rows_among, samples_by, series_run, standing_at_start, step_run, steps_and_series, steps_run}
use Rattle.run_session.specs.inside.Standings.{program_plan, put_by}
use Rattle.run_session.specs.inside.Tallies.{PutsSoMany, files_put}
use Rattle.run_session.proofs.StepReports.{EachIs, filter_forms}
use Rattle.run_session.proofs.Tallies.{Puts, puts_afterwards, puts_as, puts_each, puts_on, puts_putting, puts_reading, puts_settled}

-- whatever comes out
abbrev Any : {X : Type 0} → X → Type 0
Any x = Unit {0}

-- each item is such where all are
all_such : {A : Type 0} (items : List A) → EachIs Any items
all_such [] = tt
all_such (a ∷ items) = (tt, all_such items)

-- ---- grids that are read

read_grid : (kind : Kind) (name : List ℕ) → Puts 0 Any (grid_run kind name)
read_grid kind name = puts_on 0 0 Any Any (reading Missing TooLong name most_text_bytes) (λ text. settled (or_input name (grid_of kind text))) (puts_reading Missing TooLong name most_text_bytes) (λ text is. puts_settled Any (or_input name (grid_of kind text)) (λ x is. tt))

read_map : (frame : Frame) (kind : Kind) (name : List ℕ) → Puts 0 Any (map_run frame kind name)
read_map frame kind name = puts_on 0 0 Any Any (grid_run kind name) (λ grid. settled (or_size frame name grid)) (read_grid kind name) (λ grid is. puts_settled Any (or_size frame name grid) (λ x is. tt))

read_one : (frame : Frame) (step : ℕ) (stack : StackUse) (grids : List StepMap) → Puts 0 Any (one_more_grid frame step grids stack)
read_one frame step stack grids =
    let next : WholeMap → Run (Result (List StepMap) ScriptEnd) = λ m. settled (Ok (grids ++ record { step = step; operation = stack.input; cells = m } ∷ [])) in
    puts_on 0 0 Any Any (map_run frame stack.kind (stack_file stack.prefix step)) next (read_map frame stack.kind (stack_file stack.prefix step))
    (λ m is. puts_settled Any (Ok (grids ++ record { step = step; operation = stack.input; cells = m } ∷ [])) (λ x is. tt))

read_stacks : (frame : Frame) (step : ℕ) (stacks : List StackUse) → Puts 0 Any (in_turn (one_more_grid frame step) [] stacks)
read_stacks frame step stacks =
    let e : length stacks * 0 ≡ 0 = omega arith in
    subst (λ n. Puts n Any (in_turn (one_more_grid frame step) [] stacks)) e (puts_each 0 Any Any (one_more_grid frame step) stacks [] (λ stack such grids held. read_one frame step stack grids) (all_such stacks) tt)

-- ---- reports that are put

put_report : (frame : Frame) (step : ℕ) (report : Written) → Puts 1 Any (report_run frame step tt report)
put_report frame step report = puts_putting (report_file step report.form report.file) (written_grid report.kind frame.rows frame.cols frame.head report.cells)

put_grids : (frame : Frame) (step : ℕ) (reports : List Written) → Puts (length reports) Any (in_turn (report_run frame step) tt reports)
put_grids frame step reports =
    let e : length reports * 1 ≡ length reports = omega arith in
    subst (λ n. Puts n Any (in_turn (report_run frame step) tt reports)) e (puts_each 1 Any Any (report_run frame step) reports tt (λ report such done held. put_report frame step report) (all_such reports) tt)

put_series : (samples : List Sampled) → Puts (length samples) Any (in_turn series_run tt samples)
put_series samples =
    let e : length samples * 1 ≡ length samples = omega arith in
    subst (λ n. Puts n Any (in_turn series_run tt samples)) e (puts_each 1 Any Any series_run samples tt (λ s such done held. puts_putting s.file (series_text s)) (all_such samples) tt)

-- a step reports so many grids
abbrev ReportsSo : Plan → ℕ → ℕ → Type 0
ReportsSo plan step k = (grids : List (List StepMap)) (reports : List Written) → plan.reports grids step ≡ Ok reports → length (grids_among reports) ≡ k

overflow_back : {X : Type 0} (r : Result X OverAt) (x : X) → or_overflow r ≡ Ok x → r ≡ Ok x
overflow_back (Ok y) x is = let same : y ≡ x = cc in ap Ok same
overflow_back (Err at) x is = absurd (cc)

module _ (plan : Plan) where
  put_step : (grids : List (List StepMap)) (step k : ℕ) → ReportsSo plan step k → Puts k Any (evaluated_run plan grids step)
  put_step grids step k so =
      let P : List Written → Type 0 = λ reports. length (grids_among reports) ≡ k in
      let next : List Written → Run (Result (List Written) ScriptEnd) = λ reports. in_turn (report_run plan.frame step) tt (grids_among reports) >>= λ done. settled (Ok reports) in
      let e : 0 + (k + 0) ≡ k = omega arith in
      subst (λ n. Puts n Any (evaluated_run plan grids step)) e
      (puts_on 0 (k + 0) P Any (settled (or_overflow (plan.reports grids step))) next
      (puts_settled P (or_overflow (plan.reports grids step)) (λ reports is. so grids reports (overflow_back (plan.reports grids step) reports is)))
      (λ reports count. puts_on k 0 Any Any (in_turn (report_run plan.frame step) tt (grids_among reports)) (λ done. settled (Ok reports))
      (subst (λ n. Puts n Any (in_turn (report_run plan.frame step) tt (grids_among reports))) count (put_grids plan.frame step (grids_among reports)))
      (λ done held. puts_settled Any (Ok reports) (λ x is. tt))))

  -- rows leave the number of time series
  rows_count : (step : ℕ) (samples : List Sampled) (reports : List Written) → length (with_rows step samples reports) ≡ length samples
  rows_count step [] reports = refl
  rows_count step (s ∷ samples) [] = refl
  rows_count step (s ∷ samples) (r ∷ reports) = ap (λ (n : ℕ). suc n) (rows_count step samples reports)

  -- so many time series stand
  abbrev Stands : ℕ → Standing → Type 0
  Stands m s = length s.samples ≡ m

  put_one : (k m step : ℕ) → ReportsSo plan step k → (s : Standing) → Stands m s → Puts k (Stands m) (next_step plan s step)
  put_one k m step so s count =
      let after : List StepMap → List Written → Standing = λ g reports. record { grids = s.grids ++ g ∷ []; samples = with_rows step s.samples (rows_among reports) } in
      let next : List StepMap → Run (Result Standing ScriptEnd) = λ g. evaluated_run plan (s.grids ++ g ∷ []) step >>= λ reports. settled (Ok (after g reports)) in
      let e : 0 + (k + 0) ≡ k = omega arith in
      puts_as k (Stands m) (Stands m) (or_steps_end s.samples) (step_run plan s step) back
      (subst (λ n. Puts n (Stands m) (step_run plan s step)) e
      (puts_on 0 (k + 0) Any (Stands m) (in_turn (one_more_grid plan.frame step) [] plan.stacks) next (read_stacks plan.frame step plan.stacks)
      (λ g read. puts_on k 0 Any (Stands m) (evaluated_run plan (s.grids ++ g ∷ []) step) (λ reports. settled (Ok (after g reports))) (put_step (s.grids ++ g ∷ []) step k so)
      (λ reports held. puts_settled (Stands m) (Ok (after g reports)) (λ t is. let same : after g reports ≡ t = cc in subst (Stands m) same (rows_count step s.samples (rows_among reports) ∙ count))))))
    where
      back : (r : Result Standing ScriptEnd) (t : Standing) → or_steps_end s.samples r ≡ Ok t → (x : Standing) × (r ≡ Ok x) × (Stands m x → Stands m t)
      back (Ok x) t is = let same : x ≡ t = cc in (x, refl, λ held. subst (Stands m) same held)
      back (Err end) t is = absurd (cc)

  put_steps : (k m : ℕ) → ((step : ℕ) → ReportsSo plan (suc step) k) → (s : Standing) → Stands m s → (first count : ℕ) → Puts (count * k) (Stands m) (steps_run plan s (suc first) count)
  put_steps k m so s held first count =
      subst (λ n. Puts (n * k) (Stands m) (steps_run plan s (suc first) count)) (length-range_with_len (suc first) count)
      (puts_each k (Stands m) IsLater (next_step plan) (range_with_len (suc first) count) s each (later (suc first) count (first, refl)) held)
    where
      IsLater : ℕ → Type 0
      IsLater step = (n : ℕ) × (step ≡ suc n)

      each : (step : ℕ) → IsLater step → (s : Standing) → Stands m s → Puts k (Stands m) (next_step plan s step)
      each step is s held = put_one k m step (subst (λ j. ReportsSo plan j k) (sym is.1) (so is.0)) s held

      later : (a n : ℕ) → IsLater a → EachIs IsLater (range_with_len a n)
      later a zero is = tt
      later a (suc n) is = (is, later (a + 1) n (a, omega arith))

  put_behind : (k m : ℕ) → ((step : ℕ) → ReportsSo plan (suc step) k) → (s : Standing) → Stands m s → (count : ℕ) → Puts (count * k + m) Any (steps_and_series plan s 1 count)
  put_behind k m so s held count =
      puts_as (count * k + m) (Stands m) Any or_end (afterwards (steps_run plan s 1 count) (λ end. end_as (or_steps_end []) (in_turn series_run tt (samples_by end)))) back
      (puts_afterwards (count * k) m (Stands m) (steps_run plan s 1 count) (λ end. end_as (or_steps_end []) (in_turn series_run tt (samples_by end))) (put_steps k m so s held 0 count)
      (λ t stands. puts_as m Any Any (or_steps_end []) (in_turn series_run tt t.samples) unit_back (subst (λ n. Puts n Any (in_turn series_run tt t.samples)) stands (put_series t.samples))))
    where
      back : (r : Result Standing StepsEnd) (t : Standing) → or_end r ≡ Ok t → (x : Standing) × (r ≡ Ok x) × (Stands m x → Unit {0})
      back (Ok x) t is = (x, refl, λ held. tt)
      back (Err end) t is = absurd (cc)

      unit_back : (r : Result (Unit {0}) ScriptEnd) (t : Unit {0}) → or_steps_end [] r ≡ Ok t → (x : Unit {0}) × (r ≡ Ok x) × (Unit {0} → Unit {0})
      unit_back (Ok x) t is = (x, refl, λ held. tt)
      unit_back (Err end) t is = absurd (cc)

-- ---- a program

module _ (program : Program) (inputs : Inputs) where
  abbrev the_plan : Plan
  the_plan = program_plan program inputs

  first_forms : (k : OutputKind) → is_initial_grid k ≡ (is_initial_grid k && not (is_sample_form k))
  first_forms InitialGrid = refl
  first_forms StackGrid = refl
  first_forms (IsSampleKind ids) = refl

  stack_forms : (k : OutputKind) → is_stack_grid k ≡ (not (is_initial_grid k) && not (is_sample_form k))
  stack_forms InitialGrid = refl
  stack_forms StackGrid = refl
  stack_forms (IsSampleKind ids) = refl

  start_count : ReportsSo the_plan 0 (length (filter (λ (o : OutputUse). is_initial_grid o.kind) program.outputs))
  start_count grids reports is = by (done_steps program (scenes_over program.inputs inputs grids) 0) is
    where
      by : (r : Result Done OverAt) → (r >>> λ done. Ok (map (put_by (input_maps program.inputs inputs) (scenes_over program.inputs inputs grids 0) done) (filter (is_output_of (section_at 0)) program.outputs))) ≡ Ok reports →
          length (grids_among reports) ≡ length (filter (λ (o : OutputUse). is_initial_grid o.kind) program.outputs)
      by (Ok done) is =
          let w = put_by (input_maps program.inputs inputs) (scenes_over program.inputs inputs grids 0) done in
          let same : map w (filter (λ (o : OutputUse). is_initial_grid o.kind) program.outputs) ≡ reports = cc in
          ap (λ rs. length (grids_among rs)) (sym same) ∙
          (ap length (filter_forms is_initial_grid (λ k. not (is_sample_form k)) is_initial_grid first_forms w (λ o. refl) program.outputs) ∙
          length-map (filter (λ (o : OutputUse). is_initial_grid o.kind) program.outputs) w)
      by (Err at) is = absurd (cc)

  step_count : (step : ℕ) → ReportsSo the_plan (suc step) (length (filter (λ (o : OutputUse). is_stack_grid o.kind) program.outputs))
  step_count step grids reports is = by (done_steps program (scenes_over program.inputs inputs grids) (suc step)) is
    where
      by : (r : Result Done OverAt) → (r >>> λ done. Ok (map (put_by (input_maps program.inputs inputs) (scenes_over program.inputs inputs grids (suc step)) done) (filter (is_output_of (section_at (suc step))) program.outputs))) ≡ Ok reports →
          length (grids_among reports) ≡ length (filter (λ (o : OutputUse). is_stack_grid o.kind) program.outputs)
      by (Ok done) is =
          let w = put_by (input_maps program.inputs inputs) (scenes_over program.inputs inputs grids (suc step)) done in
          let same : map w (filter (λ (o : OutputUse). not (is_initial_grid o.kind)) program.outputs) ≡ reports = cc in
          ap (λ rs. length (grids_among rs)) (sym same) ∙
          (ap length (filter_forms (λ k. not (is_initial_grid k)) (λ k. not (is_sample_form k)) is_stack_grid stack_forms w (λ o. refl) program.outputs) ∙
          length-map (filter (λ (o : OutputUse). is_stack_grid o.kind) program.outputs) w)
      by (Err at) is = absurd (cc)

  -- the time series of the plan are the outputs that are such
  begun_count : (maps : List WholeMap) (outputs : List OutputUse) → length (all_begun maps (map as_shown outputs)) ≡ length (filter (λ (o : OutputUse). is_sample_form o.kind) outputs)
  begun_count maps [] = refl
  begun_count maps (o ∷ outputs) = by o.kind (begun_count maps outputs)
    where
      by : (k : OutputKind) → length (all_begun maps (map as_shown outputs)) ≡ length (filter (λ (o : OutputUse). is_sample_form o.kind) outputs) →
          length (begun maps k (as_shown o) ++ all_begun maps (map as_shown outputs)) ≡ length (cond (is_sample_form k) (o ∷ filter (λ (o : OutputUse). is_sample_form o.kind) outputs) (filter (λ (o : OutputUse). is_sample_form o.kind) outputs))
      by InitialGrid later = later
      by StackGrid later = later
      by (IsSampleKind ids) later = ap (λ (n : ℕ). suc n) later

  -- how many files the program puts
  pub plan_puts : PutsSoMany (files_put program) (plan_run the_plan)
  plan_puts files x is =
      let firsts = length (filter (λ (o : OutputUse). is_initial_grid o.kind) program.outputs) in
      let stacks = length (filter (λ (o : OutputUse). is_stack_grid o.kind) program.outputs) in
      let samples = length (filter (λ (o : OutputUse). is_sample_form o.kind) program.outputs) in
      let all = puts_on firsts (program.steps * stacks + samples) Any Any (evaluated_run the_plan [] 0) (λ reports. steps_and_series the_plan (standing_at_start the_plan) 1 program.steps)
      (put_step the_plan [] 0 firsts start_count)
      (λ reports held. put_behind the_plan stacks samples step_count (standing_at_start the_plan) (begun_count (at_inputs is_grid_role [] program.inputs inputs.maps) program.outputs) program.steps) in
      (all files x is).0 ∙ omega arith

-- each output is a grid of `initial`, a stack or a time series
pub outputs_count : (outputs : List OutputUse) →
    length outputs ≡ length (filter (λ (o : OutputUse). is_initial_grid o.kind) outputs) + length (filter (λ (o : OutputUse). is_stack_grid o.kind) outputs) + length (filter (λ (o : OutputUse). is_sample_form o.kind) outputs)
outputs_count [] = refl
outputs_count (o ∷ outputs) = by o.kind (outputs_count outputs)
  where
    by : (k : OutputKind) →
        length outputs ≡ length (filter (λ (o : OutputUse). is_initial_grid o.kind) outputs) + length (filter (λ (o : OutputUse). is_stack_grid o.kind) outputs) + length (filter (λ (o : OutputUse). is_sample_form o.kind) outputs) →
        suc (length outputs)
        ≡ length (cond (is_initial_grid k) (o ∷ filter (λ (o : OutputUse). is_initial_grid o.kind) outputs) (filter (λ (o : OutputUse). is_initial_grid o.kind) outputs))
        + length (cond (is_stack_grid k) (o ∷ filter (λ (o : OutputUse). is_stack_grid o.kind) outputs) (filter (λ (o : OutputUse). is_stack_grid o.kind) outputs))
        + length (cond (is_sample_form k) (o ∷ filter (λ (o : OutputUse). is_sample_form o.kind) outputs) (filter (λ (o : OutputUse). is_sample_form o.kind) outputs))
    by InitialGrid later = omega (arith, later)
    by StackGrid later = omega (arith, later)
    by (IsSampleKind ids) later = omega (arith, later)
