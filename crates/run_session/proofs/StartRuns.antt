-- Step 0 of a run, over what the session holds.
use Rattle.std.proofs.Common.{◌≡◌, ℕ, ◌*◌, ◌<◌, false, true, not, List, [], length, map, refl, sym, ap, subst, ◌∙◌, Ok, Err, Result, arith}
use Rattle.std.specs.Prelude.{◌&&◌, All, Some, slice_get, slice_index_or}
use Rattle.std.specs.List.{filter}
use Rattle.std.proofs.lemmas.Bool.{eq-eqb}
use Rattle.text_base.specs.Results.{◌>>=◌}
use Rattle.outside_io.specs.State.{FolderState}
use Rattle.outside_io.specs.Runs.{in_turn}
use Rattle.outside_io.specs.Causes.{CameTo, CutOff, NoMemory, ReadFault, WriteFault, RunOutcome, stopped_by, why_by}
use Rattle.outside_io.specs.Met.{Meets}
use Rattle.outside_io.specs.inside.Parts.{Settles}
use Rattle.map_meaning.specs.declared.known.OverAt.{OverAt}
use Rattle.map_meaning.specs.declared.known.StepMap.{StepMap}
use Rattle.map_meaning.specs.declared.program.Operand.{Operand}
use Rattle.map_meaning.specs.declared.program.Operand.TheVariants.{Unused, Literal, Time, Input, Initial, Now, Last, Drain}
use Rattle.map_meaning.specs.declared.program.Operand.TheVariants as from
use Rattle.map_meaning.specs.declared.program.OutputKind.{OutputKind}
use Rattle.map_meaning.specs.declared.program.OutputKind.TheVariants.{InitialGrid, StackGrid, Sample as IsSampleKind}
use Rattle.map_meaning.specs.declared.program.OutputUse.{OutputUse}
use Rattle.map_meaning.specs.declared.program.Program.{Program}
use Rattle.map_meaning.specs.Evaluation.{Done, operand_map}
use Rattle.map_meaning.specs.Maps.{WholeMap, nth}
use Rattle.map_meaning.specs.Programs.{IsOperation, IsInitialValue, IsOutput, IsOutputValue, IsWellFormed, is_initial, is_initial_grid, is_written}
use Rattle.map_meaning.specs.Spans.{kept_map}
use Rattle.map_meaning.proofs.WholeMaps.{there}
use Rattle.script_types.specs.Values.{Scenes, Written, is_output_of, section_at}
use Rattle.run_session.specs.declared.inputs.Inputs.{Inputs}
use Rattle.run_session.specs.declared.samples.Sample.{Sample}
use Rattle.run_session.specs.declared.stages.StageMaps.{StageMaps}
use Rattle.run_session.specs.Asked.{HasDone}
use Rattle.run_session.specs.Ends.{ScriptEnd, Overflow, why}
use Rattle.run_session.specs.Evaluation.{input_maps, scenes_over}
use Rattle.run_session.specs.Samples.{cells_put, is_sample_form}
use Rattle.run_session.specs.Steps.{Plan, evaluated_run, grids_among, or_overflow, report_run, standing_at_start}
use Rattle.run_session.specs.inside.Outputs.{AreBegun}
use Rattle.run_session.specs.inside.Running.{IsAllLeft, IsDrainOver, IsStanding}
use Rattle.run_session.specs.inside.Stages.{initial_or_end, initial_values, no_drain}
use Rattle.run_session.specs.inside.Standings.{AscendFrom, kept_of, kept_report, program_plan, put_by}
use Rattle.run_session.proofs.HeldDrains.{codes_at}
use Rattle.run_session.proofs.Search.{kept_ascend}
use Rattle.run_session.proofs.StageValues.{first_operation_of}
use Rattle.run_session.proofs.KeptMaps.{kept_written}
use Rattle.run_session.proofs.StepReports.{any_at, each_all, each_passed, filter_forms, map_each, output_at}
use Rattle.run_session.proofs.StepRuns.{all_put, no_puts, no_values}
use Rattle.run_session.proofs.StepValues.{kept_is}

-- an end of the section is that of what is reported
start_stops : {X : Type 0} (r : Result Done OverAt) (f : Done → X) (o : RunOutcome ScriptEnd) → Settles (why_by why) (or_overflow r) (stopped_by o) → Settles (why_by why) (or_overflow (r >>= λ done. Ok (f done))) (stopped_by o)
start_stops (Ok y) f (CameTo end) settles = absurd (let is : or_overflow (Ok y) ≡ Err end = settles.0 in cc)
start_stops {X} (Err at) f (CameTo end) settles = (let is : or_overflow {X = Done} (Err at) ≡ Err end = settles.0 in let same : Overflow at ≡ end = cc in let P : ScriptEnd → Result X ScriptEnd = λ e. Err e in ap P same, settles.1)
start_stops r f (CutOff (ReadFault name)) settles = absurd settles
start_stops r f (CutOff (WriteFault name)) settles = absurd settles
start_stops r f (CutOff NoMemory) settles = tt

-- a grid is written as it is
first_plain : (maps : List WholeMap) (k : OutputKind) (cells : WholeMap) → is_initial_grid k ≡ true → cells_put false maps k cells ≡ cells
first_plain maps InitialGrid cells h = refl
first_plain maps StackGrid cells h = absurd (cc)
first_plain maps (IsSampleKind ids) cells h = absurd (cc)

module _ (program : Program) (formed : IsWellFormed program) (inputs : Inputs) where
  abbrev places : ℕ
  places = inputs.frame.rows * inputs.frame.cols

  abbrev plan : Plan
  plan = program_plan program inputs

  abbrev scenes : Scenes
  scenes = scenes_over program.inputs inputs []

  abbrev inputs_here : List WholeMap
  inputs_here = input_maps program.inputs inputs

  -- the evaluation stops the run
  pub start_no_maps : (mid : FolderState) (o : RunOutcome ScriptEnd) → Settles (why_by why) (initial_or_end program inputs) (stopped_by o) → Meets (why_by why) (evaluated_run plan [] 0) mid mid (stopped_by o)
  start_no_maps mid o settles =
      no_values plan [] 0 mid o (start_stops (initial_values program inputs) (λ done. map (put_by inputs_here (scenes 0) done) (filter (is_output_of (section_at 0)) program.outputs)) o settles)

  module _ (y : Done) (is : HasDone program inputs [] 0 y) (left : StageMaps) (all : IsAllLeft program inputs y left) where
    abbrev maps : List StepMap
    maps = left.kept

    -- the kept maps ascend
    pub start_ascends : AscendFrom 0 left.kept
    start_ascends = subst (AscendFrom 0) (sym all.kept) (kept_ascend 0 y.initial 0 program.initial)

    abbrev writes : OutputUse → Written
    writes = put_by inputs_here (scenes 0) y

    abbrev firsts : List OutputUse
    firsts = filter (λ (o : OutputUse). is_initial_grid o.kind) program.outputs

    module _ (i : ℕ) (o : OutputUse) (at : slice_get program.outputs i ≡ Some o) (first : is_initial_grid o.kind ≡ true) where
      -- what the output writes is held, and it is whole
      abbrev IsWritten : Operand → Type 0
      IsWritten value = (operand_map (scenes 0) y value ≡ kept_of maps left.drains value) × (length (kept_of maps left.drains value) ≡ places)

      -- the map of an operation of `initial` is kept
      map_written : (k : ℕ) → o.value ≡ Initial k → k < length program.initial → IsWritten (Initial k)
      map_written k names below =
          let found = there program.initial k below in
          let op : IsOperation program k found.0 = first_operation_of program k found.0 formed found.1 in
          let wanted : is_written program k ≡ true = any_at (λ (output : OutputUse). is_initial k output.value) program.outputs i o at (ap (is_initial k) names ∙ eq-eqb k k refl) in
          let kept : found.0.kept ≡ true = op.kept ∙ kept_written program k wanted in
          let same : kept_map maps k ≡ nth y.initial k = ap (λ maps. kept_map maps k) all.kept ∙ kept_is 0 y.initial program.initial k found.0 found.1 kept in
          (sym same, ap length same ∙ (all.whole k found.0 found.1).count)

      -- a drain map is held
      drain_written : (k : ℕ) → k < length program.drains → IsWritten (Drain k)
      drain_written k below =
          let c : length left.drains ≡ length program.drains = all.count in
          let within : k < length left.drains = omega (arith, below, c) in
          let one : IsDrainOver inputs.frame (slice_index_or left.drains k no_drain) = all.sound k no_drain within in
          let m = slice_index_or left.drains k no_drain in
          (ap (λ ms. nth ms k) (sym all.codes), ap length (codes_at left.drains k within) ∙ (one.sound.map.size ∙ (ap (λ r. r * m.cols) one.rows ∙ ap (λ c. inputs.frame.rows * c) one.cols)))

      value_written : IsWritten o.value
      value_written = by o.kind refl first
        where
          output : IsOutput program o
          output = output_at program formed i o at

          by_value : (v : Operand) → o.value ≡ v → IsInitialValue program v → IsWritten v
          by_value Unused names is = absurd is
          by_value (Literal kind cell) names is = absurd is
          by_value Time names is = absurd is
          by_value (Input k) names is = absurd is
          by_value (from.Stack k) names is = absurd is
          by_value (Initial k) names is = map_written k names is
          by_value (Now k) names is = absurd is
          by_value (Last d j) names is = absurd is
          by_value (Drain k) names is = drain_written k is

          by : (k : OutputKind) → o.kind ≡ k → is_initial_grid k ≡ true → IsWritten o.value
          by InitialGrid is_k h = by_value o.value refl (subst (λ k. IsOutputValue program k o.value) is_k output.value)
          by StackGrid is_k h = absurd (cc)
          by (IsSampleKind ids) is_k h = absurd (cc)

      first_written : writes o ≡ kept_report maps left.drains o
      first_written =
          let P : WholeMap → Written = λ cells. record { file = o.file; form = o.kind; kind = o.cell_kind; cells = cells } in
          ap P (first_plain inputs_here o.kind (operand_map (scenes 0) y o.value) first ∙ value_written.0)

      first_count : length (kept_of maps left.drains o.value) ≡ places
      first_count = value_written.1

    first_forms : (k : OutputKind) → is_initial_grid k ≡ (is_initial_grid k && not (is_sample_form k))
    first_forms InitialGrid = refl
    first_forms StackGrid = refl
    first_forms (IsSampleKind ids) = refl

    abbrev reports : List Written
    reports = map writes (filter (λ (o : OutputUse). is_initial_grid o.kind) program.outputs)

    first_grids : map (kept_report maps left.drains) firsts ≡ grids_among reports
    first_grids =
        sym (filter_forms is_initial_grid (λ k. not (is_sample_form k)) is_initial_grid first_forms writes (λ o. refl) program.outputs ∙
        map_each writes (kept_report maps left.drains) firsts (each_passed (λ (o : OutputUse). writes o ≡ kept_report maps left.drains o) (λ (o : OutputUse). is_initial_grid o.kind) program.outputs first_written))

    -- the maps that are put are whole
    pub start_counts : All (λ (o : OutputUse). length (kept_of maps left.drains o.value) ≡ places) firsts
    start_counts = each_all (λ (o : OutputUse). length (kept_of maps left.drains o.value) ≡ places) firsts (each_passed (λ (o : OutputUse). length (kept_of maps left.drains o.value) ≡ places) (λ (o : OutputUse). is_initial_grid o.kind) program.outputs first_count)

    reported : plan.reports [] 0 ≡ Ok reports
    reported = ap (λ r. r >>= λ done. Ok (map (put_by inputs_here (scenes 0) done) (filter (is_output_of (section_at 0)) program.outputs))) is

    -- a put stops the run
    pub start_put_stops : (mid new : FolderState) (o : RunOutcome ScriptEnd) → Meets (why_by why) (in_turn (report_run inputs.frame 0) tt (map (kept_report maps left.drains) firsts)) mid new (stopped_by o) → Meets (why_by why) (evaluated_run plan [] 0) mid new (stopped_by o)
    start_put_stops mid new o puts = no_puts plan [] 0 mid reports reported new o (subst (λ list. Meets (why_by why) (in_turn (report_run inputs.frame 0) tt list) mid new (stopped_by o)) first_grids puts)

    -- all is put
    pub start_put_all : (mid new : FolderState) → Meets (why_by why) (in_turn (report_run inputs.frame 0) tt (map (kept_report maps left.drains) firsts)) mid new (CameTo (Ok tt)) → Meets (why_by why) (evaluated_run plan [] 0) mid new (CameTo (Ok reports))
    start_put_all mid new puts = all_put plan [] 0 mid reports reported new (subst (λ list. Meets (why_by why) (in_turn (report_run inputs.frame 0) tt list) mid new (CameTo (Ok tt))) first_grids puts)

-- what stands before step 1
pub stands_at_start : (program : Program) (inputs : Inputs) (start : Done) (left : StageMaps) (samples : List Sample) → HasDone program inputs [] 0 start → IsAllLeft program inputs start left →
    AreBegun (inputs.frame.rows * inputs.frame.cols) program.inputs inputs.maps program.outputs samples → IsStanding program inputs 0 (standing_at_start (program_plan program inputs)) left [] samples
stands_at_start program inputs start left samples is all begun = record {
  count = refl;
  start = start;
  is_start = is;
  first = all;
  done = start;
  is_done = is;
  same_start = refl;
  same_drains = refl;
  whole = λ behind. absurd (omega (arith, behind));
  last_is = λ behind. absurd (omega (arith, behind));
  none = λ zero. refl;
  samples_are = sym begun.seen;
  each = begun.each;
  kept_for = begun.kept;
  ids_are = begun.ids_are;
}
