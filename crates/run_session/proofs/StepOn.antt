-- One step of a run, over what the session holds.
use Rattle.std.proofs.Common.{◌≡◌, ℕ, suc, ◌*◌, ◌≤◌, List, [], ◌∷◌, ◌++◌, length, map, sym, ap, subst, ◌∙◌, Ok}
use Rattle.std.specs.Prelude.{All}
use Rattle.std.specs.List.{filter}
use Rattle.outside_io.specs.State.{FolderState}
use Rattle.outside_io.specs.Runs.{in_turn}
use Rattle.outside_io.specs.Causes.{CameTo, RunOutcome, stopped_by, why_by}
use Rattle.outside_io.specs.Met.{Meets}
use Rattle.outside_io.specs.inside.Parts.{Settles}
use Rattle.map_meaning.specs.declared.known.Known.{Known}
use Rattle.map_meaning.specs.declared.known.StepMap.{StepMap}
use Rattle.map_meaning.specs.declared.program.OutputUse.{OutputUse}
use Rattle.map_meaning.specs.declared.program.Program.{Program}
use Rattle.map_meaning.specs.Evaluation.{Done}
use Rattle.map_meaning.specs.Programs.{IsWellFormed, is_stack_grid}
use Rattle.map_meaning.specs.Spans.{kept_maps, stage_of, step_span}
use Rattle.script_types.specs.Values.{Scenes, Written, done_steps, is_output_of, section_at}
use Rattle.run_session.specs.declared.inputs.Inputs.{Inputs}
use Rattle.run_session.specs.declared.samples.Sample.{Sample}
use Rattle.run_session.specs.Ends.{ScriptEnd, why}
use Rattle.run_session.specs.declared.stages.StageMaps.{StageMaps}
use Rattle.run_session.specs.Evaluation.{input_maps, scenes_over}
use Rattle.run_session.specs.Steps.{Plan, Standing, grids_among, one_more_grid, report_run, stacks_among, step_run}
use Rattle.run_session.specs.inside.Parts.{AreInputsOf}
use Rattle.run_session.specs.inside.Running.{IsStanding}
use Rattle.run_session.specs.inside.Standings.{AreGridsOf, AscendFrom, kept_of, kept_report, known_at, program_plan, put_by, stage_result, with_held_row}
use Rattle.run_session.proofs.Search.{kept_ascend}
use Rattle.run_session.proofs.StepOutputs.{step_counts, step_grids, step_reports}
use Rattle.run_session.proofs.StepRuns.{all_put, kept_done, kept_stops, no_puts, no_values, standing_after, step_settles, step_stops}
use Rattle.run_session.proofs.StepStages.{kept_result, step_gives}
use Rattle.run_session.proofs.StepStandings.{stands_after, step_reported}

module _ (program : Program) (formed : IsWellFormed program) (inputs : Inputs) (are : AreInputsOf program.inputs inputs)
    (step n : ℕ) (e : step ≡ suc n) (some : 1 ≤ step) (there_is : step ≤ program.steps) (s : Standing) (left : StageMaps) (last : List StepMap) (samples : List Sample) (is : IsStanding program inputs n s left last samples)
    (g : List StepMap) (grids : AreGridsOf (inputs.frame.rows * inputs.frame.cols) step (stacks_among 0 program.inputs) g)
    (old mid : FolderState) (read : Meets (why_by why) (in_turn (one_more_grid inputs.frame step) [] (stacks_among 0 program.inputs)) old mid (CameTo (Ok g))) where
  abbrev plan : Plan
  plan = program_plan program inputs

  abbrev all_grids : List (List StepMap)
  all_grids = s.grids ++ g ∷ []

  abbrev scenes : Scenes
  scenes = scenes_over program.inputs inputs all_grids

  abbrev known : Known
  known = known_at inputs left g last

  abbrev gives : stage_result (stage_of program (step_span step) known) ≡ kept_result program step (done_steps program scenes step)
  gives = step_gives program formed inputs are step n e some there_is s left last samples is g grids

  -- the evaluation stops the step
  pub no_maps : (o : RunOutcome ScriptEnd) → Settles (why_by why) (stage_result (stage_of program (step_span step) known)) (stopped_by o) → Meets (why_by why) (step_run plan s step) old mid (stopped_by o)
  no_maps o settles =
      step_stops plan s step old mid g read mid o
      (no_values plan all_grids step mid o
      (kept_stops program step (done_steps program scenes step) (λ done. map (put_by (input_maps program.inputs inputs) (scenes step) done) (filter (is_output_of (section_at step)) program.outputs)) o
      (subst (λ x. Settles (why_by why) x (stopped_by o)) gives settles)))

  module _ (maps : List StepMap) (value : stage_result (stage_of program (step_span step) known) ≡ Ok maps) where
    abbrev done_here : (y : Done) × (done_steps program scenes step ≡ Ok y) × (maps ≡ kept_maps step y.dynamic 0 program.dynamic)
    done_here = kept_done program step (done_steps program scenes step) maps (sym gives ∙ value)

    abbrev stack_outputs : List OutputUse
    stack_outputs = filter (λ (o : OutputUse). is_stack_grid o.kind) program.outputs

    abbrev pub reports_here : List Written
    reports_here = step_reports program formed inputs are step n e some there_is s left last samples is g grids done_here.0 done_here.1

    -- what stands after the step
    abbrev pub standing_here : Standing
    standing_here = standing_after s step g reports_here

    -- the kept maps ascend
    pub maps_ascend : AscendFrom 0 maps
    maps_ascend = subst (AscendFrom 0) (sym done_here.2) (kept_ascend step done_here.0.dynamic 0 program.dynamic)

    -- the maps that are put are whole
    pub maps_count : All (λ (o : OutputUse). length (kept_of maps left.drains o.value) ≡ inputs.frame.rows * inputs.frame.cols) stack_outputs
    maps_count =
        subst (λ maps. All (λ (o : OutputUse). length (kept_of maps left.drains o.value) ≡ inputs.frame.rows * inputs.frame.cols) stack_outputs) (sym done_here.2)
        (step_counts program formed inputs are step n e some there_is s left last samples is g grids done_here.0 done_here.1)

    -- what is put is what the outputs write
    puts_same : map (kept_report maps left.drains) stack_outputs ≡ grids_among reports_here
    puts_same = ap (λ maps. map (kept_report maps left.drains) stack_outputs) done_here.2 ∙ sym (step_grids program formed inputs are step n e some there_is s left last samples is g grids done_here.0 done_here.1)

    reported : plan.reports all_grids step ≡ Ok reports_here
    reported = step_reported program formed inputs are step n e some there_is s left last samples is g grids done_here.0 done_here.1

    -- a put stops the step
    pub put_stops : (new : FolderState) (o : RunOutcome ScriptEnd) → Meets (why_by why) (in_turn (report_run inputs.frame step) tt (map (kept_report maps left.drains) stack_outputs)) mid new (stopped_by o) →
        Meets (why_by why) (step_run plan s step) old new (stopped_by o)
    put_stops new o puts =
        step_stops plan s step old mid g read new o
        (no_puts plan all_grids step mid reports_here reported new o (subst (λ list. Meets (why_by why) (in_turn (report_run inputs.frame step) tt list) mid new (stopped_by o)) puts_same puts))

    -- the step is settled
    pub put_all : (new : FolderState) → Meets (why_by why) (in_turn (report_run inputs.frame step) tt (map (kept_report maps left.drains) stack_outputs)) mid new (CameTo (Ok tt)) →
        Meets (why_by why) (step_run plan s step) old new (CameTo (Ok standing_here))
    put_all new puts =
        step_settles plan s step old mid g read new reports_here
        (all_put plan all_grids step mid reports_here reported new (subst (λ list. Meets (why_by why) (in_turn (report_run inputs.frame step) tt list) mid new (CameTo (Ok tt))) puts_same puts))

    -- what stands then
    pub stands_here : IsStanding program inputs step standing_here left maps (map (with_held_row known maps step) samples)
    stands_here = stands_after program formed inputs are step n e some there_is s left last samples is g grids done_here.0 done_here.1 maps done_here.2
