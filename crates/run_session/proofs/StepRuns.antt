-- One step of a run, part by part.
use Rattle.std.proofs.Common.{◌≡◌, ℕ, List, [], ◌∷◌, ◌++◌, refl, ap, Ok, Err, Result}
use Rattle.text_base.specs.Results.{◌>>=◌ as ◌>>>◌}
use Rattle.outside_io.specs.State.{FolderState}
use Rattle.outside_io.specs.Events.{Run}
use Rattle.outside_io.specs.Runs.{◌>>=◌, in_turn, settled}
use Rattle.outside_io.specs.Causes.{CameTo, CutOff, NoMemory, ReadFault, WriteFault, RunOutcome, stopped_by, why_by}
use Rattle.outside_io.specs.Met.{Meets}
use Rattle.outside_io.specs.inside.Parts.{Settles}
use Rattle.outside_io.proofs.Callers.{meets_no_memory, meets_on, meets_settled, meets_stop, read_keeps_all}
use Rattle.map_meaning.specs.declared.known.OverAt.{OverAt}
use Rattle.map_meaning.specs.declared.known.StepMap.{StepMap}
use Rattle.map_meaning.specs.Evaluation.{Done}
use Rattle.script_types.specs.Values.{Written}
use Rattle.map_meaning.specs.declared.program.Program.{Program}
use Rattle.map_meaning.specs.Spans.{kept_maps}
use Rattle.run_session.specs.Ends.{ScriptEnd, Overflow, why}
use Rattle.run_session.specs.Steps.{Plan, Standing, evaluated_run, grids_among, one_more_grid, or_overflow, report_run, rows_among, step_run}
use Rattle.run_session.specs.Samples.{with_rows}
use Rattle.run_session.proofs.StepStages.{kept_result}

-- ---- what is left

-- what is left of a step once it is evaluated
abbrev pub after_values : Plan → ℕ → List Written → Run (Result (List Written) ScriptEnd)
after_values plan step reports = in_turn (report_run plan.frame step) tt (grids_among reports) >>= λ done. settled (Ok reports)

-- what stands after a step that reported so
abbrev pub standing_after : Standing → ℕ → List StepMap → List Written → Standing
standing_after s step g reports = record { grids = s.grids ++ g ∷ []; samples = with_rows step s.samples (rows_among reports) }

-- what is left of a step once its reports are put
abbrev pub after_puts : Standing → ℕ → List StepMap → List Written → Run (Result Standing ScriptEnd)
after_puts s step g reports = settled (Ok (standing_after s step g reports))

-- what is left of a step once its grids are read
abbrev pub after_grids : Plan → Standing → ℕ → List StepMap → Run (Result Standing ScriptEnd)
after_grids plan s step g = evaluated_run plan (s.grids ++ g ∷ []) step >>= after_puts s step g

-- ---- the ways out of an evaluation

module _ (plan : Plan) (grids : List (List StepMap)) (step : ℕ) (old : FolderState) where
  -- it is not evaluated
  pub no_values : (o : RunOutcome ScriptEnd) → Settles (why_by why) (or_overflow (plan.reports grids step)) (stopped_by o) → Meets (why_by why) (evaluated_run plan grids step) old old (stopped_by o)
  no_values o settles = meets_stop why (settled (or_overflow (plan.reports grids step))) (after_values plan step) old old o (meets_settled (why_by why) (or_overflow (plan.reports grids step)) old (stopped_by o) settles)

  module _ (reports : List Written) (is : plan.reports grids step ≡ Ok reports) (new : FolderState) where
    -- not all is put
    pub no_puts : (o : RunOutcome ScriptEnd) → Meets (why_by why) (in_turn (report_run plan.frame step) tt (grids_among reports)) old new (stopped_by o) → Meets (why_by why) (evaluated_run plan grids step) old new (stopped_by o)
    no_puts o puts =
        meets_on why (settled (or_overflow (plan.reports grids step))) (after_values plan step) old old new reports (stopped_by o)
        (meets_settled (why_by why) (or_overflow (plan.reports grids step)) old (CameTo (Ok reports)) (ap or_overflow is, refl))
        (meets_stop why (in_turn (report_run plan.frame step) tt (grids_among reports)) (λ done. settled (Ok reports)) old new o puts)

    -- all is put
    pub all_put : Meets (why_by why) (in_turn (report_run plan.frame step) tt (grids_among reports)) old new (CameTo (Ok tt)) → Meets (why_by why) (evaluated_run plan grids step) old new (CameTo (Ok reports))
    all_put puts =
        meets_on why (settled (or_overflow (plan.reports grids step))) (after_values plan step) old old new reports (CameTo (Ok reports))
        (meets_settled (why_by why) (or_overflow (plan.reports grids step)) old (CameTo (Ok reports)) (ap or_overflow is, refl))
        (meets_on why (in_turn (report_run plan.frame step) tt (grids_among reports)) (λ done. settled (Ok reports)) old new new tt (CameTo (Ok reports)) puts
        (meets_settled (why_by why) (Ok reports) new (CameTo (Ok reports)) (refl, refl)))

-- ---- the ways out of a step

module _ (plan : Plan) (s : Standing) (step : ℕ) (old mid : FolderState) where
  abbrev reading_grids : Run (Result (List StepMap) ScriptEnd)
  reading_grids = in_turn (one_more_grid plan.frame step) [] plan.stacks

  -- not all grids are read
  pub no_grids : (o : RunOutcome ScriptEnd) → Meets (why_by why) reading_grids old mid (stopped_by o) → Meets (why_by why) (step_run plan s step) old mid (stopped_by o)
  no_grids o read = meets_stop why reading_grids (after_grids plan s step) old mid o read

  module _ (g : List StepMap) (read : Meets (why_by why) reading_grids old mid (CameTo (Ok g))) where
    -- there is no memory for what is known
    pub no_known : Meets (why_by why) (step_run plan s step) old mid (CutOff NoMemory)
    no_known = meets_on why reading_grids (after_grids plan s step) old mid mid g (CutOff NoMemory) read (meets_no_memory (why_by why) (after_grids plan s step g) mid mid (read_keeps_all mid) refl)

    -- the evaluation of the step stops
    pub step_stops : (new : FolderState) (o : RunOutcome ScriptEnd) → Meets (why_by why) (evaluated_run plan (s.grids ++ g ∷ []) step) mid new (stopped_by o) → Meets (why_by why) (step_run plan s step) old new (stopped_by o)
    step_stops new o m = meets_on why reading_grids (after_grids plan s step) old mid new g (stopped_by o) read (meets_stop why (evaluated_run plan (s.grids ++ g ∷ []) step) (after_puts s step g) mid new o m)

    -- the step is settled
    pub step_settles : (new : FolderState) (reports : List Written) → Meets (why_by why) (evaluated_run plan (s.grids ++ g ∷ []) step) mid new (CameTo (Ok reports)) →
        Meets (why_by why) (step_run plan s step) old new (CameTo (Ok (standing_after s step g reports)))
    step_settles new reports m =
        meets_on why reading_grids (after_grids plan s step) old mid new g (CameTo (Ok (standing_after s step g reports))) read
        (meets_on why (evaluated_run plan (s.grids ++ g ∷ []) step) (after_puts s step g) mid new new reports (CameTo (Ok (standing_after s step g reports))) m
        (meets_settled (why_by why) (Ok (standing_after s step g reports)) new (CameTo (Ok (standing_after s step g reports))) (refl, refl)))

-- ---- what comes out of a span

module _ (program : Program) (step : ℕ) where
  -- what is kept of a step that is done
  pub kept_done : (r : Result Done OverAt) (maps : List StepMap) → kept_result program step r ≡ Ok maps → (y : Done) × (r ≡ Ok y) × (maps ≡ kept_maps step y.dynamic 0 program.dynamic)
  kept_done (Ok y) maps is = (y, refl, cc)
  kept_done (Err at) maps is = absurd (cc)

  -- an end of a step is that of what is reported
  pub kept_stops : {X : Type 0} (r : Result Done OverAt) (f : Done → X) (o : RunOutcome ScriptEnd) → Settles (why_by why) (kept_result program step r) (stopped_by o) →
      Settles (why_by why) (or_overflow (r >>> λ done. Ok (f done))) (stopped_by o)
  kept_stops (Ok y) f (CameTo end) settles = absurd (let is : kept_result program step (Ok y) ≡ Err end = settles.0 in cc)
  kept_stops (Err at) f (CameTo end) settles = (let is : kept_result program step (Err at) ≡ Err end = settles.0 in let same : Overflow at ≡ end = cc in ap Err same, settles.1)
  kept_stops r f (CutOff (ReadFault name)) settles = absurd settles
  kept_stops r f (CutOff (WriteFault name)) settles = absurd settles
  kept_stops r f (CutOff NoMemory) settles = tt
