-- The time series behind the steps, whichever way these ended.
use Rattle.std.proofs.Common.{◌≡◌, ℕ, List, [], refl, subst, sym, Ok, Err, Result}
use Rattle.std.specs.Prelude.{IfErr}
use Rattle.outside_io.specs.State.{FolderState}
use Rattle.outside_io.specs.Events.{Run}
use Rattle.outside_io.specs.Runs.{afterwards, end_as, in_turn}
use Rattle.outside_io.specs.Causes.{CameTo, CutOff, Fault, ReadFault, WriteFault, NoMemory, outcome_by, stopped_by, why_by}
use Rattle.outside_io.specs.Met.{Meets}
use Rattle.outside_io.proofs.Callers.{meets_afterwards, meets_cut_off, meets_end_as, meets_last_stop, meets_settled}
use Rattle.run_session.specs.declared.ends.Stop.{Stop}
use Rattle.run_session.specs.declared.ends.Stop.TheVariants as stop
use Rattle.run_session.specs.Ends.{ScriptEnd, Missing, TooLong, Script, Input, Overflow, why}
use Rattle.run_session.specs.Samples.{Sampled}
use Rattle.run_session.specs.Steps.{Plan, Standing, StepsEnd, or_end, or_steps_end, samples_by, series_run, steps_and_series, steps_run}
use Rattle.run_session.specs.inside.Parts.{CutsOff, MakesFor, stop_outcome}
use Rattle.run_session.specs.inside.Running.{steps_outcome, why_steps}
use Rattle.run_session.proofs.StepLoops.{why_stop}

-- why the whole ends so is why its steps do
why_end : {X : Type 0} (r : Result X StepsEnd) → why_by why (or_end r) ≡ why_by why_steps r
why_end (Ok x) = refl
why_end (Err stop) = refl

-- a stop that is a fault cuts a call off
pub fault_cuts : (at : Stop) → CutsOff at → (fault : Fault) × (stop_outcome at ≡ CutOff fault)
fault_cuts (stop.Missing name) is = absurd is
fault_cuts (stop.TooLong name) is = absurd is
fault_cuts (stop.Script fault) is = absurd is
fault_cuts (stop.Input name kind) is = absurd is
fault_cuts (stop.Overflow at) is = absurd is
fault_cuts (stop.FolderReadFault name) is = (ReadFault name, refl)
fault_cuts (stop.FolderWriteFault name) is = (WriteFault name, refl)
fault_cuts stop.Memory is = (NoMemory, refl)

-- another stop is an end by the files
pub files_come : (at : Stop) → (CutsOff at → ⊥) → (end : ScriptEnd) × (stop_outcome at ≡ CameTo end)
files_come (stop.Missing name) other = (Missing name, refl)
files_come (stop.TooLong name) other = (TooLong name, refl)
files_come (stop.Script fault) other = (Script fault, refl)
files_come (stop.Input name kind) other = (Input name kind, refl)
files_come (stop.Overflow at) other = (Overflow at, refl)
files_come (stop.FolderReadFault name) other = absurd (other tt)
files_come (stop.FolderWriteFault name) other = absurd (other tt)
files_come stop.Memory other = absurd (other tt)

-- no step leads from what stands to the same
pub no_steps : (plan : Plan) (s : Standing) (first count : ℕ) → count ≡ 0 → (state : FolderState) → Meets (why_by why_steps) (steps_run plan s first count) state state (CameTo (Ok s))
no_steps plan s first count none state =
    subst (λ n. Meets (why_by why_steps) (steps_run plan s first n) state state (CameTo (Ok s))) (sym none)
    (meets_settled (why_by why_steps) (Ok s) state (CameTo (Ok s)) (refl, refl))

module _ (plan : Plan) (s : Standing) (first count : ℕ) (old mid new : FolderState) where
  abbrev steps : Run (Result Standing StepsEnd)
  steps = steps_run plan s first count

  abbrev last_part : Result Standing StepsEnd → Run (Result (Unit {0}) StepsEnd)
  last_part end = end_as (or_steps_end []) (in_turn series_run tt (samples_by end))

  abbrev both : Run (Result Standing StepsEnd)
  both = afterwards steps last_part

  -- all time series are put
  pub series_put : (end : Result Standing StepsEnd) → Meets (why_by why_steps) steps old mid (CameTo end) → Meets (why_by why) (in_turn series_run tt (samples_by end)) mid new (CameTo (Ok tt)) →
      Meets (why_by why) (steps_and_series plan s first count) old new (CameTo (or_end end))
  series_put end m puts =
      meets_end_as (why_by why_steps) (why_by why) or_end why_end both old new (CameTo end)
      (meets_afterwards why_steps steps last_part old mid new end m
      (meets_end_as (why_by why) (why_by why_steps) (or_steps_end []) (why_stop []) (in_turn series_run tt (samples_by end)) mid new (CameTo (Ok tt)) puts))

  -- the time series are cut off
  series_cut : (end : Result Standing StepsEnd) (fault : Fault) → Meets (why_by why_steps) steps old mid (CameTo end) → Meets (why_by why) (in_turn series_run tt (samples_by end)) mid new (CutOff fault) →
      Meets (why_by why) (steps_and_series plan s first count) old new (CutOff fault)
  series_cut end fault m puts =
      meets_end_as (why_by why_steps) (why_by why) or_end why_end both old new (CutOff fault)
      (meets_last_stop why_steps steps last_part old mid new end fault m
      (meets_end_as (why_by why) (why_by why_steps) (or_steps_end []) (why_stop []) (in_turn series_run tt (samples_by end)) mid new (CutOff fault) puts))

  -- a time series is not put
  pub series_stop : (end : Result Standing StepsEnd) (at : Stop) → CutsOff at → Meets (why_by why_steps) steps old mid (CameTo end) → Meets (why_by why) (in_turn series_run tt (samples_by end)) mid new (stopped_by (stop_outcome at)) →
      Meets (why_by why) (steps_and_series plan s first count) old new (stopped_by (stop_outcome at))
  series_stop end at is m puts =
      let cut = fault_cuts at is in
      subst (λ o. Meets (why_by why) (steps_and_series plan s first count) old new (stopped_by o)) (sym cut.1)
      (series_cut end cut.0 m (subst (λ o. Meets (why_by why) (in_turn series_run tt (samples_by end)) mid new (stopped_by o)) cut.1 puts))

  -- the steps are cut off
  pub steps_cut : (fault : Fault) → Meets (why_by why_steps) steps old new (CutOff fault) → Meets (why_by why) (steps_and_series plan s first count) old new (CutOff fault)
  steps_cut fault m = meets_end_as (why_by why_steps) (why_by why) or_end why_end both old new (CutOff fault) (meets_cut_off why_steps steps last_part old new fault m)

  -- the steps came to their end, and then the time series are put or not
  pub series_result : (Is : Standing → Type 0) (t : Standing) → Is t → Meets (why_by why_steps) steps old mid (CameTo (Ok t)) → (r : Result (Unit {0}) Stop) → IfErr r CutsOff → Meets (why_by why) (in_turn series_run tt t.samples) mid new (outcome_by stop_outcome r) →
      MakesFor (λ t done. Is t) (steps_and_series plan s first count) old new r
  series_result Is t is m (Ok done) apart puts = (t, is, series_put (Ok t) m puts)
  series_result Is t is m (Err at) apart puts = series_stop (Ok t) at apart m puts

  -- the steps were cut off by a fault
  pub fault_result : (samples : List Sampled) (at : Stop) → CutsOff at → Meets (why_by why_steps) steps old new (stopped_by (steps_outcome samples (stop_outcome at))) → Meets (why_by why) (steps_and_series plan s first count) old new (stopped_by (stop_outcome at))
  fault_result samples at is m =
      let cut = fault_cuts at is in
      subst (λ o. Meets (why_by why) (steps_and_series plan s first count) old new (stopped_by o)) (sym cut.1)
      (steps_cut cut.0 (subst (λ o. Meets (why_by why_steps) steps old new (stopped_by (steps_outcome samples o))) cut.1 m))

  -- the files ended the steps, and then all time series are put
  pub stop_put : (samples : List Sampled) (at : Stop) → (CutsOff at → ⊥) → Meets (why_by why_steps) steps old mid (stopped_by (steps_outcome samples (stop_outcome at))) → Meets (why_by why) (in_turn series_run tt samples) mid new (CameTo (Ok tt)) →
      Meets (why_by why) (steps_and_series plan s first count) old new (stopped_by (stop_outcome at))
  stop_put samples at other m puts =
      let came = files_come at other in
      subst (λ o. Meets (why_by why) (steps_and_series plan s first count) old new (stopped_by o)) (sym came.1)
      (series_put (Err (record { samples = samples; end = came.0 })) (subst (λ o. Meets (why_by why_steps) steps old mid (stopped_by (steps_outcome samples o))) came.1 m) puts)

  -- the files ended the steps, and then a time series is not put
  pub stop_stop : (samples : List Sampled) (at last : Stop) → CutsOff last → (CutsOff at → ⊥) → Meets (why_by why_steps) steps old mid (stopped_by (steps_outcome samples (stop_outcome at))) → Meets (why_by why) (in_turn series_run tt samples) mid new (stopped_by (stop_outcome last)) →
      Meets (why_by why) (steps_and_series plan s first count) old new (stopped_by (stop_outcome last))
  stop_stop samples at last is other m puts =
      let came = files_come at other in
      series_stop (Err (record { samples = samples; end = came.0 })) last is (subst (λ o. Meets (why_by why_steps) steps old mid (stopped_by (steps_outcome samples o))) came.1 m) puts
