-- The ways out of the steps and their time series.
use Rattle.std.proofs.Common.{List, map, refl, subst, sym}
use Rattle.outside_io.specs.Runs.{in_turn}
use Rattle.outside_io.specs.Causes.{outcome_by, why_by}
use Rattle.outside_io.specs.Met.{Meets}
use Rattle.run_session.specs.Ends.{why}
use Rattle.run_session.specs.Samples.{Sampled}
use Rattle.run_session.specs.Steps.{Standing, series_run, standing_at_start, steps_and_series}
use Rattle.run_session.specs.inside.Parts.{stop_outcome}
use Rattle.run_session.specs.inside.Running.{AsksFrom}
use Rattle.run_session.specs.inside.Standings.{program_plan, sampled_of}
use Rattle.run_session.proofs.Rest.{makes_out}
use Rattle.run_session.proofs.SeriesRuns.{fault_result, series_result, stop_put, stop_stop}
use Rattle.run_session.proofs.steps.run_on.Goals as goal

pub returns-then-not-is_by_files-clause-meets : goal.returns-then-not-is_by_files-clause-meets
returns-then-not-is_by_files-clause-meets g c =
    let plan = program_plan c.args.work.now.program.value c.args.work.now.inputs in
    fault_result plan (standing_at_start plan) 1 plan.steps _ (g.F.Folder.state c.args.folder.now) _ (map sampled_of c.run_steps.new.samples) c.in-Err.stop (c.if-not-is_by_files.ensures.no refl) c.in-Err.ensures.meets

pub returns-in_ok-put_samples-in-Err-clause-meets : goal.returns-in_ok-put_samples-in-Err-clause-meets
returns-in_ok-put_samples-in-Err-clause-meets g c =
    let plan = program_plan c.args.work.now.program.value c.args.work.now.inputs in
    stop_put plan (standing_at_start plan) 1 plan.steps _ _ _ (map sampled_of c.run_steps.new.samples) c.in-Err.stop (c.if-not-is_by_files.ensures.yes refl) c.in-Err.ensures.meets c.in_ok-put_samples-in-Err.ensures.meets

pub returns-in_err-put_samples-in-Err-clause-meets : goal.returns-in_err-put_samples-in-Err-clause-meets
returns-in_err-put_samples-in-Err-clause-meets g c =
    let plan = program_plan c.args.work.now.program.value c.args.work.now.inputs in
    makes_out _ (steps_and_series plan (standing_at_start plan) 1 plan.steps) _ _ c.from_residual.result _ c.from_residual.ensures.1
    (stop_stop plan (standing_at_start plan) 1 plan.steps _ _ _ (map sampled_of c.run_steps.new.samples) c.in-Err.stop _ c.in_err-put_samples-in-Err.ensures.apart (c.if-not-is_by_files.ensures.yes refl) c.in-Err.ensures.meets c.in_err-put_samples-in-Err.ensures.meets)

pub returns-in-Ok-clause-meets : goal.returns-in-Ok-clause-meets
returns-in-Ok-clause-meets g c =
    let program = c.args.work.now.program.value in
    let inputs = c.args.work.now.inputs in
    let plan = program_plan program inputs in
    let state = g.F.Folder.state in
    let asked = g.R.BlockRunner.asked in
    let made = c.in-Ok.ensures.meets in
    let t = made.0 in
    let P : List Sampled → Type 0 = λ samples. Meets (why_by why) (in_turn series_run tt samples) (state c.run_steps.new.folder) (state c.put_samples.new.folder) (outcome_by stop_outcome c.put_samples.result) in
    let Is : Standing → Type 0 = λ t. AsksFrom (asked c.args.runner.now) (asked c.run_steps.new.runner) program inputs t.grids in
    series_result plan (standing_at_start plan) 1 plan.steps _ _ _ Is t made.1 made.3 c.put_samples.result c.put_samples.ensures.apart (subst P (sym made.2) c.put_samples.ensures.meets)
