-- The ways out of what was read.
use Rattle.std.proofs.Common.{◌≡◌, sym, subst, Ok}
use Rattle.std.specs.Prelude.{Some}
use Rattle.outside_io.specs.Runs.{settled}
use Rattle.outside_io.specs.Causes.{CameTo, why_by}
use Rattle.outside_io.specs.Met.{Meets}
use Rattle.outside_io.proofs.Callers.{meets_on, meets_out, meets_settled, meets_stop}
use Rattle.map_meaning.specs.Programs.{IsWellFormed}
use Rattle.run_session.specs.declared.ends.Tally.{Tally}
use Rattle.run_session.specs.Course.{or_too_many, start_run}
use Rattle.run_session.specs.Ends.{why}
use Rattle.run_session.specs.Steps.{plan_run, tallied}
use Rattle.run_session.specs.inside.Parts.{halt_outcome, stop_outcome}
use Rattle.run_session.specs.inside.Standings.{program_plan}
use Rattle.run_session.specs.inside.Tallies.{files_put}
use Rattle.run_session.proofs.Halts.{many_out}
use Rattle.run_session.proofs.PlanTally.{plan_puts}
use Rattle.run_session.proofs.Rest.{after_count}
use Rattle.run_session.proofs.Tallies.{tallied_ends, tallied_stops}
use Rattle.run_session.proofs.session.run_start.Goals as goal

pub returns-in_err-admitted-clause-meets : goal.returns-in_err-admitted-clause-meets
returns-in_err-admitted-clause-meets g c =
    let state = g.F.Folder.state c.args.folder.now in
    let program = c.args.work.now.program.value in
    let inputs = c.args.work.now.inputs in
    let many = g.R.BlockRunner.admits c.args.runner.now program inputs.frame.rows inputs.frame.cols in
    let plan = program_plan program inputs in
    let settles = rw c.deref.ensures at c.in_err-admitted.ensures.settles in
    meets_out why (start_run many plan) _ halt_outcome _ c.from_residual.result _ c.from_residual.ensures.1
    (meets_stop why (settled (or_too_many many)) (after_count plan) _ _ (halt_outcome _)
    (meets_settled (why_by why) (or_too_many many) state _ settles))

pub returns-in_err-run_plan-clause-meets : goal.returns-in_err-run_plan-clause-meets
returns-in_err-run_plan-clause-meets g c =
    let state = g.F.Folder.state c.args.folder.now in
    let program = c.args.work.now.program.value in
    let inputs = c.args.work.now.inputs in
    let many = g.R.BlockRunner.admits c.args.runner.now program inputs.frame.rows inputs.frame.cols in
    let plan = program_plan program inputs in
    let settles = rw c.deref.ensures at c.in_ok-admitted.ensures.settles in
    let o = stop_outcome c.in_err-run_plan.field-0.0 in
    meets_out why (start_run many plan) _ halt_outcome _ c.from_residual-in_err-run_plan.result _ c.from_residual-in_err-run_plan.ensures.1
    (meets_on why (settled (or_too_many many)) (after_count plan) _ _ _ tt _
    (meets_settled (why_by why) (or_too_many many) state (CameTo (Ok tt)) settles)
    (tallied_stops (plan_run plan) program.steps state (g.F.Folder.state c.run_plan.new.folder) o c.in_err-run_plan.ensures.meets))

pub returns-clause-meets : goal.returns-clause-meets
returns-clause-meets g c =
    let state = g.F.Folder.state c.args.folder.now in
    let after = g.F.Folder.state c.run_plan.new.folder in
    let program = c.args.work.now.program.value in
    let inputs = c.args.work.now.inputs in
    let many = g.R.BlockRunner.admits c.args.runner.now program inputs.frame.rows inputs.frame.cols in
    let plan = program_plan program inputs in
    let settles = rw c.deref.ensures at c.in_ok-admitted.ensures.settles in
    let made = c.in_ok-run_plan.ensures.meets in
    let told = tallied_ends (plan_run plan) program.steps state after (files_put program) made.0 (plan_puts program inputs) made.2 in
    meets_on why (settled (or_too_many many)) (after_count plan) _ _ _ tt _
    (meets_settled (why_by why) (or_too_many many) state (CameTo (Ok tt)) settles)
    (subst (λ (tally : Tally). Meets (why_by why) (tallied program.steps (plan_run plan)) state after (CameTo (Ok tally))) (sym c.tally-done.ensures) told)

pub returns-clause-run : goal.returns-clause-run
returns-clause-run g c =
    let made = c.in_ok-run_plan.ensures.meets in
    record { standing = made.0; meets = made.2; asks = made.1 }

pub run_plan-requires-clause-admitted : goal.run_plan-requires-clause-admitted
run_plan-requires-clause-admitted g c = rw c.deref.ensures at c.in_ok-admitted.ensures.none

pub admitted-requires-clause-program : goal.admitted-requires-clause-program
admitted-requires-clause-program g c = subst IsWellFormed (sym c.deref.ensures) c.requires.work.formed

pub returns-in_err-admitted-clause-many : goal.returns-in_err-admitted-clause-many
returns-in_err-admitted-clause-many g c =
    let inputs = c.args.work.now.inputs in
    let told = rw c.deref.ensures at c.in_err-admitted.ensures.many in
    many_out (λ count. g.R.BlockRunner.admits c.args.runner.now c.args.work.now.program.value inputs.frame.rows inputs.frame.cols ≡ Some count) c.from_residual.result _ c.from_residual.ensures.1 told

pub returns-in_err-run_plan-clause-many : goal.returns-in_err-run_plan-clause-many
returns-in_err-run_plan-clause-many g c =
    let inputs = c.args.work.now.inputs in
    many_out (λ count. g.R.BlockRunner.admits c.args.runner.now c.args.work.now.program.value inputs.frame.rows inputs.frame.cols ≡ Some count) c.from_residual-in_err-run_plan.result _ c.from_residual-in_err-run_plan.ensures.1 tt
