-- The ways out of all steps.
use Rattle.std.proofs.Common.{◌≡◌, ◌<◌, List, [], map, sym, ap, subst, ◌∙◌, arith, refl}
use Rattle.outside_io.specs.Runs.{in_turn}
use Rattle.outside_io.specs.Causes.{outcome_by, why_by}
use Rattle.outside_io.specs.Met.{Meets}
use Rattle.outside_io.proofs.Callers.{meets_no_memory, meets_stop, read_keeps_all}
use Rattle.map_meaning.specs.declared.program.Program.{Program}
use Rattle.run_session.specs.declared.ends.Stop.TheVariants.{Memory}
use Rattle.run_session.specs.declared.work.Work.{Work}
use Rattle.run_session.specs.Ends.{why}
use Rattle.run_session.specs.Samples.{Sampled}
use Rattle.run_session.specs.Steps.{Standing, evaluated_run, plan_run, series_run, standing_at_start, steps_and_series}
use Rattle.run_session.specs.inside.Parts.{MakesFor, stop_outcome}
use Rattle.run_session.specs.inside.Running.{AsksAll, AsksFrom, AsksSoFar}
use Rattle.run_session.specs.inside.Standings.{program_plan, sampled_of}
use Rattle.run_session.proofs.Rest.{makes_on, makes_out}
use Rattle.run_session.proofs.SeriesRuns.{no_steps, series_result}
use Rattle.run_session.proofs.StepLoops.{asks_none}
use Rattle.run_session.proofs.start.run_plan.Goals as goal

pub returns-in_err-samples-clause-meets : goal.returns-in_err-samples-clause-meets
returns-in_err-samples-clause-meets g c =
    let plan = program_plan c.args.work.now.program.value c.args.work.now.inputs in
    makes_out _ (plan_run plan) _ _ c.from_residual.result Memory c.from_residual.ensures.1
    (meets_no_memory (why_by why) (plan_run plan) _ _ (read_keeps_all _) refl)

pub returns-in_err-left-clause-meets : goal.returns-in_err-left-clause-meets
returns-in_err-left-clause-meets g c =
    let plan = program_plan c.args.work.now.program.value c.args.work.now.inputs in
    makes_out _ (plan_run plan) _ _ c.from_residual-in_err-left.result _ c.from_residual-in_err-left.ensures.1
    (meets_stop why (evaluated_run plan [] 0) (λ reports. steps_and_series plan (standing_at_start plan) 1 plan.steps) _ _ (stop_outcome _) c.in_err-left.ensures.meets)

pub returns-then-deref-eq0-clause-meets : goal.returns-then-deref-eq0-clause-meets
returns-then-deref-eq0-clause-meets g c =
    let program = c.args.work.now.program.value in
    let inputs = c.args.work.now.inputs in
    let plan = program_plan program inputs in
    let state = g.F.Folder.state in
    let asked = g.R.BlockRunner.asked in
    let made = c.in_ok-left.ensures.meets in
    let start = made.1 in
    let zero : plan.steps ≡ 0 = sym c.in_ok-left.ensures.steps ∙ (sym (ap (λ (p : Program). p.steps) c.deref-2.ensures) ∙ c.if-deref-eq0.true) in
    let samples = ap (map sampled_of) c.as_slice.ensures.value ∙ (c.in_ok-samples.ensures.seen ∙ ap (λ (p : Program). (program_plan p inputs).samples) c.deref.ensures) in
    let P : List Sampled → Type 0 = λ samples. Meets (why_by why) (in_turn series_run tt samples) (state c.start.new.folder) (state c.put_samples.new.folder) (outcome_by stop_outcome c.put_samples.result) in
    let From : Standing → Unit {0} → Type 0 = λ t done. AsksFrom (asked c.start.new.runner) (asked c.start.new.runner) program inputs t.grids in
    let All : Standing → Unit {0} → Type 0 = λ t done. AsksAll (asked c.args.runner.now) (asked c.start.new.runner) program inputs t.grids in
    let none = subst (AsksSoFar (asked c.start.new.runner) (asked c.start.new.runner) program inputs []) (sym zero) (asks_none (asked c.start.new.runner) program inputs) in
    makes_on From All (evaluated_run plan [] 0) (λ reports. steps_and_series plan (standing_at_start plan) 1 plan.steps) (state c.args.folder.now) (state c.start.new.folder) (state c.put_samples.new.folder) made.0 made.2
    (λ t done from none. let first = start.asks none in from first.0 first.1 first.2) c.put_samples.result
    (series_result plan (standing_at_start plan) 1 plan.steps (state c.start.new.folder) (state c.start.new.folder) (state c.put_samples.new.folder) (λ t. From t tt) (standing_at_start plan) none
    (no_steps plan (standing_at_start plan) 1 plan.steps zero (state c.start.new.folder)) c.put_samples.result c.put_samples.ensures.apart (subst P samples c.put_samples.ensures.meets))

pub returns-clause-meets : goal.returns-clause-meets
returns-clause-meets g c =
    let program = c.args.work.now.program.value in
    let inputs = c.args.work.now.inputs in
    let plan = program_plan program inputs in
    let state = g.F.Folder.state in
    let asked = g.R.BlockRunner.asked in
    let made = c.in_ok-left.ensures.meets in
    let start = made.1 in
    let steps : c.deref-2.result.now.steps ≡ program.steps = ap (λ (p : Program). p.steps) c.deref-2.ensures ∙ c.in_ok-left.ensures.steps in
    let some : 0 < program.steps = omega (arith, steps, c.if-deref-eq0.false) in
    let same : c.start.new.work ≡ c.args.work.now = c.in_ok-left.ensures.more some in
    let From : Standing → Unit {0} → Type 0 = λ t done. AsksFrom (asked c.start.new.runner) (asked c.run_on.new.runner) program inputs t.grids in
    let All : Standing → Unit {0} → Type 0 = λ t done. AsksAll (asked c.args.runner.now) (asked c.run_on.new.runner) program inputs t.grids in
    let Made : Work → Type 0 = λ w. MakesFor (λ (t : Standing) (done : Unit {0}). AsksFrom (asked c.start.new.runner) (asked c.run_on.new.runner) w.program.value w.inputs t.grids)
    (steps_and_series (program_plan w.program.value w.inputs) (standing_at_start (program_plan w.program.value w.inputs)) 1 w.program.value.steps) (state c.start.new.folder) (state c.run_on.new.folder) c.run_on.result in
    makes_on From All (evaluated_run plan [] 0) (λ reports. steps_and_series plan (standing_at_start plan) 1 plan.steps) (state c.args.folder.now) (state c.start.new.folder) (state c.run_on.new.folder) made.0 made.2
    (λ t done from none. let first = start.asks none in from first.0 first.1 first.2) c.run_on.result (subst Made same c.run_on.ensures.meets)
