-- The ways out of a script.
use Rattle.std.proofs.Common.{◌≡◌, refl, subst, ◌∙◌}
use Rattle.std.specs.Prelude.{IfErr, IfOk, Result, Some}
use Rattle.std.proofs.lemmas.Result.{IfOk-weaker}
use Rattle.outside_io.specs.Events.{Run}
use Rattle.outside_io.specs.Causes.{outcome_by, why_by}
use Rattle.outside_io.specs.Met.{Meets}
use Rattle.outside_io.proofs.Callers.{meets_no_memory, meets_on, meets_out, meets_stop, read_keeps_all}
use Rattle.map_meaning.specs.declared.program.Program.{Program}
use Rattle.run_session.specs.declared.ends.Halt.TheVariants.{Stopped}
use Rattle.run_session.specs.declared.ends.Stop.TheVariants.{Memory}
use Rattle.run_session.specs.declared.ends.Tally.{Tally}
use Rattle.run_session.specs.declared.inputs.Inputs.{Inputs}
use Rattle.run_session.specs.Asked.{IsCountOf, WasAsked}
use Rattle.run_session.specs.Course.{load_run, loaded_run, start_run, whole_run}
use Rattle.run_session.specs.Ends.{ScriptEnd, why}
use Rattle.run_session.specs.inside.Parts.{IfHasMany, halt_outcome, stop_outcome}
use Rattle.run_session.specs.inside.Standings.{program_plan}
use Rattle.run_session.specs.inside.Tallies.{HasRun}
use Rattle.run_session.proofs.Halts.{many_out, many_weaker}
use Rattle.run_session.proofs.Rest.{start_same, was_asked}
use Rattle.run_session.proofs.session.run_named.Goals as goal

pub returns-in_err-ready-clause-meets : goal.returns-in_err-ready-clause-meets
returns-in_err-ready-clause-meets g c many counts =
    let name = c.args.name.now in
    meets_out why (whole_run many name) _ halt_outcome _ c.from_residual.result _ c.from_residual.ensures.1
    (meets_stop why (load_run name) (loaded_run many) _ _ (stop_outcome _) c.in_err-ready.ensures)

pub returns-in_err-work-clause-meets : goal.returns-in_err-work-clause-meets
returns-in_err-work-clause-meets g c many counts =
    let name = c.args.name.now in
    let made = c.in_ok-ready.ensures in
    meets_out why (whole_run many name) _ halt_outcome _ c.from_residual-in_err-work.result (Stopped Memory) c.from_residual-in_err-work.ensures.1
    (meets_on why (load_run name) (loaded_run many) _ _ _ made.0 _ made.2
    (meets_no_memory (why_by why) (loaded_run many made.0) _ _ (read_keeps_all _) refl))

pub returns-clause-meets : goal.returns-clause-meets
returns-clause-meets g c many counts =
    let name = c.args.name.now in
    let state = g.F.Folder.state in
    let ready = c.in_ok-ready.ready in
    let work = c.in_ok-work.work in
    let made = c.in_ok-ready.ensures in
    let l = made.0 in
    let is = made.1 in
    let admits = g.R.BlockRunner.admits c.args.runner.now in
    let P : Run (Result Tally ScriptEnd) → Type 0 = λ run. Meets (why_by why) run (state c.load.new.folder) (state c.run_start.new.folder) (outcome_by halt_outcome c.run_start.result) in
    let Q : Program → Inputs → Type 0 = λ p i. P (start_run (admits p i.frame.rows i.frame.cols) (program_plan p i)) in
    let meets = subst (λ i. Q ready.program.value i) c.in_ok-work.ensures.inputs (subst (λ p. Q p work.inputs) c.in_ok-work.ensures.program c.run_start.ensures.meets) in
    meets_on why (load_run name) (loaded_run many) _ _ _ l _ made.2
    (subst P (start_same l ready.program.value is.program ready.inputs is.maps is.inputs admits many counts) meets)

pub returns-in_err-ready-clause-many : goal.returns-in_err-ready-clause-many
returns-in_err-ready-clause-many g c many counts = many_out (IsCountOf many) c.from_residual.result _ c.from_residual.ensures.1 tt

pub returns-in_err-work-clause-many : goal.returns-in_err-work-clause-many
returns-in_err-work-clause-many g c many counts = many_out (IsCountOf many) c.from_residual-in_err-work.result (Stopped Memory) c.from_residual-in_err-work.ensures.1 tt

pub returns-clause-many : goal.returns-clause-many
returns-clause-many g c many counts =
    let ready = c.in_ok-ready.ready in
    let work = c.in_ok-work.work in
    let made = c.in_ok-ready.ensures in
    let l = made.0 in
    let admits = g.R.BlockRunner.admits c.args.runner.now in
    let rows = work.inputs.frame.rows in
    let cols = work.inputs.frame.cols in
    let told = subst (λ (p : Program). IfErr c.run_start.result (λ halt. IfHasMany halt (λ count. admits p rows cols ≡ Some count))) c.in_ok-work.ensures.program c.run_start.ensures.many in
    many_weaker (λ count. admits ready.program.value rows cols ≡ Some count) (IsCountOf many)
    (λ count is. (l.script, rows, cols, counts l.script ready.program.value made.1.program.lowered rows cols ∙ is)) c.run_start.result told

pub returns-clause-asked : goal.returns-clause-asked
returns-clause-asked g c none =
    let name = c.args.name.now in
    let state = g.F.Folder.state in
    let ready = c.in_ok-ready.ready in
    let work = c.in_ok-work.work in
    let made = c.in_ok-ready.ensures in
    let l = made.0 in
    let is = made.1 in
    let asked = g.R.BlockRunner.asked in
    let Q : Program → Inputs → Type 0 = λ p i. IfOk c.run_start.result (λ tally. HasRun (asked c.args.runner.now) (asked c.run_start.new.runner) p i (state c.load.new.folder) (state c.run_start.new.folder)) in
    let run = subst (λ i. Q ready.program.value i) c.in_ok-work.ensures.inputs (subst (λ p. Q p work.inputs) c.in_ok-work.ensures.program c.run_start.ensures.run) in
    IfOk-weaker c.run_start.result (λ tally. HasRun (asked c.args.runner.now) (asked c.run_start.new.runner) ready.program.value ready.inputs (state c.load.new.folder) (state c.run_start.new.folder)) (λ tally. WasAsked (asked c.run_start.new.runner) name (state c.args.folder.now).holds)
    (λ tally run. was_asked l ready.program.value is.program ready.inputs is.maps is.inputs (asked c.args.runner.now) (asked c.run_start.new.runner) name (state c.args.folder.now) (state c.load.new.folder) (state c.run_start.new.folder) made.2 none run)
    run

pub prepared-requires-clause-inputs : goal.prepared-requires-clause-inputs
prepared-requires-clause-inputs g c = c.in_ok-ready.ensures.1.maps

pub prepared-requires-clause-program : goal.prepared-requires-clause-program
prepared-requires-clause-program g c = c.in_ok-ready.ensures.1.program.lowered.formed
