-- An end of the parts of a script is the end of the whole.
use Rattle.std.proofs.Common.{subst, sym}
use Rattle.outside_io.specs.Causes.{RunOutcome, stopped_by, why_by}
use Rattle.outside_io.specs.Met.{Meets}
use Rattle.outside_io.proofs.Callers.{meets_end_as}
use Rattle.run_session.specs.Course.{script_run, whole_run}
use Rattle.run_session.specs.Ends.{ScriptEnd, script_end, why}
use Rattle.run_session.specs.Asked.{IsCountOf, WasAsked}
use Rattle.run_session.specs.inside.Parts.{halt_outcome}
use Rattle.run_session.proofs.Halts.{many_told}
use Rattle.run_session.proofs.Rest.{stop_is_end, undone, why_same}
use Rattle.run_session.proofs.session.run_script.Goals as goal

pub returns-in-Err-clause-meets : goal.returns-in-Err-clause-meets
returns-in-Err-clause-meets g c many counts =
    let state = g.F.Folder.state in
    let old = state c.args.folder.now in
    let new = state c.run_named.new.folder in
    let o = halt_outcome c.in-Err.halt in
    let P : RunOutcome ScriptEnd → Type 0 = λ r. Meets why (script_run many c.args.name.now) old new r in
    subst P (sym c.session_end.ensures.outcome)
    (subst P (stop_is_end o) (meets_end_as (why_by why) why script_end why_same (whole_run many c.args.name.now) old new (stopped_by o) (c.in-Err.ensures.meets many counts)))

pub returns-in-Err-clause-asked : goal.returns-in-Err-clause-asked
returns-in-Err-clause-asked g c block asked = undone c.session_end.result (WasAsked (g.R.BlockRunner.asked c.run_named.new.runner) c.args.name.now (g.F.Folder.state c.args.folder.now).holds) c.session_end.ensures.stopped

pub returns-in-Err-clause-many : goal.returns-in-Err-clause-many
returns-in-Err-clause-many g c many counts = many_told (IsCountOf many) c.session_end.result c.in-Err.halt c.session_end.ensures.many (c.in-Err.ensures.many many counts)
