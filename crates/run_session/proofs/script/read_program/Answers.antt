-- The ways out of a script's text and its meaning.
use Rattle.outside_io.proofs.Callers.{meets_stop}
use Rattle.run_session.specs.Course.{checked_run, text_run}
use Rattle.run_session.specs.Ends.{why}
use Rattle.run_session.specs.inside.Parts.{IsProgramFor, stop_outcome}
use Rattle.run_session.proofs.Rest.{after_text, makes_out, program_made}
use Rattle.run_session.proofs.script.read_program.Goals as goal

pub returns-in_err-script : goal.returns-in_err-script
returns-in_err-script g c =
    let name = c.args.name.now in
    makes_out (λ s program. IsProgramFor s program.value) (checked_run name) _ _ c.from_residual.result _ c.from_residual.ensures.1
    (meets_stop why (text_run name) after_text _ _ (stop_outcome _) c.in_err-script.ensures.meets)

pub returns : goal.returns
returns g c =
    let state = g.F.Folder.state in
    program_made (λ program. program.value) c.args.name.now c.in_ok-script.script (state c.args.folder.now) (state c.script_at.new.folder) c.program_of.result c.program_of.ensures.lowered c.program_of.ensures.stops c.in_ok-script.ensures.meets
