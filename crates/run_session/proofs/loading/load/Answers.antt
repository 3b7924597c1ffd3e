-- The ways out of what is read before the first step.
use Rattle.std.proofs.Common.{ℕ, List, refl, subst}
use Rattle.std.specs.Prelude.{Ok, Result}
use Rattle.outside_io.specs.State.{FolderState}
use Rattle.outside_io.specs.Causes.{CameTo, RunOutcome, why_by}
use Rattle.outside_io.specs.Met.{Meets}
use Rattle.outside_io.proofs.Callers.{meets_on, meets_settled, meets_stop}
use Rattle.map_meaning.specs.declared.program.InputUse.{InputUse}
use Rattle.map_meaning.specs.declared.program.Program.{Program}
use Rattle.script_types.specs.Lowered.{area_number, inputs_of}
use Rattle.run_session.specs.declared.inputs.Inputs.{Inputs}
use Rattle.run_session.specs.Course.{CheckedScript, Loaded, checked_run, inputs_read, inputs_run, load_run}
use Rattle.run_session.specs.Ends.{ScriptEnd, why}
use Rattle.run_session.specs.inside.Parts.{AreSourcesOf, IsProgramFor, IsReady, stop_outcome}
use Rattle.run_session.proofs.Rest.{after_inputs, makes_out}
use Rattle.run_session.proofs.loading.load.Goals as goal

-- what is left once the script is read, by its program
after_script : (s : CheckedScript) (program : Program) (mid new : FolderState) (outcome : RunOutcome (Result Inputs ScriptEnd)) → IsProgramFor s program → Meets (why_by why) (inputs_run program.inputs program.area) mid new outcome →
    Meets (why_by why) (inputs_run (inputs_of s.script) (area_number s.script)) mid new outcome
after_script s program mid new outcome for m =
    let P : List InputUse → Type 0 = λ list. Meets (why_by why) (inputs_run list program.area) mid new outcome in
    let Q : ℕ → Type 0 = λ number. Meets (why_by why) (inputs_run (inputs_of s.script) number) mid new outcome in
    subst Q for.lowered.program_of.area (subst P for.lowered.program_of.inputs m)

pub returns-in_err-program : goal.returns-in_err-program
returns-in_err-program g c =
    let name = c.args.name.now in
    makes_out IsReady (load_run name) _ _ c.from_residual.result _ c.from_residual.ensures.1
    (meets_stop why (checked_run name) inputs_read _ _ (stop_outcome _) c.in_err-program.ensures)

pub returns-in_err-sources : goal.returns-in_err-sources
returns-in_err-sources g c =
    let name = c.args.name.now in
    let made = c.in_ok-program.ensures in
    let s = made.0 in
    makes_out IsReady (load_run name) _ _ c.from_residual-in_err-sources.result _ c.from_residual-in_err-sources.ensures.1
    (meets_on why (checked_run name) inputs_read _ _ _ s _ made.2
    (meets_stop why (inputs_run (inputs_of s.script) (area_number s.script)) (after_inputs s) _ _ (stop_outcome _)
    (after_script s c.in_ok-program.program.value _ _ _ made.1 (rw c.deref.ensures at c.in_err-sources.ensures.meets))))

pub returns : goal.returns
returns g c =
    let name = c.args.name.now in
    let state = g.F.Folder.state c.read_inputs.new.folder in
    let made = c.in_ok-program.ensures in
    let s = made.0 in
    let inputs = c.in_ok-sources.sources.inputs in
    let sources : AreSourcesOf c.in_ok-program.program.value.inputs c.in_ok-sources.sources = rw c.deref.ensures at c.in_ok-sources.ensures.sources in
    let l : Loaded = record { script = s.script; lines = s.lines; inputs = inputs } in (
      l,
      record {
        program = made.1;
        inputs = refl;
        maps = sources.inputs;
        drains = sources.drains;
      },
      meets_on why (checked_run name) inputs_read _ _ _ s (CameTo (Ok l)) made.2
          (meets_on why (inputs_run (inputs_of s.script) (area_number s.script)) (after_inputs s) _ _ _ inputs (CameTo (Ok l))
          (after_script s c.in_ok-program.program.value _ _ _ made.1 (rw c.deref.ensures at c.in_ok-sources.ensures.meets))
          (meets_settled (why_by why) (Ok l) state (CameTo (Ok l)) (refl, refl))),
    )
