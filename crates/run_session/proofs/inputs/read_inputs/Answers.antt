-- The ways out of the inputs.
use Rattle.std.proofs.Common.{◌≡◌, List, ap, subst, ◌∙◌}
use Rattle.std.specs.Prelude.{Ok}
use Rattle.outside_io.specs.Causes.{CameTo, stopped_by, why_by}
use Rattle.outside_io.specs.Met.{Meets}
use Rattle.outside_io.specs.Runs.{in_turn}
use Rattle.outside_io.proofs.Callers.{meets_on, meets_stop}
use Rattle.map_meaning.specs.declared.program.InputUse.{InputUse}
use Rattle.run_session.specs.declared.inputs.Sources.{Sources}
use Rattle.run_session.specs.Course.{area_run, inputs_run, nothing_given, numbered_input, one_more_input}
use Rattle.run_session.specs.Ends.{why}
use Rattle.run_session.specs.inside.Parts.{as_grid, stop_outcome}
use Rattle.run_session.proofs.Rest.{after_area, after_given, seen_out}
use Rattle.run_session.proofs.inputs.read_inputs.Goals as goal

pub returns-in_err-frame-clause-meets : goal.returns-in_err-frame-clause-meets
returns-in_err-frame-clause-meets g c =
    let list = c.args.program.now.inputs in
    let number = c.args.program.now.area in
    let state = g.F.Folder.state in
    let input = numbered_input list number in
    let same : c.numbered.result.now ≡ input = c.numbered.ensures.value ∙ ap (λ l. numbered_input l number) c.as_slice-uses.ensures in
    let P : InputUse → Type 0 = λ i. Meets (why_by why) (area_run i) (state c.args.folder.now) (state c.area_at.new.folder) (stopped_by (stop_outcome c.in_err-frame.field-0.0)) in
    seen_out (λ (sources : Sources). sources.inputs) (inputs_run list number) _ _ c.from_residual.result _ c.from_residual.ensures.1
    (meets_stop why (area_run input) (after_area list number) _ _ (stop_outcome c.in_err-frame.field-0.0) (subst P same c.in_err-frame.ensures.meets))

pub returns-in_err-read_all-clause-meets : goal.returns-in_err-read_all-clause-meets
returns-in_err-read_all-clause-meets g c =
    let list = c.args.program.now.inputs in
    let number = c.args.program.now.area in
    let state = g.F.Folder.state in
    let input = numbered_input list number in
    let area = as_grid c.in_ok-frame.field-0 in
    let same : c.numbered.result.now ≡ input = c.numbered.ensures.value ∙ ap (λ l. numbered_input l number) c.as_slice-uses.ensures in
    let P : InputUse → Type 0 = λ i. Meets (why_by why) (area_run i) (state c.args.folder.now) (state c.area_at.new.folder) (CameTo (Ok area)) in
    let Q : List InputUse → Type 0 = λ l. Meets (why_by why) (in_turn (one_more_input number area) nothing_given l) (state c.area_at.new.folder) (state c.read_all.new.folder) (stopped_by (stop_outcome c.in_err-read_all.field-0.0)) in
    seen_out (λ (sources : Sources). sources.inputs) (inputs_run list number) _ _ c.from_residual-in_err-read_all.result _ c.from_residual-in_err-read_all.ensures.1
    (meets_on why (area_run input) (after_area list number) _ _ _ area _ (subst P same c.in_ok-frame.ensures.meets)
    (meets_stop why (in_turn (one_more_input number area) nothing_given list) (after_given area) _ _ (stop_outcome c.in_err-read_all.field-0.0) (subst Q c.as_slice-uses.ensures c.in_err-read_all.ensures.meets)))
