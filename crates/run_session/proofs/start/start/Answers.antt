-- The ways out of step 0.
use Rattle.std.proofs.Common.{◌≡◌, ◌*◌, List, [], length, map, sym, subst, ◌∙◌, Ok}
use Rattle.std.specs.Prelude.{All}
use Rattle.outside_io.specs.Runs.{in_turn}
use Rattle.outside_io.specs.Causes.{CameTo, stopped_by, why_by}
use Rattle.outside_io.specs.Met.{Meets}
use Rattle.drain_meaning.specs.Drains.{DrainMap}
use Rattle.map_meaning.specs.declared.known.StepMap.{StepMap}
use Rattle.map_meaning.specs.declared.program.OutputUse.{OutputUse}
use Rattle.grid_text.specs.Form.{IsSize}
use Rattle.run_session.specs.declared.frame.Frame.{Frame}
use Rattle.run_session.specs.Ends.{why}
use Rattle.run_session.specs.Steps.{evaluated_run, report_run}
use Rattle.run_session.specs.inside.Parts.{stop_outcome}
use Rattle.run_session.specs.inside.Standings.{AscendFrom, kept_of, kept_report, program_plan}
use Rattle.run_session.proofs.Rest.{makes_out}
use Rattle.run_session.proofs.StartRuns.{start_ascends, start_counts, start_no_maps, start_put_all, start_put_stops}
use Rattle.run_session.proofs.start.start.Goals as goal

pub returns-in_err-left-clause-meets : goal.returns-in_err-left-clause-meets
returns-in_err-left-clause-meets g c =
    let program = c.args.work.now.program.value in
    let inputs = c.args.work.now.inputs in
    let run = evaluated_run (program_plan program inputs) [] 0 in
    makes_out _ run _ _ c.from_residual.result _ c.from_residual.ensures.1
    (start_no_maps program c.requires.work.formed inputs _ (stop_outcome _) c.in_err-left.ensures.stops)

pub put_reports-requires-clause-ascend : goal.put_reports-requires-clause-ascend
put_reports-requires-clause-ascend g c =
    let program = c.args.work.now.program.value in
    let inputs = c.args.work.now.inputs in
    let start = c.in_ok-left.ensures.start in
    subst (AscendFrom 0) (sym c.as_slice.ensures) (start_ascends program c.requires.work.formed inputs start.start start.is_start c.in_ok-left.left start.first)

pub put_reports-requires-clause-size : goal.put_reports-requires-clause-size
put_reports-requires-clause-size g c =
    subst (λ (f : Frame). IsSize f.rows f.cols) (sym c.let_go_of_inputs.ensures.frame) c.requires.work.inputs.size

pub put_reports-requires-clause-counts : goal.put_reports-requires-clause-counts
put_reports-requires-clause-counts g c =
    let program = c.args.work.now.program.value in
    let inputs = c.args.work.now.inputs in
    let start = c.in_ok-left.ensures.start in
    let left = c.in_ok-left.left in
    let Q : Frame → List StepMap → List DrainMap → List OutputUse → Type 0 = λ frame maps drains outputs. All (λ (o : OutputUse). length (kept_of maps drains o.value) ≡ frame.rows * frame.cols) outputs in
    subst (λ f. Q f c.as_slice.result.now c.as_slice-2.result.now c.as_slice-3.result.now) (sym c.let_go_of_inputs.ensures.frame)
    (subst (λ maps. Q inputs.frame maps c.as_slice-2.result.now c.as_slice-3.result.now) (sym c.as_slice.ensures) (subst (λ drains. Q inputs.frame left.kept drains c.as_slice-3.result.now) (sym c.as_slice-2.ensures)
    (subst (Q inputs.frame left.kept left.drains) (sym (c.as_slice-3.ensures ∙ (c.let_go_of_inputs.ensures.firsts ∙ c.requires.work.firsts))) (start_counts program c.requires.work.formed inputs start.start start.is_start left start.first))))

pub returns-in_err-put_reports-clause-meets : goal.returns-in_err-put_reports-clause-meets
returns-in_err-put_reports-clause-meets g c =
    let program = c.args.work.now.program.value in
    let inputs = c.args.work.now.inputs in
    let state = g.F.Folder.state in
    let run = evaluated_run (program_plan program inputs) [] 0 in
    let start = c.in_ok-left.ensures.start in
    let left = c.in_ok-left.left in
    let Q : Frame → List StepMap → List DrainMap → List OutputUse → Type 0 = λ frame maps drains outputs.
    Meets (why_by why) (in_turn (report_run frame 0) tt (map (kept_report maps drains) outputs)) (state c.args.folder.now) (state c.put_reports.new.folder) (stopped_by (stop_outcome c.in_err-put_reports.field-0.0)) in
    let puts = subst (Q inputs.frame left.kept left.drains) (c.as_slice-3.ensures ∙ (c.let_go_of_inputs.ensures.firsts ∙ c.requires.work.firsts))
    (subst (λ drains. Q inputs.frame left.kept drains c.as_slice-3.result.now) c.as_slice-2.ensures (subst (λ maps. Q inputs.frame maps c.as_slice-2.result.now c.as_slice-3.result.now) c.as_slice.ensures
    (subst (λ f. Q f c.as_slice.result.now c.as_slice-2.result.now c.as_slice-3.result.now) c.let_go_of_inputs.ensures.frame c.in_err-put_reports.ensures.meets))) in
    makes_out _ run _ _ c.from_residual-in_err-put_reports.result _ c.from_residual-in_err-put_reports.ensures.1
    (start_put_stops program c.requires.work.formed inputs start.start start.is_start left start.first _ _ (stop_outcome _) puts)

pub returns-clause-meets : goal.returns-clause-meets
returns-clause-meets g c =
    let program = c.args.work.now.program.value in
    let inputs = c.args.work.now.inputs in
    let state = g.F.Folder.state in
    let start = c.in_ok-left.ensures.start in
    let left = c.in_ok-left.left in
    let Q : Frame → List StepMap → List DrainMap → List OutputUse → Type 0 = λ frame maps drains outputs.
    Meets (why_by why) (in_turn (report_run frame 0) tt (map (kept_report maps drains) outputs)) (state c.args.folder.now) (state c.put_reports.new.folder) (CameTo (Ok tt)) in
    let puts = subst (Q inputs.frame left.kept left.drains) (c.as_slice-3.ensures ∙ (c.let_go_of_inputs.ensures.firsts ∙ c.requires.work.firsts))
    (subst (λ drains. Q inputs.frame left.kept drains c.as_slice-3.result.now) c.as_slice-2.ensures (subst (λ maps. Q inputs.frame maps c.as_slice-2.result.now c.as_slice-3.result.now) c.as_slice.ensures
    (subst (λ f. Q f c.as_slice.result.now c.as_slice-2.result.now c.as_slice-3.result.now) c.let_go_of_inputs.ensures.frame c.in_ok-put_reports.ensures.meets))) in
    (_, start, start_put_all program c.requires.work.formed inputs start.start start.is_start left start.first _ _ puts)
