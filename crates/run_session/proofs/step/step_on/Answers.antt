-- The ways out of a step.
use Rattle.std.proofs.Common.{◌≡◌, suc, ◌-◌, ◌*◌, List, [], length, map, refl, sym, ap, subst, ◌∙◌, Ok, arith}
use Rattle.std.specs.Prelude.{All}
use Rattle.outside_io.specs.Runs.{in_turn}
use Rattle.outside_io.specs.Causes.{CameTo, stopped_by, why_by}
use Rattle.outside_io.specs.Met.{Meets}
use Rattle.outside_io.specs.inside.Parts.{Settles}
use Rattle.drain_meaning.specs.Drains.{DrainMap}
use Rattle.map_meaning.specs.declared.known.Known.{Known}
use Rattle.map_meaning.specs.declared.known.StepMap.{StepMap}
use Rattle.map_meaning.specs.declared.program.OutputUse.{OutputUse}
use Rattle.map_meaning.specs.Spans.{Knows, stage_of, step_span}
use Rattle.grid_text.specs.Form.{IsSize}
use Rattle.run_session.specs.declared.ends.Stop.TheVariants.{Memory}
use Rattle.run_session.specs.declared.frame.Frame.{Frame}
use Rattle.run_session.specs.declared.stacks.StackUse.{StackUse}
use Rattle.run_session.specs.Ends.{why}
use Rattle.run_session.specs.Steps.{one_more_grid, report_run, stacks_among, step_run}
use Rattle.run_session.specs.inside.Parts.{stop_outcome}
use Rattle.run_session.specs.inside.Standings.{AreGridsOf, AscendFrom, IsOrdered, kept_of, kept_report, known_at, program_plan, stage_result, with_held_row}
use Rattle.run_session.specs.inside.Running.{IsStanding}
use Rattle.run_session.specs.Asked.{IsRunOf}
use Rattle.run_session.proofs.Rest.{makes_out}
use Rattle.run_session.proofs.StepOn.{maps_ascend, maps_count, no_maps, put_all, put_stops, standing_here, stands_here}
use Rattle.run_session.proofs.StepRuns.{no_grids, no_known}
use Rattle.run_session.proofs.StepStages.{known_ordered, step_knows}
use Rattle.run_session.proofs.StepStandings.{step_asked}
use Rattle.run_session.proofs.step.step_on.Goals as goal

pub returns-in_err-grids-clause-meets : goal.returns-in_err-grids-clause-meets
returns-in_err-grids-clause-meets g c s is =
    let program = c.args.work.now.program.value in
    let inputs = c.args.work.now.inputs in
    let plan = program_plan program inputs in
    let step = c.args.step in
    let state = g.F.Folder.state in
    let same : c.as_slice.result.now ≡ stacks_among 0 program.inputs = c.as_slice.ensures ∙ c.requires.work.stacks in
    let P : List StackUse → Type 0 = λ list. Meets (why_by why) (in_turn (one_more_grid inputs.frame step) [] list) (state c.args.folder.now) (state c.read_grids.new.folder) (stopped_by (stop_outcome c.in_err-grids.field-0.0)) in
    makes_out _ (step_run plan s step) _ _ c.from_residual.result _ c.from_residual.ensures.1
    (no_grids plan s step _ _ (stop_outcome _) (subst P same c.in_err-grids.ensures.meets))

pub returns-in_err-known-clause-meets : goal.returns-in_err-known-clause-meets
returns-in_err-known-clause-meets g c s is =
    let program = c.args.work.now.program.value in
    let inputs = c.args.work.now.inputs in
    let plan = program_plan program inputs in
    let step = c.args.step in
    let state = g.F.Folder.state in
    let same : c.as_slice.result.now ≡ stacks_among 0 program.inputs = c.as_slice.ensures ∙ c.requires.work.stacks in
    let P : List StackUse → Type 0 = λ list. Meets (why_by why) (in_turn (one_more_grid inputs.frame step) [] list) (state c.args.folder.now) (state c.read_grids.new.folder) (CameTo (Ok c.in_ok-grids.grids)) in
    makes_out _ (step_run plan s step) _ _ c.from_residual-in_err-known.result Memory c.from_residual-in_err-known.ensures.1
    (no_known plan s step _ _ c.in_ok-grids.grids (subst P same c.in_ok-grids.ensures.meets))

pub evaluate-requires-clause-known : goal.evaluate-requires-clause-known
evaluate-requires-clause-known g c =
    let program = c.args.work.now.program.value in
    let inputs = c.args.work.now.inputs in
    let step = c.args.step in
    let e : step ≡ suc (step - 1) = omega (arith, c.requires.some) in
    let places = inputs.frame.rows * inputs.frame.cols in
    let same : c.as_slice.result.now ≡ stacks_among 0 program.inputs = c.as_slice.ensures ∙ c.requires.work.stacks in
    let grids = subst (λ (list : List StackUse). AreGridsOf places step list c.in_ok-grids.grids) same c.in_ok-grids.ensures.grids in
    subst (Knows program (step_span step)) (sym c.in_ok-known.ensures)
    (step_knows program c.requires.work.formed inputs c.requires.work.inputs step (step - 1) e c.requires.some c.requires.there c.requires.standing.0 c.args.left.now c.args.last c.args.samples.now c.requires.standing.1 c.in_ok-grids.grids grids)

pub returns-in_err-maps-clause-meets : goal.returns-in_err-maps-clause-meets
returns-in_err-maps-clause-meets g c s is =
    let program = c.args.work.now.program.value in
    let inputs = c.args.work.now.inputs in
    let plan = program_plan program inputs in
    let step = c.args.step in
    let state = g.F.Folder.state in
    let e : step ≡ suc (step - 1) = omega (arith, c.requires.some) in
    let places = inputs.frame.rows * inputs.frame.cols in
    let same : c.as_slice.result.now ≡ stacks_among 0 program.inputs = c.as_slice.ensures ∙ c.requires.work.stacks in
    let grids = subst (λ (list : List StackUse). AreGridsOf places step list c.in_ok-grids.grids) same c.in_ok-grids.ensures.grids in
    let P : List StackUse → Type 0 = λ list. Meets (why_by why) (in_turn (one_more_grid inputs.frame step) [] list) (state c.args.folder.now) (state c.read_grids.new.folder) (CameTo (Ok c.in_ok-grids.grids)) in
    let Q : Known → Type 0 = λ known. Settles (why_by why) (stage_result (stage_of program (step_span step) known)) (stopped_by (stop_outcome c.in_err-maps.field-0.0)) in
    makes_out _ (step_run plan s step) _ _ c.from_residual-in_err-maps.result _ c.from_residual-in_err-maps.ensures.1
    (no_maps program c.requires.work.formed inputs c.requires.work.inputs step (step - 1) e c.requires.some c.requires.there s c.args.left.now c.args.last c.args.samples.now is c.in_ok-grids.grids grids
    _ _ (subst P same c.in_ok-grids.ensures.meets) (stop_outcome _) (subst Q c.in_ok-known.ensures c.in_err-maps.ensures.settles))

pub note_rows-requires-clause-ascend : goal.note_rows-requires-clause-ascend
note_rows-requires-clause-ascend g c =
    let program = c.args.work.now.program.value in
    let inputs = c.args.work.now.inputs in
    let step = c.args.step in
    let state = g.F.Folder.state in
    let e : step ≡ suc (step - 1) = omega (arith, c.requires.some) in
    let places = inputs.frame.rows * inputs.frame.cols in
    let same : c.as_slice.result.now ≡ stacks_among 0 program.inputs = c.as_slice.ensures ∙ c.requires.work.stacks in
    let grids = subst (λ (list : List StackUse). AreGridsOf places step list c.in_ok-grids.grids) same c.in_ok-grids.ensures.grids in
    let P : List StackUse → Type 0 = λ list. Meets (why_by why) (in_turn (one_more_grid inputs.frame step) [] list) (state c.args.folder.now) (state c.read_grids.new.folder) (CameTo (Ok c.in_ok-grids.grids)) in
    let value = ap (λ known. stage_result (stage_of program (step_span step) known)) (sym c.in_ok-known.ensures) ∙ c.in_ok-maps.ensures.settles.0 in
    subst (AscendFrom 0) (sym c.as_slice-2.ensures)
    (maps_ascend program c.requires.work.formed inputs c.requires.work.inputs step (step - 1) e c.requires.some c.requires.there c.requires.standing.0 c.args.left.now c.args.last c.args.samples.now c.requires.standing.1 c.in_ok-grids.grids grids
    _ _ (subst P same c.in_ok-grids.ensures.meets) c.in_ok-maps.maps value)

pub note_rows-requires-clause-ordered : goal.note_rows-requires-clause-ordered
note_rows-requires-clause-ordered g c =
    let program = c.args.work.now.program.value in
    let inputs = c.args.work.now.inputs in
    let step = c.args.step in
    let e : step ≡ suc (step - 1) = omega (arith, c.requires.some) in
    let places = inputs.frame.rows * inputs.frame.cols in
    let same : c.as_slice.result.now ≡ stacks_among 0 program.inputs = c.as_slice.ensures ∙ c.requires.work.stacks in
    let grids = subst (λ (list : List StackUse). AreGridsOf places step list c.in_ok-grids.grids) same c.in_ok-grids.ensures.grids in
    subst IsOrdered (sym c.in_ok-known.ensures)
    (known_ordered program c.requires.work.formed inputs c.requires.work.inputs step (step - 1) e c.requires.some c.requires.there c.requires.standing.0 c.args.left.now c.args.last c.args.samples.now c.requires.standing.1 c.in_ok-grids.grids grids)

pub returns-in_err-note_rows-clause-meets : goal.returns-in_err-note_rows-clause-meets
returns-in_err-note_rows-clause-meets g c s is =
    let program = c.args.work.now.program.value in
    let inputs = c.args.work.now.inputs in
    let step = c.args.step in
    let plan = program_plan program inputs in
    let state = g.F.Folder.state in
    let same : c.as_slice.result.now ≡ stacks_among 0 program.inputs = c.as_slice.ensures ∙ c.requires.work.stacks in
    let P : List StackUse → Type 0 = λ list. Meets (why_by why) (in_turn (one_more_grid inputs.frame step) [] list) (state c.args.folder.now) (state c.read_grids.new.folder) (CameTo (Ok c.in_ok-grids.grids)) in
    makes_out _ (step_run plan s step) _ _ c.from_residual-in_err-note_rows.result Memory c.from_residual-in_err-note_rows.ensures.1
    (no_known plan s step _ _ c.in_ok-grids.grids (subst P same c.in_ok-grids.ensures.meets))

pub put_reports-requires-clause-size : goal.put_reports-requires-clause-size
put_reports-requires-clause-size g c =
    subst (λ (f : Frame). IsSize f.rows f.cols) (sym c.let_go.ensures.frame) c.requires.work.inputs.size

pub put_reports-requires-clause-ascend : goal.put_reports-requires-clause-ascend
put_reports-requires-clause-ascend g c =
    let program = c.args.work.now.program.value in
    let inputs = c.args.work.now.inputs in
    let step = c.args.step in
    let state = g.F.Folder.state in
    let e : step ≡ suc (step - 1) = omega (arith, c.requires.some) in
    let places = inputs.frame.rows * inputs.frame.cols in
    let same : c.as_slice.result.now ≡ stacks_among 0 program.inputs = c.as_slice.ensures ∙ c.requires.work.stacks in
    let grids = subst (λ (list : List StackUse). AreGridsOf places step list c.in_ok-grids.grids) same c.in_ok-grids.ensures.grids in
    let P : List StackUse → Type 0 = λ list. Meets (why_by why) (in_turn (one_more_grid inputs.frame step) [] list) (state c.args.folder.now) (state c.read_grids.new.folder) (CameTo (Ok c.in_ok-grids.grids)) in
    let value = ap (λ known. stage_result (stage_of program (step_span step) known)) (sym c.in_ok-known.ensures) ∙ c.in_ok-maps.ensures.settles.0 in
    subst (AscendFrom 0) (sym c.as_slice-3.ensures)
    (maps_ascend program c.requires.work.formed inputs c.requires.work.inputs step (step - 1) e c.requires.some c.requires.there c.requires.standing.0 c.args.left.now c.args.last c.args.samples.now c.requires.standing.1 c.in_ok-grids.grids grids
    _ _ (subst P same c.in_ok-grids.ensures.meets) c.in_ok-maps.maps value)

pub put_reports-requires-clause-counts : goal.put_reports-requires-clause-counts
put_reports-requires-clause-counts g c =
    let program = c.args.work.now.program.value in
    let inputs = c.args.work.now.inputs in
    let step = c.args.step in
    let state = g.F.Folder.state in
    let e : step ≡ suc (step - 1) = omega (arith, c.requires.some) in
    let places = inputs.frame.rows * inputs.frame.cols in
    let same : c.as_slice.result.now ≡ stacks_among 0 program.inputs = c.as_slice.ensures ∙ c.requires.work.stacks in
    let grids = subst (λ (list : List StackUse). AreGridsOf places step list c.in_ok-grids.grids) same c.in_ok-grids.ensures.grids in
    let P : List StackUse → Type 0 = λ list. Meets (why_by why) (in_turn (one_more_grid inputs.frame step) [] list) (state c.args.folder.now) (state c.read_grids.new.folder) (CameTo (Ok c.in_ok-grids.grids)) in
    let value = ap (λ known. stage_result (stage_of program (step_span step) known)) (sym c.in_ok-known.ensures) ∙ c.in_ok-maps.ensures.settles.0 in
    let held = c.as_slice-4.ensures ∙ c.let_go.ensures.drains in
    let outputs = c.as_slice-5.ensures ∙ (c.let_go.ensures.grids ∙ c.requires.work.grids) in
    let Q : Frame → List DrainMap → List StepMap → List OutputUse → Type 0 = λ frame drains maps outputs. All (λ (o : OutputUse). length (kept_of maps drains o.value) ≡ frame.rows * frame.cols) outputs in
    let all = maps_count program c.requires.work.formed inputs c.requires.work.inputs step (step - 1) e c.requires.some c.requires.there c.requires.standing.0 c.args.left.now c.args.last c.args.samples.now c.requires.standing.1 c.in_ok-grids.grids grids
    _ _ (subst P same c.in_ok-grids.ensures.meets) c.in_ok-maps.maps value in
    subst (λ f. Q f c.as_slice-4.result.now c.as_slice-3.result.now c.as_slice-5.result.now) (sym c.let_go.ensures.frame)
    (subst (λ ds. Q inputs.frame ds c.as_slice-3.result.now c.as_slice-5.result.now) (sym held)
    (subst (λ maps. Q inputs.frame c.args.left.now.drains maps c.as_slice-5.result.now) (sym c.as_slice-3.ensures)
    (subst (Q inputs.frame c.args.left.now.drains c.in_ok-maps.maps) (sym outputs) all)))

pub returns-in_err-put_reports-clause-meets : goal.returns-in_err-put_reports-clause-meets
returns-in_err-put_reports-clause-meets g c s is =
    let program = c.args.work.now.program.value in
    let inputs = c.args.work.now.inputs in
    let step = c.args.step in
    let plan = program_plan program inputs in
    let state = g.F.Folder.state in
    let e : step ≡ suc (step - 1) = omega (arith, c.requires.some) in
    let places = inputs.frame.rows * inputs.frame.cols in
    let same : c.as_slice.result.now ≡ stacks_among 0 program.inputs = c.as_slice.ensures ∙ c.requires.work.stacks in
    let grids = subst (λ (list : List StackUse). AreGridsOf places step list c.in_ok-grids.grids) same c.in_ok-grids.ensures.grids in
    let P : List StackUse → Type 0 = λ list. Meets (why_by why) (in_turn (one_more_grid inputs.frame step) [] list) (state c.args.folder.now) (state c.read_grids.new.folder) (CameTo (Ok c.in_ok-grids.grids)) in
    let value = ap (λ known. stage_result (stage_of program (step_span step) known)) (sym c.in_ok-known.ensures) ∙ c.in_ok-maps.ensures.settles.0 in
    let held = c.as_slice-4.ensures ∙ c.let_go.ensures.drains in
    let outputs = c.as_slice-5.ensures ∙ (c.let_go.ensures.grids ∙ c.requires.work.grids) in
    let Q : Frame → List DrainMap → List StepMap → List OutputUse → Type 0 = λ frame drains maps outputs.
    Meets (why_by why) (in_turn (report_run frame step) tt (map (kept_report maps drains) outputs)) (state c.read_grids.new.folder) (state c.put_reports.new.folder) (stopped_by (stop_outcome c.in_err-put_reports.field-0.0)) in
    let puts = subst (Q inputs.frame c.args.left.now.drains c.in_ok-maps.maps) outputs
    (subst (λ maps. Q inputs.frame c.args.left.now.drains maps c.as_slice-5.result.now) c.as_slice-3.ensures
    (subst (λ ds. Q inputs.frame ds c.as_slice-3.result.now c.as_slice-5.result.now) held
    (subst (λ f. Q f c.as_slice-4.result.now c.as_slice-3.result.now c.as_slice-5.result.now) c.let_go.ensures.frame c.in_err-put_reports.ensures.meets))) in
    makes_out _ (step_run plan s step) _ _ c.from_residual-in_err-put_reports.result _ c.from_residual-in_err-put_reports.ensures.1
    (put_stops program c.requires.work.formed inputs c.requires.work.inputs step (step - 1) e c.requires.some c.requires.there s c.args.left.now c.args.last c.args.samples.now is c.in_ok-grids.grids grids
    _ _ (subst P same c.in_ok-grids.ensures.meets) c.in_ok-maps.maps value _ (stop_outcome _) puts)

pub returns-clause-meets : goal.returns-clause-meets
returns-clause-meets g c s is =
    let program = c.args.work.now.program.value in
    let inputs = c.args.work.now.inputs in
    let step = c.args.step in
    let n = step - 1 in
    let state = g.F.Folder.state in
    let e : step ≡ suc n = omega (arith, c.requires.some) in
    let places = inputs.frame.rows * inputs.frame.cols in
    let stacks = c.in_ok-grids.grids in
    let maps = c.in_ok-maps.maps in
    let same : c.as_slice.result.now ≡ stacks_among 0 program.inputs = c.as_slice.ensures ∙ c.requires.work.stacks in
    let grids = subst (λ (list : List StackUse). AreGridsOf places step list stacks) same c.in_ok-grids.ensures.grids in
    let P : List StackUse → Type 0 = λ list. Meets (why_by why) (in_turn (one_more_grid inputs.frame step) [] list) (state c.args.folder.now) (state c.read_grids.new.folder) (CameTo (Ok stacks)) in
    let read = subst P same c.in_ok-grids.ensures.meets in
    let value = ap (λ known. stage_result (stage_of program (step_span step) known)) (sym c.in_ok-known.ensures) ∙ c.in_ok-maps.ensures.settles.0 in
    let held = c.as_slice-4.ensures ∙ c.let_go.ensures.drains in
    let outputs = c.as_slice-5.ensures ∙ (c.let_go.ensures.grids ∙ c.requires.work.grids) in
    let Q : Frame → List DrainMap → List StepMap → List OutputUse → Type 0 = λ frame drains maps outputs.
    Meets (why_by why) (in_turn (report_run frame step) tt (map (kept_report maps drains) outputs)) (state c.read_grids.new.folder) (state c.put_reports.new.folder) (CameTo (Ok tt)) in
    let puts = subst (Q inputs.frame c.args.left.now.drains c.in_ok-maps.maps) outputs
    (subst (λ maps. Q inputs.frame c.args.left.now.drains maps c.as_slice-5.result.now) c.as_slice-3.ensures
    (subst (λ ds. Q inputs.frame ds c.as_slice-3.result.now c.as_slice-5.result.now) held
    (subst (λ f. Q f c.as_slice-4.result.now c.as_slice-3.result.now c.as_slice-5.result.now) c.let_go.ensures.frame c.in_ok-put_reports.ensures.meets))) in
    let known = known_at inputs c.args.left.now stacks c.args.last in
    let t = standing_here program c.requires.work.formed inputs c.requires.work.inputs step n e c.requires.some c.requires.there s c.args.left.now c.args.last c.args.samples.now is stacks grids _ _ read maps value in
    let stands = stands_here program c.requires.work.formed inputs c.requires.work.inputs step n e c.requires.some c.requires.there s c.args.left.now c.args.last c.args.samples.now is stacks grids _ _ read maps value in
    let rows = ap (λ (k : Known). map (with_held_row k c.as_slice-2.result.now step) c.args.samples.now) c.in_ok-known.ensures ∙ ap (λ maps. map (with_held_row known maps step) c.args.samples.now) c.as_slice-2.ensures in
    let asked = step_asked program c.requires.work.formed inputs c.requires.work.inputs step n e c.requires.some c.requires.there s c.args.left.now c.args.last c.args.samples.now is stacks grids in
    let A : Known → Type 0 = λ k. IsRunOf program inputs t.grids (step_span step) (record { program = program; span = step_span step; known = k }) in (
      t,
      record {
        grids = stacks;
        more = refl;
        stands = subst (λ samples. IsStanding program inputs step t c.args.left.now maps samples) (sym (c.in_ok-note_rows.ensures ∙ rows)) stands;
        asks = λ runs was. (record { program = program; span = step_span step; known = c.in_ok-known.known.value }, subst A (sym c.in_ok-known.ensures) asked, c.in_ok-maps.ensures.asked runs was);
      },
      put_all program c.requires.work.formed inputs c.requires.work.inputs step n e c.requires.some c.requires.there s c.args.left.now c.args.last c.args.samples.now is stacks grids _ _ read maps value _ puts,
    )
