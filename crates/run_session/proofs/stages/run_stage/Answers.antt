-- One stage, over what the stages before it left.
use Rattle.std.proofs.Common.{List, [], ◌++◌, sym, ap, subst, ◌∙◌}
use Rattle.outside_io.specs.Causes.{stopped_by, why_by}
use Rattle.outside_io.specs.inside.Parts.{Settles}
use Rattle.map_meaning.specs.declared.known.Known.{Known}
use Rattle.map_meaning.specs.declared.known.Span.TheVariants as span
use Rattle.map_meaning.specs.declared.known.StepMap.{StepMap}
use Rattle.map_meaning.specs.Spans.{Knows, stage_of}
use Rattle.run_session.specs.Asked.{IsRunOf}
use Rattle.run_session.specs.Ends.{why}
use Rattle.run_session.specs.inside.Parts.{stop_outcome}
use Rattle.run_session.specs.inside.Stages.{IsLeft, initial_or_end}
use Rattle.run_session.specs.inside.Standings.{known_at, stage_result}
use Rattle.run_session.proofs.Rest.{stops_out}
use Rattle.run_session.proofs.StageRuns.{stage_asked, stage_done, stage_ends, stage_knows, stage_left}
use Rattle.run_session.proofs.stages.run_stage.Goals as goal

pub evaluate-requires-clause-known : goal.evaluate-requires-clause-known
evaluate-requires-clause-known g c =
    let work = c.args.work.now in
    let left = c.add_due.new.left in
    let L = c.in_ok-add_due.ensures.left in
    let known = c.in_ok-known.ensures ∙ (ap (λ g. known_at work.inputs left g c.new-2.result) c.new.ensures ∙ ap (known_at work.inputs left []) c.new-2.ensures) in
    subst (Knows work.program.value (span.Initial c.args.first c.args.end)) (sym known) (stage_knows work c.requires.work c.args.first L.0 left L.1 c.args.end c.requires.stage c.in_ok-add_due.ensures.due)

pub returns-in_err-maps-clause-stops : goal.returns-in_err-maps-clause-stops
returns-in_err-maps-clause-stops g c =
    let work = c.args.work.now in
    let left = c.add_due.new.left in
    let L = c.in_ok-add_due.ensures.left in
    let known = c.in_ok-known.ensures ∙ (ap (λ g. known_at work.inputs left g c.new-2.result) c.new.ensures ∙ ap (known_at work.inputs left []) c.new-2.ensures) in
    let at = c.in_err-maps.field-0.0 in
    let P : Known → Type 0 = λ k. Settles (why_by why) (stage_result (stage_of work.program.value (span.Initial c.args.first c.args.end) k)) (stopped_by (stop_outcome at)) in
    stops_out (initial_or_end work.program.value work.inputs) c.from_residual-in_err-maps.result at c.from_residual-in_err-maps.ensures.1
    (stage_ends work c.requires.work c.args.first L.0 left L.1 c.args.end c.requires.stage c.in_ok-add_due.ensures.due (stop_outcome at) (subst P known c.in_err-maps.ensures.settles))

pub returns-clause-left : goal.returns-clause-left
returns-clause-left g c =
    let work = c.args.work.now in
    let left = c.add_due.new.left in
    let L = c.in_ok-add_due.ensures.left in
    let known = c.in_ok-known.ensures ∙ (ap (λ g. known_at work.inputs left g c.new-2.result) c.new.ensures ∙ ap (known_at work.inputs left []) c.new-2.ensures) in
    let maps = c.in_ok-maps.maps in
    let value = ap (λ k. stage_result (stage_of work.program.value (span.Initial c.args.first c.args.end) k)) (sym known) ∙ c.in_ok-maps.ensures.settles.0 in
    let done = stage_done work c.requires.work c.args.first L.0 left L.1 c.args.end c.requires.stage c.in_ok-add_due.ensures.due maps value in
    let kept = c.in_ok-append.ensures ∙ ap (λ ms. left.kept ++ ms) done.2 in
    let P : List StepMap → Type 0 = λ kept. IsLeft work.program.value work.inputs c.args.end done.0 (record { kept = kept; drains = left.drains }) in
    (done.0, subst P (sym kept) (stage_left work c.requires.work c.args.first L.0 left L.1 c.args.end c.requires.stage c.in_ok-add_due.ensures.due done.0 done.1))

pub returns-clause-asks : goal.returns-clause-asks
returns-clause-asks g c runs was =
    let work = c.args.work.now in
    let left = c.add_due.new.left in
    let L = c.in_ok-add_due.ensures.left in
    let known = c.in_ok-known.ensures ∙ (ap (λ g. known_at work.inputs left g c.new-2.result) c.new.ensures ∙ ap (known_at work.inputs left []) c.new-2.ensures) in
    let A : Known → Type 0 = λ k. IsRunOf work.program.value work.inputs [] (span.Initial c.args.first c.args.end) (record { program = work.program.value; span = span.Initial c.args.first c.args.end; known = k }) in (
      record { program = work.program.value; span = span.Initial c.args.first c.args.end; known = c.in_ok-known.known.value },
      λ start all. subst A (sym known) (stage_asked work c.requires.work c.args.first L.0 left L.1 c.args.end c.requires.stage c.in_ok-add_due.ensures.due start all),
      c.in_ok-maps.ensures.asked runs was,
    )
