-- The loop over outputs, by the lemmas for a part for each item.
use Rattle.std.proofs.Common.{◌+◌, drop, map, ap}
use Rattle.std.proofs.lemmas.List.{drop_all}
use Rattle.outside_io.specs.Runs.{in_turn}
use Rattle.outside_io.proofs.Callers.{meets_out, turn_on, turn_stop, turn_done}
use Rattle.run_session.specs.Steps.{report_run}
use Rattle.run_session.specs.Ends.{why}
use Rattle.run_session.specs.inside.Parts.{stop_outcome}
use Rattle.run_session.specs.inside.Standings.{kept_report}
use Rattle.run_session.proofs.Lists.{item_here}
use Rattle.run_session.proofs.reports.put_reports.Goals as goal

pub returns-in_err-put_report-clause-meets : goal.returns-in_err-put_report-clause-meets
returns-in_err-put_report-clause-meets g c =
    let put = report_run c.args.frame.now c.args.step in
    let written = kept_report c.args.maps.now c.args.drains.now in
    let outputs = c.args.outputs.now in
    let whole = in_turn put tt (map written outputs) in
    let i = c.loop-output.output-index in
    let o = c.output-item.result in
    meets_out why whole _ stop_outcome _ c.from_residual.result _ c.from_residual.ensures.1
    (turn_stop why put whole _ (map written (drop i outputs)) tt _ _ (written o) (map written (drop (i + 1) outputs)) (stop_outcome _)
    (ap (map written) (item_here outputs i o c.loop-output-test.true c.output-item.is)) c.loop-output.invariant c.in_err-put_report.ensures.meets)

pub loop-output-preserved : goal.loop-output-preserved
loop-output-preserved g c =
    let put = report_run c.args.frame.now c.args.step in
    let written = kept_report c.args.maps.now c.args.drains.now in
    let outputs = c.args.outputs.now in
    let whole = in_turn put tt (map written outputs) in
    let i = c.loop-output.output-index in
    let o = c.output-item.result in
    turn_on why put whole _ (map written (drop i outputs)) tt _ _ (written o) (map written (drop (i + 1) outputs)) tt
    (ap (map written) (item_here outputs i o c.loop-output-test.true c.output-item.is)) c.loop-output.invariant c.in_ok-put_report.ensures.meets

pub returns-clause-meets : goal.returns-clause-meets
returns-clause-meets g c =
    let put = report_run c.args.frame.now c.args.step in
    let written = kept_report c.args.maps.now c.args.drains.now in
    let outputs = c.args.outputs.now in
    let whole = in_turn put tt (map written outputs) in
    turn_done why put whole _ (map written (drop c.loop-output.output-index outputs)) tt _
    (ap (map written) (drop_all c.loop-output.output-index outputs c.loop-output-test.false)) c.loop-output.invariant
