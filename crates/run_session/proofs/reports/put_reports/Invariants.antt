use Rattle.std.proofs.Common.{drop, map}
use Rattle.outside_io.specs.Runs.{in_turn}
use Rattle.outside_io.specs.Causes.{why_by}
use Rattle.outside_io.specs.inside.Parts.{Leads}
use Rattle.run_session.specs.Steps.{report_run}
use Rattle.run_session.specs.Ends.{why}
use Rattle.run_session.specs.inside.Standings.{kept_report}
use Rattle.run_session.proofs.reports.put_reports.Given as goal

-- the outputs that are left are what is left of the run
abbrev pub invariant-loop-output : goal.invariant-loop-output
invariant-loop-output g l =
    let state = g.F.Folder.state in
    let put = report_run l.frame l.step in
    let written = map (kept_report l.maps l.drains) in
    Leads (why_by why) (in_turn put tt (written l.outputs)) (state l.fn.folder) (in_turn put tt (written (drop l.output-index l.outputs))) (state l.folder)
