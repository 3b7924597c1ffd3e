use Rattle.std.proofs.Common.{drop, map}
use Rattle.outside_io.specs.Runs.{in_turn}
use Rattle.outside_io.specs.Causes.{why_by}
use Rattle.outside_io.specs.inside.Parts.{Leads}
use Rattle.run_session.specs.Steps.{series_run}
use Rattle.run_session.specs.Ends.{why}
use Rattle.run_session.specs.inside.Standings.{sampled_of}
use Rattle.run_session.proofs.samples.put_samples.Given as goal

-- the time series that are left are what is left of the run
abbrev pub invariant-loop-sample : goal.invariant-loop-sample
invariant-loop-sample g l =
    let state = g.F.Folder.state in
    let written = map sampled_of in
    Leads (why_by why) (in_turn series_run tt (written l.samples)) (state l.fn.folder) (in_turn series_run tt (written (drop l.sample-index l.samples))) (state l.folder)
