-- The loop over time series, by the lemmas for a part for each item.
use Rattle.std.proofs.Common.{◌+◌, drop, map, ap}
use Rattle.std.proofs.lemmas.List.{drop_all}
use Rattle.outside_io.specs.Runs.{in_turn}
use Rattle.outside_io.proofs.Callers.{meets_out, turn_on, turn_stop, turn_done}
use Rattle.run_session.specs.Steps.{series_run}
use Rattle.run_session.specs.Ends.{why}
use Rattle.run_session.specs.inside.Parts.{stop_outcome}
use Rattle.run_session.specs.inside.Standings.{sampled_of}
use Rattle.run_session.proofs.Lists.{item_here}
use Rattle.run_session.proofs.samples.put_samples.Goals as goal

pub returns-in_err-put_sample-clause-meets : goal.returns-in_err-put_sample-clause-meets
returns-in_err-put_sample-clause-meets g c =
    let samples = c.args.samples.now in
    let whole = in_turn series_run tt (map sampled_of samples) in
    let i = c.loop-sample.sample-index in
    let s = c.sample-item.result in
    meets_out why whole _ stop_outcome _ c.from_residual.result _ c.from_residual.ensures.1
    (turn_stop why series_run whole _ (map sampled_of (drop i samples)) tt _ _ (sampled_of s) (map sampled_of (drop (i + 1) samples)) (stop_outcome _)
    (ap (map sampled_of) (item_here samples i s c.loop-sample-test.true c.sample-item.is)) c.loop-sample.invariant c.in_err-put_sample.ensures.meets)

pub loop-sample-preserved : goal.loop-sample-preserved
loop-sample-preserved g c =
    let samples = c.args.samples.now in
    let whole = in_turn series_run tt (map sampled_of samples) in
    let i = c.loop-sample.sample-index in
    let s = c.sample-item.result in
    turn_on why series_run whole _ (map sampled_of (drop i samples)) tt _ _ (sampled_of s) (map sampled_of (drop (i + 1) samples)) tt
    (ap (map sampled_of) (item_here samples i s c.loop-sample-test.true c.sample-item.is)) c.loop-sample.invariant c.in_ok-put_sample.ensures.meets

pub returns-clause-meets : goal.returns-clause-meets
returns-clause-meets g c =
    let samples = c.args.samples.now in
    let whole = in_turn series_run tt (map sampled_of samples) in
    turn_done why series_run whole _ (map sampled_of (drop c.loop-sample.sample-index samples)) tt _
    (ap (map sampled_of) (drop_all c.loop-sample.sample-index samples c.loop-sample-test.false)) c.loop-sample.invariant
