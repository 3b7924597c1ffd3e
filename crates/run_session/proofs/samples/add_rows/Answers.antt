-- One more time series has the row.
use Rattle.std.proofs.Common.{ap, get_or, ◌∙◌}
use Rattle.run_session.specs.declared.samples.Sample.{Sample}
use Rattle.std.specs.Prelude.{slice_set}
use Rattle.run_session.specs.inside.Standings.{with_held_row}
use Rattle.run_session.proofs.Lists.{mapped_set}
use Rattle.run_session.proofs.samples.add_rows.Goals as goal

pub loop-i-preserved : goal.loop-i-preserved
loop-i-preserved c =
    let f = with_held_row c.args.known.now c.args.now.now c.args.step in
    let x = c.index-samples-i.result in
    ap (λ (y : Sample). slice_set c.loop-i.samples c.loop-i.i y) c.in_ok-add_row.ensures ∙
    mapped_set f c.args.samples.now c.loop-i.samples c.loop-i.i (get_or c.loop-i.samples c.loop-i.i x) c.loop-i-test.true (ap (λ (y : Sample). get_or c.loop-i.samples c.loop-i.i y) c.index-samples-i.is) c.loop-i.invariant
