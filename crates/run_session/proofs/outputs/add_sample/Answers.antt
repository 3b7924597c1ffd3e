-- One more output, which may be a time series.
use Rattle.std.proofs.Common.{[], ◌∷◌, ◌++◌, sym, subst}
use Rattle.run_session.specs.inside.Outputs.{AreBegun}
use Rattle.run_session.specs.inside.Standings.{IsSample}
use Rattle.run_session.proofs.BegunSamples.{not_sample, other_more, sample_more}
use Rattle.run_session.proofs.outputs.add_sample.Goals as goal

pub returns-in_default : goal.returns-in_default
returns-in_default c before are = other_more c.args._places c.args.uses.now c.args.maps.now before c.args.all.now.items c.args.output.now are (not_sample c.args.output.now.kind c.in_default.not-Sample)

pub begun-requires-clause-within : goal.begun-requires-clause-within
begun-requires-clause-within c = (c.requires.fits c.in-Sample.ids c.in-Sample.is).within

pub returns : goal.returns
returns c before are =
    let places = c.args._places in
    let fits = c.requires.fits c.in-Sample.ids c.in-Sample.is in
    let s = c.in_ok-begun.field-0 in
    let sample = subst (λ n. IsSample n s) fits.count c.in_ok-begun.ensures.sample in
    subst (AreBegun places c.args.uses.now c.args.maps.now (before ++ c.args.output.now ∷ [])) (sym c.in_ok-push.ensures.items)
    (sample_more places c.args.uses.now c.args.maps.now before c.args.all.now.items c.args.output.now are c.in-Sample.ids s c.in-Sample.is c.in_ok-begun.ensures.seen c.in_ok-begun.ensures.kept sample)
