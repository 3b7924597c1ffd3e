-- The loop over outputs.
use Rattle.std.proofs.Common.{◌≡◌, ◌*◌, subst, sym, List}
use Rattle.std.specs.Prelude.{Some, slice_get}
use Rattle.map_meaning.specs.declared.program.InputUse.{InputUse}
use Rattle.map_meaning.specs.declared.program.OutputUse.{OutputUse}
use Rattle.map_meaning.specs.Maps.{WholeMap}
use Rattle.run_session.specs.inside.Outputs.{SampleFits}
use Rattle.run_session.proofs.BegunSamples.{sample_fits}
use Rattle.run_session.proofs.Lists.{got}
use Rattle.run_session.proofs.outputs.begin_samples.Goals as goal

pub add_sample-requires-clause-fits : goal.add_sample-requires-clause-fits
add_sample-requires-clause-fits c ids is =
    let program = c.args.program.now in
    let inputs = c.args.inputs.now in
    let places = inputs.frame.rows * inputs.frame.cols in
    let o = c.index-outputs-i.result in
    let at = subst (λ (outputs : List OutputUse). slice_get outputs c.loop-i.i ≡ Some o) c.as_slice-outputs.ensures (got c.as_slice-outputs.result.now c.loop-i.i o c.loop-i-test.true c.index-outputs-i.is) in
    let P : List InputUse → List WholeMap → Type 0 = λ uses maps. SampleFits places uses maps o ids in
    subst (λ uses. P uses c.as_slice.result.now) (sym c.as_slice-uses.ensures) (subst (P program.inputs) (sym c.as_slice.ensures)
    (sample_fits program inputs c.requires.program c.requires.inputs c.loop-i.i ids o at is))
