-- The count is small, and in the end no input is left.
use Rattle.std.proofs.Common.{◌≡◌, ◌-◌, ap, arith, drop, ◌∙◌}
use Rattle.run_session.specs.inside.Outputs.{grids_before}
use Rattle.run_session.proofs.InputPlaces.{none_before}
use Rattle.run_session.proofs.outputs.grids_before.Goals as goal

pub counted-count-requires : goal.counted-count-requires
counted-count-requires c = omega (arith, c.loop-k.invariant.few, c.loop-k-test.true, c.requires.within, c.requires.few)

pub returns : goal.returns
returns c =
    let rest = drop c.loop-k.k c.args.uses.now in
    let none : c.args.n - c.loop-k.k ≡ 0 = omega (arith, c.loop-k-test.false) in
    let left : grids_before rest (c.args.n - c.loop-k.k) ≡ 0 = ap (grids_before rest) none ∙ none_before rest in
    let total = c.loop-k.invariant.count in
    omega (arith, left) ∙ total
