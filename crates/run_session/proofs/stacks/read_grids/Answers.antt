-- The loop over stacks, by the lemmas for a part for each item.
use Rattle.std.proofs.Common.{[], ◌*◌, ◌∷◌, ◌++◌, List, take, subst, sym}
use Rattle.outside_io.specs.Runs.{in_turn}
use Rattle.outside_io.proofs.Callers.{meets_out, item_on, item_stop, item_done}
use Rattle.map_meaning.specs.declared.known.StepMap.{StepMap}
use Rattle.run_session.specs.declared.stacks.StackUse.{StackUse}
use Rattle.run_session.specs.Steps.{one_more_grid}
use Rattle.run_session.specs.Ends.{why}
use Rattle.run_session.specs.inside.Parts.{stop_outcome}
use Rattle.run_session.specs.inside.Standings.{AreGridsOf, IsGridOf}
use Rattle.run_session.proofs.Lists.{taken_here, zip_push}
use Rattle.run_session.proofs.stacks.read_grids.Goals as goal

pub returns-in_err-read_grid-clause-meets : goal.returns-in_err-read_grid-clause-meets
returns-in_err-read_grid-clause-meets g c =
    let part = one_more_grid c.args.frame.now c.args.step in
    let whole = in_turn part [] c.args.stacks.now in
    meets_out why whole _ stop_outcome _ c.from_residual.result _ c.from_residual.ensures.1
    (item_stop why part whole _ c.args.stacks.now c.loop-stack.stack-index c.loop-stack.grids _ _ c.stack-item.result (stop_outcome _) c.loop-stack-test.true c.stack-item.is c.loop-stack.invariant.leads c.in_err-read_grid.ensures.meets)

pub loop-stack-preserved : goal.loop-stack-preserved
loop-stack-preserved g c =
    let part = one_more_grid c.args.frame.now c.args.step in
    let stacks = c.args.stacks.now in
    let whole = in_turn part [] stacks in
    let places = c.args.frame.now.rows * c.args.frame.now.cols in
    let i = c.loop-stack.stack-index in
    let adds = c.in_ok-read_grid.ensures.grids in
    let P : List StackUse → Type 0 = λ list. AreGridsOf places c.args.step list c.read_grid.new.grids in
    let Q : List StepMap → Type 0 = λ grids. AreGridsOf places c.args.step (take i stacks ++ c.stack-item.result ∷ []) grids in
    record {
      leads = item_on why part whole _ stacks i c.loop-stack.grids _ _ c.stack-item.result c.read_grid.new.grids c.loop-stack-test.true c.stack-item.is c.loop-stack.invariant.leads c.in_ok-read_grid.ensures.meets;
      grids = subst P (sym (taken_here stacks i c.stack-item.result c.loop-stack-test.true c.stack-item.is)) (subst Q (sym adds.1) (zip_push (IsGridOf places c.args.step) (take i stacks) c.loop-stack.grids c.stack-item.result adds.0 c.loop-stack.invariant.grids adds.2));
    }

pub returns-clause-meets : goal.returns-clause-meets
returns-clause-meets g c =
    let part = one_more_grid c.args.frame.now c.args.step in
    let whole = in_turn part [] c.args.stacks.now in
    item_done why part whole _ c.args.stacks.now c.loop-stack.stack-index c.loop-stack.grids _ c.loop-stack-test.false c.loop-stack.invariant.leads
