-- The loop over inputs, by the lemmas for a part for each item.
use Rattle.std.proofs.Common.{◌≡◌, ◌+◌, ℕ, List, length, take, subst, sym, ◌∙◌, arith}
use Rattle.std.specs.Prelude.{Ok}
use Rattle.outside_io.specs.Runs.{in_turn}
use Rattle.outside_io.specs.Causes.{CameTo, stopped_by, why_by}
use Rattle.outside_io.specs.Met.{Meets}
use Rattle.outside_io.proofs.Callers.{item_on, item_stop, item_done}
use Rattle.map_meaning.specs.declared.program.InputUse.{InputUse}
use Rattle.run_session.specs.declared.frame.Frame.{Frame}
use Rattle.run_session.specs.declared.inputs.Sources.{Sources}
use Rattle.run_session.specs.Course.{Given, nothing_given, one_more_input}
use Rattle.run_session.specs.Ends.{why}
use Rattle.run_session.specs.inside.Parts.{AreSourcesOf, area_grid, given_of, stop_outcome}
use Rattle.run_session.proofs.Lists.{taken_here}
use Rattle.run_session.proofs.Rest.{seen_out}
use Rattle.run_session.proofs.inputs.read_all.Goals as goal

pub returns-in_err-read_input-clause-meets : goal.returns-in_err-read_input-clause-meets
returns-in_err-read_input-clause-meets g c =
    let state = g.F.Folder.state in
    let area = c.args.area.now.cells in
    let uses = c.args.uses.now in
    let n = c.loop-n.n in
    let part = one_more_input c.args.number (area_grid c.args.frame area) in
    let whole = in_turn part nothing_given uses in
    let P : Frame → Type 0 = λ f. Meets (why_by why) (one_more_input c.args.number (area_grid f area) (given_of n c.loop-n.sources.inputs) c.index-uses-n.result) (state c.loop-n.folder) (state c.read_input.new.folder) (stopped_by {X = Given} (stop_outcome c.in_err-read_input.field-0.0)) in
    seen_out (λ (sources : Sources). given_of (length uses) sources.inputs) whole _ _ c.from_residual.result _ c.from_residual.ensures.1
    (item_stop why part whole _ uses n (given_of n c.loop-n.sources.inputs) _ _ c.index-uses-n.result (stop_outcome _) c.loop-n-test.true c.index-uses-n.is c.loop-n.invariant.leads (subst P c.loop-n.invariant.frame c.in_err-read_input.ensures.meets))

pub loop-n-preserved : goal.loop-n-preserved
loop-n-preserved g c =
    let state = g.F.Folder.state in
    let area = c.args.area.now.cells in
    let uses = c.args.uses.now in
    let n = c.loop-n.n in
    let input = c.index-uses-n.result in
    let new = c.read_input.new.sources in
    let part = one_more_input c.args.number (area_grid c.args.frame area) in
    let whole = in_turn part nothing_given uses in
    let P : Frame → Type 0 = λ f. Meets (why_by why) (one_more_input c.args.number (area_grid f area) (given_of n c.loop-n.sources.inputs) input) (state c.loop-n.folder) (state c.read_input.new.folder) (CameTo (Ok (given_of (n + 1) new.inputs))) in
    record {
      leads = item_on why part whole _ uses n (given_of n c.loop-n.sources.inputs) _ _ input (given_of (n + 1) new.inputs) c.loop-n-test.true c.index-uses-n.is c.loop-n.invariant.leads (subst P c.loop-n.invariant.frame c.in_ok-read_input.ensures.meets);
      frame = c.in_ok-read_input.ensures.frame ∙ c.loop-n.invariant.frame;
      below = omega (arith, c.loop-n-test.true);
      sources = subst (λ (list : List InputUse). AreSourcesOf list new) (sym (taken_here uses n input c.loop-n-test.true c.index-uses-n.is)) (c.in_ok-read_input.ensures.more (take n uses) c.loop-n.invariant.sources);
    }

pub returns-clause-meets : goal.returns-clause-meets
returns-clause-meets g c =
    let state = g.F.Folder.state in
    let uses = c.args.uses.now in
    let n = c.loop-n.n in
    let inputs = c.loop-n.sources.inputs in
    let part = one_more_input c.args.number (area_grid c.args.frame c.args.area.now.cells) in
    let whole = in_turn part nothing_given uses in
    let all : n ≡ length uses = omega (arith, c.loop-n-test.false, c.loop-n.invariant.below) in
    let P : ℕ → Type 0 = λ k. Meets (why_by why) whole (state c.args.folder.now) (state c.loop-n.folder) (CameTo (Ok (given_of k inputs))) in
    subst P all (item_done why part whole _ uses n (given_of n inputs) _ c.loop-n-test.false c.loop-n.invariant.leads)
