use Rattle.std.proofs.Common.{◌∙◌, ◌≢◌, ◌<◌, ◌-◌, arith, refl, sym, length, get_or}
use Rattle.std.proofs.Math.ListN.{set, length-set}
use Rattle.drain_meaning.proofs.Callers.{next_inside}
use Rattle.drain_ops.proofs.Chains.{descended_all, descended_on, descended_rest, fewer_on, fewer_rest, past_on, past_rest, some_left, turn}
use Rattle.drain_ops.proofs.down.pass_down.Goals as goal

pub end_at-end-requires-clause-fits : goal.end_at-end-requires-clause-fits
end_at-end-requires-clause-fits g c =
    let now = turn (g.R.FlowRule.transport c.args.rule.now) (g.R.FlowRule.rule c.args.rule.now) (g.R.FlowRule.laws c.args.rule.now) _ _ _ _ _ _ _ _ c.loop-waits.at c.requires.down c.cell_number-place-end.ensures.sound c.requires.a_range c.requires.b_range c.loop-waits.invariant.descended c.loop-waits.invariant.within c.loop-waits-test.true in
    (_, now.few, now.fits)

pub receive-requires : goal.receive-requires
receive-requires g c =
    let drain = c.cell_number-place-end.ensures.sound in
    let now = turn (g.R.FlowRule.transport c.args.rule.now) (g.R.FlowRule.rule c.args.rule.now) (g.R.FlowRule.laws c.args.rule.now) _ _ _ _ _ _ _ _ c.loop-waits.at c.requires.down drain c.requires.a_range c.requires.b_range c.loop-waits.invariant.descended c.loop-waits.invariant.within c.loop-waits-test.true in
    let low = next_inside c.args.drain.now drain.map _ _ (sym c.in-Cell.ensures) in
    let end = c.end_at-end.ensures ∙ now.end in
    record {
      within = omega (arith, low, c.loop-waits.invariant.descended.passing.inflows_many);
      fit = (_, _, now.room _ (sym c.in-Cell.ensures), c.loop-waits.invariant.descended.passing.fitting _ low, rw end ((g.R.FlowRule.laws c.args.rule.now).lifted_fits _ _ now.out_fits));
    }

pub one_less-requires : goal.one_less-requires
one_less-requires g c =
    let drain = c.cell_number-place-end.ensures.sound in
    let now = turn (g.R.FlowRule.transport c.args.rule.now) (g.R.FlowRule.rule c.args.rule.now) (g.R.FlowRule.laws c.args.rule.now) _ _ _ _ _ _ _ _ c.loop-waits.at c.requires.down drain c.requires.a_range c.requires.b_range c.loop-waits.invariant.descended c.loop-waits.invariant.within c.loop-waits-test.true in
    let low = next_inside c.args.drain.now drain.map _ _ (sym c.in-Cell.ensures) in
    record {
      within = omega (arith, low, c.loop-waits.invariant.descended.waiting.many, length-set c.loop-waits.waits c.loop-waits.at 4294967295);
      some = some_left _ _ _ _ _ _ _ _ _ _ c.loop-waits.at _ 4294967295 drain c.loop-waits.invariant.descended now (sym c.in-Cell.ensures);
    }

pub loop-waits-smaller-in-Cell : goal.loop-waits-smaller-in-Cell
loop-waits-smaller-in-Cell g c =
    let drain = c.cell_number-place-end.ensures.sound in
    let now = turn (g.R.FlowRule.transport c.args.rule.now) (g.R.FlowRule.rule c.args.rule.now) (g.R.FlowRule.laws c.args.rule.now) _ _ _ _ _ _ _ _ c.loop-waits.at c.requires.down drain c.requires.a_range c.requires.b_range c.loop-waits.invariant.descended c.loop-waits.invariant.within c.loop-waits-test.true in
    fewer_on c.args.drain.now c.loop-waits.waits c.one_less.new.waits c.loop-waits.at c.in-Cell.down drain.sound now.directed (sym c.in-Cell.ensures) c.loop-waits-test.true

pub loop-waits-preserved-in-Cell : goal.loop-waits-preserved-in-Cell
loop-waits-preserved-in-Cell g c =
    let drain = c.cell_number-place-end.ensures.sound in
    let now = turn (g.R.FlowRule.transport c.args.rule.now) (g.R.FlowRule.rule c.args.rule.now) (g.R.FlowRule.laws c.args.rule.now) _ _ _ _ _ _ _ _ c.loop-waits.at c.requires.down drain c.requires.a_range c.requires.b_range c.loop-waits.invariant.descended c.loop-waits.invariant.within c.loop-waits-test.true in
    let low = next_inside c.args.drain.now drain.map _ _ (sym c.in-Cell.ensures) in
    let some : 4294967295 ≢ 0 = λ k. omega (arith, k) in
    let here : c.loop-waits.at < length c.loop-waits.waits = omega (arith, now.within, c.loop-waits.invariant.descended.waiting.many) in
    record {
      descended = rw (c.receive.ensures, c.one_less.ensures) (descended_on (g.R.FlowRule.transport c.args.rule.now) (g.R.FlowRule.rule c.args.rule.now) (g.R.FlowRule.laws c.args.rule.now) _ _ _ _ _ _ _ _ c.loop-waits.at c.in-Cell.down 4294967295 _ _ _ _ drain some c.loop-waits.invariant.descended now low (sym c.in-Cell.ensures) (c.end_at-end.ensures ∙ now.end) refl c.judged-cell.ensures.cell c.judged-cell.ensures.over);
      within = low;
      past = rw c.one_less.ensures (past_on c.loop-waits.waits c.loop-place.place c.loop-waits.at c.in-Cell.down 4294967295 (get_or (set c.loop-waits.waits c.loop-waits.at 4294967295) c.in-Cell.down 0 - 1) some here c.loop-waits.invariant.past);
    }

pub loop-waits-smaller : goal.loop-waits-smaller
loop-waits-smaller g c =
    let drain = c.cell_number-place-end.ensures.sound in
    let now = turn (g.R.FlowRule.transport c.args.rule.now) (g.R.FlowRule.rule c.args.rule.now) (g.R.FlowRule.laws c.args.rule.now) _ _ _ _ _ _ _ _ c.loop-waits.at c.requires.down drain c.requires.a_range c.requires.b_range c.loop-waits.invariant.descended c.loop-waits.invariant.within c.loop-waits-test.true in
    fewer_rest c.args.drain.now c.loop-waits.waits c.loop-waits.at 4294967295 drain.sound now.directed c.loop-waits-test.true (omega (arith, now.within, c.loop-waits.invariant.descended.waiting.many)) (λ k. omega (arith, k))

pub loop-waits-preserved : goal.loop-waits-preserved
loop-waits-preserved g c =
    let drain = c.cell_number-place-end.ensures.sound in
    let now = turn (g.R.FlowRule.transport c.args.rule.now) (g.R.FlowRule.rule c.args.rule.now) (g.R.FlowRule.laws c.args.rule.now) _ _ _ _ _ _ _ _ c.loop-waits.at c.requires.down drain c.requires.a_range c.requires.b_range c.loop-waits.invariant.descended c.loop-waits.invariant.within c.loop-waits-test.true in
    let some : 4294967295 ≢ 0 = λ k. omega (arith, k) in
    record {
      descended = descended_rest (g.R.FlowRule.transport c.args.rule.now) (g.R.FlowRule.rule c.args.rule.now) (g.R.FlowRule.laws c.args.rule.now) _ _ _ _ _ _ _ _ c.loop-waits.at 4294967295 _ _ _ some c.loop-waits.invariant.descended now (λ d e. c.in_default.not-Cell d (c.next.ensures ∙ e)) (c.end_at-end.ensures ∙ now.end) c.judged-cell.ensures.cell c.judged-cell.ensures.over;
      within = c.loop-waits.invariant.within;
      past = past_rest c.loop-waits.waits c.loop-place.place c.loop-waits.at 4294967295 c.loop-waits.invariant.past;
    }

pub returns : goal.returns
returns g c = descended_all (g.R.FlowRule.transport c.args.rule.now) (g.R.FlowRule.rule c.args.rule.now) _ _ _ _ _ _ _ _ c.cell_number-place-end.ensures.sound c.loop-place.invariant.descended (λ u h. c.loop-place.invariant.past u (omega (arith, h, c.cell_number-place-end.ensures.value)))
