use Rattle.std.proofs.Common.{◌∙◌, ◌<◌, length, arith}
use Rattle.drain_meaning.proofs.Callers.{directed_within}
use Rattle.tile_map.proofs.Callers.{has_place}
use Rattle.drain_ops.proofs.Rising.{ascended_all, ascended_more, turn_up}
use Rattle.drain_ops.proofs.TrailLemmas.{ended_kept, found_back, last_of, leads_back}
use Rattle.drain_ops.proofs.up.pass_up.Goals as goal

pub end_above-end-requires : goal.end_above-end-requires
end_above-end-requires g c =
    let last = last_of c.args.drain.now c.loop-at.ended _ _ c.in-Some.at c.loop-at.invariant.leads c.in-Some.ensures.items in
    let now = turn_up (g.R.FlowRule.transport c.args.rule.now) (g.R.FlowRule.rule c.args.rule.now) (g.R.FlowRule.laws c.args.rule.now) _ _ _ _ _ _ _ _ c.in-Some.at c.requires.up c.cell_number-place-end.ensures.sound c.requires.a_range c.requires.b_range c.loop-at.invariant.ascended last in
    record {
      drain = c.cell_number-place-end.ensures.sound;
      within = now.within;
      many = c.loop-at.invariant.ascended.outs_many;
      a = has_place _ _ _ c.requires.a now.within;
      b = has_place _ _ _ c.requires.b now.within;
      fits = now.fits;
    }

pub bounds-ended-at : goal.bounds-ended-at
bounds-ended-at g c =
    let last = last_of c.args.drain.now c.loop-at.ended _ _ c.in-Some.at c.loop-at.invariant.leads c.in-Some.ensures.items in
    let low = directed_within c.args.drain.now c.in-Some.at last.directed in
    omega (arith, low, c.loop-at.invariant.ascended.ended_many)

pub bounds-outs-at : goal.bounds-outs-at
bounds-outs-at g c =
    let last = last_of c.args.drain.now c.loop-at.ended _ _ c.in-Some.at c.loop-at.invariant.leads c.in-Some.ensures.items in
    let low = directed_within c.args.drain.now c.in-Some.at last.directed in
    omega (arith, low, c.loop-at.invariant.ascended.outs_many)

pub bounds-results-at : goal.bounds-results-at
bounds-results-at g c =
    let last = last_of c.args.drain.now c.loop-at.ended _ _ c.in-Some.at c.loop-at.invariant.leads c.in-Some.ensures.items in
    let low = directed_within c.args.drain.now c.in-Some.at last.directed in
    omega (arith, low, c.loop-at.invariant.ascended.results_many)

pub loop-at-preserved : goal.loop-at-preserved
loop-at-preserved g c =
    let last = last_of c.args.drain.now c.loop-at.ended _ _ c.in-Some.at c.loop-at.invariant.leads c.in-Some.ensures.items in
    let now = turn_up (g.R.FlowRule.transport c.args.rule.now) (g.R.FlowRule.rule c.args.rule.now) (g.R.FlowRule.laws c.args.rule.now) _ _ _ _ _ _ _ _ c.in-Some.at c.requires.up c.cell_number-place-end.ensures.sound c.requires.a_range c.requires.b_range c.loop-at.invariant.ascended last in
    let low : c.in-Some.at < length c.loop-at.ended = omega (arith, now.within, c.loop-at.invariant.ascended.ended_many) in
    record {
      ascended = ascended_more (g.R.FlowRule.transport c.args.rule.now) (g.R.FlowRule.rule c.args.rule.now) _ _ _ _ _ _ _ _ c.in-Some.at _ _ _ c.loop-at.invariant.ascended now (c.end_above-end.ensures ∙ now.end) c.judged-cell.ensures.cell c.judged-cell.ensures.over;
      leads = leads_back c.args.drain.now c.loop-at.ended _ _ c.in-Some.at c.loop-at.invariant.leads c.in-Some.ensures.items low;
      found = found_back c.args.drain.now c.loop-at.ended _ _ c.in-Some.at c.loop-place.place c.loop-at.invariant.found c.in-Some.ensures.items low;
      past = λ u h k. ended_kept c.loop-at.ended c.in-Some.at u low (c.loop-at.invariant.past u h k);
    }

pub returns : goal.returns
returns g c = ascended_all (g.R.FlowRule.transport c.args.rule.now) _ _ _ _ _ _ _ _ c.loop-place.invariant.ascended (λ u h k. c.loop-place.invariant.past u (omega (arith, h, c.cell_number-place-end.ensures.value)) k)
