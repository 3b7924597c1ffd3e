use Rattle.std.proofs.Common.{arith, refl, get_or}
use Rattle.plan_graph.proofs.PlaceLemmas.{noted_more}
use Rattle.plan_graph.proofs.places.noted.Goals as goal

pub loop-i-preserved : goal.loop-i-preserved
loop-i-preserved c =
    let i = c.loop-i.i in
    let below = c.requires.below i (omega arith) in
    noted_more c.args.numbers.now c.args.count i (get_or c.args.numbers.now i 0) c.loop-i.lists.items c.index_mut-places.result.now c.push.new.self
    c.loop-i.invariant refl below c.index_mut-places.ensures.value c.in_ok-push.ensures.ok
