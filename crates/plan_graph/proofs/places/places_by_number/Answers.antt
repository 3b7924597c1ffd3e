use Rattle.std.proofs.Common.{arith, ◌∙◌, ◌≤◌, length}
use Rattle.std.proofs.lemmas.List.{take_all}
use Rattle.plan_graph.proofs.PlaceLemmas.{noted_all}
use Rattle.plan_graph.proofs.places.places_by_number.Goals as goal

pub returns : goal.returns
returns c =
    let items = c.deref-places-items.result.now in
    let end : length items ≤ c.loop-places.places-index = omega arith in
    c.loop-places.invariant
    ∙ (take_all c.loop-places.places-index items end
    ∙ (c.deref-places-items.ensures.value
    ∙ noted_all c.args.numbers.now c.args.count c.in_ok-noted.noted.items c.in_ok-noted.ensures))
