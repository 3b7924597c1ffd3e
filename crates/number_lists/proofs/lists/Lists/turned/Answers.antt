use Rattle.std.proofs.Common.{arith, ◌∙◌, ◌≤◌, length}
use Rattle.std.proofs.lemmas.List.{take_all}
use Rattle.number_lists.proofs.TurnedLemmas.{turned_lists}
use Rattle.number_lists.proofs.lists.Lists.turned.Goals as goal

pub returns : goal.returns
returns c =
    let items = c.deref-list-items.result.now in
    let end : length items ≤ c.loop-list.list-index = omega arith in
    c.loop-list.invariant
    ∙ (take_all c.loop-list.list-index items end
    ∙ (c.deref-list-items.ensures.value
    ∙ turned_lists c.in_ok-got.got.items c.args.self.now c.args.count c.in_ok-got.ensures.count c.in_ok-got.ensures.each))
