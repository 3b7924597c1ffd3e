use Rattle.std.proofs.Common.{◌≡◌, take}
use Rattle.number_lists.proofs.lists.Lists.turned.Given as goal

abbrev pub invariant-loop-list : goal.invariant-loop-list
invariant-loop-list l = l.turned ≡ take l.list-index l.list-items
