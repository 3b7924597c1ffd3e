use Rattle.std.proofs.Common.{◌≡◌}
use Rattle.std.specs.Vec.Iter.{into_iter_items}
use Rattle.script_types.specs.Typing.{nested_on}
use Rattle.script_types.proofs.operands.nested_on.Given as goal

abbrev pub invariant-loop-tree : goal.invariant-loop-tree
invariant-loop-tree l = nested_on l.op l.kind l.left (into_iter_items l.tree-iterator) ≡ nested_on l.op l.kind l.fn.first (into_iter_items l.fn.rest)
