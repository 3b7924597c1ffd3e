use Rattle.std.proofs.Common.{◌≡◌, ◌+◌, length}
use Rattle.std.specs.Vec.Iter.{into_iter_items}
use Rattle.script_types.specs.Typing.{arguments_at}
use Rattle.script_types.proofs.Fronts.{with_front}
use Rattle.script_types.proofs.operands.arguments_at.Given as goal

abbrev pub invariant-loop-operand : goal.invariant-loop-operand
invariant-loop-operand l =
    (goal.iterator-loop-operand).can_next l.operand-iterator ×
    (goal.iterator-loop-operand).is_finite l.operand-iterator ×
    (l.at + length (into_iter_items l.operand-iterator) ≡ length l.fn.operands.items) ×
    (with_front l.arguments.items (arguments_at l.row l.agreed l.at (into_iter_items l.operand-iterator)) ≡ arguments_at l.row l.agreed 0 l.fn.operands.items)
