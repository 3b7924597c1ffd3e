use Rattle.std.proofs.Common.{take}
use Rattle.map_meaning.specs.Programs.{is_initial, is_last}
use Rattle.script_types.specs.inside.Kept.{Marks, some_operand}
use Rattle.script_types.proofs.kept.mark_operations.Given as goal

abbrev pub invariant-loop-operation : goal.invariant-loop-operation
invariant-loop-operation l = record {
  marks : Marks l.fn.marks l.marks (λ n. some_operand (is_initial n) (take l.operation-index l.operations));
  step_marks : Marks l.fn.step_marks l.step_marks (λ n. some_operand (is_last n) (take l.operation-index l.operations));
}
