use Rattle.std.proofs.Common.{[], refl, subst, arith}
use Rattle.std.proofs.lemmas.List.{take_all}
use Rattle.map_meaning.specs.Programs.{is_initial, is_last}
use Rattle.script_types.specs.inside.Kept.{Marks, some_operand}
use Rattle.script_types.proofs.KeptLemmas.{marks-none, marks-operation}
use Rattle.script_types.proofs.kept.mark_operations.Goals as goal

pub loop-operation-init : goal.loop-operation-init
loop-operation-init c = record { marks = marks-none c.args.marks.now (λ n. some_operand (is_initial n) []) (λ n. refl); step_marks = marks-none c.args.step_marks.now (λ n. some_operand (is_last n) []) (λ n. refl) }

pub loop-operation-preserved : goal.loop-operation-preserved
loop-operation-preserved c = record {
  marks = marks-operation c.args.marks.now c.loop-operation.marks c.mark_read.new.marks is_initial c.args.operations.now c.loop-operation.operation-index _ (omega arith) c.loop-operation.invariant.marks c.mark_read.ensures.marks;
  step_marks = marks-operation c.args.step_marks.now c.loop-operation.step_marks c.mark_read.new.step_marks is_last c.args.operations.now c.loop-operation.operation-index _ (omega arith) c.loop-operation.invariant.step_marks c.mark_read.ensures.step_marks;
}

pub returns-clause-marks : goal.returns-clause-marks
returns-clause-marks c = subst (λ ops. Marks c.args.marks.now c.loop-operation.marks (λ n. some_operand (is_initial n) ops)) (take_all c.loop-operation.operation-index c.args.operations.now (omega arith)) c.loop-operation.invariant.marks

pub returns-clause-step_marks : goal.returns-clause-step_marks
returns-clause-step_marks c = subst (λ ops. Marks c.args.step_marks.now c.loop-operation.step_marks (λ n. some_operand (is_last n) ops)) (take_all c.loop-operation.operation-index c.args.operations.now (omega arith)) c.loop-operation.invariant.step_marks
