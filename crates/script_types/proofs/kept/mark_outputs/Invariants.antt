use Rattle.std.proofs.Common.{take}
use Rattle.map_meaning.specs.Programs.{is_initial}
use Rattle.script_types.specs.inside.Kept.{Marks, is_now_or_last, some_output}
use Rattle.script_types.proofs.kept.mark_outputs.Given as goal

abbrev pub invariant-loop-output : goal.invariant-loop-output
invariant-loop-output l = record {
  marks : Marks l.fn.marks l.marks (λ n. some_output (is_initial n) (take l.output-index l.outputs));
  step_marks : Marks l.fn.step_marks l.step_marks (λ n. some_output (is_now_or_last n) (take l.output-index l.outputs));
}
