use Rattle.std.proofs.Common.{◌+◌, ◌∷◌, [], ◌++◌, refl, sym, ◌∙◌, ap, subst, take, arith}
use Rattle.map_meaning.specs.declared.program.OutputUse.{OutputUse}
use Rattle.std.proofs.lemmas.List.{take_all, take_more}
use Rattle.map_meaning.specs.Programs.{is_initial}
use Rattle.script_types.specs.inside.Kept.{Marks, is_now_or_last, some_output}
use Rattle.script_types.proofs.KeptLemmas.{marks-none, marks-push}
use Rattle.script_types.proofs.kept.mark_outputs.Goals as goal

pub loop-output-init : goal.loop-output-init
loop-output-init c = record { marks = marks-none c.args.marks.now (λ n. some_output (is_initial n) []) (λ n. refl); step_marks = marks-none c.args.step_marks.now (λ n. some_output (is_now_or_last n) []) (λ n. refl) }

pub loop-output-preserved : goal.loop-output-preserved
loop-output-preserved c =
    let ops = c.args.outputs.now in
    let at = c.loop-output.output-index in
    let o = c.output-item.result in
    let front = take_more ops at o (omega arith) ∙ ap (λ a. take at ops ++ a ∷ []) (sym c.output-item.is) in
    record {
      marks = marks-push c.args.marks.now c.loop-output.marks c.mark_initial.new.marks (λ n (p : OutputUse). is_initial n p.value) (take at ops) (take (at + 1) ops) o front c.loop-output.invariant.marks c.mark_initial.ensures;
      step_marks = marks-push c.args.step_marks.now c.loop-output.step_marks c.mark_step.new.marks (λ n (p : OutputUse). is_now_or_last n p.value) (take at ops) (take (at + 1) ops) o front c.loop-output.invariant.step_marks c.mark_step.ensures;
    }

pub returns-clause-marks : goal.returns-clause-marks
returns-clause-marks c = subst (λ ops. Marks c.args.marks.now c.loop-output.marks (λ n. some_output (is_initial n) ops)) (take_all c.loop-output.output-index c.args.outputs.now (omega arith)) c.loop-output.invariant.marks

pub returns-clause-step_marks : goal.returns-clause-step_marks
returns-clause-step_marks c = subst (λ ops. Marks c.args.step_marks.now c.loop-output.step_marks (λ n. some_output (is_now_or_last n) ops)) (take_all c.loop-output.output-index c.args.outputs.now (omega arith)) c.loop-output.invariant.step_marks
