use Rattle.std.proofs.Common.{arith, ◌∙◌, ℕ, ◌≤◌, List, ◌++◌, ap, sym}
use Rattle.task_graph.specs.declared.layout.Laid.{Laid}
use Rattle.task_graph.specs.Layouts.{laid_from}
use Rattle.task_graph.proofs.LayLemmas.{steps_more}
use Rattle.task_graph.proofs.lay.lay_steps.Goals as goal

pub loop-step-preserved : goal.loop-step-preserved
loop-step-preserved c =
    let first = c.args.first in
    let step = c.loop-step.step in
    let os = c.args.operations.now in
    let low : first ≤ step = omega arith in
    c.in_ok-lay_step.ensures
    ∙ (ap (λ (ls : List Laid). ls ++ laid_from step 0 os) c.loop-step.invariant
    ∙ sym (steps_more (λ (s : ℕ). laid_from s 0 os) first step low))
