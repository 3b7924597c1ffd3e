use Rattle.std.proofs.Common.{◌∙◌, subst}
use Rattle.std.specs.Prelude.{IfOk}
use Rattle.map_meaning.specs.declared.known.Known.{Known as TheKnown}
use Rattle.map_meaning.specs.declared.program.Program.{Program as TheProgram}
use Rattle.plan_graph.specs.PlanGraphs.{PlanGraphValue}
use Rattle.round_runtime.specs.inside.Jobs.{EachComputed}
use Rattle.round_runtime.proofs.round.compute_jobs.Goals as goal

pub returns-clause-each : goal.returns-clause-each
returns-clause-each g c =
    let j = c.args.jobs.items in let f = g.K.FlowKit.work_of in let b = c.args.board.now in
    subst (λ (p : PlanGraphValue). IfOk c.compute_all.result (λ v. EachComputed f p b.program b.known j v.items)) (c.deref.ensures ∙ c.plan.ensures.value)
    (subst (λ (q : TheProgram). IfOk c.compute_all.result (λ v. EachComputed f c.deref.result.now q b.known j v.items)) (c.deref-2.ensures ∙ c.program.ensures)
    (subst (λ (k : TheKnown). IfOk c.compute_all.result (λ v. EachComputed f c.deref.result.now c.deref-2.result.now k j v.items)) (c.deref-3.ensures ∙ c.known.ensures) c.compute_all.ensures.each))
